-- The bits that two strata share, counted in the numbers' binary digits, and whether those of one are among another's. Assumes nothing.
use Rattle.std.proofs.Common.{◌≡◌, ℕ, zero, suc, ◌+◌, ◌*◌, ◌/◌, ◌%◌, ◌^◌, ◌<◌, ◌≤◌, min, Bool, true, false, cond, ◌&&◌, eqb, ◌⊎◌, List, [], ◌∷◌, ◌++◌, length, sym, refl, ap, ◌∙◌, inl, inr, pow-suc, arith, eq-eqb, ne_eqb, eqb-true}
use borrow.Author.Tests.{eqb-false}
use lib.Arith.{lt-one}
use lib.Bits.{bit_and, and_step, and_zero_l}
use lib.Count.{ones_in, ones, ones_step}
use Rattle.mesh.specs.Complex.{mem, sub, keep}
use Rattle.mesh.specs.Feature.{bits_from, bits_of, shared}
use Rattle.mesh.proofs.Laws.Complex.Sets.{split, nope, mem-here, mem-there}
use Rattle.mesh.proofs.Laws.Link.Labels.{bits-from}

-- ---- digit by digit

-- a test that agrees on the members keeps the same
keep-agree : (p q : ℕ → Bool) (l : List ℕ) → ((x : ℕ) → mem x l ≡ true → p x ≡ q x) → keep p l ≡ keep q l
keep-agree p q [] h = refl
keep-agree p q (x ∷ l) h =
    let ih : keep p l ≡ keep q l = keep-agree p q l (λ y m. h y (mem-there y x l m)) in
    rw (h x (mem-here x l)) (elim (split (q x)) [ inl k ↦ rw k (ap (λ (u : List ℕ). x ∷ u) ih) | inr k ↦ rw k ih ])

-- the places behind k do not ask for k
behind : (d k m : ℕ) (rest : List ℕ) (b : Bool) → ((j : ℕ) → mem j rest ≡ true → k + 1 ≤ j) → keep (λ j. mem j (cond b (k ∷ []) [] ++ bits_from d (k + 1) m)) rest ≡ keep (λ j. mem j (bits_from d (k + 1) m)) rest
behind d k m rest false h = refl
behind d k m rest true h = keep-agree (λ j. mem j (k ∷ bits_from d (k + 1) m)) (λ j. mem j (bits_from d (k + 1) m)) rest (λ j i. let g = h j i in rw (ne_eqb j k (λ e. omega arith)) refl)

-- k itself is there by its own digit
here : (d k m : ℕ) (b : Bool) → mem k (cond b (k ∷ []) [] ++ bits_from d (k + 1) m) ≡ b
here d k m true = rw (eq-eqb k k refl) refl
here d k m false = nope (λ i. let g = bits-from d (k + 1) m k i in omega arith)

digit : (m : ℕ) → (m % 2 ≡ 1) ⊎ (m % 2 ≡ 0)
digit m = elim (split (eqb (m % 2) 1)) [ inl e ↦ inl (eqb-true (m % 2) 1 e) | inr e ↦ let n = eqb-false (m % 2) 1 e in inr (omega arith) ]

-- the digits that both numbers have are those of their conjunction
count-both : (d k m n : ℕ) → m < 2 ^ d → length (keep (λ j. mem j (bits_from d k n)) (bits_from d k m)) ≡ ones (bit_and m n)
unfolding bits_from ones ones_in
count-both zero k m n h =
    let z : m ≡ 0 = omega arith in
    rw z (sym (ap ones (and_zero_l n)))
count-both (suc d) k m n h =
    let p = pow-suc 2 d in
    let ih = count-both d (k + 1) (m / 2) (n / 2) (omega arith) in
    let b = behind d k (n / 2) (bits_from d (k + 1) (m / 2)) (eqb (n % 2) 1) (λ j i. bits-from d (k + 1) (m / 2) j i) in
    let t = here d k (n / 2) (eqb (n % 2) 1) in
    let a = and_step m n in
    let o = ones_step (bit_and m n) in
    let q : bit_and m n / 2 ≡ bit_and (m / 2) (n / 2) = omega arith in
    let o' : ones (bit_and m n) ≡ bit_and m n % 2 + ones (bit_and (m / 2) (n / 2)) = o ∙ ap (λ (u : ℕ). bit_and m n % 2 + ones u) q in
    elim (digit m) [
      | inl x ↦ elim (digit n) [
        | inl y ↦ rw (eq-eqb (m % 2) 1 x) (rw t (rw (eq-eqb (n % 2) 1 y) (ap suc (ap length b ∙ ih) ∙ (let r : suc (ones (bit_and (m / 2) (n / 2))) ≡ ones (bit_and m n) = omega arith in r))))
        | inr y ↦ rw (eq-eqb (m % 2) 1 x) (rw t (rw (ne_eqb (n % 2) 1 (λ e. omega arith)) (ap length b ∙ ih ∙ (let r : ones (bit_and (m / 2) (n / 2)) ≡ ones (bit_and m n) = omega arith in r))))
      ]
      | inr x ↦ rw (ne_eqb (m % 2) 1 (λ e. omega arith)) (ap length b ∙ ih ∙ (let r : ones (bit_and (m / 2) (n / 2)) ≡ ones (bit_and m n) = omega arith in r))
    ]

-- ---- whether all are there

-- one bit fewer
pub half_lt : (n x : ℕ) → x < 2 ^ suc n → x / 2 < 2 ^ n
half_lt n x h = omega (arith, pow-suc 2 n)

-- a place before the bits makes no difference to whether they are there
skip : (n k j x : ℕ) (e : List ℕ) → j < k → sub (bits_from n k x) (j ∷ e) ≡ sub (bits_from n k x) e
unfolding bits_from
skip zero k j x e h = refl
skip (suc n) k j x e h =
    let ih = skip n (k + 1) j (x / 2) e (omega arith) in
    elim (split (eqb (x % 2) 1)) [ inl q ↦ rw (q, ne_eqb k j (λ r. omega arith)) (ap (λ (b : Bool). mem k e && b) ih) | inr q ↦ rw q ih ]

-- and is none of them
before : (n k j y : ℕ) → j < k → mem j (bits_from n k y) ≡ false
before n k j y h = nope (λ i. let g = bits-from n k y j i in omega arith)

-- a number with the last bit of x is x where its half is
halved : (a x d : ℕ) → x % 2 ≡ d → eqb a (x / 2) ≡ eqb (a * 2 + d) x
halved a x d h =
    elim (split (eqb a (x / 2))) [
      | inl e ↦ let q = eqb-true a (x / 2) e in e ∙ sym (eq-eqb (a * 2 + d) x (omega arith))
      | inr e ↦ e ∙ sym (ne_eqb (a * 2 + d) x (λ q. eqb-false a (x / 2) e (omega arith)))
    ]

-- the bits from place k on
sub-from : (n k x y : ℕ) → x < 2 ^ n → sub (bits_from n k x) (bits_from n k y) ≡ eqb (bit_and x y) x
unfolding bits_from
sub-from zero k x y h = sym (rw (lt-one h) refl)
sub-from (suc n) k x y h =
    let ih = sub-from n (k + 1) (x / 2) (y / 2) (half_lt n x h) in
    let a = bit_and (x / 2) (y / 2) in
    let done : (d : ℕ) → min (x % 2) (y % 2) ≡ d → x % 2 ≡ d → eqb a (x / 2) ≡ eqb (bit_and x y) x =
    λ d p q. halved a x d q ∙ ap (λ (u : ℕ). eqb u x) (sym (and_step x y ∙ ap (λ (u : ℕ). a * 2 + u) p)) in
    elim (split (eqb (x % 2) 1)) [
      | inl e ↦ let e' = eqb-true (x % 2) 1 e in elim (split (eqb (y % 2) 1)) [
        | inl f ↦ let f' = eqb-true (y % 2) 1 f in rw (e, f, eq-eqb k k refl) (skip n (k + 1) k (x / 2) (bits_from n (k + 1) (y / 2)) (omega arith) ∙ ih ∙ done 1 (omega arith) e')
        | inr f ↦ let f' = eqb-false (y % 2) 1 f in rw (e, f, before n (k + 1) k (y / 2) (omega arith))
            (sym (ne_eqb (bit_and x y) x (λ q. let s = and_step x y in let z : min (x % 2) (y % 2) ≡ 0 = omega arith in omega arith)))
      ]
      | inr e ↦ let e' = eqb-false (x % 2) 1 e in elim (split (eqb (y % 2) 1)) [
        | inl f ↦ rw (e, f) (skip n (k + 1) k (x / 2) (bits_from n (k + 1) (y / 2)) (omega arith) ∙ ih ∙ done 0 (omega arith) (omega arith))
        | inr f ↦ rw (e, f) (ih ∙ done 0 (omega arith) (omega arith))
      ]
    ]

-- ---- strata

pub shared-ones : (m n : ℕ) → m < 274877906944 → length (shared m n) ≡ ones (bit_and m n)
unfolding bits_of
shared-ones m n h = count-both 38 0 m n h

-- the bits of the stratum m are among those of n
pub sub-bits : (m n : ℕ) → m < 274877906944 → sub (bits_of m) (bits_of n) ≡ eqb (bit_and m n) m
unfolding bits_of
sub-bits m n h = sub-from 38 0 m n h
