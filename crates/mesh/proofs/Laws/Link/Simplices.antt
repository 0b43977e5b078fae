-- Simplices as lists of vertices in rising order: there is one such list for each set, sorting gives it, and `choose` lists those
-- within a rising list. Assumes nothing.
use Rattle.std.proofs.Common.{◌≡◌, ℕ, zero, suc, ◌<◌, ◌≤◌, Bool, true, false, ◌&&◌, ◌||◌, eqb, ltb, leb, ◌≢◌, List, [], ◌∷◌, ◌++◌, map, length, sym, refl, ap, ◌∙◌, subst, ap₂, inl, inr, arith, ltb-true, lt-ltb, eqb-true, leb-false, leb-true, eq-eqb}
use mathlib.Core.List.Memᴰ
use mathlib.Core.List.{Memᴰ}
use borrow.Author.Tests.{eqb-false}
use Rattle.mesh.specs.Complex.{mem, choose, Nodup, Sub}
use Rattle.mesh.specs.Tests.{every}
use Rattle.mesh.specs.Sort.{insert, sort}
use Rattle.mesh.specs.Link.{subsets}
use Rattle.mesh.proofs.Laws.Complex.Sets.{split, nope, and-fst, and-snd, mem-here, mem-there, mem-cases, mem-nil, out-head, out-tail, or_left}
use Rattle.mesh.proofs.Laws.Bools.{or_swap}

-- each vertex below those behind it
abbrev pub rising : List ℕ → Bool
rising [] = true
rising (x ∷ xs) = every (ltb x) xs && rising xs

-- a test of all vertices of a list
pub every-mem : (p : ℕ → Bool) (xs : List ℕ) → every p xs ≡ true → (x : ℕ) → mem x xs ≡ true → p x ≡ true
every-mem p [] h x m = absurd (mem-nil x m)
every-mem p (y ∷ xs) h x m =
    elim (mem-cases x y xs m) [ inl q ↦ rw q (and-fst (p y) (every p xs) h) | inr q ↦ every-mem p xs (and-snd (p y) (every p xs) h) x q ]

pub mem-every : (p : ℕ → Bool) (xs : List ℕ) → ((x : ℕ) → mem x xs ≡ true → p x ≡ true) → every p xs ≡ true
mem-every p [] h = refl
mem-every p (y ∷ xs) h = rw (h y (mem-here y xs)) (mem-every p xs (λ x m. h x (mem-there x y xs m)))

-- ---- one rising list for each set

pub rising-head : (x : ℕ) (xs : List ℕ) → rising (x ∷ xs) ≡ true → (y : ℕ) → mem y xs ≡ true → x < y
rising-head x xs h y m = ltb-true x y (every-mem (ltb x) xs (and-fst (every (ltb x) xs) (rising xs) h) y m)

pub rising-tail : (x : ℕ) (xs : List ℕ) → rising (x ∷ xs) ≡ true → rising xs ≡ true
rising-tail x xs h = and-snd (every (ltb x) xs) (rising xs) h

pub rising-cons : (x : ℕ) (xs : List ℕ) → ((y : ℕ) → mem y xs ≡ true → x < y) → rising xs ≡ true → rising (x ∷ xs) ≡ true
rising-cons x xs f h = rw (mem-every (ltb x) xs (λ y m. lt-ltb x y (f y m))) h

pub rising-nodup : (σ : List ℕ) → rising σ ≡ true → Nodup σ
rising-nodup [] h = tt
rising-nodup (x ∷ σ) h = (nope (λ m. let r = rising-head x σ h x m in omega arith), rising-nodup σ (rising-tail x σ h))

-- of two rising lists with the same vertices, the heads and the tails are the same
rising-least : (x y : ℕ) (σ τ : List ℕ) → rising (y ∷ τ) ≡ true → Sub (x ∷ σ) (y ∷ τ) → y ≤ x
rising-least x y σ τ k s = elim (mem-cases x y τ (s x (mem-here x σ))) [ inl q ↦ omega arith | inr q ↦ let r = rising-head y τ k x q in omega arith ]

rising-rest : (x y : ℕ) (σ τ : List ℕ) → x ≡ y → rising (x ∷ σ) ≡ true → Sub (x ∷ σ) (y ∷ τ) → Sub σ τ
rising-rest x y σ τ e h s z m =
    elim (mem-cases z y τ (s z (mem-there z x σ m))) [ inl q ↦ absurd (let r = rising-head x σ h z m in omega arith) | inr q ↦ q ]

pub rising-unique : (σ τ : List ℕ) → rising σ ≡ true → rising τ ≡ true → Sub σ τ → Sub τ σ → σ ≡ τ
rising-unique [] [] h k s t = refl
rising-unique [] (y ∷ τ) h k s t = absurd (mem-nil y (t y (mem-here y τ)))
rising-unique (x ∷ σ) [] h k s t = absurd (mem-nil x (s x (mem-here x σ)))
rising-unique (x ∷ σ) (y ∷ τ) h k s t =
    let e : x ≡ y = omega (arith, rising-least x y σ τ k s, rising-least y x τ σ h t) in
    ap₂ ◌∷◌ e (rising-unique σ τ (rising-tail x σ h) (rising-tail y τ k) (rising-rest x y σ τ e h s) (rising-rest y x τ σ (sym e) k t))

-- ---- sorting gives it

pub insert-mem : (z x : ℕ) (l : List ℕ) → mem z (insert leb x l) ≡ mem z (x ∷ l)
unfolding insert
insert-mem z x [] = refl
insert-mem z x (y ∷ l) = elim (split (leb x y)) [ inl h ↦ rw h refl | inr h ↦ rw h (ap (λ b. eqb z y || b) (insert-mem z x l) ∙ or_swap (eqb z y) (eqb z x) (mem z l)) ]

pub sort-mem : (z : ℕ) (l : List ℕ) → mem z (sort leb l) ≡ mem z l
unfolding sort
sort-mem z [] = refl
sort-mem z (x ∷ l) = insert-mem z x (sort leb l) ∙ ap (λ b. eqb z x || b) (sort-mem z l)

insert-rising : (x : ℕ) (l : List ℕ) → mem x l ≡ false → rising l ≡ true → rising (insert leb x l) ≡ true
unfolding insert
insert-rising x [] o h = refl
insert-rising x (y ∷ l) o h =
    let n = out-head x y l o in
    elim (split (leb x y)) [
      | inl k ↦ rw k
          (rising-cons x (y ∷ l)
          (λ z m. let q = leb-true x y k in
          elim (mem-cases z y l m) [ inl e ↦ omega arith | inr i ↦ let r = rising-head y l h z i in omega arith ])
          h)
      | inr k ↦ rw k
          (rising-cons y (insert leb x l)
          (λ z m. elim (mem-cases z x l (sym (insert-mem z x l) ∙ m)) [ inl e ↦ let q = leb-false x y k in omega arith | inr i ↦ rising-head y l h z i ])
          (insert-rising x l (out-tail x y l o) (rising-tail y l h)))
    ]

pub sort-rising : (l : List ℕ) → Nodup l → rising (sort leb l) ≡ true
unfolding sort
sort-rising [] d = refl
sort-rising (x ∷ l) d = insert-rising x (sort leb l) (sort-mem x l ∙ d.0) (sort-rising l d.1)

-- ---- `choose` lists the rising lists of k of the vertices

pub chosen-elim : (k : ℕ) (vs : List ℕ) {σ : List ℕ} → rising vs ≡ true → Memᴰ σ (choose k vs) → (length σ ≡ k) × (rising σ ≡ true) × Sub σ vs
chosen-elim zero vs {σ} h m = subst (λ s. (length s ≡ 0) × (rising s ≡ true) × Sub s vs) (sym (Memᴰ.eq_of_singleton m)) (refl, refl, λ x i. absurd (mem-nil x i))
chosen-elim (suc k) [] h m = absurd (Memᴰ.not-nil m)
chosen-elim (suc k) (v ∷ vs) {σ} h m =
    elim (Memᴰ.append_cases (choose (suc k) vs) m) [
      | inl i ↦ let r = chosen-elim (suc k) vs (rising-tail v vs h) i in (r.0, r.1, λ x q. mem-there x v vs (r.2 x q))
      | inr i ↦
          let c = Memᴰ.of_map (λ s. v ∷ s) (choose k vs) i in
          let r = chosen-elim k vs (rising-tail v vs h) c.1 in
          subst (λ s. (length s ≡ suc k) × (rising s ≡ true) × Sub s (v ∷ vs)) c.2 (
            ap suc r.0,
            rising-cons v c.0 (λ y q. rising-head v vs h y (r.2 y q)) r.1,
            λ x q. elim (mem-cases x v c.0 q) [ inl e ↦ or_left (mem x vs) (eq-eqb x v e) | inr j ↦ mem-there x v vs (r.2 x j) ],
          )
    ]

pub chosen-intro : (k : ℕ) (vs σ : List ℕ) → rising vs ≡ true → length σ ≡ k → rising σ ≡ true → Sub σ vs → Memᴰ σ (choose k vs)
chosen-intro zero vs [] h l r s = Memᴰ.head refl
chosen-intro zero vs (x ∷ σ) h l r s = absurd (omega arith)
chosen-intro (suc k) [] [] h l r s = absurd (omega arith)
chosen-intro (suc k) [] (x ∷ σ) h l r s = absurd (mem-nil x (s x (mem-here x σ)))
chosen-intro (suc k) (v ∷ vs) [] h l r s = absurd (omega arith)
chosen-intro (suc k) (v ∷ vs) (x ∷ σ) h l r s =
    elim (split (eqb x v)) [
      | inl e ↦
          Memᴰ.append_right (choose (suc k) vs)
          (Memᴰ.cast (ap (λ u. u ∷ σ) (eqb-true x v e))
          (Memᴰ.map (λ u. v ∷ u) (chosen-intro k vs σ (rising-tail v vs h) (omega arith) (rising-tail x σ r) (rising-rest x v σ vs (eqb-true x v e) r s))))
      | inr e ↦ Memᴰ.append_left (map (λ u. v ∷ u) (choose k vs)) (chosen-intro (suc k) vs (x ∷ σ) (rising-tail v vs h) l r (beyond (eqb-false x v e)))
    ]
  where
    beyond : x ≢ v → Sub (x ∷ σ) vs
    beyond n z m =
        let x∈vs : mem x vs ≡ true = elim (mem-cases x v vs (s x (mem-here x σ))) [ inl q ↦ absurd (n q) | inr q ↦ q ] in
        elim (mem-cases z x σ m) [
          | inl e ↦ rw e x∈vs
          | inr i ↦ elim (mem-cases z v vs (s z m)) [
            | inl q ↦ absurd (let a = rising-head v vs h x x∈vs in let b = rising-head x σ r z i in omega arith)
            | inr q ↦ q
          ]
        ]

-- the sets of one, two or three
pub subset-elim : (vs : List ℕ) {σ : List ℕ} → rising vs ≡ true → Memᴰ σ (subsets vs) → (1 ≤ length σ) × (length σ ≤ 3) × (rising σ ≡ true) × Sub σ vs
subset-elim vs {σ} h m =
    elim (Memᴰ.append_cases (choose 1 vs) m) [
      | inl i ↦ sized 1 (omega arith) (omega arith) (chosen-elim 1 vs h i)
      | inr i ↦ elim (Memᴰ.append_cases (choose 2 vs) i) [
        | inl j ↦ sized 2 (omega arith) (omega arith) (chosen-elim 2 vs h j)
        | inr j ↦ sized 3 (omega arith) (omega arith) (chosen-elim 3 vs h j)
      ]
    ]
  where
    sized : (k : ℕ) → 1 ≤ k → k ≤ 3 → (length σ ≡ k) × (rising σ ≡ true) × Sub σ vs → (1 ≤ length σ) × (length σ ≤ 3) × (rising σ ≡ true) × Sub σ vs
    sized k p q r = (omega arith, omega arith, r.1, r.2)

pub subset-intro : (vs σ : List ℕ) → rising vs ≡ true → 1 ≤ length σ → length σ ≤ 3 → rising σ ≡ true → Sub σ vs → Memᴰ σ (subsets vs)
subset-intro vs σ h p q r s =
    elim (split (eqb (length σ) 1)) [
      | inl e ↦ Memᴰ.append_left (choose 2 vs ++ choose 3 vs) (chosen-intro 1 vs σ h (eqb-true (length σ) 1 e) r s)
      | inr e ↦ Memᴰ.append_right (choose 1 vs) (elim (split (eqb (length σ) 2)) [
        | inl f ↦ Memᴰ.append_left (choose 3 vs) (chosen-intro 2 vs σ h (eqb-true (length σ) 2 f) r s)
        | inr f ↦ Memᴰ.append_right (choose 2 vs) (chosen-intro 3 vs σ h (let e' = eqb-false (length σ) 1 e in let f' = eqb-false (length σ) 2 f in omega arith) r s)
      ])
    ]
