-- How many elements have a triangle, counted among those with a face and the others, and the three triangles at a vertex of an element.
-- Assumes nothing.
use mathlib.Core.Path.{◌≡◌, refl, sym, ap₂}
use mathlib.Core.Logic.{inl, inr}
use mathlib.Core.Bool.{Bool, true, false, not, ◌&&◌, ◌||◌}
use mathlib.Core.List.{List, [], ◌∷◌, ◌++◌}
use Prim.Native.Nat.{ℕ, ◌+◌, ◌≤◌}
use native.Mathlib.Omega.{arith}
use borrow.Author.Tests.{ne_eqb}
use lib.Dec.{eqb}
use lib.ListN.{length}
use Rattle.mesh.specs.Complex.{mem, sub, within, keep, Nodup, Sub}
use Rattle.mesh.specs.inside.Complex.{star}
use Rattle.mesh.specs.Tests.{every}
use Rattle.mesh.proofs.Laws.Complex.Sets.{split, clash, out-head, out-tail, apart, sub-elim, sub-intro, within-elim, short}
use Rattle.mesh.proofs.Laws.Complex.Lists.{keep-pos}
use Rattle.mesh.proofs.Laws.Complex.Sums.{bit}
use Rattle.mesh.proofs.Laws.Link.Simplices.{every-mem}
use Rattle.mesh.proofs.Laws.Link.Closed.{AtMostTwo}
use Rattle.mesh.proofs.Laws.Numbers.{eqb_same}

-- the same vertices
abbrev pub Alike : List ℕ → List ℕ → Type 0
Alike e f = (x : ℕ) → mem x e ≡ mem x f

pub sub_alike : (τ e f : List ℕ) → Alike e f → sub τ e ≡ sub τ f
sub_alike [] e f h = refl
sub_alike (x ∷ τ) e f h = ap₂ ◌&&◌ (h x) (sub_alike τ e f h)

-- the elements without σ
abbrev pub others : List ℕ → List (List ℕ) → List (List ℕ)
others σ es = keep (λ e. not (sub σ e)) es

-- ---- counting

pub star-cons : (τ e : List ℕ) (es : List (List ℕ)) → star τ (e ∷ es) ≡ bit (sub τ e) + star τ es
unfolding star
star-cons τ e es = elim (split (sub τ e)) [ inl h ↦ rw h (omega arith) | inr h ↦ rw h (omega arith) ]

pub star-append : (τ : List ℕ) (es fs : List (List ℕ)) → star τ (es ++ fs) ≡ star τ es + star τ fs
star-append τ [] fs = nil
  where
    nil : star τ fs ≡ star τ [] + star τ fs
    nil = unfold star in omega arith
star-append τ (e ∷ es) fs = omega (arith, star-append τ es fs, star-cons τ e es, star-cons τ e (es ++ fs))

-- how many elements have both τ and σ
unfoldable pub both : List ℕ → List ℕ → List (List ℕ) → ℕ
both τ σ es = length (keep (λ e. sub τ e && sub σ e) es)

pub star-split : (τ σ : List ℕ) (es : List (List ℕ)) → star τ es ≡ both τ σ es + star τ (others σ es)
unfolding star both
star-split τ σ [] = refl
star-split τ σ (e ∷ es) =
    let r = star-split τ σ es in
    elim (split (sub σ e)) [
      | inl k ↦ elim (split (sub τ e)) [ inl h ↦ rw (k, h) (omega arith) | inr h ↦ rw (k, h) (omega arith) ]
      | inr k ↦ elim (split (sub τ e)) [ inl h ↦ rw (k, h) (omega arith) | inr h ↦ rw (k, h) (omega arith) ]
    ]

-- an element with all of f has τ and σ, where f has
pub both_some : (τ σ f : List ℕ) (es : List (List ℕ)) → within f es ≡ true → Sub τ f → Sub σ f → 1 ≤ both τ σ es
unfolding both
both_some τ σ f es h s t =
    let r = within-elim f es h in
    keep-pos (λ e. sub τ e && sub σ e) r.0 es r.1
    (rw (sub-intro τ r.0 (λ x m. r.2 x (s x m)), sub-intro σ r.0 (λ x m. r.2 x (t x m))) refl)

pub star-none : (τ : List ℕ) (es : List (List ℕ)) → within τ es ≡ false → star τ es ≡ 0
unfolding star
star-none τ [] h = refl
star-none τ (e ∷ es) h =
    elim (split (sub τ e)) [
      | inl k ↦ absurd (clash (rw k refl) h)
      | inr k ↦ rw k (star-none τ es (rw k at h))
    ]

-- ---- sets of three

module _ (τ : List ℕ) where
  -- in l and in m: in k, where every vertex of both is
  pub meet : (l m k : List ℕ) → every (λ y. not (mem y m) || mem y k) l ≡ true → Sub τ l → Sub τ m → Sub τ k
  meet l m k h s t x i = let r = every-mem (λ y. not (mem y m) || mem y k) l h x (s x i) in rw (t x i) at r

  -- in l and without z: in k, where every vertex of l but z is
  pub lose : (z : ℕ) (l k : List ℕ) → mem z τ ≡ false → every (λ y. eqb y z || mem y k) l ≡ true → Sub τ l → Sub τ k
  lose z l k o h s x i = let r = every-mem (λ y. eqb y z || mem y k) l h x (s x i) in rw (ne_eqb x z (apart x z τ i o)) at r

  -- three do not lie in two
  pub narrow : length τ ≡ 3 → Nodup τ → (x y : ℕ) → Sub τ (x ∷ y ∷ []) → ⊥
  narrow l d x y s = let r = short τ (x ∷ y ∷ []) d s in omega arith

-- ---- sums of tests

pub sum-three : (p q r : Bool) → (p ≡ true → q ≡ true → r ≡ true → ⊥) → bit p + (bit q + (bit r + 0)) ≤ 2
sum-three true true true h = absurd (h refl refl refl)
sum-three true true false h = omega arith
sum-three true false true h = omega arith
sum-three true false false h = omega arith
sum-three false true true h = omega arith
sum-three false true false h = omega arith
sum-three false false true h = omega arith
sum-three false false false h = omega arith

pub sum_one : (B S : ℕ) (p q r : Bool) → (p ≡ true → q ≡ true → ⊥) → (p ≡ true → r ≡ true → ⊥) → (q ≡ true → r ≡ true → ⊥)
    → (p ≡ true → 1 ≤ B) → (q ≡ true → 1 ≤ B) → (r ≡ true → 1 ≤ B) → B + S ≤ 2 → S + (bit p + (bit q + (bit r + 0))) ≤ 2
sum_one B S true true r pq pr qr p q s h = absurd (pq refl refl)
sum_one B S true false true pq pr qr p q s h = absurd (pr refl refl)
sum_one B S true false false pq pr qr p q s h = let k = p refl in omega arith
sum_one B S false true true pq pr qr p q s h = absurd (qr refl refl)
sum_one B S false true false pq pr qr p q s h = let k = q refl in omega arith
sum_one B S false false true pq pr qr p q s h = let k = s refl in omega arith
sum_one B S false false false pq pr qr p q s h = omega arith

-- ---- four vertices, and the triangles at the first

module _ (c i j k : ℕ) (four : Nodup (c ∷ i ∷ j ∷ k ∷ [])) where
  c-i : eqb c i ≡ false
  c-i = ne_eqb c i (out-head c i (j ∷ k ∷ []) four.0)

  i-c : eqb i c ≡ false
  i-c = ne_eqb i c (λ q. out-head c i (j ∷ k ∷ []) four.0 (sym q))

  c-j : eqb c j ≡ false
  c-j = ne_eqb c j (out-head c j (k ∷ []) (out-tail c i (j ∷ k ∷ []) four.0))

  j-c : eqb j c ≡ false
  j-c = ne_eqb j c (λ q. out-head c j (k ∷ []) (out-tail c i (j ∷ k ∷ []) four.0) (sym q))

  c-k : eqb c k ≡ false
  c-k = ne_eqb c k (out-head c k [] (out-tail c j (k ∷ []) (out-tail c i (j ∷ k ∷ []) four.0)))

  k-c : eqb k c ≡ false
  k-c = ne_eqb k c (λ q. out-head c k [] (out-tail c j (k ∷ []) (out-tail c i (j ∷ k ∷ []) four.0)) (sym q))

  i-j : eqb i j ≡ false
  i-j = ne_eqb i j (out-head i j (k ∷ []) four.1.0)

  j-i : eqb j i ≡ false
  j-i = ne_eqb j i (λ q. out-head i j (k ∷ []) four.1.0 (sym q))

  i-k : eqb i k ≡ false
  i-k = ne_eqb i k (out-head i k [] (out-tail i j (k ∷ []) four.1.0))

  k-i : eqb k i ≡ false
  k-i = ne_eqb k i (λ q. out-head i k [] (out-tail i j (k ∷ []) four.1.0) (sym q))

  j-k : eqb j k ≡ false
  j-k = ne_eqb j k (out-head j k [] four.1.1.0)

  k-j : eqb k j ≡ false
  k-j = ne_eqb k j (λ q. out-head j k [] four.1.1.0 (sym q))

  ruleset known₄ = (eqb_same, c-i, i-c, c-j, j-c, c-k, k-c, i-j, j-i, i-k, k-i, j-k, k-j)

  module _ (τ : List ℕ) (l : length τ ≡ 3) (d : Nodup τ) where
    not-ij-jk : Sub τ (c ∷ i ∷ j ∷ []) → Sub τ (c ∷ j ∷ k ∷ []) → ⊥
    not-ij-jk s t = narrow τ l d c j (meet τ (c ∷ i ∷ j ∷ []) (c ∷ j ∷ k ∷ []) (c ∷ j ∷ []) (simp known₄) s t)

    not-ij-ki : Sub τ (c ∷ i ∷ j ∷ []) → Sub τ (c ∷ k ∷ i ∷ []) → ⊥
    not-ij-ki s t = narrow τ l d c i (meet τ (c ∷ i ∷ j ∷ []) (c ∷ k ∷ i ∷ []) (c ∷ i ∷ []) (simp known₄) s t)

    not-jk-ki : Sub τ (c ∷ j ∷ k ∷ []) → Sub τ (c ∷ k ∷ i ∷ []) → ⊥
    not-jk-ki s t = narrow τ l d c k (meet τ (c ∷ j ∷ k ∷ []) (c ∷ k ∷ i ∷ []) (c ∷ k ∷ []) (simp known₄) s t)

    -- of the three triangles τ is one at most, and then an element with i j k and c has it
    pub side : (es : List (List ℕ)) → within (i ∷ j ∷ k ∷ c ∷ []) es ≡ true → AtMostTwo es → (p q r : Bool)
        → (p ≡ true → Sub τ (c ∷ i ∷ j ∷ [])) → (q ≡ true → Sub τ (c ∷ j ∷ k ∷ [])) → (r ≡ true → Sub τ (c ∷ k ∷ i ∷ []))
        → star τ (others (i ∷ j ∷ k ∷ []) es) + (bit p + (bit q + (bit r + 0))) ≤ 2
    side es h thin p q r hp hq hr =
        sum_one (both τ (i ∷ j ∷ k ∷ []) es) (star τ (others (i ∷ j ∷ k ∷ []) es)) p q r
        (λ x y. not-ij-jk (hp x) (hq y)) (λ x y. not-ij-ki (hp x) (hr y)) (λ x y. not-jk-ki (hq x) (hr y))
        (λ x. some (c ∷ i ∷ j ∷ []) (simp known₄) (hp x)) (λ x. some (c ∷ j ∷ k ∷ []) (simp known₄) (hq x)) (λ x. some (c ∷ k ∷ i ∷ []) (simp known₄) (hr x))
        (let t = thin τ l d in omega (arith, star-split τ (i ∷ j ∷ k ∷ []) es))
      where
        some : (f : List ℕ) → sub f (i ∷ j ∷ k ∷ c ∷ []) ≡ true → Sub τ f → 1 ≤ both τ (i ∷ j ∷ k ∷ []) es
        some f n s =
            both_some τ (i ∷ j ∷ k ∷ []) (i ∷ j ∷ k ∷ c ∷ []) es h (λ x m. sub-elim f (i ∷ j ∷ k ∷ c ∷ []) n x (s x m))
            (sub-elim (i ∷ j ∷ k ∷ []) (i ∷ j ∷ k ∷ c ∷ []) (simp known₄))
