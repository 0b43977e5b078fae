-- Ranks as words: rows of six words stand as the ranks do, and are the same where the ranks are. Assumes nothing.
use Rattle.std.proofs.Common.{◌≡◌, ℕ, ◌/◌, ◌%◌, ◌^◌, ◌<◌, ◌≤◌, Bool, true, false, cond, ◌&&◌, eqb, ltb, leb, List, [], ◌∷◌, refl, ap, ◌∙◌, inl, inr, arith, ltb-false, ltb-true, le-ltb, lt-ltb, eq-eqb, ne_eqb, eqb-true, le-leb}
use mathlib.Core.Bool.{and-true}
use borrow.Author.Tests.{eqb-false, lt-leb}
use Rattle.geometry.specs.declared.bounds.Ranks.{Ranks}
use Rattle.mesh.specs.inside.Rows.{le_row, eq_row}
use Rattle.mesh.specs.Group.{same_ranks, le_ranks}
use Rattle.mesh.proofs.Laws.Bools.{split}
use Rattle.mesh.specs.inside.Group.{rank_words}

-- ---- one number as two words

pub le-two : (x y : ℕ) (a b : List ℕ) → le_row (x / 2 ^ 32 ∷ x % 2 ^ 32 ∷ a) (y / 2 ^ 32 ∷ y % 2 ^ 32 ∷ b) ≡ cond (ltb x y) true (cond (ltb y x) false (le_row a b))
unfolding le_row
le-two x y a b =
    elim (split (ltb x y)) [
      | inl e ↦ (let h = ltb-true x y e in rw e (under h))
      | inr e ↦ elim (split (ltb y x)) [
        | inl f ↦ (let h = ltb-true y x f in rw (e, f) (over h))
        | inr f ↦ (let h = ltb-false x y e in let k = ltb-false y x f in rw (e, f) (level h k))
      ]
    ]
  where
    under : x < y → le_row (x / 2 ^ 32 ∷ x % 2 ^ 32 ∷ a) (y / 2 ^ 32 ∷ y % 2 ^ 32 ∷ b) ≡ true
    under h =
        elim (split (ltb (x / 2 ^ 32) (y / 2 ^ 32))) [
          | inl e ↦ simp e
          | inr e ↦ (let k = ltb-false (x / 2 ^ 32) (y / 2 ^ 32) e in simp (e, le-ltb (y / 2 ^ 32) (x / 2 ^ 32) (omega arith), lt-ltb (x % 2 ^ 32) (y % 2 ^ 32) (omega arith)))
        ]

    over : y < x → le_row (x / 2 ^ 32 ∷ x % 2 ^ 32 ∷ a) (y / 2 ^ 32 ∷ y % 2 ^ 32 ∷ b) ≡ false
    over h =
        elim (split (ltb (y / 2 ^ 32) (x / 2 ^ 32))) [
          | inl e ↦ (let k = ltb-true (y / 2 ^ 32) (x / 2 ^ 32) e in simp (e, le-ltb (x / 2 ^ 32) (y / 2 ^ 32) (omega arith)))
          | inr e ↦ (let k = ltb-false (y / 2 ^ 32) (x / 2 ^ 32) e in simp (e, le-ltb (x / 2 ^ 32) (y / 2 ^ 32) (omega arith), le-ltb (x % 2 ^ 32) (y % 2 ^ 32) (omega arith), lt-ltb (y % 2 ^ 32) (x % 2 ^ 32) (omega arith)))
        ]

    level : y ≤ x → x ≤ y → le_row (x / 2 ^ 32 ∷ x % 2 ^ 32 ∷ a) (y / 2 ^ 32 ∷ y % 2 ^ 32 ∷ b) ≡ le_row a b
    level h k = simp (le-ltb (x / 2 ^ 32) (y / 2 ^ 32) (omega arith), le-ltb (y / 2 ^ 32) (x / 2 ^ 32) (omega arith), le-ltb (x % 2 ^ 32) (y % 2 ^ 32) (omega arith), le-ltb (y % 2 ^ 32) (x % 2 ^ 32) (omega arith))

pub eq-two : (x y : ℕ) (a b : List ℕ) → eq_row (x / 2 ^ 32 ∷ x % 2 ^ 32 ∷ a) (y / 2 ^ 32 ∷ y % 2 ^ 32 ∷ b) ≡ (eqb x y && eq_row a b)
unfolding eq_row
eq-two x y a b =
    elim (split (eqb x y)) [
      | inl e ↦ (let h = eqb-true x y e in rw (e, eq-eqb (x / 2 ^ 32) (y / 2 ^ 32) (omega arith), eq-eqb (x % 2 ^ 32) (y % 2 ^ 32) (omega arith)) refl)
      | inr e ↦ elim (split (eqb (x / 2 ^ 32) (y / 2 ^ 32))) [
        | inl f ↦ (let g = eqb-true (x / 2 ^ 32) (y / 2 ^ 32) f in rw (e, f, ne_eqb (x % 2 ^ 32) (y % 2 ^ 32) (λ q. eqb-false x y e (same g q))) refl)
        | inr f ↦ rw (e, f) refl
      ]
    ]
  where
    same : x / 2 ^ 32 ≡ y / 2 ^ 32 → x % 2 ^ 32 ≡ y % 2 ^ 32 → x ≡ y
    same p q = omega arith

-- ---- ranks

pub last-le : (x y : ℕ) → cond (ltb x y) true (cond (ltb y x) false true) ≡ leb x y
last-le x y =
    elim (split (ltb x y)) [
      | inl e ↦ (let h = ltb-true x y e in rw (e, le-leb x y (omega arith)) refl)
      | inr e ↦ elim (split (ltb y x)) [
        | inl f ↦ (let h = ltb-true y x f in rw (e, f, lt-leb x y h) refl)
        | inr f ↦ (let h = ltb-false x y e in let k = ltb-false y x f in rw (e, f, le-leb x y (omega arith)) refl)
      ]
    ]

pub le-ranks : (r s : Ranks) → le_row (rank_words r) (rank_words s) ≡ le_ranks r s
unfolding le_row le_ranks
le-ranks r s =
    le-two r.x s.x (r.y / 2 ^ 32 ∷ r.y % 2 ^ 32 ∷ r.z / 2 ^ 32 ∷ r.z % 2 ^ 32 ∷ []) (s.y / 2 ^ 32 ∷ s.y % 2 ^ 32 ∷ s.z / 2 ^ 32 ∷ s.z % 2 ^ 32 ∷ [])
    ∙ ap (λ (b : Bool). cond (ltb r.x s.x) true (cond (ltb s.x r.x) false b))
    (le-two r.y s.y (r.z / 2 ^ 32 ∷ r.z % 2 ^ 32 ∷ []) (s.z / 2 ^ 32 ∷ s.z % 2 ^ 32 ∷ [])
    ∙ ap (λ (b : Bool). cond (ltb r.y s.y) true (cond (ltb s.y r.y) false b)) (le-two r.z s.z [] [] ∙ last-le r.z s.z))

pub eq-ranks : (r s : Ranks) → eq_row (rank_words r) (rank_words s) ≡ same_ranks r s
unfolding eq_row
eq-ranks r s =
    eq-two r.x s.x (r.y / 2 ^ 32 ∷ r.y % 2 ^ 32 ∷ r.z / 2 ^ 32 ∷ r.z % 2 ^ 32 ∷ []) (s.y / 2 ^ 32 ∷ s.y % 2 ^ 32 ∷ s.z / 2 ^ 32 ∷ s.z % 2 ^ 32 ∷ [])
    ∙ ap (λ (b : Bool). eqb r.x s.x && b)
    (eq-two r.y s.y (r.z / 2 ^ 32 ∷ r.z % 2 ^ 32 ∷ []) (s.z / 2 ^ 32 ∷ s.z % 2 ^ 32 ∷ [])
    ∙ ap (λ (b : Bool). eqb r.y s.y && b) (eq-two r.z s.z [] [] ∙ and-true (eqb r.z s.z)))
