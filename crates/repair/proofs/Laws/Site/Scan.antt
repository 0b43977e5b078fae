-- Loops over the vertices of a group and over the elements about it: what is left from here on is the whole. Assumes nothing.
use mathlib.Core.Path.{◌≡◌, refl, sym, ap, ap₂, ◌∙◌}
use mathlib.Core.Bool.{Bool, true, false, ◌&&◌, and-false}
use mathlib.Core.List.{List, [], ◌∷◌, map}
use Prim.Native.Nat.{ℕ, suc, ◌+◌, ◌-◌, ◌≤◌, ◌<◌}
use native.Mathlib.Omega.{arith}
use borrow.Author.Tests.{eq-eqb, ne_eqb}
use lib.Ieee.{Float, lt}
use Rattle.geometry.specs.declared.point.Point.{Point}
use Rattle.geometry.specs.Float.{smaller, one64}
use Rattle.geometry.specs.Score.{lowest_from, lowest}
use Rattle.geometry.proofs.Laws.Float.Order.{not-below-smaller}
use Rattle.mesh.specs.Words.{word_at}
use Rattle.mesh.specs.Complex.{mem}
use Rattle.mesh.specs.Tests.{every}
use Rattle.mesh.specs.inside.Intake.{tet_at}
use Rattle.mesh.specs.Measure.{measure, score_of, lowest_of}
use Rattle.repair.specs.inside.smooth.Site.{members, about}

-- ---- vertices of a group

module _ (w : List ℕ) (i left v : ℕ) (h : 0 < left) where
  -- v is the next one
  pub member-found : v ≡ word_at w i → mem v (members w i left) ≡ true
  unfolding members
  member-found e =
      let k : left ≡ suc (left - 1) = omega arith in
      ap (λ (n : ℕ). mem v (members w i n)) k ∙ rw (eq-eqb v (word_at w i) e)

  -- v is not the next one
  pub member-turn : (v ≡ word_at w i → ⊥) → mem v (members w (i + 7) (left - 1)) ≡ mem v (members w i left)
  unfolding members
  member-turn e =
      let k : left ≡ suc (left - 1) = omega arith in
      sym (ap (λ (n : ℕ). mem v (members w i n)) k ∙ rw (ne_eqb v (word_at w i) e))

-- none is left
pub member-end : (w : List ℕ) (i left v : ℕ) → left ≤ 0 → mem v (members w i left) ≡ false
unfolding members
member-end w i left v h = let k : left ≡ 0 = omega arith in rw k

-- ---- elements about a group

-- where x is not below low, it is not below the lowest of low and the scores
not-below-lowest : (x low : Float) (scores : List Float) → lt x low ≡ false → lt x (lowest_from low scores) ≡ false
unfolding lowest_from
not-below-lowest x low [] h = h
not-below-lowest x low (s ∷ scores) h = not-below-lowest x (smaller low s) scores (not-below-smaller x low s h)

module _ (els w : List ℕ) (ps : List Point) where
  -- the lowest of low and the scores of the elements left
  abbrev pub low_left : ℕ → ℕ → Float → Float
  low_left i left low = lowest_from low (map (score_of ps) (about els w i left))

  -- whether all determinants left are above 0
  abbrev pub above_left : ℕ → ℕ → Bool
  above_left i left = every (measure ps).above (about els w i left)

  pub low-start : (i left : ℕ) → low_left i left one64 ≡ lowest_of (measure ps) (about els w i left)
  unfolding lowest
  low-start i left = refl

  pub low_turn : (i left : ℕ) (low : Float) → 0 < left → low_left (i + 1) (left - 1) (smaller low (score_of ps (tet_at els (word_at w i)))) ≡ low_left i left low
  unfolding about lowest_from
  low_turn i left low h = let k : left ≡ suc (left - 1) = omega arith in sym (ap (λ (n : ℕ). low_left i n low) k)

  pub low_end : (i left : ℕ) (low : Float) → left ≤ 0 → low_left i left low ≡ low
  unfolding about lowest_from
  low_end i left low h = let k : left ≡ 0 = omega arith in rw k

  above-turn : (i left : ℕ) → 0 < left → (measure ps).above (tet_at els (word_at w i)) ≡ true → above_left (i + 1) (left - 1) ≡ above_left i left
  unfolding about
  above-turn i left h e =
      let k : left ≡ suc (left - 1) = omega arith in
      sym (ap (above_left i) k ∙ ap (λ (b : Bool). b && above_left (i + 1) (left - 1)) e)

  above-fail : (i left : ℕ) → 0 < left → (measure ps).above (tet_at els (word_at w i)) ≡ false → above_left i left ≡ false
  unfolding about
  above-fail i left h e =
      let k : left ≡ suc (left - 1) = omega arith in
      ap (above_left i) k ∙ ap (λ (b : Bool). b && above_left (i + 1) (left - 1)) e

  above-end : (i left : ℕ) → left ≤ 0 → above_left i left ≡ true
  unfolding about
  above-end i left h = let k : left ≡ 0 = omega arith in rw k

  -- whether all determinants left are above 0, and x is below the lowest of low and the scores left
  abbrev pub better_left : Float → ℕ → ℕ → Float → Bool
  better_left x i left low = above_left i left && lt x (low_left i left low)

  pub better-turn : (x : Float) (i left : ℕ) (low : Float) → 0 < left → (measure ps).above (tet_at els (word_at w i)) ≡ true
      → better_left x (i + 1) (left - 1) (smaller low (score_of ps (tet_at els (word_at w i)))) ≡ better_left x i left low
  better-turn x i left low h e = ap₂ (λ (a : Bool) (l : Float). a && lt x l) (above-turn i left h e) (low_turn i left low h)

  -- the next determinant is not above 0
  pub better-fail : (x : Float) (i left : ℕ) (low : Float) → 0 < left → (measure ps).above (tet_at els (word_at w i)) ≡ false → better_left x i left low ≡ false
  better-fail x i left low h e = ap (λ (a : Bool). a && lt x (low_left i left low)) (above-fail i left h e)

  -- with the next score x is not below the lowest
  pub better-low : (x : Float) (i left : ℕ) (low : Float) → 0 < left → lt x (smaller low (score_of ps (tet_at els (word_at w i)))) ≡ false → better_left x i left low ≡ false
  better-low x i left low h e =
      let next = smaller low (score_of ps (tet_at els (word_at w i))) in
      ap (λ (l : Float). above_left i left && lt x l) (sym (low_turn i left low h))
      ∙ ap (λ (b : Bool). above_left i left && b) (not-below-lowest x next (map (score_of ps) (about els w (i + 1) (left - 1))) e)
      ∙ and-false (above_left i left)

  pub better-end : (x : Float) (i left : ℕ) (low : Float) → left ≤ 0 → better_left x i left low ≡ lt x low
  better-end x i left low h = ap₂ (λ (a : Bool) (l : Float). a && lt x l) (above-end i left h) (low_end i left low h)
