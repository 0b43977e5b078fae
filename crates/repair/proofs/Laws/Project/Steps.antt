-- A step of `project_candidate` test by test, and the steps one after the other. Assumes nothing.
use Prim.Native.Nat.{ℕ, zero, suc, ◌+◌, ◌-◌, ◌≤◌, ◌<◌}
use mathlib.Core.Path.{◌≡◌, refl, sym, ap, ◌∙◌}
use mathlib.Core.Bool.{Bool, true, false}
use mathlib.Core.List.{List, map}
use native.Mathlib.Omega.{arith}
use lib.Ieee.{Float, eq, lt}
use lib.ListN.{length}
use Rattle.geometry.specs.declared.bounds.Bounds.{Bounds}
use Rattle.geometry.specs.declared.point.Point.{Point}
use Rattle.geometry.specs.declared.field.Field.{Field}
use Rattle.geometry.specs.Float.{◌*₆₄◌, zero64, absolute}
use Rattle.geometry.specs.Literals.{e_12}
use Rattle.geometry.specs.Field.{value}
use Rattle.mesh.specs.Tests.{every}
use Rattle.repair.specs.Project.{Projected}
use Rattle.std.specs.Prelude.{Some, None}
use Rattle.repair.specs.Project.{Locked, locked_of, extent, Row, usable, normalised, freed, matrix, solved, Step, ended, onward, onward_from, step, steps}

-- ---- a step

module _ (b : Bounds) (o : Point) (fs : List Field) (p : Point) where
  abbrev pub zeroed : Bool
  zeroed = every (λ f. eq (value f p) zero64) fs

  abbrev pub near : Bool
  near = every (λ r. lt (absolute r.value) (e_12 *₆₄ extent b)) (map (normalised p) fs)

  abbrev pub free : List Row
  free = map (freed (locked_of b o)) (map (normalised p) fs)

  -- the test on the rows is that on the fields
  pub near_same : {rs : List Row} {x : Float} {t : Bool} → rs ≡ map (normalised p) fs → x ≡ e_12 *₆₄ extent b → t ≡ every (λ r. lt (absolute r.value) x) rs → t ≡ near
  near_same rs xs ts = ts ∙ (λ i. every (λ r. lt (absolute r.value) (xs i)) (rs i))

  -- the rows freed are the fields' rows freed
  pub free-same : {l : Locked} {rs fr : List Row} {r : Step} → l ≡ locked_of b o → rs ≡ map (normalised p) fs → fr ≡ map (freed l) rs
      → r ≡ onward_from b o fs p fr (solved 0 (length fr) (matrix fr)) → r ≡ onward_from b o fs p free (solved 0 (length free) (matrix free))
  free-same ls rs fr r =
      r ∙ ap (λ (z : List Row). onward_from b o fs p z (solved 0 (length z) (matrix z))) (fr ∙ (λ i. map (freed (ls i)) (rs i)))

  -- all values are 0
  pub step-zero : zeroed ≡ true → ended (Some p) ≡ step b o fs p
  unfolding step
  step-zero z = rw z

  -- a field is not usable
  pub step-unusable : zeroed ≡ false → every (usable p) fs ≡ false → ended None ≡ step b o fs p
  unfolding step
  step-unusable z u = rw (z, u)

  -- all values are small
  pub step-near : zeroed ≡ false → every (usable p) fs ≡ true → near ≡ true → ended (Some p) ≡ step b o fs p
  unfolding step
  step-near z u a = rw (z, u, a)

  -- the point moves
  pub step-onward : zeroed ≡ false → every (usable p) fs ≡ true → near ≡ false → onward_from b o fs p free (solved 0 (length free) (matrix free)) ≡ step b o fs p
  unfolding step
  step-onward z u a = rw (z, u, a)

-- ---- the steps

module _ (b : Bounds) (o : Point) (fs : List Field) where
  steps-ended : (n : ℕ) (r : Projected) → steps b o fs n (ended r) ≡ r
  unfolding steps
  steps-ended zero r = refl
  steps-ended (suc n) r = refl

  -- one more step
  steps_next : (left : ℕ) (p : Point) → 0 < left → steps b o fs left (onward p) ≡ steps b o fs (left - 1) (step b o fs p)
  unfolding steps
  steps_next left p h = let e : left ≡ suc (left - 1) = omega arith in ap (λ (t : ℕ). steps b o fs t (onward p)) e

  -- the step ends the work
  pub steps-end : (left : ℕ) (p : Point) {r v : Projected} → 0 < left → ended r ≡ step b o fs p → steps b o fs left (onward p) ≡ v → r ≡ v
  steps-end left p {r} {v} h e l = sym (steps-ended (left - 1) r) ∙ ap (steps b o fs (left - 1)) e ∙ sym (steps_next left p h) ∙ l

  -- the step i of n hands on a point
  pub steps-turn : (n i : ℕ) (p : Point) {q : Point} {v : Projected} → i < n → onward q ≡ step b o fs p → steps b o fs (n - i) (onward p) ≡ v → steps b o fs (n - (i + 1)) (onward q) ≡ v
  steps-turn n i p {q} {v} h e l =
      let k : n - (i + 1) ≡ (n - i) - 1 = omega arith in
      ap (λ (t : ℕ). steps b o fs t (onward q)) k ∙ ap (steps b o fs ((n - i) - 1)) e ∙ sym (steps_next (n - i) p (omega arith)) ∙ l

  -- none is left
  pub steps-none : (left : ℕ) (p : Point) {v : Projected} → left ≤ 0 → steps b o fs left (onward p) ≡ v → None ≡ v
  unfolding steps
  steps-none left p {v} h l = let e : left ≡ 0 = omega arith in sym (ap (λ (t : ℕ). steps b o fs t (onward p)) e) ∙ l
