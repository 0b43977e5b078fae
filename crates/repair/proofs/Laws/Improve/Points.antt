-- Points that pass intake's number 12 are within 2 ^ 20, and a vertex past the end is at 0 0 0. So every element's score is finite, not
-- negative and a whole number of units. Assumes nothing.
use mathlib.Core.Path.{◌≡◌, refl}
use mathlib.Core.Bool.{true}
use mathlib.Core.List.{List, [], ◌∷◌, map}
use Prim.Native.Nat.{ℕ, zero, suc}
use lib.Ieee.{binary64, lt, le, eq, fits}
use Rattle.geometry.specs.declared.point.Point.{Point}
use Rattle.geometry.specs.Score.{score}
use Rattle.geometry.proofs.Laws.Score.Near.{Near}
use Rattle.geometry.proofs.Laws.Score.Finite.{score-not-negative}
use Rattle.mesh.specs.declared.element.Tet.{Tet}
use Rattle.mesh.specs.Words.{point_at, zero_point}
use Rattle.mesh.specs.Tests.{every}
use Rattle.mesh.specs.Intake.{sized_point}
use Rattle.mesh.specs.Measure.{score_of}
use Rattle.mesh.proofs.Laws.Complex.Sets.{and-fst, and-snd}
use Rattle.repair.proofs.Laws.Smooth.Scores.{score-fits, is_true}
use Rattle.repair.proofs.Laws.Smooth.Sizes.{sized-near}
use Rattle.repair.specs.Wholeness.{Exact}

-- ---- within 2 ^ 20

zero-near : Near 20 zero_point
unfolding le lt eq
zero-near = sized-near zero_point refl

pub points_near : (ps : List Point) → every sized_point ps ≡ true → (v : ℕ) → Near 20 (point_at ps v)
points_near [] h v = zero-near
points_near (p ∷ ps) h zero = sized-near p (and-fst (sized_point p) (every sized_point ps) h)
points_near (p ∷ ps) h (suc v) = points_near ps (and-snd (sized_point p) (every sized_point ps) h) v

-- whatever vertices are taken, their points are sized too
pub taken-sized : (ps : List Point) → every sized_point ps ≡ true → (us : List ℕ) → every sized_point (map (point_at ps) us) ≡ true
taken-sized ps h [] = refl
taken-sized ps h (u ∷ us) = rw (at ps h u) (taken-sized ps h us)
  where
    zero-sized : sized_point zero_point ≡ true
    zero-sized = unfold le lt eq in refl

    at : (ps : List Point) → every sized_point ps ≡ true → (v : ℕ) → sized_point (point_at ps v) ≡ true
    at [] h v = zero-sized
    at (p ∷ ps) h zero = and-fst (sized_point p) (every sized_point ps) h
    at (p ∷ ps) h (suc v) = at ps (and-snd (sized_point p) (every sized_point ps) h) v

-- ---- scores

-- every element's score is exact
pub scores-exact : (ps : List Point) → every sized_point ps ≡ true → (t : Tet) → Exact (score_of ps t)
scores-exact ps h t =
    let a = point_at ps t.a in
    let b = point_at ps t.b in
    let c = point_at ps t.c in
    let d = point_at ps t.d in (
      is_true (fits binary64 (score a b c d)) (score-fits a b c d),
      score-not-negative a b c d (points_near ps h t.a) (points_near ps h t.b) (points_near ps h t.c) (points_near ps h t.d),
    )
