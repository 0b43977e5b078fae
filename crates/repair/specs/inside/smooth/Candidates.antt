-- The code's Options, the nine candidates, and the parts of the neighbours' mean. For contracts of private functions and for proofs;
-- definitions only.
use Rattle.std.specs.Prelude.{ℕ, List, [], ◌∷◌, ◌++◌, map, pos, Float, Option, Some, None}
use Rattle.std.proofs.Math.Option as Math
use Rattle.std.proofs.Math.Option.{none, some}
use Rattle.std.specs.Float.{binary64}
use Rattle.std.specs.Float.Ieee.{of_int}
use Rattle.geometry.specs.declared.point.Point.{Point}
use Rattle.geometry.specs.Float.{◌+₆₄◌, ◌/₆₄◌, one64}
use Rattle.geometry.specs.Literals.{half, quarter}
use Rattle.geometry.specs.Point.{difference}
use Rattle.repair.specs.Smooth.{along, step_candidates}

-- a value of the code's Option
abbrev pub plain : {A : Type 0} → Option A → Math.Option A
plain None = none
plain (Some a) = some a

-- how far the first three candidates go towards the mean
abbrev pub shares : List Float
shares = one64 ∷ half ∷ quarter ∷ []

-- the candidates where there is a mean; without one they begin at number 3
abbrev pub nine : Point → Point → Point → Float → List Point
nine original origin mean h = map (along origin (difference mean original)) shares ++ step_candidates origin h

-- a + b, per direction
abbrev pub sum : Point → Point → Point
sum a b = record { x = a.x +₆₄ b.x; y = a.y +₆₄ b.y; z = a.z +₆₄ b.z }

-- a divided by the number n, per direction
abbrev pub divided : Point → ℕ → Point
divided a n =
    let k = of_int binary64 (pos n) in
    record { x = a.x /₆₄ k; y = a.y /₆₄ k; z = a.z /₆₄ k }
