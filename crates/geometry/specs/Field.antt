-- Fields (document 01, "Field"): "a field is one of three kinds, each with its own floats". Each operation is rounded once.
-- Definitions only.
use Rattle.std.specs.Prelude.{◌≡◌, ℕ, ◌<◌, false, Result, MatchResult, pos, Float}
use Rattle.std.specs.Float.{fin}
use Rattle.geometry.specs.declared.point.Point.{Point}
use Rattle.geometry.specs.declared.field.Field.{Field}
use Rattle.geometry.specs.declared.field.Field.TheVariants.{Level, Plane, Ball}
use Rattle.geometry.specs.declared.field.Kind.{Kind}
use Rattle.geometry.specs.declared.field.UnknownKind.{UnknownKind}
use Rattle.geometry.specs.Float.{◌+₆₄◌, ◌-₆₄◌, ◌*₆₄◌, zero64, one64}
use Rattle.geometry.specs.Point.{difference, dot}
use Rattle.geometry.specs.Root.{sqrt}

-- "0 level .., 1 plane .., 2 ball"
abbrev pub kind : Field → ℕ
kind (Level c) = 0
kind (Plane n d) = 1
kind (Ball c r) = 2

-- the same, of a kind by itself
abbrev pub number_of : Kind → ℕ
number_of Kind.Level = 0
number_of Kind.Plane = 1
number_of Kind.Ball = 2

-- what reading a number as a kind gives: the kind that has it, or an error with a number that none has
abbrev pub NumberOf : ℕ → Result Kind UnknownKind → Type 0
NumberOf n r = MatchResult r (λ kind. number_of kind ≡ n) (λ e. (e.0 ≡ n) × (2 < n))

-- "level (z − c), plane (n·p + d), ball (|p − c|² − r²)"
abbrev pub value : Field → Point → Float
value (Level c) p = p.z -₆₄ c
value (Plane n d) p = dot n p +₆₄ d
value (Ball c r) p = dot (difference p c) (difference p c) -₆₄ (r *₆₄ r)

-- 2.0
abbrev pub two64 : Float
two64 = fin false 1 (pos 1)

-- "2(p − c)": twice each coordinate
abbrev pub twice : Point → Point
twice p = record { x = two64 *₆₄ p.x; y = two64 *₆₄ p.y; z = two64 *₆₄ p.z }

-- "Gradients are (0,0,1), n and 2(p − c)"
abbrev pub gradient : Field → Point → Point
gradient (Level c) p = record { x = zero64; y = zero64; z = one64 }
gradient (Plane n d) p = n
gradient (Ball c r) p = twice (difference p c)

-- "The magnitude of a gradient is the root of its dot product with itself"
abbrev pub magnitude : Point → Float
magnitude g = sqrt (dot g g)
