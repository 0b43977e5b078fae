-- How the exported functions write their answers. Definitions only.
use Rattle.std.specs.Prelude.{ℕ, zero, suc, Bool, true, false, List, Float, set}
use Rattle.geometry.specs.declared.point.Point.{Point}
use Rattle.repair.specs.Project.{Projected}
use Rattle.std.specs.Prelude.{Some, None}

-- the part in direction 0, 1, or 2 from there on
abbrev pub along : Point → ℕ → Float
along p zero = p.x
along p (suc zero) = p.y
along p (suc (suc k)) = p.z

-- 1 for true, 0 for false
abbrev pub as_number : Bool → ℕ
as_number true = 1
as_number false = 0

-- 1 with the point over what stood there, or 0
abbrev pub point_over : List Float → Projected → ℕ × List Float
point_over l (Some p) = (1, set (set (set l 0 p.x) 1 p.y) 2 p.z)
point_over l None = (0, l)
