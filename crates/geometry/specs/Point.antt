-- Points and the determinant of four (document 01, "Coordinate, determinant, score"; `sub`, `dot`, `cross`, `norm` and `determinant` of
-- lib.rs): each operation rounded once, sums left to right. Definitions only.
use Rattle.std.specs.Prelude.{Float}
use Rattle.geometry.specs.declared.point.Point.{Point}
use Rattle.geometry.specs.Float.{◌+₆₄◌, ◌-₆₄◌, ◌*₆₄◌}
use Rattle.geometry.specs.Root.{sqrt}

-- `sub`: a - b, per direction
abbrev pub difference : Point → Point → Point
difference a b = record { x = a.x -₆₄ b.x; y = a.y -₆₄ b.y; z = a.z -₆₄ b.z }

-- `dot`: the three products, added left to right
abbrev pub dot : Point → Point → Float
dot a b = ((a.x *₆₄ b.x) +₆₄ (a.y *₆₄ b.y)) +₆₄ (a.z *₆₄ b.z)

-- `cross`: the vector product
abbrev pub cross : Point → Point → Point
cross a b = record {
  x = (a.y *₆₄ b.z) -₆₄ (a.z *₆₄ b.y);
  y = (a.z *₆₄ b.x) -₆₄ (a.x *₆₄ b.z);
  z = (a.x *₆₄ b.y) -₆₄ (a.y *₆₄ b.x);
}

-- `norm`: the root of the dot product with itself
unfoldable pub norm : Point → Float
unfolding sqrt
norm a = sqrt (dot a a)

-- `determinant`: of the three edges from a
unfoldable pub determinant : Point → Point → Point → Point → Float
determinant a b c d = dot (difference b a) (cross (difference c a) (difference d a))
