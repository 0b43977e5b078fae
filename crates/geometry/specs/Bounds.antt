-- The box (document 01, "Box") and the stratum of a vertex ("Vertex"). Ranks are in `Rank`. Definitions only.
use Rattle.std.specs.Prelude.{ℕ, ◌+◌, ◌*◌, ◌/◌, ◌%◌, ◌^◌, Bool, false, cond, ◌&&◌, pos, ◌==◌, Float}
use Rattle.std.specs.Float.{inf, binary64}
use Rattle.std.specs.Float.Ieee.{eq, of_int}
use Rattle.geometry.specs.declared.point.Point.{Point}
use Rattle.geometry.specs.declared.bounds.Bounds.{Bounds}
use Rattle.geometry.specs.declared.bounds.Options.{Options}
use Rattle.geometry.specs.declared.bounds.Axis.{Axis}
use Rattle.geometry.specs.declared.bounds.Axis.TheVariants.{X, Y, Z}
use Rattle.geometry.specs.Float.{◌-₆₄◌, ◌/₆₄◌, smaller}

-- "(hi − lo) / cells", cells as the f64 of that value, which is exact for a u32
abbrev pub cell_size : Float → Float → ℕ → Float
cell_size lo hi cells = (hi -₆₄ lo) /₆₄ of_int binary64 (pos cells)

-- "h is the smallest (hi − lo) / cells". The fold starts at infinity and passes over a NaN.
unfoldable pub spacing : Options → Float
spacing o =
    let lo = o.bounds.lo in
    let hi = o.bounds.hi in
    let cells = o.cells in
    smaller (smaller (smaller (inf false) (cell_size lo.x hi.x cells.x)) (cell_size lo.y hi.y cells.y)) (cell_size lo.z hi.z cells.z)

-- the place of a direction's bit
abbrev pub place_of : Axis → ℕ
place_of X = 0
place_of Y = 1
place_of Z = 2

-- "periodic bits (x is 1, y 2, z 4)": the bit of weight 2 ^ axis, for axis 0, 1, 2
abbrev pub periodic_in : ℕ → ℕ → Bool
periodic_in bits axis = bits / 2 ^ axis % 2 == 1

-- "in a periodic direction hi counts as lo"
abbrev pub canonical_value : Float → Float → Float → Bool → Float
canonical_value value lo hi periodic = cond (periodic && eq value hi) lo value

-- "in a periodic direction hi counts as lo", for each of the three
unfoldable pub canonical : Point → Options → Point
canonical p o =
    let lo = o.bounds.lo in
    let hi = o.bounds.hi in
    let bits = o.periodic in
    record {
      x = canonical_value p.x lo.x hi.x (periodic_in bits 0);
      y = canonical_value p.y lo.y hi.y (periodic_in bits 1);
      z = canonical_value p.z lo.z hi.z (periodic_in bits 2);
    }

-- "lying exactly on lo or hi": 1 on lo, else 2 on hi, else 0
abbrev pub side : Float → Float → Float → ℕ
side value lo hi = cond (eq value lo) 1 (cond (eq value hi) 2 0)

-- "bits 32 to 37 for lying exactly on lo or hi (`cap`)": bit 32 + 2a for lo and 33 + 2a for hi, in direction a = 0, 1, 2
unfoldable pub cap : Point → Bounds → ℕ
cap p b =
    let lo = b.lo in
    let hi = b.hi in
    side p.x lo.x hi.x * 2 ^ 32 + side p.y lo.y hi.y * 2 ^ 34 + side p.z lo.z hi.z * 2 ^ 36

-- "Its stratum is the mask, with bits 32 to 37": the mask is below 2 ^ 32, so no bit is shared
unfoldable pub stratum : ℕ → Point → Bounds → ℕ
unfolding cap
stratum mask p b = mask + cap p b
