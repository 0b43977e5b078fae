-- The cap is a multiple of 2 ^ 32 below 2 ^ 38, and each part of a stratum can be read off: the mask below 2 ^ 32, and the side of each direction in two bits. Assumes nothing.
use Rattle.std.proofs.Common.{◌≡◌, ℕ, ◌+◌, ◌*◌, ◌/◌, ◌%◌, ◌^◌, ◌<◌, ◌≤◌, Bool, true, false, cond, arith}
use lib.Ieee.{Float, eq}
use Rattle.geometry.specs.declared.point.Point.{Point}
use Rattle.geometry.specs.declared.bounds.Bounds.{Bounds}
use Rattle.geometry.specs.Bounds.{side, cap, stratum}

-- on lo, also where hi is lo; on hi; on neither
pub side-lo : (value lo hi : Float) → eq value lo ≡ true → side value lo hi ≡ 1
side-lo value lo hi h = simp h

pub side-hi : (value lo hi : Float) → eq value lo ≡ false → eq value hi ≡ true → side value lo hi ≡ 2
side-hi value lo hi h k = simp (h, k)

pub side-none : (value lo hi : Float) → eq value lo ≡ false → eq value hi ≡ false → side value lo hi ≡ 0
side-none value lo hi h k = simp (h, k)

pub side-le : (value lo hi : Float) → side value lo hi ≤ 2
side-le value lo hi = go (eq value lo) (eq value hi)
  where
    go : (s t : Bool) → cond s 1 (cond t 2 0) ≤ 2
    go true t = omega arith
    go false true = omega arith
    go false false = omega arith

-- ---- a mask m and sides x, y, z
joined : ℕ → ℕ → ℕ → ℕ → ℕ
joined m x y z = m + (x * 2 ^ 32 + y * 2 ^ 34 + z * 2 ^ 36)

module _ (m x y z : ℕ) (small : m < 2 ^ 32) (sides : (x ≤ 2) × (y ≤ 2) × (z ≤ 2)) where
  joined-lt : joined m x y z < 2 ^ 38
  unfolding joined
  joined-lt = omega arith

  read-mask : joined m x y z % 2 ^ 32 ≡ m
  unfolding joined
  read-mask = omega arith

  read-x : joined m x y z / 2 ^ 32 % 4 ≡ x
  unfolding joined
  read-x = omega arith

  read-y : joined m x y z / 2 ^ 34 % 4 ≡ y
  unfolding joined
  read-y = omega arith

  read-z : joined m x y z / 2 ^ 36 % 4 ≡ z
  unfolding joined
  read-z = omega arith

-- ---- the cap and the stratum
module _ (p : Point) (b : Bounds) where
  pub sides-le : (side p.x b.lo.x b.hi.x ≤ 2) × (side p.y b.lo.y b.hi.y ≤ 2) × (side p.z b.lo.z b.hi.z ≤ 2)
  sides-le = (side-le p.x b.lo.x b.hi.x, side-le p.y b.lo.y b.hi.y, side-le p.z b.lo.z b.hi.z)

  -- "bits 32 to 37"
  pub cap-lt : cap p b < 2 ^ 38
  unfolding cap
  cap-lt = let h = sides-le in omega arith

  pub cap-low : cap p b % 2 ^ 32 ≡ 0
  unfolding cap
  cap-low = omega arith

  module _ (mask : ℕ) (small : mask < 2 ^ 32) where
    pub stratum-lt : stratum mask p b < 2 ^ 38
    unfolding joined stratum cap
    stratum-lt = joined-lt mask (side p.x b.lo.x b.hi.x) (side p.y b.lo.y b.hi.y) (side p.z b.lo.z b.hi.z) small sides-le

    pub stratum-mask : stratum mask p b % 2 ^ 32 ≡ mask
    unfolding joined stratum cap
    stratum-mask = read-mask mask (side p.x b.lo.x b.hi.x) (side p.y b.lo.y b.hi.y) (side p.z b.lo.z b.hi.z) small sides-le

    pub stratum-x : stratum mask p b / 2 ^ 32 % 4 ≡ side p.x b.lo.x b.hi.x
    unfolding joined stratum cap
    stratum-x = read-x mask (side p.x b.lo.x b.hi.x) (side p.y b.lo.y b.hi.y) (side p.z b.lo.z b.hi.z) small sides-le

    pub stratum-y : stratum mask p b / 2 ^ 34 % 4 ≡ side p.y b.lo.y b.hi.y
    unfolding joined stratum cap
    stratum-y = read-y mask (side p.x b.lo.x b.hi.x) (side p.y b.lo.y b.hi.y) (side p.z b.lo.z b.hi.z) small sides-le

    pub stratum-z : stratum mask p b / 2 ^ 36 % 4 ≡ side p.z b.lo.z b.hi.z
    unfolding joined stratum cap
    stratum-z = read-z mask (side p.x b.lo.x b.hi.x) (side p.y b.lo.y b.hi.y) (side p.z b.lo.z b.hi.z) small sides-le
