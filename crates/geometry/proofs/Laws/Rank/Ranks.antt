-- The rank of a point of the box: at most 10^11 in each direction, and 0 at hi where the direction is periodic. Assumes nothing.
use Rattle.std.proofs.Common.{◌≡◌, ◌^◌, ◌≤◌, Bool, true, false, cond, ◌&&◌, ◌||◌, T, refl, ap, ◌∙◌}
use lib.Ieee.{Float, binary64, of_bits, sub, mul, div, lt, eq, le}
use Rattle.geometry.specs.declared.point.Point.{Point}
use Rattle.geometry.specs.declared.bounds.Options.{Options}
use Rattle.geometry.specs.Float.{zero64, one64}
use Rattle.geometry.specs.Bounds.{canonical_value, canonical, periodic_in}
use Rattle.geometry.specs.Rank.{nearest_away, rank_value, rank}
use Rattle.geometry.proofs.Laws.Rank.Share.{Between, rank-le}
use Rattle.geometry.proofs.Laws.Rank.Outside.{same-le, rank-lo}

or_left : (a b : Bool) → T a → T (a || b)
or_left true b t = tt
or_left false b t = absurd t

pub lo-between : (x lo hi : Float) → Between x lo hi → Between lo lo hi
unfolding le
lo-between x lo hi h = record {
  x_fits = h.lo-fits;
  lo-fits = h.lo-fits;
  hi-fits = h.hi-fits;
  x-in = h.lo-in;
  lo-in = h.lo-in;
  hi-in = h.hi-in;
  above = same-le lo hi h.apart;
  below = or_left (lt lo hi) (eq lo hi) h.apart;
  apart = h.apart;
}

pub canonical-between : (x lo hi : Float) (periodic : Bool) → Between x lo hi → Between (canonical_value x lo hi periodic) lo hi
canonical-between x lo hi periodic h = go (periodic && eq x hi)
  where
    go : (b : Bool) → Between (cond b lo x) lo hi
    go true = lo-between x lo hi h
    go false = h

-- hi counts as lo
pub rank-periodic : (x lo hi : Float) → T (lt lo hi) → eq x hi ≡ true → rank_value (canonical_value x lo hi true) lo hi ≡ 0
rank-periodic x lo hi h e = ap (λ (b : Bool). rank_value (cond b lo x) lo hi) e ∙ rank-lo lo hi h

-- the point lies in the box in each direction
pub record Inside (p : Point) (o : Options) : Type 0 where
  pub at_x : Between p.x o.bounds.lo.x o.bounds.hi.x
  pub at_y : Between p.y o.bounds.lo.y o.bounds.hi.y
  pub at-z : Between p.z o.bounds.lo.z o.bounds.hi.z

module _ (p : Point) (o : Options) (h : Inside p o) where
  pub ranks-x : (rank p o).x ≤ 10 ^ 11
  unfolding rank canonical
  ranks-x = rank-le (canonical p o).x o.bounds.lo.x o.bounds.hi.x (canonical-between p.x o.bounds.lo.x o.bounds.hi.x (periodic_in o.periodic 0) h.at_x)

  pub ranks-y : (rank p o).y ≤ 10 ^ 11
  unfolding rank canonical
  ranks-y = rank-le (canonical p o).y o.bounds.lo.y o.bounds.hi.y (canonical-between p.y o.bounds.lo.y o.bounds.hi.y (periodic_in o.periodic 1) h.at_y)

  pub ranks-z : (rank p o).z ≤ 10 ^ 11
  unfolding rank canonical
  ranks-z = rank-le (canonical p o).z o.bounds.lo.z o.bounds.hi.z (canonical-between p.z o.bounds.lo.z o.bounds.hi.z (periodic_in o.periodic 2) h.at-z)

-- an example where adding a half and cutting gives 1: the share times 10^11 is 0.49999999999999994
below_half : rank_value (of_bits binary64 0x3D95_FD7F_E179_6495) zero64 one64 ≡ 0
unfolding rank_value nearest_away of_bits sub div mul
below_half = refl
