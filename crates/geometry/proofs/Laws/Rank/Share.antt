-- The share of x between lo and hi is at least 0 and at most 1, so that the rank is at most 1e11. Assumes nothing.
use Rattle.std.proofs.Common.{ℕ, ◌-◌, ◌*◌, ◌^◌, ◌<◌, ◌≤◌, T, subst, inl, inr, le_of_eq, le_of_lt, lt_irrefl, mul-le-mul_right, mul_comm, arith, lit<, lit≤, pow_pos}
use lib.Ieee.{Float, binary64, fits, sub, mul, le, lt}
use lib.Ieee.Scale.{grid, finite, round_under}
use Rattle.geometry.specs.Units.{NotNegative}
use Rattle.geometry.specs.inside.Units.{Within, within}
use Rattle.geometry.proofs.Laws.Float.Grid.{grid_mono}
use Rattle.geometry.proofs.Laws.Float.Magnitude.{less_by, mul-within-value, within-finite}
use Rattle.geometry.proofs.Laws.Float.Up.{Up, mul-up, div-up, up-not-negative}
use Rattle.geometry.proofs.Laws.Float.Spot.{spot, lt-spot, le-spot}
use Rattle.geometry.proofs.Laws.Float.Diff.{Rounded, sub-spot, AtLeast, rounded-up, rounded-within, rounded-at-least, grid-positive, div-within, not-zero}
use Rattle.geometry.specs.Rank.{e11, share, rank_value}
use Rattle.geometry.proofs.Laws.Rank.Away.{away-le}

-- x lies in lo to hi, all three of 2 ^ 20 at most, and lo is below hi (document 01, 11 and 12 of the table)
pub record Between (x lo hi : Float) : Type 0 where
  pub x_fits : T (fits binary64 x)
  pub lo-fits : T (fits binary64 lo)
  pub hi-fits : T (fits binary64 hi)
  pub x-in : within 20 x
  pub lo-in : within 20 lo
  pub hi-in : within 20 hi
  pub above : T (le lo x)
  pub below : T (le x hi)
  pub apart : T (lt lo hi)

-- a difference that is finite rounds to less than overflow
pub rounded-under : (v : Float) (D : ℕ) → Rounded v D → 0 < D → T (finite v) → grid binary64 D (2 ^ 1074) < 2 ^ 2098
rounded-under v D r h f = elim r [
  | inl p ↦ round_under binary64 D (2 ^ 1074) (subst (λ (z : Float). T (finite z)) p f)
  | inr p ↦ absurd (lt_irrefl 0 (subst (λ (z : ℕ). 0 < z) p.1 h))
]

module _ (x lo hi : Float) (h : Between x lo hi) where
  unfoldable pub D : ℕ
  D = spot x - spot lo

  unfoldable pub E : ℕ
  E = spot hi - spot lo

  lo-le : spot lo ≤ spot x
  lo-le = le-spot (2 ^ 1094) (2 ^ 1094) lo x h.lo-fits h.x_fits h.lo-in h.x-in h.above

  le-hi : spot x ≤ spot hi
  le-hi = le-spot (2 ^ 1094) (2 ^ 1094) x hi h.x_fits h.hi-fits h.x-in h.hi-in h.below

  lo-lt : spot lo < spot hi
  lo-lt = lt-spot (2 ^ 1094) (2 ^ 1094) lo hi h.lo-fits h.hi-fits h.lo-in h.hi-in h.apart

  pub top : Rounded (sub binary64 x lo) D
  unfolding D
  top = sub-spot (2 ^ 1094) (2 ^ 1094) x lo h.x_fits h.lo-fits h.x-in h.lo-in lo-le

  pub bottom : Rounded (sub binary64 hi lo) E
  unfolding E
  bottom = sub-spot (2 ^ 1094) (2 ^ 1094) hi lo h.hi-fits h.lo-fits h.hi-in h.lo-in (le_of_lt lo-lt)

  E_pos : 0 < E
  unfolding E
  E_pos = diff (spot lo) (spot hi) lo-lt
    where
      diff : (a b : ℕ) → a < b → 0 < b - a
      diff a b h = omega arith

  D-le : D ≤ E
  unfolding D E
  D-le = diff (spot lo) (spot x) (spot hi) le-hi
    where
      diff : (a b c : ℕ) → b ≤ c → b - a ≤ c - a
      diff a b c h = omega arith

  unfoldable pub G : ℕ
  G = grid binary64 E (2 ^ 1074)

  below_in : within 21 (sub binary64 hi lo)
  below_in = less_by 20 hi lo (lit< tt) h.hi-in h.lo-in

  -- hi - lo is finite, so the grid's number is below overflow
  G-lt : G < 2 ^ 2098
  unfolding G
  G-lt = rounded-under (sub binary64 hi lo) E bottom E_pos (within-finite (2 ^ 1095) (sub binary64 hi lo) below_in)

  pub G-pos : 0 < G
  unfolding G
  G-pos = grid-positive E E_pos

  pub bottom-least : AtLeast G (sub binary64 hi lo)
  unfolding G
  bottom-least = rounded-at-least (sub binary64 hi lo) E bottom E_pos G-lt

  pub top_in : Within G (sub binary64 x lo)
  unfolding G
  top_in = rounded-within (sub binary64 x lo) D G top (grid_mono D (2 ^ 1074) E (2 ^ 1074) (pow_pos 1074) (pow_pos 1074) (mul-le-mul_right (2 ^ 1074) D-le)) G-lt

  -- not below 0
  pub share_up : Up (share x lo hi)
  share_up =
      div-up G (2 ^ 1095) (sub binary64 x lo) (sub binary64 hi lo) top_in below_in (rounded-up (sub binary64 x lo) D top) (rounded-up (sub binary64 hi lo) E bottom) (not-zero G (sub binary64 hi lo) G-pos bottom-least)

  -- at most 1
  pub share-le : Within (2 ^ 1074) (share x lo hi)
  share-le = div-within G G 1074 (sub binary64 x lo) (sub binary64 hi lo) top_in bottom-least G-pos (le_of_eq (mul_comm G (2 ^ 1074))) (lit< tt)

  -- times 1e11: not below 0, and at most 1e11
  pub scaled-le : Within (48828125 * 2 ^ 1085) (mul binary64 (share x lo hi) e11)
  scaled-le =
      mul-within-value (2 ^ 1074) (48828125 * 2 ^ 1085) 48828125 1085 (share x lo hi) e11 share-le (lit≤ tt) (lit≤ {m = 2 ^ 1074 * (48828125 * 2 ^ 1085)} {n = 48828125 * 2 ^ 1085 * 2 ^ 1074} tt) (lit< tt) (lit< {m = 48828125 * 2 ^ 1085} {n = 2 ^ 2098} tt)

  pub rank-le : rank_value x lo hi ≤ 10 ^ 11
  unfolding rank_value
  rank-le = away-le (mul binary64 (share x lo hi) e11) scaled-le

  pub scaled-not-negative : NotNegative (mul binary64 (share x lo hi) e11)
  scaled-not-negative = up-not-negative (48828125 * 2 ^ 1085) (mul binary64 (share x lo hi) e11) scaled-le (mul-up (2 ^ 1074) (48828125 * 2 ^ 1085) (share x lo hi) e11 share-le (lit≤ tt) share_up tt)

-- a larger x has a larger difference
pub D-mono : (x y lo hi : Float) (p : Between x lo hi) (q : Between y lo hi) → T (le x y) → D x lo hi p ≤ D y lo hi q
unfolding D
D-mono x y lo hi p q h = diff (spot lo) (spot x) (spot y) (le-spot (2 ^ 1094) (2 ^ 1094) x y p.x_fits q.x_fits p.x-in q.x-in h)
  where
    diff : (a b c : ℕ) → b ≤ c → b - a ≤ c - a
    diff a b c h = omega arith
