-- The sum of the gradients, each times the last entry of its row: what is left from i on is the whole. Assumes nothing.
use Prim.Native.Nat.{ℕ, ◌+◌, ◌≤◌, ◌<◌}
use mathlib.Core.Path.{◌≡◌}
use mathlib.Core.Bool.{true}
use mathlib.Core.List.{List, []}
use native.Mathlib.Numerals.{add-one}
use lib.IntN.{pos}
use lib.Ieee.{Float, fin}
use lib.ListN.{length, get_or, drop, drop_of_length-le}
use lib.Seq.{drop-cons}
use Rattle.geometry.specs.declared.point.Point.{Point}
use Rattle.geometry.specs.Float.{◌+₆₄◌, ◌*₆₄◌, zero64, total, total_from}
use Rattle.repair.specs.Project.{Row, products}

module _ (part : Point → Float) (rs : List Row) (m : List (List Float)) (n : ℕ) where
  -- s and the products from row i on
  abbrev pub summed : Float → ℕ → Float
  summed s i = total_from s (products part (drop i rs) (drop i m) n)

  -- all of them
  pub summed-all : length rs ≡ n → summed (fin true 0 (pos 0)) 0 ≡ total (products part rs m (length rs))
  unfolding total
  summed-all h = rw h

  -- row i is added
  pub summed_turn : (s : Float) (i : ℕ) (z : Row) → i < length rs → i < length m
      → summed (s +₆₄ part (get_or rs i z).gradient *₆₄ get_or (get_or m i []) n zero64) (i + 1) ≡ summed s i
  unfolding products total_from
  summed_turn s i z h g = rw (drop-cons rs i z h, drop-cons m i [] g, add-one)

  -- none is left
  pub summed-end : (s : Float) (i : ℕ) → length rs ≤ i → summed s i ≡ s
  unfolding products total_from
  summed-end s i h = rw (drop_of_length-le rs {i = i} h)
