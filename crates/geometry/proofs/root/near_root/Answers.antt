-- `near_root` meets its contract: by what `settled` says of its result, or by `root_digits`. Assumes nothing.
use Rattle.std.proofs.Common.{◌≡◌, ℕ, ◌+◌, ◌*◌, ◌/◌, ◌%◌, ◌^◌, ◌<◌, ◌≤◌, sym, subst, lt_of_lt_of_le, mod-eq_of_lt, arith, lit≤}
use Rattle.geometry.specs.inside.Whole.{Halved}
use Rattle.geometry.proofs.Laws.Root.Parts.{aligned}
use Rattle.geometry.proofs.Laws.Root.Settle.{halved}
use Rattle.geometry.proofs.root.near_root.Goals as goal
use Rattle.geometry.proofs.root.near_root.Goals.{Start}

-- y is m * 2 or m * 4: the shift loses nothing
module _ (c : Start) where
  y : ℕ
  y = c.args.m * 2 ^ (1 + c.args.p)

  range : (2 ^ 53 ≤ y) × (y < 2 ^ 55)
  unfolding y
  range = aligned c.args.m c.args.p c.requires.2 c.requires.0 c.requires.1

  kept : y % 2 ^ 64 ≡ y
  kept = mod-eq_of_lt (lt_of_lt_of_le range.1 (lit≤ {m = 2 ^ 55} {n = 2 ^ 64} tt))

  below : y % 2 ^ 64 < 2 ^ 55
  below = subst (λ (x : ℕ). x < 2 ^ 55) (sym kept) range.1

  above : 2 ^ 53 ≤ y % 2 ^ 64
  above = subst (λ (x : ℕ). 2 ^ 53 ≤ x) (sym kept) range.0

  back : (q : ℕ) → Halved (y % 2 ^ 64) q → Halved y q
  back q h = subst (λ (x : ℕ). Halved x q) kept h

-- 31 digits behind a leading one
digits : (b : ℕ) → b / 2 ^ 21 % 2 ^ 31 + 2 ^ 31 < 2 ^ 32
digits b = omega arith

pub settled-requires : goal.settled-requires
unfolding y
settled-requires c = (above c.before.before, below c.before.before, digits _)

pub returns-in-Some : goal.returns-in-Some
unfolding y
returns-in-Some c = let s = c.before.before.before.before in back s c.in-Some.q (halved (y s % 2 ^ 64) c.in-Some.q c.in-Some.ensures)

pub root_digits-requires : goal.root_digits-requires
unfolding y
root_digits-requires c = below c.before.before
