-- `root_of_parts` meets its contract: the rounded root is its digits with the exponent's field above them (`Parts.antt`). Assumes nothing.
use Rattle.std.proofs.Common.{◌≡◌, ℕ, ◌+◌, ◌-◌, ◌*◌, ◌/◌, ◌%◌, ◌^◌, ◌<◌, ◌≤◌, ap, ◌∙◌, arith}
use lib.Ieee.{binary64, of_bits}
use Rattle.geometry.proofs.Laws.Root.Pattern.{no_nan}
use Rattle.geometry.proofs.Laws.Root.Parts.{aligned, parts, root-high}
use Rattle.geometry.proofs.root.root_of_parts.Goals as goal
use Rattle.geometry.proofs.root.root_of_parts.Goals.{After-near_root-q}

bit : (a : ℕ) → a % 2 < 2
bit a = omega arith

-- what `near_root` returns is half of a root, rounded up
root-lt : (c : After-near_root-q) → c.near_root-q.ensures.0 < 2 ^ 54
root-lt c =
    root-high (c.args.m * 2 ^ (1 + c.args.a % 2)) c.near_root-q.ensures.0 (aligned c.args.m (c.args.a % 2) (bit c.args.a) c.requires.0 c.requires.1).1
    c.near_root-q.ensures.1.0

result-le : (c : After-near_root-q) → c.near_root-q.result ≤ 2 ^ 53
result-le c = half c.near_root-q.result c.near_root-q.ensures.0 c.near_root-q.ensures.2 (root-lt c)
  where
    half : (q s : ℕ) → q ≡ (s + 1) / 2 → s < 2 ^ 54 → q ≤ 2 ^ 53
    half q s e h = omega arith

pub float_from_bits-result : goal.float_from_bits-result
float_from_bits-result c = no_nan _ (omega (arith, result-le c))

pub returns : goal.returns
returns c =
    ap (λ (z : ℕ). of_bits binary64 ((c.args.a - 52) / 2 * 2 ^ 52 + z)) c.near_root-q.ensures.2
    ∙ parts c.args.m c.args.a c.near_root-q.ensures.0 c.requires.0 c.requires.1 c.requires.2 c.requires.3 c.near_root-q.ensures.1
