-- `repair::improve::partners::has_few` meets its contract: the bits that are set are those of `bits_of`. Assumes nothing.
use mathlib.Core.Path.{sym, ap}
use Prim.Native.Nat.{ℕ}
use lib.Dec.{ltb}
use Rattle.repair.proofs.Laws.Pairs.Bits.{count_bits}
use Rattle.repair.proofs.improve.partners.has_few.Goals as goal

pub returns : goal.returns
returns c = ap (λ (n : ℕ). ltb n 3) (sym (count_bits c.args.x (c.requires)))
