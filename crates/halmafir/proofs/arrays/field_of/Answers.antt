-- `halmafir::arrays::field_of` meets its contract: an unknown kind is a level at NaN. Assumes nothing.
use mathlib.Core.Path.{sym}
use Prim.Native.Nat.{◌<◌}
use native.Mathlib.Omega.{arith}
use lib.Ieee.{of_bits, div}
use Rattle.halmafir.proofs.Laws.Unknown.{unknown}
use Rattle.halmafir.proofs.arrays.field_of.Goals as goal

pub returns-in-Err : goal.returns-in-Err
unfolding of_bits div
returns-in-Err c =
    let u : 2 < c.args.kind = c.in-Err.ensures.1 in
    sym (unknown c.args.kind c.args.f.now (λ e. omega arith) (λ e. omega arith) (λ e. omega arith))
