-- `repair::flip::finish::sort_triples` meets its contract. Assumes nothing.
use mathlib.Core.Path.{ap}
use Prim.Native.Nat.{◌+◌, ◌-◌, ◌*◌}
use mathlib.Core.List.{List}
use Prim.Native.Nat.{ℕ}
use borrow.Rule.Slice.PartMut.{put_mid}
use Rattle.repair.proofs.Laws.Flip.Keys.{sorted-triples}
use Rattle.repair.proofs.flip.finish.sort_triples.Goals as goal

pub returns : goal.returns
returns c = sorted-triples c.args.p c.args.c c.args.area.now c.requires.1 _ (ap (λ (y : List ℕ). put_mid c.args.p (c.args.p + 6 * c.args.c - c.args.p) c.args.area.now y) c.sort_rows.ensures)
