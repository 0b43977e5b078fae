-- `repair::flip::finish::commit_flip` meets its contract. Assumes nothing.
use mathlib.Core.Path.{refl, ◌∙◌}
use native.Mathlib.Omega.{arith}
use Prim.Native.Nat.{◌*◌}
use lib.ListN.{take, drop}
use Rattle.repair.proofs.Laws.Finish.Moved.{copied-over}
use Rattle.repair.proofs.flip.finish.commit_flip.Goals as goal

pub returns : goal.returns
returns c = let h = c.requires.2 in (c.copy_part.ensures ∙ copied-over c.args.area.now c.args.elements.now (take (4 * c.args.k) c.args.area.now) 0 (4 * c.args.k) (omega arith) c.requires.3 refl, c.copy_part-2.ensures ∙ copied-over c.args.area.now c.args.surface.now (take (3 * c.args.c) (drop (4 * c.args.k) c.args.area.now)) (4 * c.args.k) (3 * c.args.c) h c.requires.4 refl)
