-- `matrix::Matrix::displacement` meets its contract. The invariant: what is left from row i on is the whole. Assumes nothing.
use Rattle.std.proofs.Common.{◌∙◌, refl, sym, length, arith}
use lib.Ieee.{of_bits, neg}
use Rattle.repair.proofs.Laws.Project.Arrays.{point-all, point-next, point-last}
use Rattle.repair.proofs.project.matrix.Matrix.displacement.Goals as goal

pub loop-i-init : goal.loop-i-init
unfolding of_bits neg
loop-i-init c = point-all c.args.self.now.shaped (length c.args.rows.list.now) (omega (arith, c.requires, c.args.self.now.few)) c.args.rows.list.now refl

pub loop-i-preserved : goal.loop-i-preserved
loop-i-preserved c = point-next c.args.self.now.shaped (length c.args.rows.list.now) (omega (arith, c.requires, c.args.self.now.few)) c.args.rows.list.now c.loop-i.i _ refl c.loop-i-test.true c.loop-i.s (rw (sym c.requires) at c.add_scaled-s.ensures) ∙ c.loop-i.invariant

pub returns : goal.returns
returns c = point-last c.args.self.now.shaped (length c.args.rows.list.now) (omega (arith, c.requires, c.args.self.now.few)) c.args.rows.list.now c.loop-i.i refl c.loop-i-test.false c.loop-i.s ∙ c.loop-i.invariant
