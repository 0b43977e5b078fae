-- `mesh::link::boundary::drop_numbers` meets its contract. The invariant: the first i rows are left. Assumes nothing.
use Rattle.mesh.proofs.Laws.LinkRows.Keys.{dropping-start, dropping-turn, dropping-end}
use Rattle.mesh.proofs.link.boundary.drop_numbers.Goals as goal

pub loop-i-init : goal.loop-i-init
loop-i-init c = dropping-start c.args.p c.args.m c.args.area.now c.requires.2

pub loop-i-preserved : goal.loop-i-preserved
loop-i-preserved c = dropping-turn c.args.p c.args.m c.args.area.now c.requires.2 c.loop-i.invariant c.loop-i-test.true c.copy_words.new.s c.copy_words.ensures

pub returns : goal.returns
returns c = dropping-end c.args.p c.args.m c.args.area.now c.requires.2 c.loop-i.invariant c.loop-i-test.false
