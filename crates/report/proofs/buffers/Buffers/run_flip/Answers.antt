-- `report::buffers::Buffers::run_flip` meets its contract, by the answer of `flip`. Assumes nothing.
use Rattle.std.proofs.Common.{refl, ap}
use Rattle.repair.specs.Step.{held}
use Rattle.repair.specs.Answer.{answer_of}
use Rattle.repair.proofs.Laws.Answers.{from-numbers}
use Rattle.report.specs.Run.{setting_for}
use Rattle.report.proofs.Laws.Passes.{done-sizes, refused-sizes, flip-finished, flip-stopped}
use Rattle.report.proofs.buffers.Buffers.run_flip.Goals as goal

pub returns-in-Ok-clause-fact : goal.returns-in-Ok-clause-fact
returns-in-Ok-clause-fact c = let a = c.args in
    flip-finished (setting_for a.s a.fields a.self.now.work a.self.now.floats) (held a.s.sizes a.self.now.parameters a.self.now.points a.self.now.masks a.self.now.elements a.self.now.surface) _ _ a.collapsed a.moved _ _ (done-sizes a.s.sizes (from-numbers (answer_of c.flip-found.result) c.flip-found.ensures.fact) (ap answer_of c.in-Ok.is)) refl

pub returns-in-Err-clause-fact : goal.returns-in-Err-clause-fact
returns-in-Err-clause-fact c = let a = c.args in
    flip-stopped (setting_for a.s a.fields a.self.now.work a.self.now.floats) (held a.s.sizes a.self.now.parameters a.self.now.points a.self.now.masks a.self.now.elements a.self.now.surface) _ _ a.collapsed a.moved _ (refused-sizes a.s.sizes (from-numbers (answer_of c.flip-found.result) c.flip-found.ensures.fact) (ap answer_of c.in-Err.is)) refl
