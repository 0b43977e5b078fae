-- `report::buffers::Buffers::run_smooth` meets its contract, by the answer of `smooth`. Assumes nothing.
use Rattle.std.proofs.Common.{ap}
use Rattle.repair.specs.Step.{held}
use Rattle.repair.specs.Answer.{answer_of}
use Rattle.repair.proofs.Laws.Answers.{from-numbers}
use Rattle.report.specs.Run.{setting_for}
use Rattle.report.proofs.Laws.Passes.{smooth-done, smooth-stopped}
use Rattle.report.proofs.buffers.Buffers.run_smooth.Goals as goal

pub returns-in-Ok-clause-fact : goal.returns-in-Ok-clause-fact
returns-in-Ok-clause-fact c = let a = c.args in
    smooth-done (setting_for a.s a.fields a.self.now.work a.self.now.floats) (held a.s.sizes a.self.now.parameters a.self.now.points a.self.now.masks a.self.now.elements a.self.now.surface) _ _ a.collapsed _ _ (from-numbers (answer_of c.smooth-found.result) c.smooth-found.ensures.fact) (ap answer_of c.in-Ok.is) (rw (c.smooth-found.auto.work, c.smooth-found.auto.floats) at c.run_flip.ensures.fact)

pub returns-in-Err-clause-fact : goal.returns-in-Err-clause-fact
returns-in-Err-clause-fact c = let a = c.args in
    smooth-stopped (setting_for a.s a.fields a.self.now.work a.self.now.floats) (held a.s.sizes a.self.now.parameters a.self.now.points a.self.now.masks a.self.now.elements a.self.now.surface) _ _ a.collapsed _ (from-numbers (answer_of c.smooth-found.result) c.smooth-found.ensures.fact) (ap answer_of c.in-Err.is)
