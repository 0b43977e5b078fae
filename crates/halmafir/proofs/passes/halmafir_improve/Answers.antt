-- `halmafir::passes::halmafir_improve` meets its contract, by those of `improve` and `put_answer`. Assumes nothing.
use mathlib.Core.Option.{none}
use Rattle.repair.specs.Answer.{answer_of}
use Rattle.repair.specs.Step.{Pass}
use Rattle.repair.proofs.Laws.Answers.{from-numbers}
use Rattle.halmafir.specs.Arrays.{fields_of, settings_of}
use Rattle.halmafir.proofs.Laws.Called.{called-by}
use Rattle.halmafir.proofs.passes.halmafir_improve.Goals as goal

pub returns : goal.returns
returns c = let a = c.args in called-by Pass.improve (settings_of a.sizes.now a.settings.now a.numbers.now) (fields_of a.settings.now a.numbers.now) none a.words.now a.floats.now a.parameters.now a.points.now a.masks.now a.elements.now a.surface.now c.settings_of-s.ensures c.fields_of-f.ensures (from-numbers (answer_of c.improve-given.result) c.improve-given.ensures.fact) c.improve-given.ensures.work_after c.improve-given.ensures.floats_after c.put_answer.ensures
