-- `halmafir::passes::halmafir_flip` meets its contract, by those of `flip` and `put_answer`. Assumes nothing.
use mathlib.Core.Option.{none}
use Rattle.repair.specs.Answer.{answer_of}
use Rattle.repair.specs.Step.{Pass}
use Rattle.repair.proofs.Laws.Answers.{from-numbers}
use Rattle.halmafir.specs.Arrays.{fields_of, settings_of}
use Rattle.halmafir.proofs.Laws.Called.{called-by}
use Rattle.halmafir.proofs.passes.halmafir_flip.Goals as goal

pub returns : goal.returns
returns c = let a = c.args in called-by Pass.flip (settings_of a.sizes.now a.settings.now a.numbers.now) (fields_of a.settings.now a.numbers.now) none a.words.now a.floats.now a.parameters.now a.points.now a.masks.now a.elements.now a.surface.now c.settings_of-s.ensures c.fields_of-f.ensures (from-numbers (answer_of c.flip-given.result) c.flip-given.ensures.fact) c.flip-given.ensures.work_after c.flip-given.ensures.floats_after c.put_answer.ensures
