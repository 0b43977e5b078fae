-- `halmafir::passes::halmafir_smooth` meets its contract, by those of `smooth` and `put_answer`. Assumes nothing.
use lib.Dec.{eqb}
use mathlib.Core.Bool.{not}
use Rattle.repair.specs.Answer.{answer_of}
use Rattle.repair.specs.Step.{Pass, regions_of}
use Rattle.repair.proofs.Laws.Answers.{from-numbers}
use Rattle.halmafir.specs.Arrays.{fields_of, settings_of}
use Rattle.halmafir.proofs.Laws.Called.{called-by}
use Rattle.halmafir.proofs.passes.halmafir_smooth.Goals as goal

pub returns : goal.returns
returns c = let a = c.args in called-by Pass.smooth (settings_of a.sizes.now a.settings.now a.numbers.now) (fields_of a.settings.now a.numbers.now) (regions_of (not (eqb a.listed 0)) a.regions.now) a.words.now a.floats.now a.parameters.now a.points.now a.masks.now a.elements.now a.surface.now c.settings_of-s.ensures c.fields_of-f.ensures (from-numbers (answer_of c.smooth-given.result) (rw c.listed_regions.ensures at c.smooth-given.ensures.fact)) c.smooth-given.ensures.work_after c.smooth-given.ensures.floats_after c.put_answer.ensures
