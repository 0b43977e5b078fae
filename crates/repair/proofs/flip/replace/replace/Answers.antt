-- `repair::flip::replace::replace` meets its contract. Assumes nothing.
use mathlib.Core.Path.{refl, sym, ◌∙◌}
use Rattle.mesh.specs.Words.{points_in}
use Rattle.mesh.specs.Measure.{measure}
use Rattle.repair.proofs.Laws.Flip.Replaced.{replace-not, replace-made}
use Rattle.repair.proofs.flip.replace.replace.Goals as goal

pub returns-then-not-is_accepted-clause-by_index : goal.returns-then-not-is_accepted-clause-by_index
returns-then-not-is_accepted-clause-by_index c = λ n s z o ok room.
    let a = c.args in
    replace-not (measure (points_in a.given.now.points)) a.given.now.index n a.t a.work.now s z a.at.now a.old.now a.candidates.now _ o c.orient.ensures (sym c.is_accepted.ensures ∙ c.if-not-is_accepted.true)

pub returns-clause-by_index : goal.returns-clause-by_index
returns-clause-by_index c = λ n s z o ok room.
    let a = c.args in
    replace-made (measure (points_in a.given.now.points)) a.given.now.index n a.t a.work.now s z a.at.now a.old.now a.candidates.now _ o c.orient.ensures (sym c.is_accepted.ensures ∙ c.if-not-is_accepted.false) ok room _ _ c.empty_slots.ensures c.add_slots.ensures _ refl
