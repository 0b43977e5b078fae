-- `mesh::manifold::spread` meets its contract: by which of the two is marked. Assumes nothing.
use Rattle.std.proofs.Common.{true, false, arith, eq-eqb, ne_eqb}
use Rattle.mesh.proofs.Laws.Manifold.Growth.{join-none, join-right, join-left}
use Rattle.mesh.proofs.manifold.spread.Goals as goal

pub returns-in_default : goal.returns-in_default
returns-in_default c = let a = c.args in (join-none a.mark a.x a.y a.marks.now true (eq-eqb _ _ c.in_default.is-0) (eq-eqb _ _ c.in_default.is-1), omega arith)

pub returns-in_default-2 : goal.returns-in_default-2
returns-in_default-2 c = let a = c.args in (join-none a.mark a.x a.y a.marks.now false (ne_eqb _ _ c.in_default.is-0) (ne_eqb _ _ c.in_default.is-1), omega arith)

pub returns-in-true-false : goal.returns-in-true-false
returns-in-true-false c = let a = c.args in ((join-right a.mark a.x a.y a.marks.now c.requires.1 (eq-eqb _ _ c.in-true-false.is-0) (ne_eqb _ _ c.in-true-false.is-1)), omega arith)

pub returns-in-false-true : goal.returns-in-false-true
returns-in-false-true c = let a = c.args in ((join-left a.mark a.x a.y a.marks.now c.requires.0 (ne_eqb _ _ c.in-false-true.is-0) (eq-eqb _ _ c.in-false-true.is-1)), omega arith)
