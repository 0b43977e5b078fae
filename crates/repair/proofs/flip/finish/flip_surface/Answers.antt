-- `repair::flip::finish::flip_surface` meets its contract. Assumes nothing.
use Rattle.std.proofs.Common.{ap}
use Rattle.std.proofs.lemmas.Result.{err_from_is_err_and}
use Rattle.mesh.specs.Surface.{outcome_of}
use Rattle.repair.proofs.Laws.Same.{same_refl}
use Rattle.repair.proofs.Laws.Flip.Ended.{surface-ended, keyed-none}
use Rattle.repair.proofs.flip.finish.flip_surface.Goals as goal

pub returns-in_err-c : goal.returns-in_err-c
returns-in_err-c c =
    let a = c.args in
    let p = err_from_is_err_and c.from_residual.result c.from_residual.ensures.1 in
    rw (p.1, p.2) (surface-ended a.k a.g a.area.now a.surface.now c.requires.0 c.requires.3 (outcome_of c.boundary_in.result) c.boundary_in.new.area c.boundary_in.ensures _ _ (keyed-none a.k a.g _ a.surface.now (ap outcome_of c.in_err-c.was)) (same_refl _ _ _))

pub returns : goal.returns
returns c =
    let a = c.args in
    surface-ended a.k a.g a.area.now a.surface.now c.requires.0 c.requires.3 (outcome_of c.boundary_in.result) c.boundary_in.new.area c.boundary_in.ensures (outcome_of c.test_keys.result) c.test_keys.new.area (rw c.in_ok-c.was c.test_keys.ensures.value) c.test_keys.ensures.same
