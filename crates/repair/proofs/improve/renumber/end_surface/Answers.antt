-- `repair::improve::renumber::end_surface` meets its contract. Assumes nothing.
use Rattle.std.proofs.Common.{ap}
use Rattle.std.proofs.lemmas.Result.{err_from_is_err_and}
use Rattle.mesh.specs.Surface.{outcome_of}
use Rattle.repair.proofs.Laws.Finish.Ended.{ended, none-tested}
use Rattle.repair.proofs.improve.renumber.end_surface.Goals as goal

pub returns-in_err-c : goal.returns-in_err-c
returns-in_err-c c =
    let g = c.requires in
    let p = err_from_is_err_and c.from_residual.result c.from_residual.ensures.1 in
    let n = none-tested _ _ _ (ap outcome_of c.in_err-c.was) in
    rw (p.1, p.2) (ended c.args.k c.args.nv c.args.area.now g.0 g.2 g.3 (outcome_of c.boundary_in.result) c.boundary_in.new.area c.boundary_in.ensures _ _ n.0 n.1)

pub returns : goal.returns
returns c =
    let g = c.requires in
    let t = c.test_surface.ensures in
    ended c.args.k c.args.nv c.args.area.now g.0 g.2 g.3 (outcome_of c.boundary_in.result) c.boundary_in.new.area c.boundary_in.ensures (outcome_of c.test_surface.result) c.test_surface.new.area (rw c.in_ok-c.was t.0) (rw c.in_ok-c.was t.1)
