-- `repair::flip::finish::finish_flip` meets its contract: found and compared, then in the buffers or refused. Assumes nothing.
use Rattle.std.proofs.Common.{ap}
use Rattle.std.proofs.lemmas.Result.{err_from_is_err_and}
use Rattle.mesh.specs.Surface.{outcome_of}
use Rattle.repair.proofs.Laws.Flip.Finish.{commit-room, flip-done, flip-refused}
use Rattle.repair.proofs.flip.finish.finish_flip.Goals as goal

pub commit_flip-requires : goal.commit_flip-requires
commit_flip-requires c = commit-room c.args.elements.now c.args.surface.now c.args.area.now (c.requires) c.flip_surface.ensures (ap outcome_of c.in_ok-c.was) c.flip_surface.auto.area

pub returns : goal.returns
returns c = flip-done c.args.elements.now c.args.surface.now c.args.area.now (c.requires) c.flip_surface.ensures (ap outcome_of c.in_ok-c.was) c.args.count c.args.sizes.vertices _ _ c.commit_flip.ensures.0 c.commit_flip.ensures.1

pub returns-in_err-c : goal.returns-in_err-c
returns-in_err-c c =
    let p = err_from_is_err_and c.from_residual.result c.from_residual.ensures.1 in
    rw (p.1, p.2) (flip-refused c.args.elements.now c.args.surface.now c.args.area.now (c.requires) c.flip_surface.ensures (ap outcome_of c.in_err-c.was) c.args.count c.args.sizes.vertices)
