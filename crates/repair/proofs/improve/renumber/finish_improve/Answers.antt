-- `repair::improve::renumber::finish_improve` meets its contract: numbered, tested, then in the buffers or refused. Assumes nothing.
use mathlib.Core.Path.{refl, ap}
use Rattle.std.proofs.lemmas.Result.{err_from_is_err_and}
use Rattle.mesh.specs.Surface.{outcome_of}
use Rattle.repair.specs.inside.improve.Renumber.{state_in}
use Rattle.repair.proofs.Laws.Finish.Whole.{surface-room, mesh-room, done-is, refused_end}
use Rattle.repair.proofs.improve.renumber.finish_improve.Goals as goal

pub end_surface-requires : goal.end_surface-requires
end_surface-requires c = surface-room c.requires.0 c.renumber-n.auto.area c.renumber-n.ensures

pub commit-requires : goal.commit-requires
commit-requires c = mesh-room c.requires.0 c.renumber-n.auto.area c.renumber-n.ensures c.end_surface.auto.area c.end_surface.ensures (ap outcome_of c.in_ok-c.was) c.args.sizes refl c.requires.1

pub returns-clause-ended : goal.returns-clause-ended
returns-clause-ended c = let a = c.args in done-is c.requires.0 c.renumber-n.auto.area c.renumber-n.ensures c.end_surface.auto.area c.end_surface.ensures (ap outcome_of c.in_ok-c.was) a.count (state_in a.sizes a.mesh.now) refl c.commit.ensures.moved

pub returns-in_err-c-clause-ended : goal.returns-in_err-c-clause-ended
returns-in_err-c-clause-ended c = let a = c.args in let p = err_from_is_err_and c.from_residual.result c.from_residual.ensures.1 in rw (p.1, p.2) (refused_end c.requires.0 c.renumber-n.auto.area c.renumber-n.ensures c.end_surface.auto.area c.end_surface.ensures (ap outcome_of c.in_err-c.was) a.count (state_in a.sizes a.mesh.now))
