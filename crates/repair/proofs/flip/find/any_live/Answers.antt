-- `repair::flip::find::any_live` meets its contract: the index finds what the state has. Assumes nothing.
use mathlib.Core.Path.{◌∙◌}
use Rattle.repair.proofs.Laws.Flip.Find.{any-stands}
use Rattle.repair.proofs.flip.find.any_live.Goals as goal

pub returns : goal.returns
returns c = λ n k s z hu hv. c.any_with.ensures ∙ any-stands z c.args.u c.args.v c.args.w hu hv
