-- `repair::flip::find::list_both` meets its contract: the index lists what the state has. Assumes nothing.
use Rattle.repair.proofs.Laws.Flip.Find.{both-stands}
use Rattle.repair.proofs.flip.find.list_both.Goals as goal

pub returns : goal.returns
returns c = λ n k s z ha hb. both-stands z c.args.e.a c.args.e.b _ _ ha hb c.slots_with.ensures.0 c.slots_with.ensures.1
