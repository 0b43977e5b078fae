-- `repair::improve::partners::find_pairs` meets its contract: the active members of the rows found are the active groups of the state. Assumes nothing.
use Rattle.repair.proofs.Laws.Pairs.Found.{active-is, paired-mesh}
use Rattle.repair.proofs.improve.partners.find_pairs.Goals as goal

pub returns : goal.returns
returns c = λ m n s e S. paired-mesh e _ _ _ _ (active-is S e c.group_of-f.ensures.0 c.args.e.a c.group_of-f.ensures.1) (active-is S e c.group_of-g.ensures.0 c.args.e.b c.group_of-g.ensures.1) c.pair_groups.ensures
