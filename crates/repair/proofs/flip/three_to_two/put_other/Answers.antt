-- `repair::flip::three_to_two::put_other` meets its contract. Assumes nothing.
use Rattle.repair.proofs.Laws.Flip.Others.{other-first, other-second, other-put}
use Rattle.repair.proofs.flip.three_to_two.put_other.Goals as goal
use Rattle.repair.proofs.flip.three_to_two.put_other.Goals.{then-v-e-via-then-v-e, then-v-e-via-else-v-e+then-v-e-2}

pub returns-then-v-e-clause-puts : goal.returns-then-v-e-clause-puts
returns-then-v-e-clause-puts c =
    elim c.then-v-e.branch [
      | then-v-e-via-then-v-e w ↦ (other-first c.args.e c.args.area.now c.args.k c.args.v w.if-v-e.true).0
      | then-v-e-via-else-v-e+then-v-e-2 w ↦ (other-second c.args.e c.args.area.now c.args.k c.args.v w.if-v-e.false w.if-v-e-2.true).0
    ]

pub returns-clause-puts : goal.returns-clause-puts
returns-clause-puts c = (other-put c.args.e c.args.area.now _ c.args.k c.args.v c.if-v-e.false c.if-v-e-2.false c.requires c.put.ensures).0
