-- `halmafir::arrays::field_at` meets its contract: it reads its five places. Assumes nothing.
use Rattle.halmafir.specs.Arrays.{field_at}
use borrow.Author.Rules.{rules}
use Rattle.halmafir.proofs.arrays.field_at.Goals as goal

pub returns : goal.returns
unfolding field_at
returns c = search rules
