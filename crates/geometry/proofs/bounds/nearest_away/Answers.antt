-- `bounds::nearest_away` meets its contract, by `Laws.Rank.Away`. Assumes nothing.
use Rattle.std.proofs.Common.{T, sym, ap, ◌∙◌, subst}
use lib.Ieee.{to_unsigned}
use Rattle.geometry.proofs.Laws.Rank.Away.{rounded-is}
use Rattle.geometry.proofs.bounds.nearest_away.Goals as goal

pub returns : goal.returns
returns c = c.saturating_f64_to_u64.ensures ∙ ap (to_unsigned 64) c.round.ensures ∙ rounded-is c.args.q (subst T (sym c.well_formed.0.1) tt)
