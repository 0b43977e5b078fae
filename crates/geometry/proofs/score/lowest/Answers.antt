-- `geometry::score::lowest` meets its contract: the definition is the fold of `smaller`. Assumes nothing.
use Rattle.std.proofs.Common.{◌≡◌, List, [], ◌∷◌, refl, ◌∙◌, rules}
use Rattle.std.proofs.iter.runs.Made.{chains}
use Rattle.std.specs.List.{fold}
use lib.Ieee.{Float, of_bits}
use Rattle.geometry.specs.Float.{smaller, one64}
use Rattle.geometry.specs.Score.{lowest_from, lowest}
use Rattle.geometry.proofs.score.lowest.Goals as goal

folded : (m : Float) (l : List Float) → fold smaller m l ≡ lowest_from m l
unfolding lowest_from
folded m [] = refl
folded m (s ∷ l) = folded (smaller m s) l

pub returns : goal.returns
unfolding lowest of_bits
returns c = let e : c.fold.result ≡ fold smaller one64 c.args.scores.now = search (rules, chains) in e ∙ folded one64 c.args.scores.now
