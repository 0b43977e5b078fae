-- The edges that `mesh::short` lists are those that a round takes. Assumes nothing.
use mathlib.Core.Path.{◌≡◌, refl, ap, ap₂}
use mathlib.Core.Bool.{Bool, true, not, cond}
use mathlib.Core.List.{List, [], ◌∷◌}
use lib.Ieee.{Float}
use Rattle.geometry.specs.declared.point.Point.{Point}
use Rattle.geometry.specs.Float.{◌*₆₄◌}
use Rattle.geometry.specs.Literals.{three_quarters}
use Rattle.mesh.specs.declared.element.Tet.{Tet}
use Rattle.mesh.specs.Sort.{sort, unique}
use Rattle.mesh.specs.Complex.{keep}
use Rattle.mesh.specs.Tests.{every}
use Rattle.mesh.specs.Element.{all_edges, same_pair}
use Rattle.mesh.specs.inside.List as slots
use Rattle.mesh.specs.inside.Short.{short, le_edge, short_edges}
use Rattle.mesh.specs.Measure.{measure, is_bad}
use Rattle.mesh.proofs.Laws.Bools.{and_left, and_right}
use Rattle.repair.specs.Improve.{listed_edges}

-- an element stands in every slot
abbrev pub Live : List Tet → Type 0
Live ts = every (λ t. not (slots.gone t)) ts ≡ true

-- where an element stands, it is bad by the points
live-bad : (ps : List Point) (t : Tet) → not (slots.gone t) ≡ true → slots.bad_in ps t ≡ is_bad (measure ps) t
unfolding slots.bad_in
live-bad ps t h = rw h refl

-- so the bad elements are the same
pub bad-same : (ps : List Point) (ts : List Tet) → Live ts → keep (slots.bad_in ps) ts ≡ keep (is_bad (measure ps)) ts
bad-same ps [] h = refl
bad-same ps (t ∷ ts) h =
    let live = and_left (not (slots.gone t)) (every (λ u. not (slots.gone u)) ts) h in
    let rest = and_right (not (slots.gone t)) (every (λ u. not (slots.gone u)) ts) h in
    ap₂ (λ (b : Bool) (l : List Tet). cond b (t ∷ l) l) (live-bad ps t live) (bad-same ps ts rest)

-- "the edges, listed at its start, of bad elements shorter than 0.75 h"
pub short-listed : (ps : List Point) (h : Float) (ts : List Tet) → Live ts → short_edges ps (three_quarters *₆₄ h) ts ≡ listed_edges (measure ps) h ts
unfolding short_edges listed_edges
short-listed ps h ts live =
    ap (λ (bads : List Tet). unique same_pair (sort (le_edge ps) (keep (short ps (three_quarters *₆₄ h)) (all_edges bads)))) (bad-same ps ts live)
