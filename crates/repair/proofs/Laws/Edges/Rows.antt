-- The rows of the short edges: how many, and the edges that they stand for. Assumes nothing.
use mathlib.Core.Path.{◌≡◌, refl, sym, ap, ap₂, ◌∙◌}
use mathlib.Core.List.{List, [], ◌∷◌, ◌++◌, map}
use Prim.Native.Nat.{ℕ, zero, suc, ◌+◌, ◌*◌, ◌≤◌, ◌<◌}
use native.Mathlib.Omega.{arith}
use lib.Ieee.{Float}
use lib.ListN.{length, drop}
use lib.Seq.{get_or-drop}
use Rattle.geometry.specs.declared.point.Point.{Point}
use Rattle.mesh.specs.declared.element.Pair.{Pair}
use Rattle.mesh.specs.declared.element.Tet.{Tet}
use Rattle.mesh.specs.Words.{word_at, flat}
use Rattle.mesh.specs.Sort.{sort}
use Rattle.mesh.specs.Complex.{keep}
use Rattle.mesh.specs.Element.{pair, all_edges, same_pair}
use Rattle.mesh.specs.inside.List.{bad_in}
use Rattle.mesh.specs.inside.Short.{short, le_edge, short_edges, edge_row}
use Rattle.mesh.proofs.Laws.Boundary.Same.{length-keep}
use Rattle.mesh.proofs.Laws.Sort.{length-sort}
use Rattle.mesh.proofs.Laws.Unique.{length-unique}
use Rattle.mesh.proofs.Laws.Short.Loops.{length-all}
use Rattle.repair.specs.inside.Layout.{row_edges}

-- no more than six edges an element
pub short-few : (ps : List Point) (limit : Float) (ts : List Tet) → length (short_edges ps limit ts) ≤ 6 * length ts
unfolding short_edges
short-few ps limit ts =
    let bad = keep (bad_in ps) ts in
    let es = keep (short ps limit) (all_edges bad) in
    omega (
      arith,
      length-unique same_pair (sort (le_edge ps) es),
      length-sort (le_edge ps) es,
      length-keep (short ps limit) (all_edges bad),
      length-all bad,
      length-keep (bad_in ps) ts,
    )

-- the edges of the rows
pub rows-edges : (ps : List Point) (es : List Pair) (z : List ℕ) → row_edges (length es) (flat (map (edge_row ps) es) ++ z) ≡ es
unfolding row_edges flat edge_row
rows-edges ps [] z = refl
rows-edges ps (e ∷ es) z = ap (λ (l : List Pair). e ∷ l) (rows-edges ps es z)

-- the same edges where their words are the same
pub edges-same : (k : ℕ) (s t : List ℕ) → ((j : ℕ) → j < 4 * k → word_at t j ≡ word_at s j) → row_edges k t ≡ row_edges k s
unfolding row_edges
edges-same zero s t h = refl
edges-same (suc k) s t h =
    ap₂ (λ (e : Pair) (l : List Pair). e ∷ l) (ap₂ pair (h 2 (omega arith)) (h 3 (omega arith)))
    (edges-same k (drop 4 s) (drop 4 t) (λ j g. get_or-drop 4 t j 0 ∙ h (4 + j) (omega arith) ∙ sym (get_or-drop 4 s j 0)))
