-- The rows listed are the edges and the face keys of the bad elements, each once, in the order of their numbers. Assumes nothing.
use Rattle.std.proofs.Common.{◌≡◌, ℕ, Bool, true, false, cond, ◌&&◌, eqb, ltb, List, [], ◌∷◌, ◌++◌, map, refl, ap, ◌∙◌}
use mathlib.Core.Bool.{and-true}
use Rattle.geometry.specs.declared.point.Point.{Point}
use Rattle.mesh.specs.declared.element.Pair.{Pair}
use Rattle.mesh.specs.declared.element.Tet.{Tet}
use Rattle.mesh.specs.Sort.{sort, unique}
use Rattle.mesh.specs.inside.Rows.{le_row, eq_row}
use Rattle.mesh.specs.Complex.{keep}
use Rattle.mesh.specs.Element.{key_of, corners_of, all_edges, same_pair, le_pair}
use Rattle.mesh.specs.Boundary.{same_triple, le_triple, all_faces}
use Rattle.mesh.specs.inside.Euler.{spread, edge_rows, triangle_rows}
use Rattle.mesh.proofs.Laws.Group.Images.{sort-map, unique-map}
use Rattle.mesh.proofs.Laws.Group.Ranks.{last-le}
use Rattle.mesh.proofs.Laws.Boundary.Order.{le-corners, eq-corners}
use Rattle.mesh.specs.inside.List.{bad_in, set_of, bad_edges, bad_faces}

-- an edge as a row
abbrev pub pair_row : Pair → List ℕ
pair_row e = e.a ∷ e.b ∷ []

pub le-pair : (e f : Pair) → le_row (pair_row e) (pair_row f) ≡ le_pair e f
unfolding le_row
le-pair e f = ap (λ (b : Bool). cond (ltb e.a f.a) true (cond (ltb f.a e.a) false b)) (last-le e.b f.b)

pub eq-pair : (e f : Pair) → eq_row (pair_row e) (pair_row f) ≡ same_pair e f
unfolding eq_row
eq-pair e f = ap (λ (b : Bool). eqb e.a f.a && b) (and-true (eqb e.b f.b))

spread-edges : (ts : List Tet) → spread edge_rows ts ≡ map pair_row (all_edges ts)
unfolding spread all_edges
spread-edges [] = refl
spread-edges (t ∷ ts) = ap (λ (l : List (List ℕ)). edge_rows t ++ l) (spread-edges ts)

pub spread-faces : (ts : List Tet) → spread triangle_rows ts ≡ map corners_of (map key_of (all_faces ts))
unfolding spread all_faces
spread-faces [] = refl
spread-faces (t ∷ ts) = ap (λ (l : List (List ℕ)). triangle_rows t ++ l) (spread-faces ts)

-- "edges of bad elements in order"
pub bad-edges : (ps : List Point) (ts : List Tet) → bad_edges ps ts ≡ map pair_row (unique same_pair (sort le_pair (all_edges (keep (bad_in ps) ts))))
unfolding set_of
bad-edges ps ts =
    let es = all_edges (keep (bad_in ps) ts) in
    ap (λ (l : List (List ℕ)). unique eq_row (sort le_row l)) (spread-edges (keep (bad_in ps) ts))
    ∙ ap (unique eq_row) (sort-map pair_row le_pair le_row le-pair es) ∙ unique-map pair_row same_pair eq_row eq-pair (sort le_pair es)

-- "faces of bad elements in key order"
pub bad-faces : (ps : List Point) (ts : List Tet) → bad_faces ps ts ≡ map corners_of (unique same_triple (sort le_triple (map key_of (all_faces (keep (bad_in ps) ts)))))
unfolding set_of
bad-faces ps ts =
    let fs = map key_of (all_faces (keep (bad_in ps) ts)) in
    ap (λ (l : List (List ℕ)). unique eq_row (sort le_row l)) (spread-faces (keep (bad_in ps) ts))
    ∙ ap (unique eq_row) (sort-map corners_of le_triple le_row le-corners fs) ∙ unique-map corners_of same_triple eq_row eq-corners (sort le_triple fs)
