-- What the steps of `flip`'s beginning write to the work slice (src/flip/prepare.rt). For the contracts of private functions; definitions
-- only.
use Rattle.std.specs.Prelude.{ℕ, ◌*◌, ◌≤◌, ◌≡◌, List, map, drop}
use Rattle.std.proofs.Math.Option.{some}
use Rattle.geometry.specs.declared.point.Point.{Point}
use Rattle.mesh.specs.declared.element.Tet.{Tet}
use Rattle.mesh.specs.declared.list.Listed.{Listed}
use Rattle.mesh.specs.declared.star.Index.{Index}
use Rattle.mesh.specs.inside.Rows.{rows}
use Rattle.mesh.specs.inside.List.{bad_edges}
use Rattle.mesh.specs.inside.Shared.{shared_row, shared_faces}
use Rattle.repair.specs.inside.Layout.{Same}
use Rattle.repair.specs.inside.flip.Layout.{SlotsStand, Kept, faces_at, edges_at}
use Rattle.repair.specs.inside.flip.Tries.{face_rows_at, edge_rows_at}

-- v is w with the shared faces of the elements ts, r of them, in the faces' area
pub record FacesLaid (x : Index) (n : ℕ) (ps : List Point) (ts : List Tet) (r : ℕ) (w v : List ℕ) : Type 0 where
  pub same : Same w v (faces_at x) (edges_at x n)
  pub rows : rows 5 r (drop (face_rows_at x n) v) ≡ map (shared_row ts) (shared_faces ps ts)
  pub few : r ≤ 4 * n

-- v is w with the edges of the bad ones of the elements ts, as many as r says, in the edges' area
pub record EdgesLaid (x : Index) (n : ℕ) (ps : List Point) (ts : List Tet) (r : Listed) (w v : List ℕ) : Type 0 where
  pub same : Same w v (edges_at x n) x.area
  pub rows : rows 2 r.rows (drop (edge_rows_at x n r.elements) v) ≡ bad_edges ps ts
  pub few_bad : r.elements ≤ n
  pub few : r.rows ≤ 6 * n

-- v has the elements ts in the first slots, and what is listed in w
pub record SlotsLaid (x : Index) (n : ℕ) (ts : List Tet) (w v : List ℕ) : Type 0 where
  pub stands : SlotsStand x n n v (record { slots = map some ts; flips = 0 })
  pub kept : Kept x w v
