-- What the trials of `flip` start from and leave in the work slice (src/flip/counts.rt). For the contracts of private functions;
-- definitions only.
use Rattle.std.specs.Prelude.{ℕ, ◌+◌, ◌*◌, ◌≤◌, ◌<◌, ◌≡◌, List, [], ◌∷◌, map, length, drop, get_or}
use Rattle.std.proofs.Math.Option.{Option, none, some}
use Rattle.geometry.specs.declared.point.Point.{Point}
use Rattle.mesh.specs.declared.element.Pair.{Pair}
use Rattle.mesh.specs.declared.element.Triple.{Triple}
use Rattle.mesh.specs.declared.element.Tet.{Tet}
use Rattle.mesh.specs.declared.star.Index.{Index}
use Rattle.mesh.specs.inside.Rows.{rows}
use Rattle.mesh.specs.Element.{corners_of}
use Rattle.mesh.specs.inside.List.{bad_edges}
use Rattle.mesh.specs.inside.Shared.{owners, shared_row, shared_faces}
use Rattle.repair.specs.declared.flip.counts.Tried.{Tried}
use Rattle.repair.specs.declared.flip.counts.Lists.{Lists}
use Rattle.repair.specs.Flip.{State, numbers_with}
use Rattle.repair.specs.inside.flip.Layout.{SlotsStand, Kept, faces_at, edges_at}

-- ---- the state

-- the work slice stands for the state s, which has these numbers of slots and flips
pub record Holds (x : Index) (n : ℕ) (t : Tried) (w : List ℕ) (s : State) : Type 0 where
  pub stands : SlotsStand x n t.slots w s
  pub flips : s.flips ≡ t.flips

-- numbers small enough to go on with
pub record Counted (x : Index) (t : Tried) : Type 0 where
  pub start : x.slots ≤ 1048576
  pub room : x.room ≤ 131072
  pub slots : t.slots ≤ 131072
  pub flips : t.flips ≤ 1048576

-- what a trial leaves: the slots within their room, and at most one flip more
pub record Counts (t r : Tried) : Type 0 where
  pub slots : r.slots ≤ 131072
  pub flips : r.flips ≤ t.flips + 1

-- after trials: the state s, what is listed kept, and room for the trials to come
pub record Went (x : Index) (n : ℕ) (bound : List (Option Tet) → Type 0) (w v : List ℕ) (r : Tried) (s : State) : Type 0 where
  pub holds : Holds x n r v s
  pub kept : Kept x w v
  pub room : bound s.slots

-- ---- slots by number

-- the old elements are those of the slots with these numbers
abbrev pub Old : List ℕ → List Tet → State → Type 0
Old is old s = map (λ i. get_or s.slots i none) is ≡ map some old

-- a slot of the start has the element of the start, or nothing
abbrev pub Start : List Tet → State → Type 0
Start ts s = (k : ℕ) (t : Tet) → k < length ts → get_or s.slots k none ≡ some t → get_or (map some ts) k none ≡ some t

-- ---- what is listed

-- a listed face: its corners rise and are vertices, and of the elements ts at the start exactly i and j have it
pub record FaceListed (nv : ℕ) (ts : List Tet) (f : Triple) (i j : ℕ) : Type 0 where
  pub first : f.a < f.b
  pub second : f.b < f.c
  pub third : f.c < nv
  pub owners : numbers_with (corners_of f) (map some ts) ≡ i ∷ j ∷ []

-- the same of all faces, each with its owners
abbrev pub FacesListed : ℕ → List Tet → List Triple → Type 0
FacesListed nv ts [] = Unit {0}
FacesListed nv ts (f ∷ fs) = FaceListed nv ts f (get_or (owners ts f) 0 0) (get_or (owners ts f) 1 0) × FacesListed nv ts fs

-- a listed edge: its vertices rise
abbrev pub EdgeListed : ℕ → Pair → Type 0
EdgeListed nv e = (e.a < e.b) × (e.b < nv)

-- the same of all edges
abbrev pub EdgesListed : ℕ → List Pair → Type 0
EdgesListed nv [] = Unit {0}
EdgesListed nv (e ∷ es) = EdgeListed nv e × EdgesListed nv es

-- the row of an edge
abbrev pub edge_row : Pair → List ℕ
edge_row e = e.a ∷ e.b ∷ []

-- where the rows of the faces begin
abbrev pub face_rows_at : Index → ℕ → ℕ
face_rows_at x n = faces_at x + 4 * n

-- those of the edges, behind the bad elements
abbrev pub edge_rows_at : Index → ℕ → ℕ → ℕ
edge_rows_at x n bad = edges_at x n + 4 * n + 4 * bad

-- the start for the elements ts: all of them live, the shared faces with their owners and the edges of bad elements listed
pub record Begun (x : Index) (n : ℕ) (ps : List Point) (ts : List Tet) (l : Lists) (w : List ℕ) : Type 0 where
  pub stands : SlotsStand x n n w (record { slots = map some ts; flips = 0 })
  pub faces : rows 5 l.faces (drop (face_rows_at x n) w) ≡ map (shared_row ts) (shared_faces ps ts)
  pub edges : rows 2 l.edges (drop (edge_rows_at x n l.bad) w) ≡ bad_edges ps ts
  pub few_faces : l.faces ≤ 4 * n
  pub few_bad : l.bad ≤ n
  pub few_edges : l.edges ≤ 6 * n
