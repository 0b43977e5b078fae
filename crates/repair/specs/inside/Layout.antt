-- Where `improve` keeps what it knows, in the work slice w for n elements (drawn in src/layout.rt), and when w says the same as a state of
-- specs/Improve.antt. For the contracts of private functions; definitions only.
use Rattle.std.specs.Prelude.{ℕ, zero, suc, ◌+◌, ◌*◌, ◌≤◌, ◌<◌, ◌≡◌, Bool, true, false, not, ◌||◌, List, [], ◌∷◌, map, ◌⊎◌, eqb, length, take, drop}
use Rattle.geometry.specs.declared.bounds.Options.{Options}
use Rattle.geometry.specs.declared.point.Point.{Point}
use Rattle.mesh.specs.declared.element.Pair.{Pair}
use Rattle.mesh.specs.declared.element.Tet.{Tet}
use Rattle.mesh.specs.declared.star.Index.{Index}
use Rattle.mesh.specs.Words.{word_at, flat}
use Rattle.mesh.specs.Sort.{sort}
use Rattle.mesh.specs.inside.Rows.{le_row}
use Rattle.mesh.specs.Complex.{mem, keep, Nodup}
use Rattle.mesh.specs.Tests.{every}
use Rattle.mesh.specs.Sets.{among}
use Rattle.mesh.specs.Element.{pair, same_pair, tets, vertices_of}
use Rattle.mesh.specs.inside.Group.{group_rows}
use Rattle.mesh.specs.Intake.{well_numbered}
use Rattle.mesh.specs.inside.List.{gone}
use Rattle.mesh.specs.inside.Star.{Complete, gone_word}
use Rattle.repair.specs.Mesh.{Mesh}
use Rattle.repair.specs.Improve.{State}

-- ---- the elements

-- a buffer has room for n elements, with four different vertices of nv each
abbrev pub Elements : ℕ → ℕ → List ℕ → Type 0
Elements nv n els = (4 * n ≤ length els) × (every (well_numbered nv) (tets n els) ≡ true)

-- ---- the areas

-- where the flags of replaced vertices, the pairs and the listed edges begin; the sorted rows of the groups begin at 0
abbrev pub flags_at : Index → ℕ
flags_at x = 7 * x.vertices

abbrev pub pairs_at : Index → ℕ
pairs_at x = 8 * x.vertices

abbrev pub edges_at : Index → ℕ
edges_at x = x.lengths + x.vertices

-- the layout for n elements in m words: groups, flags, pairs, slots, the index of the slots, edges, and an area for the rest
pub record Room (x : Index) (n m : ℕ) : Type 0 where
  pub few : x.vertices ≤ 4096
  pub elements : n ≤ 16384
  pub room : x.room ≡ n
  pub slots : x.slots ≡ 10 * x.vertices
  pub nexts : x.nexts ≡ x.slots + 4 * n
  pub heads : x.heads ≡ x.nexts + 4 * n
  pub lengths : x.lengths ≡ x.heads + x.vertices
  pub area : x.area ≡ x.lengths + x.vertices + 24 * n
  pub long : 256 * n + 32 * x.vertices + 1024 ≤ m

-- ---- what they hold

-- the slots, those that are gone included
abbrev pub slots_in : Index → ℕ → List ℕ → List Tet
slots_in x n w = tets n (drop x.slots w)

-- the elements still there
unfoldable pub live_in : Index → ℕ → List ℕ → List Tet
live_in x n w = keep (λ t. not (gone t)) (slots_in x n w)

-- a slot is gone, with no vertex in any of its words, or has an element with four different vertices of nv
unfoldable pub slot_ok : ℕ → Tet → Bool
slot_ok nv t = every (eqb gone_word) (vertices_of t) || well_numbered nv t

-- the first k pairs of a list of words, two words each
unfoldable pub pairs_of : ℕ → List ℕ → List Pair
pairs_of zero s = []
pairs_of (suc k) s = pair (word_at s 0) (word_at s 1) ∷ pairs_of k (drop 2 s)

-- the k pairs of the pairs' area
abbrev pub pairs_in : Index → ℕ → List ℕ → List Pair
pairs_in x k w = pairs_of k (drop (pairs_at x) w)

-- the vertices of the first k rows of a list of words, four words each, and of the rows in the edges' area
unfoldable pub row_edges : ℕ → List ℕ → List Pair
row_edges zero s = []
row_edges (suc k) s = pair (word_at s 2) (word_at s 3) ∷ row_edges k (drop 4 s)

abbrev pub edges_in : Index → ℕ → List ℕ → List Pair
edges_in x k w = row_edges k (drop (edges_at x) w)

-- each vertex goes into itself, or no vertex is both the first of a pair and the second of one
abbrev pub Apart : List Pair → Type 0
Apart es = ((e : Pair) → among same_pair e es ≡ true → e.a ≡ e.b) ⊎ ((v : ℕ) → mem v (map (λ e. e.a) es) ≡ true → mem v (map (λ e. e.b) es) ≡ false)

-- pairs as `replace` takes them: of vertices, none the first or the second of two pairs
pub record Pairs (nv : ℕ) (es : List Pair) : Type 0 where
  pub below : (e : Pair) → among same_pair e es ≡ true → (e.a < nv) × (e.b < nv)
  pub firsts : Nodup (map (λ e. e.a) es)
  pub seconds : Nodup (map (λ e. e.b) es)
  pub apart : Apart es

-- the same outside the words from a up to b
pub record Same (s t : List ℕ) (a b : ℕ) : Type 0 where
  pub long : length t ≡ length s
  pub before : (j : ℕ) → j < a → word_at t j ≡ word_at s j
  pub behind : (j : ℕ) → b ≤ j → word_at t j ≡ word_at s j

-- the work slice stands for the state s
pub record Stands (o : Options) (m : Mesh) (x : Index) (n : ℕ) (w : List ℕ) (s : State) : Type 0 where
  pub room : Room x n (length w)
  pub many : length m.parameters ≡ x.vertices
  pub groups : take (7 * x.vertices) w ≡ flat (sort le_row (group_rows o m.parameters))
  pub flags : (v : ℕ) → v < x.vertices → eqb (word_at w (flags_at x + v)) 0 ≡ not (mem v s.replaced)
  pub elements : s.elements ≡ live_in x n w
  pub proper : every (slot_ok x.vertices) (slots_in x n w) ≡ true
  pub index : Complete x w (4 * n)

-- the vertices of the mesh have these parameters, points and masks
pub record Reads (m : Mesh) (ps qs : List Point) (ms : List ℕ) : Type 0 where
  pub parameters : m.parameters ≡ ps
  pub points : m.points ≡ qs
  pub masks : m.masks ≡ ms

-- the work slice stands for some state of a mesh with such vertices
abbrev pub Ready : Options → Index → ℕ → List ℕ → List Point → List Point → List ℕ → Type 0
Ready o x n w ps qs ms = (m : Mesh) × (s : State) × Reads m ps qs ms × Stands o m x n w s
