-- Where `flip` keeps what it knows, in the work slice w for n elements (drawn in src/flip/layout.rt), and when w says the same as a state
-- of specs/Flip.antt. For the contracts of private functions; definitions only.
use Rattle.std.specs.Prelude.{ℕ, ◌+◌, ◌*◌, ◌≤◌, ◌<◌, ◌≡◌, true, cond, List, map, length, take, set}
use Rattle.std.specs.Prelude as std
use Rattle.std.proofs.Math.Option.{Option, none, some}
use Rattle.mesh.specs.declared.element.Triple.{Triple}
use Rattle.mesh.specs.declared.element.Tet.{Tet}
use Rattle.mesh.specs.declared.star.Index.{Index}
use Rattle.mesh.specs.Words.{word_at}
use Rattle.mesh.specs.Tests.{every}
use Rattle.mesh.specs.Element.{triple}
use Rattle.mesh.specs.inside.List.{gone}
use Rattle.mesh.specs.inside.Star.{Complete}
use Rattle.repair.specs.declared.flip.inputs.Inputs.{Inputs}
use Rattle.repair.specs.Flip.{State, live}
use Rattle.repair.specs.inside.Layout.{slots_in, slot_ok}

-- ---- the areas

-- where the faces begin, and with them the edges: each behind a copy of the elements of the start
abbrev pub faces_at : Index → ℕ
faces_at x = x.lengths + x.vertices

-- the edges lie behind the faces
abbrev pub edges_at : Index → ℕ → ℕ
edges_at x n = faces_at x + 44 * n

-- the layout for n elements in m words: six slots an element, the index of the slots, faces, edges, and an area for the rest
pub record FlipRoom (x : Index) (n m : ℕ) : Type 0 where
  pub few : x.vertices ≤ 4096
  pub elements : n ≤ 16384
  pub room : x.room ≡ 6 * n
  pub slots : x.slots ≡ 0
  pub nexts : x.nexts ≡ 24 * n
  pub heads : x.heads ≡ 48 * n
  pub lengths : x.lengths ≡ 48 * n + x.vertices
  pub area : x.area ≡ x.lengths + x.vertices + 76 * n
  pub long : 256 * n + 32 * x.vertices + 1024 ≤ m

-- the same for what `flip` reads and its work slice
abbrev pub RoomFor : Inputs → List ℕ → Type 0
RoomFor i w = FlipRoom i.index i.elements (length w)

-- ---- what they hold

-- what is in a slot: nothing where it is gone
unfoldable pub slot_of : Tet → Option Tet
slot_of t = cond (gone t) none (some t)

-- the same for the code
abbrev pub live_of : Tet → std.Option Tet
live_of t = cond (gone t) std.None (std.Some t)

-- the first c slots of the work slice stand for the state s
pub record SlotsStand (x : Index) (n c : ℕ) (w : List ℕ) (s : State) : Type 0 where
  pub room : FlipRoom x n (length w)
  pub fits : c ≤ x.room
  pub slots : s.slots ≡ map slot_of (slots_in x c w)
  pub proper : every (slot_ok x.vertices) (slots_in x c w) ≡ true
  pub index : Complete x w (4 * c)

-- what is listed is the same
pub record Kept (x : Index) (w v : List ℕ) : Type 0 where
  pub long : length v ≡ length w
  pub listed : (j : ℕ) → faces_at x ≤ j → j < x.area → word_at v j ≡ word_at w j

-- ---- how many slots a pass takes

-- while faces are tried: of n elements at the start A are live, each flip takes two of them and makes three
pub record FacesBound (n : ℕ) (ss : List (Option Tet)) : Type 0 where
  pub many : n ≤ length ss
  pub slots : 2 * length ss + 3 * length (live (take n ss)) ≤ 5 * n
  pub live : 2 * length (live ss) + length (live (take n ss)) ≤ 3 * n

-- while edges are tried: each flip takes three live elements and makes two
abbrev pub EdgesBound : ℕ → List (Option Tet) → Type 0
EdgesBound n ss = 2 * length ss + 4 * length (live ss) ≤ 11 * n

-- ---- triples in the area

-- the triple whose three words begin at p
abbrev pub triple_at : List ℕ → ℕ → Triple
triple_at w p = triple (word_at w p) (word_at w (p + 1)) (word_at w (p + 2))

-- w with the triple f at d
abbrev pub with_triple : Triple → ℕ → List ℕ → List ℕ
with_triple f d w = set (set (set w d f.a) (d + 1) f.b) (d + 2) f.c
