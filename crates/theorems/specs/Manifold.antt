-- What it is for a surface, a list of triples, to be a closed manifold, in words of the field and not of a search (document 01, number 22
-- "a nonmanifold boundary vertex"): every edge lies on two triples, and the link of every vertex is one cycle. Definitions only.
use Rattle.std.specs.Prelude.{◌≡◌, ◌≢◌, ◌⊎◌, true, ◌&&◌, ℕ, ◌≤◌, length}
use mathlib.Core.List.{List, [], ◌∷◌, Memᴰ}
use Rattle.mesh.specs.declared.element.Triple.{Triple}
use Rattle.mesh.specs.Complex.{mem, sub, keep, Nodup, Sub}
use Rattle.mesh.specs.Element.{corners_of}

-- ---- triples

-- each triple has three different corners, as every face of an element with four different vertices has
abbrev pub Different : List Triple → Type 0
Different fs = (f : Triple) → Memᴰ f fs → Nodup (corners_of f)

-- three different vertices are the corners of one triple at most, as in every surface of elements
abbrev pub Once : List Triple → Type 0
Once fs = (x y z : ℕ) → Nodup (x ∷ y ∷ z ∷ []) → length (keep (λ f. sub (x ∷ y ∷ z ∷ []) (corners_of f)) fs) ≤ 1

-- ---- edges

-- the number of triples on which the edge u v lies: those with both u and v among their corners
abbrev pub triples_on : ℕ → ℕ → List Triple → ℕ
triples_on u v fs = length (keep (λ f. mem u (corners_of f) && mem v (corners_of f)) fs)

-- every edge, between two different corners of a triple, lies on exactly two triples
abbrev pub EdgesOnTwo : List Triple → Type 0
EdgesOnTwo fs = (f : Triple) → Memᴰ f fs → (u v : ℕ) → mem u (corners_of f) ≡ true → mem v (corners_of f) ≡ true → u ≢ v → triples_on u v fs ≡ 2

-- ---- links

-- x is a vertex of the link of v: another corner of a triple that has v
pub record LinkVertex (v : ℕ) (fs : List Triple) (x : ℕ) : Type 0 where
  pub face : Triple
  pub listed : Memᴰ face fs
  pub corner : mem v (corners_of face) ≡ true
  pub other : mem x (corners_of face) ≡ true
  pub differ : v ≢ x

-- x y is an edge of the link of v: v, x and y are the three corners of a triple, in any order
pub record LinkEdge (v : ℕ) (fs : List Triple) (x y : ℕ) : Type 0 where
  pub face : Triple
  pub listed : Memᴰ face fs
  pub different : Nodup (v ∷ x ∷ y ∷ [])
  pub corners : Sub (v ∷ x ∷ y ∷ []) (corners_of face)

-- x and y are joined within the link of v: a path of its edges leads from x to y
pub data Joined (v : ℕ) (fs : List Triple) (x : ℕ) : ℕ → Type 0 where
  here : Joined v fs x x
  along : {y z : ℕ} → Joined v fs x y → LinkEdge v fs y z → Joined v fs x z

-- the link of v is connected: any two of its vertices are joined
abbrev pub Connected : ℕ → List Triple → Type 0
Connected v fs = (x y : ℕ) → LinkVertex v fs x → LinkVertex v fs y → Joined v fs x y

-- x has two neighbours within the link of v, different ones, and no other
pub record TwoNeighbours (v : ℕ) (fs : List Triple) (x : ℕ) : Type 0 where
  pub left : ℕ
  pub right : ℕ
  pub differ : left ≢ right
  pub to_left : LinkEdge v fs x left
  pub to_right : LinkEdge v fs x right
  pub only : (y : ℕ) → LinkEdge v fs x y → (y ≡ left) ⊎ (y ≡ right)

-- the link of v is one cycle: connected, and each of its vertices has two neighbours
pub record Cycle (v : ℕ) (fs : List Triple) : Type 0 where
  pub connected : Connected v fs
  pub neighbours : (x : ℕ) → LinkVertex v fs x → TwoNeighbours v fs x

-- ---- manifolds

-- a closed manifold. Its links are cycles: by `edges` two triples have v and a vertex x of its link, so that x lies on two edges of the
-- link of v, and by `links` the link is connected. Where two triples have the same three corners the two edges may be one edge twice;
-- in a surface of elements none do, and each link is a `Cycle` (`link-cycle`).
pub record Manifold (fs : List Triple) : Type 0 where
  pub edges : EdgesOnTwo fs
  pub links : (v : ℕ) → Connected v fs
