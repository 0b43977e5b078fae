-- `flip` on values (document 01, "Element and surface"; `flip` of repair.rs). An element keeps its number through the pass: slots stand
-- in number order, each with an element or with nothing once it is replaced, and new elements get the next numbers. Definitions only.
use Rattle.std.specs.Prelude.{ℕ, ◌+◌, Bool, true, false, cond, ◌&&◌, List, [], ◌∷◌, ◌++◌, map, eqb, leb, length, get_or, set}
use Rattle.std.proofs.Math.Option.{Option, none, some}
use Rattle.std.specs.Float.Ieee.{lt}
use Rattle.geometry.specs.Float.{◌+₆₄◌}
use Rattle.geometry.specs.Literals.{e_10}
use Rattle.mesh.specs.declared.element.Pair.{Pair}
use Rattle.mesh.specs.declared.element.Triple.{Triple}
use Rattle.mesh.specs.declared.element.Tet.{Tet}
use Rattle.mesh.specs.Sort.{sort, unique}
use Rattle.mesh.specs.Complex.{keep}
use Rattle.mesh.specs.Tests.{every, any}
use Rattle.mesh.specs.Link.{without}
use Rattle.mesh.specs.Element.{all_edges, same_pair, tet, vertices_of, corners_of, key_of, le_pair, has_all}
use Rattle.mesh.specs.Boundary.{same_triple, le_triple, all_faces, boundary_number, boundary_of}
use Rattle.mesh.specs.Words.{numbers}
use Rattle.mesh.specs.Measure.{Measure, measure, is_bad, bad_count, lowest_of}
use Rattle.repair.specs.Mesh.{Mesh, Result, made, refused}

-- ---- slots

-- the same of a slot, where an element is in it
abbrev pub slot_has : List ℕ → Option Tet → Bool
slot_has σ none = false
slot_has σ (some t) = has_all σ t

-- the live elements, in number order
unfoldable pub live : List (Option Tet) → List Tet
live [] = []
live (none ∷ ss) = live ss
live (some t ∷ ss) = t ∷ live ss

-- the numbers of the slots whose element has all of these vertices
abbrev pub numbers_with : List ℕ → List (Option Tet) → List ℕ
numbers_with σ ss = keep (λ i. slot_has σ (get_or ss i none)) (numbers 0 (length ss))

-- the live elements among these numbers
abbrev pub elements_at : List (Option Tet) → List ℕ → List Tet
elements_at ss is = live (map (λ i. get_or ss i none) is)

-- nothing in the slots of these numbers
unfoldable pub emptied : List ℕ → List (Option Tet) → List (Option Tet)
emptied [] ss = ss
emptied (i ∷ is) ss = emptied is (set ss i none)

-- the vertices that the elements have besides σ, element by element
unfoldable pub besides : List ℕ → List Tet → List ℕ
besides σ [] = []
besides σ (t ∷ ts) = without σ (vertices_of t) ++ besides σ ts

-- ---- what is listed

-- "only faces and edges of elements that are bad at the start of the pass are listed": faces "in key order", each once
unfoldable pub listed_faces : Measure → List Tet → List Triple
listed_faces μ ts = unique same_triple (sort le_triple (map key_of (all_faces (keep (is_bad μ) ts))))

-- edges "in order", each once
unfoldable pub listed_edges : Measure → List Tet → List Pair
listed_edges μ ts = unique same_pair (sort le_pair (all_edges (keep (is_bad μ) ts)))

-- ---- `orient_candidates`

-- positions 2 and 3 exchanged where the determinant is below 0
abbrev pub oriented : Measure → Tet → Tet
oriented μ t = cond (μ.below t) (tet t.a t.b t.d t.c) t

-- "A flip needs each new determinant above 0 and a lowest score not below that of the elements it replaces": the Rust's tests, which ask
-- for a lowest score higher by more than 1e-10, no more bad elements and the same volume
abbrev pub accepted : Measure → List Tet → List Tet → Bool
accepted μ old new =
    every μ.above new
    && (lt (lowest_of μ old +₆₄ e_10) (lowest_of μ new) && (leb (bad_count μ new) (bad_count μ old) && μ.same_volume old new))

-- ---- flips

-- where the pass stands
pub record State : Type 0 where
  pub slots : List (Option Tet)
  pub flips : ℕ

module _ (μ : Measure) where
  -- the elements of these numbers replaced by the candidates, where those are accepted
  unfoldable pub replace : State → List ℕ → List Tet → State
  replace s is candidates =
      let new = map (oriented μ) candidates in
      cond (accepted μ (elements_at s.slots is) new) (record { slots = emptied is s.slots ++ map some new; flips = s.flips + 1 }) s

  -- two-to-three over the face u v w of the elements `is`, with the apexes a and b: "The edge that a two-to-three makes belongs to no live
  -- element before it"
  abbrev pub two_to_three : State → Triple → List ℕ → ℕ → ℕ → State
  two_to_three s f is a b =
      cond (any (slot_has (a ∷ b ∷ [])) s.slots) s
      (replace s is (tet a b f.a f.b ∷ tet a b f.b f.c ∷ tet a b f.c f.a ∷ []))

  -- "two-to-three over shared faces": the face must have exactly two of the elements `ts` at the start, both still live
  unfoldable pub try_face : List Tet → State → Triple → State
  try_face ts s f =
      let is = numbers_with (corners_of f) (map some ts) in
      let apexes = besides (corners_of f) (elements_at s.slots is) in
      cond (eqb (length is) 2 && eqb (length apexes) 2) (two_to_three s f is (get_or apexes 0 0) (get_or apexes 1 0)) s

  -- three-to-two over the edge e of the elements `is`, around the face u v w, which no live element has
  abbrev pub three_to_two : State → Pair → List ℕ → ℕ → ℕ → ℕ → State
  three_to_two s e is u v w =
      cond (any (slot_has (u ∷ v ∷ w ∷ [])) s.slots) s (replace s is (tet u v w e.a ∷ tet u v w e.b ∷ []))

  -- "a three-to-two's edge belongs to exactly three, with three other vertices in all"
  unfoldable pub try_edge : State → Pair → State
  try_edge s e =
      let is = numbers_with (e.a ∷ e.b ∷ []) s.slots in
      let others = unique eqb (sort leb (besides (e.a ∷ e.b ∷ []) (elements_at s.slots is))) in
      cond (eqb (length is) 3 && eqb (length others) 3) (three_to_two s e is (get_or others 0 0) (get_or others 1 0) (get_or others 2 0)) s

  -- the faces one after the other
  unfoldable pub try_faces : List Tet → State → List Triple → State
  try_faces ts s [] = s
  try_faces ts s (f ∷ fs) = try_faces ts (try_face ts s f) fs

  -- the edges one after the other
  unfoldable pub try_edges : State → List Pair → State
  try_edges s [] = s
  try_edges s (e ∷ es) = try_edges (try_edge s e) es

  -- "two-to-three over shared faces in key order, then three-to-two over edges in order"
  unfoldable pub flips : List Tet → State
  flips ts = try_edges (try_faces ts (record { slots = map some ts; flips = 0 }) (listed_faces μ ts)) (listed_edges μ ts)

-- ---- the end

-- the keys in order
abbrev pub sorted_keys : List Triple → List Triple
sorted_keys fs = sort le_triple (map key_of fs)

-- are two lists of triples the same
unfoldable pub same_triples : List Triple → List Triple → Bool
same_triples [] [] = true
same_triples [] (g ∷ gs) = false
same_triples (f ∷ fs) [] = false
same_triples (f ∷ fs) (g ∷ gs) = same_triple f g && same_triples fs gs

-- "Boundary, at .. the end of .. `flip`" 16 and 17, then 23 "sorted surface triples differ from those given"
unfoldable pub end_number : List Triple → List Tet → ℕ
end_number given ts =
    cond (eqb (boundary_number ts) 0) (cond (same_triples (sorted_keys (boundary_of ts)) (sorted_keys given)) 0 23) (boundary_number ts)

-- "The count is that of .. flips made": the pass by a measure
unfoldable pub flip_by : Measure → Mesh → Result
flip_by μ m =
    let s = flips μ m.elements in
    let ts = live s.slots in
    cond (eqb (end_number m.surface ts) 0)
    (made s.flips (record { parameters = m.parameters; points = m.points; masks = m.masks; elements = ts; surface = boundary_of ts }))
    (refused (end_number m.surface ts))

-- by that of its points
unfoldable pub flip : Mesh → Result
flip m = flip_by (measure m.points) m
