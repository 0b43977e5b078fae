-- The boundary of a list of elements (document 01, "Element and surface", "Where each number is given"; `boundary` of lib.rs).
-- It "sorts the faces by key, keeps single ones and refuses at the first bad key". Definitions only.
use Rattle.std.specs.Prelude.{ℕ, Bool, true, false, cond, ◌&&◌, ◌≢◌, List, [], ◌∷◌, ◌++◌, map, length, ◌==◌, nat_eq, nat_lt}
use Rattle.mesh.specs.declared.element.Tet.{Tet}
use Rattle.mesh.specs.declared.element.Triple.{Triple}
use Rattle.mesh.specs.Sort.{sort}
use Rattle.mesh.specs.Complex.{keep}
use Rattle.mesh.specs.Element.{faces_of, key_of, parity_of}

-- the same three numbers in the same places
abbrev pub same_triple : Triple → Triple → Bool
same_triple f g = f.a == g.a && (f.b == g.b && f.c == g.c)

-- f no later than g in dictionary order
unfoldable pub le_triple : Triple → Triple → Bool
le_triple f g =
    cond (nat_lt f.a g.a) true
    (cond (nat_lt g.a f.a) false
    (cond (nat_lt f.b g.b) true (cond (nat_lt g.b f.b) false (cond (nat_lt g.c f.c) false true))))

-- the faces of all elements
unfoldable pub all_faces : List Tet → List Triple
all_faces [] = []
all_faces (t ∷ ts) = faces_of t ++ all_faces ts

-- the faces with the key k
abbrev pub with_key : Triple → List Triple → List Triple
with_key k fs = keep (λ f. same_triple (key_of f) k) fs

-- the number that the faces of one key give: 16 "a face three times or more", 17 "a shared face with equal parities", and else 0
unfoldable pub key_number : List Triple → ℕ
key_number [] = 0
key_number (f ∷ []) = 0
key_number (f ∷ g ∷ []) = cond (parity_of f == parity_of g) 17 0
key_number (f ∷ g ∷ h ∷ fs) = 16

-- the faces of one key where it is not bad: one, or two with opposite parity
pub data OneOrTwo : List Triple → Type 0 where
  one : (f : Triple) → OneOrTwo (f ∷ [])
  two : (f g : Triple) → parity_of f ≢ parity_of g → OneOrTwo (f ∷ g ∷ [])

-- the first number above 0 that the keys give, in their order, and 0 where none does
unfoldable pub first_number : List Triple → List Triple → ℕ
first_number fs [] = 0
first_number fs (k ∷ ks) = cond (key_number (with_key k fs) == 0) (first_number fs ks) (key_number (with_key k fs))

-- 16 or 17 by the first bad key, and 0 where no key is bad
unfoldable pub boundary_number : List Tet → ℕ
boundary_number ts = first_number (all_faces ts) (sort le_triple (map key_of (all_faces ts)))

-- the faces whose key no other face has
unfoldable pub singles : List Triple → List Triple
singles fs = keep (λ f. nat_eq (length (with_key (key_of f) fs)) 1) fs

-- the surface triples: the single faces as they are, sorted as triples and not by key
unfoldable pub boundary_of : List Tet → List Triple
boundary_of ts = sort le_triple (singles (all_faces ts))
