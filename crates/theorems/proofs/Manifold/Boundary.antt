-- The surface of well numbered elements: its triples have three different corners each, and no three vertices are the corners of two
-- (`boundary-different`, `boundary-once`). So of it `nonmanifold` is false exactly where it is a closed manifold, and then the link of each
-- vertex is one cycle (`boundary-manifold`, `boundary-cycles`). Assumes nothing.
use mathlib.Core.Path.{◌≡◌, refl, sym, ap, subst, ◌∙◌}
use mathlib.Core.Logic.{inl, inr}
use mathlib.Core.Bool.{Bool, true, false}
use mathlib.Core.List.Memᴰ
use mathlib.Core.List.{List, [], ◌∷◌, Memᴰ}
use Prim.Native.Nat.{ℕ, ◌≤◌}
use native.Mathlib.Omega.{arith}
use borrow.Author.Tests.{eqb-true, eqb-false}
use lib.Dec.{eqb}
use lib.ListN.{length}
use Rattle.mesh.specs.declared.element.Tet.{Tet}
use Rattle.mesh.specs.declared.element.Triple.{Triple}
use Rattle.mesh.specs.Complex.{sub, keep, Nodup}
use Rattle.mesh.specs.Tests.{every}
use Rattle.mesh.specs.Sort.{sort}
use Rattle.mesh.specs.Element.{faces_of, triple, corners_of, key_of}
use Rattle.mesh.specs.Boundary.{same_triple, le_triple, all_faces, with_key, singles, boundary_of}
use Rattle.mesh.specs.Intake.{well_numbered}
use Rattle.mesh.specs.Manifold.{nonmanifold}
use Rattle.mesh.proofs.Laws.Complex.Sets.{split, same, sub-elim, sub-intro}
use Rattle.mesh.proofs.Laws.Link.Members.{kept-elim}
use Rattle.mesh.proofs.Laws.Link.Keys.{Fours, key-mem, key-rising, key-same, triple-decides, face-nodup}
use Rattle.mesh.proofs.Laws.Link.Boundary.{times-some}
use Rattle.mesh.proofs.Laws.Boundary.Same.{sort-rearranges}
use Rattle.mesh.proofs.Laws.Boundary.Runs.{lonely}
use Rattle.mesh.proofs.Laws.Boundary.Meaning.{surface-once, surface-else}
use Rattle.repair.proofs.Laws.Flip.Begun.{numbered-fours}
use Rattle.theorems.specs.Manifold.{Different, Once, Cycle, Manifold}
use Rattle.theorems.proofs.Manifold.Counts.{kept-count}
use Rattle.theorems.proofs.Manifold.Whole.{manifold-elim, manifold-intro}
use Rattle.theorems.proofs.Manifold.Cycles.{link-cycle}

-- ---- three different corners

faces-different : (ts : List Tet) → Fours ts → Different (all_faces ts)
unfolding all_faces
faces-different [] P f m = absurd (Memᴰ.not-nil m)
faces-different (t ∷ ts) P f m =
    elim (Memᴰ.append_cases (faces_of t) m) [
      | inl i ↦ face-nodup t f (P t (Memᴰ.head refl)) i
      | inr i ↦ faces-different ts (λ u n. P u (Memᴰ.tail n)) f i
    ]

-- a triple of the surface is a face of an element
surface-face : (ts : List Tet) (f : Triple) → Memᴰ f (boundary_of ts) → Memᴰ f (all_faces ts)
unfolding boundary_of singles
surface-face ts f m =
    let k = kept-count (same_triple f) (sort le_triple (singles (all_faces ts))) m (triple-decides.self f) in
    let e = sort-rearranges le_triple (singles (all_faces ts)) (same_triple f) in
    (kept-elim (lonely (all_faces ts)) (all_faces ts) (times-some same_triple triple-decides f (singles (all_faces ts)) (omega arith))).0

pub boundary-different : (ts : List Tet) → Fours ts → Different (boundary_of ts)
boundary-different ts P f m = faces-different ts P f (surface-face ts f m)

-- ---- no corners twice

-- tests that agree on the members pass the same
keep-alike : {A : Type 0} (p q : A → Bool) (xs : List A) → ((x : A) → Memᴰ x xs → p x ≡ q x) → keep p xs ≡ keep q xs
keep-alike p q [] h = refl
keep-alike p q (x ∷ xs) h =
    let ih : keep p xs ≡ keep q xs = keep-alike p q xs (λ y m. h y (Memᴰ.tail m)) in
    rw (h x (Memᴰ.head refl)) (elim (split (q x)) [ inl k ↦ rw k (ap (λ l. x ∷ l) ih) | inr k ↦ rw k ih ])

-- the surface has one triple of a key at most
key-once : (ts : List Tet) (k : Triple) → length (with_key k (boundary_of ts)) ≤ 1
key-once ts k =
    elim (split (eqb (length (with_key k (all_faces ts))) 1)) [
      | inl h ↦ go (with_key k (all_faces ts)) refl (eqb-true _ 1 h)
      | inr h ↦ rw (surface-else ts k (eqb-false _ 1 h)) (omega arith)
    ]
  where
    go : (l : List Triple) → with_key k (all_faces ts) ≡ l → length (with_key k (all_faces ts)) ≡ 1 → length (with_key k (boundary_of ts)) ≤ 1
    go [] e h = absurd (let q = ap length e in omega arith)
    go (f ∷ []) e h = rw (surface-once ts k f e) (omega arith)
    go (f ∷ g ∷ l) e h = absurd (let q = ap length e in omega arith)

pub boundary-once : (ts : List Tet) → Fours ts → Once (boundary_of ts)
boundary-once ts P x y z d =
    let e = keep-alike (λ g. sub (x ∷ y ∷ z ∷ []) (corners_of g)) (λ g. same_triple (key_of g) k) (boundary_of ts) (λ g m. at g (boundary-different ts P g m)) in
    rw e (key-once ts k)
  where
    k : Triple
    k = key_of (triple x y z)

    at : (g : Triple) → Nodup (corners_of g) → sub (x ∷ y ∷ z ∷ []) (corners_of g) ≡ same_triple (key_of g) (key_of (triple x y z))
    at g n =
        let s = key-same (key_of (triple x y z)) g (key-rising (triple x y z) d) n in
        same
        (λ h. let i = sub-elim (x ∷ y ∷ z ∷ []) (corners_of g) h in turn (key_of (triple x y z)) (key_of g) (s ∙ sub-intro (corners_of (key_of (triple x y z))) (corners_of g) (λ w m. i w (sym (key-mem (triple x y z) w) ∙ m))))
        (λ h. let i = sub-elim (corners_of (key_of (triple x y z))) (corners_of g) (sym s ∙ turn (key_of g) (key_of (triple x y z)) h) in sub-intro (x ∷ y ∷ z ∷ []) (corners_of g) (λ w m. i w (key-mem (triple x y z) w ∙ m)))
      where
        turn : (f g : Triple) → same_triple f g ≡ true → same_triple g f ≡ true
        turn f g h = subst (λ u. same_triple u f ≡ true) (triple-decides.equal f g h) (triple-decides.self f)

-- ---- the test

module _ (n : ℕ) (ts : List Tet) (numbered : every (well_numbered n) ts ≡ true) where
  -- the surface passes the test exactly where it is a closed manifold
  pub boundary-manifold : (nonmanifold (boundary_of ts) ≡ false → Manifold (boundary_of ts)) × (Manifold (boundary_of ts) → nonmanifold (boundary_of ts) ≡ false)
  boundary-manifold = let d = boundary-different ts (numbered-fours n ts numbered) in (manifold-elim (boundary_of ts) d, manifold-intro (boundary_of ts) d)

  -- and then the link of each vertex is one cycle
  pub boundary-cycles : nonmanifold (boundary_of ts) ≡ false → (v : ℕ) → Cycle v (boundary_of ts)
  boundary-cycles h =
      let P = numbered-fours n ts numbered in
      link-cycle (boundary_of ts) (boundary-different ts P) (boundary-once ts P) (boundary-manifold.0 h)
