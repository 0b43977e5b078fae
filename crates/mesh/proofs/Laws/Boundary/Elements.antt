-- The surface by elements, where each has four different vertices: its faces have different keys, so that a key has as many faces as
-- elements; the surface has one triple for each key that only one element has, that element's face, and no others.
-- Assumes nothing.
use Rattle.std.proofs.Common.{◌≡◌, ℕ, zero, suc, ◌+◌, ◌≤◌, Bool, true, false, cond, ◌||◌, eqb, ltb, List, [], ◌∷◌, ◌++◌, length, sym, refl, ap, ◌∙◌, arith, length-append, lt-ltb, eq-eqb, ne_eqb}
use borrow.Author.Tests.{eqb-false}
use Rattle.mesh.specs.declared.element.Tet.{Tet}
use Rattle.mesh.specs.declared.element.Triple.{Triple}
use Rattle.mesh.specs.Complex.{mem, keep, Nodup}
use Rattle.mesh.specs.Element.{triple, faces_of, vertices_of, corners_of, key_of}
use Rattle.mesh.specs.Boundary.{same_triple, all_faces, with_key, boundary_of}
use Rattle.mesh.specs.inside.Surface.{has_key, AllDistinct}
use Rattle.mesh.proofs.Laws.Bools.{clash, or_swap}
use Rattle.mesh.proofs.Laws.Link.Keys.{key-mem}
use Rattle.mesh.proofs.Laws.Boundary.Order.{same-sound}
use Rattle.mesh.proofs.Laws.Boundary.Meaning.{surface-once, surface-else}
use Rattle.mesh.proofs.Laws.Intake.Chains.{neither_left, neither_right}

-- a vertex that one face has and another has not keeps their keys apart
keys-apart : (x : ℕ) (f g : Triple) → mem x (corners_of f) ≡ true → mem x (corners_of g) ≡ false → key_of f ≡ key_of g → ⊥
keys-apart x f g p q e = clash (mem x (corners_of g)) (sym (key-mem g x) ∙ ap (λ (u : Triple). mem x (corners_of u)) (sym e) ∙ key-mem f x ∙ p) q

in-first : (x y z : ℕ) → mem x (x ∷ y ∷ z ∷ []) ≡ true
in-first x y z = rw (eq-eqb x x refl)

in-second : (x y z : ℕ) → mem x (y ∷ x ∷ z ∷ []) ≡ true
in-second x y z = or_swap (eqb x y) (eqb x x) (eqb x z || false) ∙ in-first x y z

in-third : (x y z : ℕ) → mem x (y ∷ z ∷ x ∷ []) ≡ true
in-third x y z = ap (λ (u : Bool). eqb x y || u) (or_swap (eqb x z) (eqb x x) false) ∙ in-second x y z

not_in : (x y z w : ℕ) → (x ≡ y → ⊥) → (x ≡ z → ⊥) → (x ≡ w → ⊥) → mem x (y ∷ z ∷ w ∷ []) ≡ false
not_in x y z w f g h = rw (ne_eqb x y f, ne_eqb x z g, ne_eqb x w h)

-- ---- the faces of an element have different keys

-- how many faces a test adds
length-if : (p : Triple → Bool) (f : Triple) (l : List Triple) → length (keep p (f ∷ l)) ≡ cond (p f) 1 0 + length (keep p l)
length-if p f l = go (p f)
  where
    go : (t : Bool) → length (cond t (f ∷ keep p l) (keep p l)) ≡ cond t 1 0 + length (keep p l)
    go true = omega arith
    go false = omega arith

pair-once : (k f g : Triple) → (key_of f ≡ key_of g → ⊥) → cond (same_triple (key_of f) k) 1 0 + cond (same_triple (key_of g) k) 1 0 ≤ 1
pair-once k f g h = go (same_triple (key_of f) k) (same_triple (key_of g) k) refl refl
  where
    go : (s t : Bool) → same_triple (key_of f) k ≡ s → same_triple (key_of g) k ≡ t → cond s 1 0 + cond t 1 0 ≤ 1
    go true true p q = absurd (h (same-sound (key_of f) k p ∙ sym (same-sound (key_of g) k q)))
    go true false p q = omega arith
    go false true p q = omega arith
    go false false p q = omega arith

-- four different vertices, two by two
record Different (a b c d : ℕ) : Type 0 where
  ab : a ≡ b → ⊥
  ac : a ≡ c → ⊥
  ad : a ≡ d → ⊥
  bc : b ≡ c → ⊥
  bd : b ≡ d → ⊥
  cd : c ≡ d → ⊥

different : (t : Tet) → Nodup (vertices_of t) → Different t.a t.b t.c t.d
different t n =
    let a = t.a in
    let b = t.b in
    let c = t.c in
    let d = t.d in
    let p = neither_right (eqb a b) (eqb a c || (eqb a d || false)) n.0 in
    record {
      ab = eqb-false a b (neither_left (eqb a b) (eqb a c || (eqb a d || false)) n.0);
      ac = eqb-false a c (neither_left (eqb a c) (eqb a d || false) p);
      ad = eqb-false a d (neither_left (eqb a d) false (neither_right (eqb a c) (eqb a d || false) p));
      bc = eqb-false b c (neither_left (eqb b c) (eqb b d || false) n.1.0);
      bd = eqb-false b d (neither_left (eqb b d) false (neither_right (eqb b c) (eqb b d || false) n.1.0));
      cd = eqb-false c d (neither_left (eqb c d) false n.1.1.0);
    }

faces-once : (k : Triple) (t : Tet) → Nodup (vertices_of t) → length (with_key k (faces_of t)) ≤ 1
faces-once k t n =
    let v = different t n in
    let a = t.a in
    let b = t.b in
    let c = t.c in
    let d = t.d in
    let f = triple a b d in
    let g = triple a c b in
    let h = triple a d c in
    let i = triple b c d in
    let p : Triple → Bool = λ u. same_triple (key_of u) k in
    omega (
      arith,
      length-if p f (g ∷ h ∷ i ∷ []),
      length-if p g (h ∷ i ∷ []),
      length-if p h (i ∷ []),
      length-if p i [],
      pair-once k f g (keys-apart d f g (in-third d a b) (not_in d a c b (λ e. v.ad (sym e)) (λ e. v.cd (sym e)) (λ e. v.bd (sym e)))),
      pair-once k f h (keys-apart b f h (in-second b a d) (not_in b a d c (λ e. v.ab (sym e)) v.bd v.bc)),
      pair-once k f i (keys-apart a f i (in-first a b d) (not_in a b c d v.ab v.ac v.ad)),
      pair-once k g h (keys-apart b g h (in-third b a c) (not_in b a d c (λ e. v.ab (sym e)) v.bd v.bc)),
      pair-once k g i (keys-apart a g i (in-first a c b) (not_in a b c d v.ab v.ac v.ad)),
      pair-once k h i (keys-apart a h i (in-first a d c) (not_in a b c d v.ab v.ac v.ad)),
    )

-- ---- as many faces as elements

with_append : (k : Triple) (l m : List Triple) → with_key k (l ++ m) ≡ with_key k l ++ with_key k m
with_append k [] m = refl
with_append k (f ∷ l) m = go (same_triple (key_of f) k) (with_append k l m)
  where
    go : (t : Bool) → with_key k (l ++ m) ≡ with_key k l ++ with_key k m → cond t (f ∷ with_key k (l ++ m)) (with_key k (l ++ m)) ≡ cond t (f ∷ with_key k l) (with_key k l) ++ with_key k m
    go true ih = ap (λ (u : List Triple). f ∷ u) ih
    go false ih = ih

pub key-elements : (k : Triple) (ts : List Tet) → AllDistinct ts → length (with_key k (all_faces ts)) ≡ length (keep (has_key k) ts)
unfolding all_faces has_key
key-elements k [] n = refl
key-elements k (t ∷ ts) n =
    ap length (with_append k (faces_of t) (all_faces ts)) ∙ length-append (with_key k (faces_of t)) (with_key k (all_faces ts))
    ∙ go (length (with_key k (faces_of t))) (faces-once k t n.0) (key-elements k ts n.1)
  where
    go : (j : ℕ) → j ≤ 1 → length (with_key k (all_faces ts)) ≡ length (keep (has_key k) ts) → j + length (with_key k (all_faces ts)) ≡ length (cond (ltb 0 j) (t ∷ keep (has_key k) ts) (keep (has_key k) ts))
    go zero h e = omega (arith, e)
    go (suc zero) h e = omega (arith, e)
    go (suc (suc j)) h e = absurd (more h)
      where
        more : suc (suc j) ≤ 1 → ⊥
        more h = omega arith

-- the faces of a key are those of the elements that have it
faces-of : (k : Triple) (ts : List Tet) → with_key k (all_faces ts) ≡ with_key k (all_faces (keep (has_key k) ts))
unfolding all_faces has_key
faces-of k [] = refl
faces-of k (t ∷ ts) = with_append k (faces_of t) (all_faces ts) ∙ go (with_key k (faces_of t)) refl (faces-of k ts)
  where
    go : (l : List Triple) → with_key k (faces_of t) ≡ l → with_key k (all_faces ts) ≡ with_key k (all_faces (keep (has_key k) ts))
        → with_key k (faces_of t) ++ with_key k (all_faces ts) ≡ with_key k (all_faces (cond (ltb 0 (length (with_key k (faces_of t)))) (t ∷ keep (has_key k) ts) (keep (has_key k) ts)))
    go [] e ih = rw e ih
    go (f ∷ l) e ih =
        ap (λ (u : List Triple). with_key k (faces_of t) ++ u) ih ∙ sym (with_append k (faces_of t) (all_faces (keep (has_key k) ts)))
        ∙ ap (λ (b : Bool). with_key k (all_faces (cond b (t ∷ keep (has_key k) ts) (keep (has_key k) ts)))) (sym (lt-ltb 0 (length (with_key k (faces_of t))) (omega (arith, ap length e))))

one-element : (k : Triple) (t : Tet) → with_key k (all_faces (t ∷ [])) ≡ with_key k (faces_of t)
unfolding all_faces
one-element k t = refl

-- ---- the surface

-- a key that only one element has: the surface has that element's face, and no other triple, with the key
pub surface-element : (ts : List Tet) → AllDistinct ts → (k : Triple) (t : Tet) → keep (has_key k) ts ≡ t ∷ []
    → (f : Triple) × (with_key k (faces_of t) ≡ f ∷ []) × (with_key k (boundary_of ts) ≡ f ∷ [])
surface-element ts n k t e = (face.0, sym (faces-of k ts ∙ ap (λ (us : List Tet). with_key k (all_faces us)) e ∙ one-element k t) ∙ face.1, surface-once ts k face.0 face.1)
  where
    one : (l : List Triple) → length l ≡ 1 → (f : Triple) × (l ≡ f ∷ [])
    one [] h = absurd (none h)
      where
        none : 0 ≡ suc zero → ⊥
        none h = omega arith
    one (f ∷ []) h = (f, refl)
    one (f ∷ g ∷ l) h = absurd (many h)
      where
        many : suc (suc (length l)) ≡ 1 → ⊥
        many h = omega arith

    face : (f : Triple) × (with_key k (all_faces ts) ≡ f ∷ [])
    face = one (with_key k (all_faces ts)) (key-elements k ts n ∙ ap length e)

-- a key that no element or more than one has: the surface has no triple with it
pub surface-no-element : (ts : List Tet) → AllDistinct ts → (k : Triple) → (length (keep (has_key k) ts) ≡ 1 → ⊥) → with_key k (boundary_of ts) ≡ []
surface-no-element ts n k h = surface-else ts k (λ e. h (sym (key-elements k ts n) ∙ e))
