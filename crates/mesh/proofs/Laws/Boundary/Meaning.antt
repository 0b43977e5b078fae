-- What the boundary means. No key is bad exactly where each face's key has one face or two of opposite parity (`fine`, `fine_back`); the
-- surface has the face of each key that one face has, and none of another key (`surface-once`, `surface-else`); it has at most four
-- triples an element (`surface-few`). Assumes nothing.
use Rattle.std.proofs.Common.{◌≡◌, ℕ, zero, suc, ◌*◌, ◌<◌, ◌≤◌, Bool, true, false, cond, ◌&&◌, ◌||◌, eqb, List, [], ◌∷◌, map, length, sym, refl, ap, ◌∙◌, subst, ⊎_elim, arith, eq-eqb, ne_eqb}
use mathlib.Core.List.Memᴰ
use mathlib.Core.List.{Memᴰ}
use Rattle.mesh.specs.declared.element.Tet.{Tet}
use Rattle.mesh.specs.declared.element.Triple.{Triple}
use Rattle.mesh.specs.Sort.{sort}
use Rattle.mesh.specs.inside.Sort.{elem}
use Rattle.mesh.specs.Complex.{keep}
use Rattle.mesh.specs.Element.{key_of, parity_of}
use Rattle.mesh.specs.Boundary.{same_triple, le_triple, all_faces, with_key, key_number, first_number, boundary_number, singles, boundary_of, OneOrTwo, one, two}
use Rattle.mesh.proofs.Laws.Bools.{clash}
use Rattle.mesh.proofs.Laws.Sort.{length-sort, elem-sort}
use Rattle.mesh.proofs.Laws.Boundary.Order.{same_refl, same-sound}
use Rattle.mesh.proofs.Laws.Boundary.Same.{Same, keep_same, keep-keep, length-keep, sort-rearranges, same_length, same-keep}
use Rattle.mesh.proofs.Laws.Boundary.Runs.{with-head, lonely}

-- ---- how many

pub length-faces : (ts : List Tet) → length (all_faces ts) ≡ 4 * length ts
unfolding all_faces
length-faces [] = refl
length-faces (t ∷ ts) = let h = length-faces ts in omega arith

-- at most four surface triples an element
pub surface-few : (ts : List Tet) → length (boundary_of ts) ≤ 4 * length ts
unfolding boundary_of singles
surface-few ts =
    let fs = all_faces ts in
    omega (arith, length-sort le_triple (keep (lonely fs) fs), length-keep (lonely fs) fs, length-faces ts)

-- ---- no bad key

-- the key of a face is among the keys, and the keys are those of faces
elem-key : (f : Triple) (fs : List Triple) → Memᴰ f fs → elem same_triple (key_of f) (map key_of fs) ≡ true
unfolding elem
elem-key f [] m = absurd (Memᴰ.not-nil m)
elem-key f (g ∷ fs) m = ⊎_elim (λ e. here e) (λ k. later (elem-key f fs k)) (Memᴰ.cases_cons m)
  where
    here : f ≡ g → (same_triple (key_of f) (key_of g) || elem same_triple (key_of f) (map key_of fs)) ≡ true
    here e = rw (ap (λ (u : Triple). same_triple (key_of f) (key_of u)) (sym e) ∙ same_refl (key_of f))

    later : elem same_triple (key_of f) (map key_of fs) ≡ true → (same_triple (key_of f) (key_of g) || elem same_triple (key_of f) (map key_of fs)) ≡ true
    later h = go (same_triple (key_of f) (key_of g))
      where
        go : (t : Bool) → (t || elem same_triple (key_of f) (map key_of fs)) ≡ true
        go true = refl
        go false = h

key-elem : (k : Triple) (fs : List Triple) → elem same_triple k (map key_of fs) ≡ true → (f : Triple) × Memᴰ f fs × (k ≡ key_of f)
unfolding elem
key-elem k [] h = clash false h refl
key-elem k (g ∷ fs) h = go (same_triple k (key_of g)) refl h (key-elem k fs)
  where
    go : (t : Bool) → same_triple k (key_of g) ≡ t → (t || elem same_triple k (map key_of fs)) ≡ true
        → (elem same_triple k (map key_of fs) ≡ true → (f : Triple) × Memᴰ f fs × (k ≡ key_of f)) → (f : Triple) × Memᴰ f (g ∷ fs) × (k ≡ key_of f)
    go true e h ih = (g, Memᴰ.head refl, same-sound k (key_of g) e)
    go false e h ih = let r = ih h in (r.0, Memᴰ.tail r.1, r.2)

first-zero : (fs ks : List Triple) (k : Triple) → first_number fs ks ≡ 0 → elem same_triple k ks ≡ true → key_number (with_key k fs) ≡ 0
unfolding first_number elem
first-zero fs [] k h m = clash false m refl
first-zero fs (j ∷ ks) k h m = go (key_number (with_key j fs)) refl (same_triple k j) refl h m (first-zero fs ks k)
  where
    go : (c : ℕ) → key_number (with_key j fs) ≡ c → (t : Bool) → same_triple k j ≡ t → cond (eqb c 0) (first_number fs ks) c ≡ 0 → (t || elem same_triple k ks) ≡ true
        → (first_number fs ks ≡ 0 → elem same_triple k ks ≡ true → key_number (with_key k fs) ≡ 0) → key_number (with_key k fs) ≡ 0
    go zero e true f h m ih = ap (λ (u : Triple). key_number (with_key u fs)) (same-sound k j f) ∙ e
    go zero e false f h m ih = ih h m
    go (suc c) e t f h m ih = absurd (some (sym (ap (λ (b : Bool). cond b (first_number fs ks) (suc c)) (ne_eqb (suc c) 0 (λ z. some z))) ∙ h))
      where
        some : suc c ≡ 0 → ⊥
        some e = omega arith

all-zero : (fs ks : List Triple) → ((k : Triple) → elem same_triple k ks ≡ true → key_number (with_key k fs) ≡ 0) → first_number fs ks ≡ 0
unfolding first_number elem
all-zero fs [] h = refl
all-zero fs (j ∷ ks) h = rw (h j (rw (same_refl j))) (all-zero fs ks (λ k m. h k (later k m)))
  where
    later : (k : Triple) → elem same_triple k ks ≡ true → (same_triple k j || elem same_triple k ks) ≡ true
    later k m = go (same_triple k j)
      where
        go : (t : Bool) → (t || elem same_triple k ks) ≡ true
        go true = refl
        go false = m

zero-fine : (l : List Triple) → key_number l ≡ 0 → 0 < length l → OneOrTwo l
unfolding key_number
zero-fine [] e h = absurd (none h)
  where
    none : 0 < 0 → ⊥
    none h = omega arith
zero-fine (f ∷ []) e h = one f
zero-fine (f ∷ g ∷ []) e h = two f g (λ p. other (sym (ap (λ (t : Bool). cond t 17 0) (eq-eqb (parity_of f) (parity_of g) p)) ∙ e))
  where
    other : ◌≡◌ {A = ℕ} 17 0 → ⊥
    other e = omega arith
zero-fine (f ∷ g ∷ h ∷ l) e q = absurd (other e)
  where
    other : ◌≡◌ {A = ℕ} 16 0 → ⊥
    other e = omega arith

fine-zero : (l : List Triple) → OneOrTwo l → key_number l ≡ 0
unfolding key_number
fine-zero l (one f) = refl
fine-zero l (two f g h) = rw (ne_eqb (parity_of f) (parity_of g) h)

with-some : (f : Triple) (fs : List Triple) → Memᴰ f fs → 0 < length (with_key (key_of f) fs)
with-some f [] m = absurd (Memᴰ.not-nil m)
with-some f (g ∷ fs) m = ⊎_elim here (λ k. later (with-some f fs k)) (Memᴰ.cases_cons m)
  where
    here : f ≡ g → 0 < length (with_key (key_of f) (g ∷ fs))
    here e = rw (with-head (key_of f) g fs (ap (λ (u : Triple). same_triple (key_of u) (key_of f)) (sym e) ∙ same_refl (key_of f))) (omega arith)

    later : 0 < length (with_key (key_of f) fs) → 0 < length (with_key (key_of f) (g ∷ fs))
    later h = go (same_triple (key_of g) (key_of f))
      where
        go : (t : Bool) → 0 < length (cond t (g ∷ with_key (key_of f) fs) (with_key (key_of f) fs))
        go true = omega arith
        go false = h

-- where no key is bad, each face's key has one face or two of opposite parity
pub fine : (ts : List Tet) → boundary_number ts ≡ 0 → (f : Triple) → Memᴰ f (all_faces ts) → OneOrTwo (with_key (key_of f) (all_faces ts))
unfolding boundary_number
fine ts e f m =
    let fs = all_faces ts in
    zero-fine (with_key (key_of f) fs)
    (first-zero fs (sort le_triple (map key_of fs)) (key_of f) e (elem-sort le_triple same_triple (key_of f) (map key_of fs) ∙ elem-key f fs m))
    (with-some f fs m)

-- and the other way round
pub fine_back : (ts : List Tet) → ((f : Triple) → Memᴰ f (all_faces ts) → OneOrTwo (with_key (key_of f) (all_faces ts))) → boundary_number ts ≡ 0
unfolding boundary_number
fine_back ts h = all-zero (all_faces ts) (sort le_triple (map key_of (all_faces ts))) (λ k m. at k (key-elem k (all_faces ts) (sym (elem-sort le_triple same_triple k (map key_of (all_faces ts))) ∙ m)))
  where
    at : (k : Triple) → ((f : Triple) × Memᴰ f (all_faces ts) × (k ≡ key_of f)) → key_number (with_key k (all_faces ts)) ≡ 0
    at k r = ap (λ (u : Triple). key_number (with_key u (all_faces ts))) r.2 ∙ fine-zero (with_key (key_of r.0) (all_faces ts)) (h r.0 r.1)

-- ---- the surface, key by key

keep-none : {A : Type 0} (l : List A) → keep (λ x. false) l ≡ []
keep-none [] = refl
keep-none (x ∷ l) = keep-none l

-- the single faces of a key: its faces where there is one
with-singles : (k : Triple) (fs : List Triple) → with_key k (singles fs) ≡ cond (eqb (length (with_key k fs)) 1) (with_key k fs) []
unfolding singles
with-singles k fs =
    keep-keep (λ f. same_triple (key_of f) k) (lonely fs) fs
    ∙ keep_same (λ f. lonely fs f && same_triple (key_of f) k) (λ f. eqb (length (with_key k fs)) 1 && same_triple (key_of f) k) at fs
    ∙ go (eqb (length (with_key k fs)) 1)
  where
    and_same : (a b t : Bool) → (t ≡ true → a ≡ b) → (a && t) ≡ (b && t)
    and_same a b true h = ap (λ (u : Bool). u && true) (h refl)
    and_same true true false h = refl
    and_same true false false h = refl
    and_same false true false h = refl
    and_same false false false h = refl

    at : (f : Triple) → (lonely fs f && same_triple (key_of f) k) ≡ (eqb (length (with_key k fs)) 1 && same_triple (key_of f) k)
    at f = and_same (lonely fs f) (eqb (length (with_key k fs)) 1) (same_triple (key_of f) k) (λ e. ap (λ (u : Triple). eqb (length (with_key u fs)) 1) (same-sound (key_of f) k e))

    go : (t : Bool) → keep (λ f. t && same_triple (key_of f) k) fs ≡ cond t (with_key k fs) []
    go true = refl
    go false = keep-none fs

with-surface : (k : Triple) (ts : List Tet) → Same (with_key k (boundary_of ts)) (cond (eqb (length (with_key k (all_faces ts))) 1) (with_key k (all_faces ts)) [])
unfolding boundary_of
with-surface k ts =
    subst (λ (u : List Triple). Same (with_key k (boundary_of ts)) u) (with-singles k (all_faces ts))
    (same-keep (boundary_of ts) (singles (all_faces ts)) (sort-rearranges le_triple (singles (all_faces ts))) (λ f. same_triple (key_of f) k))

same_none : (l : List Triple) → Same l [] → l ≡ []
same_none [] s = refl
same_none (f ∷ l) s = absurd (some (same_length (f ∷ l) [] s))
  where
    some : suc (length l) ≡ 0 → ⊥
    some e = omega arith

same-one : (l : List Triple) (f : Triple) → Same l (f ∷ []) → l ≡ f ∷ []
same-one [] f s = absurd (some (same_length [] (f ∷ []) s))
  where
    some : 0 ≡ suc 0 → ⊥
    some e = omega arith
same-one (g ∷ []) f s = go (same_triple f g) refl (s (same_triple f) ∙ rw (same_refl f))
  where
    go : (t : Bool) → same_triple f g ≡ t → length (cond t (g ∷ []) []) ≡ 1 → g ∷ [] ≡ f ∷ []
    go true e h = ap (λ (u : Triple). u ∷ []) (sym (same-sound f g e))
    go false e h = absurd (none h)
      where
        none : 0 ≡ suc 0 → ⊥
        none e = omega arith
same-one (g ∷ h ∷ l) f s = absurd (some (same_length (g ∷ h ∷ l) (f ∷ []) s))
  where
    some : suc (suc (length l)) ≡ 1 → ⊥
    some e = omega arith

-- a key that one face has: the surface has that face
pub surface-once : (ts : List Tet) (k f : Triple) → with_key k (all_faces ts) ≡ f ∷ [] → with_key k (boundary_of ts) ≡ f ∷ []
surface-once ts k f e = same-one (with_key k (boundary_of ts)) f (subst (λ (u : List Triple). Same (with_key k (boundary_of ts)) (cond (eqb (length u) 1) u [])) e (with-surface k ts))

-- any other key: the surface has none
pub surface-else : (ts : List Tet) (k : Triple) → (length (with_key k (all_faces ts)) ≡ 1 → ⊥) → with_key k (boundary_of ts) ≡ []
surface-else ts k h = same_none (with_key k (boundary_of ts)) (subst (λ (t : Bool). Same (with_key k (boundary_of ts)) (cond t (with_key k (all_faces ts)) [])) (ne_eqb (length (with_key k (all_faces ts))) 1 h) (with-surface k ts))
