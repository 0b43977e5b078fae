-- Elements in one orientation: no oriented triangle has two apexes. Where each element has four different vertices and no two have the
-- same, that is what "no face three times, no shared face with equal parities" says: `oriented` and `oriented-fine`. Assumes nothing.
use mathlib.Core.Path.{◌≡◌, refl, sym, ap, subst, ◌∙◌}
use mathlib.Core.Logic.{◌≢◌, inl, inr}
use mathlib.Core.List.Memᴰ
use mathlib.Core.List.{List, [], ◌∷◌, map, Memᴰ}
use Prim.Native.Nat.{ℕ, ◌<◌}
use native.Mathlib.Nat.{mod-lt}
use native.Mathlib.Omega.{arith}
use Rattle.mesh.specs.declared.element.Tet.{Tet}
use Rattle.mesh.specs.declared.element.Triple.{Triple}
use Rattle.mesh.specs.Complex.{Sub}
use Rattle.mesh.specs.inside.Complex.{Proper}
use Rattle.mesh.specs.Element.{triple, vertices_of, faces_of, key_of, parity_of}
use Rattle.mesh.specs.Boundary.{same_triple, all_faces, with_key, boundary_number, OneOrTwo, one, two}
use Rattle.mesh.proofs.Laws.Boundary.Order.{same_refl, same-sound}
use Rattle.mesh.proofs.Laws.Boundary.Meaning.{fine, fine_back}
use Rattle.mesh.proofs.Laws.Link.Keys.{Fours, proper-fours, face-nodup, flip≢}
use Rattle.mesh.proofs.Laws.Link.Members.{kept-intro}
use Rattle.theorems.proofs.Collapse.Turns.{Turns, One, one-mem, mem-one, turned, back, Different, nodup-different, one-apex}
use Rattle.theorems.proofs.Collapse.Faces.{Round, round-then, round-back, round-key, key-round, round-lacks, face-shown, face-apex, round-turns}
use Rattle.theorems.proofs.Collapse.Before.{Before, starts, later, before-nil, before-cons, before-first, before-second, before-keep, kept-before, places, faces-before, Owned, by_one, by_two, owned}

-- an element has the face u v w with the apex p
pub record Apex (ts : List Tet) (p u v w : ℕ) : Type 0 where
  pub element : Tet
  pub there : Memᴰ element ts
  pub turns : Turns element.a element.b element.c element.d p u v w

-- no oriented triangle has two apexes
abbrev pub Oriented : List Tet → Type 0
Oriented ts = (p q u v w : ℕ) → Apex ts p u v w → Apex ts q u v w → p ≡ q

-- ---- faces by key and parity

-- no two faces of a list have the same key and the same parity
abbrev Unlike : List Triple → Type 0
Unlike fs = (f g : Triple) → Before f g fs → key_of f ≡ key_of g → parity_of f ≡ parity_of g → ⊥

two-unlike : {l : List Triple} → OneOrTwo l → (f g : Triple) → Before f g l → parity_of f ≡ parity_of g → ⊥
two-unlike (one h) f g b e = elim (before-cons b) [ inl r ↦ Memᴰ.not-nil r.1 | inr c ↦ before-nil c ]
two-unlike (two h k n) f g b e = elim (before-cons b) [
  | inl r ↦ elim (Memᴰ.cases_cons r.1) [
    | inl q ↦ n (ap parity_of (sym r.0) ∙ (e ∙ ap parity_of q))
    | inr m ↦ Memᴰ.not-nil m
  ]
  | inr c ↦ elim (before-cons c) [ inl r ↦ Memᴰ.not-nil r.1 | inr d ↦ before-nil d ]
]

fine-unlike : (fs : List Triple) → ((f : Triple) → Memᴰ f fs → OneOrTwo (with_key (key_of f) fs)) → Unlike fs
fine-unlike fs h f g b k e =
    two-unlike (h f (before-first b)) f g
    (before-keep (λ i. same_triple (key_of i) (key_of f)) (same_refl (key_of f)) (ap (λ i. same_triple i (key_of f)) (sym k) ∙ same_refl (key_of f)) fs b)
    e

parity-low : (f : Triple) → parity_of f < 2
unfolding parity_of
parity-low f = mod-lt _ (omega arith)

few : {f : Triple} (l : List Triple) → Memᴰ f l → ((g h : Triple) → Before g h l → parity_of g ≡ parity_of h → ⊥) → OneOrTwo l
few [] m u = absurd (Memᴰ.not-nil m)
few (f ∷ []) m u = one f
few (f ∷ g ∷ []) m u = two f g (u f g (starts refl (Memᴰ.head refl)))
few (f ∷ g ∷ h ∷ l) m u =
    let fg = u f g (starts refl (Memᴰ.head refl)) in
    let fh = u f h (starts refl (Memᴰ.tail (Memᴰ.head refl))) in
    let gh = u g h (later (starts refl (Memᴰ.head refl))) in
    absurd (three (parity_of f) (parity_of g) (parity_of h) (parity-low f) (parity-low g) (parity-low h) fg fh gh)
  where
    three : (x y z : ℕ) → x < 2 → y < 2 → z < 2 → x ≢ y → x ≢ z → y ≢ z → ⊥
    three x y z p q r a b c = omega arith

unlike-fine : (fs : List Triple) → Unlike fs → (f : Triple) → Memᴰ f fs → OneOrTwo (with_key (key_of f) fs)
unlike-fine fs u f m =
    few (with_key (key_of f) fs) (kept-intro (λ i. same_triple (key_of i) (key_of f)) fs m (same_refl (key_of f)))
    (λ g h b e.
    let r = kept-before (λ i. same_triple (key_of i) (key_of f)) fs b in
    u g h r.0 (same-sound (key_of g) (key_of f) r.1 ∙ sym (same-sound (key_of h) (key_of f) r.2)) e)

-- ---- from the faces to the elements

module _ (ts : List Tet) (F : Fours ts) where
  element-different : (t : Tet) → Memᴰ t ts → Different t.a t.b t.c t.d
  element-different t m = nodup-different t.a t.b t.c t.d (F t m)

  pub oriented : boundary_number ts ≡ 0 → Oriented ts
  oriented h p q u v w x y = elim (places ts x.there y.there) [
    | inl e ↦ one-apex (element-different x.element x.there) x.turns (subst (λ (t : Tet). Turns t.a t.b t.c t.d q u v w) (sym e) y.turns)
    | inr b ↦ elim b [ inl c ↦ absurd (never x y c) | inr c ↦ absurd (never y x c) ]
  ]
    where
      never : {p q : ℕ} (x : Apex ts p u v w) (y : Apex ts q u v w) → Before x.element y.element ts → ⊥
      never x y b =
          let f = face-shown x.element x.turns in
          let g = face-shown y.element y.turns in
          let k = round-key f.face g.face (face-nodup x.element f.face (F x.element x.there) f.here) (round-then f.round (round-back g.round)) in
          fine-unlike (all_faces ts) (fine ts h) f.face g.face (faces-before ts b f.here g.here) k.0 k.1

-- ---- and back

-- two faces of one element are not the same triangle: each lacks its apex, which the later ones have
faces-apart : (t : Tet) → Different t.a t.b t.c t.d → (f g : Triple) → Before f g (faces_of t) → Round f.a f.b f.c g.a g.b g.c → ⊥
faces-apart t n f g b r = elim (before-cons b) [
  | inl s ↦
      let k = lacks (triple t.a t.b t.d) s.0 t.c (flip≢ n.pv) (flip≢ n.uv) n.vw in
      elim (Memᴰ.cases_cons s.1) [
        | inl e ↦ k.1 (sym (ap (λ (h : Triple). h.b) e))
        | inr m ↦ elim (Memᴰ.cases_cons m) [
          | inl e ↦ k.2 (sym (ap (λ (h : Triple). h.c) e))
          | inr m ↦ elim (Memᴰ.cases_cons m) [ inl e ↦ k.1 (sym (ap (λ (h : Triple). h.b) e)) | inr m ↦ Memᴰ.not-nil m ]
        ]
      ]
  | inr b ↦ elim (before-cons b) [
    | inl s ↦
        let k = lacks (triple t.a t.c t.b) s.0 t.d (flip≢ n.pw) (flip≢ n.vw) (flip≢ n.uw) in
        elim (Memᴰ.cases_cons s.1) [
          | inl e ↦ k.1 (sym (ap (λ (h : Triple). h.b) e))
          | inr m ↦ elim (Memᴰ.cases_cons m) [ inl e ↦ k.2 (sym (ap (λ (h : Triple). h.c) e)) | inr m ↦ Memᴰ.not-nil m ]
        ]
    | inr b ↦ elim (before-cons b) [
      | inl s ↦
          let k = lacks (triple t.a t.d t.c) s.0 t.b (flip≢ n.pu) n.uw n.uv in
          elim (Memᴰ.cases_cons s.1) [ inl e ↦ k.0 (sym (ap (λ (h : Triple). h.a) e)) | inr m ↦ Memᴰ.not-nil m ]
      | inr b ↦ elim (before-cons b) [ inl s ↦ Memᴰ.not-nil s.1 | inr b ↦ before-nil b ]
    ]
  ]
]
  where
    -- g lacks what f lacks
    lacks : (h : Triple) → f ≡ h → (x : ℕ) → x ≢ h.a → x ≢ h.b → x ≢ h.c → (x ≢ g.a) × (x ≢ g.b) × (x ≢ g.c)
    lacks h e x p q s = round-lacks (subst (λ (i : Triple). Round i.a i.b i.c g.a g.b g.c) e r) p q s

-- of two elements no one has the other's vertices
proper-before : (n : ℕ) {t u : Tet} (ts : List Tet) → Proper n (map vertices_of ts) → Before t u ts → Sub (vertices_of t) (vertices_of u) → Sub (vertices_of u) (vertices_of t) → ⊥
proper-before n [] P b s r = before-nil b
proper-before n {t} {u} (x ∷ ts) P b s r = elim (before-cons b) [
  | inl k ↦ P.1 (vertices_of u) (Memᴰ.map vertices_of k.1) (subst (λ (y : Tet). Sub (vertices_of y) (vertices_of u)) k.0 s) (subst (λ (y : Tet). Sub (vertices_of u) (vertices_of y)) k.0 r)
  | inr c ↦ proper-before n ts P.2 c s r
]

-- one face with one apex: the same vertices
apex-sub : (t u : Tet) {p q x y z : ℕ} → Turns t.a t.b t.c t.d p x y z → Turns u.a u.b u.c u.d q x y z → p ≡ q → Sub (vertices_of t) (vertices_of u)
apex-sub t u {x} {y} {z} s r e i m = one-mem (back r (subst (λ p. One i p x y z) e (turned s (mem-one i t.a t.b t.c t.d m))))

pub oriented-fine : (n : ℕ) (ts : List Tet) → Proper n (map vertices_of ts) → Oriented ts → boundary_number ts ≡ 0
oriented-fine n ts P o = fine_back ts (unlike-fine (all_faces ts) unlike)
  where
    F : Fours ts
    F = proper-fours n ts P

    unlike : Unlike (all_faces ts)
    unlike f g b k e = at (owned ts b)
      where
        at : Owned f g ts → ⊥
        at (by_one t m c) =
            let later-there = before-second c in
            faces-apart t (element-different ts F t m) f g c (key-round f g (face-nodup t f (F t m) (before-first c)) (face-nodup t g (F t m) later-there) k e)
        at (by_two t u c i j) =
            let m = before-first c in
            let m' = before-second c in
            let r = key-round f g (face-nodup t f (F t m) i) (face-nodup u g (F u m') j) k e in
            let x = face-apex t f i in
            let y = face-apex u g j in
            let y' = round-turns (round-back r) y.1 in
            let q = o x.0 y.0 f.a f.b f.c (record { element = t; there = m; turns = x.1 }) (record { element = u; there = m'; turns = y' }) in
            proper-before n ts P c (apex-sub t u x.1 y' q) (apex-sub u t y' x.1 (sym q))
