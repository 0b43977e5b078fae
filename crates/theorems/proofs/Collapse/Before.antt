-- One member of a list before another: in a kept part, in a list put behind another, and in the faces of all elements. Assumes nothing.
use mathlib.Core.Path.{◌≡◌, refl, sym, ap, subst, ◌∙◌}
use mathlib.Core.Logic.{◌⊎◌, inl, inr}
use mathlib.Core.Bool.{Bool, true}
use mathlib.Core.List.Memᴰ
use mathlib.Core.List.{List, [], ◌∷◌, ◌++◌, Memᴰ}
use Rattle.mesh.specs.declared.element.Tet.{Tet}
use Rattle.mesh.specs.declared.element.Triple.{Triple}
use Rattle.mesh.specs.Complex.{keep}
use Rattle.mesh.specs.Element.{faces_of}
use Rattle.mesh.specs.Boundary.{all_faces}
use Rattle.mesh.proofs.Laws.Complex.Sets.{split}
use Rattle.mesh.proofs.Laws.Link.Members.{kept-elim, kept-intro}

-- x stands before y
pub data Before {A : Type 0} (x y : A) : List A → Type 0 where
  starts : {z : A} {l : List A} → x ≡ z → Memᴰ y l → Before x y (z ∷ l)
  later : {z : A} {l : List A} → Before x y l → Before x y (z ∷ l)

module _ {A : Type 0} where
  pub before-nil : {x y : A} → Before x y [] → ⊥
  before-nil b = elim b [ ]

  pub before-cons : {x y z : A} {l : List A} → Before x y (z ∷ l) → ((x ≡ z) × Memᴰ y l) ⊎ Before x y l
  before-cons (starts e m) = inl (e, m)
  before-cons (later b) = inr b

  pub before-first : {x y : A} {l : List A} → Before x y l → Memᴰ x l
  before-first (starts e m) = Memᴰ.head e
  before-first (later b) = Memᴰ.tail (before-first b)

  pub before-second : {x y : A} {l : List A} → Before x y l → Memᴰ y l
  before-second (starts e m) = Memᴰ.tail m
  before-second (later b) = Memᴰ.tail (before-second b)

  -- those that pass a test stand in the same order
  pub before-keep : {x y : A} (p : A → Bool) → p x ≡ true → p y ≡ true → (l : List A) → Before x y l → Before x y (keep p l)
  before-keep p hx hy [] b = b
  before-keep p hx hy (z ∷ l) b = elim (before-cons b) [
    | inl r ↦ rw (ap p (sym r.0) ∙ hx) (starts r.0 (kept-intro p l r.1 hy))
    | inr c ↦ elim (split (p z)) [ inl h ↦ rw h (later (before-keep p hx hy l c)) | inr h ↦ rw h (before-keep p hx hy l c) ]
  ]

  pub kept-before : {x y : A} (p : A → Bool) (l : List A) → Before x y (keep p l) → Before x y l × (p x ≡ true) × (p y ≡ true)
  kept-before p [] b = absurd (before-nil b)
  kept-before p (z ∷ l) b = elim (split (p z)) [
    | inl h ↦ elim (before-cons (rw h at b)) [
      | inl r ↦ let k = kept-elim p l r.1 in (starts r.0 k.0, ap p r.0 ∙ h, k.1)
      | inr c ↦ let r = kept-before p l c in (later r.0, r.1, r.2)
    ]
    | inr h ↦ let r = kept-before p l (rw h at b) in (later r.0, r.1, r.2)
  ]

  -- a list behind another
  pub before-across : {x y : A} (l : List A) {r : List A} → Memᴰ x l → Memᴰ y r → Before x y (l ++ r)
  before-across [] i j = absurd (Memᴰ.not-nil i)
  before-across (z ∷ l) i j = elim (Memᴰ.cases_cons i) [ inl e ↦ starts e (Memᴰ.append_right l j) | inr k ↦ later (before-across l k j) ]

  pub before-right : {x y : A} (l : List A) {r : List A} → Before x y r → Before x y (l ++ r)
  before-right [] b = b
  before-right (z ∷ l) b = later (before-right l b)

  pub before-cases : {x y : A} (l : List A) {r : List A} → Before x y (l ++ r) → Before x y l ⊎ ((Memᴰ x l × Memᴰ y r) ⊎ Before x y r)
  before-cases [] b = inr (inr b)
  before-cases (z ∷ l) b = elim (before-cons b) [
    | inl q ↦ elim (Memᴰ.append_cases l q.1) [ inl i ↦ inl (starts q.0 i) | inr i ↦ inr (inl (Memᴰ.head q.0, i)) ]
    | inr c ↦ elim (before-cases l c) [
      | inl d ↦ inl (later d)
      | inr d ↦ elim d [ inl i ↦ inr (inl (Memᴰ.tail i.0, i.1)) | inr k ↦ inr (inr k) ]
    ]
  ]

-- two members are the same, or one stands before the other
pub places : {A : Type 0} {x y : A} (l : List A) → Memᴰ x l → Memᴰ y l → (x ≡ y) ⊎ (Before x y l ⊎ Before y x l)
places [] i j = absurd (Memᴰ.not-nil i)
places (z ∷ l) i j = elim (Memᴰ.cases_cons i) [
  | inl e ↦ elim (Memᴰ.cases_cons j) [ inl f ↦ inl (e ∙ sym f) | inr m ↦ inr (inl (starts e m)) ]
  | inr k ↦ elim (Memᴰ.cases_cons j) [
    | inl f ↦ inr (inr (starts f k))
    | inr m ↦ elim (places l k m) [ inl e ↦ inl e | inr b ↦ elim b [ inl c ↦ inr (inl (later c)) | inr c ↦ inr (inr (later c)) ] ]
  ]
]

-- ---- faces

face-there : {t : Tet} {f : Triple} (ts : List Tet) → Memᴰ t ts → Memᴰ f (faces_of t) → Memᴰ f (all_faces ts)
unfolding all_faces
face-there [] m i = absurd (Memᴰ.not-nil m)
face-there {t} {f} (u ∷ ts) m i = elim (Memᴰ.cases_cons m) [
  | inl e ↦ Memᴰ.append_left (all_faces ts) (subst (λ (s : Tet). Memᴰ f (faces_of s)) e i)
  | inr k ↦ Memᴰ.append_right (faces_of u) (face-there ts k i)
]

face-of : {f : Triple} (ts : List Tet) → Memᴰ f (all_faces ts) → (t : Tet) × Memᴰ t ts × Memᴰ f (faces_of t)
unfolding all_faces
face-of [] m = absurd (Memᴰ.not-nil m)
face-of (t ∷ ts) m = elim (Memᴰ.append_cases (faces_of t) m) [
  | inl i ↦ (t, Memᴰ.head refl, i)
  | inr i ↦ let r = face-of ts i in (r.0, Memᴰ.tail r.1, r.2)
]

-- faces of an element before faces of a later one
pub faces-before : {t u : Tet} {f g : Triple} (ts : List Tet) → Before t u ts → Memᴰ f (faces_of t) → Memᴰ g (faces_of u) → Before f g (all_faces ts)
unfolding all_faces
faces-before [] b i j = absurd (before-nil b)
faces-before {f} (s ∷ ts) b i j = elim (before-cons b) [
  | inl r ↦ before-across (faces_of s) (subst (λ (s : Tet). Memᴰ f (faces_of s)) r.0 i) (face-there ts r.1 j)
  | inr c ↦ before-right (faces_of s) (faces-before ts c i j)
]

-- two faces are faces of one element, or of two
pub data Owned (f g : Triple) (ts : List Tet) : Type 0 where
  by_one : (t : Tet) → Memᴰ t ts → Before f g (faces_of t) → Owned f g ts
  by_two : (t u : Tet) → Before t u ts → Memᴰ f (faces_of t) → Memᴰ g (faces_of u) → Owned f g ts

pub owned : {f g : Triple} (ts : List Tet) → Before f g (all_faces ts) → Owned f g ts
unfolding all_faces
owned [] b = absurd (before-nil b)
owned {f} {g} (t ∷ ts) b = elim (before-cases (faces_of t) b) [
  | inl c ↦ by_one t (Memᴰ.head refl) c
  | inr c ↦ elim c [
    | inl i ↦ let r = face-of ts i.1 in by_two t r.0 (starts refl r.1) i.0 r.2
    | inr d ↦ behind (owned ts d)
  ]
]
  where
    behind : Owned f g ts → Owned f g (t ∷ ts)
    behind (by_one u m c) = by_one u (Memᴰ.tail m) c
    behind (by_two u s c i j) = by_two u s (later c) i j
