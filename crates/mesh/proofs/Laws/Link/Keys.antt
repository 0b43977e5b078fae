-- Keys of faces: a key is the rising list of a face's vertices, and it stands among the keys of all faces as often as elements have
-- its three vertices. Assumes nothing.
use Rattle.std.proofs.Common.{◌≡◌, ℕ, ◌+◌, ◌<◌, Bool, true, false, not, ◌&&◌, ◌||◌, eqb, ltb, ◌≢◌, List, [], ◌∷◌, map, length, sym, refl, ap, ◌∙◌, subst, inl, inr, arith, ltb-false, ltb-true, le-ltb, lt-ltb, eq-eqb, eqb-true}
use mathlib.Core.List.Memᴰ
use mathlib.Core.List.{Memᴰ}
use borrow.Author.Tests.{not-true}
use Rattle.mesh.specs.declared.element.Tet.{Tet}
use Rattle.mesh.specs.declared.element.Triple.{Triple}
use Rattle.mesh.specs.Complex.{mem, sub, keep, Nodup, Sub}
use Rattle.mesh.specs.inside.Complex.{star, Proper}
use Rattle.mesh.specs.Sets.{times}
use Rattle.mesh.specs.Element.{triple, faces_of, sort_first, sort_last, key_of, vertices_of, corners_of}
use Rattle.mesh.specs.Boundary.{same_triple, all_faces}
use Rattle.mesh.proofs.Laws.Complex.Sets.{split, clash, nope, same, or_cases, or_right, and-fst, and-snd, out, out-head, out-tail, sub-elim, sub-intro, keep-mem, keep-nodup, short, full}
use Rattle.mesh.proofs.Laws.Complex.Sums.{bit}
use Rattle.mesh.proofs.Laws.Complex.Tets.{tet-of}
use Rattle.mesh.proofs.Laws.Link.Members.{Decides}
use Rattle.mesh.proofs.Laws.Link.Simplices.{rising, rising-nodup, rising-unique}
use Rattle.mesh.proofs.Laws.Bools.{or_swap}
use Rattle.mesh.proofs.Laws.Boundary.Order.{same-sound, same_refl}

-- ---- the key as a set

first-mem : (f : Triple) (z : ℕ) → mem z (corners_of (sort_first f)) ≡ mem z (corners_of f)
unfolding sort_first
first-mem f z = elim (split (ltb f.b f.a)) [ inl h ↦ rw h (or_swap (eqb z f.b) (eqb z f.a) (mem z (f.c ∷ []))) | inr h ↦ rw h refl ]

last_mem : (f : Triple) (z : ℕ) → mem z (corners_of (sort_last f)) ≡ mem z (corners_of f)
unfolding sort_last
last_mem f z = elim (split (ltb f.c f.b)) [ inl h ↦ rw h (ap (λ p. eqb z f.a || p) (or_swap (eqb z f.c) (eqb z f.b) false)) | inr h ↦ rw h refl ]

pub key-mem : (f : Triple) (z : ℕ) → mem z (corners_of (key_of f)) ≡ mem z (corners_of f)
unfolding key_of
key-mem f z = first-mem (sort_last (sort_first f)) z ∙ (last_mem (sort_first f) z ∙ first-mem f z)

three-rising : (x y z : ℕ) → x < y → y < z → rising (x ∷ y ∷ z ∷ []) ≡ true
three-rising x y z h k = rw (lt-ltb x y h, lt-ltb x z (omega arith), lt-ltb y z k) refl

pub key-rising : (f : Triple) → Nodup (corners_of f) → rising (corners_of (key_of f)) ≡ true
unfolding key_of sort_first sort_last
key-rising f d = by f.a f.b f.c (out-head f.a f.b (f.c ∷ []) d.0) (out-head f.b f.c [] d.1.0) (out-head f.a f.c [] (out-tail f.a f.b (f.c ∷ []) d.0))
  where
    by : (x y z : ℕ) → x ≢ y → y ≢ z → x ≢ z → rising (corners_of (key_of (triple x y z))) ≡ true
    by x y z p q r =
        elim (split (ltb y x)) [
          | inl h ↦ let h' = ltb-true y x h in
              rw h (elim (split (ltb z x)) [
                | inl k ↦ let k' = ltb-true z x k in
                    rw k (elim (split (ltb z y)) [
                      | inl j ↦ let j' = ltb-true z y j in rw j (three-rising z y x (omega arith) (omega arith))
                      | inr j ↦ let j' = ltb-false z y j in rw j (three-rising y z x (omega arith) (omega arith))
                    ])
                | inr k ↦ let k' = ltb-false z x k in rw k (rw (le-ltb x y (omega arith)) (three-rising y x z (omega arith) (omega arith)))
              ])
          | inr h ↦ let h' = ltb-false y x h in
              rw h (elim (split (ltb z y)) [
                | inl k ↦ let k' = ltb-true z y k in
                    rw k (elim (split (ltb z x)) [
                      | inl j ↦ let j' = ltb-true z x j in rw j (three-rising z x y (omega arith) (omega arith))
                      | inr j ↦ let j' = ltb-false z x j in rw j (three-rising x z y (omega arith) (omega arith))
                    ])
                | inr k ↦ let k' = ltb-false z y k in rw k (rw h (three-rising x y z (omega arith) (omega arith)))
              ])
        ]

-- ---- keys are equal where the vertices are

pub triple-decides : Decides same_triple
triple-decides = record { equal = same-sound; self = same_refl }

corners-same : (f g : Triple) → corners_of f ≡ corners_of g → same_triple f g ≡ true
corners-same f g e =
    let p : f.a ≡ g.a = cc in
    let q : f.b ≡ g.b = cc in
    let r : f.c ≡ g.c = cc in
    rw (eq-eqb f.a g.a p, eq-eqb f.b g.b q, eq-eqb f.c g.c r) refl

-- a rising triple is the key of a face exactly if the face has its vertices
pub key-same : (f g : Triple) → rising (corners_of f) ≡ true → Nodup (corners_of g) → same_triple f (key_of g) ≡ sub (corners_of f) (corners_of g)
key-same f g h d =
    same
    (λ k. let e : f ≡ key_of g = triple-decides.equal f (key_of g) k in sub-intro (corners_of f) (corners_of g) (λ z m. sym (key-mem g z) ∙ subst (λ u. mem z (corners_of u) ≡ true) e m))
    (λ k. let s : Sub (corners_of f) (corners_of (key_of g)) = λ z m. key-mem g z ∙ sub-elim (corners_of f) (corners_of g) k z m in
    corners-same f (key_of g)
    (rising-unique (corners_of f) (corners_of (key_of g)) h (key-rising g d) s (full (corners_of f) (corners_of (key_of g)) (rising-nodup (corners_of f) h) s (omega arith))))

-- ---- elements

-- four different vertices each
abbrev pub Fours : List Tet → Type 0
Fours ts = (t : Tet) → Memᴰ t ts → Nodup (vertices_of t)

pub proper-fours : (n : ℕ) (ts : List Tet) → Proper n (map vertices_of ts) → Fours ts
proper-fours n ts P t m = (tet-of {n = n} P (Memᴰ.map vertices_of m)).distinct

-- ---- how often a key stands among the faces of an element: once, if the element has its vertices

-- σ lies in the face without v exactly if it lies in the element and lacks v
missing : (v : ℕ) (σ φ e : List ℕ) → ((z : ℕ) → mem z e ≡ (eqb z v || mem z φ)) → mem v φ ≡ false → sub σ φ ≡ (sub σ e && not (mem v σ))
missing v σ φ e f o =
    same
    (λ h. let s = sub-elim σ φ h in
    rw (sub-intro σ e (λ z m. f z ∙ or_right (eqb z v) (s z m)), nope (λ (m : mem v σ ≡ true). clash (s v m) o)) refl)
    (λ h. let s = sub-elim σ e (and-fst (sub σ e) (not (mem v σ)) h) in
    let n = not-true (mem v σ) (and-snd (sub σ e) (not (mem v σ)) h) in
    sub-intro σ φ (λ z m. elim (or_cases (eqb z v) (mem z φ) (sym (f z) ∙ s z m)) [ inl q ↦ absurd (clash (rw (eqb-true z v q) at m) n) | inr q ↦ q ]))

pub keep-cons : {A : Type 0} (p : A → Bool) (x : A) (xs : List A) → length (keep p (x ∷ xs)) ≡ bit (p x) + length (keep p xs)
keep-cons p x xs = elim (split (p x)) [ inl h ↦ rw h (omega arith) | inr h ↦ rw h (omega arith) ]

pub bit_not : (p : Bool) → bit p + bit (not p) ≡ 1
bit_not true = refl
bit_not false = refl

-- three of the four vertices of an element: one is missing
one-missing : (σ : List ℕ) (a b c d : ℕ) → length σ ≡ 3 → Nodup σ → Nodup (a ∷ b ∷ c ∷ d ∷ []) → Sub σ (a ∷ b ∷ c ∷ d ∷ []) → bit (not (mem c σ)) + (bit (not (mem d σ)) + (bit (not (mem b σ)) + bit (not (mem a σ)))) ≡ 1
one-missing σ a b c d l n e s =
    let p : ℕ → Bool = λ v. mem v σ in
    let kept = keep p (a ∷ b ∷ c ∷ d ∷ []) in
    let low = short σ kept n (λ z m. keep-mem p (a ∷ b ∷ c ∷ d ∷ []) z ∙ rw (s z m, m) refl) in
    let high = short kept σ (keep-nodup p (a ∷ b ∷ c ∷ d ∷ []) e) (λ z m. and-snd (mem z (a ∷ b ∷ c ∷ d ∷ [])) (mem z σ) (sym (keep-mem p (a ∷ b ∷ c ∷ d ∷ []) z) ∙ m)) in
    omega (
      arith,
      keep-cons p a (b ∷ c ∷ d ∷ []),
      keep-cons p b (c ∷ d ∷ []),
      keep-cons p c (d ∷ []),
      keep-cons p d [],
      bit_not (mem a σ),
      bit_not (mem b σ),
      bit_not (mem c σ),
      bit_not (mem d σ),
    )

pub three-nodup : (x y z : ℕ) → x ≢ y → x ≢ z → y ≢ z → Nodup (x ∷ y ∷ z ∷ [])
three-nodup x y z p q r = (out x y (z ∷ []) p (out x z [] q refl), (out y z [] r refl, (refl, tt)))

-- four different vertices, pair by pair
record Apart (a b c d : ℕ) : Type 0 where
  ab : a ≢ b
  ac : a ≢ c
  ad : a ≢ d
  bc : b ≢ c
  bd : b ≢ d
  cd : c ≢ d

four-apart : (a b c d : ℕ) → Nodup (a ∷ b ∷ c ∷ d ∷ []) → Apart a b c d
four-apart a b c d n =
    let n₁ = out-tail a b (c ∷ d ∷ []) n.0 in
    record {
      ab = out-head a b (c ∷ d ∷ []) n.0;
      ac = out-head a c (d ∷ []) n₁;
      ad = out-head a d [] (out-tail a c (d ∷ []) n₁);
      bc = out-head b c (d ∷ []) n.1.0;
      bd = out-head b d [] (out-tail b c (d ∷ []) n.1.0);
      cd = out-head c d [] n.1.1.0;
    }

pub flip≢ : {x y : ℕ} → x ≢ y → y ≢ x
flip≢ n e = n (sym e)

-- the faces of an element with four different vertices have three different ones each
pub face-nodup : (t : Tet) (f : Triple) → Nodup (vertices_of t) → Memᴰ f (faces_of t) → Nodup (corners_of f)
face-nodup t f n m =
    let r = four-apart t.a t.b t.c t.d n in
    let at : (g : Triple) → Nodup (corners_of g) → f ≡ g → Nodup (corners_of f) = λ g d e. subst (λ u. Nodup (corners_of u)) (sym e) d in
    elim (Memᴰ.cases_cons m) [
      | inl e ↦ at (triple t.a t.b t.d) (three-nodup t.a t.b t.d r.ab r.ad r.bd) e
      | inr m₁ ↦ elim (Memᴰ.cases_cons m₁) [
        | inl e ↦ at (triple t.a t.c t.b) (three-nodup t.a t.c t.b r.ac r.ab (flip≢ r.bc)) e
        | inr m₂ ↦ elim (Memᴰ.cases_cons m₂) [
          | inl e ↦ at (triple t.a t.d t.c) (three-nodup t.a t.d t.c r.ad r.ac (flip≢ r.cd)) e
          | inr m₃ ↦ elim (Memᴰ.cases_cons m₃) [
            | inl e ↦ at (triple t.b t.c t.d) (three-nodup t.b t.c t.d r.bc r.bd r.cd) e
            | inr m₄ ↦ absurd (Memᴰ.not-nil m₄)
          ]
        ]
      ]
    ]

module _ (f : Triple) (h : rising (corners_of f) ≡ true) where
  -- the keys of the four faces that are f, by the vertex that each face lacks
  four-keys : (a b c d : ℕ) → Nodup (a ∷ b ∷ c ∷ d ∷ []) → bit (same_triple f (key_of (triple a b d))) + (bit (same_triple f (key_of (triple a c b))) + (bit (same_triple f (key_of (triple a d c))) + bit (same_triple f (key_of (triple b c d))))) ≡ bit (sub (corners_of f) (a ∷ b ∷ c ∷ d ∷ []))
  four-keys a b c d n =
      rw (
        face (triple a b d) c (three-nodup a b d r.ab r.ad r.bd) in-abd (out c a (b ∷ d ∷ []) (flip≢ r.ac) (out c b (d ∷ []) (flip≢ r.bc) (out c d [] r.cd refl))),
        face (triple a c b) d (three-nodup a c b r.ac r.ab (flip≢ r.bc)) in-acb (out d a (c ∷ b ∷ []) (flip≢ r.ad) (out d c (b ∷ []) (flip≢ r.cd) (out d b [] (flip≢ r.bd) refl))),
        face (triple a d c) b (three-nodup a d c r.ad r.ac (flip≢ r.cd)) in-adc (out b a (d ∷ c ∷ []) (flip≢ r.ab) (out b d (c ∷ []) r.bd (out b c [] r.bc refl))),
        face (triple b c d) a (three-nodup b c d r.bc r.bd r.cd) (λ z. refl) n.0,
      )
      (elim (split (sub σ e)) [
        | inl k ↦ rw k (one-missing σ a b c d refl (rising-nodup σ h) n (sub-elim σ e k))
        | inr k ↦ rw k refl
      ])
    where
      σ : List ℕ
      σ = corners_of f

      e : List ℕ
      e = a ∷ b ∷ c ∷ d ∷ []

      r : Apart a b c d
      r = four-apart a b c d n

      face : (g : Triple) (v : ℕ) → Nodup (corners_of g) → ((z : ℕ) → mem z e ≡ (eqb z v || mem z (corners_of g))) → mem v (corners_of g) ≡ false → same_triple f (key_of g) ≡ (sub σ e && not (mem v σ))
      face g v d' i o = key-same f g h d' ∙ missing v σ (corners_of g) e i o

      in-abd : (z : ℕ) → mem z e ≡ (eqb z c || mem z (a ∷ b ∷ d ∷ []))
      in-abd z = ap (λ p. eqb z a || p) (or_swap (eqb z b) (eqb z c) (mem z (d ∷ []))) ∙ or_swap (eqb z a) (eqb z c) (mem z (b ∷ d ∷ []))

      in-adc : (z : ℕ) → mem z e ≡ (eqb z b || mem z (a ∷ d ∷ c ∷ []))
      in-adc z = or_swap (eqb z a) (eqb z b) (mem z (c ∷ d ∷ [])) ∙ ap (λ p. eqb z b || (eqb z a || p)) (or_swap (eqb z c) (eqb z d) false)

      in-acb : (z : ℕ) → mem z e ≡ (eqb z d || mem z (a ∷ c ∷ b ∷ []))
      in-acb z =
          ap (λ p. eqb z a || p)
          (ap (λ p. eqb z b || p) (or_swap (eqb z c) (eqb z d) false)
          ∙ (or_swap (eqb z b) (eqb z d) (mem z (c ∷ []))
          ∙ ap (λ p. eqb z d || p) (or_swap (eqb z b) (eqb z c) false)))
          ∙ or_swap (eqb z a) (eqb z d) (mem z (c ∷ b ∷ []))

  -- a key stands among the keys of all faces as often as elements have its vertices
  pub times-star : (ts : List Tet) → Fours ts → times same_triple f (map key_of (all_faces ts)) ≡ star (corners_of f) (map vertices_of ts)
  unfolding all_faces star
  times-star [] P = refl
  times-star (t ∷ ts) P =
      let ih = times-star ts (λ u m. P u (Memᴰ.tail m)) in
      let ks = map key_of (all_faces ts) in
      let k₀ = key_of (triple t.a t.b t.d) in
      let k₁ = key_of (triple t.a t.c t.b) in
      let k₂ = key_of (triple t.a t.d t.c) in
      let k₃ = key_of (triple t.b t.c t.d) in
      let p = same_triple f in
      omega (
        arith,
        keep-cons p k₀ (k₁ ∷ k₂ ∷ k₃ ∷ ks),
        keep-cons p k₁ (k₂ ∷ k₃ ∷ ks),
        keep-cons p k₂ (k₃ ∷ ks),
        keep-cons p k₃ ks,
        four-keys t.a t.b t.c t.d (P t (Memᴰ.head refl)),
        keep-cons (sub (corners_of f)) (vertices_of t) (map vertices_of ts),
      )
