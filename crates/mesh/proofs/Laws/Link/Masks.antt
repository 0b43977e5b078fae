-- The feature tests by masks: where a's bits are b's, `feature_ok` is `feature_by_masks`, for any faces of three different vertices with
-- a or b among them. An edge without a and b keeps its labels; the labels of b x after the collapse are compared with those of b x and
-- a x before it; and a and b meet in x under two bits just where the strata of a and x share two. Assumes nothing.
use Rattle.std.proofs.Common.{◌≡◌, ℕ, ◌<◌, ◌≤◌, min, max, Bool, true, false, cond, not, ◌&&◌, ◌||◌, eqb, ltb, leb, ◌≢◌, ◌⊎◌, List, [], ◌∷◌, ◌++◌, map, length, sym, refl, ap, ◌∙◌, subst, inl, inr, arith, ltb-false, ltb-true, eq-eqb, ne_eqb, eqb-true, le-leb, leb-false, leb-true}
use mathlib.Core.Bool.{and-true, or_assoc}
use mathlib.Core.List.{Memᴰ}
use native.Mathlib.Nat.{min-eq_left, min-eq_right, max-eq_left, max-eq_right}
use borrow.Author.Tests.{eqb-false, not-true}
use Rattle.mesh.specs.declared.element.Tet.{Tet}
use Rattle.mesh.specs.declared.element.Triple.{Triple}
use Rattle.mesh.specs.Complex.{mem, within, keep, Nodup, Sub}
use Rattle.mesh.specs.Element.{corners_of, all_corners}
use Rattle.mesh.specs.Feature.{onto, Label, label, same_label, bits_of, shared, features, mapped, expected, neighbours, edges_ok, neighbours_ok, feature_ok, link_ok}
use Rattle.mesh.specs.Tests.{every}
use Rattle.mesh.specs.Link.{same_simplex, interior_ok, boundary_about, boundary_ok}
use Rattle.mesh.specs.inside.FeatureByMasks.{joined, outlives, on_curve, rim_ok, curve_ok, feature_by_masks}
use Rattle.mesh.proofs.Laws.Complex.Sets.{split, clash, nope, same, or_cases, or_right, and-fst, and-snd, mem-here, mem-there, mem-nil, out, Sub-cons, short}
use Rattle.mesh.proofs.Laws.Link.Members.{Alike, kept-elim, kept-intro, every-elim, every-intro, same_set-elim, same_set-intro}
use Rattle.mesh.proofs.Laws.Link.Simplices.{every-mem, mem-every, rising, rising-head, rising-nodup, rising-unique}
use Rattle.mesh.proofs.Laws.Link.Links.{simplex-decides}
use Rattle.mesh.proofs.Laws.Link.Keys.{Fours, flip≢}
use Rattle.mesh.proofs.Laws.Link.Boundary.{boundary-elim}
use Rattle.mesh.proofs.Laws.Link.Features.{label-decides, other_end, neighbours-elim, neighbours-intro, mem-member, member-mem}
use Rattle.mesh.proofs.Laws.Link.Labels.{shared-rising, shared-mem, label-comm, Distinct, Labelled, edge-elim, edge-intro, Sub-two, labelled-swap, features-elim, features-intro, features-at, onto-other, onto-a, mapped-distinct, mapped-elim, mapped-intro, expected-elim, expected-intro, expected-at}
use Rattle.mesh.proofs.Laws.Complex.Collapse.{onto-cases}

-- ---- two bits

two-of : (ys : List ℕ) → rising ys ≡ true → leb 2 (length ys) ≡ true → (p : ℕ) × (q : ℕ) × (p < q) × (mem p ys ≡ true) × (mem q ys ≡ true)
two-of [] h k = absurd (let r = leb-true 2 0 k in omega arith)
two-of (p ∷ []) h k = absurd (let r = leb-true 2 1 k in omega arith)
two-of (p ∷ q ∷ ys) h k =
    let q∈ = mem-here q ys in
    (p, q, rising-head p (q ∷ ys) h q q∈, mem-here p (q ∷ ys), mem-there q p (q ∷ ys) q∈)

of_two : (ys : List ℕ) (p q : ℕ) → p < q → mem p ys ≡ true → mem q ys ≡ true → leb 2 (length ys) ≡ true
of_two ys p q l i j =
    le-leb 2 (length ys)
    (short (p ∷ q ∷ []) ys (out p q [] (λ e. omega arith) refl, (refl, tt)) (Sub-two p q ys i j))

-- ---- the vertices of the faces

pub on-face : (x : ℕ) (fs : List Triple) → mem x (all_corners fs) ≡ within (x ∷ []) (map corners_of fs)
unfolding all_corners
on-face x [] = refl
on-face x (f ∷ fs) = joins (corners_of f) (all_corners fs) ∙ (ap (λ p. mem x (corners_of f) || p) (on-face x fs) ∙ ap (λ p. p || within (x ∷ []) (map corners_of fs)) (sym (and-true (mem x (corners_of f)))))
  where
    joins : (xs ys : List ℕ) → mem x (xs ++ ys) ≡ (mem x xs || mem x ys)
    joins [] ys = refl
    joins (y ∷ xs) ys = ap (λ p. eqb x y || p) (joins xs ys) ∙ sym (or_assoc (eqb x y) (mem x xs) (mem x ys))

-- the faces that the collapse leaves
pub outlives-elim : (a b : ℕ) (fs : List Triple) (x : ℕ) → outlives a b fs x ≡ true → (f : Triple) × Memᴰ f fs × (mem a (corners_of f) ≡ true → mem b (corners_of f) ≡ true → ⊥) × (mem x (corners_of f) ≡ true)
outlives-elim a b fs x w =
    let r = edge-elim (keep (λ f. not (mem a (corners_of f) && mem b (corners_of f))) fs) (x ∷ []) w in
    let k = kept-elim (λ f. not (mem a (corners_of f) && mem b (corners_of f))) fs r.1 in
    (r.0, k.0, (λ p q. clash (rw (p, q) refl) (not-true (mem a (corners_of r.0) && mem b (corners_of r.0)) k.1)), r.2 x (mem-here x []))

pub outlives-intro : (a b : ℕ) (fs : List Triple) (x : ℕ) (f : Triple) → Memᴰ f fs → (mem a (corners_of f) ≡ true → mem b (corners_of f) ≡ true → ⊥) → mem x (corners_of f) ≡ true → outlives a b fs x ≡ true
outlives-intro a b fs x f m n i =
    edge-intro (keep (λ f. not (mem a (corners_of f) && mem b (corners_of f))) fs) (x ∷ [])
    (kept-intro (λ f. not (mem a (corners_of f) && mem b (corners_of f))) fs m (ap not (nope (λ t. n (and-fst (mem a (corners_of f)) (mem b (corners_of f)) t) (and-snd (mem a (corners_of f)) (mem b (corners_of f)) t)))))
    (Sub-cons x [] (corners_of f) i (λ z k. absurd (mem-nil z k)))

-- ---- the other end of a labelled edge

other-intro : (p q s t w x : ℕ) → Memᴰ x (other_end (label p q s t) w (label p q w x))
other-intro p q s t w x =
    rw (eq-eqb p p refl, eq-eqb q q refl) (elim (split (leb w x)) [
      | inl h ↦ let k = leb-true w x h in rw (min-eq_left k, max-eq_right k, eq-eqb w w refl) (mathlib.Core.List.Memᴰ.head refl)
      | inr h ↦
          let k = leb-false w x h in
          let k' : x ≤ w = omega arith in
          rw (min-eq_right k', max-eq_left k', ne_eqb x w (λ e. omega arith), eq-eqb w w refl) (mathlib.Core.List.Memᴰ.head refl)
    ])

other-elim : (l m : Label) (w x p q u v : ℕ) → m ≡ label p q u v → Memᴰ x (other_end l w m) → m ≡ label l.x l.y w x
other-elim l m w x p q u v e i =
    elim (split (eqb l.x m.x && eqb l.y m.y)) [
      | inr h ↦ absurd (mathlib.Core.List.Memᴰ.not-nil (rw h at i))
      | inl h ↦
          let ex : l.x ≡ p = eqb-true l.x m.x (and-fst (eqb l.x m.x) (eqb l.y m.y) h) ∙ ap (λ t. t.x) e in
          let ey : l.y ≡ q = eqb-true l.y m.y (and-snd (eqb l.x m.x) (eqb l.y m.y) h) ∙ ap (λ t. t.y) e in
          let eu : m.u ≡ min u v = ap (λ t. t.u) e in
          let ev : m.v ≡ max u v = ap (λ t. t.v) e in
          let i' : Memᴰ x (cond (eqb m.u w) (m.v ∷ []) (cond (eqb m.v w) (m.u ∷ []) [])) = rw h at i in
          let done : min u v ≡ min w x → max u v ≡ max w x → m ≡ label l.x l.y w x = λ g₁ g₂. e ∙ rw (ex, ey, g₁, g₂) refl in
          elim (split (eqb m.u w)) [
            | inl k ↦
                let k' = eqb-true m.u w k in
                let x' = mathlib.Core.List.Memᴰ.eq_of_singleton (rw k at i') in
                done (omega arith) (omega arith)
            | inr k ↦ elim (split (eqb m.v w)) [
              | inl j ↦
                  let j' = eqb-true m.v w j in
                  let x' = mathlib.Core.List.Memᴰ.eq_of_singleton (rw (k, j) at i') in
                  done (omega arith) (omega arith)
              | inr j ↦ absurd (mathlib.Core.List.Memᴰ.not-nil (rw (k, j) at i'))
            ]
          ]
    ]

module _ (stratum : ℕ → ℕ) (a b : ℕ) (fs : List Triple) (ab : a ≢ b) (D : Distinct fs)
    (A : (f : Triple) → Memᴰ f fs → (mem a (corners_of f) || mem b (corners_of f)) ≡ true)
    (S : Sub (bits_of (stratum a)) (bits_of (stratum b))) where
  -- ---- what the tests of one vertex say

  abbrev Rim : ℕ → Type 0
  Rim x = on_curve stratum b x ≡ true → (outlives a b fs x ≡ true) × ((joined fs b x ≡ true) ⊎ Sub (shared (stratum b) (stratum x)) (shared (stratum a) (stratum x)))

  abbrev Curve : ℕ → Type 0
  Curve x = on_curve stratum a x ≡ true → joined fs a b ≡ true → joined fs a x ≡ true → joined fs b x ≡ true → ⊥

  -- what a shares with x, b shares with x
  more : (x : ℕ) → Sub (shared (stratum a) (stratum x)) (shared (stratum b) (stratum x))
  more x k m =
      let h = sym (shared-mem (stratum a) (stratum x) k) ∙ m in
      shared-mem (stratum b) (stratum x) k ∙ rw (S k (and-fst (mem k (bits_of (stratum a))) (mem k (bits_of (stratum x))) h), and-snd (mem k (bits_of (stratum a))) (mem k (bits_of (stratum x))) h) refl

  rim-elim : (x : ℕ) → rim_ok stratum a b fs x ≡ true → Rim x
  rim-elim x h c =
      let k : (outlives a b fs x && (joined fs b x || same_simplex (shared (stratum a) (stratum x)) (shared (stratum b) (stratum x)))) ≡ true = rw c at h in (
        and-fst (outlives a b fs x) (joined fs b x || same_simplex (shared (stratum a) (stratum x)) (shared (stratum b) (stratum x))) k,
        elim (or_cases (joined fs b x) (same_simplex (shared (stratum a) (stratum x)) (shared (stratum b) (stratum x))) (and-snd (outlives a b fs x) (joined fs b x || same_simplex (shared (stratum a) (stratum x)) (shared (stratum b) (stratum x))) k)) [
          | inl j ↦ inl j
          | inr s ↦ inr (λ z m. subst (λ l. mem z l ≡ true) (sym (simplex-decides.equal (shared (stratum a) (stratum x)) (shared (stratum b) (stratum x)) s)) m)
        ],
      )

  rim-intro : (x : ℕ) → Rim x → rim_ok stratum a b fs x ≡ true
  rim-intro x r =
      elim (split (on_curve stratum b x)) [
        | inr c ↦ rw c refl
        | inl c ↦
            let k = r c in
            rw (c, k.0) (elim k.1 [
              | inl j ↦ rw j refl
              | inr s ↦
                  let e = rising-unique (shared (stratum a) (stratum x)) (shared (stratum b) (stratum x)) (shared-rising (stratum a) (stratum x)) (shared-rising (stratum b) (stratum x)) (more x) s in
                  or_right (joined fs b x) (subst (λ l. same_simplex (shared (stratum a) (stratum x)) l ≡ true) e (simplex-decides.self (shared (stratum a) (stratum x))))
            ])
      ]

  curve-elim : (x : ℕ) → curve_ok stratum a b fs x ≡ true → Curve x
  curve-elim x h c p q r = clash (rw (p, q, r) refl) (not-true (joined fs a b && (joined fs a x && joined fs b x)) (rw c at h))

  curve-intro : (x : ℕ) → Curve x → curve_ok stratum a b fs x ≡ true
  curve-intro x f =
      elim (split (on_curve stratum a x)) [
        | inr c ↦ rw c refl
        | inl c ↦ rw c (ap not (nope (λ t.
            let t₁ = and-snd (joined fs a b) (joined fs a x && joined fs b x) t in
            f c (and-fst (joined fs a b) (joined fs a x && joined fs b x) t) (and-fst (joined fs a x) (joined fs b x) t₁) (and-snd (joined fs a x) (joined fs b x) t₁))))
      ]

  -- ---- the labelled edges after the collapse

  abbrev On : ℕ → Type 0
  On x = within (x ∷ []) (map corners_of fs) ≡ true

  on : (x : ℕ) (f : Triple) → Memᴰ f fs → mem x (corners_of f) ≡ true → On x
  on x f m i = edge-intro fs (x ∷ []) m (Sub-cons x [] (corners_of f) i (λ z k. absurd (mem-nil z k)))

  meets : (u v : ℕ) (f : Triple) → Memᴰ f fs → mem u (corners_of f) ≡ true → mem v (corners_of f) ≡ true → joined fs u v ≡ true
  meets u v f m p q = edge-intro fs (u ∷ v ∷ []) m (Sub-two u v (corners_of f) p q)

  -- an end of the edge, or neither
  abbrev End : ℕ → Type 0
  End u = (u ≡ a) ⊎ (u ≡ b)

  end? : (u : ℕ) → End u ⊎ ((u ≢ a) × (u ≢ b))
  end? u =
      elim (split (eqb u a)) [
        | inl h ↦ inl (inl (eqb-true u a h))
        | inr h ↦ elim (split (eqb u b)) [ inl k ↦ inl (inr (eqb-true u b k)) | inr k ↦ inr (eqb-false u a h, eqb-false u b k) ]
      ]

  onto-b : onto a b b ≡ b
  onto-b = onto-other a b b (flip≢ ab)

  end-onto : (u : ℕ) → End u → onto a b u ≡ b
  end-onto u e = elim e [ inl p ↦ rw p (onto-a a b) | inr p ↦ rw p onto-b ]

  end-bits : (u x k : ℕ) → End u → mem k (shared (stratum u) (stratum x)) ≡ true → mem k (shared (stratum b) (stratum x)) ≡ true
  end-bits u x k e m = elim e [ inl p ↦ more x k (rw p at m) | inr p ↦ rw p at m ]

  -- each face has an end
  end_of : (f : Triple) → Memᴰ f fs → (w : ℕ) × End w × (mem w (corners_of f) ≡ true)
  end_of f m = elim (or_cases (mem a (corners_of f)) (mem b (corners_of f)) (A f m)) [ inl i ↦ (a, inl refl, i) | inr i ↦ (b, inr refl, i) ]

  -- the labels of the edge w x, for an end w, are expected of b x
  expects : (p q w x : ℕ) → End w → x ≢ a → x ≢ b → Labelled stratum fs p q w x → Memᴰ (label p q b x) (expected a b (features stratum fs))
  expects p q w x e xa xb r =
      subst (λ u. Memᴰ (label p q u x) (expected a b (features stratum fs))) (end-onto w e)
      (subst (λ u. Memᴰ (label p q (onto a b w) u) (expected a b (features stratum fs))) (onto-other a b x xa)
      (expected-intro stratum a b fs p q w x r (λ t. xb (sym (onto-other a b x xa) ∙ (sym t ∙ end-onto w e)))))

  -- b x is labelled after the collapse, with the bits that they share, if x outlives it
  labelled-after : (p q x : ℕ) → x ≢ a → x ≢ b → outlives a b fs x ≡ true → p < q → mem p (shared (stratum b) (stratum x)) ≡ true → mem q (shared (stratum b) (stratum x)) ≡ true → Labelled stratum (mapped a b fs) p q b x
  labelled-after p q x xa xb o l i j =
      let r = outlives-elim a b fs x o in
      let e = end_of r.0 r.1 in
      record {
        differ = flip≢ xb;
        edge =
            subst (λ u. within (u ∷ x ∷ []) (map corners_of (mapped a b fs)) ≡ true) (end-onto e.0 e.1)
            (subst (λ u. within (onto a b e.0 ∷ u ∷ []) (map corners_of (mapped a b fs)) ≡ true) (onto-other a b x xa) (mapped-intro a b ab fs D e.0 x r.0 r.1 r.2 e.2 r.3));
        rise = l;
        low = i;
        high = j;
      }

  -- an edge b x after the collapse: x is on a face that had not both ends
  after-face : (x : ℕ) → x ≢ b → within (b ∷ x ∷ []) (map corners_of (mapped a b fs)) ≡ true → (f : Triple) × Memᴰ f fs × (mem a (corners_of f) ≡ true → mem b (corners_of f) ≡ true → ⊥) × (mem x (corners_of f) ≡ true) × (x ≢ a)
  after-face x xb w =
      let r = mapped-elim a b ab fs D b x w in
      elim (onto-cases a b x (corners_of r.0) (r.3 x (mem-there x b (x ∷ []) (mem-here x [])))) [ inl k ↦ (r.0, r.1, r.2, k.0, k.1) | inr k ↦ absurd (xb k.0) ]

  module _ (R : (x : ℕ) → x ≢ a → x ≢ b → On x → Rim x) where
    -- after the collapse, at b: expected
    new-at-b : (p q x : ℕ) → Labelled stratum (mapped a b fs) p q b x → Memᴰ (label p q b x) (expected a b (features stratum fs))
    new-at-b p q x r =
        let xb : x ≢ b = flip≢ r.differ in
        let k = after-face x xb r.edge in
        let f = k.0 in
        let xa = k.4 in
        let at : (w : ℕ) → End w → joined fs w x ≡ true → mem p (shared (stratum w) (stratum x)) ≡ true → mem q (shared (stratum w) (stratum x)) ≡ true → w ≢ x → Memᴰ (label p q b x) (expected a b (features stratum fs)) = λ w e j i₁ i₂ n. expects p q w x e xa xb (record { differ = n; edge = j; rise = r.rise; low = i₁; high = i₂ }) in
        let c = R x xa xb (on x f k.1 k.3) (of_two (shared (stratum b) (stratum x)) p q r.rise r.low r.high) in
        elim c.1 [
          | inl j ↦ at b (inr refl) j r.low r.high r.differ
          | inr s ↦ elim (or_cases (mem a (corners_of f)) (mem b (corners_of f)) (A f k.1)) [
            | inl i ↦ at a (inl refl) (meets a x f k.1 i k.3) (s p r.low) (s q r.high) (flip≢ xa)
            | inr i ↦ at b (inr refl) (meets b x f k.1 i k.3) r.low r.high r.differ
          ]
        ]

    new-expected : (l : Label) → Memᴰ l (features stratum (mapped a b fs)) → Memᴰ l (expected a b (features stratum fs))
    new-expected l m =
        let r = features-elim stratum (mapped a b fs) (mapped-distinct a b ab fs D) m in
        let p = r.0 in
        let q = r.1 in
        let u = r.2 in
        let v = r.3 in
        mathlib.Core.List.Memᴰ.cast r.5 (elim (split (eqb u b)) [
          | inl h ↦ let e = eqb-true u b h in subst (λ w. Memᴰ (label p q w v) (expected a b (features stratum fs))) (sym e) (new-at-b p q v (subst (λ w. Labelled stratum (mapped a b fs) p q w v) e r.4))
          | inr h ↦ elim (split (eqb v b)) [
            | inl k ↦ let e = eqb-true v b k in
                mathlib.Core.List.Memᴰ.cast (label-comm p q u v) (subst (λ w. Memᴰ (label p q w u) (expected a b (features stratum fs))) (sym e) (new-at-b p q u (subst (λ w. Labelled stratum (mapped a b fs) p q w u) e (labelled-swap stratum (mapped a b fs) p q u v r.4))))
            | inr k ↦ away p q u v (eqb-false u b h) (eqb-false v b k) r.4
          ]
        ])
      where
        away : (p q u v : ℕ) → u ≢ b → v ≢ b → Labelled stratum (mapped a b fs) p q u v → Memᴰ (label p q u v) (expected a b (features stratum fs))
        away p q u v ub vb r =
            let k = mapped-elim a b ab fs D u v r.edge in
            let at : (z : ℕ) → z ≢ b → mem z (map (onto a b) (corners_of k.0)) ≡ true → (mem z (corners_of k.0) ≡ true) × (z ≢ a) = λ z n i. elim (onto-cases a b z (corners_of k.0) i) [ inl j ↦ j | inr j ↦ absurd (n j.0) ] in
            let iu = at u ub (k.3 u (mem-here u (v ∷ []))) in
            let iv = at v vb (k.3 v (mem-there v u (v ∷ []) (mem-here v []))) in
            let eu = onto-other a b u iu.1 in
            let ev = onto-other a b v iv.1 in
            subst (λ w. Memᴰ (label p q w v) (expected a b (features stratum fs))) eu
            (subst (λ w. Memᴰ (label p q (onto a b u) w) (expected a b (features stratum fs))) ev
            (expected-intro stratum a b fs p q u v
            (record { differ = r.differ; edge = meets u v k.0 k.1 iu.0 iv.0; rise = r.rise; low = r.low; high = r.high })
            (λ t. r.differ (sym eu ∙ (t ∙ ev)))))

    -- expected at an end: labelled after the collapse
    old-at-end : (p q u x : ℕ) → End u → x ≢ a → x ≢ b → Labelled stratum fs p q u x → Memᴰ (label p q b x) (features stratum (mapped a b fs))
    old-at-end p q u x e xa xb r =
        let k = edge-elim fs (u ∷ x ∷ []) r.edge in
        let i = end-bits u x p e r.low in
        let j = end-bits u x q e r.high in
        let c = R x xa xb (on x k.0 k.1 (k.2 x (mem-there x u (x ∷ []) (mem-here x [])))) (of_two (shared (stratum b) (stratum x)) p q r.rise i j) in
        features-intro stratum (mapped a b fs) p q b x (labelled-after p q x xa xb c.0 r.rise i j)

    -- an edge without ends stays
    old-away : (p q u v : ℕ) → u ≢ a → u ≢ b → v ≢ a → v ≢ b → Labelled stratum fs p q u v → Memᴰ (label p q u v) (features stratum (mapped a b fs))
    old-away p q u v ua ub va vb r =
        let k = edge-elim fs (u ∷ v ∷ []) r.edge in
        let iu = k.2 u (mem-here u (v ∷ [])) in
        let iv = k.2 v (mem-there v u (v ∷ []) (mem-here v [])) in
        let four : Nodup (a ∷ b ∷ u ∷ v ∷ []) = (
          out a b (u ∷ v ∷ []) ab (out a u (v ∷ []) (flip≢ ua) (out a v [] (flip≢ va) refl)),
          (out b u (v ∷ []) (flip≢ ub) (out b v [] (flip≢ vb) refl), (out u v [] r.differ refl, (refl, tt))),
        ) in
        let n : mem a (corners_of k.0) ≡ true → mem b (corners_of k.0) ≡ true → ⊥ = λ i j. let s = short (a ∷ b ∷ u ∷ v ∷ []) (corners_of k.0) four (Sub-cons a (b ∷ u ∷ v ∷ []) (corners_of k.0) i (Sub-cons b (u ∷ v ∷ []) (corners_of k.0) j k.2)) in omega arith in
        features-intro stratum (mapped a b fs) p q u v (record {
          differ = r.differ;
          edge =
              subst (λ w. within (w ∷ v ∷ []) (map corners_of (mapped a b fs)) ≡ true) (onto-other a b u ua)
              (subst (λ w. within (onto a b u ∷ w ∷ []) (map corners_of (mapped a b fs)) ≡ true) (onto-other a b v va) (mapped-intro a b ab fs D u v k.0 k.1 n iu iv));
          rise = r.rise;
          low = r.low;
          high = r.high;
        })

    expected-new : (l : Label) → Memᴰ l (expected a b (features stratum fs)) → Memᴰ l (features stratum (mapped a b fs))
    expected-new l m =
        let r = expected-elim stratum a b fs D m in
        let p = r.0 in
        let q = r.1 in
        let u = r.2 in
        let v = r.3 in
        let n = r.5 in
        let both : (w z : ℕ) → onto a b u ≡ w → onto a b v ≡ z → Memᴰ (label p q w z) (features stratum (mapped a b fs)) → Memᴰ l (features stratum (mapped a b fs)) = λ w z e₁ e₂ i. mathlib.Core.List.Memᴰ.cast (r.6 ∙ (ap (λ t. label p q t (onto a b v)) e₁ ∙ ap (λ t. label p q w t) e₂)) i in
        elim (end? u) [
          | inl e ↦ elim (end? v) [
            | inl k ↦ absurd (n (end-onto u e ∙ sym (end-onto v k)))
            | inr k ↦ both b v (end-onto u e) (onto-other a b v k.0) (old-at-end p q u v e k.0 k.1 r.4)
          ]
          | inr e ↦ elim (end? v) [
            | inl k ↦ both u b (onto-other a b u e.0) (end-onto v k) (mathlib.Core.List.Memᴰ.cast (label-comm p q u b) (old-at-end p q v u k e.0 e.1 (labelled-swap stratum fs p q u v r.4)))
            | inr k ↦ both u v (onto-other a b u e.0) (onto-other a b v k.0) (old-away p q u v e.0 e.1 k.0 k.1 r.4)
          ]
        ]

    edges-intro : edges_ok stratum a b fs ≡ true
    unfolding edges_ok
    edges-intro = same_set-intro same_label label-decides (features stratum (mapped a b fs)) (expected a b (features stratum fs)) (λ l. (new-expected l, expected-new l))

  -- the other way: where the labels are as expected, each vertex passes
  module _ (E : edges_ok stratum a b fs ≡ true) where
    alike : Alike (features stratum (mapped a b fs)) (expected a b (features stratum fs))
    unfolding edges_ok
    alike = same_set-elim same_label label-decides (features stratum (mapped a b fs)) (expected a b (features stratum fs)) E

    -- a neighbour of b under two bits outlives the collapse
    lives : (p q x : ℕ) → x ≢ a → x ≢ b → Labelled stratum fs p q b x → outlives a b fs x ≡ true
    lives p q x xa xb r =
        let n = features-at stratum (mapped a b fs) (mapped-distinct a b ab fs D) p q b x ((alike (label p q b x)).1 (expects p q b x (inr refl) xa xb r)) in
        let k = after-face x xb n.edge in
        outlives-intro a b fs x k.0 k.1 k.2 k.3

    -- two bits that b shares with a neighbour of a only, a shares with it
    pulled : (x : ℕ) → x ≢ a → x ≢ b → outlives a b fs x ≡ true → joined fs b x ≡ false → (s t : ℕ) → s < t → mem s (shared (stratum b) (stratum x)) ≡ true → mem t (shared (stratum b) (stratum x)) ≡ true → (mem s (shared (stratum a) (stratum x)) ≡ true) × (mem t (shared (stratum a) (stratum x)) ≡ true)
    pulled x xa xb o n s t l i j =
        let r = expected-at stratum a b fs D s t b x ((alike (label s t b x)).0 (features-intro stratum (mapped a b fs) s t b x (labelled-after s t x xa xb o l i j))) in
        let ex : r.1 ≡ x = elim (split (eqb r.1 a)) [
          | inl h ↦ absurd (xb (r.4 ∙ end-onto r.1 (inl (eqb-true r.1 a h))))
          | inr h ↦ sym (r.4 ∙ onto-other a b r.1 (eqb-false r.1 a h))
        ] in
        let k : Labelled stratum fs s t r.0 x = subst (λ w. Labelled stratum fs s t r.0 w) ex r.2 in
        elim (split (eqb r.0 a)) [
          | inl h ↦ let k' : Labelled stratum fs s t a x = subst (λ w. Labelled stratum fs s t w x) (eqb-true r.0 a h) k in (k'.low, k'.high)
          | inr h ↦ absurd (clash (subst (λ w. joined fs w x ≡ true) (sym (r.3 ∙ onto-other a b r.0 (eqb-false r.0 a h))) k.edge) n)
        ]

    rims : (x : ℕ) → x ≢ a → x ≢ b → On x → Rim x
    rims x xa xb w c =
        let B = shared (stratum b) (stratum x) in
        let y = two-of B (shared-rising (stratum b) (stratum x)) c in
        elim (split (joined fs b x)) [
          | inl j ↦ (lives y.0 y.1 x xa xb (record { differ = flip≢ xb; edge = j; rise = y.2; low = y.3; high = y.4 }), inl j)
          | inr n ↦
              let r = edge-elim fs (x ∷ []) w in
              let i = r.2 x (mem-here x []) in
              let o = outlives-intro a b fs x r.0 r.1 (λ p q. clash (meets b x r.0 r.1 q i) n) i in (
                o,
                inr (λ k m. elim (split (eqb k y.0)) [
                  | inl h ↦ subst (λ z. mem z (shared (stratum a) (stratum x)) ≡ true) (sym (eqb-true k y.0 h)) (pulled x xa xb o n y.0 y.1 y.2 y.3 y.4).0
                  | inr h ↦ elim (split (ltb k y.0)) [
                    | inl g ↦ (pulled x xa xb o n k y.0 (ltb-true k y.0 g) m y.3).0
                    | inr g ↦ (pulled x xa xb o n y.0 k (let g' = ltb-false k y.0 g in let h' : k ≢ y.0 = eqb-false k y.0 h in omega arith) y.3 m).1
                  ]
                ]),
              )
        ]

  -- ---- neighbours of both ends

  -- a neighbour of w in the list is one of an edge with the same bits
  near : (l : Label) (w x : ℕ) → Memᴰ x (neighbours l w (features stratum fs)) → Labelled stratum fs l.x l.y w x
  near l w x m =
      let r = neighbours-elim l w (features stratum fs) m in
      let k = features-elim stratum fs D r.1 in
      features-at stratum fs D l.x l.y w x (mathlib.Core.List.Memᴰ.cast (sym (other-elim l r.0 w x k.0 k.1 k.2 k.3 k.5 r.2)) r.1)

  curves : neighbours_ok stratum a b fs ≡ true → (x : ℕ) → x ≢ a → x ≢ b → Curve x
  unfolding neighbours_ok
  curves N x xa xb c jab jax jbx =
      let y = two-of (shared (stratum a) (stratum x)) (shared-rising (stratum a) (stratum x)) c in
      let p = y.0 in
      let q = y.1 in
      let own : (k : ℕ) → mem k (shared (stratum a) (stratum x)) ≡ true → mem k (shared (stratum a) (stratum b)) ≡ true = λ k m.
      let h = and-fst (mem k (bits_of (stratum a))) (mem k (bits_of (stratum x))) (sym (shared-mem (stratum a) (stratum x) k) ∙ m) in
      shared-mem (stratum a) (stratum b) k ∙ rw (h, S k h) refl in
      let old = features stratum fs in
      let l = label p q a b in
      let la = features-intro stratum fs p q a x (record { differ = flip≢ xa; edge = jax; rise = y.2; low = y.3; high = y.4 }) in
      let lb = features-intro stratum fs p q b x (record { differ = flip≢ xb; edge = jbx; rise = y.2; low = more x p y.3; high = more x q y.4 }) in
      let t = every-elim (λ l. not (eqb l.u (min a b) && eqb l.v (max a b)) || every (λ n. not (mem n (neighbours l b old))) (neighbours l a old)) old N (features-intro stratum fs p q a b (record { differ = ab; edge = jab; rise = y.2; low = own p y.3; high = own q y.4 })) in
      let t' : every (λ n. not (mem n (neighbours l b old))) (neighbours l a old) ≡ true = rw (eq-eqb (min a b) (min a b) refl, eq-eqb (max a b) (max a b) refl) at t in
      let z = every-elim (λ n. not (mem n (neighbours l b old))) (neighbours l a old) t' (neighbours-intro l a old la (other-intro p q a b a x)) in
      clash (member-mem (neighbours l b old) (neighbours-intro l b old lb (other-intro p q a b b x))) (not-true (mem x (neighbours l b old)) z)

  neighbours-ok : ((x : ℕ) → x ≢ a → x ≢ b → On x → Curve x) → neighbours_ok stratum a b fs ≡ true
  unfolding neighbours_ok
  neighbours-ok C =
      every-intro (λ l. not (eqb l.u (min a b) && eqb l.v (max a b)) || every (λ n. not (mem n (neighbours l b (features stratum fs)))) (neighbours l a (features stratum fs))) (features stratum fs)
      (λ l m. elim (split (eqb l.u (min a b) && eqb l.v (max a b))) [
        | inr h ↦ rw h refl
        | inl h ↦ rw h (every-intro (λ n. not (mem n (neighbours l b (features stratum fs)))) (neighbours l a (features stratum fs)) (λ n i. ap not (nope (λ j. none l m h n i (mem-member (neighbours l b (features stratum fs)) j)))))
      ])
    where
      none : (l : Label) → Memᴰ l (features stratum fs) → (eqb l.u (min a b) && eqb l.v (max a b)) ≡ true → (n : ℕ) → Memᴰ n (neighbours l a (features stratum fs)) → Memᴰ n (neighbours l b (features stratum fs)) → ⊥
      none l m h n i j =
          let r = features-elim stratum fs D m in
          let e : label l.x l.y a b ≡ l = rw (← eqb-true l.u (min a b) (and-fst (eqb l.u (min a b)) (eqb l.v (max a b)) h), ← eqb-true l.v (max a b) (and-snd (eqb l.u (min a b)) (eqb l.v (max a b)) h)) refl in
          let k = features-at stratum fs D l.x l.y a b (mathlib.Core.List.Memᴰ.cast e m) in
          let ka = near l a n i in
          let kb = near l b n j in
          let f = edge-elim fs (a ∷ n ∷ []) ka.edge in
          C n (flip≢ ka.differ) (flip≢ kb.differ) (on n f.0 f.1 (f.2 n (mem-there n a (n ∷ []) (mem-here n []))))
          (of_two (shared (stratum a) (stratum n)) l.x l.y ka.rise ka.low ka.high)
          k.edge ka.edge kb.edge

  -- ---- the law

  -- the feature tests are those by masks
  pub feature_ok-masks : feature_ok stratum a b fs ≡ feature_by_masks stratum a b fs
  unfolding feature_ok feature_by_masks
  feature_ok-masks = same there back
    where
      at : ℕ → Bool
      at x = eqb x a || (eqb x b || (rim_ok stratum a b fs x && curve_ok stratum a b fs x))

      there : (edges_ok stratum a b fs && neighbours_ok stratum a b fs) ≡ true → every at (all_corners fs) ≡ true
      there h =
          let E = and-fst (edges_ok stratum a b fs) (neighbours_ok stratum a b fs) h in
          let N = and-snd (edges_ok stratum a b fs) (neighbours_ok stratum a b fs) h in
          mem-every at (all_corners fs) (λ x m. elim (end? x) [
            | inl e ↦ elim e [ inl p ↦ rw (eq-eqb x a p) refl | inr p ↦ or_right (eqb x a) (rw (eq-eqb x b p) refl) ]
            | inr n ↦ or_right (eqb x a) (or_right (eqb x b) (rw (rim-intro x (rims E x n.0 n.1 (sym (on-face x fs) ∙ m)), curve-intro x (curves N x n.0 n.1)) refl))
          ])

      back : every at (all_corners fs) ≡ true → (edges_ok stratum a b fs && neighbours_ok stratum a b fs) ≡ true
      back h =
          let pass : (x : ℕ) → x ≢ a → x ≢ b → On x → (rim_ok stratum a b fs x && curve_ok stratum a b fs x) ≡ true = λ x xa xb w. rw (ne_eqb x a xa, ne_eqb x b xb) at (every-mem at (all_corners fs) h x (on-face x fs ∙ w)) in
          rw (
            edges-intro (λ x xa xb w. rim-elim x (and-fst (rim_ok stratum a b fs x) (curve_ok stratum a b fs x) (pass x xa xb w))),
            neighbours-ok (λ x xa xb w. curve-elim x (and-snd (rim_ok stratum a b fs x) (curve_ok stratum a b fs x) (pass x xa xb w))),
          ) refl

-- of the boundary faces about an edge: `link_ok`'s feature tests need no labels
pub boundary-masks : (stratum : ℕ → ℕ) (a b : ℕ) (ts : List Tet) → Fours ts → a ≢ b → Sub (bits_of (stratum a)) (bits_of (stratum b)) → feature_ok stratum a b (boundary_about a b ts) ≡ feature_by_masks stratum a b (boundary_about a b ts)
boundary-masks stratum a b ts P ab S =
    feature_ok-masks stratum a b (boundary_about a b ts) ab (λ f m. rising-nodup (corners_of f) (boundary-elim a b ts P f m).rises) (λ f m. (boundary-elim a b ts P f m).about) S

-- so the whole of `link_ok` is its interior test, its boundary test and the tests by masks
pub link_ok-masks : (stratum : ℕ → ℕ) (a b : ℕ) (ts : List Tet) → Fours ts → a ≢ b → Sub (bits_of (stratum a)) (bits_of (stratum b)) → link_ok stratum a b ts ≡ (interior_ok a b ts && (boundary_ok a b ts && feature_by_masks stratum a b (boundary_about a b ts)))
unfolding link_ok
link_ok-masks stratum a b ts P ab S = rw (boundary-masks stratum a b ts P ab S) refl
