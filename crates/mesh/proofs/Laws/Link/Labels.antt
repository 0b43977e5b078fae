-- Which labelled edges there are: before a collapse, after it, and those expected after it, each as a fact about faces and shared bits.
-- Assumes nothing.
use Rattle.std.proofs.Common.{◌≡◌, ℕ, zero, suc, ◌+◌, ◌/◌, ◌%◌, ◌<◌, ◌≤◌, min, max, Bool, true, not, ◌&&◌, eqb, leb, ◌≢◌, ◌⊎◌, List, [], ◌∷◌, ◌++◌, map, sym, refl, ap, ◌∙◌, subst, inl, inr, arith, eq-eqb, ne_eqb, eqb-true, leb-false, leb-true}
use mathlib.Core.Bool.{and_comm}
use mathlib.Core.List.{Memᴰ}
use native.Mathlib.Nat.{min_comm, max_comm, min-eq_left, min-eq_right, max-eq_left, max-eq_right}
use borrow.Author.Tests.{eqb-false, not-true}
use Rattle.mesh.specs.declared.element.Triple.{Triple}
use Rattle.mesh.specs.Complex.{mem, within, keep, Nodup, Sub}
use Rattle.mesh.specs.Element.{triple, corners_of}
use Rattle.mesh.specs.Feature.{onto, Label, label, bits_from, bits_of, shared, labels_with, labels_under, labels, features, three_apart, mapped, expected}
use Rattle.mesh.proofs.Laws.Complex.Sets.{split, and-fst, and-snd, mem-here, mem-there, mem-cases, mem-nil, out-head, out-tail, Sub-cons, within-elim, within-intro, keep-mem, rm, rm-mem, rm-length, short, or_left}
use Rattle.mesh.proofs.Laws.Link.Members.{kept-elim, kept-intro}
use Rattle.mesh.proofs.Laws.Link.Simplices.{rising, rising-head, rising-tail, rising-cons}
use Rattle.mesh.proofs.Laws.Link.Keys.{three-nodup, flip≢}
use Rattle.mesh.proofs.Laws.Link.Features.{mem-member, member-mem, labels_of, features-of, features-in}
use Rattle.mesh.proofs.Laws.Complex.Collapse.{onto-cases}

-- ---- bits

pub bits-from : (n k m j : ℕ) → mem j (bits_from n k m) ≡ true → k ≤ j
unfolding bits_from
bits-from zero k m j i = absurd (mem-nil j i)
bits-from (suc n) k m j i =
    let later : mem j (bits_from n (k + 1) (m / 2)) ≡ true → k ≤ j = λ q. let r = bits-from n (k + 1) (m / 2) j q in omega arith in
    elim (split (eqb (m % 2) 1)) [
      | inl h ↦ elim (mem-cases j k (bits_from n (k + 1) (m / 2)) (rw h at i)) [ inl e ↦ omega arith | inr q ↦ later q ]
      | inr h ↦ later (rw h at i)
    ]

bits-rising : (n k m : ℕ) → rising (bits_from n k m) ≡ true
unfolding bits_from
bits-rising zero k m = refl
bits-rising (suc n) k m =
    let ih = bits-rising n (k + 1) (m / 2) in
    elim (split (eqb (m % 2) 1)) [
      | inl h ↦ rw h (rising-cons k (bits_from n (k + 1) (m / 2)) (λ j i. let r = bits-from n (k + 1) (m / 2) j i in omega arith) ih)
      | inr h ↦ rw h ih
    ]

keep-rising : (p : ℕ → Bool) (xs : List ℕ) → rising xs ≡ true → rising (keep p xs) ≡ true
keep-rising p [] h = refl
keep-rising p (x ∷ xs) h =
    let ih = keep-rising p xs (rising-tail x xs h) in
    elim (split (p x)) [
      | inl k ↦ rw k (rising-cons x (keep p xs) (λ y m. rising-head x xs h y (and-fst (mem y xs) (p y) (sym (keep-mem p xs y) ∙ m))) ih)
      | inr k ↦ rw k ih
    ]

pub bits_of-rising : (m : ℕ) → rising (bits_of m) ≡ true
unfolding bits_of
bits_of-rising m = bits-rising 38 0 m

pub shared-rising : (m n : ℕ) → rising (shared m n) ≡ true
shared-rising m n = keep-rising (λ k. mem k (bits_of n)) (bits_of m) (bits_of-rising m)

pub shared-mem : (m n k : ℕ) → mem k (shared m n) ≡ (mem k (bits_of m) && mem k (bits_of n))
shared-mem m n k = keep-mem (λ j. mem j (bits_of n)) (bits_of m) k

pub shared-comm : (m n k : ℕ) → mem k (shared m n) ≡ mem k (shared n m)
shared-comm m n k = shared-mem m n k ∙ (and_comm (mem k (bits_of m)) (mem k (bits_of n)) ∙ sym (shared-mem n m k))

-- ---- labels

pub label-comm : (x y u v : ℕ) → label x y u v ≡ label x y v u
label-comm x y u v = rw (min_comm u v, max_comm u v) refl

-- equal labels have the same bits and the same ends, in one order or the other
pub label-ends : (x y u v x' y' u' v' : ℕ) → label x y u v ≡ label x' y' u' v' → (x ≡ x') × (y ≡ y') × (((u ≡ u') × (v ≡ v')) ⊎ ((u ≡ v') × (v ≡ u')))
label-ends x y u v x' y' u' v' e =
    let p : min u v ≡ min u' v' = ap (λ l. l.u) e in
    let q : max u v ≡ max u' v' = ap (λ l. l.v) e in (
      ap (λ l. l.x) e,
      ap (λ l. l.y) e,
      elim (split (eqb u u')) [
        | inl h ↦ let h' = eqb-true u u' h in inl (h', omega arith)
        | inr h ↦ let h' : u ≢ u' = eqb-false u u' h in inr (omega arith, omega arith)
      ],
    )

-- the labels of an edge under rising bits: two of them each
under-elim : (ys : List ℕ) (u v : ℕ) {l : Label} → rising ys ≡ true → Memᴰ l (labels_under ys u v) → (x : ℕ) × (y : ℕ) × (x < y) × (mem x ys ≡ true) × (mem y ys ≡ true) × (l ≡ label x y u v)
unfolding labels_under
under-elim [] u v h m = absurd (mathlib.Core.List.Memᴰ.not-nil m)
under-elim (z ∷ ys) u v h m =
    elim (mathlib.Core.List.Memᴰ.append_cases (labels_with z ys u v) m) [
      | inl i ↦ let r = mathlib.Core.List.Memᴰ.of_map (λ y. label z y u v) ys i in let k = member-mem ys r.1 in (z, r.0, rising-head z ys h r.0 k, mem-here z ys, mem-there r.0 z ys k, sym r.2)
      | inr i ↦ let r = under-elim ys u v (rising-tail z ys h) i in (r.0, r.1, r.2, mem-there r.0 z ys r.3, mem-there r.1 z ys r.4, r.5)
    ]

under-intro : (ys : List ℕ) (u v x y : ℕ) → rising ys ≡ true → x < y → mem x ys ≡ true → mem y ys ≡ true → Memᴰ (label x y u v) (labels_under ys u v)
unfolding labels_under
under-intro [] u v x y h l i j = absurd (mem-nil x i)
under-intro (z ∷ ys) u v x y h l i j =
    let y∈ys : mem y ys ≡ true = elim (mem-cases y z ys j) [
      | inr k ↦ k
      | inl e ↦ absurd (elim (mem-cases x z ys i) [ inl q ↦ omega arith | inr q ↦ let r = rising-head z ys h x q in omega arith ])
    ] in
    elim (mem-cases x z ys i) [
      | inl e ↦ mathlib.Core.List.Memᴰ.append_left (labels_under ys u v) (mathlib.Core.List.Memᴰ.cast (ap (λ w. label w y u v) e) (mathlib.Core.List.Memᴰ.map (λ w. label z w u v) (mem-member ys y∈ys)))
      | inr k ↦ mathlib.Core.List.Memᴰ.append_right (labels_with z ys u v) (under-intro ys u v x y (rising-tail z ys h) l k y∈ys)
    ]

-- ---- the labelled edges of faces

-- faces of three different vertices each
abbrev pub Distinct : List Triple → Type 0
Distinct fs = (f : Triple) → Memᴰ f fs → Nodup (corners_of f)

-- two vertices of one face, and two bits that their strata share
pub record Labelled (stratum : ℕ → ℕ) (fs : List Triple) (x y u v : ℕ) : Type 0 where
  pub differ : u ≢ v
  pub edge : within (u ∷ v ∷ []) (map corners_of fs) ≡ true
  pub rise : x < y
  pub low : mem x (shared (stratum u) (stratum v)) ≡ true
  pub high : mem y (shared (stratum u) (stratum v)) ≡ true

pub edge-elim : (fs : List Triple) (σ : List ℕ) → within σ (map corners_of fs) ≡ true → (f : Triple) × Memᴰ f fs × Sub σ (corners_of f)
edge-elim fs σ w =
    let r = within-elim σ (map corners_of fs) w in
    let c = mathlib.Core.List.Memᴰ.of_map corners_of fs r.1 in
    (c.0, c.1, λ z m. subst (λ e. mem z e ≡ true) (sym c.2) (r.2 z m))

pub edge-intro : (fs : List Triple) (σ : List ℕ) {f : Triple} → Memᴰ f fs → Sub σ (corners_of f) → within σ (map corners_of fs) ≡ true
edge-intro fs σ {f} m s = within-intro σ {e = corners_of f} (mathlib.Core.List.Memᴰ.map corners_of m) s

pub Sub-two : (u v : ℕ) (e : List ℕ) → mem u e ≡ true → mem v e ≡ true → Sub (u ∷ v ∷ []) e
Sub-two u v e p q = Sub-cons u (v ∷ []) e p (Sub-cons v [] e q (λ z m. absurd (mem-nil z m)))

pub joined-swap : (fs : List Triple) (u v : ℕ) → within (u ∷ v ∷ []) (map corners_of fs) ≡ true → within (v ∷ u ∷ []) (map corners_of fs) ≡ true
joined-swap fs u v w = let r = edge-elim fs (u ∷ v ∷ []) w in edge-intro fs (v ∷ u ∷ []) r.1 (Sub-two v u (corners_of r.0) (r.2 v (mem-there v u (v ∷ []) (mem-here v []))) (r.2 u (mem-here u (v ∷ []))))

module _ (stratum : ℕ → ℕ) (fs : List Triple) where
  pub labelled-swap : (x y u v : ℕ) → Labelled stratum fs x y u v → Labelled stratum fs x y v u
  labelled-swap x y u v r = record {
    differ = λ e. r.differ (sym e);
    edge = joined-swap fs u v r.edge;
    rise = r.rise;
    low = shared-comm (stratum v) (stratum u) x ∙ r.low;
    high = shared-comm (stratum v) (stratum u) y ∙ r.high;
  }

  -- each labelled edge is one
  abbrev IsLabelled : Label → Type 0
  IsLabelled l = (x : ℕ) × (y : ℕ) × (u : ℕ) × (v : ℕ) × Labelled stratum fs x y u v × (l ≡ label x y u v)

  edge-labels : (u v : ℕ) {l : Label} → u ≢ v → within (u ∷ v ∷ []) (map corners_of fs) ≡ true → Memᴰ l (labels stratum u v) → IsLabelled l
  edge-labels u v n w m =
      let r = under-elim (shared (stratum u) (stratum v)) u v (shared-rising (stratum u) (stratum v)) m in
      (r.0, r.1, u, v, record { differ = n; edge = w; rise = r.2; low = r.3; high = r.4 }, r.5)

  pub features-elim : Distinct fs → {l : Label} → Memᴰ l (features stratum fs) → IsLabelled l
  features-elim D {l} m =
      let r = features-of stratum fs m in
      let f = r.0 in
      let d = D f r.1 in
      let a∈ = mem-here f.a (f.b ∷ f.c ∷ []) in
      let b∈ = mem-there f.b f.a (f.b ∷ f.c ∷ []) (mem-here f.b (f.c ∷ [])) in
      let c∈ = mem-there f.c f.a (f.b ∷ f.c ∷ []) (mem-there f.c f.b (f.c ∷ []) (mem-here f.c [])) in
      let on : (u v : ℕ) → mem u (corners_of f) ≡ true → mem v (corners_of f) ≡ true → within (u ∷ v ∷ []) (map corners_of fs) ≡ true = λ u v p q. edge-intro fs (u ∷ v ∷ []) r.1 (Sub-two u v (corners_of f) p q) in
      elim (mathlib.Core.List.Memᴰ.append_cases (labels stratum f.a f.b) r.2) [
        | inl i ↦ edge-labels f.a f.b (out-head f.a f.b (f.c ∷ []) d.0) (on f.a f.b a∈ b∈) i
        | inr i ↦ elim (mathlib.Core.List.Memᴰ.append_cases (labels stratum f.b f.c) i) [
          | inl j ↦ edge-labels f.b f.c (out-head f.b f.c [] d.1.0) (on f.b f.c b∈ c∈) j
          | inr j ↦ edge-labels f.c f.a (λ e. out-head f.a f.c [] (out-tail f.a f.b (f.c ∷ []) d.0) (sym e)) (on f.c f.a c∈ a∈) j
        ]
      ]

  -- and each that there is has its label
  pub features-intro : (x y u v : ℕ) → Labelled stratum fs x y u v → Memᴰ (label x y u v) (features stratum fs)
  features-intro x y u v r =
      let k = edge-elim fs (u ∷ v ∷ []) r.edge in
      features-in stratum fs k.1 (found k.0 (k.2 u (mem-here u (v ∷ []))) (k.2 v (mem-there v u (v ∷ []) (mem-here v []))))
    where
      here : (p q : ℕ) → u ≡ p → v ≡ q → Memᴰ (label x y u v) (labels stratum p q)
      here p q e₁ e₂ = subst (λ w. Memᴰ (label x y u v) (labels stratum p w)) e₂ (subst (λ w. Memᴰ (label x y u v) (labels stratum w v)) e₁ (under-intro (shared (stratum u) (stratum v)) u v x y (shared-rising (stratum u) (stratum v)) r.rise r.low r.high))

      turned : (p q : ℕ) → u ≡ p → v ≡ q → Memᴰ (label x y u v) (labels stratum q p)
      turned p q e₁ e₂ =
          let s = labelled-swap x y u v r in
          subst (λ w. Memᴰ (label x y u v) (labels stratum q w)) e₁
          (subst (λ w. Memᴰ (label x y u v) (labels stratum w u)) e₂
          (mathlib.Core.List.Memᴰ.cast (label-comm x y u v) (under-intro (shared (stratum v) (stratum u)) v u x y (shared-rising (stratum v) (stratum u)) s.rise s.low s.high)))

      found : (f : Triple) → mem u (corners_of f) ≡ true → mem v (corners_of f) ≡ true → Memᴰ (label x y u v) (labels_of stratum f)
      found f p q =
          let first : Memᴰ (label x y u v) (labels stratum f.a f.b) → Memᴰ (label x y u v) (labels_of stratum f) = λ i. mathlib.Core.List.Memᴰ.append_left (labels stratum f.b f.c ++ labels stratum f.c f.a) i in
          let next : Memᴰ (label x y u v) (labels stratum f.b f.c) → Memᴰ (label x y u v) (labels_of stratum f) = λ i. mathlib.Core.List.Memᴰ.append_right (labels stratum f.a f.b) (mathlib.Core.List.Memᴰ.append_left (labels stratum f.c f.a) i) in
          let last : Memᴰ (label x y u v) (labels stratum f.c f.a) → Memᴰ (label x y u v) (labels_of stratum f) = λ i. mathlib.Core.List.Memᴰ.append_right (labels stratum f.a f.b) (mathlib.Core.List.Memᴰ.append_right (labels stratum f.b f.c) i) in
          elim (corner f u p) [
            | inl ua ↦ elim (corner f v q) [
              | inl va ↦ absurd (r.differ (ua ∙ sym va))
              | inr v' ↦ elim v' [ inl vb ↦ first (here f.a f.b ua vb) | inr vc ↦ last (turned f.a f.c ua vc) ]
            ]
            | inr u' ↦ elim u' [
              | inl ub ↦ elim (corner f v q) [
                | inl va ↦ first (turned f.b f.a ub va)
                | inr v' ↦ elim v' [ inl vb ↦ absurd (r.differ (ub ∙ sym vb)) | inr vc ↦ next (here f.b f.c ub vc) ]
              ]
              | inr uc ↦ elim (corner f v q) [
                | inl va ↦ last (here f.c f.a uc va)
                | inr v' ↦ elim v' [ inl vb ↦ next (turned f.c f.b uc vb) | inr vc ↦ absurd (r.differ (uc ∙ sym vc)) ]
              ]
            ]
          ]
        where
          corner : (g : Triple) (z : ℕ) → mem z (corners_of g) ≡ true → (z ≡ g.a) ⊎ ((z ≡ g.b) ⊎ (z ≡ g.c))
          corner g z m = elim (mem-cases z g.a (g.b ∷ g.c ∷ []) m) [
            | inl e ↦ inl e
            | inr i ↦ elim (mem-cases z g.b (g.c ∷ []) i) [ inl e ↦ inr (inl e) | inr j ↦ elim (mem-cases z g.c [] j) [ inl e ↦ inr (inr e) | inr k ↦ absurd (mem-nil z k) ] ]
          ]

  labelled-move : (x y u v x' y' u' v' : ℕ) → x ≡ x' → y ≡ y' → u ≡ u' → v ≡ v' → Labelled stratum fs x' y' u' v' → Labelled stratum fs x y u v
  labelled-move x y u v x' y' u' v' p q r s k = rw (p, q, r, s) k

  -- a label among them, read with its ends in a given order
  pub features-at : Distinct fs → (x y u v : ℕ) → Memᴰ (label x y u v) (features stratum fs) → Labelled stratum fs x y u v
  features-at D x y u v m =
      let r = features-elim D m in
      let e = label-ends x y u v r.0 r.1 r.2 r.3 r.5 in
      elim e.2 [
        | inl s ↦ labelled-move x y u v r.0 r.1 r.2 r.3 e.0 e.1 s.0 s.1 r.4
        | inr s ↦ labelled-move x y u v r.0 r.1 r.3 r.2 e.0 e.1 s.0 s.1 (labelled-swap r.0 r.1 r.2 r.3 r.4)
      ]

-- ---- a gone into b

pub onto-member : (a b z : ℕ) (e : List ℕ) → mem z e ≡ true → mem (onto a b z) (map (onto a b) e) ≡ true
onto-member a b z [] h = absurd (mem-nil z h)
onto-member a b z (y ∷ e) h =
    elim (mem-cases z y e h) [
      | inl p ↦ or_left (mem (onto a b z) (map (onto a b) e)) (eq-eqb (onto a b z) (onto a b y) (ap (onto a b) p))
      | inr p ↦ mem-there (onto a b z) (onto a b y) (map (onto a b) e) (onto-member a b z e p)
    ]

pub onto-other : (a b z : ℕ) → z ≢ a → onto a b z ≡ z
onto-other a b z n = rw (ne_eqb z a n) refl

pub onto-a : (a b : ℕ) → onto a b a ≡ b
onto-a a b = rw (eq-eqb a a refl) refl

-- three different vertices, and not both a and b: then the images are three different vertices too
onto-apart : (a b u v : ℕ) → u ≢ v → (u ≡ a → v ≢ b) → (v ≡ a → u ≢ b) → onto a b u ≢ onto a b v
onto-apart a b u v n p q e =
    elim (split (eqb u a)) [
      | inl h ↦ elim (split (eqb v a)) [
        | inl k ↦ n (eqb-true u a h ∙ sym (eqb-true v a k))
        | inr k ↦ p (eqb-true u a h) (sym (rw (h, k) at e))
      ]
      | inr h ↦ elim (split (eqb v a)) [ inl k ↦ q (eqb-true v a k) (rw (h, k) at e) | inr k ↦ n (rw (h, k) at e) ]
    ]

module _ (a b : ℕ) (ab : a ≢ b) where
  image : Triple → Triple
  image f = triple (onto a b f.a) (onto a b f.b) (onto a b f.c)

  -- a face that keeps three vertices has not both a and b
  three-left : (f : Triple) → Nodup (corners_of f) → three_apart (image f) ≡ true → mem a (corners_of f) ≡ true → mem b (corners_of f) ≡ true → ⊥
  unfolding image
  three-left f d h ma mb =
      let p = onto a b f.a in
      let q = onto a b f.b in
      let r = onto a b f.c in
      let h₁ = and-snd (not (eqb p q)) (not (eqb q r) && not (eqb p r)) h in
      let pq = eqb-false p q (not-true (eqb p q) (and-fst (not (eqb p q)) (not (eqb q r) && not (eqb p r)) h)) in
      let qr = eqb-false q r (not-true (eqb q r) (and-fst (not (eqb q r)) (not (eqb p r)) h₁)) in
      let pr = eqb-false p r (not-true (eqb p r) (and-snd (not (eqb q r)) (not (eqb p r)) h₁)) in
      let n : Nodup (map (onto a b) (corners_of f)) = three-nodup p q r pq pr qr in
      let s : Sub (map (onto a b) (corners_of f)) (rm a (corners_of f)) = λ z m. elim (onto-cases a b z (corners_of f) m) [
        | inl k ↦ rm-mem a z (corners_of f) k.1 ∙ k.0
        | inr k ↦ rw k.0 (rm-mem a b (corners_of f) (flip≢ ab) ∙ mb)
      ] in
      let l = short (map (onto a b) (corners_of f)) (rm a (corners_of f)) n s in
      let k = rm-length a (corners_of f) d ma in
      omega arith

  -- and one that has not both keeps them
  left-three : (f : Triple) → Nodup (corners_of f) → (mem a (corners_of f) ≡ true → mem b (corners_of f) ≡ true → ⊥) → three_apart (image f) ≡ true
  unfolding image
  left-three f d n =
      let x = f.a in
      let y = f.b in
      let z = f.c in
      let in-x : (w : ℕ) → x ≡ w → mem w (corners_of f) ≡ true = λ w e. subst (λ t. mem t (corners_of f) ≡ true) e (mem-here x (y ∷ z ∷ [])) in
      let in-y : (w : ℕ) → y ≡ w → mem w (corners_of f) ≡ true = λ w e. subst (λ t. mem t (corners_of f) ≡ true) e (mem-there y x (y ∷ z ∷ []) (mem-here y (z ∷ []))) in
      let in-z : (w : ℕ) → z ≡ w → mem w (corners_of f) ≡ true = λ w e. subst (λ t. mem t (corners_of f) ≡ true) e (mem-there z x (y ∷ z ∷ []) (mem-there z y (z ∷ []) (mem-here z []))) in
      rw (
        ne_eqb (onto a b x) (onto a b y) (onto-apart a b x y (out-head x y (z ∷ []) d.0) (λ p q. n (in-x a p) (in-y b q)) (λ p q. n (in-y a p) (in-x b q))),
        ne_eqb (onto a b y) (onto a b z) (onto-apart a b y z (out-head y z [] d.1.0) (λ p q. n (in-y a p) (in-z b q)) (λ p q. n (in-z a p) (in-y b q))),
        ne_eqb (onto a b x) (onto a b z) (onto-apart a b x z (out-head x z [] (out-tail x y (z ∷ []) d.0)) (λ p q. n (in-x a p) (in-z b q)) (λ p q. n (in-z a p) (in-x b q))),
      ) refl

  module _ (fs : List Triple) (D : Distinct fs) where
    pub mapped-distinct : Distinct (mapped a b fs)
    unfolding image
    mapped-distinct g m =
        let h = (kept-elim three_apart (map image fs) m).1 in
        let h₁ = and-snd (not (eqb g.a g.b)) (not (eqb g.b g.c) && not (eqb g.a g.c)) h in
        three-nodup g.a g.b g.c
        (eqb-false g.a g.b (not-true (eqb g.a g.b) (and-fst (not (eqb g.a g.b)) (not (eqb g.b g.c) && not (eqb g.a g.c)) h)))
        (eqb-false g.a g.c (not-true (eqb g.a g.c) (and-snd (not (eqb g.b g.c)) (not (eqb g.a g.c)) h₁)))
        (eqb-false g.b g.c (not-true (eqb g.b g.c) (and-fst (not (eqb g.b g.c)) (not (eqb g.a g.c)) h₁)))

    -- an edge after the collapse lies on the image of a face that had not both a and b
    pub mapped-elim : (u v : ℕ) → within (u ∷ v ∷ []) (map corners_of (mapped a b fs)) ≡ true → (f : Triple) × Memᴰ f fs × (mem a (corners_of f) ≡ true → mem b (corners_of f) ≡ true → ⊥) × Sub (u ∷ v ∷ []) (map (onto a b) (corners_of f))
    unfolding image
    mapped-elim u v w =
        let r = edge-elim (mapped a b fs) (u ∷ v ∷ []) w in
        let k = kept-elim three_apart (map image fs) r.1 in
        let c = mathlib.Core.List.Memᴰ.of_map image fs k.0 in (
          c.0,
          c.1,
          three-left c.0 (D c.0 c.1) (subst (λ g. three_apart g ≡ true) (sym c.2) k.1),
          λ z m. subst (λ g. mem z (corners_of g) ≡ true) (sym c.2) (r.2 z m),
        )

    pub mapped-intro : (u v : ℕ) (f : Triple) → Memᴰ f fs → (mem a (corners_of f) ≡ true → mem b (corners_of f) ≡ true → ⊥) → mem u (corners_of f) ≡ true → mem v (corners_of f) ≡ true → within (onto a b u ∷ onto a b v ∷ []) (map corners_of (mapped a b fs)) ≡ true
    unfolding image
    mapped-intro u v f m n p q =
        edge-intro (mapped a b fs) (onto a b u ∷ onto a b v ∷ []) {f = image f} (kept-intro three_apart (map image fs) (mathlib.Core.List.Memᴰ.map image m) (left-three f (D f m) n))
        (Sub-two (onto a b u) (onto a b v) (map (onto a b) (corners_of f)) (onto-member a b u (corners_of f) p) (onto-member a b v (corners_of f) q))

-- ---- the labels expected after the collapse

-- a label with a gone into b
abbrev moved : ℕ → ℕ → Label → Label
moved a b l = label l.x l.y (onto a b l.u) (onto a b l.v)

moved-label : (a b x y u v : ℕ) → moved a b (label x y u v) ≡ label x y (onto a b u) (onto a b v)
moved-label a b x y u v =
    elim (split (leb u v)) [
      | inl h ↦ let k = leb-true u v h in rw (min-eq_left k, max-eq_right k) refl
      | inr h ↦ let k = leb-false u v h in let k' : v ≤ u = omega arith in rw (min-eq_right k', max-eq_left k') (label-comm x y (onto a b v) (onto a b u))
    ]

min-max : (u v : ℕ) → u ≢ v → min u v ≢ max u v
min-max u v n e = n (omega arith)

module _ (stratum : ℕ → ℕ) (a b : ℕ) (fs : List Triple) where
  -- each comes from a labelled edge before it whose ends do not meet
  pub expected-elim : Distinct fs → {l : Label} → Memᴰ l (expected a b (features stratum fs)) → (x : ℕ) × (y : ℕ) × (u : ℕ) × (v : ℕ) × Labelled stratum fs x y u v × (onto a b u ≢ onto a b v) × (l ≡ label x y (onto a b u) (onto a b v))
  expected-elim D {l} m =
      let k = kept-elim (λ l. not (eqb l.u l.v)) (map (moved a b) (features stratum fs)) m in
      let c = mathlib.Core.List.Memᴰ.of_map (moved a b) (features stratum fs) k.0 in
      let r = features-elim stratum fs D c.1 in
      let e : l ≡ label r.0 r.1 (onto a b r.2) (onto a b r.3) = sym c.2 ∙ (ap (moved a b) r.5 ∙ moved-label a b r.0 r.1 r.2 r.3) in
      let n : (u v : ℕ) → l ≡ label r.0 r.1 u v → u ≢ v = λ u v q w. eqb-false l.u l.v (not-true (eqb l.u l.v) k.1) (ap (λ t. t.u) q ∙ (meet u v w ∙ sym (ap (λ t. t.v) q))) in
      (r.0, r.1, r.2, r.3, r.4, n (onto a b r.2) (onto a b r.3) e, e)
    where
      meet : (u v : ℕ) → u ≡ v → min u v ≡ max u v
      meet u v w = omega arith

  pub expected-intro : (x y u v : ℕ) → Labelled stratum fs x y u v → onto a b u ≢ onto a b v → Memᴰ (label x y (onto a b u) (onto a b v)) (expected a b (features stratum fs))
  expected-intro x y u v r n =
      kept-intro (λ l. not (eqb l.u l.v)) (map (moved a b) (features stratum fs))
      (mathlib.Core.List.Memᴰ.cast (sym (moved-label a b x y u v)) (mathlib.Core.List.Memᴰ.map (moved a b) (features-intro stratum fs x y u v r)))
      (rw (ne_eqb (min (onto a b u) (onto a b v)) (max (onto a b u) (onto a b v)) (min-max (onto a b u) (onto a b v) n)) refl)

  -- one of them, read with its ends in a given order
  pub expected-at : Distinct fs → (x y u v : ℕ) → Memᴰ (label x y u v) (expected a b (features stratum fs)) → (u' : ℕ) × (v' : ℕ) × Labelled stratum fs x y u' v' × (u ≡ onto a b u') × (v ≡ onto a b v')
  expected-at D x y u v m =
      let r = expected-elim D m in
      let e = label-ends x y u v r.0 r.1 (onto a b r.2) (onto a b r.3) r.6 in
      let k : Labelled stratum fs x y r.2 r.3 = labelled-move stratum fs x y r.2 r.3 r.0 r.1 r.2 r.3 e.0 e.1 refl refl r.4 in
      elim e.2 [ inl s ↦ (r.2, r.3, k, s.0, s.1) | inr s ↦ (r.3, r.2, labelled-swap stratum fs x y r.2 r.3 k, s.0, s.1) ]
