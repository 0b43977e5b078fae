-- Growing a set of vertices in marks: what one pair, a pass over the pairs and the rounds of passes make of the marks. A round that adds
-- nothing changes nothing, so that no later round does. Assumes nothing.
use Rattle.std.proofs.Common.{◌≡◌, ℕ, zero, suc, ◌+◌, ◌-◌, ◌*◌, ◌<◌, ◌≤◌, Bool, true, false, not, ◌&&◌, eqb, List, [], ◌∷◌, ◌++◌, length, get_or, set, sym, refl, ap, ◌∙◌, inl, inr, not-suc-le-zero, sub-one, arith, length-set, get_or-set_other, get_or-set_same, eq-eqb, ne_eqb, eqb-true}
use Rattle.mesh.specs.declared.element.Pair.{Pair}
use Rattle.mesh.specs.Words.{word_at}
use Rattle.mesh.specs.Complex.{mem}
use Rattle.mesh.specs.Element.{pair}
use Rattle.mesh.specs.Manifold.{grow, reach, one_cycle}
use Rattle.mesh.proofs.Laws.Bools.{split, clash}
use Rattle.mesh.proofs.Laws.Rows.{one-row}
use Rattle.mesh.specs.inside.Manifold.{Marked, Low, KeptBelow, Grown}

-- ---- the definition

pub grow-append : (a b : List Pair) (seen : List ℕ) → grow (a ++ b) seen ≡ grow b (grow a seen)
unfolding grow
grow-append [] b seen = refl
grow-append (e ∷ a) b seen =
    elim (split (mem e.a seen && not (mem e.b seen))) [
      | inl h ↦ rw h (grow-append a b (e.b ∷ seen))
      | inr h ↦ rw h (elim (split (mem e.b seen && not (mem e.a seen))) [
        | inl k ↦ rw k (grow-append a b (e.a ∷ seen))
        | inr k ↦ rw k (grow-append a b seen)
      ])
    ]

pub grow-more : (es : List Pair) (seen : List ℕ) → length seen ≤ length (grow es seen)
unfolding grow
grow-more [] seen = omega arith
grow-more (e ∷ es) seen =
    elim (split (mem e.a seen && not (mem e.b seen))) [
      | inl h ↦ rw h (let r = grow-more es (e.b ∷ seen) in omega arith)
      | inr h ↦ rw h (elim (split (mem e.b seen && not (mem e.a seen))) [
        | inl k ↦ rw k (let r = grow-more es (e.a ∷ seen) in omega arith)
        | inr k ↦ rw k (grow-more es seen)
      ])
    ]

-- a round that adds nothing changes nothing
grow-still : (es : List Pair) (seen : List ℕ) → length (grow es seen) ≡ length seen → grow es seen ≡ seen
unfolding grow
grow-still [] seen h = refl
grow-still (e ∷ es) seen h =
    elim (split (mem e.a seen && not (mem e.b seen))) [
      | inl p ↦ absurd (let r = grow-more es (e.b ∷ seen) in let q : length (grow es (e.b ∷ seen)) ≡ length seen = rw p at h in omega arith)
      | inr p ↦ elim (split (mem e.b seen && not (mem e.a seen))) [
        | inl k ↦ absurd (let r = grow-more es (e.a ∷ seen) in let q : length (grow es (e.a ∷ seen)) ≡ length seen = rw (p, k) at h in omega arith)
        | inr k ↦ rw (p, k) (grow-still es seen (rw (p, k) at h))
      ]
    ]

reach-still : (n : ℕ) (es : List Pair) (seen : List ℕ) → grow es seen ≡ seen → reach n es seen ≡ seen
unfolding reach
reach-still zero es seen h = refl
reach-still (suc n) es seen h = ap (reach n es) h ∙ reach-still n es seen h

-- ---- marks

-- nothing is marked where all marks are lower
pub low-marked : (t : ℕ) (s : List ℕ) → Low t s → Marked (t + 1) [] s
low-marked t s l x = (ne_eqb (word_at s x) (t + 1) (λ e. apart (l x) e), omega (arith, l x))
  where
    apart : word_at s x ≤ t → word_at s x ≡ t + 1 → ⊥
    apart h e = omega arith

pub marked-low : (t : ℕ) (seen s : List ℕ) → Marked t seen s → Low t s
marked-low t seen s m x = (m x).1

-- one more vertex
pub mark-more : (t y : ℕ) (seen s : List ℕ) → y < length s → Marked t seen s → Marked t (y ∷ seen) (set s y t)
mark-more t y seen s h m x =
    elim (split (eqb x y)) [
      | inl e ↦ (
          let f : x ≡ y = eqb-true x y e in
          let g : word_at (set s y t) x ≡ t = ap (λ (u : ℕ). word_at (set s y t) u) f ∙ get_or-set_same s y t 0 h in
          (eq-eqb _ t g ∙ sym (rw e refl), omega (arith, g)))
      | inr e ↦ (
          let g : word_at (set s y t) x ≡ word_at s x = get_or-set_other s y x t 0 (λ q. clash (eqb x y) (eq-eqb x y q) e) in
          (ap (λ (u : ℕ). eqb u t) g ∙ (m x).0 ∙ sym (rw e refl), omega (arith, g, (m x).1)))
    ]

pub kept_self : (base : ℕ) (s : List ℕ) → KeptBelow base s s
kept_self base s = record { front = refl; long = refl }

pub kept-both : (base : ℕ) (s₀ s₁ s₂ : List ℕ) → KeptBelow base s₀ s₁ → KeptBelow base s₁ s₂ → KeptBelow base s₀ s₂
kept-both base s₀ s₁ s₂ h k = record { front = k.front ∙ h.front; long = k.long ∙ h.long }

-- ---- one pair

module _ (t x y : ℕ) (s : List ℕ) where
  -- both are marked, or neither is
  pub join-none : (b : Bool) → eqb (word_at s x) t ≡ b → eqb (word_at s y) t ≡ b → Grown t (pair x y ∷ []) s s 0
  unfolding grow
  join-none b p q = record {
    long = refl;
    marked = λ seen m. rw (none seen m b p q) m;
    added = λ seen m. ap length (none seen m b p q) ∙ (let e : length seen ≡ length seen + 0 = omega arith in e);
  }
    where
      none : (seen : List ℕ) → Marked t seen s → (b : Bool) → eqb (word_at s x) t ≡ b → eqb (word_at s y) t ≡ b → grow (pair x y ∷ []) seen ≡ seen
      none seen m true p q = simp (sym (m x).0 ∙ p, sym (m y).0 ∙ q)
      none seen m false p q = simp (sym (m x).0 ∙ p, sym (m y).0 ∙ q)

  -- only x is
  pub join-right : y < length s → eqb (word_at s x) t ≡ true → eqb (word_at s y) t ≡ false → Grown t (pair x y ∷ []) s (set s y t) 1
  unfolding grow
  join-right h p q = record {
    long = length-set s y t;
    marked = λ seen m. rw (more seen m) (mark-more t y seen s h m);
    added = λ seen m. ap length (more seen m) ∙ (let e : suc (length seen) ≡ length seen + 1 = omega arith in e);
  }
    where
      more : (seen : List ℕ) → Marked t seen s → grow (pair x y ∷ []) seen ≡ y ∷ seen
      more seen m = simp (sym (m x).0 ∙ p, sym (m y).0 ∙ q)

  -- only y is
  pub join-left : x < length s → eqb (word_at s x) t ≡ false → eqb (word_at s y) t ≡ true → Grown t (pair x y ∷ []) s (set s x t) 1
  unfolding grow
  join-left h p q = record {
    long = length-set s x t;
    marked = λ seen m. rw (more seen m) (mark-more t x seen s h m);
    added = λ seen m. ap length (more seen m) ∙ (let e : suc (length seen) ≡ length seen + 1 = omega arith in e);
  }
    where
      more : (seen : List ℕ) → Marked t seen s → grow (pair x y ∷ []) seen ≡ x ∷ seen
      more seen m = simp (sym (m x).0 ∙ p, sym (m y).0 ∙ q)

-- ---- a pass

pub grown-none : (t : ℕ) (s : List ℕ) → Grown t [] s s 0
unfolding grow
grown-none t s = record {
  long = refl;
  marked = λ seen m. m;
  added = λ seen m. (let e : length seen ≡ length seen + 0 = omega arith in e);
}

pub grown-more : {t : ℕ} {es fs : List Pair} {s₀ s₁ s₂ : List ℕ} {m n : ℕ} → Grown t es s₀ s₁ m → Grown t fs s₁ s₂ n → Grown t (es ++ fs) s₀ s₂ (m + n)
grown-more {t} {es} {fs} {s₀} {s₁} {s₂} {m} {n} g h = record {
  long = h.long ∙ g.long;
  marked = λ seen k. rw (grow-append es fs seen) (h.marked (grow es seen) (g.marked seen k));
  added = λ seen k. rw (grow-append es fs seen) (omega (arith, h.added (grow es seen) (g.marked seen k), g.added seen k));
}

-- ---- rounds

-- what holds at the head of the loop: `count` vertices are marked, and `left` rounds from them reach what all rounds do from the first
pub record Reaching (t : ℕ) (es : List Pair) (start k : ℕ) (b : ℕ) (s : List ℕ) (left count : ℕ) : Type 0 where
  pub seen : List ℕ
  pub marked : Marked t seen s
  pub number : length seen ≡ count
  pub rest : reach left es seen ≡ reach k es (start ∷ [])
  pub long : length s ≡ b
  pub few : count + left * k ≤ 1 + k * k

module _ {t : ℕ} {es : List Pair} {start k b : ℕ} {s : List ℕ} {left count : ℕ} where
  pub reach-turn : {s' : List ℕ} {n : ℕ} → Reaching t es start k b s left count → 0 < left → Grown t es s s' n → n ≤ k → Reaching t es start k b s' (left - 1) (count + n)
  unfolding reach
  reach-turn {s'} {n} r h g f = record {
    seen = grow es r.seen;
    marked = g.marked r.seen r.marked;
    number = omega (arith, g.added r.seen r.marked, r.number);
    rest = next left r.seen h ∙ r.rest;
    long = g.long ∙ r.long;
    few = let e = one-row left k h in omega (arith, r.few);
  }
    where
      next : (l : ℕ) (seen : List ℕ) → 0 < l → reach (l - 1) es (grow es seen) ≡ reach l es seen
      next zero seen h = absurd (not-suc-le-zero h)
      next (suc l) seen h = rw sub-one refl

  -- a round that adds nothing: all that can be reached is
  pub reach-stop : {s' : List ℕ} {n : ℕ} → Reaching t es start k b s left count → Grown t es s s' n → n ≡ 0 → count ≡ length (reach k es (start ∷ []))
  reach-stop r g e =
      let q = grow-still es r.seen (omega (arith, g.added r.seen r.marked)) in
      sym r.number ∙ ap length (sym (reach-still left es r.seen q) ∙ r.rest)

  pub reach-end : Reaching t es start k b s left count → left ≤ 0 → count ≡ length (reach k es (start ∷ []))
  unfolding reach
  reach-end r h = sym r.number ∙ ap length (last left r.seen h ∙ r.rest)
    where
      last : (l : ℕ) (seen : List ℕ) → l ≤ 0 → seen ≡ reach l es seen
      last zero seen h = refl
      last (suc l) seen h = absurd (not-suc-le-zero h)

-- where the loop begins, with the first vertex marked
pub reach-start : (t start k : ℕ) (es : List Pair) (s₀ s : List ℕ) → start < length s₀ → Marked t [] s₀ → s ≡ set s₀ start t
    → Reaching t es start k (length s₀) s k 1
reach-start t start k es s₀ s h m e = record {
  seen = start ∷ [];
  marked = rw e (mark-more t start [] s₀ h m);
  number = refl;
  rest = refl;
  long = rw e (length-set s₀ start t);
  few = omega arith;
}

-- the link's test
pub cycle-is : (start k count : ℕ) (es : List Pair) → 0 < k → length es ≡ k → (get_or es 0 (pair 0 0)).a ≡ start → count ≡ length (reach k es (start ∷ [])) → eqb count k ≡ one_cycle es
unfolding one_cycle
cycle-is start k count [] h l f e = absurd (none l h)
  where
    none : 0 ≡ k → 0 < k → ⊥
    none l h = omega arith
cycle-is start k count (e ∷ es) h l f c = rw (c, ← f, ← l) refl
