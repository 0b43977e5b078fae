-- Joining: the chain of a goes before that of b. Where b has taken a's place in the slots, the index is complete again
-- (`replaced-complete`). Assumes nothing.
use Rattle.std.proofs.Common.{◌≡◌, ℕ, suc, ◌+◌, ◌-◌, ◌*◌, ◌/◌, ◌<◌, ◌≤◌, Bool, true, false, cond, eqb, ◌≢◌, ◌⊎◌, List, [], ◌++◌, length, set, sym, refl, ap, ◌∙◌, subst, ap₂, inl, inr, ⊎_elim, arith, length-append, length-set, get_or-set_other, get_or-set_same, le-ltb, lt-ltb, ne_eqb, eqb-true, le-leb}
use borrow.Author.Tests.{eqb-false}
use Rattle.mesh.specs.declared.star.Index.{Index}
use Rattle.mesh.specs.Words.{word_at}
use Rattle.mesh.specs.Complex.{mem, Nodup}
use Rattle.mesh.specs.inside.Star.{walk, stepped, corner_at, next_of, head_of, chain_length, chain_of, Covers, Chains, Complete, Laid, Outside, set_chain, may_join, joined}
use Rattle.mesh.proofs.Laws.Parts.{side}
use Rattle.mesh.proofs.Laws.Complex.Sets.{split, mem-nil}
use Rattle.mesh.proofs.Laws.Star.Walks.{walk-on, walk_same, walk-entry, last-stands, last-changed}
use Rattle.mesh.proofs.Laws.Star.Layout.{laid-yes}
use Rattle.mesh.proofs.Laws.Star.Chains.{mem-left, mem-right, mem-either, nodup-join, length_none, length-vertex, chain-none, chain-entry, chain-agree, chain-kept, chains-kept, two-short}

-- what stands in which chain once a's has gone before b's
pub record Moved (x : Index) (s t : List ℕ) (b a : ℕ) : Type 0 where
  pub taken : chain_of x t a ≡ []
  pub given : chain_of x t b ≡ chain_of x s a ++ chain_of x s b
  pub others : (c : ℕ) → c ≢ a → c ≢ b → chain_of x t c ≡ chain_of x s c
  pub lengths : (c : ℕ) → c ≢ a → c ≢ b → chain_length x t c ≡ chain_length x s c
  pub sum : chain_length x t b ≡ chain_length x s a + chain_length x s b
  pub zero : chain_length x t a ≡ 0

module _ (x : Index) (s t : List ℕ) (b a k : ℕ) (n : a ≢ b) (c : Chains x s k) (m : Moved x s t b a) where
  -- what stands in a chain now stood there, or in a's and is in b's now
  now : (u q : ℕ) → mem q (chain_of x t u) ≡ true → ((mem q (chain_of x s u) ≡ true) × (u ≢ a)) ⊎ ((mem q (chain_of x s a) ≡ true) × (u ≡ b))
  now u q h =
      elim (split (eqb u a)) [
        | inl e ↦ absurd (mem-nil q (subst (λ (l : List ℕ). mem q l ≡ true) (ap (chain_of x t) (eqb-true u a e) ∙ m.taken) h))
        | inr e ↦ elim (split (eqb u b)) [
          | inl f ↦
              let g = eqb-true u b f in
              elim (mem-either q (chain_of x s a) (chain_of x s b) (subst (λ (l : List ℕ). mem q l ≡ true) (ap (chain_of x t) g ∙ m.given) h)) [
                | inl o ↦ inr (o, g)
                | inr o ↦ inl (subst (λ (z : ℕ). mem q (chain_of x s z) ≡ true) (sym g) o, eqb-false u a e)
              ]
          | inr f ↦ inl (rw (m.others u (eqb-false u a e) (eqb-false u b f)) at h, eqb-false u a e)
        ]
      ]

  meet-not : (q : ℕ) → mem q (chain_of x s a) ≡ true → mem q (chain_of x s b) ≡ true → ⊥
  meet-not q h g = n (c.apart a b q h g)

  pub moved-chains : Chains x t k
  moved-chains = record {
    whole = λ u. whole u (split (eqb u a)) (split (eqb u b));
    once = λ u. once u (split (eqb u a)) (split (eqb u b));
    below = λ u q h. elim (now u q h) [ inl o ↦ c.below u q o.0 | inr o ↦ c.below a q o.0 ];
    apart = λ u w q h g. apart u w q (now u q h) (now w q g);
  }
    where
      whole : (u : ℕ) → (eqb u a ≡ true) ⊎ (eqb u a ≡ false) → (eqb u b ≡ true) ⊎ (eqb u b ≡ false) → length (chain_of x t u) ≡ chain_length x t u
      whole u (inl e) f = subst (λ (z : ℕ). length (chain_of x t z) ≡ chain_length x t z) (sym (eqb-true u a e)) (ap length m.taken ∙ sym m.zero)
      whole u (inr e) (inl f) =
          subst (λ (z : ℕ). length (chain_of x t z) ≡ chain_length x t z) (sym (eqb-true u b f))
          (ap length m.given ∙ length-append (chain_of x s a) (chain_of x s b) ∙ ap₂ (λ (i j : ℕ). i + j) (c.whole a) (c.whole b) ∙ sym m.sum)
      whole u (inr e) (inr f) =
          ap length (m.others u (eqb-false u a e) (eqb-false u b f)) ∙ c.whole u ∙ sym (m.lengths u (eqb-false u a e) (eqb-false u b f))

      once : (u : ℕ) → (eqb u a ≡ true) ⊎ (eqb u a ≡ false) → (eqb u b ≡ true) ⊎ (eqb u b ≡ false) → Nodup (chain_of x t u)
      once u (inl e) f = subst (λ (z : ℕ). Nodup (chain_of x t z)) (sym (eqb-true u a e)) (subst Nodup (sym m.taken) tt)
      once u (inr e) (inl f) =
          subst (λ (z : ℕ). Nodup (chain_of x t z)) (sym (eqb-true u b f))
          (subst Nodup (sym m.given) (nodup-join (chain_of x s a) (chain_of x s b) (c.once a) (c.once b) meet-not))
      once u (inr e) (inr f) = subst Nodup (sym (m.others u (eqb-false u a e) (eqb-false u b f))) (c.once u)

      apart : (u w q : ℕ) → ((mem q (chain_of x s u) ≡ true) × (u ≢ a)) ⊎ ((mem q (chain_of x s a) ≡ true) × (u ≡ b))
          → ((mem q (chain_of x s w) ≡ true) × (w ≢ a)) ⊎ ((mem q (chain_of x s a) ≡ true) × (w ≡ b)) → u ≡ w
      apart u w q (inl h) (inl g) = c.apart u w q h.0 g.0
      apart u w q (inl h) (inr g) = absurd (h.1 (c.apart u a q h.0 g.0))
      apart u w q (inr h) (inl g) = absurd (g.1 (c.apart w a q g.0 h.0))
      apart u w q (inr h) (inr g) = h.1 ∙ sym g.1

-- ---- the stores

module _ (x : Index) (s : List ℕ) (b a k : ℕ) (l : Laid x (length s)) (hb : b < x.vertices) (ha : a < x.vertices) (n : a ≢ b)
    (c : Chains x s k) (some : 0 < chain_length x s a) where
  abbrev last : ℕ
  last = stepped (next_of x s) (chain_length x s a - 1) (head_of x s a)

  abbrev after : List ℕ
  after =
      set
      (set_chain x b (head_of x s a) (chain_length x s a + chain_length x s b) (set s (x.nexts + last) (head_of x s b)))
      (x.lengths + a) 0

  one_more : suc (chain_length x s a - 1) ≡ chain_length x s a
  one_more = omega arith

  full : length (walk x.room (next_of x s) (suc (chain_length x s a - 1)) (head_of x s a)) ≡ suc (chain_length x s a - 1)
  unfolding chain_of
  full = rw one_more (c.whole a)

  last-in : mem last (chain_of x s a) ≡ true
  unfolding chain_of
  last-in =
      subst (λ (i : ℕ). mem last (walk x.room (next_of x s) i (head_of x s a)) ≡ true) one_more
      (last-stands x.room (next_of x s) (chain_length x s a - 1) (head_of x s a) full)

  last_entry : last / 4 < x.room
  last_entry = chain-entry x s a last last-in

  length-after : length after ≡ length s
  unfolding set_chain
  length-after = simp length-set

  read : (j : ℕ) → j ≢ x.nexts + last → j ≢ x.heads + b → j ≢ x.lengths + b → j ≢ x.lengths + a → word_at after j ≡ word_at s j
  unfolding set_chain
  read j e₁ e₂ e₃ e₄ =
      let s₁ = set s (x.nexts + last) (head_of x s b) in
      let s₂ = set s₁ (x.heads + b) (head_of x s a) in
      let s₃ = set s₂ (x.lengths + b) (chain_length x s a + chain_length x s b) in
      get_or-set_other s₃ (x.lengths + a) j 0 0 e₄
      ∙ get_or-set_other s₂ (x.lengths + b) j (chain_length x s a + chain_length x s b) 0 e₃
      ∙ get_or-set_other s₁ (x.heads + b) j (head_of x s a) 0 e₂
      ∙ get_or-set_other s (x.nexts + last) j (head_of x s b) 0 e₁

  after-outside : (j : ℕ) → Outside x j → word_at after j ≡ word_at s j
  after-outside j o =
      let q = last_entry in
      read j
      (λ e. let g = o (omega arith) in omega arith)
      (λ e. let g = o (omega arith) in omega arith)
      (λ e. let g = o (omega arith) in omega arith)
      (λ e. let g = o (omega arith) in omega arith)

  next-other : (q : ℕ) → q / 4 < x.room → q ≢ last → next_of x after q ≡ next_of x s q
  next-other q h e = read (x.nexts + q) (λ f. e (omega arith)) (λ f. omega arith) (λ f. omega arith) (λ f. omega arith)

  next_last : next_of x after last ≡ head_of x s b
  unfolding set_chain
  next_last =
      let q = last_entry in
      let s₁ = set s (x.nexts + last) (head_of x s b) in
      let s₂ = set s₁ (x.heads + b) (head_of x s a) in
      let s₃ = set s₂ (x.lengths + b) (chain_length x s a + chain_length x s b) in
      get_or-set_other s₃ (x.lengths + a) (x.nexts + last) 0 0 (λ e. omega arith)
      ∙ get_or-set_other s₂ (x.lengths + b) (x.nexts + last) (chain_length x s a + chain_length x s b) 0 (λ e. omega arith)
      ∙ get_or-set_other s₁ (x.heads + b) (x.nexts + last) (head_of x s a) 0 (λ e. omega arith)
      ∙ get_or-set_same s (x.nexts + last) (head_of x s b) 0 (omega arith)

  head-b : head_of x after b ≡ head_of x s a
  unfolding set_chain
  head-b =
      let s₁ = set s (x.nexts + last) (head_of x s b) in
      let s₂ = set s₁ (x.heads + b) (head_of x s a) in
      let s₃ = set s₂ (x.lengths + b) (chain_length x s a + chain_length x s b) in
      get_or-set_other s₃ (x.lengths + a) (x.heads + b) 0 0 (λ e. omega arith)
      ∙ get_or-set_other s₂ (x.lengths + b) (x.heads + b) (chain_length x s a + chain_length x s b) 0 (λ e. omega arith)
      ∙ get_or-set_same s₁ (x.heads + b) (head_of x s a) 0 (omega (arith, length-set s (x.nexts + last) (head_of x s b)))

  length-b : chain_length x after b ≡ chain_length x s a + chain_length x s b
  unfolding set_chain
  length-b =
      let s₁ = set s (x.nexts + last) (head_of x s b) in
      let s₂ = set s₁ (x.heads + b) (head_of x s a) in
      let s₃ = set s₂ (x.lengths + b) (chain_length x s a + chain_length x s b) in
      length-vertex x after b hb
      ∙ get_or-set_other s₃ (x.lengths + a) (x.lengths + b) 0 0 (λ e. n (omega arith))
      ∙ get_or-set_same s₂ (x.lengths + b) (chain_length x s a + chain_length x s b) 0
      (omega (arith, length-set s₁ (x.heads + b) (head_of x s a), length-set s (x.nexts + last) (head_of x s b)))

  length-a : chain_length x after a ≡ 0
  unfolding set_chain
  length-a =
      let s₁ = set s (x.nexts + last) (head_of x s b) in
      let s₂ = set s₁ (x.heads + b) (head_of x s a) in
      let s₃ = set s₂ (x.lengths + b) (chain_length x s a + chain_length x s b) in
      length-vertex x after a ha
      ∙ get_or-set_same s₃ (x.lengths + a) 0 0
      (omega (arith, length-set s₂ (x.lengths + b) (chain_length x s a + chain_length x s b), length-set s₁ (x.heads + b) (head_of x s a), length-set s (x.nexts + last) (head_of x s b)))

  length-other : (u : ℕ) → u ≢ a → u ≢ b → chain_length x after u ≡ chain_length x s u
  length-other u e f = ⊎_elim yes (λ h. length_none x after u h ∙ sym (length_none x s u h)) (side u x.vertices)
    where
      yes : u < x.vertices → chain_length x after u ≡ chain_length x s u
      yes h =
          let q = last_entry in
          length-vertex x after u h
          ∙ read (x.lengths + u) (λ g. omega arith) (λ g. omega arith) (λ g. f (omega arith)) (λ g. e (omega arith))
          ∙ sym (length-vertex x s u h)

  -- an entry of another chain is not the last of a's
  not_last : (u q : ℕ) → u ≢ a → mem q (chain_of x s u) ≡ true → next_of x after q ≡ next_of x s q
  not_last u q e h =
      next-other q (chain-entry x s u q h) (λ f. e (c.apart u a q h (subst (λ (z : ℕ). mem z (chain_of x s a) ≡ true) (sym f) last-in)))

  chain-other : (u : ℕ) → u ≢ a → u ≢ b → chain_of x after u ≡ chain_of x s u
  chain-other u e f = ⊎_elim yes no (side u x.vertices)
    where
      yes : u < x.vertices → chain_of x after u ≡ chain_of x s u
      yes h =
          let q = last_entry in
          chain-agree x s after u (length-other u e f)
          (read (x.heads + u) (λ g. omega arith) (λ g. f (omega arith)) (λ g. omega arith) (λ g. omega arith))
          (λ p m. not_last u p e m)

      no : x.vertices ≤ u → chain_of x after u ≡ chain_of x s u
      no h = chain-none x after u (length_none x after u h) ∙ sym (chain-none x s u (length_none x s u h))

  changed : (walk x.room (next_of x after) (chain_length x s a) (head_of x s a) ≡ chain_of x s a) × (stepped (next_of x after) (chain_length x s a) (head_of x s a) ≡ head_of x s b)
  unfolding chain_of
  changed =
      let r = last-changed x.room (next_of x s) (next_of x after) (chain_length x s a - 1) (head_of x s a) full
      (subst (λ (i : ℕ). Nodup (walk x.room (next_of x s) i (head_of x s a))) (sym one_more) (c.once a))
      (λ q h e. next-other q (walk-entry x.room (next_of x s) (suc (chain_length x s a - 1)) (head_of x s a) q h) e) in
      subst (λ (i : ℕ). (walk x.room (next_of x after) i (head_of x s a) ≡ walk x.room (next_of x s) i (head_of x s a)) × (stepped (next_of x after) i (head_of x s a) ≡ head_of x s b)) one_more
      (r.0, r.1 ∙ next_last)

  chain-b : chain_of x after b ≡ chain_of x s a ++ chain_of x s b
  unfolding chain_of
  chain-b =
      let w = walk x.room (next_of x after) in
      ap₂ (λ (i p : ℕ). w i p) length-b head-b
      ∙ walk-on x.room (next_of x after) (chain_length x s a) (chain_length x s b) (head_of x s a) (ap length changed.0 ∙ c.whole a)
      ∙ ap₂ (λ (u v : List ℕ). u ++ v) changed.0
      (ap (λ (p : ℕ). w (chain_length x s b) p) changed.1
      ∙ walk_same x.room (next_of x s) (next_of x after) (chain_length x s b) (head_of x s b) (λ q m. not_last b q (λ e. n (sym e)) m))

  moved : Moved x s after b a
  moved = record {
    taken = chain-none x after a length-a;
    given = chain-b;
    others = chain-other;
    lengths = length-other;
    sum = length-b;
    zero = length-a;
  }

  joins : k ≤ 4 * x.room → joined x b a s ≡ after
  unfolding joined may_join
  joins h =
      let r = two-short x s k c a b n in
      simp (
        laid-yes x (length s) l,
        lt-ltb b x.vertices hb,
        lt-ltb a x.vertices ha,
        ne_eqb a b n,
        lt-ltb 0 (chain_length x s a) some,
        le-leb (chain_length x s a + chain_length x s b) (4 * x.room) (omega arith),
      )

-- ---- the join of a whole index

module _ (x : Index) (s : List ℕ) (b a k : ℕ) (l : Laid x (length s)) (hb : b < x.vertices) (ha : a < x.vertices) (n : a ≢ b)
    (c : Chains x s k) (hk : k ≤ 4 * x.room) where
  none-joined : chain_length x s a ≤ 0 → joined x b a s ≡ s
  unfolding joined may_join
  none-joined h =
      simp (laid-yes x (length s) l, lt-ltb b x.vertices hb, lt-ltb a x.vertices ha, ne_eqb a b n, le-ltb 0 (chain_length x s a) h)

  pub length-joined : length (joined x b a s) ≡ length s
  length-joined =
      ⊎_elim
      (λ h. ap length (joins x s b a k l hb ha n c h hk) ∙ length-after x s b a k l hb ha n c h)
      (λ h. ap length (none-joined h))
      (side 0 (chain_length x s a))

  -- words outside the chains are as they were
  pub joined-outside : (j : ℕ) → Outside x j → word_at (joined x b a s) j ≡ word_at s j
  joined-outside j o =
      ⊎_elim
      (λ h. ap (λ (u : List ℕ). word_at u j) (joins x s b a k l hb ha n c h hk) ∙ after-outside x s b a k l hb ha n c h j o)
      (λ h. ap (λ (u : List ℕ). word_at u j) (none-joined h))
      (side 0 (chain_length x s a))

  -- what stood in a's chain stands in b's
  pub joined-moved : Moved x s (joined x b a s) b a
  joined-moved =
      ⊎_elim
      (λ h. subst (λ (u : List ℕ). Moved x s u b a) (sym (joins x s b a k l hb ha n c h hk)) (moved x s b a k l hb ha n c h))
      (λ h. subst (λ (u : List ℕ). Moved x s u b a) (sym (none-joined h)) (still h))
      (side 0 (chain_length x s a))
    where
      still : chain_length x s a ≤ 0 → Moved x s s b a
      still h =
          let z : chain_length x s a ≡ 0 = omega arith in
          let e = chain-none x s a z in
          record {
            taken = e;
            given = rw e;
            others = λ u f g. refl;
            lengths = λ u f g. refl;
            sum = omega arith;
            zero = z;
          }

  pub joined-chains : Chains x (joined x b a s) k
  joined-chains = moved-chains x s (joined x b a s) b a k n c joined-moved

  corner-joined : (p : ℕ) → p < k → corner_at x (joined x b a s) p ≡ corner_at x s p
  corner-joined p h = joined-outside (x.slots + p) (λ g. omega arith)

  -- entries that a's or b's chain covered are covered by b's
  pub joined-covers : (u : ℕ) → ((p : ℕ) → p < k → corner_at x s p ≡ u → (mem p (chain_of x s a) ≡ true) ⊎ (mem p (chain_of x s b) ≡ true)) → Covers x (joined x b a s) k u b
  joined-covers u h p g e =
      rw joined-moved.given
      (elim (h p g (sym (corner-joined p g) ∙ e)) [
        | inl m ↦ mem-left p (chain_of x s a) (chain_of x s b) m
        | inr m ↦ mem-right p (chain_of x s a) (chain_of x s b) m
      ])

  -- the other chains cover what they covered
  pub joined-others : (u v : ℕ) → v ≢ a → v ≢ b → Covers x s k u v → Covers x (joined x b a s) k u v
  joined-others u v f g h p i e = rw (joined-moved.others v f g) (h p i (sym (corner-joined p i) ∙ e))

-- ---- b in the place of a

-- s is an index. In t b has taken the place of a in its slots, and corners of slots that are gone are no vertices. With a's chain before
-- b's it is an index again
pub replaced-complete : (x : Index) (s t : List ℕ) (b a k : ℕ) → Laid x (length t) → b < x.vertices → a < x.vertices → a ≢ b → k ≤ 4 * x.room
    → ((j : ℕ) → x.nexts ≤ j → j < x.area → word_at t j ≡ word_at s j)
    → ((p : ℕ) → p < k → (x.vertices ≤ corner_at x t p) ⊎ (corner_at x t p ≡ cond (eqb (corner_at x s p) a) b (corner_at x s p)))
    → Complete x s k → Complete x (joined x b a t) k
replaced-complete x s t b a k l hb ha n hk same put c = record {
  chains = joined-chains x t b a k l hb ha n ct hk;
  indexed = λ v hv. indexed v hv (split (eqb v a)) (split (eqb v b));
}
  where
    ct : Chains x t k
    ct = chains-kept x s t l same k c.chains

    -- what a corner that is a vertex was
    was : (p v : ℕ) → p < k → v < x.vertices → corner_at x t p ≡ v → ((corner_at x s p ≡ a) × (v ≡ b)) ⊎ ((corner_at x s p ≢ a) × (corner_at x s p ≡ v))
    was p v h hv e =
        elim (put p h) [
          | inl g ↦ absurd (omega arith)
          | inr g ↦ elim (split (eqb (corner_at x s p) a)) [
            | inl z ↦ inl (eqb-true (corner_at x s p) a z, sym e ∙ g ∙ ap (λ (y : Bool). cond y b (corner_at x s p)) z)
            | inr z ↦ inr (eqb-false (corner_at x s p) a z, sym (sym e ∙ g ∙ ap (λ (y : Bool). cond y b (corner_at x s p)) z))
          ]
        ]

    stood : (p v : ℕ) → v < x.vertices → p < k → corner_at x s p ≡ v → mem p (chain_of x t v) ≡ true
    stood p v hv h e = rw (chain-kept x s t l same v) (c.indexed v hv p h e)

    about : (p : ℕ) → p < k → corner_at x t p ≡ b → (mem p (chain_of x t a) ≡ true) ⊎ (mem p (chain_of x t b) ≡ true)
    about p h e = elim (was p b h hb e) [ inl w ↦ inl (stood p a ha h w.0) | inr w ↦ inr (stood p b hb h w.1) ]

    indexed : (v : ℕ) → v < x.vertices → (eqb v a ≡ true) ⊎ (eqb v a ≡ false) → (eqb v b ≡ true) ⊎ (eqb v b ≡ false) → Covers x (joined x b a t) k v v
    indexed v hv (inl e) f = λ p h g.
        let q = eqb-true v a e in
        let r : corner_at x t p ≡ a = sym (corner-joined x t b a k l hb ha n ct hk p h) ∙ g ∙ q in
        absurd (elim (was p a h ha r) [ inl w ↦ n w.1 | inr w ↦ w.0 w.1 ])
    indexed v hv (inr e) (inl f) =
        subst (λ (z : ℕ). Covers x (joined x b a t) k z z) (sym (eqb-true v b f)) (joined-covers x t b a k l hb ha n ct hk b about)
    indexed v hv (inr e) (inr f) =
        joined-others x t b a k l hb ha n ct hk v v (eqb-false v a e) (eqb-false v b f)
        (λ p h g. elim (was p v h hv g) [ inl w ↦ absurd (eqb-false v b f w.1) | inr w ↦ stood p v hv h w.1 ])
