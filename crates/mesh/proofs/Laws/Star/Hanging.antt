-- Hanging entries: an index of the entries below p, with p hung, is one of those below p + 1. So building and appending give complete
-- indexes (`built-complete`, `appended-complete`). Assumes nothing.
use Rattle.std.proofs.Common.{◌≡◌, ℕ, zero, suc, ◌+◌, ◌-◌, ◌*◌, ◌/◌, ◌<◌, ◌≤◌, Bool, true, false, cond, ◌&&◌, eqb, ltb, ◌≢◌, ◌⊎◌, List, [], ◌∷◌, length, set, replicate, sym, refl, ap, ◌∙◌, subst, ap₂, inl, inr, ⊎_elim, add-zero, add-one, arith, length-set, get_or-set_other, get_or-set_same, ltb-true, lt-ltb, eqb-true, le-leb, eq-eqb}
use lib.ListN.{length-replicate, get_or-replicate}
use borrow.Author.Tests.{eqb-false}
use Rattle.mesh.specs.declared.star.Index.{Index}
use Rattle.mesh.specs.Words.{word_at}
use Rattle.mesh.specs.Complex.{mem, Nodup}
use Rattle.mesh.specs.inside.Star.{walk, corner_at, next_of, head_of, chain_length, chain_of, Chains, Complete, Laid, Outside, written, set_chain, pushed, hung, hung_all, has_slots, appended, built}
use Rattle.mesh.proofs.Laws.Parts.{side}
use Rattle.mesh.proofs.Laws.Complex.Sets.{split, clash, nope, mem-there, mem-cases, mem-nil, or_left}
use Rattle.mesh.proofs.Laws.Star.Walks.{walk-yes, walk_same}
use Rattle.mesh.proofs.Laws.Star.Written.{length-written, written_below, written_behind, written_at}
use Rattle.mesh.proofs.Laws.Star.Layout.{laid-yes}
use Rattle.mesh.proofs.Laws.Star.Chains.{length_none, length-vertex, chain-none, chain-entry, chain-agree, one-short}

-- ---- p before the chain of v

module _ (x : Index) (s : List ℕ) (v p : ℕ) (l : Laid x (length s)) (hv : v < x.vertices) (hp : p / 4 < x.room) where
  pub length-pushed : length (pushed x v p s) ≡ length s
  unfolding pushed set_chain
  length-pushed = simp length-set

  read : (j : ℕ) → j ≢ x.nexts + p → j ≢ x.heads + v → j ≢ x.lengths + v → word_at (pushed x v p s) j ≡ word_at s j
  unfolding pushed set_chain
  read j a b c =
      let n = word_at s (x.lengths + v) + 1 in
      let s₁ = set s (x.nexts + p) (head_of x s v) in
      get_or-set_other (set s₁ (x.heads + v) p) (x.lengths + v) j n 0 c
      ∙ get_or-set_other s₁ (x.heads + v) j p 0 b
      ∙ get_or-set_other s (x.nexts + p) j (head_of x s v) 0 a

  -- words outside the chains are as they were
  pub pushed-outside : (j : ℕ) → Outside x j → word_at (pushed x v p s) j ≡ word_at s j
  pushed-outside j o =
      read j
      (λ e. let g = o (omega arith) in omega arith)
      (λ e. let g = o (omega arith) in omega arith)
      (λ e. let g = o (omega arith) in omega arith)

  next-other : (q : ℕ) → q ≢ p → q / 4 < x.room → next_of x (pushed x v p s) q ≡ next_of x s q
  next-other q n h = read (x.nexts + q) (λ e. n (omega arith)) (λ e. omega arith) (λ e. omega arith)

  next-at : next_of x (pushed x v p s) p ≡ head_of x s v
  unfolding pushed set_chain
  next-at =
      let n = word_at s (x.lengths + v) + 1 in
      let s₁ = set s (x.nexts + p) (head_of x s v) in
      get_or-set_other (set s₁ (x.heads + v) p) (x.lengths + v) (x.nexts + p) n 0 (λ e. omega arith)
      ∙ get_or-set_other s₁ (x.heads + v) (x.nexts + p) p 0 (λ e. omega arith)
      ∙ get_or-set_same s (x.nexts + p) (head_of x s v) 0 (omega arith)

  head_at : head_of x (pushed x v p s) v ≡ p
  unfolding pushed set_chain
  head_at =
      let n = word_at s (x.lengths + v) + 1 in
      let s₁ = set s (x.nexts + p) (head_of x s v) in
      get_or-set_other (set s₁ (x.heads + v) p) (x.lengths + v) (x.heads + v) n 0 (λ e. omega arith)
      ∙ get_or-set_same s₁ (x.heads + v) p 0 (omega (arith, length-set s (x.nexts + p) (head_of x s v)))

  length_at : chain_length x (pushed x v p s) v ≡ suc (chain_length x s v)
  unfolding pushed set_chain
  length_at =
      let n = word_at s (x.lengths + v) + 1 in
      let s₁ = set s (x.nexts + p) (head_of x s v) in
      let s₂ = set s₁ (x.heads + v) p in
      length-vertex x (set s₂ (x.lengths + v) n) v hv
      ∙ get_or-set_same s₂ (x.lengths + v) n 0 (omega (arith, length-set s₁ (x.heads + v) p, length-set s (x.nexts + p) (head_of x s v)))
      ∙ add-one (word_at s (x.lengths + v))
      ∙ ap suc (sym (length-vertex x s v hv))

  length-other : (c : ℕ) → c ≢ v → chain_length x (pushed x v p s) c ≡ chain_length x s c
  length-other c n = ⊎_elim yes (λ h. length_none x (pushed x v p s) c h ∙ sym (length_none x s c h)) (side c x.vertices)
    where
      yes : c < x.vertices → chain_length x (pushed x v p s) c ≡ chain_length x s c
      yes h =
          length-vertex x (pushed x v p s) c h
          ∙ read (x.lengths + c) (λ e. omega arith) (λ e. omega arith) (λ e. n (omega arith))
          ∙ sym (length-vertex x s c h)

  module _ (k : ℕ) (c : Chains x s k) (hk : k ≤ p) where
    -- p stands in no chain yet
    fresh : (u : ℕ) → mem p (chain_of x s u) ≡ false
    fresh u = nope (λ m. let b = c.below u p m in omega arith)

    entry_next : (u q : ℕ) → mem q (chain_of x s u) ≡ true → next_of x (pushed x v p s) q ≡ next_of x s q
    entry_next u q m = next-other q (λ e. clash (rw e at m) (fresh u)) (chain-entry x s u q m)

    -- the chain of v has p before it
    pub pushed-chain : chain_of x (pushed x v p s) v ≡ p ∷ chain_of x s v
    unfolding chain_of
    pushed-chain =
        ap₂ (λ (n q : ℕ). walk x.room (next_of x (pushed x v p s)) n q) length_at head_at
        ∙ walk-yes x.room (next_of x (pushed x v p s)) (chain_length x s v) p hp
        ∙ ap (λ (u : List ℕ). p ∷ u)
        (ap (λ (q : ℕ). walk x.room (next_of x (pushed x v p s)) (chain_length x s v) q) next-at
        ∙ walk_same x.room (next_of x s) (next_of x (pushed x v p s)) (chain_length x s v) (head_of x s v) (entry_next v))

    -- the others are as they were
    pub pushed-other : (u : ℕ) → u ≢ v → chain_of x (pushed x v p s) u ≡ chain_of x s u
    pushed-other u n = ⊎_elim yes no (side u x.vertices)
      where
        yes : u < x.vertices → chain_of x (pushed x v p s) u ≡ chain_of x s u
        yes h =
            chain-agree x s (pushed x v p s) u (length-other u n)
            (read (x.heads + u) (λ e. omega arith) (λ e. n (omega arith)) (λ e. omega arith))
            (entry_next u)

        no : x.vertices ≤ u → chain_of x (pushed x v p s) u ≡ chain_of x s u
        no h = chain-none x (pushed x v p s) u (length_none x (pushed x v p s) u h) ∙ sym (chain-none x s u (length_none x s u h))

    -- what stands in a chain now stood there, or is p in the chain of v
    now : (u q : ℕ) → mem q (chain_of x (pushed x v p s) u) ≡ true → (mem q (chain_of x s u) ≡ true) ⊎ ((q ≡ p) × (u ≡ v))
    now u q m =
        elim (split (eqb u v)) [
          | inl e ↦
              let f = eqb-true u v e in
              let m' : mem q (chain_of x (pushed x v p s) v) ≡ true = subst (λ (z : ℕ). mem q (chain_of x (pushed x v p s) z) ≡ true) f m in
              elim (mem-cases q p (chain_of x s v) (rw pushed-chain at m')) [ inl g ↦ inr (g, f) | inr n ↦ inl (subst (λ (z : ℕ). mem q (chain_of x s z) ≡ true) (sym f) n) ]
          | inr e ↦ inl (rw (pushed-other u (eqb-false u v e)) at m)
        ]

    -- what stood in a chain stands there
    pub pushed-stands : (u q : ℕ) → mem q (chain_of x s u) ≡ true → mem q (chain_of x (pushed x v p s) u) ≡ true
    pushed-stands u q m =
        elim (split (eqb u v)) [
          | inl e ↦ subst (λ (z : ℕ). mem q (chain_of x s z) ≡ true → mem q (chain_of x (pushed x v p s) z) ≡ true) (sym (eqb-true u v e)) (λ n. rw pushed-chain (mem-there q p (chain_of x s v) n)) m
          | inr e ↦ rw (pushed-other u (eqb-false u v e)) m
        ]

    pub pushed-chains : Chains x (pushed x v p s) (p + 1)
    pushed-chains = record {
      whole = λ u. whole u (split (eqb u v));
      once = λ u. once u (split (eqb u v));
      below = λ u q m. elim (now u q m) [ inl n ↦ let b = c.below u q n in omega arith | inr e ↦ let f = e.0 in omega arith ];
      apart = λ u w q m n. apart u w q (now u q m) (now w q n);
    }
      where
        whole : (u : ℕ) → (eqb u v ≡ true) ⊎ (eqb u v ≡ false) → length (chain_of x (pushed x v p s) u) ≡ chain_length x (pushed x v p s) u
        whole u (inl e) =
            subst (λ (z : ℕ). length (chain_of x (pushed x v p s) z) ≡ chain_length x (pushed x v p s) z) (sym (eqb-true u v e))
            (ap length pushed-chain ∙ ap suc (c.whole v) ∙ sym length_at)
        whole u (inr e) = ap length (pushed-other u (eqb-false u v e)) ∙ c.whole u ∙ sym (length-other u (eqb-false u v e))

        once : (u : ℕ) → (eqb u v ≡ true) ⊎ (eqb u v ≡ false) → Nodup (chain_of x (pushed x v p s) u)
        once u (inl e) = subst (λ (z : ℕ). Nodup (chain_of x (pushed x v p s) z)) (sym (eqb-true u v e)) (subst Nodup (sym pushed-chain) (fresh v, c.once v))
        once u (inr e) = subst Nodup (sym (pushed-other u (eqb-false u v e))) (c.once u)

        apart : (u w q : ℕ) → (mem q (chain_of x s u) ≡ true) ⊎ ((q ≡ p) × (u ≡ v)) → (mem q (chain_of x s w) ≡ true) ⊎ ((q ≡ p) × (w ≡ v)) → u ≡ w
        apart u w q (inl a) (inl b) = c.apart u w q a b
        apart u w q (inl a) (inr b) = absurd (clash (rw b.0 at a) (fresh u))
        apart u w q (inr a) (inl b) = absurd (clash (rw a.0 at b) (fresh w))
        apart u w q (inr a) (inr b) = a.1 ∙ sym b.1

-- ---- an entry hung

chains-more : (x : Index) (s : List ℕ) (k m : ℕ) → k ≤ m → Chains x s k → Chains x s m
chains-more x s k m h c = record {
  whole = c.whole;
  once = c.once;
  below = λ v p n. let b = c.below v p n in omega arith;
  apart = c.apart;
}

module _ (x : Index) (s : List ℕ) (p : ℕ) (l : Laid x (length s)) (hp : p / 4 < x.room) where
  -- hung, or left as it is
  hung-cases : (hung x p s ≡ s) ⊎ ((corner_at x s p < x.vertices) × (hung x p s ≡ pushed x (corner_at x s p) p s))
  unfolding hung
  hung-cases = go (ltb (corner_at x s p) x.vertices) (ltb (word_at s (x.lengths + corner_at x s p) / 4) x.room) refl
    where
      go : (a b : Bool) → ltb (corner_at x s p) x.vertices ≡ a
          → (cond (a && b) (pushed x (corner_at x s p) p s) s ≡ s) ⊎ ((corner_at x s p < x.vertices) × (cond (a && b) (pushed x (corner_at x s p) p s) s ≡ pushed x (corner_at x s p) p s))
      go true true e = inr (ltb-true (corner_at x s p) x.vertices e, refl)
      go true false e = inl refl
      go false b e = inl refl

  pub length-hung : length (hung x p s) ≡ length s
  length-hung = elim hung-cases [ inl e ↦ ap length e | inr e ↦ ap length e.1 ∙ length-pushed x s (corner_at x s p) p l e.0 hp ]

  pub hung-outside : (j : ℕ) → Outside x j → word_at (hung x p s) j ≡ word_at s j
  hung-outside j o =
      elim hung-cases [
        | inl e ↦ ap (λ (u : List ℕ). word_at u j) e
        | inr e ↦ ap (λ (u : List ℕ). word_at u j) e.1 ∙ pushed-outside x s (corner_at x s p) p l e.0 hp j o
      ]

  corner-hung : (q : ℕ) → q / 4 < x.room → corner_at x (hung x p s) q ≡ corner_at x s q
  corner-hung q h = hung-outside (x.slots + q) (λ g. omega arith)

  pushes : Chains x s p → corner_at x s p < x.vertices → hung x p s ≡ pushed x (corner_at x s p) p s
  unfolding hung
  pushes c h =
      let n = corner_at x s p in
      let a = one-short x s p c n in
      let b : word_at s (x.lengths + n) ≤ p = omega (arith, length-vertex x s n h) in
      rw (lt-ltb n x.vertices h, lt-ltb (word_at s (x.lengths + n) / 4) x.room (omega arith))

  -- a complete index of the entries below p, with p hung, is one of those below p + 1
  pub hung-complete : Complete x s p → Complete x (hung x p s) (p + 1)
  hung-complete c = ⊎_elim yes no (side (corner_at x s p) x.vertices)
    where
      yes : corner_at x s p < x.vertices → Complete x (hung x p s) (p + 1)
      yes h =
          let v = corner_at x s p in
          let e = pushes c.chains h in
          let le_refl : p ≤ p = omega arith in
          let at : (q u : ℕ) → q < p + 1 → u < x.vertices → corner_at x (hung x p s) q ≡ u → mem q (chain_of x (pushed x v p s) u) ≡ true =
          λ q u g hu f.
          let f' : corner_at x s q ≡ u = sym (corner-hung q (omega arith)) ∙ f in
          elim (side q p) [
            | inl a ↦ pushed-stands x s v p l h hp p c.chains le_refl u q (c.indexed u hu q a f')
            | inr a ↦
                let z : q ≡ p = omega arith in
                let w : v ≡ u = ap (corner_at x s) (sym z) ∙ f' in
                subst (λ (y : ℕ). mem q (chain_of x (pushed x v p s) y) ≡ true) w (rw (pushed-chain x s v p l h hp p c.chains le_refl) (or_left (mem q (chain_of x s v)) (eq-eqb q p z)))
          ] in
          record {
            chains = subst (λ (u : List ℕ). Chains x u (p + 1)) (sym e) (pushed-chains x s v p l h hp p c.chains le_refl);
            indexed = λ u hu q g f. subst (λ (z : List ℕ). mem q (chain_of x z u) ≡ true) (sym e) (at q u g hu f);
          }

      no : x.vertices ≤ corner_at x s p → Complete x (hung x p s) (p + 1)
      no h =
          let e : hung x p s ≡ s = elim hung-cases [ inl e ↦ e | inr e ↦ absurd (let g = e.0 in omega arith) ] in
          subst (λ (u : List ℕ). Complete x u (p + 1)) (sym e) (record {
            chains = chains-more x s p (p + 1) (omega arith) c.chains;
            indexed = λ u hu q g f. elim (side q p) [
              | inl a ↦ c.indexed u hu q a f
              | inr a ↦ absurd (let z : q ≡ p = omega arith in let w : corner_at x s p ≡ u = ap (corner_at x s) (sym z) ∙ f in omega arith)
            ];
          })

-- ---- entries one after the other

pub length-hung_all : (x : Index) (k p : ℕ) (s : List ℕ) → Laid x (length s) → p + k ≤ 4 * x.room → length (hung_all x k p s) ≡ length s
unfolding hung_all
length-hung_all x zero p s l h = refl
length-hung_all x (suc k) p s l h =
    let e = length-hung x s p l (omega arith) in
    length-hung_all x k (p + 1) (hung x p s) (subst (Laid x) (sym e) l) (omega arith) ∙ e

pub hung_all-outside : (x : Index) (k p : ℕ) (s : List ℕ) → Laid x (length s) → p + k ≤ 4 * x.room → (j : ℕ) → Outside x j → word_at (hung_all x k p s) j ≡ word_at s j
unfolding hung_all
hung_all-outside x zero p s l h j o = refl
hung_all-outside x (suc k) p s l h j o =
    let e = length-hung x s p l (omega arith) in
    hung_all-outside x k (p + 1) (hung x p s) (subst (Laid x) (sym e) l) (omega arith) j o ∙ hung-outside x s p l (omega arith) j o

pub hung_all-complete : (x : Index) (k p : ℕ) (s : List ℕ) → Laid x (length s) → p + k ≤ 4 * x.room → Complete x s p → Complete x (hung_all x k p s) (p + k)
unfolding hung_all
hung_all-complete x zero p s l h c = subst (Complete x s) (sym (add-zero p)) c
hung_all-complete x (suc k) p s l h c =
    let e = length-hung x s p l (omega arith) in
    let n : p + 1 + k ≡ p + suc k = omega arith in
    subst (Complete x (hung_all x k (p + 1) (hung x p s))) n
    (hung_all-complete x k (p + 1) (hung x p s) (subst (Laid x) (sym e) l) (omega arith) (hung-complete x s p l (omega arith) c))

-- ---- slots appended

module _ (x : Index) (i j : ℕ) (s : List ℕ) (l : Laid x (length s)) (hi : i ≤ j) (hj : j ≤ x.room) where
  appended-is : appended x i j s ≡ hung_all x (4 * j - 4 * i) (4 * i) s
  unfolding appended has_slots
  appended-is = rw (laid-yes x (length s) l, le-leb i j hi, le-leb j x.room hj)

  pub length-appended : length (appended x i j s) ≡ length s
  length-appended = ap length appended-is ∙ length-hung_all x (4 * j - 4 * i) (4 * i) s l (omega arith)

  pub appended-outside : (n : ℕ) → Outside x n → word_at (appended x i j s) n ≡ word_at s n
  appended-outside n o = ap (λ (u : List ℕ). word_at u n) appended-is ∙ hung_all-outside x (4 * j - 4 * i) (4 * i) s l (omega arith) n o

  -- a complete index of the slots below i becomes one of those below j
  pub appended-complete : Complete x s (4 * i) → Complete x (appended x i j s) (4 * j)
  appended-complete c =
      let n : 4 * i + (4 * j - 4 * i) ≡ 4 * j = omega arith in
      subst (Complete x (appended x i j s)) n
      (subst (λ (u : List ℕ). Complete x u (4 * i + (4 * j - 4 * i))) (sym appended-is) (hung_all-complete x (4 * j - 4 * i) (4 * i) s l (omega arith) c))

-- ---- an index built

module _ (x : Index) (n : ℕ) (s : List ℕ) (l : Laid x (length s)) (hn : n ≤ x.room) where
  abbrev zeros : List ℕ
  zeros = replicate x.vertices 0

  abbrev start : List ℕ
  start = written s x.lengths zeros

  fits : x.lengths + length zeros ≤ length s
  fits = omega (arith, length-replicate {A = ℕ} x.vertices 0)

  length-start : length start ≡ length s
  length-start = length-written s x.lengths zeros fits

  none : (v : ℕ) → chain_length x start v ≡ 0
  none v =
      ⊎_elim
      (λ h.
      length-vertex x start v h
      ∙ written_at s x.lengths zeros fits v (omega (arith, length-replicate {A = ℕ} x.vertices 0))
      ∙ get_or-replicate x.vertices v 0 0 h)
      (λ h. length_none x start v h)
      (side v x.vertices)

  empty : (v : ℕ) → chain_of x start v ≡ []
  empty v = chain-none x start v (none v)

  start-complete : Complete x start (4 * 0)
  start-complete = record {
    chains = record {
      whole = λ v. ap length (empty v) ∙ sym (none v);
      once = λ v. subst Nodup (sym (empty v)) tt;
      below = λ v p m. absurd (mem-nil p (rw (empty v) at m));
      apart = λ v w p a b. absurd (mem-nil p (rw (empty v) at a));
    };
    indexed = λ v h p g e. absurd (omega arith);
  }

  built-is : built x n s ≡ appended x 0 n start
  unfolding built has_slots
  built-is = rw (laid-yes x (length s) l, le-leb 0 n (omega arith), le-leb n x.room hn)

  pub length-built : length (built x n s) ≡ length s
  length-built = ap length built-is ∙ length-appended x 0 n start (subst (Laid x) (sym length-start) l) (omega arith) hn ∙ length-start

  pub built-outside : (j : ℕ) → Outside x j → word_at (built x n s) j ≡ word_at s j
  built-outside j o =
      ap (λ (u : List ℕ). word_at u j) built-is
      ∙ appended-outside x 0 n start (subst (Laid x) (sym length-start) l) (omega arith) hn j o
      ∙ ⊎_elim
      (λ h. written_below s x.lengths zeros fits j (omega arith))
      (λ h. written_behind s x.lengths zeros fits j (let g = o h in omega (arith, length-replicate {A = ℕ} x.vertices 0)))
      (side j x.nexts)

  -- it is complete
  pub built-complete : Complete x (built x n s) (4 * n)
  built-complete =
      subst (λ (u : List ℕ). Complete x u (4 * n)) (sym built-is) (appended-complete x 0 n start (subst (Laid x) (sym length-start) l) (omega arith) hn start-complete)
