-- Chains: how long they can be, and that words elsewhere do not matter to them. Assumes nothing.
use Rattle.std.proofs.Common.{◌≡◌, ℕ, zero, suc, ◌+◌, ◌/◌, ◌<◌, ◌≤◌, true, ◌≢◌, ◌⊎◌, List, [], ◌∷◌, ◌++◌, length, sym, refl, ap, ◌∙◌, subst, ap₂, inl, inr, ⊎_elim, arith, length-append, le-ltb, lt-ltb, eq-eqb}
use Rattle.mesh.specs.declared.star.Index.{Index}
use Rattle.mesh.specs.Words.{word_at}
use Rattle.mesh.specs.Complex.{mem, up_to, Nodup}
use Rattle.mesh.specs.inside.Star.{walk, corner_at, next_of, head_of, chain_length, chain_of, Covers, Chains, Complete, Laid}
use Rattle.mesh.proofs.Laws.Parts.{side}
use Rattle.mesh.proofs.Laws.Complex.Sets.{clash, nope, mem-here, mem-there, mem-cases, mem-nil, short, or_left}
use Rattle.mesh.proofs.Laws.Complex.Tets.{up_to-mem}
use Rattle.mesh.proofs.Laws.Star.Walks.{walk_none, walk-entry, walk_same}

-- ---- joined lists

pub mem-left : (x : ℕ) (a b : List ℕ) → mem x a ≡ true → mem x (a ++ b) ≡ true
mem-left x [] b h = absurd (mem-nil x h)
mem-left x (y ∷ a) b h = elim (mem-cases x y a h) [ inl e ↦ or_left (mem x (a ++ b)) (eq-eqb x y e) | inr m ↦ mem-there x y (a ++ b) (mem-left x a b m) ]

pub mem-right : (x : ℕ) (a b : List ℕ) → mem x b ≡ true → mem x (a ++ b) ≡ true
mem-right x [] b h = h
mem-right x (y ∷ a) b h = mem-there x y (a ++ b) (mem-right x a b h)

pub mem-either : (x : ℕ) (a b : List ℕ) → mem x (a ++ b) ≡ true → (mem x a ≡ true) ⊎ (mem x b ≡ true)
mem-either x [] b h = inr h
mem-either x (y ∷ a) b h =
    elim (mem-cases x y (a ++ b) h) [
      | inl e ↦ inl (or_left (mem x a) (eq-eqb x y e))
      | inr m ↦ elim (mem-either x a b m) [ inl n ↦ inl (mem-there x y a n) | inr n ↦ inr n ]
    ]

pub nodup-join : (a b : List ℕ) → Nodup a → Nodup b → ((x : ℕ) → mem x a ≡ true → mem x b ≡ true → ⊥) → Nodup (a ++ b)
nodup-join [] b d e h = e
nodup-join (y ∷ a) b d e h =
    (nope (λ m. elim (mem-either y a b m) [ inl n ↦ clash n d.0 | inr n ↦ h y (mem-here y a) n ]), nodup-join a b d.1 e (λ x m n. h x (mem-there x y a m) n))

pub length-up_to : (k : ℕ) → length (up_to k) ≡ k
length-up_to zero = refl
length-up_to (suc k) = ap suc (length-up_to k)

-- different numbers below k are at most k
pub few-below : (k : ℕ) (ps : List ℕ) → Nodup ps → ((p : ℕ) → mem p ps ≡ true → p < k) → length ps ≤ k
few-below k ps d h = let r = short ps (up_to k) d (λ p m. up_to-mem k p (h p m)) in omega (arith, length-up_to k)

-- ---- what is no vertex has no chain

pub length_none : (x : Index) (s : List ℕ) (v : ℕ) → x.vertices ≤ v → chain_length x s v ≡ 0
unfolding chain_length
length_none x s v h = rw (le-ltb v x.vertices h)

pub length-vertex : (x : Index) (s : List ℕ) (v : ℕ) → v < x.vertices → chain_length x s v ≡ word_at s (x.lengths + v)
unfolding chain_length
length-vertex x s v h = rw (lt-ltb v x.vertices h)

pub chain-none : (x : Index) (s : List ℕ) (v : ℕ) → chain_length x s v ≡ 0 → chain_of x s v ≡ []
unfolding chain_of
chain-none x s v h = rw h (walk_none x.room (next_of x s) (head_of x s v))

pub chain-entry : (x : Index) (s : List ℕ) (v p : ℕ) → mem p (chain_of x s v) ≡ true → p / 4 < x.room
unfolding chain_of
chain-entry x s v p m = walk-entry x.room (next_of x s) (chain_length x s v) (head_of x s v) p m

-- ---- the same chain in two slices

pub chain-agree : (x : Index) (s t : List ℕ) (v : ℕ) → chain_length x t v ≡ chain_length x s v → head_of x t v ≡ head_of x s v
    → ((p : ℕ) → mem p (chain_of x s v) ≡ true → next_of x t p ≡ next_of x s p) → chain_of x t v ≡ chain_of x s v
unfolding chain_of
chain-agree x s t v l h n =
    ap₂ (λ (k p : ℕ). walk x.room (next_of x t) k p) l h ∙ walk_same x.room (next_of x s) (next_of x t) (chain_length x s v) (head_of x s v) n

module _ (x : Index) (s t : List ℕ) {m : ℕ} (l : Laid x m) (same : (j : ℕ) → x.nexts ≤ j → j < x.area → word_at t j ≡ word_at s j) where
  pub length-kept : (v : ℕ) → chain_length x t v ≡ chain_length x s v
  length-kept v =
      ⊎_elim
      (λ h. length-vertex x t v h ∙ same (x.lengths + v) (omega arith) (omega arith) ∙ sym (length-vertex x s v h))
      (λ h. length_none x t v h ∙ sym (length_none x s v h))
      (side v x.vertices)

  -- the words of the chains alone matter to them
  pub chain-kept : (v : ℕ) → chain_of x t v ≡ chain_of x s v
  chain-kept v = ⊎_elim yes no (side v x.vertices)
    where
      next : (p : ℕ) → mem p (chain_of x s v) ≡ true → next_of x t p ≡ next_of x s p
      next p m = let e = chain-entry x s v p m in same (x.nexts + p) (omega arith) (omega arith)

      yes : v < x.vertices → chain_of x t v ≡ chain_of x s v
      yes h = chain-agree x s t v (length-kept v) (same (x.heads + v) (omega arith) (omega arith)) next

      no : x.vertices ≤ v → chain_of x t v ≡ chain_of x s v
      no h = chain-none x t v (length_none x t v h) ∙ sym (chain-none x s v (length_none x s v h))

  pub chains-kept : (k : ℕ) → Chains x s k → Chains x t k
  chains-kept k c = record {
    whole = λ v. ap length (chain-kept v) ∙ c.whole v ∙ sym (length-kept v);
    once = λ v. subst Nodup (sym (chain-kept v)) (c.once v);
    below = λ v p n. c.below v p (rw (chain-kept v) at n);
    apart = λ v w p a b. c.apart v w p (rw (chain-kept v) at a) (rw (chain-kept w) at b);
  }

  -- and the corners that are v now were v before, as where slots are gone or another vertex is replaced
  pub covers_kept : (k u v : ℕ) → ((p : ℕ) → p < k → corner_at x t p ≡ u → corner_at x s p ≡ u) → Covers x s k u v → Covers x t k u v
  covers_kept k u v h c p g e = rw (chain-kept v) (c p g (h p g e))

  pub complete-kept : (k : ℕ) → ((p v : ℕ) → p < k → v < x.vertices → corner_at x t p ≡ v → corner_at x s p ≡ v) → Complete x s k → Complete x t k
  complete-kept k h c = record {
    chains = chains-kept k c.chains;
    indexed = λ v g. covers_kept k v v (λ p f e. h p v f g e) (c.indexed v g);
  }

-- ---- how long chains are

module _ (x : Index) (s : List ℕ) (k : ℕ) (c : Chains x s k) where
  pub one-short : (v : ℕ) → chain_length x s v ≤ k
  one-short v = let r = few-below k (chain_of x s v) (c.once v) (c.below v) in omega (arith, c.whole v)

  pub two-short : (v w : ℕ) → v ≢ w → chain_length x s v + chain_length x s w ≤ k
  two-short v w n =
      let a = chain_of x s v in
      let b = chain_of x s w in
      let r = few-below k (a ++ b) (nodup-join a b (c.once v) (c.once w) (λ p m o. n (c.apart v w p m o)))
      (λ p m. elim (mem-either p a b m) [ inl o ↦ c.below v p o | inr o ↦ c.below w p o ]) in
      omega (arith, c.whole v, c.whole w, length-append a b)
