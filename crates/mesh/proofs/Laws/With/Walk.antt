-- The loops over the shorter chain: one that stops at the first slot with all of the vertices, and one that puts all such slots.
-- Assumes nothing.
use Rattle.std.proofs.Common.{◌≡◌, ℕ, ◌+◌, ◌/◌, ◌<◌, ◌≤◌, Bool, true, false, cond, ◌&&◌, ◌||◌, eqb, List, [], ◌∷◌, length, take, drop, refl, ap, ◌∙◌, ap₂, arith}
use Rattle.std.specs.List.{list_all, list_any}
use Rattle.mesh.specs.declared.star.Index.{Index}
use Rattle.mesh.specs.Words.{word_at}
use Rattle.mesh.specs.Complex.{mem, sub}
use Rattle.mesh.specs.inside.Star.{chain_length, chain_of, Laid, Free, Steady, distinct, written, listed}
use Rattle.mesh.specs.inside.With.{rarer, entry_has, with_if, with_met, with_room, with_list, with_in}
use Rattle.mesh.proofs.Laws.Numbers.{eqb_swap}
use Rattle.mesh.proofs.Laws.Star.Layout.{room-is}
use Rattle.mesh.proofs.Laws.Star.Written.{length-written}
use Rattle.mesh.proofs.Laws.Star.Gathering.{gather-short, chain-short, corners-same}
use Rattle.mesh.proofs.Laws.Star.Answers.{ordered-is}

-- ---- what an entry gives

module _ (x : Index) (s : List ℕ) (p : ℕ) where
  pub with_none : (σ : List ℕ) → entry_has x s σ p ≡ false → with_if x s σ p ≡ []
  unfolding with_if
  with_none σ h = rw h

  pub with-one : (σ : List ℕ) → entry_has x s σ p ≡ true → with_if x s σ p ≡ p / 4 ∷ []
  unfolding with_if
  with-one σ h = rw h

  pub with-short : (σ : List ℕ) → length (with_if x s σ p) ≤ 1
  unfolding with_if
  with-short σ = go (entry_has x s σ p)
    where
      go : (b : Bool) → length (cond b (p / 4 ∷ []) []) ≤ 1
      go true = omega arith
      go false = omega arith

-- words from the area on do not matter to it
pub with-same : (x : Index) (σ s t : List ℕ) {m : ℕ} → Laid x m → ((j : ℕ) → j < x.area → word_at t j ≡ word_at s j) → (p : ℕ) → p / 4 < x.room
    → with_if x t σ p ≡ with_if x s σ p
unfolding with_if entry_has
with-same x σ s t l same p h = ap (λ (us : List ℕ). cond (sub σ us) (p / 4 ∷ []) []) (corners-same x s t l same p h)

-- so a walk may put them
pub with-steady : (x : Index) (s σ : List ℕ) → Laid x (length s) → Steady x s 1 (λ t p. with_if x t σ p)
with-steady x s σ l = record { few = λ p. with-short x s p σ; same = λ t same p h. with-same x σ s t l same p h }

-- no more slots than entries
pub met-short : (x : Index) (s : List ℕ) (a : ℕ) (σ : List ℕ) → length (with_met x s a σ) ≤ chain_length x s a
unfolding with_met
met-short x s a σ = omega (arith, gather-short (with_if x s σ) 1 (chain_of x s a) (λ p. with-short x s p σ), chain-short x s a)

-- ---- what an entry is asked

-- the library's test of a slice
pub any-mem : (v : ℕ) (us : List ℕ) → list_any (λ (u : ℕ). eqb u v) us ≡ mem v us
any-mem v [] = refl
any-mem v (u ∷ us) = ap₂ (λ (a b : Bool). a || b) (eqb_swap u v) (any-mem v us)

-- each of the vertices in turn
pub all-sub : (us σ : List ℕ) → list_all (λ (v : ℕ). mem v us) σ ≡ sub σ us
all-sub us [] = refl
all-sub us (v ∷ σ) = ap (λ (b : Bool). mem v us && b) (all-sub us σ)

-- ---- the answer

module _ (x : Index) (s : List ℕ) (v w : ℕ) where
  abbrev met : List ℕ
  met = with_met x s (rarer x s v w) (v ∷ w ∷ [])

  pub with-no : with_room x s v w ≡ false → (0 ≡ length (with_list x s v w)) × (s ≡ with_in x s v w)
  unfolding with_list with_in
  with-no e = (rw e, rw e)

  module _ (er : with_room x s v w ≡ true) where
    is : Laid x (length s) × (x.area + (chain_length x s (rarer x s v w) + chain_length x s (rarer x s v w)) ≤ length s)
    unfolding with_room
    is = room-is x (length s) (chain_length x s (rarer x s v w)) er

    pub with-free : Free x s x.area (chain_length x s (rarer x s v w))
    with-free = record { laid = is.0; behind = omega arith; fits = omega (arith, is.1) }

    tight : x.area + (length met + length met) ≤ length s
    tight = omega (arith, is.1, met-short x s (rarer x s v w) (v ∷ w ∷ []))

    module _ (i : ℕ) (s₁ : List ℕ) (ei : i ≡ length met) (e₁ : s₁ ≡ written s x.area met) where
      pub with-fits : x.area + (i + i) ≤ length s₁
      with-fits = omega (arith, tight, ap length e₁ ∙ length-written s x.area met (omega (arith, tight)))

      pub with-is : (r : ℕ) (s₂ : List ℕ) → r ≡ length (distinct (take i (drop x.area s₁))) → s₂ ≡ listed s₁ x.area (take i (drop x.area s₁))
          → (r ≡ length (with_list x s v w)) × (s₂ ≡ with_in x s v w)
      unfolding with_list with_in
      with-is r s₂ e₂ e₃ = let o = ordered-is s x.area met tight s₁ s₂ i r e₁ ei e₂ e₃ in (rw er o.0, rw er o.1)
