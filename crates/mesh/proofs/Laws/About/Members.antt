-- The members of a star: their places, how many entries their chains have, and whether there is room. Assumes nothing.
use Rattle.std.proofs.Common.{◌≡◌, ℕ, zero, suc, ◌+◌, ◌-◌, ◌*◌, ◌/◌, ◌<◌, ◌≤◌, Bool, true, false, ◌&&◌, ◌||◌, ltb, leb, ◌⊎◌, List, [], ◌∷◌, ◌++◌, length, get_or, sym, refl, ap, ◌∙◌, subst, ap₂, inl, inr, ⊎_elim, le_of_suc-le-suc, not-suc-le-zero, arith, length-append, lt-ltb, le-leb}
use lib.ListN.{get_or-eq_default}
use borrow.Author.Tests.{lt-leb}
use Rattle.mesh.specs.declared.star.Index.{Index}
use Rattle.mesh.specs.Words.{word_at}
use Rattle.mesh.specs.Complex.{mem, Nodup}
use Rattle.mesh.specs.inside.Star.{gather, chain_length, chain_of, slots_met, Chains, Laid, laid, room_for}
use Rattle.mesh.specs.inside.About.{members, clear_of, entries_of, slots_of, about_room}
use Rattle.mesh.proofs.Laws.Bools.{split, and_intro}
use Rattle.mesh.proofs.Laws.Complex.Sets.{clash, or_left, or_right}
use Rattle.mesh.proofs.Laws.Star.Layout.{laid-is, room-yes}
use Rattle.mesh.proofs.Laws.Star.Chains.{nodup-join, few-below}
use Rattle.mesh.proofs.Laws.Star.Gathering.{slots-short}
use Rattle.mesh.proofs.Laws.Star.Found.{gather-out}

-- ---- places

-- past the end all words are 0
no_word : (s : List ℕ) (p : ℕ) → length s ≤ p → word_at s p ≡ 0
no_word s p h = get_or-eq_default s 0 h

members-past : (k p q step : ℕ) (s : List ℕ) → length s ≤ p → length s ≤ q → members k p step s ≡ members k q step s
unfolding members
members-past zero p q step s h g = refl
members-past (suc k) p q step s h g =
    ap₂ (λ (v : ℕ) (vs : List ℕ). v ∷ vs) (no_word s p h ∙ sym (no_word s q g)) (members-past k (p + step) (q + step) step s (omega arith) (omega arith))

clear-past : (a m k p step : ℕ) → m ≤ p → clear_of a m k p step ≡ true
unfolding clear_of
clear-past a m zero p step h = refl
clear-past a m (suc k) p step h = rw (le-leb m p h) (and_intro (ltb p a || true) (clear_of a m k (p + step) step) (or_right (ltb p a) refl) (clear-past a m k (p + step) step (omega arith)))

-- r is the next place, or both are past the end
abbrev pub Next : ℕ → ℕ → ℕ → Type 0
Next m q r = (r ≡ q) ⊎ ((m ≤ r) × (m ≤ q))

pub members-next : (k q r step : ℕ) (s : List ℕ) → Next (length s) q r → members k r step s ≡ members k q step s
members-next k q r step s h = ⊎_elim (λ e. ap (λ (p : ℕ). members k p step s) e) (λ e. members-past k r q step s e.0 e.1) h

pub clear_next : (a m k q r step : ℕ) → Next m q r → clear_of a m k r step ≡ clear_of a m k q step
clear_next a m k q r step h =
    ⊎_elim (λ e. ap (λ (p : ℕ). clear_of a m k p step) e) (λ e. clear-past a m k r step e.0 ∙ sym (clear-past a m k q step e.1)) h

-- places below a are clear
pub clear-below : (a m k p step : ℕ) → ((i : ℕ) → i < k → p + step * i < a) → clear_of a m k p step ≡ true
unfolding clear_of
clear-below a m zero p step h = refl
clear-below a m (suc k) p step h =
    and_intro (ltb p a || leb m p) (clear_of a m k (p + step) step)
    (or_left (leb m p) (lt-ltb p a (let g = h 0 (omega arith) in omega arith)))
    (clear-below a m k (p + step) step (λ i g. let b = h (suc i) (omega arith) in let e : step * suc i ≡ step + step * i = omega arith in omega arith))

-- the first of them
pub members-first : (k p step : ℕ) (s : List ℕ) → 0 < k → members k p step s ≡ word_at s p ∷ members (k - 1) (p + step) step s
unfolding members
members-first zero p step s h = absurd (not-suc-le-zero h)
members-first (suc k) p step s h = let e : k ≡ suc k - 1 = omega arith in ap (λ (i : ℕ). word_at s p ∷ members i (p + step) step s) e

pub clear_first : (a m k p step : ℕ) → 0 < k → clear_of a m k p step ≡ ((ltb p a || leb m p) && clear_of a m (k - 1) (p + step) step)
unfolding clear_of
clear_first a m zero p step h = absurd (not-suc-le-zero h)
clear_first a m (suc k) p step h = let e : k ≡ suc k - 1 = omega arith in ap (λ (i : ℕ). (ltb p a || leb m p) && clear_of a m i (p + step) step) e

pub members-none : (k p step : ℕ) (s : List ℕ) → k ≤ 0 → members k p step s ≡ []
unfolding members
members-none zero p step s h = refl
members-none (suc k) p step s h = absurd (not-suc-le-zero h)

pub clear_none : (a m k p step : ℕ) → k ≤ 0 → clear_of a m k p step ≡ true
unfolding clear_of
clear_none a m zero p step h = refl
clear_none a m (suc k) p step h = absurd (not-suc-le-zero h)

pub length-members : (k p step : ℕ) (s : List ℕ) → length (members k p step s) ≡ k
unfolding members
length-members zero p step s = refl
length-members (suc k) p step s = ap suc (length-members k (p + step) step s)

-- the member i
pub members-at : (k p step : ℕ) (s : List ℕ) (i : ℕ) → i < k → get_or (members k p step s) i 0 ≡ word_at s (p + step * i)
unfolding members
members-at zero p step s i h = absurd (not-suc-le-zero h)
members-at (suc k) p step s zero h = let e : p ≡ p + step * 0 = omega arith in ap (word_at s) e
members-at (suc k) p step s (suc i) h =
    members-at k (p + step) step s i (le_of_suc-le-suc h) ∙ (let e : p + step + step * i ≡ p + step * suc i = omega arith in ap (word_at s) e)

-- ---- entries

module _ (x : Index) (s : List ℕ) where
  pub entries-first : (v : ℕ) (vs : List ℕ) → entries_of x s (v ∷ vs) ≡ chain_length x s v + entries_of x s vs
  unfolding entries_of
  entries-first v vs = refl

  pub entries_none : entries_of x s [] ≡ 0
  unfolding entries_of
  entries_none = refl

  -- those of two lists are their sum
  pub entries-append : (us vs : List ℕ) → entries_of x s (us ++ vs) ≡ entries_of x s us + entries_of x s vs
  unfolding entries_of
  entries-append [] vs = omega arith
  entries-append (u ∷ us) vs = omega (arith, entries-append us vs)

  -- no more slots than entries
  pub slots-few : (vs : List ℕ) → length (slots_of x s vs) ≤ entries_of x s vs
  unfolding slots_of gather entries_of
  slots-few [] = omega arith
  slots-few (v ∷ vs) = let h = slots-few vs in omega (arith, length-append (slots_met x s v) (gather (slots_met x s) vs), slots-short x s v)

  module _ (k : ℕ) (c : Chains x s k) where
    chained : (vs : List ℕ) → length (gather (chain_of x s) vs) ≡ entries_of x s vs
    unfolding gather entries_of
    chained [] = refl
    chained (v ∷ vs) = omega (arith, length-append (chain_of x s v) (gather (chain_of x s) vs), c.whole v, chained vs)

    once : (vs : List ℕ) → Nodup vs → Nodup (gather (chain_of x s) vs)
    unfolding gather
    once [] d = tt
    once (v ∷ vs) d =
        nodup-join (chain_of x s v) (gather (chain_of x s) vs) (c.once v) (once vs d.1)
        (λ p m n.
        let r = gather-out (chain_of x s) vs p n in
        let e : r.0 ≡ v = c.apart r.0 v p r.2 m in
        clash (subst (λ (y : ℕ). mem y vs ≡ true) e r.1) d.0)

    -- different vertices have no more entries than there are
    pub entries-few : (vs : List ℕ) → Nodup vs → entries_of x s vs ≤ k
    entries-few vs d =
        let h = few-below k (gather (chain_of x s) vs) (once vs d) (λ p m. let r = gather-out (chain_of x s) vs p m in c.below r.0 p r.2) in
        omega (arith, chained vs)

-- ---- the test

-- the entries of the members before, n of them, and of those left are all; as many have room
pub record Summing (x : Index) (s : List ℕ) (from count step p left n : ℕ) : Type 0 where
  pub tested : laid x (length s) ≡ true
  pub sum : n + entries_of x s (members left p step s) ≡ entries_of x s (members count from step s)
  pub clear : clear_of x.area (length s) left p step ≡ clear_of x.area (length s) count from step
  pub few : n ≤ (length s - x.area) / 2

pub sum-start : (x : Index) (s : List ℕ) (from count step : ℕ) → laid x (length s) ≡ true → Summing x s from count step from count 0
sum-start x s from count step e = record { tested = e; sum = omega arith; clear = refl; few = omega arith }

pub about-no : (x : Index) (s : List ℕ) (from count step : ℕ) → laid x (length s) ≡ false → false ≡ about_room x s from count step
unfolding about_room room_for
about-no x s from count step e = simp e

module _ {x : Index} {s : List ℕ} {from count step p left n : ℕ} (g : Summing x s from count step p left n) where
  l : Laid x (length s)
  l = laid-is x (length s) g.tested

  end : x.area ≤ length s
  end = l.end

  pub sum-end : left ≤ 0 → true ≡ about_room x s from count step
  unfolding about_room
  sum-end h =
      let T = entries_of x s (members count from step s) in
      let t : n ≡ T = let q : entries_of x s (members left p step s) ≡ 0 = ap (entries_of x s) (members-none left p step s h) ∙ entries_none x s in let a = g.sum in omega arith in
      let f : x.area + (T + T) ≤ length s = let a = g.few in let b = end in omega arith in
      sym (and_intro (room_for x (length s) T) (clear_of x.area (length s) count from step) (room-yes x (length s) T l f)
      (sym g.clear ∙ clear_none x.area (length s) left p step h))

  module _ (some : 0 < left) where
    -- a member in the area
    pub sum-blocked : (ltb p x.area || leb (length s) p) ≡ false → false ≡ about_room x s from count step
    unfolding about_room
    sum-blocked h =
        let a = x.area in
        let m = length s in
        let b : clear_of a m count from step ≡ false = sym g.clear ∙ clear_first a m left p step some ∙ rw h refl in
        let T = entries_of x s (members count from step s) in
        elim (split (room_for x m T)) [ inl q ↦ rw (q, b) refl | inr q ↦ rw q refl ]

    module _ (ok : (ltb p x.area || leb (length s) p) ≡ true) (i : ℕ) (ei : i ≡ chain_length x s (word_at s p)) where
      more : n + i + entries_of x s (members (left - 1) (p + step) step s) ≡ entries_of x s (members count from step s)
      more =
          let a = g.sum in
          let b : entries_of x s (members left p step s) ≡ chain_length x s (word_at s p) + entries_of x s (members (left - 1) (p + step) step s) =
          ap (entries_of x s) (members-first left p step s some) ∙ entries-first x s (word_at s p) (members (left - 1) (p + step) step s) in
          omega arith

      -- too many entries
      pub sum-full : (length s - x.area) / 2 < n + i → false ≡ about_room x s from count step
      unfolding about_room room_for
      sum-full h =
          let T = entries_of x s (members count from step s) in
          let b : length s < x.area + (T + T) = let a = more in let d = end in omega arith in
          simp (g.tested, lt-leb (x.area + (T + T)) (length s) b)

      -- a turn
      pub sum-turn : n + i ≤ (length s - x.area) / 2 → (q : ℕ) → Next (length s) (p + step) q → Summing x s from count step q (left - 1) (n + i)
      sum-turn h q nx = record {
        tested = g.tested;
        sum = ap (λ (vs : List ℕ). n + i + entries_of x s vs) (members-next (left - 1) (p + step) q step s nx) ∙ more;
        clear =
            clear_next x.area (length s) (left - 1) (p + step) q step nx
            ∙ sym (clear_first x.area (length s) left p step some ∙ ap (λ (b : Bool). b && clear_of x.area (length s) (left - 1) (p + step) step) ok)
            ∙ g.clear;
        few = h;
      }
