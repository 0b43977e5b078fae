-- The layout of `improve` in the work slice: its areas lie one behind the other, and what is written to the pairs, the edges or the area
-- behind them changes nothing of the state. Assumes nothing.
use mathlib.Core.Path.{◌≡◌, refl, sym, ap, subst, ◌∙◌}
use mathlib.Core.List.{List, [], ◌∷◌}
use Prim.Native.Nat.{ℕ, zero, suc, ◌+◌, ◌*◌, ◌≤◌, ◌<◌}
use native.Mathlib.Omega.{arith}
use lib.ListN.{length, take, drop}
use lib.Seq.{get_or-drop}
use Rattle.geometry.specs.declared.bounds.Options.{Options}
use Rattle.mesh.specs.declared.star.Index.{Index}
use Rattle.mesh.specs.Words.{word_at}
use Rattle.mesh.specs.inside.Star.{Laid, Complete, chain_of, chain_length}
use Rattle.mesh.proofs.Laws.Star.Chains.{complete-kept}
use Rattle.mesh.proofs.Laws.Star.Calls.{tets-same}
use Rattle.repair.specs.Mesh.{Mesh}
use Rattle.repair.specs.Improve.{State}
use Rattle.repair.specs.inside.Layout.{Room, Stands, flags_at, pairs_at, edges_at, slots_in, live_in}

-- the areas of the index lie one behind the other
pub room-laid : {x : Index} {n m : ℕ} → Room x n m → Laid x m
room-laid r = record {
  few = let a = r.room in let b = r.elements in omega arith;
  nexts = let a = r.room in let b = r.nexts in omega arith;
  heads = let a = r.room in let b = r.heads in omega arith;
  lengths = let a = r.lengths in omega arith;
  area = let a = r.area in omega arith;
  end = let a = r.few in let b = r.elements in let c = r.slots in let d = r.nexts in let e = r.heads in let f = r.lengths in let g = r.area in let h = r.long in omega arith;
}

-- where the area begins does not matter to an index
abbrev pub area-at : Index → ℕ → Index
area-at x a = record { slots = x.slots; nexts = x.nexts; heads = x.heads; lengths = x.lengths; area = a; room = x.room; vertices = x.vertices }

pub complete-at : (x : Index) (a : ℕ) (s : List ℕ) (k : ℕ) → Complete x s k → Complete (area-at x a) s k
unfolding chain_of chain_length
complete-at x a s k c = record {
  chains = record { whole = c.chains.whole; once = c.chains.once; below = c.chains.below; apart = c.chains.apart };
  indexed = c.indexed;
}

complete-from : (x : Index) (a : ℕ) (s : List ℕ) (k : ℕ) → Complete (area-at x a) s k → Complete x s k
unfolding chain_of chain_length
complete-from x a s k c = record {
  chains = record { whole = c.chains.whole; once = c.chains.once; below = c.chains.below; apart = c.chains.apart };
  indexed = c.indexed;
}

-- the slots and the live elements are the same where the words of the slots are
pub slots_same : (x : Index) (n : ℕ) (s t : List ℕ) → ((j : ℕ) → j < 4 * n → word_at t (x.slots + j) ≡ word_at s (x.slots + j)) → slots_in x n t ≡ slots_in x n s
slots_same x n s t h = tets-same n (drop x.slots s) (drop x.slots t) (λ j g. get_or-drop x.slots t j 0 ∙ h j g ∙ sym (get_or-drop x.slots s j 0))

-- the first n words are the same where each of them is
pub take_same : (n : ℕ) (s t : List ℕ) → length t ≡ length s → ((j : ℕ) → j < n → word_at t j ≡ word_at s j) → take n t ≡ take n s
take_same zero s t e h = refl
take_same (suc n) [] [] e h = refl
take_same (suc n) [] (b ∷ t) e h = absurd (omega (arith, e))
take_same (suc n) (a ∷ s) [] e h = absurd (omega (arith, e))
take_same (suc n) (a ∷ s) (b ∷ t) e h = rw (h 0 (omega arith)) (ap (λ l. a ∷ l) (take_same n s t (let d : length t ≡ length s = omega (arith, e) in d) (λ j g. h (suc j) (omega arith))))

module _ (o : Options) (m : Mesh) (x : Index) (n : ℕ) (w : List ℕ) (s : State) (z : Stands o m x n w s) (t : List ℕ) where
  -- the same state where only words of the pairs' area, and words from the edges' area on, changed
  pub stands-kept : length t ≡ length w → ((j : ℕ) → j < pairs_at x → word_at t j ≡ word_at w j) → ((j : ℕ) → x.slots ≤ j → j < edges_at x → word_at t j ≡ word_at w j)
      → Stands o m x n t s
  unfolding live_in
  stands-kept long before behind =
      let r = z.room in
      let r₂ : Room x n (length t) = subst (Room x n) (sym long) r in
      let a = r.nexts in let b = r.heads in let c = r.lengths in let d = r.area in
      let same : slots_in x n t ≡ slots_in x n w = slots_same x n w t (λ j g. behind (x.slots + j) (omega arith) (omega arith)) in
      record {
        room = r₂;
        many = z.many;
        groups = take_same (7 * x.vertices) w t long (λ j g. before j (omega arith)) ∙ z.groups;
        flags = λ v g. rw (before (flags_at x + v) (omega arith)) (z.flags v g);
        elements = rw same z.elements;
        proper = rw same z.proper;
        index =
            let l : Laid (area-at x (edges_at x)) (length t) = (let k = room-laid r₂ in record { few = k.few; nexts = k.nexts; heads = k.heads; lengths = k.lengths; area = (let e : edges_at x ≤ edges_at x = omega arith in e); end = (let e = k.end in let f = d in omega arith) }) in
            complete-from x (edges_at x) t (4 * n)
            (complete-kept (area-at x (edges_at x)) w t l (λ j p q. behind j (omega arith) q) (4 * n) (λ p v g f e. sym (behind (x.slots + p) (omega arith) (omega arith)) ∙ e) (complete-at x (edges_at x) w (4 * n) z.index));
      }
