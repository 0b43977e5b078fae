-- a goes into b in the slots that a list in the slice names: those become what they become, and all other words stay. Assumes nothing.
use mathlib.Core.Path.{◌≡◌, refl, sym, ap, subst, ◌∙◌}
use mathlib.Core.Logic.{◌≢◌, inl, inr}
use mathlib.Core.Bool.{true, false}
use mathlib.Core.List.{List, [], ◌∷◌}
use Prim.Native.Nat.{ℕ, suc, ◌+◌, ◌*◌, ◌≤◌, ◌<◌}
use native.Mathlib.Nat.{add-zero}
use native.Mathlib.Omega.{arith}
use borrow.Author.Tests.{eqb-true, eqb-false}
use lib.Dec.{eqb}
use lib.ListN.{length, get_or}
use Rattle.mesh.specs.declared.star.Index.{Index}
use Rattle.mesh.specs.Words.{word_at}
use Rattle.mesh.specs.Complex.{mem}
use Rattle.mesh.specs.inside.Star.{gone_word}
use Rattle.mesh.proofs.Laws.Complex.Sets.{split, mem-here, mem-there, mem-cases, mem-nil, out-head, out-tail}
use Rattle.repair.specs.inside.improve.Collapse.{slot_after, slot_at, slot_replaced, slots_replaced}
use Rattle.repair.proofs.Laws.Replace.Slots.{after-twice}
use Rattle.repair.proofs.Laws.Replace.Writes.{length-replaced, replaced-other, replaced-slots, replaced-slot}

-- the word j lies in none of the first n slots
abbrev pub NoSlot : Index → ℕ → ℕ → Type 0
NoSlot x n j = x.slots ≤ j → x.slots + 4 * n ≤ j

-- t is s once a went into b in those of the first n slots that us names
pub record Met (x : Index) (n a b : ℕ) (us s t : List ℕ) : Type 0 where
  pub long : length t ≡ length s
  pub other : (j : ℕ) → NoSlot x n j → word_at t j ≡ word_at s j
  pub named : (e : ℕ) → e < n → mem e us ≡ true → slot_at x t e ≡ slot_after a b (slot_at x s e)
  pub free : (e : ℕ) → e < n → mem e us ≡ false → slot_at x t e ≡ slot_at x s e

module _ (x : Index) (n a b : ℕ) (ab : a ≢ b) (ga : a ≢ gone_word) where
  -- one slot, then those of a list
  met-more : (e : ℕ) (us s t : List ℕ) → e < n → x.slots + 4 * n ≤ length s → Met x n a b us (slot_replaced x a b e s) t → Met x n a b (e ∷ us) s t
  met-more e us s t h fit m = record {
    long = m.long ∙ length-replaced x a b e s;
    other = λ j g. m.other j g ∙ replaced-other x a b e s j (λ k. let l = g (omega arith) in omega arith);
    named = λ d l g. elim (split (eqb d e)) [
      | inl q ↦
          let r = here d (eqb-true d e q) in
          elim (split (mem d us)) [
            | inl o ↦ m.named d l o ∙ ap (slot_after a b) r ∙ after-twice a b ab ga (slot_at x s d)
            | inr o ↦ m.free d l o ∙ r
          ]
      | inr q ↦
          let c = eqb-false d e q in
          elim (mem-cases d e us g) [
            | inl p ↦ absurd (c p)
            | inr p ↦ m.named d l p ∙ ap (slot_after a b) (replaced-slots x a b e s d c)
          ]
    ];
    free = λ d l g. m.free d l (out-tail d e us g) ∙ replaced-slots x a b e s d (out-head d e us g);
  }
    where
      here : (d : ℕ) → d ≡ e → slot_at x (slot_replaced x a b e s) d ≡ slot_after a b (slot_at x s d)
      here d q =
          subst (λ (u : ℕ). slot_at x (slot_replaced x a b e s) u ≡ slot_after a b (slot_at x s u)) (sym q)
          (replaced-slot x a b e s (omega arith))

  -- the list stands behind the slots, from p on
  pub all-met : (us : List ℕ) (p : ℕ) (s : List ℕ) → x.slots + 4 * n ≤ p → x.slots + 4 * n ≤ length s
      → ((i : ℕ) → i < length us → word_at s (p + i) ≡ get_or us i 0) → ((e : ℕ) → mem e us ≡ true → e < n)
      → Met x n a b us s (slots_replaced x a b (length us) p s)
  unfolding slots_replaced
  all-met [] p s hp fit at low = record { long = refl; other = λ j g. refl; named = λ e l g. absurd (mem-nil e g); free = λ e l g. refl }
  all-met (e ∷ us) p s hp fit at low =
      let q : word_at s p ≡ e = ap (word_at s) (sym (add-zero p)) ∙ at 0 (omega arith) in
      let h = low e (mem-here e us) in
      let s₁ = slot_replaced x a b e s in
      let m = all-met us (p + 1) s₁ (omega arith) (omega (arith, length-replaced x a b e s))
      (λ i l. replaced-other x a b e s (p + 1 + i) (λ k. omega arith) ∙ ap (word_at s) (next i) ∙ at (suc i) (omega arith))
      (λ d g. low d (mem-there d e us g)) in
      subst (λ (u : ℕ). Met x n a b (e ∷ us) s (slots_replaced x a b (length us) (p + 1) (slot_replaced x a b u s))) (sym q)
      (met-more e us s (slots_replaced x a b (length us) (p + 1) s₁) h fit m)
    where
      next : (i : ℕ) → p + 1 + i ≡ p + suc i
      next i = omega arith
