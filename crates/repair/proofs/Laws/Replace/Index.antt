-- The index once b took a's place in the slots and a's chain went before b's: it is complete, and the listed edges stay. Assumes nothing.
use mathlib.Core.Path.{◌≡◌, refl, sym, ap, subst, ◌∙◌}
use mathlib.Core.Logic.{◌≢◌, ◌⊎◌, inl, inr}
use mathlib.Core.Bool.{Bool, cond, ◌&&◌}
use mathlib.Core.List.{List, map}
use Prim.Native.Nat.{ℕ, ◌+◌, ◌*◌, ◌/◌, ◌≤◌, ◌<◌}
use native.Mathlib.Omega.{arith}
use borrow.Author.Tests.{eqb-true, eqb-false}
use lib.Dec.{eqb}
use lib.ListN.{length, drop}
use lib.Seq.{get_or-drop}
use Rattle.mesh.specs.declared.element.Tet.{Tet}
use Rattle.mesh.specs.declared.star.Index.{Index}
use Rattle.mesh.specs.Words.{word_at}
use Rattle.mesh.specs.Feature.{onto}
use Rattle.mesh.specs.inside.Star.{gone_word, gone_tet, corner_at, chain_length, chain_of, set_chain, may_join, joined, Chains, Complete, Laid}
use Rattle.mesh.proofs.Laws.Complex.Sets.{split}
use Rattle.mesh.proofs.Laws.Star.Layout.{laid-yes}
use Rattle.mesh.proofs.Laws.Star.Chains.{chains-kept}
use Rattle.mesh.proofs.Laws.Star.Joining.{length-joined, joined-outside, replaced-complete}
use Rattle.mesh.proofs.Laws.Star.Calls.{tets-same}
use Rattle.repair.specs.Mesh.{has}
use Rattle.repair.specs.Improve.{image_of}
use Rattle.repair.specs.inside.Layout.{Room, edges_at, slots_in}
use Rattle.repair.specs.inside.improve.Collapse.{slot_after, slot_at}
use Rattle.repair.proofs.Laws.Replace.Writes.{slot-corners}
use Rattle.repair.proofs.Laws.Replace.Listed.{NoSlot}
use Rattle.repair.proofs.Laws.Replace.Star.{After, tets-mapped}
use Rattle.repair.proofs.Laws.Layout.{room-laid}

-- ---- corners

-- what holds of the four corners of a slot holds of each
four : (Q : ℕ → Type 0) (p q : ℕ) → Q q → Q (q + 1) → Q (q + 2) → Q (q + 3) → q ≤ p → p < q + 4 → Q p
four Q p q a b c d h g =
    elim (split (eqb p q)) [
      | inl e ↦ subst Q (sym (eqb-true p q e)) a
      | inr e₀ ↦ elim (split (eqb p (q + 1))) [
        | inl e ↦ subst Q (sym (eqb-true p (q + 1) e)) b
        | inr e₁ ↦ elim (split (eqb p (q + 2))) [
          | inl e ↦ subst Q (sym (eqb-true p (q + 2) e)) c
          | inr e₂ ↦ subst Q (sym (last (eqb-false p q e₀) (eqb-false p (q + 1) e₁) (eqb-false p (q + 2) e₂))) d
        ]
      ]
    ]
  where
    last : p ≢ q → p ≢ q + 1 → p ≢ q + 2 → p ≡ q + 3
    last a b c = omega arith

module _ (x : Index) (n a b : ℕ) (s t : List ℕ) (few : x.vertices ≤ 4096) (h : After x n a b s t) where
  -- a corner is no vertex now, or b where it was a, or what it was
  abbrev Put : ℕ → Type 0
  Put p = (x.vertices ≤ corner_at x t p) ⊎ (corner_at x t p ≡ cond (eqb (corner_at x s p) a) b (corner_at x s p))

  pub corner-after : (p : ℕ) → p < 4 * n → Put p
  unfolding slot_after
  corner-after p l =
      let e = p / 4 in
      let S = slot_at x s e in
      elim (split (has a S && has b S)) [
        | inl q ↦
            let z = sym (slot-corners x t e) ∙ h.slots e (omega arith) ∙ ap (λ (i : Bool). cond i gone_tet (image_of (onto a b) S)) q in
            let none : (u : ℕ) → u ≡ gone_word → x.vertices ≤ u = λ u g. omega arith in
            four Put p (4 * e) (inl (none (corner_at x t (4 * e)) (ap (λ (i : Tet). i.a) z))) (inl (none (corner_at x t (4 * e + 1)) (ap (λ (i : Tet). i.b) z)))
            (inl (none (corner_at x t (4 * e + 2)) (ap (λ (i : Tet). i.c) z))) (inl (none (corner_at x t (4 * e + 3)) (ap (λ (i : Tet). i.d) z))) (omega arith) (omega arith)
        | inr q ↦
            let z = sym (slot-corners x t e) ∙ h.slots e (omega arith) ∙ ap (λ (i : Bool). cond i gone_tet (image_of (onto a b) S)) q
            ∙ ap (image_of (onto a b)) (slot-corners x s e) in
            four Put p (4 * e) (inr (ap (λ (i : Tet). i.a) z)) (inr (ap (λ (i : Tet). i.b) z)) (inr (ap (λ (i : Tet). i.c) z)) (inr (ap (λ (i : Tet). i.d) z)) (omega arith) (omega arith)
      ]

-- ---- words outside the chains

-- the same index with its area right behind the lengths
abbrev narrow : Index → Index
narrow x = record {
  slots = x.slots;
  nexts = x.nexts;
  heads = x.heads;
  lengths = x.lengths;
  area = edges_at x;
  room = x.room;
  vertices = x.vertices;
}

narrow-laid : (x : Index) (m : ℕ) → Laid x m → Laid (narrow x) m
narrow-laid x m l = record {
  few = l.few;
  nexts = l.nexts;
  heads = l.heads;
  lengths = l.lengths;
  area = omega arith;
  end = omega arith;
}

narrow-chains : (x : Index) (s : List ℕ) (k : ℕ) → Chains x s k → Chains (narrow x) s k
unfolding chain_of chain_length
narrow-chains x s k c = record { whole = c.whole; once = c.once; below = c.below; apart = c.apart }

narrow-joined : (x : Index) (s : List ℕ) (b a : ℕ) → Laid x (length s) → joined (narrow x) b a s ≡ joined x b a s
unfolding joined may_join set_chain chain_length
narrow-joined x s b a l = rw (laid-yes x (length s) l, laid-yes (narrow x) (length s) (narrow-laid x (length s) l)) refl

-- words before the chains, and from the listed edges on, stay
pub joined-other : (x : Index) (s : List ℕ) (b a k : ℕ) → Laid x (length s) → b < x.vertices → a < x.vertices → a ≢ b → Chains x s k → k ≤ 4 * x.room
    → (j : ℕ) → (x.nexts ≤ j → edges_at x ≤ j) → word_at (joined x b a s) j ≡ word_at s j
joined-other x s b a k l hb ha ab c hk j o =
    ap (λ (u : List ℕ). word_at u j) (sym (narrow-joined x s b a l))
    ∙ joined-outside (narrow x) s b a k (narrow-laid x (length s) l) hb ha ab (narrow-chains x s k c) hk j o

-- ---- the index

module _ (x : Index) (n a b : ℕ) (s t : List ℕ) (r : Room x n (length s)) (ha : a < x.vertices) (hb : b < x.vertices) (ab : a ≢ b)
    (h : After x n a b s t) where
  laid-after : Laid x (length t)
  laid-after = subst (Laid x) (sym h.long) (room-laid r)

  words-after : (j : ℕ) → x.nexts ≤ j → j < x.area → word_at t j ≡ word_at s j
  words-after j f g = h.other j g (λ k. omega arith)

  few-entries : 4 * n ≤ 4 * x.room
  few-entries = omega (arith, r.room)

  pub joined-complete : Complete x s (4 * n) → Complete x (joined x b a t) (4 * n)
  joined-complete c =
      replaced-complete x s t b a (4 * n) laid-after hb ha ab few-entries words-after (corner-after x n a b s t r.few h) c

  chains-after : Complete x s (4 * n) → Chains x t (4 * n)
  chains-after c = chains-kept x s t laid-after words-after (4 * n) c.chains

  pub joined-long : Complete x s (4 * n) → length (joined x b a t) ≡ length s
  joined-long c = length-joined x t b a (4 * n) laid-after hb ha ab (chains-after c) few-entries ∙ h.long

  -- words of none of the slots, outside the chains and before the area stay
  pub joined-stays : Complete x s (4 * n) → (j : ℕ) → (x.nexts ≤ j → edges_at x ≤ j) → j < x.area → NoSlot x n j → word_at (joined x b a t) j ≡ word_at s j
  joined-stays c j o l k = joined-other x t b a (4 * n) laid-after hb ha ab (chains-after c) few-entries j o ∙ h.other j l k

  -- the slots are those of t
  pub joined-slots : Complete x s (4 * n) → slots_in x n (joined x b a t) ≡ map (slot_after a b) (slots_in x n s)
  joined-slots c =
      tets-same n (drop x.slots t) (drop x.slots (joined x b a t)) (λ j g.
      get_or-drop x.slots (joined x b a t) j 0
      ∙ joined-other x t b a (4 * n) laid-after hb ha ab (chains-after c) few-entries (x.slots + j) (λ k. omega arith)
      ∙ sym (get_or-drop x.slots t j 0))
      ∙ tets-mapped (slot_after a b) n (drop x.slots s) (drop x.slots t) h.slots
