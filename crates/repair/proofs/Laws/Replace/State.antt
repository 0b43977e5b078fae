-- The state that the work slice stands for once a vertex went into another. Assumes nothing.
use mathlib.Core.Path.{◌≡◌, refl, sym, ap, subst, ◌∙◌}
use mathlib.Core.Logic.{◌≢◌, inl, inr}
use mathlib.Core.Bool.{Bool, true, not, ◌||◌}
use mathlib.Core.List.{List, [], ◌∷◌}
use Prim.Native.Nat.{ℕ, ◌+◌, ◌*◌, ◌≤◌, ◌<◌}
use native.Mathlib.Omega.{arith}
use borrow.Author.Tests.{eqb-true, eqb-false}
use lib.Dec.{eqb}
use lib.ListN.{length, take, drop, set, length-set}
use lib.Seq.{get_or-drop, get_or-set_same, get_or-set_other}
use Rattle.geometry.specs.declared.bounds.Options.{Options}
use Rattle.mesh.specs.declared.element.Tet.{Tet}
use Rattle.mesh.specs.declared.star.Index.{Index}
use Rattle.mesh.specs.Words.{word_at}
use Rattle.mesh.specs.Complex.{mem, keep}
use Rattle.mesh.specs.Tests.{every}
use Rattle.mesh.specs.Element.{pair}
use Rattle.mesh.specs.inside.List.{gone}
use Rattle.mesh.specs.inside.Star.{Complete, star_list, starred, joined}
use Rattle.mesh.proofs.Laws.Complex.Sets.{split}
use Rattle.mesh.proofs.Laws.Parts.{part_same}
use Rattle.mesh.proofs.Laws.Star.Calls.{tets-same, written-complete}
use Rattle.repair.specs.Mesh.{Mesh}
use Rattle.repair.specs.Improve.{State, image, collapsed}
use Rattle.repair.specs.inside.Layout.{Room, Stands, flags_at, pairs_at, edges_at, slots_in, live_in, slot_ok}
use Rattle.repair.specs.inside.improve.Collapse.{ListsKept, slots_replaced}
use Rattle.repair.proofs.Laws.Replace.Slots.{all-ok, live-after, live_same}
use Rattle.repair.proofs.Laws.Replace.Star.{After, star-after}
use Rattle.repair.proofs.Laws.Layout.{room-laid}
use Rattle.repair.proofs.Laws.Replace.Index.{joined-complete, joined-long, joined-stays, joined-slots}

-- ---- a flag

module _ (x : Index) (n a : ℕ) (u : List ℕ) (r : Room x n (length u)) (ha : a < x.vertices) where
  -- words elsewhere stay
  flag-other : (j : ℕ) → j ≢ flags_at x + a → word_at (set u (flags_at x + a) 1) j ≡ word_at u j
  flag-other j e = get_or-set_other u (flags_at x + a) j 1 0 e

  flag-slots : slots_in x n (set u (flags_at x + a) 1) ≡ slots_in x n u
  flag-slots =
      tets-same n (drop x.slots u) (drop x.slots (set u (flags_at x + a) 1)) (λ j g.
      get_or-drop x.slots (set u (flags_at x + a) 1) j 0 ∙ flag-other (x.slots + j) (λ q. omega arith) ∙ sym (get_or-drop x.slots u j 0))

  flag-complete : Complete x u (4 * n) → Complete x (set u (flags_at x + a) 1) (4 * n)
  flag-complete c =
      written-complete x u n (room-laid r) (omega (arith, r.room)) c (set u (flags_at x + a) 1)
      (λ j g h. flag-other j (λ q. omega arith)) (λ p g. flag-other (x.slots + p) (λ q. omega arith))

-- ---- the parts of the state

module _ (o : Options) (m : Mesh) (x : Index) (n a : ℕ) (w u : List ℕ) (s : State) (st : Stands o m x n w s) (ha : a < x.vertices)
    (long : length u ≡ length w) (same : (j : ℕ) → j < pairs_at x → word_at u j ≡ word_at w j) where
  abbrev flagged : List ℕ
  flagged = set u (flags_at x + a) 1

  room_after : Room x n (length u)
  room_after = subst (Room x n) (sym long) st.room

  flags-after : (v : ℕ) → v < x.vertices → eqb (word_at flagged (flags_at x + v)) 0 ≡ not (mem v (a ∷ s.replaced))
  flags-after v h =
      elim (split (eqb v a)) [
        | inl e ↦
            let q = ap (λ (i : ℕ). word_at flagged (flags_at x + i)) (eqb-true v a e) ∙ get_or-set_same u (flags_at x + a) 1 0 fits in
            ap (λ (i : ℕ). eqb i 0) q ∙ sym (ap (λ (i : Bool). not (i || mem v s.replaced)) e)
        | inr e ↦
            let f = eqb-false v a e in
            let q = flag-other x n a u room_after ha (flags_at x + v) (λ g. f (omega arith)) ∙ same (flags_at x + v) (omega arith) in
            ap (λ (i : ℕ). eqb i 0) q ∙ st.flags v h ∙ sym (ap (λ (i : Bool). not (i || mem v s.replaced)) e)
      ]
    where
      fits : flags_at x + a < length u
      fits = omega (arith, room_after.long)

  groups-after : take (7 * x.vertices) flagged ≡ take (7 * x.vertices) w
  groups-after =
      part_same 0 flagged w 0 (7 * x.vertices) (length-set u (flags_at x + a) 1 ∙ long)
      (λ j f g. flag-other x n a u room_after ha j (λ q. omega arith) ∙ same j (omega arith))

  -- a flagged, with the elements E in the slots
  pub stands_after : (E : List Tet) → E ≡ live_in x n u → every (slot_ok x.vertices) (slots_in x n u) ≡ true → Complete x u (4 * n)
      → Stands o m x n flagged (record { elements = E; replaced = a ∷ s.replaced })
  unfolding live_in
  stands_after E e p c = record {
    room = subst (Room x n) (sym (length-set u (flags_at x + a) 1)) room_after;
    many = st.many;
    groups = groups-after ∙ st.groups;
    flags = flags-after;
    elements = e ∙ ap (keep (λ t. not (gone t))) (sym (flag-slots x n a u room_after ha));
    proper = ap (every (slot_ok x.vertices)) (flag-slots x n a u room_after ha) ∙ p;
    index = flag-complete x n a u room_after ha c;
  }

  -- the pairs and the listed edges are as they were, where they are in u
  pub kept-after : ((j : ℕ) → pairs_at x ≤ j → j < x.slots → word_at u j ≡ word_at w j) → ((j : ℕ) → edges_at x ≤ j → j < x.area → word_at u j ≡ word_at w j) → ListsKept x w flagged
  kept-after f g =
      record {
        long = length-set u (flags_at x + a) 1 ∙ long;
        pairs = λ j h l. flag-other x n a u room_after ha j (λ q. omega arith) ∙ f j h l;
        edges = λ j h l. flag-other x n a u room_after ha j (λ q. omega arith) ∙ g j h l;
      }

-- ---- a goes into b

module _ (o : Options) (m : Mesh) (x : Index) (n a b : ℕ) (w : List ℕ) (s : State) (st : Stands o m x n w s) (ha : a < x.vertices) where
  abbrev Went : List ℕ → Type 0
  Went v = ListsKept x w v × Stands o m x n v (record { elements = collapsed (pair a b ∷ []) s.elements; replaced = a ∷ s.replaced })

  -- into itself: it is flagged
  pub self-goes : (v : List ℕ) → a ≡ b → v ≡ set w (flags_at x + a) 1 → Went v
  unfolding live_in image
  self-goes v ab e =
      subst Went (sym e) (
        kept-after o m x n a w w s st ha refl (λ j h. refl) (λ j h l. refl) (λ j h l. refl),
        stands_after o m x n a w w s st ha refl (λ j h. refl) (collapsed (pair a b ∷ []) s.elements)
            (ap (collapsed (pair a b ∷ [])) st.elements ∙ live_same x.vertices (image (pair a b ∷ [])) own (slots_in x n w) st.proper)
            st.proper st.index,
      )
    where
      own : (u : ℕ) → image (pair a b ∷ []) u ≡ u
      own u = elim (split (eqb a u)) [ inl h ↦ rw h (sym ab ∙ eqb-true a u h) | inr h ↦ rw h refl ]

  -- into another vertex
  module _ (hb : b < x.vertices) (ab : a ≢ b) where
    joined-goes : (t : List ℕ) → After x n a b w t → Went (set (joined x b a t) (flags_at x + a) 1)
    unfolding live_in
    joined-goes t h =
        let r = st.room in
        let stay = joined-stays x n a b w t r ha hb ab h st.index in
        let long = joined-long x n a b w t r ha hb ab h st.index in
        let same : (j : ℕ) → j < pairs_at x → word_at (joined x b a t) j ≡ word_at w j = λ j g. stay j (λ k. omega arith) (omega arith) (λ k. omega arith) in
        let q = joined-slots x n a b w t r ha hb ab h st.index in (
          kept-after o m x n a w (joined x b a t) s st ha long same (λ j f g. stay j (λ k. omega arith) (omega arith) (λ k. omega arith)) (λ j f g. stay j (λ k. f) g (λ k. omega arith)),
          stands_after o m x n a w (joined x b a t) s st ha long same (collapsed (pair a b ∷ []) s.elements)
              (ap (collapsed (pair a b ∷ [])) st.elements ∙ sym (live-after x.vertices r.few a b ab ha hb (slots_in x n w) st.proper) ∙ ap (keep (λ i. not (gone i))) (sym q))
              (ap (every (slot_ok x.vertices)) q ∙ all-ok x.vertices r.few a b ab ha hb (slots_in x n w) st.proper)
              (joined-complete x n a b w t r ha hb ab h st.index),
        )

    -- as `replace_one` goes
    pub one-goes : (k : ℕ) (w₁ w₂ w₃ v : List ℕ) → k ≡ length (star_list x w a a) → w₁ ≡ starred x w a a → w₂ ≡ slots_replaced x a b k x.area w₁
        → w₃ ≡ joined x b a w₂ → v ≡ set w₃ (flags_at x + a) 1 → Went v
    one-goes k w₁ w₂ w₃ v ek e₁ e₂ e₃ e₄ =
        let t = slots_replaced x a b k x.area (starred x w a a) in
        let f : v ≡ set (joined x b a t) (flags_at x + a) 1 =
        e₄ ∙ ap (λ (l : List ℕ). set l (flags_at x + a) 1) (e₃ ∙ ap (joined x b a) (e₂ ∙ ap (slots_replaced x a b k x.area) e₁)) in
        subst Went (sym f) (joined-goes t (star-after x n a b w st.room st.index ha ab k ek))
