-- The turns of the loops of src/improve/collapse.rt. Assumes nothing.
use mathlib.Core.Path.{◌≡◌, refl, sym, ap, subst, ◌∙◌}
use mathlib.Core.Logic.{inl, inr}
use mathlib.Core.List.{List, [], ◌∷◌, ◌++◌, map}
use Prim.Native.Nat.{ℕ, suc, ◌+◌, ◌-◌, ◌*◌, ◌≤◌, ◌<◌}
use native.Mathlib.Omega.{arith}
use lib.ListN.{length, drop}
use lib.Seq.{get_or-drop, drop-length}
use Rattle.mesh.specs.declared.element.Pair.{Pair}
use Rattle.mesh.specs.declared.star.Index.{Index}
use Rattle.mesh.specs.Words.{word_at}
use Rattle.mesh.specs.Element.{pair}
use Rattle.mesh.specs.inside.Star.{star_list, star_room, slots_about}
use Rattle.mesh.proofs.Laws.Bools.{split}
use Rattle.mesh.proofs.Laws.Star.Distinct.{length-distinct}
use Rattle.mesh.proofs.Laws.Star.Answers.{about-short}
use Rattle.repair.specs.Improve.{image, collapsed}
use Rattle.repair.specs.inside.Layout.{Room, Pairs, Stands, live_in, slots_in, pairs_at, pairs_in}
use Rattle.repair.specs.inside.improve.Collapse.{slot_replaced, slots_replaced, ListsKept, Replaces, Goes, AllGo}
use Rattle.repair.proofs.Laws.Replace.Slots.{live_same}
use Rattle.repair.proofs.Laws.Layout.{room-laid}
use Rattle.repair.proofs.Laws.Replace.Pairs.{collapsed-more, pair-here, pairs-drop, pairs-at, length_pairs}

-- ---- the slots that a list names

-- `star` lists no more than the area has room for
pub star-fits : (x : Index) (s : List ℕ) (v w : ℕ) → x.area ≤ length s → x.area + length (star_list x s v w) ≤ length s
unfolding star_list
star-fits x s v w h =
    elim (split (star_room x s v w)) [
      | inl e ↦ rw e (let f = about-short x s v w e in omega (arith, length-distinct (slots_about x s v w)))
      | inr e ↦ rw e (omega arith)
    ]

-- what `replace_in_slots` asks for, for the list of `star`
pub slots-room : (x : Index) (n a k m : ℕ) (w : List ℕ) → Room x n (length w) → m ≡ length w → k ≡ length (star_list x w a a)
    → (x.slots ≤ 40960) × (x.slots ≤ m) × (x.area + k ≤ m)
slots-room x n a k m w r e f =
    let l = room-laid r in
    let g = star-fits x w a a l.end in
    (omega (arith, r.few, r.slots), omega (arith, l.nexts, l.heads, l.lengths, l.area, l.end), omega arith)

pub slots-start : (x : Index) (a b p k : ℕ) (w : List ℕ) → slots_replaced x a b (p + k - p) p w ≡ slots_replaced x a b k p w
slots-start x a b p k w = ap (λ (i : ℕ). slots_replaced x a b i p w) (omega arith)

module _ (x : Index) (a b e q : ℕ) (w z : List ℕ) (h : slots_replaced x a b (e - q) q w ≡ z) where
  pub slots-turn : q < e → (s : ℕ) (w₁ : List ℕ) → s ≡ word_at w q → w₁ ≡ slot_replaced x a b s w → slots_replaced x a b (e - (q + 1)) (q + 1) w₁ ≡ z
  unfolding slots_replaced
  slots-turn l s w₁ f g =
      let r : e - q ≡ suc (e - (q + 1)) = omega arith in
      ap (slots_replaced x a b (e - (q + 1)) (q + 1)) (g ∙ ap (λ (u : ℕ). slot_replaced x a b u w) f) ∙ (rw r at h)

  pub slots-done : e ≤ q → w ≡ z
  unfolding slots_replaced
  slots-done l = let r : e - q ≡ 0 = omega arith in (rw r at h)

-- ---- pairs

module _ (x : Index) (n k : ℕ) (v : List ℕ) where
  -- w: the pairs from i on went
  abbrev pub Left : List ℕ → ℕ → Type 0
  Left w i = Pairs x.vertices (pairs_in x k v) → Replaces x n (drop i (pairs_in x k v)) v w

  -- none yet
  pub left-start : Left v k
  unfolding live_in image
  left-start p o m s st =
      subst (λ (es : List Pair). ListsKept x v v × Stands o m x n v (record { elements = collapsed es s.elements; replaced = map (λ e. e.a) es ++ s.replaced }))
      (sym (ap (λ (i : ℕ). drop i (pairs_in x k v)) (sym (length_pairs k (drop (pairs_at x) v))) ∙ drop-length (pairs_in x k v))) (
        record { long = refl; pairs = λ j f g. refl; edges = λ j f g. refl },
        record {
          room = st.room;
          many = st.many;
          groups = st.groups;
          flags = st.flags;
          elements = ap (collapsed []) st.elements ∙ live_same x.vertices (image []) (λ u. refl) (slots_in x n v) st.proper;
          proper = st.proper;
          index = st.index;
        },
      )

  module _ (w : List ℕ) (i : ℕ) (few : k ≤ x.vertices) (h : Left w i) where
    -- the pair before them goes
    pub left-turn : 0 < i → i ≤ k → (a b : ℕ) (u : List ℕ) → a ≡ word_at w (pairs_at x + 2 * (i - 1)) → b ≡ word_at w (pairs_at x + 2 * (i - 1) + 1)
        → Goes x n a b w u → Left u (i - 1)
    left-turn l t a b u ea eb g p o m s st =
        let es = pairs_in x k v in
        let q = h p o m s st in
        let f : suc (i - 1) ≡ i = omega arith in
        let e₀ = st.room.slots in
        let da : word_at (drop (pairs_at x) v) (2 * (i - 1)) ≡ a = get_or-drop (pairs_at x) v (2 * (i - 1)) 0
        ∙ sym (q.0.pairs (pairs_at x + 2 * (i - 1)) (omega arith) (omega arith)) ∙ sym ea in
        let r : pairs_at x + (2 * (i - 1) + 1) ≡ pairs_at x + 2 * (i - 1) + 1 = omega arith in
        let db : word_at (drop (pairs_at x) v) (2 * (i - 1) + 1) ≡ b = get_or-drop (pairs_at x) v (2 * (i - 1) + 1) 0
        ∙ ap (word_at v) r ∙ sym (q.0.pairs (pairs_at x + 2 * (i - 1) + 1) (omega arith) (omega arith)) ∙ sym eb in
        let d : drop (i - 1) es ≡ pair a b ∷ drop i es = pairs-at k (drop (pairs_at x) v) (i - 1) (omega arith)
        ∙ rw (da, db, f) refl in
        let pd : Pairs x.vertices (pair a b ∷ drop i es) = subst (Pairs x.vertices) d (pairs-drop x.vertices (i - 1) es p) in
        let y = pd.below (pair a b) (pair-here (pair a b) (drop i es)) in
        let z = g y.0 y.1 o m (record { elements = collapsed (drop i es) s.elements; replaced = map (λ e. e.a) (drop i es) ++ s.replaced }) q.1 in
        subst (λ (fs : List Pair). ListsKept x v u × Stands o m x n u (record { elements = collapsed fs s.elements; replaced = map (λ e. e.a) fs ++ s.replaced })) (sym d) (
          record {
            long = z.0.long ∙ q.0.long;
            pairs = λ j c₁ c₂. z.0.pairs j c₁ c₂ ∙ q.0.pairs j c₁ c₂;
            edges = λ j c₁ c₂. z.0.edges j c₁ c₂ ∙ q.0.edges j c₁ c₂;
          },
          subst (λ ts. Stands o m x n u (record { elements = ts; replaced = a ∷ map (λ e. e.a) (drop i es) ++ s.replaced }))
              (sym (collapsed-more (pair a b) (drop i es) pd.firsts pd.apart s.elements)) z.1,
        )

    -- all of them went
    pub left-done : i ≤ 0 → AllGo x n k v w
    left-done l = let f : i ≡ 0 = omega arith in subst (Left w) f h
