-- What writing a slot does to the words of a slice and to its slots. Assumes nothing.
use mathlib.Core.Path.{◌≡◌, refl, sym, ap, ◌∙◌}
use mathlib.Core.Logic.{◌≢◌, inl, inr}
use mathlib.Core.List.{List}
use Prim.Native.Nat.{ℕ, ◌+◌, ◌*◌, ◌≤◌, ◌<◌}
use native.Mathlib.Omega.{arith}
use lib.ListN.{length, set, length-set}
use lib.Seq.{get_or-set_same, get_or-set_other, get_or-drop}
use Rattle.mesh.specs.declared.element.Tet.{Tet}
use Rattle.mesh.specs.declared.star.Index.{Index}
use Rattle.mesh.specs.Words.{word_at}
use Rattle.mesh.specs.Element.{tet}
use Rattle.mesh.specs.inside.Intake.{tet_at}
use Rattle.mesh.specs.inside.Star.{corner_at}
use Rattle.mesh.proofs.Laws.Parts.{side}
use Rattle.repair.specs.inside.improve.Collapse.{slot_after, slot_at, put_slot, slot_replaced}

-- ---- four words

pub length-put : (w : List ℕ) (p : ℕ) (t : Tet) → length (put_slot w p t) ≡ length w
unfolding put_slot
length-put w p t = simp length-set

module _ (w : List ℕ) (p : ℕ) (t : Tet) where
  abbrev w₁ : List ℕ
  w₁ = set w p t.a

  abbrev w₂ : List ℕ
  w₂ = set w₁ (p + 1) t.b

  abbrev w₃ : List ℕ
  w₃ = set w₂ (p + 2) t.c

  -- the other words stay
  pub put_other : (j : ℕ) → (p ≤ j → p + 4 ≤ j) → word_at (put_slot w p t) j ≡ word_at w j
  unfolding put_slot
  put_other j h =
      get_or-set_other w₃ (p + 3) j t.d 0 (λ e. let g = h (omega arith) in omega arith)
      ∙ get_or-set_other w₂ (p + 2) j t.c 0 (λ e. let g = h (omega arith) in omega arith)
      ∙ get_or-set_other w₁ (p + 1) j t.b 0 (λ e. let g = h (omega arith) in omega arith)
      ∙ get_or-set_other w p j t.a 0 (λ e. let g = h (omega arith) in omega arith)

  module _ (fit : p + 4 ≤ length w) where
    pub put_a : word_at (put_slot w p t) p ≡ t.a
    unfolding put_slot
    put_a =
        get_or-set_other w₃ (p + 3) p t.d 0 (λ e. omega arith)
        ∙ get_or-set_other w₂ (p + 2) p t.c 0 (λ e. omega arith)
        ∙ get_or-set_other w₁ (p + 1) p t.b 0 (λ e. omega arith)
        ∙ get_or-set_same w p t.a 0 (omega arith)

    pub put_b : word_at (put_slot w p t) (p + 1) ≡ t.b
    unfolding put_slot
    put_b =
        get_or-set_other w₃ (p + 3) (p + 1) t.d 0 (λ e. omega arith)
        ∙ get_or-set_other w₂ (p + 2) (p + 1) t.c 0 (λ e. omega arith)
        ∙ get_or-set_same w₁ (p + 1) t.b 0 (omega (arith, length-set w p t.a))

    pub put-c : word_at (put_slot w p t) (p + 2) ≡ t.c
    unfolding put_slot
    put-c =
        get_or-set_other w₃ (p + 3) (p + 2) t.d 0 (λ e. omega arith)
        ∙ get_or-set_same w₂ (p + 2) t.c 0 (omega (arith, length-set w p t.a, length-set w₁ (p + 1) t.b))

    pub put-d : word_at (put_slot w p t) (p + 3) ≡ t.d
    unfolding put_slot
    put-d =
        get_or-set_same w₃ (p + 3) t.d 0
        (omega (arith, length-set w p t.a, length-set w₁ (p + 1) t.b, length-set w₂ (p + 2) t.c))

-- ---- slots

-- the slot e has the corners from 4 e on
pub slot-corners : (x : Index) (w : List ℕ) (e : ℕ)
    → slot_at x w e ≡ tet (corner_at x w (4 * e)) (corner_at x w (4 * e + 1)) (corner_at x w (4 * e + 2)) (corner_at x w (4 * e + 3))
unfolding tet_at
slot-corners x w e =
    rw (
      get_or-drop x.slots w (4 * e) 0,
      get_or-drop x.slots w (4 * e + 1) 0,
      get_or-drop x.slots w (4 * e + 2) 0,
      get_or-drop x.slots w (4 * e + 3) 0,
    ) refl

-- a slot is the same where its four words are
pub slot_same : (x : Index) (w u : List ℕ) (e : ℕ) → ((p : ℕ) → 4 * e ≤ p → p < 4 * e + 4 → corner_at x u p ≡ corner_at x w p) → slot_at x u e ≡ slot_at x w e
slot_same x w u e h =
    slot-corners x u e
    ∙ rw (
      h (4 * e) (omega arith) (omega arith),
      h (4 * e + 1) (omega arith) (omega arith),
      h (4 * e + 2) (omega arith) (omega arith),
      h (4 * e + 3) (omega arith) (omega arith),
    ) refl
    ∙ sym (slot-corners x w e)

module _ (x : Index) (a b e : ℕ) (w : List ℕ) where
  pub length-replaced : length (slot_replaced x a b e w) ≡ length w
  unfolding slot_replaced
  length-replaced = length-put w (x.slots + 4 * e) (slot_after a b (slot_at x w e))

  -- words outside the slot stay
  pub replaced-other : (j : ℕ) → (x.slots + 4 * e ≤ j → x.slots + 4 * e + 4 ≤ j) → word_at (slot_replaced x a b e w) j ≡ word_at w j
  unfolding slot_replaced
  replaced-other j h = put_other w (x.slots + 4 * e) (slot_after a b (slot_at x w e)) j h

  -- and so do the other slots
  pub replaced-slots : (d : ℕ) → d ≢ e → slot_at x (slot_replaced x a b e w) d ≡ slot_at x w d
  replaced-slots d n = slot_same x w (slot_replaced x a b e w) d (λ p h g. replaced-other (x.slots + p) (λ k. apart d e p n h g (omega arith)))
    where
      apart : (d e p : ℕ) → d ≢ e → 4 * d ≤ p → p < 4 * d + 4 → 4 * e ≤ p → x.slots + 4 * e + 4 ≤ x.slots + p
      apart d e p n h g k = elim (side e d) [ inl l ↦ omega arith | inr l ↦ absurd (n (omega arith)) ]

  -- the slot is what it becomes
  pub replaced-slot : x.slots + 4 * e + 4 ≤ length w → slot_at x (slot_replaced x a b e w) e ≡ slot_after a b (slot_at x w e)
  unfolding slot_replaced
  replaced-slot fit =
      let p = x.slots + 4 * e in
      let t = slot_after a b (slot_at x w e) in
      let q₁ : x.slots + (4 * e + 1) ≡ p + 1 = omega arith in
      let q₂ : x.slots + (4 * e + 2) ≡ p + 2 = omega arith in
      let q₃ : x.slots + (4 * e + 3) ≡ p + 3 = omega arith in
      slot-corners x (put_slot w p t) e
      ∙ rw (put_a w p t fit, ap (word_at (put_slot w p t)) q₁ ∙ put_b w p t fit, ap (word_at (put_slot w p t)) q₂ ∙ put-c w p t fit, ap (word_at (put_slot w p t)) q₃ ∙ put-d w p t fit) refl
