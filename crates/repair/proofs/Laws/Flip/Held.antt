-- Slots of `flip` by number, in the work slice: the words of a slot are what the state has there, and an element there has four different
-- vertices. Assumes nothing.
use mathlib.Core.Path.{◌≡◌, refl, sym, ap, subst, ◌∙◌}
use mathlib.Core.Logic.{inl, inr}
use mathlib.Core.Bool.{true, false}
use mathlib.Core.List.{List, map, Memᴰ}
use mathlib.Core.Option.{Option, none, some}
use Prim.Native.Nat.{ℕ, ◌+◌, ◌*◌, ◌<◌}
use native.Mathlib.Omega.{arith}
use lib.ListN.{length, get_or, drop, get_or-map, get_or-eq_default}
use Rattle.mesh.specs.declared.element.Tet.{Tet}
use Rattle.mesh.specs.declared.star.Index.{Index}
use Rattle.mesh.specs.Complex.{mem}
use Rattle.mesh.specs.Intake.{well_numbered}
use Rattle.mesh.specs.inside.List.{gone}
use Rattle.mesh.specs.inside.Star.{gone_tet}
use Rattle.mesh.specs.Words.{numbers}
use Rattle.mesh.specs.inside.About as About
use Rattle.mesh.proofs.Laws.Parts.{side}
use Rattle.mesh.proofs.Laws.Complex.Sets.{split, and-snd, clash, keep-mem}
use Rattle.mesh.proofs.Laws.Intake.Reads.{tets-at, length-tets}
use Rattle.mesh.proofs.Laws.Link.Members.{kept-elim, every-elim}
use Rattle.mesh.proofs.Laws.Manifold.Corners.{every-get_or}
use Rattle.repair.specs.Flip.{State, slot_has, live, numbers_with}
use Rattle.repair.specs.inside.Layout.{slot_ok, slots_in}
use Rattle.repair.specs.inside.improve.Collapse.{slot_at}
use Rattle.repair.specs.inside.flip.Layout.{SlotsStand, slot_of}
use Rattle.repair.proofs.Laws.Gain.Tallies.{element_at}
use Rattle.repair.proofs.Laws.Replace.Slots.{ok-cases}
use Rattle.repair.proofs.Laws.Replace.Writes.{slot-corners}
use Rattle.repair.proofs.Laws.Flip.Layout.{slots-many, stands_live, slot-none, slot-some}

-- the four words of the slot e
pub slot_is : (x : Index) (w : List ℕ) (e : ℕ) {r : Tet} → r ≡ element_at w (x.slots + 4 * e) → r ≡ slot_at x w e
slot_is x w e h =
    let b : x.slots + (4 * e + 1) ≡ x.slots + 4 * e + 1 = omega arith in
    let c : x.slots + (4 * e + 2) ≡ x.slots + 4 * e + 2 = omega arith in
    let d : x.slots + (4 * e + 3) ≡ x.slots + 4 * e + 3 = omega arith in
    h ∙ sym (slot-corners x w e ∙ rw (b, c, d) refl)

-- an element in a slot has four different vertices
pub slot-well : (nv : ℕ) (t : Tet) → slot_ok nv t ≡ true → gone t ≡ false → well_numbered nv t ≡ true
slot-well nv t h g = elim (ok-cases nv t h) [ inl e ↦ absurd (clash (ap gone e) g) | inr k ↦ k ]

-- ---- a slot with σ

module _ (σ : List ℕ) where
  -- the slot of a number with σ has it
  number-has : (ss : List (Option Tet)) (i : ℕ) → mem i (numbers_with σ ss) ≡ true → slot_has σ (get_or ss i none) ≡ true
  number-has ss i m = and-snd (mem i (numbers 0 (length ss))) (slot_has σ (get_or ss i none)) (sym (keep-mem (λ j. slot_has σ (get_or ss j none)) (numbers 0 (length ss)) i) ∙ m)

  -- so that there is such a slot
  has-below : (ss : List (Option Tet)) (i : ℕ) → slot_has σ (get_or ss i none) ≡ true → i < length ss
  has-below ss i h = elim (side i (length ss)) [ inl g ↦ g | inr g ↦ absurd (clash h (ap (slot_has σ) (get_or-eq_default ss none g))) ]

  -- and something in it
  has_some : (t : Tet) → slot_has σ (slot_of t) ≡ true → slot_of t ≡ some t
  has_some t h = elim (split (gone t)) [ inl g ↦ absurd (clash h (ap (slot_has σ) (slot-none t g))) | inr g ↦ slot-some t g ]

-- ---- in the work slice

module _ {x : Index} {n c : ℕ} {w : List ℕ} {s : State} (z : SlotsStand x n c w s) where
  -- what is read from a slot
  pub slot_read : (i : ℕ) → i < c → {r : Tet} → r ≡ slot_at x w i → (get_or s.slots i none ≡ slot_of r) × (slot_ok x.vertices r ≡ true)
  slot_read i h {r} e =
      let q : get_or (slots_in x c w) i gone_tet ≡ r = tets-at c (drop x.slots w) i gone_tet h ∙ sym e in
      let l = length-tets c (drop x.slots w) in (
        ap (λ (m : List (Option Tet)). get_or m i none) z.slots ∙ ap (get_or (map slot_of (slots_in x c w)) i) (sym (slot-none gone_tet refl)) ∙ get_or-map slot_of (slots_in x c w) i gone_tet ∙ ap slot_of q,
        subst (λ (t : Tet). slot_ok x.vertices t ≡ true) q (every-get_or (slot_ok x.vertices) (slots_in x c w) i gone_tet z.proper (omega arith)),
      )

  -- the element of a number with σ
  pub number-held : (σ : List ℕ) (i : ℕ) → mem i (numbers_with σ s.slots) ≡ true → get_or s.slots i none ≡ some (slot_at x w i)
  number-held σ i m =
      let g = number-has σ s.slots i m in
      let q = (slot_read i (let l = has-below σ s.slots i g in let k = slots-many z in omega arith) refl).0 in
      q ∙ has_some σ (slot_at x w i) (sym (ap (slot_has σ) q) ∙ g)

  -- a live element has four different vertices
  pub live-well : (t : Tet) → Memᴰ t (live s.slots) → well_numbered x.vertices t ≡ true
  live-well t m =
      let k = kept-elim About.live (slots_in x c w) (subst (Memᴰ t) (stands_live z) m) in
      elim (ok-cases x.vertices t (every-elim (slot_ok x.vertices) (slots_in x c w) z.proper k.0)) [
        | inl g ↦ absurd (clash (sym (ap About.live g) ∙ k.1) refl)
        | inr g ↦ g
      ]
