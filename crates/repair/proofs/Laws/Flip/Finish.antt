-- The end of `flip` on buffers: done with the new elements and surface, or refused and the buffers as they were. Assumes nothing.
use mathlib.Core.Path.{◌≡◌, refl, sym, ap, ◌∙◌}
use mathlib.Core.Logic.{inl, inr}
use mathlib.Core.Bool.{Bool, true, false, cond}
use mathlib.Core.List.{List}
use Prim.Native.Nat.{ℕ, ◌+◌, ◌*◌, ◌≤◌}
use native.Mathlib.Omega.{arith}
use borrow.Author.Tests.{eq-eqb, eqb-false}
use lib.Dec.{eqb}
use lib.ListN.{length, take, drop}
use Rattle.mesh.specs.declared.element.Tet.{Tet}
use Rattle.mesh.specs.declared.element.Triple.{Triple}
use Rattle.mesh.specs.Surface.{Outcome}
use Rattle.mesh.specs.Surface.{Surface, Refused}
use Rattle.mesh.specs.Element.{tets, triples, all_corners, all_vertices}
use Rattle.mesh.specs.Boundary.{boundary_number, boundary_of}
use Rattle.mesh.proofs.Laws.Complex.Sets.{split}
use Rattle.repair.specs.Step.{Answer}
use Rattle.repair.specs.Step as answers
use Rattle.repair.specs.Flip.{sorted_keys, same_triples, end_number}
use Rattle.repair.specs.Step.{over}
use Rattle.repair.specs.inside.flip.Finish.{SurfaceEnded, EndRoom, flip_end}
use Rattle.repair.proofs.Laws.Flip.Keys.{length-triples}
use Rattle.repair.proofs.Laws.Flip.Surface.{same-many, sorted-many}
use Rattle.repair.proofs.Laws.Flip.Ended.{good-end, bad-end}
use Rattle.mesh.proofs.Laws.Intake.Reads.{length-tets, elements-front}
use Rattle.mesh.proofs.Laws.Boundary.Whole.{refused-is, taken-zero}

-- a surface with the keys of those given has as many triples
same-triples : (fs : List Triple) (ts : List Tet) → end_number fs ts ≡ 0 → length (boundary_of ts) ≡ length fs
same-triples fs ts h =
    elim (split (eqb (boundary_number ts) 0)) [
      | inl q ↦ elim (split (same_triples (sorted_keys (boundary_of ts)) (sorted_keys fs))) [
        | inl y ↦ sym (sorted-many (boundary_of ts)) ∙ same-many (sorted_keys (boundary_of ts)) (sorted_keys fs) y ∙ sorted-many fs
        | inr y ↦ absurd (let z : cond false 0 23 ≡ 0 = ap (λ (b : Bool). cond b 0 23) (sym y) ∙ sym (good-end fs ts q) ∙ h in omega arith)
      ]
      | inr q ↦ absurd (eqb-false (boundary_number ts) 0 q (sym (bad-end fs ts q) ∙ h))
    ]

module _ {k g : ℕ} (e f s₀ : List ℕ) {s : List ℕ} {r : Outcome} (room : EndRoom k g (length e) (length f) (length s₀)) (E : SurfaceEnded k g f s₀ s r) where
  module _ {c : ℕ} (hc : r ≡ Surface c) where
    zero-end : end_number (triples g f) (tets k s₀) ≡ 0
    zero-end = (taken-zero (end_number (triples g f) (tets k s₀)) (length (boundary_of (tets k s₀))) c (sym hc ∙ E.answer)).0

    count-is : c ≡ length (boundary_of (tets k s₀))
    count-is = (taken-zero (end_number (triples g f) (tets k s₀)) (length (boundary_of (tets k s₀))) c (sym hc ∙ E.answer)).1

    many : c ≡ g
    many = count-is ∙ same-triples (triples g f) (tets k s₀) zero-end ∙ length-triples g f

    -- the surface fits
    pub commit-room : length s ≡ length s₀ → (k ≤ 65536) × (c ≤ 262144) × (4 * k + 3 * c ≤ length s) × (4 * k ≤ length e) × (3 * c ≤ length f)
    commit-room l =
        let n = many in let a = room.given in let b = room.area in let d = room.surface in
        (room.few, omega arith, omega arith, room.elements, omega arith)

    pub flip-done : (count nv : ℕ) (e' f' : List ℕ) → e' ≡ over (take (4 * k) s) e → f' ≡ over (take (3 * c) (drop (4 * k) s)) f
        → ◌≡◌ {A = Answer × List ℕ × List ℕ} (answers.Done count (record { vertices = nv; elements = k; triples = c }), e', f') (flip_end count nv (triples g f) (tets k s₀) e f)
    unfolding flip_end
    flip-done count nv e' f' he hf =
        let b = room.area in
        let z : eqb (end_number (triples g f) (tets k s₀)) 0 ≡ true = eq-eqb (end_number (triples g f) (tets k s₀)) 0 zero-end in
        let p : e' ≡ over (all_vertices (tets k s₀)) e = he ∙ ap (λ (u : List ℕ). over u e) (E.front zero-end ∙ sym (elements-front k s₀ (omega arith))) in
        let q : f' ≡ over (all_corners (boundary_of (tets k s₀))) f =
        hf ∙ ap (λ (u : List ℕ). over u f) (ap (λ (n : ℕ). take (3 * n) (drop (4 * k) s)) count-is ∙ E.surface zero-end) in
        let n : k ≡ length (tets k s₀) = sym (length-tets k s₀) in
        (λ i. (answers.Done count (record { vertices = nv; elements = n i; triples = count-is i }), p i, q i)) ∙ sym (rw z refl)

  pub flip-refused : {c : ℕ} → r ≡ Refused c → (count nv : ℕ) → ◌≡◌ {A = Answer × List ℕ × List ℕ} (answers.Refused c, e, f) (flip_end count nv (triples g f) (tets k s₀) e f)
  unfolding flip_end
  flip-refused {c} hc count nv =
      let h = refused-is (end_number (triples g f) (tets k s₀)) (length (boundary_of (tets k s₀))) c (sym hc ∙ E.answer) in
      ap (λ (i : ℕ). (answers.Refused i, e, f)) h.1 ∙ sym (rw h.0 refl)
