-- The new mesh in the buffers: what `commit` leaves in each, together. Assumes nothing.
use mathlib.Core.Path.{◌≡◌, ap, ◌∙◌}
use mathlib.Core.List.{List}
use Prim.Native.Nat.{ℕ, ◌+◌, ◌-◌, ◌*◌, ◌≤◌}
use native.Mathlib.Omega.{arith}
use lib.Ieee.{Float}
use lib.ListN.{length, take, drop, length-drop}
use lib.Seq.{take-take, length-take-le}
use Rattle.std.proofs.lemmas.List.{drop-take}
use Rattle.mesh.specs.declared.intake.Sizes.{Sizes}
use Rattle.mesh.specs.Words.{copied}
use Rattle.geometry.specs.Float.{zero64}
use Rattle.repair.specs.Step.{State, over}
use Rattle.repair.specs.inside.improve.Renumber.{values_of, used_at, listed, moved_points, moved_masks, MeshRoom, moved_in}
use Rattle.repair.proofs.Laws.Finish.Moved.{copied-over, points-moved, masks-moved}

module _ (z : Sizes) (nv : ℕ) (a front : List ℕ) (s : State) {f : ℕ}
    (R : MeshRoom z nv (length s.parameters) (length s.points) (length s.masks) (length s.elements) (length s.surface) (length a) f)
    (is : front ≡ take (used_at z.elements nv + nv) a) where
  abbrev used : ℕ
  used = used_at z.elements nv

  -- a part of the front
  part-is : (i n : ℕ) → i + n ≤ used + nv → take n (drop i front) ≡ take n (drop i a)
  part-is i n h =
      let m = used + nv - i in
      let e : used + nv ≡ i + m = omega arith in
      ap (λ (u : List ℕ). take n (drop i u)) (is ∙ ap (λ (k : ℕ). take k a) e) ∙ ap (take n) (drop-take i m a) ∙ take-take n m (drop i a) (omega arith)

  -- the vertices
  abbrev vs : List ℕ
  vs = take (used + z.vertices - used) (drop used front)

  vs-are : vs ≡ listed used z.vertices a
  vs-are =
      let e : used + z.vertices - used ≡ z.vertices = omega arith in
      ap (λ (k : ℕ). take k (drop used front)) e ∙ part-is used z.vertices (omega (arith, R.vertices))

  pub many : length vs ≡ z.vertices
  many = ap length vs-are ∙ length-take-le z.vertices (drop used a) (omega (arith, R.area, R.vertices, length-drop used a))

  pub all_moved : {p q : List Float} {m e t : List ℕ}
      → p ≡ over (values_of zero64 s.parameters 3 vs) s.parameters
      → q ≡ over (values_of zero64 s.points 3 vs) s.points
      → m ≡ over (values_of 0 s.masks 1 vs) s.masks
      → e ≡ copied front 0 s.elements 0 (4 * z.elements)
      → t ≡ copied front (4 * z.elements) s.surface 0 (3 * z.triples)
      → ◌≡◌ {A = State} (record { parameters = p; points = q; masks = m; elements = e; surface = t; sizes = z }) (moved_in z nv a s)
  unfolding moved_in
  all_moved hp hq hm he ht =
      let k = 4 * z.elements in
      let n = 3 * z.triples in
      let l = ap length is ∙ length-take-le (used + nv) a (omega (arith, R.area)) in
      let p' = points-moved vs s.parameters hp ∙ ap (λ (v : List ℕ). moved_points v s.parameters) vs-are in
      let q' = points-moved vs s.points hq ∙ ap (λ (v : List ℕ). moved_points v s.points) vs-are in
      let m' = masks-moved vs s.masks hm ∙ ap (λ (v : List ℕ). moved_masks v s.masks) vs-are in
      let e' = he ∙ copied-over front s.elements (take k a) 0 k (omega (arith, l)) R.elements (part-is 0 k (omega arith)) in
      let t' = ht ∙ copied-over front s.surface (take n (drop k a)) k n (omega (arith, R.triples, l)) R.surface (part-is k n (omega (arith, R.triples))) in
      λ i. record { parameters = p' i; points = q' i; masks = m' i; elements = e' i; surface = t' i; sizes = z }
