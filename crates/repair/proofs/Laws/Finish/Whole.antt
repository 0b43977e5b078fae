-- The end of `improve`, step by step: what `finish_improve` hands on to its calls, and that their answers together are `improve_end`. Assumes nothing.
use mathlib.Core.Path.{◌≡◌, refl, sym, ap, ◌∙◌}
use mathlib.Core.Bool.{true, false}
use mathlib.Core.List.{List, map}
use Prim.Native.Nat.{ℕ, ◌+◌, ◌*◌, ◌≤◌}
use native.Mathlib.Omega.{arith}
use borrow.Author.Tests.{ltb-true}
use lib.Dec.{eqb, ltb}
use lib.Ieee.{Float}
use lib.ListN.{length, take, drop, get_or, length-map}
use lib.Seq.{get_or-take}
use Rattle.geometry.specs.declared.point.Point.{Point}
use Rattle.mesh.specs.declared.element.Tet.{Tet}
use Rattle.mesh.specs.declared.intake.Sizes.{Sizes}
use Rattle.mesh.specs.Surface.{Outcome}
use Rattle.mesh.specs.Surface.{Surface, Refused}
use Rattle.mesh.specs.Words.{word_at, point_at, points_of, zero_point, point_in}
use Rattle.mesh.specs.Tests.{every}
use Rattle.mesh.specs.Element.{tets, all_corners, all_vertices}
use Rattle.mesh.specs.Boundary.{boundary_of}
use Rattle.mesh.specs.Surface.{answer}
use Rattle.mesh.proofs.Laws.Intake.Reads.{length-tets, elements-front, points-at}
use Rattle.mesh.proofs.Laws.Boundary.Faces.{map-known}
use Rattle.mesh.proofs.Laws.Boundary.Whole.{taken-zero, refused-is}
use Rattle.repair.specs.Step.{Answer}
use Rattle.repair.specs.Step as answers
use Rattle.repair.specs.Mesh.{Mesh}
use Rattle.repair.specs.Improve.{image_of, place_of, renumbered, end_number}
use Rattle.repair.specs.Step.{State, mesh_of, floats_of, over, sizes_of, committed}
use Rattle.repair.specs.inside.improve.Renumber.{improve_end, EndArea, EndBuffers, used_by, used_at, Renumbered, end_of, Ended, listed, moved_points, moved_masks, MeshRoom, moved_in}
use Rattle.repair.proofs.Laws.Finish.Ended.{end-few}
use Rattle.repair.proofs.Laws.Finish.Elements.{used-few, used-below, images-below}

-- ---- `improve_end` by its number

new_of : List Tet → List Tet
new_of ts = map (image_of (place_of (used_by ts))) ts

end_is : (m : Mesh) (ts : List Tet) → end_number (renumbered m ts) ≡ end_of (new_of ts)
unfolding renumbered end_number end_of new_of
end_is m ts = refl

end-made : (count : ℕ) (ts : List Tet) (s : State) → end_of (new_of ts) ≡ 0
    → ◌≡◌ {A = Answer × State} (answers.Done count (sizes_of (renumbered (mesh_of s) ts)), committed (renumbered (mesh_of s) ts) s) (improve_end count ts s)
unfolding improve_end
end-made count ts s h = rw (end_is (mesh_of s) ts ∙ h) refl

end_refused : (count : ℕ) (ts : List Tet) (s : State) → eqb (end_of (new_of ts)) 0 ≡ false → ◌≡◌ {A = Answer × State} (answers.Refused (end_of (new_of ts)), s) (improve_end count ts s)
unfolding improve_end
end_refused count ts s h = rw (end_is (mesh_of s) ts, h) refl

-- ---- after `renumber`

module _ {k nv : ℕ} {a₀ a₁ : List ℕ} {n : ℕ} (A : EndArea k nv a₀) (long₁ : length a₁ ≡ length a₀) (R : Renumbered k nv a₀ a₁ n) where
  new : List Tet
  new = new_of (tets k a₀)

  pub surface-room : (k ≤ 16384) × (nv ≤ 4096) × (112 * k + nv ≤ length a₁) × (every (λ v. ltb v nv) (all_vertices (tets k a₁)) ≡ true)
  surface-room = (
    A.elements,
    A.vertices,
    omega (arith, A.long, long₁),
    ap (λ (l : List Tet). every (λ v. ltb v nv) (all_vertices l)) R.elements ∙ images-below nv (tets k a₀) A.numbered,
  )

  vertices-few : n ≤ nv
  vertices-few = omega (arith, R.many, used-few nv (tets k a₀) A.numbered)

  module _ {a₂ : List ℕ} {r : Outcome} (long₂ : length a₂ ≡ length a₁) (E : Ended k nv a₁ a₂ r) where
    answer-is : r ≡ answer (end_of new) (length (boundary_of new))
    unfolding new new_of
    answer-is = E.answer ∙ ap (λ (l : List Tet). answer (end_of l) (length (boundary_of l))) R.elements

    listed-is : listed (used_at k nv) n a₂ ≡ used_by (tets k a₀)
    listed-is = ap (take n) E.behind ∙ R.used

    -- a surface of c triples
    module _ {c : ℕ} (hc : r ≡ Surface c) where
      zero-end : end_of new ≡ 0
      zero-end = (taken-zero (end_of new) (length (boundary_of new)) c (sym hc ∙ answer-is)).0

      count-is : c ≡ length (boundary_of new)
      count-is = (taken-zero (end_of new) (length (boundary_of new)) c (sym hc ∙ answer-is)).1

      end₁ : end_of (tets k a₁) ≡ 0
      unfolding new new_of
      end₁ = ap end_of R.elements ∙ zero-end

      words_are : take (4 * k) a₂ ≡ all_vertices new
      unfolding new new_of
      words_are = E.front end₁ ∙ sym (elements-front k a₁ (omega (arith, A.long, long₁))) ∙ ap all_vertices R.elements

      few-triples : c ≤ 4 * k
      unfolding new new_of
      few-triples = omega (arith, end-few k a₁ end₁, count-is, ap (λ (l : List Tet). length (boundary_of l)) R.elements)

      triples-are : take (3 * c) (drop (4 * k) a₂) ≡ all_corners (boundary_of new)
      unfolding new new_of
      triples-are =
          ap (λ (i : ℕ). take (3 * i) (drop (4 * k) a₂)) (count-is ∙ ap (λ (l : List Tet). length (boundary_of l)) (sym R.elements))
          ∙ E.surface end₁ ∙ ap (λ (l : List Tet). all_corners (boundary_of l)) R.elements

      -- the mesh that stands in the area fits into the buffers
      pub mesh-room : (z : Sizes) {p q m e t f : ℕ} → z.vertices ≡ nv → EndBuffers z k p q m e t f
          → MeshRoom (record { vertices = n; elements = k; triples = c }) nv p q m e t (length a₂) f
      mesh-room z hz B = record {
        vertices = vertices-few;
        parameters = omega (arith, vertices-few, hz, B.parameters);
        points = omega (arith, vertices-few, hz, B.points);
        masks = omega (arith, vertices-few, hz, B.masks);
        elements = omega (arith, B.few, B.elements);
        triples = few-triples;
        surface = omega (arith, B.few, few-triples, B.surface);
        area = omega (arith, A.long, long₁, long₂);
        floats = omega (arith, vertices-few, hz, B.floats);
      }

      points-are : (s : List Float) → moved_points (listed (used_at k nv) n a₂) s ≡ over (floats_of (map (point_at (points_of nv s)) (used_by (tets k a₀)))) s
      points-are s =
          ap (λ (ps : List Point). over (floats_of ps) s)
          (ap (map (point_in s)) listed-is
          ∙ map-known (λ v. ltb v nv) (point_in s) (point_at (points_of nv s)) (λ v h. sym (points-at nv s v zero_point (ltb-true v nv h))) (used_by (tets k a₀)) (used-below nv (tets k a₀) A.numbered))

      masks-are : (s : List ℕ) → moved_masks (listed (used_at k nv) n a₂) s ≡ over (map (λ v. get_or (take nv s) v 0) (used_by (tets k a₀))) s
      masks-are s =
          ap (λ (ms : List ℕ). over ms s)
          (ap (map (word_at s)) listed-is
          ∙ map-known (λ v. ltb v nv) (word_at s) (λ v. get_or (take nv s) v 0) (λ v h. sym (get_or-take nv s v 0 (ltb-true v nv h))) (used_by (tets k a₀)) (used-below nv (tets k a₀) A.numbered))

      sizes-are : (s : State) → ◌≡◌ {A = Sizes} (record { vertices = n; elements = k; triples = c }) (sizes_of (renumbered (mesh_of s) (tets k a₀)))
      unfolding renumbered new new_of
      sizes-are s =
          let vs = used_by (tets k a₀) in
          let a : n ≡ length (map (point_at (mesh_of s).points) vs) = R.many ∙ sym (length-map vs (point_at (mesh_of s).points)) in
          let b : k ≡ length new = sym (length-map (tets k a₀) (image_of (place_of vs)) ∙ length-tets k a₀) in
          λ i. record { vertices = a i; elements = b i; triples = count-is i }

      -- the buffers with that mesh in them
      moved-is : (s : State) → s.sizes.vertices ≡ nv
          → moved_in (record { vertices = n; elements = k; triples = c }) nv a₂ s ≡ committed (renumbered (mesh_of s) (tets k a₀)) s
      unfolding moved_in committed renumbered mesh_of new new_of
      moved-is s hs =
          let vs = used_by (tets k a₀) in
          let at : (l : List Float) → moved_points (listed (used_at k nv) n a₂) l ≡ over (floats_of (map (point_at (points_of s.sizes.vertices l)) vs)) l =
          λ l. points-are l ∙ ap (λ (j : ℕ). over (floats_of (map (point_at (points_of j l)) vs)) l) (sym hs) in
          let p = at s.parameters in
          let q = at s.points in
          let m = masks-are s.masks ∙ ap (λ (j : ℕ). over (map (λ v. get_or (take j s.masks) v 0) vs) s.masks) (sym hs) in
          let e = ap (λ (l : List ℕ). over l s.elements) words_are in
          let t = ap (λ (l : List ℕ). over l s.surface) triples-are in
          let z = sizes-are s in
          λ i. record { parameters = p i; points = q i; masks = m i; elements = e i; surface = t i; sizes = z i }

      -- done, by what `commit` leaves
      pub done-is : (count : ℕ) (s : State) → s.sizes.vertices ≡ nv → {out : State}
          → out ≡ moved_in (record { vertices = n; elements = k; triples = c }) nv a₂ (record { parameters = s.parameters; points = s.points; masks = s.masks; elements = s.elements; surface = s.surface; sizes = record { vertices = n; elements = k; triples = c } })
          → ◌≡◌ {A = Answer × State} (answers.Done count (record { vertices = n; elements = k; triples = c }), out) (improve_end count (tets k a₀) s)
      unfolding moved_in new
      done-is count s hs h =
          let z = sizes-are s in
          let o = h ∙ moved-is s hs in
          (λ i. (answers.Done count (z i), o i)) ∙ end-made count (tets k a₀) s zero-end

    -- refused with a number
    pub refused_end : {c : ℕ} → r ≡ Refused c → (count : ℕ) (s : State) → ◌≡◌ {A = Answer × State} (answers.Refused c, s) (improve_end count (tets k a₀) s)
    unfolding new
    refused_end {c} hc count s =
        let g = refused-is (end_of new) (length (boundary_of new)) c (sym hc ∙ answer-is) in
        ap (λ (i : ℕ). (answers.Refused i, s)) g.1 ∙ end_refused count (tets k a₀) s g.0
