-- The end of `flip`: where at most two elements have a triangle no key has three faces, so that `flip` never gives 16. Assumes nothing.
use mathlib.Core.Path.{◌≡◌, refl}
use mathlib.Core.Logic.{inl, inr}
use mathlib.Core.Bool.{Bool, true, false, cond}
use mathlib.Core.List.{List, [], ◌∷◌, map, Memᴰ}
use Prim.Native.Nat.{ℕ, ◌≤◌}
use native.Mathlib.Omega.{arith}
use lib.Dec.{eqb}
use lib.Ieee.{lt}
use lib.ListN.{length}
use Rattle.geometry.specs.Float.{zero64}
use Rattle.mesh.specs.declared.element.Triple.{Triple}
use Rattle.mesh.specs.declared.element.Tet.{Tet}
use Rattle.mesh.specs.Sort.{sort}
use Rattle.mesh.specs.inside.Complex.{Proper}
use Rattle.mesh.specs.Element.{vertices_of, corners_of, key_of, parity_of}
use Rattle.mesh.specs.Boundary.{le_triple, all_faces, with_key, key_number, first_number, boundary_number, boundary_of}
use Rattle.mesh.specs.Measure.{measure, determinant_of}
use Rattle.mesh.proofs.Laws.Complex.Sets.{split}
use Rattle.mesh.proofs.Laws.Link.Members.{every-elim}
use Rattle.mesh.proofs.Laws.Link.Simplices.{rising, rising-nodup}
use Rattle.mesh.proofs.Laws.Link.Keys.{Fours, proper-fours, times-star}
use Rattle.mesh.proofs.Laws.Link.Closed.{AtMostTwo, with-key}
use Rattle.mesh.proofs.Laws.Boundary.Same.{sort-every}
use Rattle.repair.specs.Mesh.{Mesh, made, refused}
use Rattle.repair.specs.Flip.{live, flips, same_triples, sorted_keys, end_number, flip_by, flip}
use Rattle.repair.proofs.Laws.Smooth.Scores.{AllNear}
use Rattle.repair.proofs.Laws.Flip.Listed.{keys-rise}
use Rattle.repair.proofs.Laws.Flip.Pass.{start-held}

-- ---- no key with three faces

-- two faces or fewer do not give 16
few-faces : (fs : List Triple) → length fs ≤ 2 → key_number fs ≡ 16 → ⊥
unfolding key_number
few-faces [] l h = omega arith
few-faces (f ∷ []) l h = omega arith
few-faces (f ∷ g ∷ []) l h = go (eqb (parity_of f) (parity_of g)) h
  where
    go : (b : Bool) → ◌≡◌ {A = ℕ} (cond b 17 0) 16 → ⊥
    go true e = omega arith
    go false e = omega arith
few-faces (f ∷ g ∷ e ∷ fs) l h = omega arith

few-keys : (fs ks : List Triple) → ((k : Triple) → Memᴰ k ks → length (with_key k fs) ≤ 2) → first_number fs ks ≡ 16 → ⊥
unfolding first_number
few-keys fs [] l h = omega arith
few-keys fs (j ∷ ks) l h =
    elim (split (eqb (key_number (with_key j fs)) 0)) [
      | inl z ↦ few-keys fs ks (λ k m. l k (Memᴰ.tail m)) (rw z at h)
      | inr z ↦ few-faces (with_key j fs) (l j (Memᴰ.head refl)) (rw z at h)
    ]

-- at most two elements a triangle: no 16
pub never-16 : (ts : List Tet) → Fours ts → AtMostTwo (map vertices_of ts) → boundary_number ts ≡ 16 → ⊥
unfolding boundary_number
never-16 ts d thin h = few-keys (all_faces ts) (sort le_triple (map key_of (all_faces ts))) few h
  where
    few : (k : Triple) → Memᴰ k (sort le_triple (map key_of (all_faces ts))) → length (with_key k (all_faces ts)) ≤ 2
    few k m =
        let r : rising (corners_of k) ≡ true = every-elim (λ f. rising (corners_of f)) (sort le_triple (map key_of (all_faces ts))) (sort-every (λ f. rising (corners_of f)) le_triple (map key_of (all_faces ts)) (keys-rise ts d)) m in
        let t = thin (corners_of k) refl (rising-nodup (corners_of k) r) in
        omega (arith, with-key k (all_faces ts), times-star k r ts d)

-- ---- the pass

end-16 : (given : List Triple) (ts : List Tet) → end_number given ts ≡ 16 → boundary_number ts ≡ 16
unfolding end_number
end-16 given ts h = go (eqb (boundary_number ts) 0) (same_triples (sorted_keys (boundary_of ts)) (sorted_keys given)) h
  where
    go : (b c : Bool) → cond b (cond c 0 23) (boundary_number ts) ≡ 16 → boundary_number ts ≡ 16
    go true true e = absurd (omega arith)
    go true false e = absurd (omega arith)
    go false c e = e

-- `flip` never finds a face three times
pub flip-never-16 : (m : Mesh) → AllNear m.points → Proper (length m.points) (map vertices_of m.elements) → boundary_number m.elements ≡ 0
    → ((t : Tet) → Memᴰ t m.elements → lt zero64 (determinant_of m.points t) ≡ true) → flip m ≡ refused 16 → ⊥
unfolding flip flip_by
flip-never-16 m near P whole upright h = go (eqb (end_number m.surface ts) 0) h
  where
    ts : List Tet
    ts = live (flips (measure m.points) m.elements).slots

    number_of : {n : ℕ} → refused n ≡ refused 16 → n ≡ 16
    number_of z = cc

    never : (n : ℕ) (x : Mesh) → made n x ≡ refused 16 → ⊥
    never n x z = let y : ◌≡◌ {A = ℕ} 0 1 = cc in omega arith

    go : (b : Bool) → cond b (made (flips (measure m.points) m.elements).flips (record { parameters = m.parameters; points = m.points; masks = m.masks; elements = ts; surface = boundary_of ts }))
        (refused (end_number m.surface ts)) ≡ refused 16 → ⊥
    go true z = never _ _ z
    go false z =
        let k = start-held m near P whole upright in
        never-16 ts (proper-fours (length m.points) ts k.proper) k.thin (end-16 m.surface ts (number_of z))
