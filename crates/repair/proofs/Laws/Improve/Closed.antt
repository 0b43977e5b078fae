-- The surface triples stay the boundary: `improve` and `flip` hand on the boundary of their elements, `smooth` the elements and the surface
-- that it got. `stays_closed` says it of every list of calls. Assumes nothing.
use mathlib.Core.Path.{◌≡◌, refl, sym, ap, subst, subst₂, ◌∙◌}
use mathlib.Core.Bool.{Bool, true, false, cond}
use mathlib.Core.List.{List, [], ◌∷◌, map}
use Prim.Native.Nat.{ℕ}
use native.Mathlib.Omega.{arith}
use lib.Dec.{eqb}
use lib.ListN.{length, take}
use Rattle.geometry.specs.declared.bounds.Options.{Options}
use Rattle.mesh.specs.declared.element.Tet.{Tet}
use Rattle.mesh.specs.declared.element.Triple.{Triple}
use Rattle.mesh.specs.Element.{parity_of}
use Rattle.mesh.specs.Boundary.{all_faces, with_key, boundary_of}
use Rattle.mesh.specs.Measure.{Measure, measure}
use Rattle.mesh.proofs.Laws.Boundary.Meaning.{surface-once, surface-else}
use Rattle.repair.specs.Mesh.{Mesh, Result, made, refused}
use Rattle.repair.specs.Improve
use Rattle.repair.specs.Smooth
use Rattle.repair.specs.Flip
use Rattle.repair.specs.Step.{State, Call, Pass, mesh_of, result_of, finish, step, run}
use Rattle.repair.specs.Wholeness.{single, IsBoundary, Closed, StaysClosed}
use Rattle.repair.proofs.Laws.Improve.Keeps.{last_by, made_by}
use Rattle.repair.proofs.Laws.Improve.Buffers.{committed-elements, committed-surface}
use Rattle.repair.proofs.Laws.Improve.Calls.{outcome, outcome-made}

-- the boundary of a list of elements is its boundary in the words of the statement
pub boundary-closed : (ts : List Tet) → IsBoundary ts (boundary_of ts)
boundary-closed ts k = by (with_key k (all_faces ts)) refl
  where
    other : (l : List Triple) → with_key k (all_faces ts) ≡ l → (length l ≡ 1 → ⊥) → map parity_of (with_key k (boundary_of ts)) ≡ []
    other l e n = ap (map parity_of) (surface-else ts k (λ h. n (sym (ap length e) ∙ h)))

    by : (l : List Triple) → with_key k (all_faces ts) ≡ l → map parity_of (with_key k (boundary_of ts)) ≡ single (map parity_of (with_key k (all_faces ts)))
    by [] e = other [] e (λ h. omega arith) ∙ sym (ap (λ l. single (map parity_of l)) e)
    by (f ∷ []) e = ap (map parity_of) (surface-once ts k f e) ∙ sym (ap (λ l. single (map parity_of l)) e)
    by (f ∷ g ∷ l) e = other (f ∷ g ∷ l) e (λ h. omega arith) ∙ sym (ap (λ l. single (map parity_of l)) e)

-- ---- passes

-- the mesh that a result has, m where it has none
abbrev mesh_in : Mesh → Result → Mesh
mesh_in m (made count n) = n
mesh_in m (refused number) = m

improve-closed : (μ : Measure) (o : Options) (m n : Mesh) (count : ℕ) → Improve.improve_by μ o m ≡ made count n → IsBoundary n.elements n.surface
unfolding Improve.renumbered
improve-closed μ o m n count r =
    let q = made_by μ o m n count r in
    subst (λ u. IsBoundary u.elements u.surface) (sym q.mesh) (boundary-closed (Improve.renumbered m (last_by μ o m).elements).elements)

smooth-closed : (c : Call) (m n : Mesh) (count : ℕ) → Smooth.smooth c.options (take c.count c.fields) c.regions m ≡ made count n → IsBoundary m.elements m.surface → IsBoundary n.elements n.surface
unfolding Smooth.smooth
smooth-closed c m n count r h = subst₂ (λ ts fs. IsBoundary ts fs) (ap (λ u. (mesh_in m u).elements) r) (ap (λ u. (mesh_in m u).surface) r) h

flip-closed : (μ : Measure) (m n : Mesh) (count : ℕ) → Flip.flip_by μ m ≡ made count n → IsBoundary n.elements n.surface
unfolding Flip.flip_by
flip-closed μ m n count r = by (eqb (Flip.end_number m.surface ts) 0) r
  where
    ts : List Tet
    ts = Flip.live (Flip.flips μ m.elements).slots

    flipped : Mesh
    flipped = record { parameters = m.parameters; points = m.points; masks = m.masks; elements = ts; surface = boundary_of ts }

    by : (t : Bool) → cond t (made (Flip.flips μ m.elements).flips flipped) (refused (Flip.end_number m.surface ts)) ≡ made count n → IsBoundary n.elements n.surface
    by true r = subst (λ u. IsBoundary u.elements u.surface) (ap (mesh_in m) r) (boundary-closed ts)
    by false r = absurd (let z : ◌≡◌ {A = ℕ} 0 1 = cc in omega arith)

pass-closed : (p : Pass) (c : Call) (m n : Mesh) (count : ℕ) → result_of p c m ≡ made count n → IsBoundary m.elements m.surface → IsBoundary n.elements n.surface
unfolding result_of Improve.improve Flip.flip
pass-closed Pass.improve c m n count r h = improve-closed (measure m.points) c.options m n count r
pass-closed Pass.smooth c m n count r h = smooth-closed c m n count r h
pass-closed Pass.flip c m n count r h = flip-closed (measure m.points) m n count r

-- ---- calls

pub step-closed : (c : Call) (s : State) → Closed s → Closed (step c s).1
unfolding step
step-closed c s h = by (outcome c s) refl
  where
    by : (r : Result) → outcome c s ≡ r → Closed (finish s (outcome c s)).1
    by (made count n) e =
        subst (λ r. Closed (finish s r).1) (sym e)
        (subst₂ (λ ts fs. IsBoundary ts fs) (sym (committed-elements n s)) (sym (committed-surface n s)) (pass-closed c.pass c (mesh_of s) n count (outcome-made c s count n e).1 h))
    by (refused number) e = subst (λ r. Closed (finish s r).1) (sym e) h

run-closed : (calls : List Call) (s : State) → Closed s → Closed (run calls s)
unfolding run
run-closed [] s h = h
run-closed (c ∷ calls) s h = run-closed calls (step c s).1 (step-closed c s h)

-- after every list of calls the surface triples are the boundary
pub stays_closed : StaysClosed
stays_closed calls s p h = run-closed calls s h
