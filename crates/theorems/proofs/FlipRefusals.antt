-- With which numbers a `flip` may end on a mesh whose surface is its boundary: flips keep the boundary, so the sorted keys are those given.
-- Assumes nothing.
use mathlib.Core.Path.{◌≡◌, refl, sym, subst}
use mathlib.Core.Logic.{inl}
use mathlib.Core.Bool.{Bool, true, false, cond}
use mathlib.Core.List.{List, map, Memᴰ}
use lib.Dec.{eqb}
use lib.Ieee.{lt}
use lib.ListN.{length}
use Rattle.geometry.specs.Float.{zero64}
use Rattle.mesh.specs.declared.element.Tet.{Tet}
use Rattle.mesh.specs.inside.Complex.{Proper}
use Rattle.mesh.specs.Element.{vertices_of}
use Rattle.mesh.specs.Boundary.{boundary_number, boundary_of}
use Rattle.mesh.specs.Intake.{intake}
use Rattle.mesh.specs.Measure.{measure, determinant_of}
use Rattle.mesh.proofs.Laws.Link.Keys.{proper-fours}
use Rattle.repair.specs.Mesh.{Mesh, Result, made, refused}
use Rattle.repair.specs.Flip.{live, flips, end_number, flip_by, flip}
use Rattle.repair.specs.Step.{State, Call, Pass, mesh_of, given, lengths_of, result_of, finish, number_of, step, run}
use Rattle.repair.specs.Wholeness.{IsBoundary}
use Rattle.repair.proofs.Laws.Smooth.Scores.{AllNear}
use Rattle.repair.proofs.Laws.Improve.Points.{points_near}
use Rattle.repair.proofs.Laws.Improve.Intake.{intake-passed}
use Rattle.repair.proofs.Laws.Improve.Buffers.{intake-sound}
use Rattle.repair.proofs.Laws.Improve.Calls.{outcome}
use Rattle.repair.proofs.Laws.Improve.Closed.{stays_closed}
use Rattle.repair.proofs.Laws.Flip.Pass.{start-held}
use Rattle.repair.proofs.Laws.Flip.End.{never-16}
use Rattle.theorems.specs.FlipRefusals.{CountOr17, FlipRefusals, FlipRefusalsAlong}
use Rattle.theorems.proofs.Flip.Turns.{flips-boundary}
use Rattle.theorems.proofs.Flip.Keys.{same_keys, end-number}

-- the elements at the end
abbrev ended : Mesh → List Tet
ended m = live (flips (measure m.points) m.elements).slots

-- the number at the end, where the surface given is the boundary
end-of-flip : (m : Mesh) → AllNear m.points → Proper (length m.points) (map vertices_of m.elements) → boundary_number m.elements ≡ 0
    → ((t : Tet) → Memᴰ t m.elements → lt zero64 (determinant_of m.points t) ≡ true) → IsBoundary m.elements m.surface
    → CountOr17 (end_number m.surface (ended m))
end-of-flip m near P whole upright closed =
    let k = start-held m near P whole upright in
    let d = proper-fours (length m.points) (ended m) k.proper in
    end-number m.surface (ended m) (never-16 (ended m) d k.thin)
    (same_keys m.elements (ended m) m.surface (proper-fours (length m.points) m.elements P) d (flips-boundary m near P whole upright) closed)

-- the answer's number is that of the end
answer-of-flip : (s : State) (m : Mesh) → CountOr17 (end_number m.surface (ended m)) → CountOr17 (number_of (finish s (flip m)).0)
unfolding flip flip_by
answer-of-flip s m h = go (eqb (end_number m.surface (ended m)) 0)
  where
    flipped : Result
    flipped =
        made (flips (measure m.points) m.elements).flips
        (record { parameters = m.parameters; points = m.points; masks = m.masks; elements = ended m; surface = boundary_of (ended m) })

    go : (b : Bool) → CountOr17 (number_of (finish s (cond b flipped (refused (end_number m.surface (ended m))))).0)
    go true = inl refl
    go false = h

-- a call of `flip` that passes intake comes to the pass on values
flip-outcome : (c : Call) (s : State) → c.pass ≡ Pass.flip → intake (given (lengths_of c s) c s) ≡ 0 → outcome c s ≡ flip (mesh_of s)
unfolding result_of
flip-outcome c s p h = rw (h, p) refl

pub flip-refusals : FlipRefusals
unfolding step given
flip-refusals c s p h closed =
    let q = intake-passed (given (lengths_of c s) c s) h in
    let S = intake-sound (lengths_of c s) c s h in
    subst (λ r. CountOr17 (number_of (finish s r).0)) (sym (flip-outcome c s p h))
    (answer-of-flip s (mesh_of s) (end-of-flip (mesh_of s) (points_near (mesh_of s).points S.sized) S.proper q.boundary S.upright closed))

-- and after any list of calls, since the surface stays the boundary
pub flip-refusals-along : FlipRefusalsAlong
flip-refusals-along calls c s start closed p h = flip-refusals c (run calls s) p h (stays_closed calls s start closed)
