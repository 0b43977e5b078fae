-- The mesh that a run leaves can be printed: where `flip` gives a count, the counts of simplices make demand 3's alternating count.
-- Assumes nothing.
use Rattle.std.proofs.Common.{◌≡◌, ℕ, ◌+◌, List, map, length, sym, refl, ap, ◌∙◌, subst, arith}
use lib.Ieee.{Float}
use lib.IntN.{sub_ℕ}
use Rattle.geometry.specs.declared.field.Field.{Field}
use Rattle.mesh.specs.declared.euler.Counts.{Counts}
use Rattle.mesh.specs.declared.intake.Sizes.{Sizes}
use Rattle.mesh.specs.Words.{points_of}
use Rattle.mesh.specs.Complex.{alternating}
use Rattle.mesh.specs.inside.Complex.{Proper}
use Rattle.mesh.specs.Element.{tets, vertices_of}
use Rattle.mesh.specs.inside.Euler.{counts_of, alternating_of}
use Rattle.mesh.proofs.Laws.Intake.Reads.{length-points}
use Rattle.mesh.proofs.Laws.Euler.Faces.{alternating-counts}
use Rattle.repair.specs.Step.{Answer}
use Rattle.repair.specs.Step.{Done, Refused}
use Rattle.repair.specs.Mesh.{Mesh, Result, made, refused}
use Rattle.repair.specs.Step.{State, Pass, Call, mesh_of, committed, lengths_of, given, result_of, finish, step}
use Rattle.repair.proofs.Laws.Improve.Points.{points_near}
use Rattle.repair.proofs.Laws.Improve.Intake.{intake-passed}
use Rattle.repair.proofs.Laws.Improve.Buffers.{intake-sound, committed-elements}
use Rattle.repair.proofs.Laws.Improve.Calls.{outcome, outcome-made}
use Rattle.repair.proofs.Laws.Flip.Pass.{flip-keeps}
use Rattle.report.specs.Run.{Ran}
use Rattle.report.specs.Run.{Finished, Stopped}
use Rattle.report.specs.Run.{Setting, call_in, after, called, run_flip, run_smooth, run_passes, sizes_left}
use Rattle.report.specs.Table.{low_count, inside_count, table_text, refused_text}
use Rattle.report.specs.inside.Written.{Written, Ready}
use Rattle.report.specs.Report.{table_of, printed}
use Rattle.report.proofs.Laws.Passes.{step_room}

-- ---- the elements that `flip` leaves

-- four different vertices each, in the mesh that a call makes
made-proper : (g : Setting) (s : State) (k : ℕ) (n : Mesh) → outcome (call_in g Pass.flip) s ≡ made k n
    → Proper (committed n s).sizes.vertices (map vertices_of (mesh_of (committed n s)).elements)
unfolding given result_of committed
made-proper g s k n e =
    let c = call_in g Pass.flip in
    let q = outcome-made c s k n e in
    let S = intake-sound (lengths_of c s) c s q.0 in
    let p = intake-passed (given (lengths_of c s) c s) q.0 in
    let f = flip-keeps (mesh_of s) (points_near (mesh_of s).points S.sized) S.proper p.boundary S.upright k n q.1 in
    subst (λ ts. Proper (length n.points) (map vertices_of ts)) (sym (committed-elements n s)) f.proper

step-proper : (g : Setting) (s : State) (count : ℕ) (z : Sizes) → (step (call_in g Pass.flip) s).0 ≡ Done count z
    → Proper (step (call_in g Pass.flip) s).1.sizes.vertices (map vertices_of (mesh_of (step (call_in g Pass.flip) s).1).elements)
unfolding step
step-proper g s count z h = by (outcome (call_in g Pass.flip) s) refl
  where
    by : (r : Result) → outcome (call_in g Pass.flip) s ≡ r
        → Proper (finish s (outcome (call_in g Pass.flip) s)).1.sizes.vertices (map vertices_of (mesh_of (finish s (outcome (call_in g Pass.flip) s)).1).elements)
    by (made k n) e = subst (λ r. Proper (finish s r).1.sizes.vertices (map vertices_of (mesh_of (finish s r).1).elements)) (sym e) (made-proper g s k n e)
    by (refused number) e =
        let d : Refused number ≡ Done count z = sym (ap (λ r. (finish s r).0) e) ∙ h in
        absurd (let y : ◌≡◌ {A = ℕ} 0 1 = cc in omega arith)

-- ---- the mesh that a run leaves

-- what a run leaves can be printed
abbrev Left : Ran × State → Type 0
Left x = Ready x.0 x.1.elements

-- so it is after a call where it is after what comes next
called-left : (c : Call) (next : ℕ → State → Ran × State) (s : State) → ((count : ℕ) (z : Sizes) → (step c s).0 ≡ Done count z → Left (next count (step c s).1))
    → Left (called c next s)
unfolding called
called-left c next s h = go (step c s).0 refl
  where
    go : (a : Answer) → (step c s).0 ≡ a → Left (after a (step c s).1 next)
    go (Done count z) e = h count z e
    go (Refused number) e = tt

flip-left : (g : Setting) (collapsed moved : ℕ) (s : State) → Left (run_flip g collapsed moved s)
unfolding run_flip mesh_of
flip-left g collapsed moved s =
    called-left (call_in g Pass.flip) (λ n y. (Finished collapsed moved n y.sizes, y)) s
    (λ count z e. (step_room (call_in g Pass.flip) s count z e, step-proper g s count z e))

smooth-left : (g : Setting) (collapsed : ℕ) (s : State) → Left (run_smooth g collapsed s)
unfolding run_smooth
smooth-left g collapsed s = called-left (call_in g Pass.smooth) (λ n y. run_flip g collapsed n y) s (λ count z e. flip-left g collapsed count (step (call_in g Pass.smooth) s).1)

passes-left : (g : Setting) (s : State) → Left (run_passes g s)
unfolding run_passes
passes-left g s = called-left (call_in g Pass.improve) (λ n y. run_smooth g n y) s (λ count z e. smooth-left g count (step (call_in g Pass.improve) s).1)

-- the buffers after a run
pub run-ready : (g : Setting) (s t : State) (r : Ran) → ◌≡◌ {A = Ran × State} (r, t) (run_passes g s) → Ready r t.elements
run-ready g s t r e = subst Left (sym e) (passes-left g s)

-- ---- the table

-- the table by the counts of simplices
pub table-written : (fs : List Field) (collapsed moved reconnected nv n : ℕ) (p : List Float) (els : List ℕ) (c : Counts) {old new : List ℕ} {r : ℕ}
    → Proper nv (map vertices_of (tets n els)) → c ≡ counts_of (tets n els)
    → Written old new 0 r (table_text (record {
      vertices = nv;
      collapsed = collapsed;
      moved = moved;
      reconnected = reconnected;
      low = low_count (points_of nv p) (tets n els);
      euler = sub_ℕ (c.vertices + c.triangles) (c.edges + c.elements);
      inside = map (inside_count (points_of nv p) (tets n els)) fs;
      elements = tets n els;
    }))
    → Written old new 0 r (table_text (table_of fs collapsed moved reconnected (points_of nv p) (tets n els)))
unfolding table_of
table-written fs collapsed moved reconnected nv n p els c {old} {new} {r} P h =
    let ts = tets n els in
    let l = sym (length-points nv p) in
    let e = ap alternating_of h ∙ alternating-counts nv ts P ∙ ap (λ (k : ℕ). alternating k (map vertices_of ts)) l in
    subst (λ (u : List ℕ). Written old new 0 r u) (λ i. table_text (record {
      vertices = l i;
      collapsed = collapsed;
      moved = moved;
      reconnected = reconnected;
      low = low_count (points_of nv p) ts;
      euler = e i;
      inside = map (inside_count (points_of nv p) ts) fs;
      elements = ts;
    }))

-- ---- the text of a run

module _ (fs : List Field) (p : List Float) (els : List ℕ) {old new : List ℕ} {r : ℕ} {ran : Ran} where
  -- a run that gave its counts
  pub printed-finished : {collapsed moved reconnected : ℕ} {z : Sizes} → ran ≡ Finished collapsed moved reconnected z
      → Written old new 0 r (table_text (table_of fs collapsed moved reconnected (points_of z.vertices p) (tets z.elements els)))
      → Written old new 0 r (printed fs ran (points_of (sizes_left ran).vertices p) (tets (sizes_left ran).elements els))
  printed-finished e = subst (λ (x : Ran). Written old new 0 r (printed fs x (points_of (sizes_left x).vertices p) (tets (sizes_left x).elements els))) (sym e)

  -- one that ended with a number
  pub printed-stopped : {number : ℕ} {z : Sizes} → ran ≡ Stopped number z → Written old new 0 r (refused_text number)
      → Written old new 0 r (printed fs ran (points_of (sizes_left ran).vertices p) (tets (sizes_left ran).elements els))
  printed-stopped e = subst (λ (x : Ran). Written old new 0 r (printed fs x (points_of (sizes_left x).vertices p) (tets (sizes_left x).elements els))) (sym e)

-- what printing asks of a run that gave its counts
pub ready-finished : (els : List ℕ) {ran : Ran} {collapsed moved reconnected : ℕ} {z : Sizes} → ran ≡ Finished collapsed moved reconnected z → Ready ran els
    → Ready (Finished collapsed moved reconnected z) els
ready-finished els e h = subst (λ (x : Ran). Ready x els) e h
