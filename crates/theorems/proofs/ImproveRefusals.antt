-- Under demand 3's premise `improve` never ends with 16 or 17: each collapse, and the numbering at the end, keeps the elements proper and
-- in one orientation, as intake found them. Assumes nothing.
use mathlib.Core.Path.{◌≡◌, refl, sym, subst}
use mathlib.Core.Logic.{◌⊎◌, inl, inr}
use mathlib.Core.Bool.{Bool, true, false, cond, ◌&&◌}
use mathlib.Core.List.{List, [], ◌∷◌, map}
use Prim.Native.Nat.{ℕ, ◌<◌}
use lib.ListN.{length}
use Rattle.geometry.specs.declared.bounds.Options.{Options}
use Rattle.geometry.specs.Bounds.{spacing}
use Rattle.mesh.specs.declared.element.Pair.{Pair}
use Rattle.mesh.specs.declared.element.Tet.{Tet}
use Rattle.mesh.specs.inside.Complex.{Proper}
use Rattle.mesh.specs.Element.{pair, vertices_of}
use Rattle.mesh.specs.Boundary.{boundary_number}
use Rattle.mesh.specs.Feature.{link_ok}
use Rattle.mesh.specs.Manifold.{nonmanifold}
use Rattle.mesh.specs.Measure.{Measure, measure}
use Rattle.mesh.proofs.Laws.Complex.Sets.{and-fst, and-snd}
use Rattle.mesh.proofs.Laws.Complex.Steps.{step_keeps}
use Rattle.mesh.proofs.Laws.Link.Keys.{proper-fours}
use Rattle.mesh.proofs.Laws.Link.Together.{link_ok-collapsible}
use Rattle.repair.specs.Mesh.{Mesh, Result, made, refused, has}
use Rattle.mesh.specs.Tests.{any}
use Rattle.repair.specs.Improve as def
use Rattle.repair.specs.Improve.{stratum_of, stratum_rule, image_of, collapsed, go, rounds, place_of, renumbered, end_number}
use Rattle.repair.specs.Step.{State, mesh_of, given, lengths_of, result_of, finish, number_of, step}
use Rattle.repair.proofs.Laws.Improve.Single.{Distinct, size, goes}
use Rattle.repair.proofs.Laws.Improve.Collapse.{shared-edge, collapse-step}
use Rattle.repair.proofs.Laws.Improve.Edges.{joins, listed-join}
use Rattle.repair.proofs.Laws.Improve.Passes.{Tried, Joined, joined, joined_back, rounds-keep}
use Rattle.repair.proofs.Laws.Improve.Uses.{uses, uses-renumber, renumber-step}
use Rattle.repair.proofs.Laws.Improve.Intake.{intake-passed, passed-proper}
use Rattle.repair.proofs.Laws.Improve.Keeps.{last_by}
use Rattle.repair.proofs.Laws.Improve.Buffers.{mesh-parameters}
use Rattle.theorems.specs.ImproveRefusals.{ImproveRefusals}
use Rattle.theorems.proofs.Collapse.Oriented.{Oriented, oriented, oriented-fine}
use Rattle.theorems.proofs.Collapse.Kept.{oriented-collapsed, oriented-renumbered}

-- ---- the rounds

-- what a collapse keeps: four different vertices below n in each element, no two elements with the same, and one orientation
record Held (n : ℕ) (ts : List Tet) : Type 0 where
  proper : Proper n (map vertices_of ts)
  oriented : Oriented ts

module _ (o : Options) (m : Mesh) (μ : Measure) (d : Distinct o m.parameters) where
  collapse-held : (ts : List Tet) (a b : ℕ) → Joined (size m) a b → any (λ t. has a t && has b t) ts ≡ true → link_ok (stratum_of o m) a b ts ≡ true → Held (size m) ts → Held (size m) (collapsed (pair a b ∷ []) ts)
  collapse-held ts a b j w l h =
      let F = proper-fours (size m) ts h.proper in
      let after = collapsed (pair a b ∷ []) ts in
      record {
        proper = (step_keeps (size m) (map vertices_of ts) (size m) (map vertices_of after) h.proper (collapse-step (stratum_of o m) (size m) a b ts h.proper j.differ w l)).0;
        oriented = oriented-collapsed a b ts F (link_ok-collapsible (stratum_of o m) a b ts F j.differ (shared-edge a b ts w) l) h.oriented;
      }

  go-held : (s : def.State) (a b : ℕ) → Joined (size m) a b → Tried o m μ s a b → Held (size m) s.elements → Held (size m) (go o m μ s a b).elements
  go-held s a b j t h =
      let ts = s.elements in
      let g = goes o m d μ s a b j.first j.second t.first-there t.second-there t.may in
      let shares = any (λ t. has a t && has b t) ts in
      let links = link_ok (stratum_of o m) a b ts in
      let ok = and-snd (stratum_rule o m a b) (shares && links) g.ok in
      subst (λ (ps : List Pair). Held (size m) (collapsed ps ts)) (sym g.pairs) (collapse-held ts a b j (and-fst shares links ok) (and-snd shares links ok) h)

  rounds-held : (k : ℕ) (s : def.State) → Held (size m) s.elements → Held (size m) (rounds o m μ k s).elements
  rounds-held k s h =
      rounds-keep o m μ (joins (size m)) (Joined (size m)) (λ e j. (joined (size m) e j, joined_back (size m) e.a e.b (joined (size m) e j))) (λ r. Held (size m) r.elements) go-held
      (λ r q. listed-join (size m) μ (spacing o) r.elements q.proper) k s h

-- ---- the end

-- the numbering at the end keeps it, so that no face is bad
renumbered-fine : (n : ℕ) (m : Mesh) (ts : List Tet) → Held n ts → boundary_number (renumbered m ts).elements ≡ 0
unfolding renumbered
renumbered-fine n m ts h =
    let new = map (image_of (place_of (uses ts))) ts in
    oriented-fine (length (uses ts)) new
    (step_keeps n (map vertices_of ts) (length (uses ts)) (map vertices_of new) h.proper (renumber-step n ts)).0
    (oriented-renumbered (place_of (uses ts)) ts (uses-renumber ts).apart h.oriented)

-- then the end has no number, or 22
end-number : (m : Mesh) → boundary_number m.elements ≡ 0 → (end_number m ≡ 0) ⊎ (end_number m ≡ 22)
unfolding end_number
end-number m h = rw h (by (nonmanifold m.surface))
  where
    by : (t : Bool) → ◌≡◌ {A = ℕ} (cond t 22 0) 0 ⊎ ◌≡◌ {A = ℕ} (cond t 22 0) 22
    by true = inr refl
    by false = inl refl

-- a count, or 22
pub data Ends : Result → Type 0 where
  counted : (count : ℕ) (m : Mesh) → Ends (made count m)
  nonmanifold-vertex : Ends (refused 22)

-- so ends `improve`, by any measure, on a mesh whose elements intake accepts
pub improve-ends : (μ : Measure) (o : Options) (m : Mesh) → Distinct o m.parameters → Proper (size m) (map vertices_of m.elements) → boundary_number m.elements ≡ 0 → Ends (def.improve_by μ o m)
unfolding def.improve_by
improve-ends μ o m d P h =
    let ts = (last_by μ o m).elements in
    let start : Held (size m) m.elements = record { proper = P; oriented = oriented m.elements (proper-fours (size m) m.elements P) h } in
    let held : Held (size m) ts = rounds-held o m μ d o.passes (record { elements = m.elements; replaced = [] }) start in
    elim (end-number (renumbered m ts) (renumbered-fine (size m) m ts held)) [
      | inl e ↦ rw e (counted (length (last_by μ o m).replaced) (renumbered m ts))
      | inr e ↦ rw e nonmanifold-vertex
    ]

-- ---- the call

-- the number of the answer
ends-number : (s : State) {r : Result} → Ends r → (number_of (finish s r).0 ≡ 0) ⊎ (number_of (finish s r).0 ≡ 22)
ends-number s (counted count m) = inl refl
ends-number s nonmanifold-vertex = inr refl

pub improve-refusals : ImproveRefusals
unfolding step result_of given def.improve
improve-refusals c s p h a =
    let m = mesh_of s in
    let q = intake-passed (given (lengths_of c s) c s) h in
    let P : Proper (size m) (map vertices_of m.elements) = subst (λ n. Proper n (map vertices_of m.elements)) (sym (mesh-parameters s)) (passed-proper (given (lengths_of c s) c s) q) in
    rw (h, p) (ends-number s (improve-ends (measure m.points) c.options m distinct P q.boundary))
  where
    distinct : Distinct c.options (mesh_of s).parameters
    distinct v w lv lw e = a.ranks v w (subst (λ k. v < k) (mesh-parameters s) lv) (subst (λ k. w < k) (mesh-parameters s) lw) e
