-- Calls on buffers. `improve-step`: demand 3 for one call of `improve` that gives a count. `wholeness-by`: if every `smooth` and every
-- `flip` that gives a count keeps it too, then so does every list of calls. Assumes nothing.
use mathlib.Core.Path.{◌≡◌, refl, sym, ap, subst, ◌∙◌}
use mathlib.Core.Bool.{Bool, true, false, cond}
use mathlib.Core.List.Memᴰ
use mathlib.Core.List.{List, [], ◌∷◌, map, Memᴰ}
use Prim.Native.Nat.{ℕ, ◌+◌, ◌*◌, ◌^◌, ◌≤◌, ◌<◌}
use native.Mathlib.Nat.{le_trans}
use native.Mathlib.Omega.{arith}
use borrow.Author.Tests.{eqb-true}
use lib.Dec.{eqb}
use lib.Ieee.{Float}
use lib.ListN.{take}
use Rattle.geometry.specs.Float.{one64}
use Rattle.geometry.specs.Literals.{tenth}
use Rattle.geometry.specs.Units.{units_of}
use Rattle.mesh.specs.declared.intake.Sizes.{Sizes}
use Rattle.mesh.specs.Intake.{intake}
use Rattle.mesh.specs.Measure.{measure, score_of, lowest_of}
use Rattle.repair.specs.Step.{Done, Refused}
use Rattle.repair.specs.Mesh.{Mesh, Result, made, refused}
use Rattle.repair.specs.Improve
use Rattle.repair.specs.Smooth
use Rattle.repair.specs.Flip
use Rattle.repair.specs.Step.{State, Call, Pass, mesh_of, given, lengths_of, result_of, finish, sizes_of, committed, step, run, number_of, improve_count, improve_counts}
use Rattle.repair.specs.Wholeness.{PassesIntake, Apart, ApartAlong, floor_of, Whole, Wholeness}
use Rattle.repair.proofs.Laws.Improve.Single.{Distinct}
use Rattle.repair.proofs.Laws.Improve.Scores.{Floor, floor-of, smaller-keeps, lowest-keeps, tenth-one}
use Rattle.repair.proofs.Laws.Improve.Points.{scores-exact}
use Rattle.mesh.proofs.Laws.Boundary.Meaning.{fine}
use Rattle.repair.proofs.Laws.Improve.Keeps.{floor-tenth, floor-score, improve-keeps}
use Rattle.repair.proofs.Laws.Improve.Intake.{intake-passed}
use Rattle.repair.proofs.Laws.Improve.Buffers.{mesh-parameters, intake-sound, committed-whole}

-- ---- one call

-- what a call comes to on values
abbrev pub outcome : Call → State → Result
outcome c s = cond (eqb (intake (given (lengths_of c s) c s)) 0) (result_of c.pass c (mesh_of s)) (refused (intake (given (lengths_of c s) c s)))

-- a call that makes a mesh: intake passed, and the pass made it
pub outcome-made : (c : Call) (s : State) (count : ℕ) (n : Mesh) → outcome c s ≡ made count n → (intake (given (lengths_of c s) c s) ≡ 0) × (result_of c.pass c (mesh_of s) ≡ made count n)
outcome-made c s count n h = by (eqb (intake (given (lengths_of c s) c s)) 0) refl h
  where
    by : (t : Bool) → eqb (intake (given (lengths_of c s) c s)) 0 ≡ t → cond t (result_of c.pass c (mesh_of s)) (refused (intake (given (lengths_of c s) c s))) ≡ made count n
        → (intake (given (lengths_of c s) c s) ≡ 0) × (result_of c.pass c (mesh_of s) ≡ made count n)
    by true e h = (eqb-true (intake (given (lengths_of c s) c s)) 0 e, h)
    by false e h = absurd (let z : ◌≡◌ {A = ℕ} 0 1 = cc in omega arith)

-- `improve` on the mesh in the buffers
pub improve-whole : (c : Call) (s : State) (count : ℕ) (n : Mesh) → intake (given (lengths_of c s) c s) ≡ 0 → Apart c s → Improve.improve c.options (mesh_of s) ≡ made count n → Whole s (committed n s) count
improve-whole c s count n h a r = committed-whole s n count (improve-keeps c.options (mesh_of s) n count (intake-sound (lengths_of c s) c s h) distinct r)
  where
    distinct : Distinct c.options (mesh_of s).parameters
    distinct v w lv lw e = a.ranks v w (subst (λ k. v < k) (mesh-parameters s) lv) (subst (λ k. w < k) (mesh-parameters s) lw) e

-- demand 3 for one call of `improve` that gives a count
pub improve-step : (c : Call) (s : State) (count : ℕ) (sizes : Sizes) → c.pass ≡ Pass.improve → (step c s).0 ≡ Done count sizes → Apart c s → Whole s (step c s).1 count
unfolding step result_of
improve-step c s count sizes p h a = by (outcome c s) refl
  where
    by : (r : Result) → outcome c s ≡ r → Whole s (finish s (outcome c s)).1 count
    by (made k n) e =
        let q = outcome-made c s k n e in
        let d : Done k (sizes_of n) ≡ Done count sizes = sym (ap (λ r. (finish s r).0) e) ∙ h in
        let t : k ≡ count = cc in
        subst (λ r. Whole s (finish s r).1 count) (sym e)
        (subst (Whole s (committed n s)) t (improve-whole c s k n q.0 a (sym (ap (λ u. result_of u c (mesh_of s)) p) ∙ q.1)))
    by (refused number) e =
        let d : Refused number ≡ Done count sizes = sym (ap (λ r. (finish s r).0) e) ∙ h in
        absurd (let z : ◌≡◌ {A = ℕ} 0 1 = cc in omega arith)

-- ---- every pass

-- what is asked of `smooth` and of `flip`: a call that gives a count keeps demand 3, and takes nothing from the scores' floor
abbrev pub SmoothKeeps : Type 0
SmoothKeeps = (c : Call) (s : State) (count : ℕ) (n : Mesh) → intake (given (lengths_of c s) c s) ≡ 0 → Smooth.smooth c.options (take c.count c.fields) c.regions (mesh_of s) ≡ made count n → Whole s (committed n s) 0

abbrev pub FlipKeeps : Type 0
FlipKeeps = (c : Call) (s : State) (count : ℕ) (n : Mesh) → intake (given (lengths_of c s) c s) ≡ 0 → Flip.flip (mesh_of s) ≡ made count n → Whole s (committed n s) 0

module _ (smooths : SmoothKeeps) (flips : FlipKeeps) where
  pass-keeps : (c : Call) (s : State) (count : ℕ) (n : Mesh) → intake (given (lengths_of c s) c s) ≡ 0 → (c.pass ≡ Pass.improve → Apart c s) → result_of c.pass c (mesh_of s) ≡ made count n
      → Whole s (committed n s) (improve_count c.pass (Done count (sizes_of n)))
  unfolding result_of
  pass-keeps c s count n h a r = by c.pass refl r
    where
      by : (p : Pass) → c.pass ≡ p → result_of p c (mesh_of s) ≡ made count n → Whole s (committed n s) (improve_count p (Done count (sizes_of n)))
      by Pass.improve e r = improve-whole c s count n h (a e) r
      by Pass.smooth e r = smooths c s count n h r
      by Pass.flip e r = flips c s count n h r

-- ---- lists of calls

-- the start, by itself
pub start-whole : (s : State) → PassesIntake s → Whole s s 0
unfolding given
start-whole s p =
    let S = intake-sound p.1 p.0 s p.2 in
    let q = intake-passed (given p.1 p.0 s) p.2 in
    record {
      numbered = q.numbered;
      different = q.different;
      alternates = refl;
      triangles = fine (mesh_of s).elements q.boundary;
      determinants = S.upright;
      scores = λ t i. (scores-exact (mesh_of s).points S.sized t, floor-of (units_of (floor_of s)) 0 (score_of (mesh_of s).points t) (floor-score (mesh_of s) S t i));
    }

chain : (K U M S D k j : ℕ) → K * U ≤ K * M + D * k → K * M ≤ K * S + D * j → K * U ≤ K * S + D * (k + j)
chain K U M S D k j h l = omega arith

-- one after the other
pub whole-then : (s t u : State) (k j : ℕ) → units_of (floor_of s) ≤ units_of tenth → Whole s t k → Whole t u j → Whole s u (k + j)
whole-then s t u k j low W X =
    let U = units_of (floor_of s) in
    let scores = map (score_of (mesh_of t).points) (mesh_of t).elements in
    let each : (x : Float) → Memᴰ x scores → Floor U k x = λ x i. let r = Memᴰ.of_map (score_of (mesh_of t).points) (mesh_of t).elements i in subst (Floor U k) r.2 (W.scores r.0 r.1).1 in
    let between : Floor U k (floor_of t) =
    smaller-keeps (Floor U k) tenth (lowest_of (measure (mesh_of t).points) (mesh_of t).elements) (floor-of U k tenth low) (lowest-keeps (Floor U k) scores (floor-of U k one64 (le_trans low tenth-one)) each) in
    record {
      numbered = X.numbered;
      different = X.different;
      alternates = X.alternates ∙ W.alternates;
      triangles = X.triangles;
      determinants = X.determinants;
      scores = λ e i. ((X.scores e i).0, chain (10 ^ 12) U (units_of (floor_of t)) (units_of (score_of (mesh_of u).points e)) (2 * 2 ^ 1074) k j between (X.scores e i).1);
    }

-- a refusal takes nothing from the floor
refused-count : (p : Pass) (number : ℕ) → improve_count p (Refused number) ≡ 0
refused-count Pass.improve number = refl
refused-count Pass.smooth number = refl
refused-count Pass.flip number = refl

none_more : (k j : ℕ) → j ≡ 0 → k ≡ k + j
none_more k j e = omega arith

module _ (smooths : SmoothKeeps) (flips : FlipKeeps) (s : State) (low : units_of (floor_of s) ≤ units_of tenth) where
  step-whole : (c : Call) (t : State) (k : ℕ) → (c.pass ≡ Pass.improve → number_of (step c t).0 ≡ 0 → Apart c t) → Whole s t k → Whole s (step c t).1 (k + improve_count c.pass (step c t).0)
  unfolding step
  step-whole c t k a W = by (outcome c t) refl
    where
      by : (r : Result) → outcome c t ≡ r → Whole s (finish t (outcome c t)).1 (k + improve_count c.pass (finish t (outcome c t)).0)
      by (made count n) e =
          let h = outcome-made c t count n e in
          subst (λ r. Whole s (finish t r).1 (k + improve_count c.pass (finish t r).0)) (sym e)
          (whole-then s t (committed n t) k (improve_count c.pass (Done count (sizes_of n))) low W
          (pass-keeps smooths flips c t count n h.0 (λ p. a p (ap (λ r. number_of (finish t r).0) e)) h.1))
      by (refused number) e =
          subst (λ r. Whole s (finish t r).1 (k + improve_count c.pass (finish t r).0)) (sym e)
          (subst (Whole s t) (none_more k (improve_count c.pass (Refused number)) (refused-count c.pass number)) W)

  run-whole : (calls : List Call) (t : State) (k : ℕ) → ApartAlong calls t → Whole s t k → Whole s (run calls t) (k + improve_counts calls t)
  unfolding run improve_counts
  run-whole [] t k a W = subst (Whole s t) (none_more k 0 refl) W
  run-whole (c ∷ calls) t k a W =
      subst (Whole s (run calls (step c t).1)) (turn k (improve_count c.pass (step c t).0) (improve_counts calls (step c t).1))
      (run-whole calls (step c t).1 (k + improve_count c.pass (step c t).0) a.1 (step-whole c t k a.0 W))
    where
      turn : (a b c : ℕ) → a + b + c ≡ a + (b + c)
      turn a b c = omega arith

-- demand 3, from what is asked of `smooth` and of `flip`
pub wholeness-by : SmoothKeeps → FlipKeeps → Wholeness
wholeness-by smooths flips calls s p closed a =
    subst (Whole s (run calls s)) (none (improve_counts calls s))
    (run-whole smooths flips s (floor-tenth (mesh_of s) (intake-sound p.1 p.0 s p.2)) calls s 0 a (start-whole s p))
  where
    none : (k : ℕ) → 0 + k ≡ k
    none k = omega arith
