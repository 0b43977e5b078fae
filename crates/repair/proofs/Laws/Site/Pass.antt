-- The pass on whole buffers: intake, all groups, and what the buffers hold afterwards. Assumes nothing.
use mathlib.Core.Path.{◌≡◌, refl, sym, ap, ap₂, subst, subst₂, ◌∙◌}
use mathlib.Core.Logic.{◌≢◌}
use mathlib.Core.Bool.{true, cond}
use mathlib.Core.List.{List, [], ◌∷◌, ◌++◌}
use mathlib.Core.Option.{Option, none, some}
use Prim.Native.Nat.{ℕ, zero, suc, ◌-◌, ◌*◌, ◌≤◌}
use native.Mathlib.Omega.{arith}
use borrow.Author.Tests.{ne_eqb}
use lib.Dec.{eqb}
use lib.Ieee.{Float, lt}
use lib.ListN.{length, take, drop, take-append-drop}
use lib.Seq.{length-take-le}
use Rattle.geometry.specs.declared.point.Point.{Point}
use Rattle.geometry.specs.declared.bounds.Options.{Options}
use Rattle.geometry.specs.declared.field.Field.{Field}
use Rattle.geometry.specs.Literals.{fifteen_hundredths}
use Rattle.mesh.specs.declared.intake.Sizes.{Sizes}
use Rattle.mesh.specs.declared.intake.Settings.{Settings}
use Rattle.mesh.specs.declared.star.Index.{Index}
use Rattle.mesh.specs.Words.{points_of, zero_words}
use Rattle.mesh.specs.Tests.{every}
use Rattle.mesh.specs.Element.{tets, triples, all_corners, all_vertices}
use Rattle.mesh.specs.Group.{groups}
use Rattle.mesh.specs.Intake.{well_numbered, given_of, intake}
use Rattle.mesh.specs.Measure.{measure, lowest_of}
use Rattle.mesh.proofs.Laws.Intake.Reads.{length-tets, length-points, elements-front, triples-front}
use Rattle.mesh.proofs.Laws.Intake.Table.{zeros-again}
use Rattle.repair.specs.Step.{Answer}
use Rattle.repair.specs.Step.{Done, Refused}
use Rattle.repair.specs.Mesh.{Mesh, made, refused}
use Rattle.repair.specs.Smooth as Smooth
use Rattle.repair.specs.Smooth.{about_group, best_for, taken, smooth_group, smooth_groups}
use Rattle.repair.specs.Step as Step
use Rattle.repair.specs.Step.{Call, Pass, held, call_of, mesh_of, floats_of, over, committed, given, lengths_of, result_of, step}
use Rattle.repair.specs.inside.smooth.Site.{state_of, Turned, mesh_read, mesh_for}
use Rattle.repair.proofs.Laws.Flip.Keys.{length-triples}
use Rattle.repair.proofs.Laws.Improve.Intake.{Passed, intake-passed}
use Rattle.repair.proofs.Laws.Lengths.{LongEnough, long-enough}

-- the same fields and regions by other names
pub turned-with : (o : Options) (m : Mesh) (s : Smooth.State) (g : List (List ℕ)) (nv : ℕ) {F F' : List Field} {R R' : Option (List ℕ)} {P Q P' Q' : List Float} {k : ℕ}
    → F ≡ F' → R ≡ R' → Turned nv (smooth_groups o F R m s g) P Q P' Q' k → Turned nv (smooth_groups o F' R' m s g) P Q P' Q' k
turned-with o m s g nv {F} {F'} {R} {R'} {P} {Q} {P'} {Q'} {k} e f t = subst (λ u. Turned nv u P Q P' Q' k) (λ i. smooth_groups o (e i) (f i) m s g) t

-- ---- buffers and their values

pub floats-front : (n : ℕ) (s : List Float) → 3 * n ≤ length s → floats_of (points_of n s) ≡ take (3 * n) s
unfolding points_of floats_of
floats-front zero s h = refl
floats-front (suc n) [] h = absurd (omega (arith, h))
floats-front (suc n) (a ∷ []) h = absurd (omega (arith, h))
floats-front (suc n) (a ∷ b ∷ []) h = absurd (omega (arith, h))
floats-front (suc n) (a ∷ b ∷ c ∷ s) h =
    let e : 3 * suc n ≡ suc (suc (suc (3 * n))) = omega arith in
    ap (λ (l : List Float). a ∷ b ∷ c ∷ l) (floats-front n s (omega (arith, h))) ∙ sym (ap (λ k. take k (a ∷ b ∷ c ∷ s)) e)

-- a front put over a buffer that is the same behind it
pub over-is : {A : Type 0} (front old new : List A) (k : ℕ) → k ≤ length new → front ≡ take k new → drop k new ≡ drop k old → over front old ≡ new
over-is {A} front old new k h e f =
    let l : length front ≡ k = ap length e ∙ length-take-le k new h in
    ap₂ (λ (u v : List A). u ++ v) e (ap (λ i. drop i old) l ∙ sym f) ∙ take-append-drop k new

-- ---- the mesh beside the state

-- the elements and the masks alone
abbrev only : Mesh → Mesh
only m = record { parameters = []; points = []; masks = m.masks; elements = m.elements; surface = [] }

module _ (o : Options) (F : List Field) (R : Option (List ℕ)) (m : Mesh) where
  taken-only : (s : Smooth.State) (g : List ℕ) (r : Option Point) → taken o F R m s g r ≡ taken o F R (only m) s g r
  taken-only s g none = refl
  taken-only s g (some p) = refl

  group-only : (s : Smooth.State) (g : List ℕ) → smooth_group o F R m s g ≡ smooth_group o F R (only m) s g
  unfolding smooth_group best_for
  group-only s [] = refl
  group-only s (v ∷ g) =
      ap (λ u. cond (lt (lowest_of (measure s.points) (about_group m.elements (v ∷ g))) fifteen_hundredths) u s)
      (taken-only s (v ∷ g) (best_for o F R m s v (v ∷ g)).found)

  groups-only : (s : Smooth.State) (gs : List (List ℕ)) → smooth_groups o F R m s gs ≡ smooth_groups o F R (only m) s gs
  unfolding smooth_groups
  groups-only s [] = refl
  groups-only s (g ∷ gs) = groups-only (smooth_group o F R m s g) gs ∙ ap (λ u. smooth_groups o F R (only m) u gs) (group-only s g)

-- ---- the pass in the words that are used

-- the turn by the numbers of the call
pub turned_as : (o : Options) (F : List Field) (R : Option (List ℕ)) (x : Index) (nv n : ℕ) (masks els : List ℕ) (P Q P' Q' : List Float) (moved : ℕ) → x.vertices ≡ nv → x.room ≡ n
    → Turned x.vertices (smooth_groups o F R (mesh_for x masks els) (state_of x.vertices P Q 0) (groups o (points_of x.vertices P))) P Q P' Q' moved
    → Turned nv (smooth_groups o F R (mesh_read nv n masks els) (state_of nv P Q 0) (groups o (points_of nv P))) P Q P' Q' moved
turned_as o F R x nv n masks els P Q P' Q' moved ev en T =
    subst₂ (λ v k. Turned v (smooth_groups o F R (mesh_read v k masks els) (state_of v P Q 0) (groups o (points_of v P))) P Q P' Q' moved) ev en T

-- the words that are used, as they are lent
pub part-long : (e : ℕ) (w : List ℕ) → e ≤ length w → length (take (e - 0) (drop 0 w)) ≡ e
part-long e w h = ap (λ j. length (take j w)) (let o : e - 0 ≡ e = omega arith in o) ∙ length-take-le e w h

-- zeros put back into zeros
pub work-zeros : (e m : ℕ) (w p : List ℕ) → e ≤ length w → length w ≡ m → w ≡ zero_words m → p ≡ zero_words (length (take (e - 0) (drop 0 w)))
    → take 0 w ++ (p ++ drop (e - 0) (drop 0 w)) ≡ zero_words m
work-zeros e m w p h l z q =
    zeros-again e w (p ++ drop (e - 0) w) h (z ∙ ap zero_words (sym l))
    (ap₂ (λ (u v : List ℕ). u ++ v) (q ∙ ap zero_words (part-long e w h)) (ap (λ j. drop j w) (let o : e - 0 ≡ e = omega arith in o)))
    ∙ ap zero_words l

-- ---- the call

module _ (s : Settings) (fields : List Field) (R : Option (List ℕ)) (P Q : List Float) (masks els surface work : List ℕ) (floats : List Float) where
  -- the call, and the buffers before it
  abbrev pub call : Call
  call = call_of Pass.smooth s fields R work floats

  abbrev pub buffers : List Float → List Float → Step.State
  buffers P Q = held s.sizes P Q masks els surface

  abbrev number : ℕ
  number = intake (given (lengths_of call (buffers P Q)) call (buffers P Q))

  module _ (k : ℕ) (e : k ≡ intake (given_of s fields P Q (length masks) els (length surface) work floats)) where
    number_is : k ≡ number
    unfolding given given_of mesh_of
    number_is = e

    -- refused
    pub pass-refused : k ≢ 0 → ◌≡◌ {A = Answer × Step.State} (Refused k, buffers P Q) (step call (buffers P Q))
    unfolding step
    pass-refused n =
        sym (ap (λ j. Step.finish (buffers P Q) (cond (eqb j 0) (result_of Pass.smooth call (mesh_of (buffers P Q))) (refused j))) (sym number_is)
        ∙ ap (λ b. Step.finish (buffers P Q) (cond b (result_of Pass.smooth call (mesh_of (buffers P Q))) (refused k))) (ne_eqb k 0 n))

    -- not refused
    module _ (z : k ≡ 0) where
      passed : Passed (given (lengths_of call (buffers P Q)) call (buffers P Q))
      passed = intake-passed (given (lengths_of call (buffers P Q)) call (buffers P Q)) (sym number_is ∙ z)

      pub fits : LongEnough s.sizes (lengths_of call (buffers P Q))
      unfolding given
      fits = long-enough s.sizes (lengths_of call (buffers P Q)) passed.few passed.long

      pub numbered : every (well_numbered s.sizes.vertices) (tets s.sizes.elements els) ≡ true
      unfolding given mesh_of
      numbered = passed.numbered

      -- all groups had their turn
      module _ (P' Q' : List Float) (moved : ℕ)
          (T : Turned s.sizes.vertices (smooth_groups s.options (take s.count fields) R (mesh_read s.sizes.vertices s.sizes.elements masks els) (state_of s.sizes.vertices P Q 0)
          (groups s.options (points_of s.sizes.vertices P))) P Q P' Q' moved) where
        nv : ℕ
        nv = s.sizes.vertices

        m : Mesh
        m = mesh_of (buffers P Q)

        F : List Field
        F = take s.count fields

        -- the same turn of the whole mesh
        T' : Turned nv (smooth_groups s.options F R m (state_of nv P Q 0) (groups s.options (points_of nv P))) P Q P' Q' moved
        unfolding nv m F mesh_of
        T' =
            subst (λ (u : Smooth.State). Turned s.sizes.vertices u P Q P' Q' moved)
            (sym (groups-only s.options (take s.count fields) R (mesh_of (buffers P Q)) (state_of s.sizes.vertices P Q 0) (groups s.options (points_of s.sizes.vertices P)))) T

        -- what the pass makes
        result : Mesh
        result = record { parameters = points_of nv P'; points = points_of nv Q'; masks = m.masks; elements = m.elements; surface = m.surface }

        result-is : Smooth.smooth s.options F R m ≡ made moved result
        unfolding Smooth.smooth result nv m F mesh_of
        result-is = ap (λ (u : Smooth.State). made u.moved (record { parameters = u.parameters; points = u.points; masks = take s.sizes.vertices masks; elements = tets s.sizes.elements els; surface = triples s.sizes.triples surface })) (sym T'.state)

        sizes-are : Step.sizes_of result ≡ s.sizes
        unfolding result nv m mesh_of
        sizes-are = λ j. record { vertices = length-points s.sizes.vertices Q' j; elements = length-tets s.sizes.elements els j; triples = length-triples s.sizes.triples surface j }

        floats-are : (S S' : List Float) → 3 * nv ≤ length S → length S' ≡ length S → drop (3 * nv) S' ≡ drop (3 * nv) S → over (floats_of (points_of nv S')) S ≡ S'
        floats-are S S' h l e = over-is (floats_of (points_of nv S')) S S' (3 * nv) (omega (arith, h, l)) (floats-front nv S' (omega (arith, h, l))) e

        buffers-are : committed result (buffers P Q) ≡ buffers P' Q'
        unfolding committed result nv m mesh_of
        buffers-are =
            let f = fits in
            let a = floats-are P P' f.parameters T'.long.0 T'.parameters in
            let b = floats-are Q Q' f.points T'.long.1 T'.points in
            let c = over-is (take s.sizes.vertices masks) masks masks s.sizes.vertices f.masks refl refl in
            let e₁ : 4 * s.sizes.elements ≤ length els = omega (arith, f.slots) in
            let e₂ : 3 * s.sizes.triples ≤ length surface = omega (arith, f.triples, f.surface) in
            let d = over-is (all_vertices (tets s.sizes.elements els)) els els (4 * s.sizes.elements) e₁ (elements-front s.sizes.elements els e₁) refl in
            let g = over-is (all_corners (triples s.sizes.triples surface)) surface surface (3 * s.sizes.triples) e₂ (triples-front s.sizes.triples surface e₂) refl in
            λ j. record { parameters = a j; points = b j; masks = c j; elements = d j; surface = g j; sizes = sizes-are j }

        pub pass-done : ◌≡◌ {A = Answer × Step.State} (Done moved s.sizes, buffers P' Q') (step call (buffers P Q))
        unfolding step result_of m F
        pass-done =
            sym (ap (λ j. Step.finish (buffers P Q) (cond (eqb j 0) (Smooth.smooth s.options F R m) (refused j))) (sym number_is ∙ z)
            ∙ ap (Step.finish (buffers P Q)) result-is
            ∙ ap₂ (λ (a : Sizes) (b : Step.State). (Done moved a, b)) sizes-are buffers-are)
