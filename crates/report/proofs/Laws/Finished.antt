-- A run that gives its counts had no NaN in its plot: a NaN is in no order with any number, so it does not pass intake, and a refusal
-- ends the run. Assumes nothing.
use Rattle.std.proofs.Common.{◌≡◌, ℕ, ◌+◌, ◌*◌, ◌/◌, ◌<◌, ◌≤◌, Bool, true, false, cond, ◌&&◌, eqb, leb, List, length, get_or, take, drop, pos, sym, refl, ap, ◌∙◌, subst, inl, inr, arith, get_or-take, eqb-true}
use lib.Ieee.{Float, nan, inf, fin, lt, eq, le, is_nan}
use lib.ListN.{get_or-append, get_or-eq_default}
use borrow.Author.Tests.{eqb-false}
use Rattle.geometry.specs.declared.bounds.Bounds.{Bounds}
use Rattle.geometry.specs.declared.field.Field.{Field}
use Rattle.geometry.specs.declared.field.Field.TheVariants.{Level, Plane, Ball}
use Rattle.geometry.specs.declared.point.Point.{Point}
use Rattle.geometry.specs.Float.{zero64}
use Rattle.mesh.specs.declared.intake.Sizes.{Sizes}
use Rattle.mesh.specs.Tests.{every}
use Rattle.mesh.specs.Words.{float_at, zero_point, point_in, points_of}
use Rattle.mesh.specs.Intake.{million, sized, sized_point, sized_field, bounds_in, in_box, intake}
use Rattle.mesh.proofs.Laws.Bools.{split, clash, and_left, and_right}
use Rattle.mesh.proofs.Laws.Parts.{side}
use Rattle.mesh.proofs.Laws.Intake.Reads.{length-points, points-at}
use Rattle.mesh.proofs.Laws.Manifold.Corners.{every-get_or}
use Rattle.repair.specs.Mesh.{Result, refused}
use Rattle.repair.specs.Step.{State, Pass, over, lengths_of, given, mesh_of, result_of, finish, step}
use Rattle.repair.proofs.Laws.Improve.Intake.{intake-passed}
use Rattle.report.specs.Run.{Ran}
use Rattle.report.specs.Run.{Finished, Stopped}
use Rattle.report.specs.Block.{Plot}
use Rattle.report.specs.Write.{Exact, PointIsNumber, FieldIsNumber, NoNan}
use Rattle.report.specs.Run.{Setting, call_in, after, called, run_smooth, run_passes}
use Rattle.report.specs.Report.{setting_of, placed, blank}

-- ---- numbers

-- what is at most another float is no NaN
most-number : (x y : Float) → le x y ≡ true → is_nan x ≡ false
unfolding le lt eq is_nan
most-number nan y h = clash false h refl
most-number (inf s) y h = refl
most-number (fin s m e) y h = refl

-- what is "finite" and not "over 2^20 in size"
sized-number : (x : Float) → sized x ≡ true → is_nan x ≡ false
sized-number x h = most-number x million (and_right (le (fin true 1 (pos 20)) x) (le x million) h)

-- the coordinates of a point
point-number : (q : Point) → sized_point q ≡ true → PointIsNumber q
point-number q h =
    let yz = and_right (sized q.x) (sized q.y && sized q.z) h in
    record {
      x-number = sized-number q.x (and_left (sized q.x) (sized q.y && sized q.z) h);
      y-number = sized-number q.y (and_left (sized q.y) (sized q.z) yz);
      z-number = sized-number q.z (and_right (sized q.y) (sized q.z) yz);
    }

-- the numbers of a field
field-number : (f : Field) → sized_field f ≡ true → FieldIsNumber f
field-number (Level c) h = sized-number c h
field-number (Plane n d) h = (point-number n (and_left (sized_point n) (sized d) h), sized-number d (and_right (sized_point n) (sized d) h))
field-number (Ball c r) h = (point-number c (and_left (sized_point c) (sized r) h), sized-number r (and_right (sized_point c) (sized r) h))

-- those of the first n fields, and the level 0 that stands past them
fields_in : (n : ℕ) (fs : List Field) → every sized_field (take n fs) ≡ true → (j : ℕ) → j < n → FieldIsNumber (get_or fs j (Level zero64))
unfolding is_nan
fields_in n fs h j l =
    let at = get_or-take n fs j (Level zero64) l in
    elim (side j (length (take n fs))) [
      | inl m ↦ subst FieldIsNumber at (field-number (get_or (take n fs) j (Level zero64)) (every-get_or sized_field (take n fs) j (Level zero64) h m))
      | inr m ↦ subst FieldIsNumber (sym (get_or-eq_default (take n fs) (Level zero64) m) ∙ at) refl
    ]

-- a point in the box
box-number : (b : Bounds) (q : Point) → in_box b q ≡ true → PointIsNumber q
box-number b q h =
    let x = and_right (le b.lo.x q.x) _ h in
    let y = and_right (le b.lo.y q.y) _ (and_right (le q.x b.hi.x) _ x) in
    let z = and_right (le b.lo.z q.z) _ (and_right (le q.y b.hi.y) _ y) in
    record {
      x-number = most-number q.x b.hi.x (and_left (le q.x b.hi.x) _ x);
      y-number = most-number q.y b.hi.y (and_left (le q.y b.hi.y) _ y);
      z-number = most-number q.z b.hi.z z;
    }

-- ---- the floats of points

-- the coordinates of n points
coordinate-number : (n : ℕ) (s : List Float) → ((v : ℕ) → v < n → PointIsNumber (point_in s v)) → (i : ℕ) → i < 3 * n
    → is_nan (float_at s i) ≡ false
unfolding point_in
coordinate-number n s h i l =
    let v = i / 3 in
    let q = h v (omega arith) in
    elim (split (eqb i (3 * v))) [
      | inl t ↦ rw (eqb-true i (3 * v) t) q.x-number
      | inr f ↦ elim (split (eqb i (3 * v + 1))) [
        | inl t ↦ rw (eqb-true i (3 * v + 1) t) q.y-number
        | inr g ↦ (let a = eqb-false i (3 * v) f in let b = eqb-false i (3 * v + 1) g in let e : i ≡ 3 * v + 2 = omega arith in rw e q.z-number)
      ]
    ]

-- floats at the front of a buffer, where its first n points pass a test that no NaN passes
front-number : (test : Point → Bool) → ((q : Point) → test q ≡ true → PointIsNumber q) → (new old : List Float) (n : ℕ) → length new ≤ 3 * n
    → every test (points_of n (over new old)) ≡ true → (i : ℕ) → is_nan (float_at new i) ≡ false
unfolding is_nan
front-number test number new old n few h i = elim (side i (length new)) [
  | inl l ↦ rw (get_or-append new (drop (length new) old) zero64 i l) at (coordinate-number n (over new old) point i (omega arith))
  | inr l ↦ rw (get_or-eq_default new zero64 l)
]
  where
    point : (v : ℕ) → v < n → PointIsNumber (point_in (over new old) v)
    point v l =
        let t = every-get_or test (points_of n (over new old)) v zero_point h (omega (arith, length-points n (over new old))) in
        subst PointIsNumber (points-at n (over new old) v zero_point l) (number (get_or (points_of n (over new old)) v zero_point) t)

-- ---- the run

-- the end of a run whose last call gave its count
abbrev is_finished : Ran → Bool
is_finished (Finished collapsed moved reconnected z) = true
is_finished (Stopped number z) = false

module _ (collapsed moved reconnected : ℕ) (z : Sizes) where
  -- a first call that is refused ends the run
  not-refused : (next : ℕ → State → Ran × State) (s : State) (r : Result) (k : ℕ) (b : Bool)
      → (after (finish s (cond b r (refused k))).0 (finish s (cond b r (refused k))).1 next).0 ≡ Finished collapsed moved reconnected z → b ≡ true
  not-refused next s r k true e = refl
  not-refused next s r k false e = ap is_finished e

  -- so intake gave no number
  finished-zero : (g : Setting) (s : State) → (run_passes g s).0 ≡ Finished collapsed moved reconnected z
      → intake (given (lengths_of (call_in g Pass.improve) s) (call_in g Pass.improve) s) ≡ 0
  unfolding run_passes called step
  finished-zero g s e =
      let c = call_in g Pass.improve in
      let k = intake (given (lengths_of c s) c s) in
      eqb-true k 0 (not-refused (λ n y. run_smooth g n y) s (result_of c.pass c (mesh_of s)) k (eqb k 0) e)

-- no float of an exact plot whose run gives its counts is a NaN
pub finished-numbers : (p : Plot) → Exact p → (collapsed moved reconnected : ℕ) (z : Sizes)
    → (run_passes (setting_of p) (placed p blank)).0 ≡ Finished collapsed moved reconnected z → NoNan p
unfolding placed given mesh_of
finished-numbers p whole collapsed moved reconnected z e =
    let c = call_in (setting_of p) Pass.improve in
    let s = placed p blank in
    let q = intake-passed (given (lengths_of c s) c s) (finished-zero collapsed moved reconnected z (setting_of p) s e) in
    let b = p.options.bounds in
    let bounds : bounds_in b ≡ true = and_left (bounds_in b) _ q.options in
    let a = whole.parameters-all in
    let d = whole.points-all in
    record {
      lo-number = point-number b.lo (and_left (sized_point b.lo) _ bounds);
      hi-number = point-number b.hi (and_left (sized_point b.hi) _ (and_right (sized_point b.lo) _ bounds));
      fields-number = fields_in p.count p.fields (and_right (leb p.count 8) (every sized_field (take p.count p.fields)) q.fields);
      parameters-number = front-number (in_box b) (box-number b) p.parameters blank.parameters p.vertices (omega arith) q.parameters;
      points-number = front-number sized_point point-number p.points blank.points p.vertices (omega arith) q.points;
    }
