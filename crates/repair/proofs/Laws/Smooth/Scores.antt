-- Scores in units of 2 ^ -1074: a score of points within 2 ^ 20 is exact, and the lowest of a list is at most each of them and at least
-- whatever all of them are at least. Assumes nothing.
use mathlib.Core.Path.{◌≡◌, refl, sym, subst}
use mathlib.Core.Logic.{⊎_elim}
use mathlib.Core.Bool.{Bool, true, false, cond}
use mathlib.Core.List.Memᴰ
use mathlib.Core.List.{List, [], ◌∷◌, map, Memᴰ}
use Prim.Native.Nat.{ℕ, ◌+◌, ◌*◌, ◌^◌, ◌≤◌}
use native.Mathlib.Omega.{arith}
use native.Mathlib.Nat.{le_trans, mul-le-mul_left, le-add_right}
use lib.Dec.{T, ltb}
use lib.Ieee.{Float, binary64, lt, eq, fits}
use lib.Ieee.Fits.{cond-fits, div-fits}
use borrow.Author.Tests.{ltb-true, ltb-false}
use Rattle.geometry.specs.declared.point.Point.{Point}
use Rattle.geometry.specs.Float.{◌+₆₄◌, ◌*₆₄◌, ◌/₆₄◌, zero64, one64, absolute, smaller}
use Rattle.geometry.specs.Literals.{tenth, e_10}
use Rattle.geometry.specs.Root.{sqrt}
use Rattle.geometry.specs.Point.{determinant}
use Rattle.geometry.specs.Score.{R, squared_edges, score, lowest_from, lowest}
use Rattle.geometry.specs.Units.{units_of}
use Rattle.geometry.proofs.Laws.Float.Tolerance.{above}
use Rattle.geometry.proofs.Laws.Score.Near.{Near}
use Rattle.geometry.proofs.Laws.Score.Finite.{score-not-negative}
use Rattle.repair.proofs.Laws.Improve.Scores.{exact-fits, exact-lt, one-exact}
use Rattle.mesh.specs.declared.element.Tet.{Tet}
use Rattle.mesh.specs.Words.{point_at}
use Rattle.mesh.specs.Measure.{score_of}
use Rattle.repair.specs.Wholeness.{Exact}

-- ---- points and scores

-- every vertex's point is within 2 ^ 20
abbrev pub AllNear : List Point → Type 0
AllNear ps = (v : ℕ) → Near 20 (point_at ps v)

pub score-fits : (a b c d : Point) → T (fits binary64 (score a b c d))
unfolding score
score-fits a b c d =
    cond-fits binary64 (eq (squared_edges a b c d *₆₄ sqrt (squared_edges a b c d)) zero64) zero64
    (R *₆₄ absolute (determinant a b c d) /₆₄ (squared_edges a b c d *₆₄ sqrt (squared_edges a b c d))) zero-fits
    (div-fits binary64 (R *₆₄ absolute (determinant a b c d)) (squared_edges a b c d *₆₄ sqrt (squared_edges a b c d)))
  where
    zero-fits : T (fits binary64 zero64)
    zero-fits = unfold fits in tt

pub is_true : (b : Bool) → T b → b ≡ true
is_true true t = refl
is_true false t = absurd t

-- the score of an element is exact
pub score-exact : (ps : List Point) → AllNear ps → (t : Tet) → Exact (score_of ps t)
score-exact ps near t = (
  is_true _ (score-fits (point_at ps t.a) (point_at ps t.b) (point_at ps t.c) (point_at ps t.d)),
  score-not-negative (point_at ps t.a) (point_at ps t.b) (point_at ps t.c) (point_at ps t.d) (near t.a) (near t.b) (near t.c) (near t.d),
)

-- ---- the order of exact values

-- a value above y + 1e-10 is at least y
pub above-exact : (x y : Float) → Exact x → Exact y → lt (y +₆₄ e_10) x ≡ true → units_of y ≤ units_of x
above-exact x y e f h = above x y (exact-fits x e) (exact-fits y f) e.1 f.1 h

-- the smaller of two: exact, at most both, and at least what both are at least
pub smaller-exact : (x y : Float) → Exact x → Exact y → Exact (smaller x y)
smaller-exact x y e f = go (lt y x)
  where
    go : (t : Bool) → Exact (cond t y x)
    go true = f
    go false = e

pub smaller-under : (x y : Float) → Exact x → Exact y → (units_of (smaller x y) ≤ units_of x) × (units_of (smaller x y) ≤ units_of y)
smaller-under x y e f = go (lt y x) (sym (exact-lt y x f e))
  where
    go : (t : Bool) → ltb (units_of y) (units_of x) ≡ t → (units_of (cond t y x) ≤ units_of x) × (units_of (cond t y x) ≤ units_of y)
    go true h = let l = ltb-true (units_of y) (units_of x) h in (omega arith, omega arith)
    go false h = let l = ltb-false (units_of y) (units_of x) h in (omega arith, omega arith)

pub smaller-over : (F : ℕ) (x y : Float) → F ≤ units_of x → F ≤ units_of y → F ≤ units_of (smaller x y)
smaller-over F x y h k = go (lt y x)
  where
    go : (t : Bool) → F ≤ units_of (cond t y x)
    go true = k
    go false = h

-- ---- the lowest score of a list of elements

module _ (score : Tet → Float) (exact : (t : Tet) → Exact (score t)) where
  from-exact : (m : Float) → Exact m → (ts : List Tet) → Exact (lowest_from m (map score ts))
  unfolding lowest_from
  from-exact m e [] = e
  from-exact m e (t ∷ ts) = from-exact (smaller m (score t)) (smaller-exact m (score t) e (exact t)) ts

  from_first : (m : Float) → Exact m → (ts : List Tet) → units_of (lowest_from m (map score ts)) ≤ units_of m
  unfolding lowest_from
  from_first m e [] = omega arith
  from_first m e (t ∷ ts) =
      le_trans (from_first (smaller m (score t)) (smaller-exact m (score t) e (exact t)) ts) (smaller-under m (score t) e (exact t)).0

  from-under : (m : Float) → Exact m → (ts : List Tet) {t : Tet} → Memᴰ t ts → units_of (lowest_from m (map score ts)) ≤ units_of (score t)
  unfolding lowest_from
  from-under m e [] k = absurd (Memᴰ.not-nil k)
  from-under m e (u ∷ ts) {t} k =
      let e' = smaller-exact m (score u) e (exact u) in
      ⊎_elim
      (λ q. le_trans (from_first (smaller m (score u)) e' ts) (subst (λ v. units_of (smaller m (score u)) ≤ units_of (score v)) (sym q) (smaller-under m (score u) e (exact u)).1))
      (λ q. from-under (smaller m (score u)) e' ts q) (Memᴰ.cases_cons k)

  from-over : (F : ℕ) (m : Float) → F ≤ units_of m → (ts : List Tet) → ((t : Tet) → Memᴰ t ts → F ≤ units_of (score t)) → F ≤ units_of (lowest_from m (map score ts))
  unfolding lowest_from
  from-over F m h [] k = h
  from-over F m h (t ∷ ts) k = from-over F (smaller m (score t)) (smaller-over F m (score t) h (k t (Memᴰ.head refl))) ts (λ u q. k u (Memᴰ.tail q))

  -- it is exact
  pub lowest-exact : (ts : List Tet) → Exact (lowest (map score ts))
  unfolding lowest
  lowest-exact ts = from-exact one64 one-exact ts

  -- at most 1
  pub lowest-one : (ts : List Tet) → units_of (lowest (map score ts)) ≤ units_of one64
  unfolding lowest
  lowest-one ts = from_first one64 one-exact ts

  -- at most each score
  pub lowest-under : (ts : List Tet) {t : Tet} → Memᴰ t ts → units_of (lowest (map score ts)) ≤ units_of (score t)
  unfolding lowest
  lowest-under ts k = from-under one64 one-exact ts k

  -- at least what 1 and each score are at least
  pub lowest-over : (F : ℕ) → F ≤ units_of one64 → (ts : List Tet) → ((t : Tet) → Memᴰ t ts → F ≤ units_of (score t)) → F ≤ units_of (lowest (map score ts))
  unfolding lowest
  lowest-over F h ts k = from-over F one64 h ts k

  -- at least that of more elements
  pub lowest-fewer : (some all : List Tet) → ((t : Tet) → Memᴰ t some → Memᴰ t all) → units_of (lowest (map score all)) ≤ units_of (lowest (map score some))
  lowest-fewer some all h = lowest-over (units_of (lowest (map score all))) (lowest-one all) some (λ t m. lowest-under all (h t m))

-- ---- in the terms of demand 3

pub tenth-exact : Exact tenth
unfolding fits
tenth-exact = (refl, tt)

-- a score that is at least the lowest one before is at least the smaller of 0.1 and that one, nothing taken off
pub no-loss : (before score : Float) → Exact before → units_of before ≤ units_of score → 10 ^ 12 * units_of (smaller tenth before) ≤ 10 ^ 12 * units_of score + 2 * 2 ^ 1074 * 0
no-loss before score e h =
    le_trans (mul-le-mul_left (10 ^ 12) (le_trans (smaller-under tenth before tenth-exact e).1 h)) (le-add_right (10 ^ 12 * units_of score) (2 * 2 ^ 1074 * 0))
