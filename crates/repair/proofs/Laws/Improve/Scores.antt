-- Scores in units of 2 ^ -1074: the lowest of a list, the smaller of two, and what the acceptance test of a collapse says of each new
-- element's score: it is at least the smaller of 0.1 and the lowest old one, less 2e-12. Assumes nothing.
use mathlib.Core.Path.{◌≡◌, refl, sym, subst, ◌∙◌}
use mathlib.Core.Logic.{inl, inr}
use mathlib.Core.Bool.{Bool, true, false, not, ◌&&◌}
use mathlib.Core.List.Memᴰ
use mathlib.Core.List.{List, [], ◌∷◌, map, Memᴰ}
use Prim.Native.Nat.{ℕ, suc, ◌+◌, ◌*◌, ◌^◌, ◌≤◌}
use native.Mathlib.Nat.{le_trans, le_of_lt, le_of_eq, mul-le-mul_left}
use native.Mathlib.Omega.{arith}
use borrow.Author.Tests.{ltb-true, ltb-false, not-true}
use lib.Dec.{T, ltb, lit≤}
use lib.Ieee.{Float, binary64, lt, fits}
use Rattle.geometry.specs.Float.{◌+₆₄◌, one64, smaller}
use Rattle.geometry.specs.Literals.{tenth, e_12}
use Rattle.geometry.specs.Units.{units_of}
use Rattle.geometry.specs.Score.{lowest_from, lowest}
use Rattle.geometry.proofs.Laws.Float.Units.{lt-units}
use Rattle.geometry.proofs.Laws.Float.Tolerance.{tolerance}
use Rattle.mesh.specs.declared.element.Tet.{Tet}
use Rattle.mesh.specs.Tests.{every}
use Rattle.mesh.specs.Measure.{Measure, lowest_of}
use Rattle.mesh.proofs.Laws.Complex.Sets.{split, and-fst, and-snd}
use Rattle.mesh.proofs.Laws.Link.Members.{every-elim}
use Rattle.repair.specs.Improve.{gains}
use Rattle.repair.specs.Wholeness.{Exact}

-- ---- exact values

pub exact-fits : (x : Float) → Exact x → T (fits binary64 x)
exact-fits x e = subst T (sym e.0) tt

pub exact-lt : (x y : Float) → Exact x → Exact y → lt x y ≡ ltb (units_of x) (units_of y)
exact-lt x y ex ey = lt-units x y (exact-fits x ex) (exact-fits y ey) ex.1 ey.1

pub tenth-exact : Exact tenth
unfolding fits
tenth-exact = (refl, tt)

pub one-exact : Exact one64
unfolding fits
one-exact = (refl, tt)

pub tenth-one : units_of tenth ≤ units_of one64
unfolding units_of
tenth-one = lit≤ tt

-- ---- the smaller of two

-- it is one of the two
pub smaller-keeps : (G : Float → Type 0) (x y : Float) → G x → G y → G (smaller x y)
smaller-keeps G x y gx gy = elim (split (lt y x)) [ inl h ↦ rw h gy | inr h ↦ rw h gx ]

pub smaller-left : (x y : Float) → Exact x → Exact y → units_of (smaller x y) ≤ units_of x
smaller-left x y ex ey =
    elim (split (lt y x)) [
      | inl h ↦ rw h (le_of_lt (ltb-true (units_of y) (units_of x) (sym (exact-lt y x ey ex) ∙ h)))
      | inr h ↦ rw h (le_of_eq refl)
    ]

pub smaller-right : (x y : Float) → Exact x → Exact y → units_of (smaller x y) ≤ units_of y
smaller-right x y ex ey =
    elim (split (lt y x)) [
      | inl h ↦ rw h (le_of_eq refl)
      | inr h ↦ rw h (ltb-false (units_of y) (units_of x) (sym (exact-lt y x ey ex) ∙ h))
    ]

-- ---- the lowest of a list

lowest_from-keeps : (G : Float → Type 0) (m : Float) (xs : List Float) → G m → ((x : Float) → Memᴰ x xs → G x) → G (lowest_from m xs)
unfolding lowest_from
lowest_from-keeps G m [] g h = g
lowest_from-keeps G m (x ∷ xs) g h = lowest_from-keeps G (smaller m x) xs (smaller-keeps G m x g (h x (Memᴰ.head refl))) (λ y k. h y (Memᴰ.tail k))

-- what 1 and every score have, the lowest has
pub lowest-keeps : (G : Float → Type 0) (xs : List Float) → G one64 → ((x : Float) → Memᴰ x xs → G x) → G (lowest xs)
unfolding lowest
lowest-keeps G xs g h = lowest_from-keeps G one64 xs g h

lowest_from-first : (m : Float) (xs : List Float) → Exact m → ((x : Float) → Memᴰ x xs → Exact x) → units_of (lowest_from m xs) ≤ units_of m
unfolding lowest_from
lowest_from-first m [] e h = le_of_eq refl
lowest_from-first m (x ∷ xs) e h =
    let ex = h x (Memᴰ.head refl) in
    le_trans (lowest_from-first (smaller m x) xs (smaller-keeps Exact m x e ex) (λ y k. h y (Memᴰ.tail k))) (smaller-left m x e ex)

lowest_from-least : (m : Float) {y : Float} (xs : List Float) → Exact m → ((x : Float) → Memᴰ x xs → Exact x) → Memᴰ y xs → units_of (lowest_from m xs) ≤ units_of y
unfolding lowest_from
lowest_from-least m [] e h k = absurd (Memᴰ.not-nil k)
lowest_from-least m {y} (x ∷ xs) e h k =
    let ex = h x (Memᴰ.head refl) in
    let es = smaller-keeps Exact m x e ex in
    let hs : (z : Float) → Memᴰ z xs → Exact z = λ z i. h z (Memᴰ.tail i) in
    elim (Memᴰ.cases_cons k) [
      | inl q ↦ rw q (le_trans (lowest_from-first (smaller m x) xs es hs) (smaller-right m x e ex))
      | inr i ↦ lowest_from-least (smaller m x) xs es hs i
    ]

-- the lowest is no higher than any score
pub lowest-least : {y : Float} (xs : List Float) → ((x : Float) → Memᴰ x xs → Exact x) → Memᴰ y xs → units_of (lowest xs) ≤ units_of y
unfolding lowest
lowest-least xs h k = lowest_from-least one64 xs one-exact h k

-- ---- the floor

-- U units less 2e-12 for each of k vertices replaced
abbrev pub Floor : ℕ → ℕ → Float → Type 0
Floor U k x = 10 ^ 12 * U ≤ 10 ^ 12 * units_of x + 2 * 2 ^ 1074 * k

-- what is at least U is above the floor
pub floor-of : (U k : ℕ) (x : Float) → U ≤ units_of x → Floor U k x
floor-of U k x h = widen (10 ^ 12) U (units_of x) (2 * 2 ^ 1074 * k) (mul-le-mul_left (10 ^ 12) h)
  where
    widen : (K U X E : ℕ) → K * U ≤ K * X → K * U ≤ K * X + E
    widen K U X E h = omega arith

-- one vertex more
floor-next : (K U M S D k : ℕ) → K * U ≤ K * M + D * k → K * M ≤ K * S + D → K * U ≤ K * S + D * suc k
floor-next K U M S D k h l = omega arith

pub floor-more : (U k : ℕ) (x : Float) → Floor U k x → Floor U (suc k) x
floor-more U k x h = widen (10 ^ 12 * U) (10 ^ 12 * units_of x) (2 * 2 ^ 1074) k h
  where
    widen : (A X D k : ℕ) → A ≤ X + D * k → A ≤ X + D * suc k
    widen A X D k h = omega arith

-- ---- the acceptance test

module _ (μ : Measure) (exact : (t : Tet) → Exact (μ.score t)) (old kept : List Tet) (g : gains μ old kept ≡ true) where
  tested : Tet → Bool
  tested t = μ.above t && not (lt (μ.score t +₆₄ e_12) (smaller (lowest_of μ old) tenth))

  all_tested : every tested kept ≡ true
  unfolding tested
  all_tested = and-fst (every (λ t. μ.above t && not (lt (μ.score t +₆₄ e_12) (smaller (lowest_of μ old) tenth))) kept) _ g

  -- every kept element has its determinant above 0
  pub gains-above : (t : Tet) → Memᴰ t kept → μ.above t ≡ true
  unfolding tested
  gains-above t m = and-fst (μ.above t) (not (lt (μ.score t +₆₄ e_12) (smaller (lowest_of μ old) tenth))) (every-elim tested kept all_tested m)

  -- where each old score is above the floor at k, each kept one is above the floor at k + 1
  pub gains-floor : (U k : ℕ) → U ≤ units_of tenth → ((t : Tet) → Memᴰ t old → Floor U k (μ.score t)) → (t : Tet) → Memᴰ t kept → Floor U (suc k) (μ.score t)
  unfolding tested
  gains-floor U k low h t m =
      let M = smaller (lowest_of μ old) tenth in
      let s = μ.score t in
      let pass : lt (s +₆₄ e_12) M ≡ false = not-true (lt (s +₆₄ e_12) M) (and-snd (μ.above t) (not (lt (s +₆₄ e_12) M)) (every-elim tested kept all_tested m)) in
      let lowest-exact : Exact (lowest_of μ old) = lowest-keeps Exact (map μ.score old) one-exact old-exact in
      let M-exact : Exact M = smaller-keeps Exact (lowest_of μ old) tenth lowest-exact tenth-exact in
      let M-floor : Floor U k M = smaller-keeps (Floor U k) (lowest_of μ old) tenth (lowest-keeps (Floor U k) (map μ.score old) (floor-of U k one64 (le_trans low tenth-one)) old-floor) (floor-of U k tenth low) in
      floor-next (10 ^ 12) U (units_of M) (units_of s) (2 * 2 ^ 1074) k M-floor
      (tolerance s M (exact-fits s (exact t)) (exact-fits M M-exact) (exact t).1 M-exact.1 (smaller-right (lowest_of μ old) tenth lowest-exact tenth-exact) pass)
    where
      old-exact : (x : Float) → Memᴰ x (map μ.score old) → Exact x
      old-exact x i = let r = Memᴰ.of_map μ.score old i in subst Exact r.2 (exact r.0)

      old-floor : (x : Float) → Memᴰ x (map μ.score old) → Floor U k x
      old-floor x i = let r = Memᴰ.of_map μ.score old i in subst (Floor U k) r.2 (h r.0 r.1)
