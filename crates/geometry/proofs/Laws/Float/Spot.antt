-- The place of a finite value on a line of units, from 2 ^ 2098 units below 0 on: the order of the values is that of their places, and a difference is the places', rounded. Assumes nothing.
use Rattle.std.proofs.Common.{◌≡◌, ℕ, zero, suc, ◌+◌, ◌-◌, ◌*◌, ◌^◌, ◌<◌, ◌≤◌, Bool, true, false, ◌||◌, T, eqb, ltb, ◌⊎◌, ℤ, sym, refl, ap, ◌∙◌, subst, inl, inr, le_of_eq, le_of_lt, le_antisymm, mul-pos, zero-mul, not-le_of_lt, arith, eqb→eq, ltb→lt, pow_pos, ltb-false, le-ltb}
use mathlib.Core.Bool.{beq}
use lib.Ieee.{Float, nan, inf, fin, binary64, up, down, lt, eq, le, below, level, fits}
use lib.Ieee.Fits.{down_pos, and_l, and_r}
use Rattle.geometry.specs.Units.{units_of}
use Rattle.geometry.specs.inside.Units.{Within}
use Rattle.geometry.proofs.Laws.Float.Units.{units-exact, units-is, test, place}

-- the place, for a K above the units
abbrev pub spot_at : ℕ → Bool → ℕ → ℕ
spot_at K true u = K - u
spot_at K false u = K + u

abbrev pub spot : Float → ℕ
spot nan = 0
spot (inf s) = 0
spot (fin s m e) = spot_at (2 ^ 2098) s (units_of (fin s m e))

pub inside : (s : Bool) (m : ℕ) (e : ℤ) → T (fits binary64 (fin s m e)) → units_of (fin s m e) < 2 ^ 2098
inside s m e f = let p = place s m e f in subst (λ (z : ℕ). z < 2 ^ 2098) (sym (units-is s m e (m * 2 ^ p.j) p.exact)) p.under

-- ---- the order of two values, by their units
pub record Pair (m : ℕ) (e : ℤ) (n : ℕ) (d : ℤ) (X Y : ℕ) : Type 0 where
  pub left : m * up e * 2 ^ 1074 ≡ X * down e
  pub right : n * up d * 2 ^ 1074 ≡ Y * down d

less : (m : ℕ) (e : ℤ) (n : ℕ) (d : ℤ) (X Y : ℕ) → Pair m e n d X Y → ltb (m * up e * down d) (n * up d * down e) ≡ ltb X Y
less m e n d X Y p = test (m * up e) (n * up d) (down e) (down d) X Y (down_pos e) (down_pos d) p.left p.right

flip : (m : ℕ) (e : ℤ) (n : ℕ) (d : ℤ) (X Y : ℕ) → Pair m e n d X Y → Pair n d m e Y X
flip m e n d X Y p = record { left = p.right; right = p.left }

units-same : (m : ℕ) (e : ℤ) (n : ℕ) (d : ℤ) (X Y : ℕ) → Pair m e n d X Y → m * up e * down d ≡ n * up d * down e → X ≡ Y
units-same m e n d X Y p h =
    le_antisymm
    (ltb-false Y X (sym (less n d m e Y X (flip m e n d X Y p)) ∙ le-ltb (n * up d * down e) (m * up e * down d) (le_of_eq h)))
    (ltb-false X Y (sym (less m e n d X Y p) ∙ le-ltb (m * up e * down d) (n * up d * down e) (le_of_eq (sym h))))

units-less : (m : ℕ) (e : ℤ) (n : ℕ) (d : ℤ) (X Y : ℕ) → Pair m e n d X Y → T (ltb (m * up e * down d) (n * up d * down e)) → X < Y
units-less m e n d X Y p t = ltb→lt X Y (subst T (less m e n d X Y p) t)

or_split : (a b : Bool) → T (a || b) → T a ⊎ T b
or_split true b t = inl tt
or_split false b t = inr t

-- ---- `lt` and `eq` at each pair of signs
signs : (K : ℕ) (s t : Bool) (m : ℕ) (e : ℤ) (n : ℕ) (d : ℤ) (X Y : ℕ) → X < K → Y < K → Pair m e n d X Y → T (below s (m * up e * down d) t (n * up d * down e)) → spot_at K s X < spot_at K t Y
signs K false false m e n d X Y a b p h = plus K X Y (units-less m e n d X Y p h)
  where
    plus : (K X Y : ℕ) → X < Y → K + X < K + Y
    plus K X Y h = omega arith
signs K false true m e n d X Y a b p h = absurd h
signs K true true m e n d X Y a b p h = minus K X Y a b (units-less n d m e Y X (flip m e n d X Y p) h)
  where
    minus : (K X Y : ℕ) → X < K → Y < K → Y < X → K - X < K - Y
    minus K X Y a b h = omega arith
signs K true false m e n d X Y a b p h = apart K X Y a (some X Y (λ x y. none x y (ltb→lt 0 (m * up e * down d + n * up d * down e) h)))
  where
    some : (X Y : ℕ) → (X ≡ 0 → Y ≡ 0 → ⊥) → 0 < X + Y
    some zero zero h = absurd (h refl refl)
    some zero (suc Y) h = omega arith
    some (suc X) Y h = omega arith

    apart : (K X Y : ℕ) → X < K → 0 < X + Y → K - X < K + Y
    apart K X Y a h = omega arith

    gone : (n : ℕ) (d : ℤ) (Y w : ℕ) → n * up d * 2 ^ 1074 ≡ Y * down d → Y ≡ 0 → n * up d * w ≡ 0
    gone n d Y w h y = ap (λ (z : ℕ). z * w) (nil (n * up d) (2 ^ 1074) (pow_pos 1074) (h ∙ ap (λ (z : ℕ). z * down d) y ∙ zero-mul (down d))) ∙ zero-mul w
      where
        nil : (a L : ℕ) → 0 < L → a * L ≡ 0 → a ≡ 0
        nil zero L l h = refl
        nil (suc a) L l h = absurd (not-le_of_lt (mul-pos (suc-pos a) l) (le_of_eq h))
          where
            suc-pos : (a : ℕ) → 0 < suc a
            suc-pos a = omega arith

    none : X ≡ 0 → Y ≡ 0 → 0 < m * up e * down d + n * up d * down e → ⊥
    none x y h = clash (m * up e * down d) (n * up d * down e) (gone m e X (down d) p.left x) (gone n d Y (down e) p.right y) h
      where
        clash : (a b : ℕ) → a ≡ 0 → b ≡ 0 → 0 < a + b → ⊥
        clash a b x y h = omega arith

evens : (K : ℕ) (s t : Bool) (m : ℕ) (e : ℤ) (n : ℕ) (d : ℤ) (X Y : ℕ) → X < K → Y < K → Pair m e n d X Y → T (level s (m * up e * down d) t (n * up d * down e)) → spot_at K s X ≡ spot_at K t Y
evens K s t m e n d X Y a b p h =
    let A = m * up e * down d in
    let B = n * up d * down e in
    let q : A ≡ B = eqb→eq A B (and_l (eqb A B) (beq s t || eqb A 0) h) in
    go s t (units-same m e n d X Y p q) (and_r (eqb A B) (beq s t || eqb A 0) h)
  where
    nil : (a X c : ℕ) → a ≡ 0 → a * 2 ^ 1074 ≡ X * c → 0 < c → X ≡ 0
    nil a zero c z h C = refl
    nil a (suc X) c z h C = absurd (not-le_of_lt (mul-pos (suc-pos X) C) (le_of_eq (sym h ∙ ap (λ (w : ℕ). w * 2 ^ 1074) z ∙ zero-mul (2 ^ 1074))))
      where
        suc-pos : (a : ℕ) → 0 < suc a
        suc-pos a = omega arith

    first : (a w : ℕ) → 0 < w → a * w ≡ 0 → a ≡ 0
    first zero w W h = refl
    first (suc a) w W h = absurd (not-le_of_lt (mul-pos (suc-pos a) W) (le_of_eq h))
      where
        suc-pos : (a : ℕ) → 0 < suc a
        suc-pos a = omega arith

    zero-x : T (eqb (m * up e * down d) 0) → X ≡ 0
    zero-x t = nil (m * up e) X (down e) (first (m * up e) (down d) (down_pos d) (eqb→eq (m * up e * down d) 0 t)) p.left (down_pos e)

    both : (K X Y : ℕ) → X ≡ 0 → X ≡ Y → K - X ≡ K + Y
    both K X Y x y = omega arith

    both' : (K X Y : ℕ) → X ≡ 0 → X ≡ Y → K + X ≡ K - Y
    both' K X Y x y = omega arith

    go : (s t : Bool) → X ≡ Y → T (beq s t || eqb (m * up e * down d) 0) → spot_at K s X ≡ spot_at K t Y
    go true true q h = ap (λ (z : ℕ). K - z) q
    go false false q h = ap (λ (z : ℕ). K + z) q
    go true false q h = both K X Y (zero-x h) q
    go false true q h = both' K X Y (zero-x h) q

-- ---- the order
pub lt-spot : (B C : ℕ) (x y : Float) → T (fits binary64 x) → T (fits binary64 y) → Within B x → Within C y → T (lt x y) → spot x < spot y
unfolding lt
lt-spot B C nan y f g w v h = absurd w
lt-spot B C (inf s) y f g w v h = absurd w
lt-spot B C (fin s m e) nan f g w v h = absurd v
lt-spot B C (fin s m e) (inf t) f g w v h = absurd v
lt-spot B C (fin s m e) (fin t n d) f g w v h =
    signs (2 ^ 2098) s t m e n d (units_of (fin s m e)) (units_of (fin t n d)) (inside s m e f) (inside t n d g) (record { left = units-exact s m e f; right = units-exact t n d g }) h

eq-spot : (B C : ℕ) (x y : Float) → T (fits binary64 x) → T (fits binary64 y) → Within B x → Within C y → T (eq x y) → spot x ≡ spot y
unfolding eq
eq-spot B C nan y f g w v h = absurd w
eq-spot B C (inf s) y f g w v h = absurd w
eq-spot B C (fin s m e) nan f g w v h = absurd v
eq-spot B C (fin s m e) (inf t) f g w v h = absurd v
eq-spot B C (fin s m e) (fin t n d) f g w v h =
    evens (2 ^ 2098) s t m e n d (units_of (fin s m e)) (units_of (fin t n d)) (inside s m e f) (inside t n d g) (record { left = units-exact s m e f; right = units-exact t n d g }) h

pub le-spot : (B C : ℕ) (x y : Float) → T (fits binary64 x) → T (fits binary64 y) → Within B x → Within C y → T (le x y) → spot x ≤ spot y
unfolding le
le-spot B C x y f g w v h = elim (or_split (lt x y) (eq x y) h) [ inl t ↦ le_of_lt (lt-spot B C x y f g w v t) | inr t ↦ le_of_eq (eq-spot B C x y f g w v t) ]
