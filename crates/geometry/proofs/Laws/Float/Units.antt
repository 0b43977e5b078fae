-- What binary64 holds is a whole number of units of 2 ^ -1074, with at most 53 digits and zeros after them. The order, and a sum, of values that are not negative, by those numbers. Assumes nothing.
use Rattle.std.proofs.Common.{◌≡◌, ℕ, zero, suc, ◌+◌, ◌-◌, ◌*◌, ◌/◌, ◌%◌, ◌^◌, ◌<◌, ◌≤◌, Bool, true, false, cond, ◌&&◌, T, eqb, ltb, leb, ℤ, pos, negsuc, sym, refl, ap, ◌∙◌, subst, zero-le, lt_of_lt_of_le, le_of_suc-le-suc, lt_irrefl, zero-lt-suc, mul_assoc, mul_comm, add-mul, lt_of_mul-lt-mul_right, mul-lt-mul_of_pos_right, mul-pos, lt_of_not-le, zero-add, zero-mul, mul-one, mul_right_comm, not-le_of_lt, mul-div_cancel, arith, lit<, ltb→lt, leb→le, pow_pos, pow-add, ltb-false, ltb-true, le-ltb, lt-ltb}
use lib.Pow.{pow-lt}
use lib.Ieee.{Float, nan, inf, fin, binary64, up, down, round, sum, add, lt, fits}
use lib.Ieee.Fits.{up_pos, down_pos, and_l, and_r}
use lib.Ieee.Exact.{HasValue}
use lib.Ieee.Scale.{round_same, grid}
use Rattle.geometry.specs.Units.{units_of, NotNegative}
use Rattle.geometry.proofs.Laws.Float.Grid.{grid-exact}

-- ---- m * 2 ^ j units, m below 2 ^ 53
pub record Place (m : ℕ) (e : ℤ) : Type 0 where
  pub j : ℕ
  pub small : m < 2 ^ 53
  pub exact : m * up e * 2 ^ 1074 ≡ m * 2 ^ j * down e
  pub under : m * 2 ^ j < 2 ^ 2098

pow_le_back : (a l : ℕ) → 2 ^ a ≤ 2 ^ l → a ≤ l
pow_le_back a l h = le_of_suc-le-suc (lt_of_not-le (λ (g : suc l ≤ a). lt_irrefl (2 ^ l) (lt_of_lt_of_le (pow-lt g) h)))

reaches : (m j : ℕ) (e : ℤ) → m * up e * 2 ^ 1074 ≡ m * 2 ^ j * down e → m * up e < 2 ^ 1024 * down e → m * 2 ^ j < 2 ^ 2098
reaches m j e x h =
    lt_of_mul-lt-mul_right (down e)
    (subst (λ (z : ℕ). z < 2 ^ 2098 * down e) x
    (subst (λ (z : ℕ). m * up e * 2 ^ 1074 < z) (mul_right_comm (2 ^ 1024) (down e) (2 ^ 1074)) (mul-lt-mul_of_pos_right h (pow_pos 1074))))

place_of : (m : ℕ) (e : ℤ) → m < 2 ^ 53 → down e ≤ 2 ^ 1074 → m * up e < 2 ^ 1024 * down e → Place m e
place_of m (pos a) s d t =
    let x : m * 2 ^ a * 2 ^ 1074 ≡ m * 2 ^ (a + 1074) * 1 = mul_assoc m (2 ^ a) (2 ^ 1074) ∙ ap (λ (z : ℕ). m * z) (sym (pow-add 2 a 1074)) ∙ sym (mul-one (m * 2 ^ (a + 1074))) in
    record { j = a + 1074; small = s; exact = x; under = reaches m (a + 1074) (pos a) x t }
place_of m (negsuc a) s d t =
    let l : suc a ≤ 1074 = pow_le_back (suc a) 1074 d in
    let x : m * 1 * 2 ^ 1074 ≡ m * 2 ^ (1074 - suc a) * 2 ^ suc a =
    ap (λ (z : ℕ). z * 2 ^ 1074) (mul-one m) ∙ ap (λ (z : ℕ). m * 2 ^ z) (join a l) ∙ ap (λ (z : ℕ). m * z) (pow-add 2 (1074 - suc a) (suc a)) ∙ sym (mul_assoc m (2 ^ (1074 - suc a)) (2 ^ suc a)) in
    record { j = 1074 - suc a; small = s; exact = x; under = reaches m (1074 - suc a) (negsuc a) x t }
  where
    join : (a : ℕ) → suc a ≤ 1074 → 1074 ≡ 1074 - suc a + suc a
    join a h = omega arith

pub place : (s : Bool) (m : ℕ) (e : ℤ) → T (fits binary64 (fin s m e)) → Place m e
unfolding fits
place s zero e h = record { j = 0; small = lit< tt; exact = ap (λ (z : ℕ). z * 2 ^ 1074) (zero-mul (up e)) ∙ zero-mul (2 ^ 1074) ∙ sym (zero-mul (down e)); under = lit< {m = 0} {n = 2 ^ 2098} tt }
place s (suc m) e h =
    let A = eqb (suc m % 2) 1 in
    let B = ltb (suc m) (2 ^ 53) in
    let C = leb (down e) (2 ^ 1074) in
    let D = ltb (suc m * up e) (2 ^ 1024 * down e) in
    place_of (suc m) e (ltb→lt (suc m) (2 ^ 53) (and_r A B (and_l (A && B) C (and_l (A && B && C) D h)))) (leb→le (down e) (2 ^ 1074) (and_r (A && B) C (and_l (A && B && C) D h)))
    (ltb→lt (suc m * up e) (2 ^ 1024 * down e) (and_r (A && B && C) D h))

-- ---- `units_of` is exact
pub units-is : (s : Bool) (m : ℕ) (e : ℤ) (a : ℕ) → m * up e * 2 ^ 1074 ≡ a * down e → units_of (fin s m e) ≡ a
unfolding units_of
units-is s m e a h = ap (λ (z : ℕ). z / down e) h ∙ mul-div_cancel a (down_pos e)

pub units-exact : (s : Bool) (m : ℕ) (e : ℤ) → T (fits binary64 (fin s m e)) → m * up e * 2 ^ 1074 ≡ units_of (fin s m e) * down e
units-exact s m e h = let p = place s m e h in p.exact ∙ ap (λ (z : ℕ). z * down e) (sym (units-is s m e (m * 2 ^ p.j) p.exact))

pub units-of-value : (x : Float) (s : Bool) (a : ℕ) → HasValue x s a (2 ^ 1074) → units_of x ≡ a
units-of-value nan s a h = absurd h
units-of-value (inf t) s a h = absurd h
units-of-value (fin t m e) s a h = units-is t m e a h.1

-- a value rounds to itself
pub units-grid : (x : Float) → T (fits binary64 x) → NotNegative x → grid binary64 (units_of x) (2 ^ 1074) ≡ units_of x
units-grid nan f n = absurd n
units-grid (inf s) f n = absurd n
units-grid (fin s m e) f n =
    let p = place s m e f in
    subst (λ (z : ℕ). grid binary64 z (2 ^ 1074) ≡ z) (sym (units-is s m e (m * 2 ^ p.j) p.exact)) (grid-exact m p.j p.small p.under)

pub units_under : (x : Float) → T (fits binary64 x) → NotNegative x → units_of x < 2 ^ 2098
units_under nan f n = absurd n
units_under (inf s) f n = absurd n
units_under (fin s m e) f n = let p = place s m e f in subst (λ (z : ℕ). z < 2 ^ 2098) (sym (units-is s m e (m * 2 ^ p.j) p.exact)) p.under

-- ---- the order
cross : (a b c d X Y L : ℕ) → a * L ≡ X * c → b * L ≡ Y * d → X * c * d ≡ a * d * L
cross a b c d X Y L p q = ap (λ (z : ℕ). z * d) (sym p) ∙ mul_right_comm a L d

cross-lt : (a b c d X Y L : ℕ) → 0 < c → 0 < d → a * L ≡ X * c → b * L ≡ Y * d → a * d < b * c → 0 < L → X < Y
cross-lt a b c d X Y L C D p q h l =
    lt_of_mul-lt-mul_right (c * d)
    (subst (λ (z : ℕ). z < Y * (c * d)) (mul_right_comm a d L ∙ ap (λ (z : ℕ). z * d) p ∙ mul_assoc X c d)
    (subst (λ (z : ℕ). a * d * L < z) (mul_right_comm b c L ∙ ap (λ (z : ℕ). z * c) q ∙ mul_assoc Y d c ∙ ap (λ (z : ℕ). Y * z) (mul_comm d c)) (mul-lt-mul_of_pos_right h l)))

cross-le : (a b c d X Y L : ℕ) → 0 < c → 0 < d → a * L ≡ X * c → b * L ≡ Y * d → X < Y → 0 < L → a * d < b * c
cross-le a b c d X Y L C D p q h l =
    lt_of_mul-lt-mul_right L
    (subst (λ (z : ℕ). z < b * c * L) (sym (mul_right_comm a d L ∙ ap (λ (z : ℕ). z * d) p ∙ mul_assoc X c d))
    (subst (λ (z : ℕ). X * (c * d) < z) (sym (mul_right_comm b c L ∙ ap (λ (z : ℕ). z * c) q ∙ mul_assoc Y d c ∙ ap (λ (z : ℕ). Y * z) (mul_comm d c))) (mul-lt-mul_of_pos_right h (mul-pos C D))))

-- `lt` of two values that are not negative, as a test of their units
pub test : (a b c d X Y : ℕ) → 0 < c → 0 < d → a * 2 ^ 1074 ≡ X * c → b * 2 ^ 1074 ≡ Y * d → ltb (a * d) (b * c) ≡ ltb X Y
test a b c d X Y C D p q = go (ltb (a * d) (b * c)) (ltb X Y) refl refl
  where
    go : (t u : Bool) → ltb (a * d) (b * c) ≡ t → ltb X Y ≡ u → ltb (a * d) (b * c) ≡ ltb X Y
    go true true e f = e ∙ sym f
    go false false e f = e ∙ sym f
    go true false e f = absurd (not-le_of_lt (cross-lt a b c d X Y (2 ^ 1074) C D p q (ltb-true (a * d) (b * c) e) (pow_pos 1074)) (ltb-false X Y f))
    go false true e f = absurd (not-le_of_lt (cross-le a b c d X Y (2 ^ 1074) C D p q (ltb-true X Y f) (pow_pos 1074)) (ltb-false (a * d) (b * c) e))

none : (m u d : ℕ) → m ≡ 0 → m * u * d ≡ 0
none m u d e = ap (λ (z : ℕ). z * u * d) e ∙ ap (λ (z : ℕ). z * d) (zero-mul u) ∙ zero-mul d

no_less : (a b : ℕ) → b ≡ 0 → ltb a b ≡ false
no_less a b e = le-ltb a b (subst (λ (z : ℕ). z ≤ a) (sym e) zero-le)

pub lt-units : (x y : Float) → T (fits binary64 x) → T (fits binary64 y) → NotNegative x → NotNegative y → lt x y ≡ ltb (units_of x) (units_of y)
unfolding lt
lt-units nan y f g n k = absurd n
lt-units (inf s) y f g n k = absurd n
lt-units (fin true m e) nan f g n k = absurd k
lt-units (fin true m e) (inf t) f g n k = absurd k
lt-units (fin true m e) (fin true o d) f g n k =
    no_less (o * up d * down e) (m * up e * down d) (none m (up e) (down d) n) ∙ sym (no_less (units_of (fin true m e)) (units_of (fin true o d)) (units-is true o d 0 (none o (up d) (2 ^ 1074) k ∙ sym (zero-mul (down d)))))
lt-units (fin true m e) (fin false o d) f g n k =
    ap (λ (z : ℕ). ltb 0 (z + o * up d * down e)) (none m (up e) (down d) n)
    ∙ ap (λ (z : ℕ). ltb 0 z) (zero-add (o * up d * down e))
    ∙ ap (λ (z : ℕ). ltb z (o * up d * down e)) (sym (none m (up e) (down d) n))
    ∙ test (m * up e) (o * up d) (down e) (down d) (units_of (fin true m e)) (units_of (fin false o d)) (down_pos e) (down_pos d) (units-exact true m e f) (units-exact false o d g)
lt-units (fin false m e) nan f g n k = absurd k
lt-units (fin false m e) (inf t) f g n k = absurd k
lt-units (fin false m e) (fin true o d) f g n k = sym (no_less (units_of (fin false m e)) (units_of (fin true o d)) (units-is true o d 0 (none o (up d) (2 ^ 1074) k ∙ sym (zero-mul (down d)))))
lt-units (fin false m e) (fin false o d) f g n k = test (m * up e) (o * up d) (down e) (down d) (units_of (fin false m e)) (units_of (fin false o d)) (down_pos e) (down_pos d) (units-exact false m e f) (units-exact false o d g)

-- ---- x + y for an x that is not negative and a y above 0: the sum of the units, rounded
pub sums : (a b c d X Y : ℕ) → a * 2 ^ 1074 ≡ X * c → b * 2 ^ 1074 ≡ Y * d → (a * d + b * c) * 2 ^ 1074 ≡ (X + Y) * (c * d)
sums a b c d X Y p q =
    add-mul (a * d) (b * c) (2 ^ 1074)
    ∙ ap (λ (z : ℕ). z + b * c * 2 ^ 1074) (mul_right_comm a d (2 ^ 1074) ∙ ap (λ (z : ℕ). z * d) p ∙ mul_assoc X c d)
    ∙ ap (λ (z : ℕ). X * (c * d) + z) (mul_right_comm b c (2 ^ 1074) ∙ ap (λ (z : ℕ). z * c) q ∙ mul_assoc Y d c ∙ ap (λ (z : ℕ). Y * z) (mul_comm d c))
    ∙ sym (add-mul X Y (c * d))

from_zero : (a b c : ℕ) → a ≡ 0 → 0 < b → sum binary64 true a false b c ≡ round binary64 false (a + b) c
unfolding sum
from_zero a b c z p =
    ap (λ (t : Bool). cond t (round binary64 false (b - a) c) (round binary64 (ltb b a) (a - b) c)) (lt-ltb a b (subst (λ (w : ℕ). w < b) (sym z) p))
    ∙ ap (λ (w : ℕ). round binary64 false w c) (diff a b z)
  where
    diff : (a b : ℕ) → a ≡ 0 → b - a ≡ a + b
    diff a b z = omega arith

plain : (a b c : ℕ) → sum binary64 false a false b c ≡ round binary64 false (a + b) c
unfolding sum
plain a b c = refl

pub add-units : (x : Float) (n : ℕ) (d : ℤ) → T (fits binary64 x) → T (fits binary64 (fin false (suc n) d)) → NotNegative x → add binary64 x (fin false (suc n) d) ≡ round binary64 false (units_of x + units_of (fin false (suc n) d)) (2 ^ 1074)
unfolding add
add-units nan n d f g k = absurd k
add-units (inf s) n d f g k = absurd k
add-units (fin true m e) n d f g k =
    from_zero (m * up e * down d) (suc n * up d * down e) (down e * down d) (none m (up e) (down d) k) (mul-pos (mul-pos (zero-lt-suc n) (up_pos d)) (down_pos e))
    ∙ round_same binary64 false (m * up e * down d + suc n * up d * down e) (down e * down d) (units_of (fin true m e) + units_of (fin false (suc n) d)) (2 ^ 1074) (mul-pos (down_pos e) (down_pos d)) (pow_pos 1074)
    (sums (m * up e) (suc n * up d) (down e) (down d) (units_of (fin true m e)) (units_of (fin false (suc n) d)) (units-exact true m e f) (units-exact false (suc n) d g))
add-units (fin false m e) n d f g k =
    plain (m * up e * down d) (suc n * up d * down e) (down e * down d)
    ∙ round_same binary64 false (m * up e * down d + suc n * up d * down e) (down e * down d) (units_of (fin false m e) + units_of (fin false (suc n) d)) (2 ^ 1074) (mul-pos (down_pos e) (down_pos d)) (pow_pos 1074)
    (sums (m * up e) (suc n * up d) (down e) (down d) (units_of (fin false m e)) (units_of (fin false (suc n) d)) (units-exact false m e f) (units-exact false (suc n) d g))
