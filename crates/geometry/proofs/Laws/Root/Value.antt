-- `sqrt` by the fields of x's bit pattern: an infinity, a normal x, a subnormal x, a zero, and what is below 0 or a NaN, as `root` goes by them.
-- A positive x is m * 2 ^ a units of 2 ^ -2148, with an m of 53 digits. Assumes nothing.
use Rattle.std.proofs.Common.{◌≡◌, ℕ, zero, suc, ◌+◌, ◌-◌, ◌*◌, ◌/◌, ◌%◌, ◌^◌, ◌<◌, ◌≤◌, Bool, true, false, cond, not, T, eqb, leb, ℤ, sym, refl, ap, ◌∙◌, subst, true≢false, le_trans, le_of_eq, lt_of_lt_of_le, lt_of_le_of_lt, lt_irrefl, mul-le-mul_right, mod-eq_of_lt, zero-lt-suc, mul_assoc, mul-lt-mul_of_pos_right, mul-pos, lt_of_not-le, zero-mul, mul-one, not-le_of_lt, arith, lit≤, eqb→eq, pow_pos, pow_mono, pow-add, ne_eqb}
use lib.Dec.{nleb→lt}
use lib.Count.{count_leading_zeros, leading_top}
use lib.Ieee.{Float, nan, inf, fin, binary64, up, down, odd, lt, eq, level, of_fields, of_bits, to_bits, fits, is_nan}
use lib.Ieee.Fits.{up_pos, and_l}
use lib.Ieee.Exact.{HasValue, odd_sign}
use lib.Ieee.Bits.{of_bits-to_bits}
use borrow.Author.Tests.{lt-leb}
use Rattle.geometry.specs.Float.{zero64}
use Rattle.geometry.specs.Root.{number, operand, root_of, sqrt}
use Rattle.geometry.proofs.Laws.Root.Special.{sqrt-infinite, number-above, number_at}

-- ---- what is above 0 is no NaN
pub above_no_nan : (x : Float) → lt zero64 x ≡ true → T (not (is_nan x))
unfolding lt is_nan
above_no_nan nan h = absurd (true≢false (sym h))
above_no_nan (inf s) h = tt
above_no_nan (fin s m e) h = tt

-- ---- with the sign's bit set nothing is above 0
odd-negative : (q k : ℕ) → lt zero64 (odd 53 true q k 1074) ≡ false
unfolding lt odd
odd-negative zero k = refl
odd-negative (suc q) k = refl

negative : (w t : ℕ) → lt zero64 (of_fields binary64 true w t) ≡ false
unfolding of_fields lt
negative zero t = odd-negative t 0
negative (suc w) t = go (eqb (suc w) 2047) (eqb t 0)
  where
    go : (a b : Bool) → lt zero64 (cond a (cond b (inf true) nan) (odd 53 true (2 ^ 52 + t) w 1074)) ≡ false
    go true true = refl
    go true false = refl
    go false b = odd-negative (2 ^ 52 + t) w

of_bits_is : (b : ℕ) → of_bits binary64 b ≡ of_fields binary64 (leb (2 ^ 63) b) (b % 2 ^ 63 / 2 ^ 52) (b % 2 ^ 52)
unfolding of_bits
of_bits_is b = refl

pub bits_small : (x : Float) → T (fits binary64 x) → lt zero64 x ≡ true → to_bits binary64 x < 2 ^ 63
bits_small x f h =
    let b = to_bits binary64 x in
    nleb→lt (2 ^ 63) b (sign (leb (2 ^ 63) b) (ap (lt zero64) (sym (of_bits_is b) ∙ of_bits-to_bits binary64 x f) ∙ h))
  where
    sign : (s : Bool) → lt zero64 (of_fields binary64 s (to_bits binary64 x % 2 ^ 63 / 2 ^ 52) (to_bits binary64 x % 2 ^ 52)) ≡ true → T (not s)
    sign true e = absurd (true≢false (sym e ∙ negative (to_bits binary64 x % 2 ^ 63 / 2 ^ 52) (to_bits binary64 x % 2 ^ 52)))
    sign false e = tt

-- the fields of x's pattern
abbrev pub field : Float → ℕ
field x = to_bits binary64 x / 2 ^ 52

abbrev pub digits : Float → ℕ
digits x = to_bits binary64 x % 2 ^ 52

pub by-fields : (x : Float) → T (fits binary64 x) → lt zero64 x ≡ true → x ≡ of_fields binary64 false (field x) (digits x)
by-fields x f h =
    let b = to_bits binary64 x in
    let l = bits_small x f h in
    sym (of_bits-to_bits binary64 x f)
    ∙ of_bits_is b
    ∙ ap (λ (s : Bool). of_fields binary64 s (b % 2 ^ 63 / 2 ^ 52) (b % 2 ^ 52)) (above (2 ^ 63) b l)
    ∙ ap (λ (z : ℕ). of_fields binary64 false (z / 2 ^ 52) (b % 2 ^ 52)) (mod-eq_of_lt l)
  where
    above : (a b : ℕ) → b < a → leb a b ≡ false
    above a b h = lt-leb a b h

-- ---- the highest field: an infinity
at_ones : (t : ℕ) → of_fields binary64 false 2047 t ≡ cond (eqb t 0) (inf false) nan
unfolding of_fields
at_ones t = refl

pub is-infinite : (x : Float) → T (fits binary64 x) → lt zero64 x ≡ true → field x ≡ 2047 → x ≡ inf false
unfolding is_nan
is-infinite x f h e =
    let is : x ≡ cond (eqb (digits x) 0) (inf false) nan = by-fields x f h ∙ ap (λ (w : ℕ). of_fields binary64 false w (digits x)) e ∙ at_ones (digits x) in
    go (eqb (digits x) 0) is (above_no_nan x h)
  where
    go : (b : Bool) → x ≡ cond b (inf false) nan → T (not (is_nan x)) → x ≡ inf false
    go true e n = e
    go false e n = absurd (subst (λ (v : Float). T (not (is_nan v))) e n)

pub infinite : (x : Float) → T (fits binary64 x) → lt zero64 x ≡ true → field x ≡ 2047 → x ≡ sqrt x
infinite x f h e = let y = is-infinite x f h e in y ∙ sym (ap sqrt y ∙ sqrt-infinite)

-- ---- `sqrt` of a positive finite value, by its size in units
by_value : (x : Float) (A : ℕ) → 0 < A → HasValue x false A (2 ^ 1074) → sqrt x ≡ root_of (number (A * 2 ^ 1074))
unfolding sqrt
by_value x A p h = ap root_of (number_at x A p h)

-- ---- a normal x
normal-is : (w t : ℕ) → (w ≡ 2047 → ⊥) → 0 < w → HasValue (of_fields binary64 false w t) false ((2 ^ 52 + t) * 2 ^ (w - 1)) (2 ^ 1074)
unfolding of_fields
normal-is zero t n p = absurd (lt_irrefl 0 p)
normal-is (suc w) t n p =
    subst (λ (z : ℕ). HasValue (of_fields binary64 false (suc w) t) false ((2 ^ 52 + t) * 2 ^ z) (2 ^ 1074)) (less w)
    (subst (λ (b : Bool). HasValue (cond b (cond (eqb t 0) (inf false) nan) (odd 53 false (2 ^ 52 + t) w 1074)) false ((2 ^ 52 + t) * 2 ^ w) (2 ^ 1074)) (sym (ne_eqb (suc w) 2047 n)) (odd_sign 53 false (2 ^ 52 + t) w 1074))
  where
    less : (w : ℕ) → w ≡ suc w - 1
    less w = omega arith

pub normal-value : (x : Float) → T (fits binary64 x) → lt zero64 x ≡ true → (field x ≡ 2047 → ⊥) → 0 < field x → HasValue x false ((2 ^ 52 + digits x) * 2 ^ (field x - 1)) (2 ^ 1074)
normal-value x f h n p = subst (λ (v : Float). HasValue v false ((2 ^ 52 + digits x) * 2 ^ (field x - 1)) (2 ^ 1074)) (sym (by-fields x f h)) (normal-is (field x) (digits x) n p)

pub normal : (x : Float) → T (fits binary64 x) → lt zero64 x ≡ true → (field x ≡ 2047 → ⊥) → 0 < field x → root_of (number ((digits x + 2 ^ 52) * 2 ^ (field x + 1073))) ≡ sqrt x
normal x f h n p =
    let w = field x in
    let t = digits x in
    sym (by_value x ((2 ^ 52 + t) * 2 ^ (w - 1)) (mul-pos (more t) (pow_pos (w - 1)))
    (normal-value x f h n p)
    ∙ ap (λ (z : ℕ). root_of (number z)) (mul_assoc (2 ^ 52 + t) (2 ^ (w - 1)) (2 ^ 1074) ∙ ap (λ (z : ℕ). (2 ^ 52 + t) * z) (sym (pow-add 2 (w - 1) 1074)) ∙ ap (λ (z : ℕ). (2 ^ 52 + t) * 2 ^ z) (up_one w p) ∙ ap (λ (z : ℕ). z * 2 ^ (w + 1073)) (swap t)))
  where
    more : (t : ℕ) → 0 < 2 ^ 52 + t
    more t = omega arith

    up_one : (w : ℕ) → 0 < w → w - 1 + 1074 ≡ w + 1073
    up_one w p = omega arith

    swap : (t : ℕ) → 2 ^ 52 + t ≡ t + 2 ^ 52
    swap t = omega arith

-- ---- a subnormal x
low-is : (t : ℕ) → of_fields binary64 false 0 t ≡ odd 53 false t 0 1074
unfolding of_fields
low-is t = refl

zero_is : odd 53 false 0 0 1074 ≡ zero64
unfolding odd
zero_is = refl

lt-zero : lt zero64 zero64 ≡ false
unfolding lt
lt-zero = refl

pub low_value : (x : Float) → T (fits binary64 x) → lt zero64 x ≡ true → field x ≡ 0 → x ≡ odd 53 false (digits x) 0 1074
low_value x f h e = by-fields x f h ∙ ap (λ (w : ℕ). of_fields binary64 false w (digits x)) e ∙ low-is (digits x)

pub low-digits : (x : Float) → T (fits binary64 x) → lt zero64 x ≡ true → field x ≡ 0 → 0 < digits x
low-digits x f h e = go (digits x) refl
  where
    go : (t : ℕ) → digits x ≡ t → 0 < digits x
    go zero z = absurd (true≢false (sym h ∙ ap (lt zero64) (low_value x f h e ∙ ap (λ (t : ℕ). odd 53 false t 0 1074) z ∙ zero_is) ∙ lt-zero))
    go (suc t) z = subst (λ (y : ℕ). 0 < y) (sym z) (zero-lt-suc t)

-- the count z of the leading zeros of t, below 2 ^ 52: t * 2 ^ (z - 11) has 53 digits
pub shifted : (t : ℕ) → 0 < t → t < 2 ^ 52 → (12 ≤ count_leading_zeros 64 t) × (count_leading_zeros 64 t ≤ 63) × (2 ^ 52 ≤ t * 2 ^ (count_leading_zeros 64 t - 11)) × (t * 2 ^ (count_leading_zeros 64 t - 11) < 2 ^ 53)
shifted t p h =
    let w = leading_top 64 t p (lt_of_lt_of_le h (lit≤ {m = 2 ^ 52} {n = 2 ^ 64} tt)) in
    let z = count_leading_zeros 64 t in
    let j = w.0 in
    let j-lt : j < 52 = pow_lt_back j 52 (lt_of_le_of_lt w.2 h) in
    let s : z - 11 ≡ 52 - j = take z j w.1 in
    let P = 2 ^ (52 - j) in (
      twelve z j w.1 j-lt,
      most z j w.1,
      subst (λ (y : ℕ). 2 ^ 52 ≤ t * 2 ^ y) (sym s) (le_trans (le_of_eq (ap (λ (y : ℕ). 2 ^ y) (join j j-lt) ∙ pow-add 2 j (52 - j))) (mul-le-mul_right P w.2)),
      subst (λ (y : ℕ). t * 2 ^ y < 2 ^ 53) (sym s) (lt_of_lt_of_le (mul-lt-mul_of_pos_right w.3 (pow_pos (52 - j))) (le_of_eq (sym (pow-add 2 (suc j) (52 - j)) ∙ ap (λ (y : ℕ). 2 ^ y) (sym (join-suc j j-lt))))),
    )
  where
    pow_lt_back : (i n : ℕ) → 2 ^ i < 2 ^ n → i < n
    pow_lt_back i n h = lt_of_not-le (λ (g : n ≤ i). not-le_of_lt h (pow_mono g))

    take : (z j : ℕ) → z + suc j ≡ 64 → z - 11 ≡ 52 - j
    take z j e = omega arith

    twelve : (z j : ℕ) → z + suc j ≡ 64 → j < 52 → 12 ≤ z
    twelve z j e h = omega arith

    most : (z j : ℕ) → z + suc j ≡ 64 → z ≤ 63
    most z j e = omega arith

    join : (j : ℕ) → j < 52 → 52 ≡ j + (52 - j)
    join j h = omega arith

    join-suc : (j : ℕ) → j < 52 → 53 ≡ suc j + (52 - j)
    join-suc j h = omega arith

pub low-size : (x : Float) → T (fits binary64 x) → lt zero64 x ≡ true → field x ≡ 0 → HasValue x false (digits x * 2 ^ 0) (2 ^ 1074)
low-size x f h e = subst (λ (v : Float). HasValue v false (digits x * 2 ^ 0) (2 ^ 1074)) (sym (low_value x f h e)) (odd_sign 53 false (digits x) 0 1074)

pub subnormal : (x : Float) (s : ℕ) → T (fits binary64 x) → lt zero64 x ≡ true → field x ≡ 0 → s ≤ 1074 → root_of (number (digits x * 2 ^ s * 2 ^ (1074 - s))) ≡ sqrt x
subnormal x s f h e l =
    let t = digits x in
    sym (by_value x (t * 2 ^ 0) (subst (λ (z : ℕ). 0 < z) (sym (mul-one t)) (low-digits x f h e))
    (low-size x f h e)
    ∙ ap (λ (z : ℕ). root_of (number z)) (ap (λ (z : ℕ). z * 2 ^ 1074) (mul-one t) ∙ ap (λ (z : ℕ). t * 2 ^ z) (join s l) ∙ ap (λ (z : ℕ). t * z) (pow-add 2 s (1074 - s)) ∙ sym (mul_assoc t (2 ^ s) (2 ^ (1074 - s)))))
  where
    join : (s : ℕ) → s ≤ 1074 → 1074 ≡ s + (1074 - s)
    join s l = omega arith

-- ---- a zero, and what is below 0 or a NaN
pub zeros : (x : Float) → eq x zero64 ≡ true → x ≡ sqrt x
unfolding eq sqrt operand root_of
zeros nan h = absurd (true≢false (sym h))
zeros (inf s) h = absurd (true≢false (sym h))
zeros (fin s zero e) h = refl
zeros (fin s (suc m) e) h =
    let t : T (eqb (suc m * up e * 1) (0 * 1 * down e)) = and_l (eqb (suc m * up e * 1) (0 * 1 * down e)) _ (subst T (sym h) tt) in
    absurd (lt_irrefl 0 (subst (λ (z : ℕ). 0 < z) (eqb→eq (suc m * up e * 1) (0 * 1 * down e) t ∙ zero-mul (down e)) (mul-pos (mul-pos (zero-lt-suc m) (up_pos e)) (zero-lt-suc 0))))

zero-eq : (s : Bool) (e : ℤ) → eq (fin s zero e) zero64 ≡ true
unfolding eq
zero-eq s e = ap (λ (a : ℕ). level s (a * 1) false (0 * 1 * down e)) (zero-mul (up e)) ∙ ap (λ (b : ℕ). level s 0 false b) (zero-mul (down e)) ∙ go s
  where
    go : (s : Bool) → level s 0 false 0 ≡ true
    go true = refl
    go false = refl

pub rest-nan : (x : Float) → lt zero64 x ≡ false → eq x zero64 ≡ false → nan ≡ sqrt x
unfolding sqrt operand root_of lt
rest-nan nan h k = refl
rest-nan (inf true) h k = refl
rest-nan (inf false) h k = absurd (true≢false h)
rest-nan (fin s zero e) h k = absurd (true≢false (sym (zero-eq s e) ∙ k))
rest-nan (fin true (suc m) e) h k = refl
rest-nan (fin false (suc m) e) h k = absurd (true≢false (sym (number-above m e) ∙ h))
