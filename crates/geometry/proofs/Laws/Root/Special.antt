-- Part 1 of `sqrt`: which operands are special, and what they give. The rest are the numbers above 0, and `operand` has their value exactly.
-- Each law names its clause of IEEE 754. Assumes nothing.
use Rattle.std.proofs.Common.{◌≡◌, ℕ, zero, suc, ◌+◌, ◌*◌, ◌/◌, ◌%◌, ◌^◌, ◌<◌, ◌≤◌, Bool, true, false, ◌&&◌, T, eqb, ltb, leb, ℤ, sym, refl, ap, ◌∙◌, subst, true≢false, zero-le, le_trans, le_of_eq, lt_of_lt_of_le, lt_irrefl, mul-le-mul_right, zero-lt-suc, mul_assoc, div-lt_iff_lt-mul, mul-lt-mul_of_pos_right, mul-pos, one-mul, lt_of_not-le, zero-mul, mul_right_comm, not-le_of_lt, mul-div_cancel, arith, lit≤, ltb→lt, pow_pos, le-ltb, lt-ltb}
use lib.Ieee.{Float, nan, inf, fin, binary64, up, down, lt, fits}
use lib.Ieee.Fits.{up_pos, down_pos, and_r}
use lib.Ieee.Exact.{HasValue}
use Rattle.geometry.specs.Float.{zero64}
use Rattle.geometry.specs.Units.{units_of}
use Rattle.geometry.specs.Root.{special, number, operand, root_of, sqrt}
use Rattle.geometry.proofs.Laws.Float.Units.{units-exact}

-- ---- special operands

-- 6.2: a NaN gives a NaN
pub sqrt-nan : sqrt nan ≡ nan
unfolding sqrt operand root_of
sqrt-nan = refl

-- 6.1: +∞ gives +∞
pub sqrt-infinite : sqrt (inf false) ≡ inf false
unfolding sqrt operand root_of
sqrt-infinite = refl

-- 5.4.1, 6.3: a zero gives itself, with its sign
pub sqrt-zero : (s : Bool) (e : ℤ) → sqrt (fin s 0 e) ≡ fin s 0 e
unfolding sqrt operand root_of
sqrt-zero s e = refl

-- 7.2: what is below 0 gives a NaN
pub sqrt-below : (x : Float) → lt x zero64 ≡ true → sqrt x ≡ nan
unfolding sqrt operand root_of lt
sqrt-below nan h = refl
sqrt-below (inf true) h = refl
sqrt-below (inf false) h = absurd (true≢false (sym h))
sqrt-below (fin true (suc m) e) h = refl
sqrt-below (fin true zero e) h = absurd (true≢false (sym h ∙ ap (λ (z : ℕ). ltb 0 (z * 1 + 0 * 1 * down e)) (zero-mul (up e)) ∙ ap (λ (z : ℕ). ltb 0 (0 + z)) (zero-mul (down e))))
sqrt-below (fin false m e) h = absurd (none m e h)
  where
    none : (m : ℕ) (e : ℤ) → lt (fin false m e) zero64 ≡ true → ⊥
    none m e h = true≢false (sym h ∙ ap (λ (z : ℕ). ltb (m * up e * 1) z) (zero-mul (down e)) ∙ le-ltb (m * up e * 1) 0 zero-le)

-- ---- numbers

-- a number above 0 is above 0
pub number-above : (m : ℕ) (e : ℤ) → lt zero64 (fin false (suc m) e) ≡ true
unfolding lt
number-above m e =
    lt-ltb (0 * 1 * down e) (suc m * up e * 1)
    (subst (λ (z : ℕ). z < suc m * up e * 1) (sym (zero-mul (down e))) (mul-pos (mul-pos (zero-lt-suc m) (up_pos e)) (zero-lt-suc 0)))

-- the number of a value that binary64 holds is below 2 ^ 1024, in units
pub number_small : (m : ℕ) (e : ℤ) → T (fits binary64 (fin false (suc m) e)) → suc m * up e * 2 ^ 2148 / down e < 4 ^ 1586
unfolding fits
number_small m e h =
    let l : suc m * up e < 2 ^ 1024 * down e = ltb→lt (suc m * up e) (2 ^ 1024 * down e) (and_r (eqb (suc m % 2) 1 && ltb (suc m) (2 ^ 53) && leb (down e) (2 ^ 1074)) (ltb (suc m * up e) (2 ^ 1024 * down e)) h) in
    (div-lt_iff_lt-mul (down_pos e)).1
    (lt_of_lt_of_le (mul-lt-mul_of_pos_right l (pow_pos 2148)) (le_trans (le_of_eq (mul_right_comm (2 ^ 1024) (down e) (2 ^ 2148))) (mul-le-mul_right (down e) (lit≤ {m = 2 ^ 1024 * 2 ^ 2148} {n = 4 ^ 1586} tt))))

-- an operand is a number only where x is above 0, and then that number is the value of x in units of 2 ^ -2148, exactly
pub record IsNumber (x : Float) (n : ℕ) : Type 0 where
  pub above : lt zero64 x ≡ true
  pub value : HasValue x false n (2 ^ 2148)
  pub least : 2 ^ 1074 ≤ n
  pub most : n < 4 ^ 1586

-- the number of a value of A units of 2 ^ -1074
pub number_at : (x : Float) (A : ℕ) → 0 < A → HasValue x false A (2 ^ 1074) → operand x ≡ number (A * 2 ^ 1074)
unfolding operand
number_at nan A p h = absurd h
number_at (inf s) A p h = absurd h
number_at (fin true m e) A p h = absurd (true≢false h.0)
number_at (fin false zero e) A p h = absurd (lt_irrefl 0 (subst (λ (z : ℕ). 0 < z) (sym h.1 ∙ ap (λ (z : ℕ). z * 2 ^ 1074) (zero-mul (up e)) ∙ zero-mul (2 ^ 1074)) (mul-pos p (down_pos e))))
number_at (fin false (suc m) e) A p h =
    ap (λ (z : ℕ). number (z / down e)) (sym (mul_assoc (suc m * up e) (2 ^ 1074) (2 ^ 1074)) ∙ ap (λ (z : ℕ). z * 2 ^ 1074) h.1 ∙ mul_right_comm A (down e) (2 ^ 1074))
    ∙ ap number (mul-div_cancel (A * 2 ^ 1074) (down_pos e))

-- a special operand is no number
apart : (v : Float) (n : ℕ) → special v ≡ number n → ⊥
apart v n h = let z : ◌≡◌ {A = ℕ} 0 1 = cc in omega arith

pub number_is : (x : Float) (n : ℕ) → T (fits binary64 x) → operand x ≡ number n → IsNumber x n
unfolding operand
number_is nan n f h = absurd (apart nan n h)
number_is (inf true) n f h = absurd (apart nan n h)
number_is (inf false) n f h = absurd (apart (inf false) n h)
number_is (fin s zero e) n f h = absurd (apart (fin s zero e) n h)
number_is (fin true (suc m) e) n f h = absurd (apart nan n h)
number_is (fin false (suc m) e) n f h =
    let A = units_of (fin false (suc m) e) in
    let x : suc m * up e * 2 ^ 1074 ≡ A * down e = units-exact false (suc m) e f in
    let y : suc m * up e * 2 ^ 2148 ≡ A * 2 ^ 1074 * down e = sym (mul_assoc (suc m * up e) (2 ^ 1074) (2 ^ 1074)) ∙ ap (λ (z : ℕ). z * 2 ^ 1074) x ∙ mul_right_comm A (down e) (2 ^ 1074) in
    let z : A * 2 ^ 1074 ≡ n = sym (ap (λ (w : ℕ). w / down e) y ∙ mul-div_cancel (A * 2 ^ 1074) (down_pos e)) ∙ same h in
    record {
      above = number-above m e;
      value = (refl, y ∙ ap (λ (w : ℕ). w * down e) z);
      least = subst (λ (w : ℕ). 2 ^ 1074 ≤ w) z (some A (2 ^ 1074) (lt_of_not-le (λ (g : A ≤ 0). not-le_of_lt (mul-pos (mul-pos (zero-lt-suc m) (up_pos e)) (pow_pos 1074)) (le_trans (le_of_eq x) (le_trans (mul-le-mul_right (down e) g) (le_of_eq (zero-mul (down e))))))));
      most = subst (λ (w : ℕ). w < 4 ^ 1586) (same h) (number_small m e f);
    }
  where
    same : {a b : ℕ} → number a ≡ number b → a ≡ b
    same p = cc

    some : (a b : ℕ) → 0 < a → b ≤ a * b
    some a b h = le_trans (le_of_eq (sym (one-mul b))) (mul-le-mul_right b h)
