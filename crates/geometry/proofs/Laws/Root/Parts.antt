-- The root of m * 2 ^ a / 2 ^ 2148, rounded, by the whole root s of m * 2 ^ (1 + a % 2) * 2 ^ 53: it has the bit pattern (a - 52) / 2 * 2 ^ 52 + (s + 1) / 2. Assumes nothing.
use Rattle.std.proofs.Common.{◌≡◌, ℕ, zero, suc, ◌+◌, ◌-◌, ◌*◌, ◌/◌, ◌%◌, ◌^◌, ◌<◌, ◌≤◌, false, T, sym, refl, ap, ◌∙◌, subst, le_trans, le_of_eq, lt_of_lt_of_le, lt_of_le_of_lt, mul-le-mul_right, mul_assoc, mul-lt-mul_of_pos_right, arith, lit≤, pow_pos, pow_mono, pow-add, shl_lt}
use lib.Ieee.{Float, binary64, units, of_bits, fits}
use lib.Ieee.Fits.{round-fits}
use lib.Ieee.Exact.{HasValue, units_val}
use Rattle.geometry.specs.Root.{number, exact_root, rounded, root_of}
use Rattle.geometry.specs.inside.Whole.{IsRoot}
use Rattle.geometry.proofs.Laws.Root.Whole.{exact-root, is-root, square-lt, scaled-low, scaled-high}
use Rattle.geometry.proofs.Laws.Root.Nearest.{closest-root}
use Rattle.geometry.proofs.Laws.Root.Rounding.{rounded-is, halves, in-range}
use Rattle.geometry.proofs.Laws.Root.Pattern.{pattern}

-- ---- `root_of` of an even M times 2 ^ j squared, with a whole root of 54 digits
root_is : (n : ℕ) → root_of (number n) ≡ rounded (exact_root n)
unfolding root_of
root_is n = refl

root-fits : (n : ℕ) → T (fits binary64 (root_of (number n)))
unfolding root_of rounded
root-fits n = round-fits binary64 false (halves (exact_root n)) (2 ^ 1075)

pub half-low : (s : ℕ) → 2 ^ 53 ≤ s → 2 ^ 52 ≤ (s + 1) / 2
half-low s h = omega arith

pub half_high : (s : ℕ) → s < 2 ^ 54 → (s + 1) / 2 ≤ 2 ^ 53
half_high s h = omega arith

pub root-value : (M c s j : ℕ) → M ≡ 2 * c → IsRoot M s → 2 ^ 53 ≤ s → s < 2 ^ 54 → j < 1600 → M * (2 ^ j * 2 ^ j) < 4 ^ 1586 → HasValue (root_of (number (M * (2 ^ j * 2 ^ j)))) false ((s + 1) / 2 * 2 ^ suc j) (2 ^ 1074)
root-value M c s j e h lo hi jl n-lt =
    let P = 2 ^ j in
    let n = M * (P * P) in
    let x = exact_root n in
    let r = x.whole in
    let hx = exact-root n n-lt in
    let hr = is-root n x hx in
    let Q = (s + 1) / 2 in
    let r-lo : 2 ^ (53 + j) ≤ r = le_trans (le_of_eq (pow-add 2 53 j)) (le_trans (mul-le-mul_right P lo) (scaled-low M P s r h.0 hr.1)) in
    let r-hi : r < 2 ^ suc (53 + j) = lt_of_lt_of_le (scaled-high M P s r (pow_pos j) h.1 hr.0) (le_trans (mul-le-mul_right P (next s hi)) (le_of_eq (sym (pow-add 2 54 j) ∙ ap (λ (x : ℕ). 2 ^ x) (plus j)))) in
    let is : root_of (number n) ≡ units binary64 false Q (suc j) =
    root_is n ∙ rounded-is x j r-lo r-hi ∙ ap (λ (z : ℕ). units binary64 false z (suc j)) (closest-root M c P s x e (pow_pos j) h hx) in
    subst (λ (v : Float). HasValue v false (Q * 2 ^ suc j) (2 ^ 1074)) (sym is) (units_val binary64 false Q (suc j) (in-range Q j (half_high s hi) jl))
  where
    next : (s : ℕ) → s < 2 ^ 54 → s + 1 ≤ 2 ^ 54
    next s h = omega arith

    plus : (j : ℕ) → 54 + j ≡ suc (53 + j)
    plus j = omega arith

pub root-pattern : (M c s j : ℕ) → M ≡ 2 * c → IsRoot M s → 2 ^ 53 ≤ s → s < 2 ^ 54 → j < 1600 → M * (2 ^ j * 2 ^ j) < 4 ^ 1586 → of_bits binary64 (suc j * 2 ^ 52 + (s + 1) / 2) ≡ root_of (number (M * (2 ^ j * 2 ^ j)))
root-pattern M c s j e h lo hi jl n-lt =
    let n = M * (2 ^ j * 2 ^ j) in
    pattern (root_of (number n)) (suc j) ((s + 1) / 2) (half-low s lo) (half_high s hi)
    (root-fits n)
    (root-value M c s j e h lo hi jl n-lt)

-- ---- from m and a
pub root-low : (y s : ℕ) → 2 ^ 53 ≤ y → y * 2 ^ 53 < (s + 1) * (s + 1) → 2 ^ 53 ≤ s
root-low y s h k = drop s (square-lt (2 ^ 53) (s + 1) (lt_of_le_of_lt (low y h) k))
  where
    low : (y : ℕ) → 2 ^ 53 ≤ y → 2 ^ 53 * 2 ^ 53 ≤ y * 2 ^ 53
    low y h = mul-le-mul_right (2 ^ 53) h

    drop : (s : ℕ) → 2 ^ 53 < s + 1 → 2 ^ 53 ≤ s
    drop s h = omega arith

pub root-high : (y s : ℕ) → y < 2 ^ 55 → s * s ≤ y * 2 ^ 53 → s < 2 ^ 54
root-high y s h k = square-lt s (2 ^ 54) (lt_of_le_of_lt k (mul-lt-mul_of_pos_right h (pow_pos 53)))

-- a is 1 + a % 2 and 53 and twice j
pub whole : (m a j : ℕ) → a ≡ 1 + a % 2 + 53 + (j + j) → m * 2 ^ a ≡ m * 2 ^ (1 + a % 2) * 2 ^ 53 * (2 ^ j * 2 ^ j)
whole m a j e =
    ap (λ (x : ℕ). m * 2 ^ x) e
    ∙ ap (λ (x : ℕ). m * x) (pow-add 2 (1 + a % 2 + 53) (j + j) ∙ ap (λ (x : ℕ). x * 2 ^ (j + j)) (pow-add 2 (1 + a % 2) 53) ∙ ap (λ (x : ℕ). 2 ^ (1 + a % 2) * 2 ^ 53 * x) (pow-add 2 j j))
    ∙ sym (mul_assoc m (2 ^ (1 + a % 2) * 2 ^ 53) (2 ^ j * 2 ^ j))
    ∙ ap (λ (x : ℕ). x * (2 ^ j * 2 ^ j)) (sym (mul_assoc m (2 ^ (1 + a % 2)) (2 ^ 53)))

-- m * 2 ^ (1 + a % 2) is m * 2 or m * 4
pub aligned : (m b : ℕ) → b < 2 → 2 ^ 52 ≤ m → m < 2 ^ 53 → (2 ^ 53 ≤ m * 2 ^ (1 + b)) × (m * 2 ^ (1 + b) < 2 ^ 55)
aligned m zero h lo hi = (omega arith, omega arith)
aligned m (suc zero) h lo hi = (omega arith, omega arith)
aligned m (suc (suc b)) h lo hi = absurd (no2 b h)
  where
    no2 : (b : ℕ) → suc (suc b) < 2 → ⊥
    no2 b h = omega arith

-- ---- facts on the exponent a
pub bit-of : (a : ℕ) → a % 2 < 2
bit-of a = omega arith

pub split-of : (a : ℕ) → 1022 ≤ a → a ≡ 1 + a % 2 + 53 + ((a - 54) / 2 + (a - 54) / 2)
split-of a h = omega arith

field_of : (a : ℕ) → 1022 ≤ a → (a - 52) / 2 ≡ suc ((a - 54) / 2)
field_of a h = omega arith

pub few-of : (a : ℕ) → a < 3120 → (a - 54) / 2 < 1600
few-of a h = omega arith

pub top_of : (a : ℕ) → a < 3120 → 53 + a ≤ 3172
top_of a h = omega arith

pub even-of : (y : ℕ) → y * 2 ^ 53 ≡ 2 * (y * 2 ^ 52)
even-of y = omega arith

pub parts : (m a s : ℕ) → 2 ^ 52 ≤ m → m < 2 ^ 53 → 1022 ≤ a → a < 3120 → IsRoot (m * 2 ^ (1 + a % 2) * 2 ^ 53) s → of_bits binary64 ((a - 52) / 2 * 2 ^ 52 + (s + 1) / 2) ≡ root_of (number (m * 2 ^ a))
parts m a s lo hi al ah h =
    let j = (a - 54) / 2 in
    let y = m * 2 ^ (1 + a % 2) in
    let w = aligned m (a % 2) (bit-of a) lo hi in
    let e : m * 2 ^ a ≡ y * 2 ^ 53 * (2 ^ j * 2 ^ j) = whole m a j (split-of a al) in
    ap (λ (x : ℕ). of_bits binary64 (x * 2 ^ 52 + (s + 1) / 2)) (field_of a al)
    ∙ root-pattern (y * 2 ^ 53) (y * 2 ^ 52) s j (even-of y) h (root-low y s w.0 h.1) (root-high y s w.1 h.0) (few-of a ah)
    (subst (λ (x : ℕ). x < 4 ^ 1586) e (lt_of_lt_of_le (shl_lt 53 a hi) (le_trans (pow_mono (top_of a ah)) (lit≤ {m = 2 ^ 3172} {n = 4 ^ 1586} tt))))
    ∙ ap (λ (x : ℕ). root_of (number x)) (sym e)
