-- `sqrt` is right: for a positive finite x, its value is Q * 2 ^ k units of 2 ^ -1074 with 2 ^ 52 ≤ Q ≤ 2 ^ 53, and the exact root of x lies between (Q - 1/2) * 2 ^ k and (Q + 1/2) * 2 ^ k units, said with both sides squared.
-- No other value of 53 digits is as near. Nothing of the program's is used. Assumes nothing.
use Rattle.std.proofs.Common.{◌≡◌, ℕ, suc, ◌+◌, ◌-◌, ◌*◌, ◌/◌, ◌%◌, ◌^◌, ◌<◌, ◌≤◌, true, false, T, ◌⊎◌, sym, ap, ◌∙◌, subst, inl, inr, zero-le, le_trans, le_of_eq, lt_of_lt_of_le, le_of_lt, mul-le-mul_right, mul_assoc, mul-le-mul, eq-or-lt_of_le, mul-lt-mul_of_pos_right, mul-one, arith, lit≤, pow_pos, pow_mono, pow-add, shl_lt}
use native.Mathlib.Nat.{pow-succ'}
use lib.Count.{count_leading_zeros}
use lib.Ieee.{Float, inf, binary64, lt, fits, to_bits}
use lib.Ieee.Exact.{HasValue}
use Rattle.geometry.specs.Float.{zero64}
use Rattle.geometry.specs.Root.{number, isqrt, root_of, sqrt}
use Rattle.geometry.specs.inside.Whole.{IsRoot}
use Rattle.geometry.proofs.Laws.Root.Whole.{isqrt-is}
use Rattle.geometry.proofs.Laws.Root.Parts.{root-value, whole, aligned, root-low, root-high, half-low, half_high, bit-of, split-of, few-of, top_of, even-of}
use Rattle.geometry.proofs.Laws.Root.Value.{field, digits, bits_small, normal, subnormal, low-digits, shifted, is-infinite, normal-value, low-size}

-- v has the value Q * 2 ^ k units, and the root of n / 2 ^ 2148 is half a unit of the last place away at most
pub record Nearest (n : ℕ) (v : Float) : Type 0 where
  pub Q : ℕ
  pub k : ℕ
  pub low : 2 ^ 52 ≤ Q
  pub high : Q ≤ 2 ^ 53
  pub value : HasValue v false (Q * 2 ^ k) (2 ^ 1074)
  pub above : (2 * Q - 1) * (2 * Q - 1) * (2 ^ k * 2 ^ k) ≤ 4 * n
  pub below : 4 * n ≤ (2 * Q + 1) * (2 * Q + 1) * (2 ^ k * 2 ^ k)

-- ---- with n = M * (P * P), s the whole root of M, Q half of it, rounded up, and 2 * P the last place
under : (M s P : ℕ) → s * s ≤ M → (2 * ((s + 1) / 2) - 1) * (2 * ((s + 1) / 2) - 1) * (2 * P * (2 * P)) ≤ 4 * (M * (P * P))
under M s P h =
    le_trans (mul-le-mul_right (2 * P * (2 * P)) (le_trans (mul-le-mul (down s) (down s)) h)) (le_of_eq (four M P))
  where
    down : (s : ℕ) → 2 * ((s + 1) / 2) - 1 ≤ s
    down s = omega arith

    four : (M P : ℕ) → M * (2 * P * (2 * P)) ≡ 4 * (M * (P * P))
    four M P = omega arith

over : (M s P : ℕ) → M < (s + 1) * (s + 1) → 4 * (M * (P * P)) ≤ (2 * ((s + 1) / 2) + 1) * (2 * ((s + 1) / 2) + 1) * (2 * P * (2 * P))
over M s P h =
    le_trans (le_of_eq (four M P)) (mul-le-mul_right (2 * P * (2 * P)) (le_trans (le_of_lt h) (mul-le-mul (up s) (up s))))
  where
    up : (s : ℕ) → s + 1 ≤ 2 * ((s + 1) / 2) + 1
    up s = omega arith

    four : (M P : ℕ) → 4 * (M * (P * P)) ≡ M * (2 * P * (2 * P))
    four M P = omega arith

-- ---- for m * 2 ^ a, with an m of 53 digits
pub of_parts : (m a : ℕ) → 2 ^ 52 ≤ m → m < 2 ^ 53 → 1022 ≤ a → a < 3120 → Nearest (m * 2 ^ a) (root_of (number (m * 2 ^ a)))
of_parts m a lo hi al ah =
    let j = (a - 54) / 2 in
    let P = 2 ^ j in
    let y = m * 2 ^ (1 + a % 2) in
    let M = y * 2 ^ 53 in
    let w = aligned m (a % 2) (bit-of a) lo hi in
    let M-lt : M < 4 ^ 54 = lt_of_lt_of_le (mul-lt-mul_of_pos_right w.1 (pow_pos 53)) (lit≤ {m = 2 ^ 55 * 2 ^ 53} {n = 4 ^ 54} tt) in
    let s = isqrt 54 M in
    let h : IsRoot M s = isqrt-is 54 M M-lt in
    let s-lo = root-low y s w.0 h.1 in
    let s-hi = root-high y s w.1 h.0 in
    let e : m * 2 ^ a ≡ M * (P * P) = whole m a j (split-of a al) in
    let n-lt : M * (P * P) < 4 ^ 1586 = subst (λ (x : ℕ). x < 4 ^ 1586) e (lt_of_lt_of_le (shl_lt 53 a hi) (le_trans (pow_mono (top_of a ah)) (lit≤ {m = 2 ^ 3172} {n = 4 ^ 1586} tt))) in
    let v = root-value M (y * 2 ^ 52) s j (even-of y) h s-lo s-hi (few-of a ah) n-lt in
    let q : 2 ^ suc j ≡ 2 * P = pow-succ' 2 j in
    subst (λ (n : ℕ). Nearest n (root_of (number n))) (sym e)
    (record {
      Q = (s + 1) / 2;
      k = suc j;
      low = half-low s s-lo;
      high = half_high s s-hi;
      value = v;
      above = subst (λ (z : ℕ). (2 * ((s + 1) / 2) - 1) * (2 * ((s + 1) / 2) - 1) * (z * z) ≤ 4 * (M * (P * P))) (sym q) (under M s P h.0);
      below = subst (λ (z : ℕ). 4 * (M * (P * P)) ≤ (2 * ((s + 1) / 2) + 1) * (2 * ((s + 1) / 2) + 1) * (z * z)) (sym q) (over M s P h.1);
    })

-- ---- for every positive finite x: A is x in units of 2 ^ -1074
pub record Correct (x : Float) : Type 0 where
  pub A : ℕ
  pub size : HasValue x false A (2 ^ 1074)
  pub nearest : Nearest (A * 2 ^ 1074) (sqrt x)

pub sqrt-correct : (x : Float) → T (fits binary64 x) → lt zero64 x ≡ true → (x ≡ inf false → ⊥) → Correct x
sqrt-correct x f h fin-x = go (eq-or-lt_of_le (zero-le {n = field x}))
  where
    w : ℕ
    w = field x

    t : ℕ
    t = digits x

    b_lt : to_bits binary64 x < 2 ^ 63
    b_lt = bits_small x f h

    t-lt : (b : ℕ) → b % 2 ^ 52 < 2 ^ 52
    t-lt b = omega arith

    w-lt : (b : ℕ) → b < 2 ^ 63 → b / 2 ^ 52 + 1073 < 3121
    w-lt b h = omega arith

    not-ones : w ≡ 2047 → ⊥
    not-ones e = fin-x (is-infinite x f h e)

    go : (0 ≡ w) ⊎ (0 < w) → Correct x
    go (inr p) =
        let m = t + 2 ^ 52 in
        let a = w + 1073 in
        let e : (2 ^ 52 + t) * 2 ^ (w - 1) * 2 ^ 1074 ≡ m * 2 ^ a = mul_assoc (2 ^ 52 + t) (2 ^ (w - 1)) (2 ^ 1074) ∙ ap (λ (z : ℕ). (2 ^ 52 + t) * z) (sym (pow-add 2 (w - 1) 1074)) ∙ (λ i. swap t i * 2 ^ up_one w p i) in
        record {
          A = (2 ^ 52 + t) * 2 ^ (w - 1);
          size = normal-value x f h not-ones p;
          nearest =
              subst (λ (n : ℕ). Nearest n (sqrt x)) (sym e)
              (subst (λ (v : Float). Nearest (m * 2 ^ a) v) (normal x f h not-ones p) (of_parts m a (omega arith) (under-m t (t-lt (to_bits binary64 x))) (omega arith) (less w (w-lt (to_bits binary64 x) b_lt) not-ones)));
        }
      where
        swap : (t : ℕ) → 2 ^ 52 + t ≡ t + 2 ^ 52
        swap t = omega arith

        up_one : (w : ℕ) → 0 < w → w - 1 + 1074 ≡ w + 1073
        up_one w p = omega arith

        under-m : (t : ℕ) → t < 2 ^ 52 → t + 2 ^ 52 < 2 ^ 53
        under-m t h = omega arith

        less : (w : ℕ) → w + 1073 < 3121 → (w ≡ 2047 → ⊥) → w + 1073 < 3120
        less w h n = omega arith
    go (inl z) =
        let e0 : w ≡ 0 = sym z in
        let p = low-digits x f h e0 in
        let g = shifted t p (t-lt (to_bits binary64 x)) in
        let c = count_leading_zeros 64 t - 11 in
        let m = t * 2 ^ c in
        let a = 1074 - c in
        let e : t * 2 ^ 0 * 2 ^ 1074 ≡ m * 2 ^ a = ap (λ (z : ℕ). z * 2 ^ 1074) (mul-one t) ∙ ap (λ (z : ℕ). t * 2 ^ z) (join c (few (count_leading_zeros 64 t) g.1)) ∙ ap (λ (z : ℕ). t * z) (pow-add 2 c (1074 - c)) ∙ sym (mul_assoc t (2 ^ c) (2 ^ (1074 - c))) in
        record {
          A = t * 2 ^ 0;
          size = low-size x f h e0;
          nearest =
              subst (λ (n : ℕ). Nearest n (sqrt x)) (sym e)
              (subst (λ (v : Float). Nearest (m * 2 ^ a) v) (subnormal x c f h e0 (few (count_leading_zeros 64 t) g.1)) (of_parts m a g.2 g.3 (least (count_leading_zeros 64 t) g.1) (most c)));
        }
      where
        few : (z : ℕ) → z ≤ 63 → z - 11 ≤ 1074
        few z h = omega arith

        least : (z : ℕ) → z ≤ 63 → 1022 ≤ 1074 - (z - 11)
        least z h = omega arith

        most : (c : ℕ) → 1074 - c < 3120
        most c = omega arith

        join : (c : ℕ) → c ≤ 1074 → 1074 ≡ c + (1074 - c)
        join c h = omega arith
