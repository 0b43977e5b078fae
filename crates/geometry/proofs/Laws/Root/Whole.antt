-- Part 2 of `sqrt`: the whole root and its remainder are exact. The whole root of a number is unique, `isqrt` gives it, and that of P * P
-- times the number lies between P times it and P times the next. Assumes nothing.
use Rattle.std.proofs.Common.{◌≡◌, ℕ, zero, suc, ◌+◌, ◌-◌, ◌*◌, ◌/◌, ◌^◌, ◌<◌, ◌≤◌, Bool, true, false, cond, not, T, leb, subst, lt_of_lt_of_le, le_of_suc-le-suc, lt_of_le_of_lt, mul-le-mul_right, zero-lt-suc, div-lt_iff_lt-mul, mul-le-mul, le_antisymm, mul-lt-mul_of_pos_right, mul-pos, pow-suc, lt_of_not-le, not-le_of_lt, arith, lit≤, leb→le}
use native.Mathlib.Nat.{mul-mul-mul_comm}
use lib.Dec.{nleb→lt}
use Rattle.geometry.specs.Root.{isqrt, Exact, exact_root}
use Rattle.geometry.specs.inside.Whole.{IsRoot}

pub square-lt : (a b : ℕ) → a * a < b * b → a < b
square-lt a b h = lt_of_not-le (λ (g : b ≤ a). not-le_of_lt h (mul-le-mul g g))

plus : (b : ℕ) → b + 1 ≡ suc b
plus b = omega arith

pub root-le : (n a b : ℕ) → a * a ≤ n → n < (b + 1) * (b + 1) → a ≤ b
root-le n a b h k = le_of_suc-le-suc (subst (λ (z : ℕ). a < z) (plus b) (square-lt a (b + 1) (lt_of_le_of_lt h k)))

pub root-unique : (n a b : ℕ) → IsRoot n a → IsRoot n b → a ≡ b
root-unique n a b h k = le_antisymm (root-le n a b h.0 k.1) (root-le n b a k.0 h.1)

-- ---- `isqrt`
pick : (n h : ℕ) (t : Bool) → IsRoot (n / 4) h → (T t → (2 * h + 1) * (2 * h + 1) ≤ n) → (T (not t) → n < (2 * h + 1) * (2 * h + 1)) → IsRoot n (2 * h + cond t 1 0)
pick n h true k y f = (y tt, above n h k.1)
  where
    above : (n h : ℕ) → n / 4 < (h + 1) * (h + 1) → n < (2 * h + 1 + 1) * (2 * h + 1 + 1)
    above n h k = omega arith
pick n h false k y f = (under n h k.0, over n h (f tt))
  where
    under : (n h : ℕ) → h * h ≤ n / 4 → (2 * h + 0) * (2 * h + 0) ≤ n
    under n h k = omega arith

    over : (n h : ℕ) → n < (2 * h + 1) * (2 * h + 1) → n < (2 * h + 0 + 1) * (2 * h + 0 + 1)
    over n h k = omega arith

pub isqrt-is : (k n : ℕ) → n < 4 ^ k → IsRoot n (isqrt k n)
unfolding isqrt
isqrt-is zero n h = (omega arith, omega arith)
isqrt-is (suc k) n h =
    let r = isqrt k (n / 4) in
    pick n r (leb ((2 * r + 1) * (2 * r + 1)) n) (isqrt-is k (n / 4) ((div-lt_iff_lt-mul (zero-lt-suc 3)).1 (subst (λ (z : ℕ). n < z) (pow-suc 4 k) h)))
    (leb→le ((2 * r + 1) * (2 * r + 1)) n) (nleb→lt ((2 * r + 1) * (2 * r + 1)) n)

-- ---- the exact root

-- x is the root of n, exactly: the whole root's square and the remainder make n, and no larger whole number's square is within n
pub record IsExact (n : ℕ) (x : Exact) : Type 0 where
  pub sum : x.whole * x.whole + x.remainder ≡ n
  pub most : n < (x.whole + 1) * (x.whole + 1)

pub exact-root : (n : ℕ) → n < 4 ^ 1586 → IsExact n (exact_root n)
unfolding exact_root
exact-root n h = let r = isqrt-is 1586 n h in record { sum = back (isqrt 1586 n * isqrt 1586 n) n r.0; most = r.1 }
  where
    back : (s n : ℕ) → s ≤ n → s + (n - s) ≡ n
    back s n h = omega arith

pub is-root : (n : ℕ) (x : Exact) → IsExact n x → IsRoot n x.whole
is-root n x h = (within (x.whole * x.whole) x.remainder n h.sum, h.most)
  where
    within : (s r n : ℕ) → s + r ≡ n → s ≤ n
    within s r n e = omega arith

pub whole-small : (n : ℕ) → n < 4 ^ 1586 → (exact_root n).whole < 2 ^ 1586
whole-small n h = square-lt (exact_root n).whole (2 ^ 1586) (lt_of_le_of_lt (is-root n (exact_root n) (exact-root n h)).0 (lt_of_lt_of_le h (lit≤ {m = 4 ^ 1586} {n = 2 ^ 1586 * 2 ^ 1586} tt)))

-- ---- with P * P times the number: r is between s * P and (s + 1) * P
pub scaled-low : (M P s r : ℕ) → s * s ≤ M → M * (P * P) < (r + 1) * (r + 1) → s * P ≤ r
scaled-low M P s r h k = root-le (M * (P * P)) (s * P) r (subst (λ (z : ℕ). z ≤ M * (P * P)) (mul-mul-mul_comm s s P P) (mul-le-mul_right (P * P) h)) k

pub scaled-high : (M P s r : ℕ) → 0 < P → M < (s + 1) * (s + 1) → r * r ≤ M * (P * P) → r < (s + 1) * P
scaled-high M P s r p h k =
    square-lt r ((s + 1) * P) (lt_of_le_of_lt k (subst (λ (z : ℕ). M * (P * P) < z) (mul-mul-mul_comm (s + 1) (s + 1) P P) (mul-lt-mul_of_pos_right h (mul-pos p p))))
