-- The exact root of M * (P * P), for an even M with the whole root s, lies nearest to (s + 1) / 2 times 2 * P, and never on a tie:
-- an odd number's square is not even. Assumes nothing.
use Rattle.std.proofs.Common.{◌≡◌, ℕ, zero, suc, ◌+◌, ◌*◌, ◌/◌, ◌%◌, ◌<◌, ◌≤◌, Bool, true, false, cond, T, eqb, ◌⊎◌, sym, refl, ap, ◌∙◌, inl, inr, le_of_suc-le-suc, mul-le-mul_right, zero-lt-suc, le_antisymm, lt_of_mul-lt-mul_right, eq-or-lt_of_le, mul-pos, arith, eqb→eq}
use native.Mathlib.Nat.{eq_of_mul-eq-mul_right, mul-mul-mul_comm}
use lib.Ieee.Nearest.{closest}
use Rattle.geometry.specs.Root.{Exact}
use Rattle.geometry.specs.inside.Whole.{IsRoot}
use Rattle.geometry.proofs.Laws.Root.Whole.{IsExact, is-root, scaled-low, scaled-high}
use Rattle.geometry.proofs.Laws.Root.Rounding.{Closest, closest-is, halves, bit_le}

-- a whole number less than half from d / u is the nearest
only : (d u c q : ℕ) → Closest d u c → 2 * (q * u) < 2 * d + u → 2 * d < 2 * (q * u) + u → c ≡ q
only d u c q k l h = le_antisymm (le_of_suc-le-suc (lt_of_mul-lt-mul_right u (most d u c q k.above h))) (le_of_suc-le-suc (lt_of_mul-lt-mul_right u (least d u c q k.below l)))
  where
    most : (d u c q : ℕ) → 2 * (c * u) ≤ 2 * d + u → 2 * d < 2 * (q * u) + u → c * u < suc q * u
    most d u c q a h = omega arith

    least : (d u c q : ℕ) → 2 * d ≤ 2 * (c * u) + u → 2 * (q * u) < 2 * d + u → q * u < suc c * u
    least d u c q b l = omega arith

-- ---- s is twice (s + 1) / 2, or one less
parity : (s : ℕ) → (s ≡ 2 * ((s + 1) / 2)) ⊎ (s + 1 ≡ 2 * ((s + 1) / 2))
parity s = go (s % 2) refl
  where
    go : (b : ℕ) → s % 2 ≡ b → (s ≡ 2 * ((s + 1) / 2)) ⊎ (s + 1 ≡ 2 * ((s + 1) / 2))
    go zero e = inl (omega arith)
    go (suc b) e = inr (omega arith)

odd-square : (s q c : ℕ) → s + 1 ≡ 2 * q → s * s ≡ 2 * c → ⊥
odd-square s zero c e h = none s e
  where
    none : (s : ℕ) → s + 1 ≡ 0 → ⊥
    none s e = omega arith
odd-square s (suc k) c e h = clash k c (ap (λ (z : ℕ). z * z) (sym (less s k e)) ∙ h)
  where
    less : (s k : ℕ) → s + 1 ≡ 2 * suc k → s ≡ 2 * k + 1
    less s k e = omega arith

    clash : (k c : ℕ) → (2 * k + 1) * (2 * k + 1) ≡ 2 * c → ⊥
    clash k c h = apart (2 * (k * k) + 2 * k) c (expand k ∙ h)
      where
        expand : (k : ℕ) → 2 * (2 * (k * k) + 2 * k) + 1 ≡ (2 * k + 1) * (2 * k + 1)
        expand k = omega arith

        apart : (a c : ℕ) → 2 * a + 1 ≡ 2 * c → ⊥
        apart a c h = omega arith

-- ---- the root in half units, 2 * r + t, between q - 1 / 2 and q + 1 / 2 times 4 * P
below : (s q P r t : ℕ) → s ≤ 2 * q → r < (s + 1) * P → t ≤ 1 → 2 * (2 * r + t) < 2 * (q * (4 * P)) + 4 * P
below s q P r t e hi tl = let m : s * P ≤ 2 * q * P = mul-le-mul_right P e in omega arith

above-even : (s q P r t : ℕ) → s ≡ 2 * q → 0 < P → s * P ≤ r → 2 * (q * (4 * P)) < 2 * (2 * r + t) + 4 * P
above-even s q P r t e p lo = let m : 2 * q * P ≡ s * P = ap (λ (z : ℕ). z * P) (sym e) in omega arith

above_odd : (s q P r t : ℕ) → s + 1 ≡ 2 * q → 2 * (s * P) < 2 * r + t → 2 * (q * (4 * P)) < 2 * (2 * r + t) + 4 * P
above_odd s q P r t e lo = let m : 2 * q * P ≡ (s + 1) * P = ap (λ (z : ℕ). z * P) (sym e) in omega arith

-- without a remainder t is 0
no-remainder : (b : Bool) (n : ℕ) → (T b → n ≡ 0) → (n ≡ 0 → ⊥) → 0 < cond b 0 1
no-remainder true n f g = absurd (g (f tt))
no-remainder false n f g = zero-lt-suc 0

pub closest-root : (M c P s : ℕ) (x : Exact) → M ≡ 2 * c → 0 < P → IsRoot M s → IsExact (M * (P * P)) x → closest (halves x) (4 * P) ≡ (s + 1) / 2
closest-root M c P s x e p hs hx =
    let r = x.whole in
    let t : ℕ = cond (eqb x.remainder 0) 0 1 in
    let q = (s + 1) / 2 in
    let hr = is-root (M * (P * P)) x hx in
    let lo : s * P ≤ r = scaled-low M P s r hs.0 hr.1 in
    let hi : r < (s + 1) * P = scaled-high M P s r p hs.1 hr.0 in
    let near = only (halves x) (4 * P) (closest (halves x) (4 * P)) q (closest-is (halves x) (4 * P) (mul-pos (zero-lt-suc 3) p)) in
    let down = below s q P r t (half s) hi (bit_le (eqb x.remainder 0)) in
    elim (parity s) [
      | inl y ↦ near (above-even s q P r t y p lo) down
      | inr y ↦ near (above_odd s q P r t y (strict y (eq-or-lt_of_le lo))) down
    ]
  where
    half : (s : ℕ) → s ≤ 2 * ((s + 1) / 2)
    half s = omega arith

    -- at s * P itself with no remainder s * s would be M
    some : s + 1 ≡ 2 * ((s + 1) / 2) → s * P ≡ x.whole → x.remainder ≡ 0 → ⊥
    some y g z =
        odd-square s ((s + 1) / 2) c y
        (eq_of_mul-eq-mul_right (P * P) (mul-pos p p) (s * s) M (mul-mul-mul_comm s s P P ∙ ap (λ (v : ℕ). v * v) g ∙ plus (x.whole * x.whole) x.remainder z ∙ hx.sum) ∙ e)
      where
        plus : (a b : ℕ) → b ≡ 0 → a ≡ a + b
        plus a b z = omega arith

    strict : s + 1 ≡ 2 * ((s + 1) / 2) → (s * P ≡ x.whole) ⊎ (s * P < x.whole) → 2 * (s * P) < 2 * x.whole + cond (eqb x.remainder 0) 0 1
    strict y (inl g) = same (s * P) x.whole (cond (eqb x.remainder 0) 0 1) g (no-remainder (eqb x.remainder 0) x.remainder (eqb→eq x.remainder 0) (some y g))
      where
        same : (a r t : ℕ) → a ≡ r → 0 < t → 2 * a < 2 * r + t
        same a r t e h = omega arith
    strict y (inr g) = more (s * P) x.whole (cond (eqb x.remainder 0) 0 1) g
      where
        more : (a r t : ℕ) → a < r → 2 * a < 2 * r + t
        more a r t h = omega arith
