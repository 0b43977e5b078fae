-- Part 3 of `sqrt`: rounding is to the nearest value of binary64, ties to even (IEEE 754, 4.3.1). The exact root is written in half units
-- of 2 ^ -1074: twice its whole part, and one more where a remainder is left. Assumes nothing.
use Rattle.std.proofs.Common.{◌≡◌, ℕ, zero, suc, ◌+◌, ◌-◌, ◌*◌, ◌/◌, ◌%◌, ◌^◌, ◌<◌, ◌≤◌, Bool, true, false, cond, not, T, eqb, ◌⊎◌, sym, refl, ap, ◌∙◌, subst, inl, inr, le_trans, le_of_eq, lt_of_lt_of_le, le_of_suc-le-suc, lt_of_le_of_lt, mul-le-mul_right, mod-lt, zero-lt-suc, lt_of_mul-lt-mul_right, mul-pos, lt_of_not-le, div-add-mod', not-le_of_lt, arith, lit<, eqb→eq, leb→le, pow_pos, pow_mono, pow-add}
use Prim.Native.Nat.{compare, Ordering}
use native.Mathlib.Nat.{pow-succ'}
use lib.Dec.{is_le, compare_is_eq, nleb→lt, eqb_refl}
use lib.Ieee.{Float, binary64, size, units, nearest}
use lib.Ieee.Digits.{size-lt, size-le, size_reaches}
use lib.Ieee.Fits.{core, round_is}
use lib.Ieee.Exact.{HasValue, units_val}
use lib.Ieee.Nearest.{closest, closest_same, div_same}
use Rattle.geometry.specs.Root.{Exact, rounded}
use Rattle.geometry.proofs.Laws.Root.Pattern.{size_is}

-- ---- the whole number nearest to d / u, ties to even
pub record Closest (d u c : ℕ) : Type 0 where
  pub above : 2 * (c * u) ≤ 2 * d + u
  pub below : 2 * d ≤ 2 * (c * u) + u
  pub even : (2 * (c * u) ≡ 2 * d + u) ⊎ (2 * d ≡ 2 * (c * u) + u) → c % 2 ≡ 0

pub closest-is : (d u : ℕ) → 0 < u → Closest d u (closest d u)
closest-is d u p = go (compare (d % u * 2) u) refl
  where
    whole : d ≡ d / u * u + d % u
    whole = sym (div-add-mod' d u)

    rest : d % u < u
    rest = mod-lt d p

    -- the two numbers compared are not equal where `compare` does not say so
    apart : (o : Ordering) → compare (d % u * 2) u ≡ o → (T (compare_is_eq o) → ⊥) → d % u * 2 ≡ u → ⊥
    apart o e n s = n (subst (λ (z : Ordering). T (compare_is_eq z)) e (subst (λ (z : ℕ). T (eqb (d % u * 2) z)) s (eqb_refl (d % u * 2))))

    low : (d u w r : ℕ) → 0 < u → d ≡ w * u + r → r * 2 ≤ u → (r * 2 ≡ u → ⊥) → Closest d u w
    low d u w r p e h n = record { above = omega arith; below = omega arith; even = λ (t : (2 * (w * u) ≡ 2 * d + u) ⊎ (2 * d ≡ 2 * (w * u) + u)). absurd (elim t [ inl x ↦ first (w * u) d u r p e x | inr x ↦ n (second (w * u) d u r e x) ]) }
      where
        first : (c d u r : ℕ) → 0 < u → d ≡ c + r → 2 * c ≡ 2 * d + u → ⊥
        first c d u r p e x = omega arith

        second : (c d u r : ℕ) → d ≡ c + r → 2 * d ≡ 2 * c + u → r * 2 ≡ u
        second c d u r e x = omega arith

    high : (d u w r : ℕ) → d ≡ w * u + r → r < u → u < r * 2 → Closest d u (suc w)
    high d u w r e l h = record { above = omega arith; below = omega arith; even = λ (t : (2 * (suc w * u) ≡ 2 * d + u) ⊎ (2 * d ≡ 2 * (suc w * u) + u)). absurd (elim t [ inl x ↦ first w d u r e h x | inr x ↦ second w d u r e l x ]) }
      where
        first : (w d u r : ℕ) → d ≡ w * u + r → u < r * 2 → 2 * (suc w * u) ≡ 2 * d + u → ⊥
        first w d u r e h x = omega arith

        second : (w d u r : ℕ) → d ≡ w * u + r → r < u → 2 * d ≡ 2 * (suc w * u) + u → ⊥
        second w d u r e l x = omega arith

    tie : (d u w r : ℕ) → d ≡ w * u + r → r * 2 ≡ u → Closest d u (w + w % 2)
    tie d u w r e h = at (w % 2) (bit w) refl
      where
        bit : (w : ℕ) → w % 2 < 2
        bit w = omega arith

        at : (b : ℕ) → b < 2 → w % 2 ≡ b → Closest d u (w + b)
        at zero l x = record { above = omega arith; below = omega arith; even = λ t. omega arith }
        at (suc zero) l x = record { above = omega arith; below = omega arith; even = λ t. omega arith }
        at (suc (suc b)) l x = absurd (no b l)
          where
            no : (b : ℕ) → suc (suc b) < 2 → ⊥
            no b h = omega arith

    go : (o : Ordering) → compare (d % u * 2) u ≡ o → Closest d u (nearest (d / u) o)
    go Ordering.lt e = low d u (d / u) (d % u) p whole (leb→le (d % u * 2) u (subst (λ (z : Ordering). T (is_le z)) (sym e) tt)) (apart Ordering.lt e (λ f. f))
    go Ordering.eq e = tie d u (d / u) (d % u) whole (eqb→eq (d % u * 2) u (subst (λ (z : Ordering). T (compare_is_eq z)) (sym e) tt))
    go Ordering.gt e = high d u (d / u) (d % u) whole rest (nleb→lt (d % u * 2) u (subst (λ (z : Ordering). T (not (is_le z))) (sym e) tt))

-- ---- `rounded` of a root whose whole part has 54 + j digits

-- the exact root in half units of 2 ^ -1074
abbrev pub halves : Exact → ℕ
halves x = 2 * x.whole + cond (eqb x.remainder 0) 0 1

-- 1 at most is added
pub bit_le : (b : Bool) → cond b 0 1 ≤ 1
bit_le true = omega arith
bit_le false = omega arith

cut : (L r t : ℕ) → 0 < L → t ≤ 1 → (2 * r + t) * L / (2 * L) ≡ r
cut L r t p h = div_same ((2 * r + t) * L) (2 * L) (2 * r + t) 2 (twice L p) (zero-lt-suc 1) (cross (2 * r + t) L) ∙ half r t h
  where
    twice : (L : ℕ) → 0 < L → 0 < 2 * L
    twice L p = omega arith

    cross : (d L : ℕ) → d * L * 2 ≡ d * (2 * L)
    cross d L = omega arith

    half : (r t : ℕ) → t ≤ 1 → (2 * r + t) / 2 ≡ r
    half r t h = omega arith

spread : (d L P : ℕ) → d * L * (4 * P) ≡ d * (2 * L * (2 * P))
spread d L P = omega arith

pub rounded-is : (x : Exact) (j : ℕ) → 2 ^ (53 + j) ≤ x.whole → x.whole < 2 ^ suc (53 + j) → rounded x ≡ units binary64 false (closest (halves x) (4 * 2 ^ j)) (suc j)
unfolding rounded
rounded-is x j lo hi =
    let d = halves x in
    let k : size (d * 2 ^ 1074 / 2 ^ 1075) - 53 ≡ suc j = ap (λ (z : ℕ). size z - 53) (cut (2 ^ 1074) x.whole (cond (eqb x.remainder 0) 0 1) (pow_pos 1074) (bit_le (eqb x.remainder 0))) ∙ ap (λ (z : ℕ). z - 53) (size_is (53 + j) x.whole lo hi) ∙ minus j in
    round_is binary64 false d (2 ^ 1075)
    ∙ ap (λ (z : ℕ). core binary64 false (d * 2 ^ 1074) (2 ^ 1075) z) k
    ∙ ap (λ (z : ℕ). units binary64 false z (suc j))
    (closest_same (d * 2 ^ 1074) (2 ^ 1075 * 2 ^ suc j) d (4 * 2 ^ j) (mul-pos (pow_pos 1075) (pow_pos (suc j))) (mul-pos (zero-lt-suc 3) (pow_pos j))
    (spread d (2 ^ 1074) (2 ^ j) ∙ ap (λ (z : ℕ). d * (2 ^ 1075 * z)) (sym (pow-succ' 2 j))))
  where
    minus : (j : ℕ) → suc (53 + j) - 53 ≡ suc j
    minus j = omega arith

-- the result is below the largest value
pub in-range : (Q j : ℕ) → Q ≤ 2 ^ 53 → j < 1600 → Q * 2 ^ suc j < 2 ^ 2098
in-range Q j h l = lt_of_le_of_lt (mul-le-mul_right (2 ^ suc j) h) (lt_of_le_of_lt (le_of_eq (sym (pow-add 2 53 (suc j)))) (lt_of_le_of_lt (pow_mono (last j l)) (lit< {m = 2 ^ 1653} {n = 2 ^ 2098} tt)))
  where
    last : (j : ℕ) → j < 1600 → 53 + suc j ≤ 1653
    last j h = omega arith

-- v is Q * 2 ^ k units of 2 ^ -1074, and Q has 53 digits, or is 2 ^ 53. The root, in half units, is half a last place of v away at most, and just that only where Q is even.
pub record NearestEven (x : Exact) (v : Float) : Type 0 where
  pub Q : ℕ
  pub k : ℕ
  pub low : 2 ^ 52 ≤ Q
  pub high : Q ≤ 2 ^ 53
  pub value : HasValue v false (Q * 2 ^ k) (2 ^ 1074)
  pub above : 2 * (Q * 2 ^ k) ≤ halves x + 2 ^ k
  pub below : halves x ≤ 2 * (Q * 2 ^ k) + 2 ^ k
  pub even : (2 * (Q * 2 ^ k) ≡ halves x + 2 ^ k) ⊎ (halves x ≡ 2 * (Q * 2 ^ k) + 2 ^ k) → Q % 2 ≡ 0

nearest-at : (x : Exact) (j : ℕ) → 2 ^ (53 + j) ≤ x.whole → x.whole < 2 ^ suc (53 + j) → j < 1600 → NearestEven x (rounded x)
nearest-at x j lo hi jl =
    let d = halves x in
    let P = 2 ^ j in
    let t = bit_le (eqb x.remainder 0) in
    let c = closest-is d (4 * P) (mul-pos (zero-lt-suc 3) (pow_pos j)) in
    let Q = closest d (4 * P) in
    let e : 2 ^ suc j ≡ 2 * P = pow-succ' 2 j in
    let l : 2 ^ 53 * P ≤ x.whole = le_trans (le_of_eq (sym (pow-add 2 53 j))) lo in
    let h : x.whole < 2 ^ 54 * P = lt_of_lt_of_le hi (le_of_eq (ap (λ (z : ℕ). 2 ^ z) (plus j) ∙ pow-add 2 54 j)) in
    let Q-hi : Q ≤ 2 ^ 53 = most x.whole (cond (eqb x.remainder 0) 0 1) P Q t h c.above in
    record {
      Q = Q;
      k = suc j;
      low = least x.whole (cond (eqb x.remainder 0) 0 1) P Q (pow_pos j) l c.below;
      high = Q-hi;
      value = subst (λ (v : Float). HasValue v false (Q * 2 ^ suc j) (2 ^ 1074)) (sym (rounded-is x j lo hi)) (units_val binary64 false Q (suc j) (in-range Q j Q-hi jl));
      above = subst (λ (z : ℕ). 2 * (Q * z) ≤ d + z) (sym e) (up d Q P c.above);
      below = subst (λ (z : ℕ). d ≤ 2 * (Q * z) + z) (sym e) (down d Q P c.below);
      even = subst (λ (z : ℕ). (2 * (Q * z) ≡ d + z) ⊎ (d ≡ 2 * (Q * z) + z) → Q % 2 ≡ 0) (sym e) (λ (s : (2 * (Q * (2 * P)) ≡ d + 2 * P) ⊎ (d ≡ 2 * (Q * (2 * P)) + 2 * P)). c.even (elim s [ inl y ↦ inl (tie_up d Q P y) | inr y ↦ inr (tie_down d Q P y) ]));
    }
  where
    plus : (j : ℕ) → suc (53 + j) ≡ 54 + j
    plus j = omega arith

    up : (d Q P : ℕ) → 2 * (Q * (4 * P)) ≤ 2 * d + 4 * P → 2 * (Q * (2 * P)) ≤ d + 2 * P
    up d Q P h = omega arith

    down : (d Q P : ℕ) → 2 * d ≤ 2 * (Q * (4 * P)) + 4 * P → d ≤ 2 * (Q * (2 * P)) + 2 * P
    down d Q P h = omega arith

    tie_up : (d Q P : ℕ) → 2 * (Q * (2 * P)) ≡ d + 2 * P → 2 * (Q * (4 * P)) ≡ 2 * d + 4 * P
    tie_up d Q P h = omega arith

    tie_down : (d Q P : ℕ) → d ≡ 2 * (Q * (2 * P)) + 2 * P → 2 * d ≡ 2 * (Q * (4 * P)) + 4 * P
    tie_down d Q P h = omega arith

    most : (r t P Q : ℕ) → t ≤ 1 → r < 2 ^ 54 * P → 2 * (Q * (4 * P)) ≤ 2 * (2 * r + t) + 4 * P → Q ≤ 2 ^ 53
    most r t P Q tl h c = le_of_suc-le-suc (lt_of_mul-lt-mul_right P (wide r t P Q tl h c))
      where
        wide : (r t P Q : ℕ) → t ≤ 1 → r < 2 ^ 54 * P → 2 * (Q * (4 * P)) ≤ 2 * (2 * r + t) + 4 * P → Q * P < suc (2 ^ 53) * P
        wide r t P Q tl h c = omega arith

    least : (r t P Q : ℕ) → 0 < P → 2 ^ 53 * P ≤ r → 2 * (2 * r + t) ≤ 2 * (Q * (4 * P)) + 4 * P → 2 ^ 52 ≤ Q
    least r t P Q p l c = le_of_suc-le-suc (lt_of_mul-lt-mul_right P (wide r t P Q p l c))
      where
        wide : (r t P Q : ℕ) → 0 < P → 2 ^ 53 * P ≤ r → 2 * (2 * r + t) ≤ 2 * (Q * (4 * P)) + 4 * P → 2 ^ 52 * P < suc Q * P
        wide r t P Q p l c = omega arith

-- for every root of 54 digits or more
pub rounded-nearest : (x : Exact) → 2 ^ 53 ≤ x.whole → x.whole < 2 ^ 1586 → NearestEven x (rounded x)
rounded-nearest x lo hi =
    let k = size x.whole in
    let k-hi : k ≤ 1586 = size-le x.whole 1586 hi in
    let k-lo : 53 < k = lt_of_not-le (λ (h : k ≤ 53). not-le_of_lt (lt_of_lt_of_le (size-lt x.whole) (pow_mono h)) lo) in
    nearest-at x (k - 54) (size_reaches x.whole (53 + (k - 54)) (lead k k-lo)) (subst (λ (z : ℕ). x.whole < 2 ^ z) (next k k-lo) (size-lt x.whole)) (few k k-hi)
  where
    lead : (k : ℕ) → 53 < k → 53 + (k - 54) < k
    lead k h = omega arith

    next : (k : ℕ) → 53 < k → k ≡ suc (53 + (k - 54))
    next k h = omega arith

    few : (k : ℕ) → k ≤ 1586 → k - 54 < 1600
    few k h = omega arith
