-- `nearest_away` is the library's `round` as a u64: of what is not negative, the half that `round` adds is the definition's, and the whole number that it gives is a value of binary64, and so not rounded again. Assumes nothing.
use Rattle.std.proofs.Common.{◌≡◌, ℕ, suc, ◌+◌, ◌-◌, ◌*◌, ◌/◌, ◌%◌, ◌^◌, ◌<◌, ◌≤◌, min, Bool, true, false, cond, T, ltb, leb, ℤ, pos, negsuc, sym, refl, ap, ◌∙◌, subst, true≢false, zero-le, le_trans, le_of_eq, lt_of_lt_of_le, le-add_right, lt_of_le_of_lt, add-zero, le_of_lt, mul-le-mul_right, zero-lt-suc, div-lt_iff_lt-mul, lt_of_mul-lt-mul_right, mul-le-mul_left, div-add-mod', mul-one, mul_right_comm, le_of_mul-le-mul_right, arith, lit<, lit≤, le→leb, leb→le, pow_pos, pow_mono, ltb-false, leb-false}
use Rattle.std.proofs.Math.Nat.{div-eq_of_lt-le, div-one, mul-div_cancel, mod-lt}
use Rattle.std.specs.Float.{round_with, ratio_round_half_up}
use native.Mathlib.Nat.{mod-one, zero-div, zero-mod}
use lib.Ieee.{Float, nan, inf, fin, binary64, prec, emax, low, up, down, odd, units, round, lt, fits, to_unsigned, in_float}
use lib.Ieee.Fits.{down_pos}
use lib.Ieee.Exact.{HasValue, odd_sign, round_exact}
use borrow.Author.Tests.{lt-leb}
use Rattle.geometry.specs.Float.{zero64}
use Rattle.geometry.specs.inside.Units.{Within}
use Rattle.geometry.specs.Rank.{nearest_whole, nearest_away}
use Rattle.geometry.proofs.Laws.Float.Units.{place}

-- ---- the half that is added
half-up : (a d : ℕ) → 0 < d → (2 * a + d) / (2 * d) ≡ a / d + cond (leb d (a % d * 2)) 1 0
half-up a d p = go (leb d (a % d * 2)) refl
  where
    split : a ≡ a / d * d + a % d
    split = sym (div-add-mod' a d)

    more : (a d k r : ℕ) → a ≡ k * d + r → d ≤ r * 2 → (k + 1) * (2 * d) ≤ 2 * a + d
    more a d k r e h = omega arith

    under : (a d k r : ℕ) → a ≡ k * d + r → r < d → 2 * a + d < (k + 1 + 1) * (2 * d)
    under a d k r e h = omega arith

    least : (a d k r : ℕ) → a ≡ k * d + r → k * (2 * d) ≤ 2 * a + d
    least a d k r e = omega arith

    less : (a d k r : ℕ) → a ≡ k * d + r → r * 2 < d → 2 * a + d < (k + 1) * (2 * d)
    less a d k r e h = omega arith

    go : (t : Bool) → leb d (a % d * 2) ≡ t → (2 * a + d) / (2 * d) ≡ a / d + cond (leb d (a % d * 2)) 1 0
    go true e =
        div-eq_of_lt-le {k = a / d + 1} (2 * d) (more a d (a / d) (a % d) split (leb→le d (a % d * 2) (subst T (sym e) tt))) (under a d (a / d) (a % d) split (mod-lt a p))
        ∙ ap (λ (b : Bool). a / d + cond b 1 0) (sym e)
    go false e =
        div-eq_of_lt-le {k = a / d} (2 * d) (least a d (a / d) (a % d) split) (less a d (a / d) (a % d) split (leb-false d (a % d * 2) e))
        ∙ sym (add-zero (a / d))
        ∙ ap (λ (b : Bool). a / d + cond b 1 0) (sym e)

-- ---- the cut of a whole value
value-is : (v : Float) (n : ℕ) → HasValue v false n 1 → to_unsigned 64 v ≡ min n (2 ^ 64 - 1)
unfolding to_unsigned
value-is nan n h = absurd h
value-is (inf s) n h = absurd h
value-is (fin true m e) n h = absurd (true≢false h.0)
value-is (fin false m e) n h = ap (λ (z : ℕ). min z (2 ^ 64 - 1)) (ap (λ (z : ℕ). z / down e) (sym (mul-one (m * up e)) ∙ h.1) ∙ mul-div_cancel n (down_pos e))

-- what is negative stays so
negative : (v : Float) (a c : ℕ) → HasValue v true a c → to_unsigned 64 v ≡ 0
unfolding to_unsigned
negative nan a c h = absurd h
negative (inf s) a c h = absurd h
negative (fin true m e) a c h = refl
negative (fin false m e) a c h = absurd (true≢false (sym h.0))

negative-units : (q k : ℕ) → to_unsigned 64 (units binary64 true q k) ≡ 0
unfolding units to_unsigned
negative-units q k = go (ltb (q * 2 ^ k) (2 ^ (low binary64 + suc (emax binary64))))
  where
    go : (b : Bool) → to_unsigned 64 (cond b (odd (suc (prec binary64)) true q k (low binary64)) (inf true)) ≡ 0
    go true = negative (odd (suc (prec binary64)) true q k (low binary64)) (q * 2 ^ k) (2 ^ low binary64) (odd_sign (suc (prec binary64)) true q k (low binary64))
    go false = refl

negative-round : (n d : ℕ) → to_unsigned 64 (round binary64 true n d) ≡ 0
unfolding round
negative-round n d = negative-units _ _

-- ---- binary64 holds the whole number: of m * 2 ^ x it is m * 2 ^ x, and of a fraction it is below 2 ^ 53
whole-exact : (m : ℕ) (e : ℤ) → T (fits binary64 (fin false m e)) → HasValue (round binary64 false (nearest_whole m e) 1) false (nearest_whole m e) 1
whole-exact m (pos x) f =
    let p = place false m (pos x) f in
    let is : nearest_whole m (pos x) ≡ m * 2 ^ x =
    ap (λ (r : ℕ). m * 2 ^ x / 1 + cond (leb 1 (r * 2)) 1 0) (mod-one (m * 2 ^ x)) ∙ add-zero (m * 2 ^ x / 1) ∙ div-one (m * 2 ^ x) in
    subst (λ (z : ℕ). HasValue (round binary64 false z 1) false z 1) (sym is) (round_exact binary64 false (m * 2 ^ x) 1 m p.j (zero-lt-suc 0) p.small p.under p.exact)
whole-exact m (negsuc x) f =
    let n = nearest_whole m (negsuc x) in
    let s : m * 1 < 2 ^ 52 * 2 ^ suc x =
    lt_of_le_of_lt (le_of_eq (mul-one m)) (lt_of_lt_of_le (place false m (negsuc x) f).small (mul-le-mul_left (2 ^ 52) (pow_mono {i = 1} {j = suc x} (one-le x)))) in
    let h : n < 2 ^ 53 = near (m * 1 / 2 ^ suc x) (leb (2 ^ suc x) (m * 1 % 2 ^ suc x * 2)) ((div-lt_iff_lt-mul (down_pos (negsuc x))).1 s) in
    round_exact binary64 false n 1 n 1074 (zero-lt-suc 0) h (lt_of_le_of_lt (mul-le-mul_right (2 ^ 1074) (le_of_lt h)) (lit< {m = 2 ^ 53 * 2 ^ 1074} {n = 2 ^ 2098} tt)) (sym (mul-one (n * 2 ^ 1074)))
  where
    one-le : (x : ℕ) → 1 ≤ suc x
    one-le x = omega arith

    near : (n : ℕ) (t : Bool) → n < 2 ^ 52 → n + cond t 1 0 < 2 ^ 53
    near n true h = omega arith
    near n false h = omega arith

pub rounded-is : (q : Float) → T (fits binary64 q) → to_unsigned 64 (round_with ratio_round_half_up ratio_round_half_up binary64 q) ≡ nearest_away q
unfolding round_with to_unsigned nearest_away
rounded-is nan f = refl
rounded-is (inf true) f = refl
rounded-is (inf false) f = refl
rounded-is (fin true m e) f = negative-round (ratio_round_half_up (m * up e) (down e)) 1
rounded-is (fin false m e) f =
    ap (λ (z : ℕ). to_unsigned 64 (round binary64 false z 1)) (half-up (m * up e) (down e) (down_pos e))
    ∙ value-is (round binary64 false (nearest_whole m e) 1) (nearest_whole m e) (whole-exact m e f)

-- ---- a whole number that binary64 holds
pub in-float : (n : ℕ) → n < 2 ^ 52 → T (in_float binary64 (pos n))
unfolding in_float
in-float n h = le→leb n (2 ^ 53) (le_trans (le_of_lt h) (lit≤ {m = 2 ^ 52} {n = 2 ^ 53} tt))

-- ---- what is not above 0
pub whole-zero : (m : ℕ) (e : ℤ) → m * up e ≡ 0 → nearest_whole m e ≡ 0
whole-zero m e h =
    ap (λ (z : ℕ). z / down e + cond (leb (down e) (z % down e * 2)) 1 0) h
    ∙ (λ i. zero-div (down e) i + cond (leb (down e) (zero-mod (down e) i * 2)) 1 0)
    ∙ ap (λ (b : Bool). 0 + cond b 1 0) (lt-leb (down e) 0 (down_pos e))

none : (a d : ℕ) → a * 1 ≤ 0 * d → a ≡ 0
none a d h = omega arith

pub not-above : (q : Float) → lt zero64 q ≡ false → 0 ≡ nearest_away q
unfolding lt nearest_away
not-above nan h = refl
not-above (inf true) h = refl
not-above (inf false) h = absurd (true≢false h)
not-above (fin true m e) h = refl
not-above (fin false m e) h = ap (λ (z : ℕ). min z (2 ^ 64 - 1)) (sym (whole-zero m e (none (m * up e) (down e) (ltb-false (0 * down e) (m * up e * 1) h))))

-- ---- what is at most 1e11 goes to a whole number that is at most 1e11
pub away-le : (q : Float) → Within (48828125 * 2 ^ 1085) q → nearest_away q ≤ 10 ^ 11
unfolding nearest_away
away-le nan w = absurd w
away-le (inf s) w = absurd w
away-le (fin true m e) w = zero-le
away-le (fin false m e) w =
    cut (nearest_whole m e)
    (go (m * up e / down e) (m * up e % down e) (down e) (leb (down e) (m * up e % down e * 2)) (leb→le (down e) (m * up e % down e * 2)) (down_pos e)
    (le_trans (le_of_eq (div-add-mod' (m * up e) (down e))) (le_of_mul-le-mul_right (le_trans w (le_of_eq (mul_right_comm (10 ^ 11) (2 ^ 1074) (down e)))) (pow_pos 1074))))
  where
    cut : (n : ℕ) → n ≤ 10 ^ 11 → min n (2 ^ 64 - 1) ≤ 10 ^ 11
    cut n h = omega arith

    go : (n r d : ℕ) (t : Bool) → (T t → d ≤ r * 2) → 0 < d → n * d + r ≤ 10 ^ 11 * d → n + cond t 1 0 ≤ 10 ^ 11
    go n r d false f p h = le_trans (le_of_eq (add-zero n)) (le_of_mul-le-mul_right (le_trans (le-add_right (n * d) r) h) p)
    go n r d true f p h = subst (λ (z : ℕ). z ≤ 10 ^ 11) (one_more n) (lt_of_mul-lt-mul_right d (lt_of_lt_of_le (grown (n * d) r d (f tt) p) h))
      where
        grown : (a r d : ℕ) → d ≤ r * 2 → 0 < d → a < a + r
        grown a r d h p = omega arith

        one_more : (n : ℕ) → suc n ≡ n + 1
        one_more n = omega arith
