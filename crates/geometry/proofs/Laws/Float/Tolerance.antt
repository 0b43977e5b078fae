-- A tolerance that is added in f64 and compared: what it says of the exact values, in units of 2 ^ -1074. Assumes nothing.
use Rattle.std.proofs.Common.{◌≡◌, ℕ, ◌+◌, ◌-◌, ◌*◌, ◌^◌, ◌<◌, ◌≤◌, Bool, true, false, cond, T, ltb, negsuc, sym, refl, ap, ◌∙◌, true≢false, le_trans, le_of_eq, lt_of_lt_of_le, le-add_right, lt_of_le_of_lt, le_of_lt, mul-le-mul_right, mul-le-mul_left, lt_of_not-le, arith, lit<, lit≤, pow_pos, pow_mono, ltb-false, ltb-true}
use native.Mathlib.Decide.{dec_le}
use lib.Ieee.{Float, nan, inf, fin, binary64, size, round, add, lt, fits}
use lib.Ieee.Digits.{size-le}
use lib.Ieee.Fits.{round-fits}
use lib.Ieee.Exact.{HasValue}
use lib.Ieee.Scale.{round_val, round_under, grid, finite}
use Rattle.geometry.specs.Units.{units_of, NotNegative}
use Rattle.geometry.specs.Literals.{tenth, e_12, e_10}
use Rattle.geometry.proofs.Laws.Float.Grid.{grid_mono, grid-upper}
use Rattle.geometry.proofs.Laws.Float.Sign.{Signed, round-signed}
use Rattle.geometry.proofs.Laws.Float.Units.{units-of-value, units-grid, lt-units, add-units}

-- ---- a rounded value with the sign clear
value-not-negative : (x : Float) (a c : ℕ) → HasValue x false a c → NotNegative x
value-not-negative nan a c h = absurd h
value-not-negative (inf s) a c h = absurd h
value-not-negative (fin true m e) a c h = absurd (true≢false h.0)
value-not-negative (fin false m e) a c h = tt

-- `round` below overflow: not negative, and its units are the grid's
pub rounded : (a c : ℕ) → grid binary64 a c < 2 ^ 2098 → NotNegative (round binary64 false a c) × (units_of (round binary64 false a c) ≡ grid binary64 a c)
rounded a c h =
    let v = round_val binary64 a c h in
    (value-not-negative (round binary64 false a c) (grid binary64 a c) (2 ^ 1074) v, units-of-value (round binary64 false a c) false (grid binary64 a c) v)

-- ---- s + 1e-12 is not below m, for an m up to 0.1: then s is at least m - 2e-12
fits-e-12 : T (fits binary64 e_12)
unfolding fits
fits-e-12 = tt

sum_is : (s : Float) → T (fits binary64 s) → NotNegative s → add binary64 s e_12 ≡ round binary64 false (units_of s + units_of e_12) (2 ^ 1074)
sum_is s f n = add-units s 4951760157141520 (negsuc 91) f fits-e-12 n

times : (K m s d e : ℕ) → m ≤ s + d → K * d ≤ e → K * m ≤ K * s + e
times K m s d e h k = let l = mul-le-mul_left K h in omega arith

slack : 10 ^ 12 * (units_of e_12 + 2 ^ 1018) ≤ 2 * 2 ^ 1074
unfolding units_of
slack = lit≤ tt

tenth-small : units_of tenth < 2 ^ 1071
unfolding units_of
tenth-small = lit< tt

-- the sum is below m, so few digits are dropped
near : (S C M : ℕ) → S + C < M → M < 2 ^ 1071 → grid binary64 (S + C) (2 ^ 1074) ≤ S + C + 2 ^ 1018
near S C M h k =
    le_trans (grid-upper (S + C))
    (add-l (S + C) (2 ^ (size (S + C) - 53)) (2 ^ 1018) (pow_mono (cut (size (S + C)) (size-le (S + C) 1071 (lt_of_lt_of_le h (le_of_lt k))))))
  where
    add-l : (a b c : ℕ) → b ≤ c → a + b ≤ a + c
    add-l a b c h = omega arith

    cut : (z : ℕ) → z ≤ 1071 → z - 53 ≤ 1018
    cut z h = omega arith

pub tolerance : (s m : Float) → T (fits binary64 s) → T (fits binary64 m) → NotNegative s → NotNegative m → units_of m ≤ units_of tenth → lt (add binary64 s e_12) m ≡ false
    → 10 ^ 12 * units_of m ≤ 10 ^ 12 * units_of s + 2 * 2 ^ 1074
tolerance s m fs fm ns nm low h =
    let S = units_of s in
    let C = units_of e_12 in
    let M = units_of m in
    let G = grid binary64 (S + C) (2 ^ 1074) in
    let M-lt : M < 2 ^ 1071 = lt_of_le_of_lt low tenth-small in
    times (10 ^ 12) M S (C + 2 ^ 1018) (2 * 2 ^ 1074)
    (elim (dec_le M (S + C)) [
      | yes l ↦ wide M S C (2 ^ 1018) l
      | no g ↦
          let l : S + C < M = lt_of_not-le g in
          let g-le : G ≤ S + C + 2 ^ 1018 = near S C M l M-lt in
          let r = rounded (S + C) (2 ^ 1074) (lt_of_le_of_lt g-le (fine (S + C) M l M-lt)) in
          let v = round binary64 false (S + C) (2 ^ 1074) in
          let t : ltb G M ≡ false =
          ap (λ (z : ℕ). ltb z M) (sym r.1) ∙ sym (lt-units v m (round-fits binary64 false (S + C) (2 ^ 1074)) fm r.0 nm) ∙ ap (λ (z : Float). lt z m) (sym (sum_is s fs ns)) ∙ h in
          le_trans (ltb-false G M t) (le_trans g-le (le_of_eq (join S C (2 ^ 1018))))
    ])
    slack
  where
    wide : (M S C d : ℕ) → M ≤ S + C → M ≤ S + (C + d)
    wide M S C d h = omega arith

    join : (S C d : ℕ) → S + C + d ≡ S + (C + d)
    join S C d = omega arith

    fine : (n M : ℕ) → n < M → M < 2 ^ 1071 → n + 2 ^ 1018 < 2 ^ 2098
    fine n M a b = lt_of_lt_of_le (both n (2 ^ 1071) (2 ^ 1018) (lt_of_lt_of_le a (le_of_lt b))) (lit≤ {m = 2 ^ 1071 + 2 ^ 1018} {n = 2 ^ 2098} tt)
      where
        both : (n a b : ℕ) → n < a → n + b < a + b
        both n a b h = omega arith

-- m is the smaller of two
pub smaller : (x y : Float) → T (fits binary64 x) → T (fits binary64 y) → NotNegative x → NotNegative y → lt x y ≡ true → units_of x ≤ units_of y
smaller x y f g n k h = le_of_lt (ltb-true (units_of x) (units_of y) (sym (lt-units x y f g n k) ∙ h))

-- the smaller of x and 0.1
fits-tenth : T (fits binary64 tenth)
unfolding fits
fits-tenth = tt

pub record Least (m : Float) : Type 0 where
  pub fit : T (fits binary64 m)
  pub not_negative : NotNegative m
  pub low : units_of m ≤ units_of tenth

pub least-tenth : (x : Float) → T (fits binary64 x) → NotNegative x → Least (cond (lt x tenth) x tenth)
least-tenth x f n = go (lt x tenth) refl
  where
    go : (t : Bool) → lt x tenth ≡ t → Least (cond t x tenth)
    go true e = record { fit = f; not_negative = n; low = smaller x tenth f fits-tenth n tt e }
    go false e = record { fit = fits-tenth; not_negative = tt; low = le_of_eq refl }

-- ---- x is above y + 1e-10: then x is above y
fits-e-10 : T (fits binary64 e_10)
unfolding fits
fits-e-10 = tt

sum-is-10 : (s : Float) → T (fits binary64 s) → NotNegative s → add binary64 s e_10 ≡ round binary64 false (units_of s + units_of e_10) (2 ^ 1074)
sum-is-10 s f n = add-units s 7737125245533626 (negsuc 85) f fits-e-10 n

finite-of-lt : (v x : Float) → Signed false v → NotNegative x → lt v x ≡ true → T (finite v)
unfolding lt
finite-of-lt nan x g n h = absurd g
finite-of-lt (inf true) x g n h = absurd (true≢false g)
finite-of-lt (inf false) nan g n h = absurd n
finite-of-lt (inf false) (inf t) g n h = absurd n
finite-of-lt (inf false) (fin t m e) g n h = absurd (true≢false (sym h))
finite-of-lt (fin s m e) x g n h = tt

pub above : (x y : Float) → T (fits binary64 x) → T (fits binary64 y) → NotNegative x → NotNegative y → lt (add binary64 y e_10) x ≡ true → units_of y ≤ units_of x
above x y fx fy nx ny h =
    let Y = units_of y in
    let C = units_of e_10 in
    let v = round binary64 false (Y + C) (2 ^ 1074) in
    let G = grid binary64 (Y + C) (2 ^ 1074) in
    let k : lt v x ≡ true = ap (λ (z : Float). lt z x) (sym (sum-is-10 y fy ny)) ∙ h in
    let w : Y ≤ G = le_trans (le_of_eq (sym (units-grid y fy ny))) (grid_mono Y (2 ^ 1074) (Y + C) (2 ^ 1074) (pow_pos 1074) (pow_pos 1074) (mul-le-mul_right (2 ^ 1074) (le-add_right Y C))) in
    let r = rounded (Y + C) (2 ^ 1074) (round_under binary64 (Y + C) (2 ^ 1074) (finite-of-lt v x (round-signed binary64 false (Y + C) (2 ^ 1074)) nx k)) in
    le_trans w (le_of_lt (ltb-true G (units_of x) (ap (λ (z : ℕ). ltb z (units_of x)) (sym r.1) ∙ sym (lt-units v x (round-fits binary64 false (Y + C) (2 ^ 1074)) fx r.0 nx) ∙ k)))
