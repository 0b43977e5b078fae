-- Between values that are not negative `order_bits` compares as the values do: it grows with the units, and two values with the same bits are the same. Assumes nothing.
use Rattle.std.proofs.Common.{◌≡◌, ℕ, zero, suc, ◌+◌, ◌-◌, ◌*◌, ◌/◌, ◌^◌, ◌<◌, ◌≤◌, Bool, true, false, cond, ◌&&◌, ◌||◌, T, eqb, ltb, ◌⊎◌, ℤ, sym, refl, ap, ◌∙◌, subst, inl, inr, true≢false, le_trans, le_of_eq, lt_of_le_of_lt, le_of_lt, le_antisymm, eq-or-lt_of_le, le-div_iff_mul-le, zero-add, zero-mul, not-le_of_lt, arith, pow_pos, pow-add, ltb-false, ltb-true, le-ltb, lt-ltb, eq-eqb, ne_eqb, eqb-true}
use mathlib.Core.Bool.{beq}
use lib.Pow.{shr_mono}
use lib.Ieee.{Float, nan, inf, fin, binary64, up, down, size, lt, eq, fits, is_nan, to_bits, of_bits}
use lib.Ieee.Digits.{size-lt, size-le, size_reaches}
use lib.Ieee.Fits.{down_pos, kept-lt}
use lib.Ieee.Bits.{of_bits-to_bits}
use borrow.Author.Tests.{eqb-false}
use Rattle.geometry.specs.Units.{units_of, NotNegative}
use Rattle.geometry.specs.inside.Word.{order_bits}
use Rattle.geometry.proofs.Laws.Float.Units.{units-is, units-exact, lt-units, test}

-- the bits of n units
code : ℕ → ℕ
code n = (size n - 53) * 2 ^ 52 + n / 2 ^ (size n - 53)

-- ---- it grows with n
code_mono : (n m : ℕ) → n ≤ m → code n ≤ code m
unfolding code
code_mono n m h = elim (eq-or-lt_of_le (less (size n) (size m) (size-le n (size m) (lt_of_le_of_lt h (size-lt m))))) [
  | inl e ↦ subst (λ (k : ℕ). k * 2 ^ 52 + n / 2 ^ k ≤ code m) (sym e) (same (size m - 53) (n / 2 ^ (size m - 53)) (m / 2 ^ (size m - 53)) (shr_mono (size m - 53) h))
  | inr l ↦
      grown (size n - 53) (n / 2 ^ (size n - 53)) (size m - 53) (m / 2 ^ (size m - 53)) l (kept-lt 53 n)
      ((le-div_iff_mul-le (pow_pos (size m - 53))).1 (le_trans (le_of_eq (sym (pow-add 2 52 (size m - 53)))) (size_reaches m (52 + (size m - 53)) (under (size n - 53) (size m) l))))
]
  where
    less : (a b : ℕ) → a ≤ b → a - 53 ≤ b - 53
    less a b h = omega arith

    same : (k a b : ℕ) → a ≤ b → k * 2 ^ 52 + a ≤ k * 2 ^ 52 + b
    same k a b h = omega arith

    grown : (k a j b : ℕ) → k < j → a < 2 ^ 53 → 2 ^ 52 ≤ b → k * 2 ^ 52 + a ≤ j * 2 ^ 52 + b
    grown k a j b l h g = omega arith

    under : (k s : ℕ) → k < s - 53 → 52 + (s - 53) < s
    under k s h = omega arith

-- ---- `order_bits` by the units
bits-code : (m : ℕ) (e : ℤ) → to_bits binary64 (fin false m e) ≡ code (units_of (fin false m e))
unfolding to_bits code units_of
bits-code m e = let n = units_of (fin false m e) in ap (λ (z : ℕ). z + n / 2 ^ (size n - 53)) (zero-add ((size n - 53) * 2 ^ 52))

code-zero : code 0 ≡ 0
unfolding code size
code-zero = refl

none : (s : Bool) (m : ℕ) (e : ℤ) → m * up e ≡ 0 → 0 ≡ code (units_of (fin s m e))
none s m e h = sym (ap code (units-is s m e 0 (ap (λ (z : ℕ). z * 2 ^ 1074) h ∙ zero-mul (2 ^ 1074) ∙ sym (zero-mul (down e)))) ∙ code-zero)

order-code : (x : Float) → NotNegative x → order_bits x ≡ code (units_of x)
unfolding lt is_nan
order-code nan n = absurd n
order-code (inf s) n = absurd n
order-code (fin true m e) n = none true m e (ap (λ (z : ℕ). z * up e) n ∙ zero-mul (up e))
order-code (fin false m e) n = go (ltb (0 * down e) (m * up e * 1)) refl
  where
    nil : (a d : ℕ) → a * 1 ≤ 0 * d → a ≡ 0
    nil a d h = omega arith

    go : (b : Bool) → ltb (0 * down e) (m * up e * 1) ≡ b → cond b (to_bits binary64 (fin false m e)) 0 ≡ code (units_of (fin false m e))
    go true h = bits-code m e
    go false h = none false m e (nil (m * up e) (down e) (ltb-false (0 * down e) (m * up e * 1) h))

-- ---- two values with the same code have the same units
plain : (s : Bool) (m : ℕ) (e : ℤ) → T (fits binary64 (fin s m e)) → T (fits binary64 (fin false m e))
unfolding fits
plain s zero e h = h
plain s (suc m) e h = h

unsigned : (s : Bool) (m : ℕ) (e : ℤ) → units_of (fin s m e) ≡ units_of (fin false m e)
unfolding units_of
unsigned s m e = refl

back : (m : ℕ) (e : ℤ) → T (fits binary64 (fin false m e)) → of_bits binary64 (code (units_of (fin false m e))) ≡ fin false m e
back m e f = ap (of_bits binary64) (sym (bits-code m e)) ∙ of_bits-to_bits binary64 (fin false m e) f

code_same : (x y : Float) → T (fits binary64 x) → T (fits binary64 y) → NotNegative x → NotNegative y → code (units_of x) ≡ code (units_of y) → units_of x ≡ units_of y
code_same nan y f g n k h = absurd n
code_same (inf s) y f g n k h = absurd n
code_same (fin s m e) nan f g n k h = absurd k
code_same (fin s m e) (inf t) f g n k h = absurd k
code_same (fin s m e) (fin t o d) f g n k h =
    unsigned s m e
    ∙ ap units_of
    (sym (back m e (plain s m e f)) ∙ ap (of_bits binary64) (ap code (sym (unsigned s m e)) ∙ h ∙ ap code (unsigned t o d)) ∙ back o d (plain t o d g))
    ∙ sym (unsigned t o d)

-- ---- a number for each, with the same tests
module _ (f : ℕ → ℕ) (mono : (a b : ℕ) → a ≤ b → f a ≤ f b) (a b : ℕ) (same : f a ≡ f b → a ≡ b) where
  by-lt : ltb (f a) (f b) ≡ ltb a b
  by-lt = go (ltb a b) refl
    where
      go : (t : Bool) → ltb a b ≡ t → ltb (f a) (f b) ≡ ltb a b
      go false h = le-ltb (f a) (f b) (mono b a (ltb-false a b h)) ∙ sym h
      go true h = elim (eq-or-lt_of_le (mono a b (le_of_lt (ltb-true a b h)))) [
        | inr l ↦ lt-ltb (f a) (f b) l ∙ sym h
        | inl e ↦ absurd (not-le_of_lt (ltb-true a b h) (le_of_eq (sym (same e))))
      ]

  by-eq : eqb (f a) (f b) ≡ eqb a b
  by-eq = go (eqb a b) refl
    where
      go : (t : Bool) → eqb a b ≡ t → eqb (f a) (f b) ≡ eqb a b
      go true h = eq-eqb (f a) (f b) (ap f (eqb-true a b h)) ∙ sym h
      go false h = ne_eqb (f a) (f b) (λ (e : f a ≡ f b). eqb-false a b h (same e)) ∙ sym h

-- ---- `eq` by the units
even : (a b x y : ℕ) → ltb a b ≡ ltb x y → ltb b a ≡ ltb y x → eqb a b ≡ eqb x y
even a b x y h k = go (eqb x y) refl
  where
    go : (t : Bool) → eqb x y ≡ t → eqb a b ≡ eqb x y
    go true e =
        eq-eqb a b
        (le_antisymm (ltb-false b a (k ∙ le-ltb y x (le_of_eq (eqb-true x y e)))) (ltb-false a b (h ∙ le-ltb x y (le_of_eq (sym (eqb-true x y e))))))
        ∙ sym e
    go false e = ne_eqb a b (λ (q : a ≡ b). eqb-false x y e (le_antisymm (ltb-false y x (sym k ∙ le-ltb b a (le_of_eq q))) (ltb-false x y (sym h ∙ le-ltb a b (le_of_eq (sym q)))))) ∙ sym e

-- the signs do not count where one of the two is 0
signless : (a b : ℕ) (t : Bool) → (t ≡ true) ⊎ ((a ≡ 0) ⊎ (b ≡ 0)) → (eqb a b && (t || eqb a 0)) ≡ eqb a b
signless a b true h = go (eqb a b)
  where
    go : (u : Bool) → (u && true) ≡ u
    go true = refl
    go false = refl
signless a b false h = go (eqb a b) refl
  where
    zero_a : a ≡ b → a ≡ 0
    zero_a e = elim h [ inl t ↦ absurd (true≢false (sym t)) | inr z ↦ elim z [ inl p ↦ p | inr q ↦ e ∙ q ] ]

    go : (u : Bool) → eqb a b ≡ u → (eqb a b && eqb a 0) ≡ eqb a b
    go true e = ap (λ (v : Bool). eqb a b && v) (eq-eqb a 0 (zero_a (eqb-true a b e))) ∙ ap (λ (v : Bool). v && true) e ∙ sym e
    go false e = ap (λ (v : Bool). v && eqb a 0) e ∙ sym e

pub eq-units : (x y : Float) → T (fits binary64 x) → T (fits binary64 y) → NotNegative x → NotNegative y → eq x y ≡ eqb (units_of x) (units_of y)
unfolding eq
eq-units nan y f g n k = absurd n
eq-units (inf s) y f g n k = absurd n
eq-units (fin s m e) nan f g n k = absurd k
eq-units (fin s m e) (inf t) f g n k = absurd k
eq-units (fin s m e) (fin t o d) f g n k =
    let X = units_of (fin s m e) in
    let Y = units_of (fin t o d) in
    let p = units-exact s m e f in
    let q = units-exact t o d g in
    signless (m * up e * down d) (o * up d * down e) (beq s t) (signs s t n k)
    ∙ even (m * up e * down d) (o * up d * down e) X Y (test (m * up e) (o * up d) (down e) (down d) X Y (down_pos e) (down_pos d) p q) (test (o * up d) (m * up e) (down d) (down e) Y X (down_pos d) (down_pos e) q p)
  where
    nil : (a u c : ℕ) → a ≡ 0 → a * u * c ≡ 0
    nil a u c z = ap (λ (w : ℕ). w * u * c) z ∙ ap (λ (w : ℕ). w * c) (zero-mul u) ∙ zero-mul c

    signs : (s t : Bool) → NotNegative (fin s m e) → NotNegative (fin t o d) → (beq s t ≡ true) ⊎ ((m * up e * down d ≡ 0) ⊎ (o * up d * down e ≡ 0))
    signs true true n k = inl refl
    signs false false n k = inl refl
    signs true false n k = inr (inl (nil m (up e) (down d) n))
    signs false true n k = inr (inr (nil o (up d) (down e) k))

-- ---- the order
module _ (x y : Float) (x-fits : T (fits binary64 x)) (y-fits : T (fits binary64 y)) (x-plus : NotNegative x) (y-plus : NotNegative y) where
  pub order_lt : ltb (order_bits x) (order_bits y) ≡ lt x y
  order_lt =
      (λ i. ltb (order-code x x-plus i) (order-code y y-plus i))
      ∙ by-lt code code_mono (units_of x) (units_of y) (code_same x y x-fits y-fits x-plus y-plus)
      ∙ sym (lt-units x y x-fits y-fits x-plus y-plus)

  pub order-eq : eqb (order_bits x) (order_bits y) ≡ eq x y
  order-eq =
      (λ i. eqb (order-code x x-plus i) (order-code y y-plus i))
      ∙ by-eq code code_mono (units_of x) (units_of y) (code_same x y x-fits y-fits x-plus y-plus)
      ∙ sym (eq-units x y x-fits y-fits x-plus y-plus)
