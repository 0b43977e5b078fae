-- How small a product can be; and what a sum or a square that is small says of its parts. Assumes nothing.
use Rattle.std.proofs.Common.{◌≡◌, ℕ, zero, suc, ◌+◌, ◌*◌, ◌^◌, ◌<◌, ◌≤◌, Bool, true, false, T, pos, sym, ap, ◌∙◌, subst, true≢false, le_trans, le_of_eq, le-add_right, lt_of_le_of_lt, le_of_lt, mul-le-mul_right, zero-lt-suc, mul_assoc, mul-le-mul, mul-pos, one-mul, lt_of_not-le, mul_right_comm, not-le_of_lt, le_of_mul-le-mul_right, lit<, pow_pos}
use native.Mathlib.Nat.{mul-mul-mul_comm}
use native.Mathlib.Decide.{dec_le}
use lib.Pow.{pow-lt}
use lib.Ieee.{Float, nan, inf, fin, binary64, up, down, unlike, round, sum, neg, add, mul, eq, fits}
use lib.Ieee.Fits.{down_pos}
use lib.Ieee.Exact.{HasValue}
use lib.Ieee.Scale.{round_same, round_val, round_under, grid}
use Rattle.geometry.specs.Units.{units_of}
use Rattle.geometry.specs.inside.Units.{Within}
use Rattle.geometry.proofs.Laws.Float.Grid.{grid_mono, grid-exact}
use Rattle.geometry.proofs.Laws.Float.Units.{units-exact, units-grid, place, sums}
use Rattle.geometry.proofs.Laws.Float.Magnitude.{within-neg, within-finite}
use Rattle.geometry.proofs.Laws.Float.Sign.{Signed, round-neg}
use Rattle.geometry.proofs.Laws.Float.Mirror.{add-comm-f, neg-neg}
use Rattle.geometry.proofs.Laws.Float.Up.{zero_is}
use Rattle.geometry.proofs.Laws.Float.Diff.{AtLeast}

pub clash : (B C : ℕ) (x : Float) → C < B → AtLeast B x → Within C x → ⊥
clash B C nan h a w = w
clash B C (inf s) h a w = w
clash B C (fin s m e) h a w = not-le_of_lt h (le_of_mul-le-mul_right (le_trans a w) (down_pos e))

at-least-neg : (B : ℕ) (x : Float) → AtLeast B x → AtLeast B (neg x)
unfolding neg
at-least-neg B nan h = h
at-least-neg B (inf s) h = h
at-least-neg B (fin s m e) h = h

-- ---- `round`
at-least-value : (B G : ℕ) (v : Float) → HasValue v false G (2 ^ 1074) → B ≤ G → AtLeast B v
at-least-value B G nan h l = absurd h
at-least-value B G (inf s) h l = absurd h
at-least-value B G (fin s m e) h l = le_trans (mul-le-mul_right (down e) l) (le_of_eq (sym h.1))

pub round-least : (s : Bool) (a c k C : ℕ) → 0 < c → k < 2098 → 2 ^ k * c ≤ a * 2 ^ 1074 → Within C (round binary64 s a c) → AtLeast (2 ^ k) (round binary64 s a c)
round-least s a c k C p K h w = go s w
  where
    top : 1 * 2 ^ k < 2 ^ 2098
    top = lt_of_le_of_lt (le_of_eq (one-mul (2 ^ k))) (pow-lt K)

    g : 2 ^ k ≤ grid binary64 a c
    g = le_trans (le_of_eq (sym (grid-exact 1 k (lit< tt) top ∙ one-mul (2 ^ k)))) (grid_mono (1 * 2 ^ k) (2 ^ 1074) a c (pow_pos 1074) p (le_trans (le_of_eq (ap (λ (z : ℕ). z * c) (one-mul (2 ^ k)))) h))

    plain : Within C (round binary64 false a c) → AtLeast (2 ^ k) (round binary64 false a c)
    plain w = at-least-value (2 ^ k) (grid binary64 a c) (round binary64 false a c) (round_val binary64 a c (round_under binary64 a c (within-finite C (round binary64 false a c) w))) g

    go : (s : Bool) → Within C (round binary64 s a c) → AtLeast (2 ^ k) (round binary64 s a c)
    go false w = plain w
    go true w =
        subst (λ (x : Float). AtLeast (2 ^ k) x) (sym (round-neg binary64 false a c))
        (at-least-neg (2 ^ k) (round binary64 false a c) (plain (back (round binary64 false a c) (subst (λ (x : Float). Within C x) (round-neg binary64 false a c) w))))
      where
        back : (x : Float) → Within C (neg x) → Within C x
        back x h = twice x (within-neg C (neg x) h)
          where
            twice : (x : Float) → Within C (neg (neg x)) → Within C x
            twice x h = subst (λ (y : Float). Within C y) (neg-neg x) h

-- ---- a product
low : (x y c d A B L k : ℕ) → 0 < L → A * c ≤ x * L → B * d ≤ y * L → k * L ≤ A * B → k * (c * d) ≤ x * y * L
low x y c d A B L k l p q h =
    le_of_mul-le-mul_right
    (le_trans (le_of_eq (mul_right_comm k (c * d) L))
    (le_trans (mul-le-mul_right (c * d) h)
    (le_trans (le_of_eq (mul-mul-mul_comm A B c d))
    (le_trans (mul-le-mul p q) (le_of_eq (sym (mul_assoc (x * y) L L ∙ mul-mul-mul_comm x y L L)))))))
    l

pub mul-least : (A B k C : ℕ) (x y : Float) → AtLeast A x → AtLeast B y → 2 ^ k * 2 ^ 1074 ≤ A * B → k < 2098 → Within C (mul binary64 x y) → AtLeast (2 ^ k) (mul binary64 x y)
unfolding mul
mul-least A B k C nan y p q h K w = absurd p
mul-least A B k C (inf s) y p q h K w = absurd p
mul-least A B k C (fin s m e) nan p q h K w = absurd q
mul-least A B k C (fin s m e) (inf t) p q h K w = absurd q
mul-least A B k C (fin s m e) (fin t n d) p q h K w =
    round-least (unlike s t) (m * up e * (n * up d)) (down e * down d) k C (mul-pos (down_pos e) (down_pos d)) K (low (m * up e) (n * up d) (down e) (down d) A B (2 ^ 1074) (2 ^ k) (pow_pos 1074) p q h) w

-- a square that is below 2 ^ k units is of a value of 2 ^ j at most, where the square of 2 ^ j is 2 ^ k
pub square-small : (j k B C : ℕ) (x : Float) → Within B x → 2 ^ k * 2 ^ 1074 ≤ 2 ^ j * 2 ^ j → k < 2098 → C < 2 ^ k → Within C (mul binary64 x x) → Within (2 ^ j) x
square-small j k B C nan b h K c w = absurd b
square-small j k B C (inf s) b h K c w = absurd b
square-small j k B C (fin s m e) b h K c w = elim (dec_le (m * up e * 2 ^ 1074) (2 ^ j * down e)) [
  | yes l ↦ l
  | no g ↦
      let l : AtLeast (2 ^ j) (fin s m e) = le_of_lt (lt_of_not-le g) in
      absurd (clash (2 ^ k) C (mul binary64 (fin s m e) (fin s m e)) c (mul-least (2 ^ j) (2 ^ j) k C (fin s m e) (fin s m e) l l h K w) w)
]

-- ---- a sum of values with the sign clear is no smaller than its parts
grid-le : (C n : ℕ) (v : Float) → HasValue v false n (2 ^ 1074) → Within C v → n ≤ C
grid-le C n nan h w = absurd h
grid-le C n (inf s) h w = absurd h
grid-le C n (fin s m e) h w = le_of_mul-le-mul_right (le_trans (le_of_eq (sym h.1)) w) (down_pos e)

pub sum_left : (C : ℕ) (x y : Float) → T (fits binary64 x) → T (fits binary64 y) → Signed false x → Signed false y → Within C (add binary64 x y) → Within C x
unfolding add sum
sum_left C nan y f g s t w = absurd s
sum_left C (inf true) y f g s t w = absurd (true≢false s)
sum_left C (inf false) nan f g s t w = absurd t
sum_left C (inf false) (inf true) f g s t w = absurd (true≢false t)
sum_left C (inf false) (inf false) f g s t w = absurd w
sum_left C (inf false) (fin t' n d) f g s t w = absurd w
sum_left C (fin true m e) y f g s t w = absurd (true≢false s)
sum_left C (fin false m e) nan f g s t w = absurd t
sum_left C (fin false m e) (inf t') f g s t w = absurd w
sum_left C (fin false m e) (fin true n d) f g s t w = absurd (true≢false t)
sum_left C (fin false m e) (fin false n d) f g s t w =
    let X = units_of (fin false m e) in
    let Y = units_of (fin false n d) in
    let v = round binary64 false (X + Y) (2 ^ 1074) in
    let e-is : round binary64 false (m * up e * down d + n * up d * down e) (down e * down d) ≡ v =
    round_same binary64 false (m * up e * down d + n * up d * down e) (down e * down d) (X + Y) (2 ^ 1074) (mul-pos (down_pos e) (down_pos d)) (pow_pos 1074)
    (sums (m * up e) (n * up d) (down e) (down d) X Y (units-exact false m e f) (units-exact false n d g)) in
    let w' : Within C v = subst (λ (z : Float). Within C z) e-is w in
    let G-le : grid binary64 (X + Y) (2 ^ 1074) ≤ C = grid-le C (grid binary64 (X + Y) (2 ^ 1074)) v (round_val binary64 (X + Y) (2 ^ 1074) (round_under binary64 (X + Y) (2 ^ 1074) (within-finite C v w'))) w' in
    let X-le : X ≤ C =
    le_trans (le_of_eq (sym (units-grid (fin false m e) f tt))) (le_trans (grid_mono X (2 ^ 1074) (X + Y) (2 ^ 1074) (pow_pos 1074) (pow_pos 1074) (mul-le-mul_right (2 ^ 1074) (le-add_right X Y))) G-le) in
    le_trans (le_of_eq (units-exact false m e f)) (mul-le-mul_right (down e) X-le)

pub sum-right : (C : ℕ) (x y : Float) → T (fits binary64 x) → T (fits binary64 y) → Signed false x → Signed false y → Within C (add binary64 x y) → Within C y
sum-right C x y f g s t w = sum_left C y x g f t s (subst (λ (z : Float). Within C z) (add-comm-f x y) w)

-- ---- what is not 0 is a unit at least
pub one_unit : (B : ℕ) (x : Float) → T (fits binary64 x) → Within B x → eq x (fin false 0 (pos 0)) ≡ false → AtLeast 1 x
one_unit B nan f w h = absurd w
one_unit B (inf s) f w h = absurd w
one_unit B (fin s zero e) f w h = absurd (true≢false (sym (zero_is s e) ∙ h))
one_unit B (fin s (suc m) e) f w h =
    let p = place s (suc m) e f in
    le_trans (mul-le-mul_right (down e) (mul-pos (zero-lt-suc m) (pow_pos p.j))) (le_of_eq (sym p.exact))
