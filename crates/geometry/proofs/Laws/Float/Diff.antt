-- x - y, for y ≤ x, is the difference of the places, rounded; and a quotient's size. Assumes nothing.
use Rattle.std.proofs.Common.{◌≡◌, ℕ, zero, suc, ◌+◌, ◌-◌, ◌*◌, ◌^◌, ◌<◌, ◌≤◌, Bool, true, false, cond, not, ◌&&◌, ◌||◌, T, eqb, ltb, ◌⊎◌, ℤ, pos, sym, refl, ap, ◌∙◌, subst, inl, inr, zero-le, le_trans, le_of_eq, lt_of_le_of_lt, lt_irrefl, mul-le-mul_right, zero-lt-suc, mul_assoc, mul_comm, mul-le-mul_left, mul-pos, zero-mul, mul_right_comm, not-le_of_lt, le_of_mul-le-mul_right, arith, lit<, pow_pos, ltb-false, le-ltb, ne_eqb}
use native.Mathlib.Nat.{mul-sub}
use mathlib.Core.Bool.{beq}
use lib.Dec.{eqb-suc-zero}
use lib.Ieee.{Float, nan, inf, fin, binary64, up, down, unlike, round, sum, neg, add, sub, div, eq, fits}
use lib.Ieee.Fits.{up_pos, down_pos}
use lib.Ieee.Exact.{HasValue}
use lib.Ieee.Scale.{round_same, round_val, grid}
use Rattle.geometry.specs.Units.{units_of}
use Rattle.geometry.specs.inside.Units.{Within}
use Rattle.geometry.proofs.Laws.Float.Grid.{grid_mono, grid-exact}
use Rattle.geometry.proofs.Laws.Float.Units.{units-exact, test, sums}
use Rattle.geometry.proofs.Laws.Float.Magnitude.{round-within, within-neg, of-value}
use Rattle.geometry.proofs.Laws.Float.Sign.{round-signed, round-neg}
use Rattle.geometry.proofs.Laws.Float.Up.{Up, round_up, signed_up}
use Rattle.geometry.proofs.Laws.Float.Spot.{spot_at, spot, inside, Pair}

-- v is D units, rounded, with its sign clear, or it is -0 and D is 0
abbrev pub Rounded : Float → ℕ → Type 0
Rounded v D = (v ≡ round binary64 false D (2 ^ 1074)) ⊎ ((v ≡ round binary64 true 0 (2 ^ 1074)) × (D ≡ 0))

scaled : (a b c X Y L : ℕ) → a * L ≡ X * c → b * L ≡ Y * c → (a - b) * L ≡ (X - Y) * c
scaled a b c X Y L p q =
    mul_comm (a - b) L ∙ mul-sub L a b ∙ (λ i. (mul_comm L a ∙ p ∙ mul_comm X c) i - (mul_comm L b ∙ q ∙ mul_comm Y c) i) ∙ sym (mul-sub c X Y) ∙ mul_comm c (X - Y)

module _ (K m : ℕ) (e : ℤ) (n : ℕ) (d : ℤ) (X Y : ℕ) (x_lt : X < K) (y-lt : Y < K) (p : Pair m e n d X Y) where
  a-is : m * up e * down d * 2 ^ 1074 ≡ X * (down e * down d)
  a-is = mul_right_comm (m * up e) (down d) (2 ^ 1074) ∙ ap (λ (z : ℕ). z * down d) p.left ∙ mul_assoc X (down e) (down d)

  b-is : n * up d * down e * 2 ^ 1074 ≡ Y * (down e * down d)
  b-is = mul_right_comm (n * up d) (down e) (2 ^ 1074) ∙ ap (λ (z : ℕ). z * down e) p.right ∙ mul_assoc Y (down d) (down e) ∙ ap (λ (z : ℕ). Y * z) (mul_comm (down d) (down e))

  less-is : ltb (m * up e * down d) (n * up d * down e) ≡ ltb X Y
  less-is = test (m * up e) (n * up d) (down e) (down d) X Y (down_pos e) (down_pos d) p.left p.right

  more-is : ltb (n * up d * down e) (m * up e * down d) ≡ ltb Y X
  more-is = test (n * up d) (m * up e) (down d) (down e) Y X (down_pos d) (down_pos e) p.right p.left

  to-units : (s : Bool) (a D : ℕ) → a * 2 ^ 1074 ≡ D * (down e * down d) → round binary64 s a (down e * down d) ≡ round binary64 s D (2 ^ 1074)
  to-units s a D h = round_same binary64 s a (down e * down d) D (2 ^ 1074) (mul-pos (down_pos e) (down_pos d)) (pow_pos 1074) h

  diff : (s t : Bool) → spot_at K t Y ≤ spot_at K s X → Rounded (sum binary64 s (m * up e * down d) (not t) (n * up d * down e) (down e * down d)) (spot_at K s X - spot_at K t Y)
  unfolding sum
  diff false false h =
      inl
      (ap (λ (b : Bool). cond b (round binary64 true (n * up d * down e - m * up e * down d) (down e * down d)) (round binary64 false (m * up e * down d - n * up d * down e) (down e * down d))) (less-is ∙ le-ltb X Y (cut K X Y h))
      ∙ to-units false (m * up e * down d - n * up d * down e) (X - Y) (scaled (m * up e * down d) (n * up d * down e) (down e * down d) X Y (2 ^ 1074) a-is b-is)
      ∙ ap (λ (z : ℕ). round binary64 false z (2 ^ 1074)) (off K X Y))
    where
      cut : (K X Y : ℕ) → K + Y ≤ K + X → Y ≤ X
      cut K X Y h = omega arith

      off : (K X Y : ℕ) → X - Y ≡ K + X - (K + Y)
      off K X Y = omega arith
  diff false true h =
      inl
      (to-units false (m * up e * down d + n * up d * down e) (X + Y) (sums (m * up e) (n * up d) (down e) (down d) X Y p.left p.right)
      ∙ ap (λ (z : ℕ). round binary64 false z (2 ^ 1074)) (off K X Y y-lt))
    where
      off : (K X Y : ℕ) → Y < K → X + Y ≡ K + X - (K - Y)
      off K X Y h = omega arith
  diff true true h =
      inl
      (go (ltb X Y) refl
      ∙ ap (λ (z : ℕ). round binary64 false z (2 ^ 1074)) (off K X Y x_lt y-lt))
    where
      off : (K X Y : ℕ) → X < K → Y < K → Y - X ≡ K - X - (K - Y)
      off K X Y a b = omega arith

      cut : (K X Y : ℕ) → X < K → Y < K → K - Y ≤ K - X → X ≤ Y
      cut K X Y a b h = omega arith

      same : (X Y : ℕ) → X ≤ Y → Y ≤ X → X - Y ≡ Y - X
      same X Y a b = omega arith

      go : (t : Bool) → ltb X Y ≡ t
          → cond (ltb (m * up e * down d) (n * up d * down e)) (round binary64 false (n * up d * down e - m * up e * down d) (down e * down d))
          (round binary64 (ltb (n * up d * down e) (m * up e * down d)) (m * up e * down d - n * up d * down e) (down e * down d)) ≡ round binary64 false (Y - X) (2 ^ 1074)
      go true l =
          ap (λ (b : Bool). cond b (round binary64 false (n * up d * down e - m * up e * down d) (down e * down d)) (round binary64 (ltb (n * up d * down e) (m * up e * down d)) (m * up e * down d - n * up d * down e) (down e * down d))) (less-is ∙ l)
          ∙ to-units false (n * up d * down e - m * up e * down d) (Y - X) (scaled (n * up d * down e) (m * up e * down d) (down e * down d) Y X (2 ^ 1074) b-is a-is)
      go false l =
          ap (λ (b : Bool). cond b (round binary64 false (n * up d * down e - m * up e * down d) (down e * down d)) (round binary64 (ltb (n * up d * down e) (m * up e * down d)) (m * up e * down d - n * up d * down e) (down e * down d))) (less-is ∙ l)
          ∙ ap (λ (b : Bool). round binary64 b (m * up e * down d - n * up d * down e) (down e * down d)) (more-is ∙ le-ltb Y X (cut K X Y x_lt y-lt h))
          ∙ to-units false (m * up e * down d - n * up d * down e) (X - Y) (scaled (m * up e * down d) (n * up d * down e) (down e * down d) X Y (2 ^ 1074) a-is b-is)
          ∙ ap (λ (z : ℕ). round binary64 false z (2 ^ 1074)) (same X Y (cut K X Y x_lt y-lt h) (ltb-false X Y l))
  diff true false h =
      inr
      (to-units true (m * up e * down d + n * up d * down e) 0 (sums (m * up e) (n * up d) (down e) (down d) X Y p.left p.right ∙ ap (λ (z : ℕ). z * (down e * down d)) (nil K X Y x_lt h)), gone K X Y x_lt h)
    where
      nil : (K X Y : ℕ) → X < K → K + Y ≤ K - X → X + Y ≡ 0
      nil K X Y a h = omega arith

      gone : (K X Y : ℕ) → X < K → K + Y ≤ K - X → K - X - (K + Y) ≡ 0
      gone K X Y a h = omega arith

pub sub-spot : (B C : ℕ) (x y : Float) → T (fits binary64 x) → T (fits binary64 y) → Within B x → Within C y → spot y ≤ spot x → Rounded (sub binary64 x y) (spot x - spot y)
unfolding sub add neg
sub-spot B C nan y f g w v h = absurd w
sub-spot B C (inf s) y f g w v h = absurd w
sub-spot B C (fin s m e) nan f g w v h = absurd v
sub-spot B C (fin s m e) (inf t) f g w v h = absurd v
sub-spot B C (fin s m e) (fin t n d) f g w v h =
    diff (2 ^ 2098) m e n d (units_of (fin s m e)) (units_of (fin t n d)) (inside s m e f) (inside t n d g) (record { left = units-exact s m e f; right = units-exact t n d g }) s t h

-- ---- x is finite, and at least B units in size
abbrev pub AtLeast : ℕ → Float → Type 0
AtLeast B nan = ⊥
AtLeast B (inf s) = ⊥
AtLeast B (fin s m e) = B * down e ≤ m * up e * 2 ^ 1074

-- ---- a rounded difference: its size, and that it is not below 0
pub rounded-up : (v : Float) (D : ℕ) → Rounded v D → Up v
rounded-up v D r = elim r [
  | inl p ↦ subst Up (sym p) (signed_up (round binary64 false D (2 ^ 1074)) (round-signed binary64 false D (2 ^ 1074)))
  | inr p ↦ subst Up (sym p.0) (round_up true 0 (2 ^ 1074) (pow_pos 1074) (inr refl))
]

pub rounded-within : (v : Float) (D G : ℕ) → Rounded v D → grid binary64 D (2 ^ 1074) ≤ G → G < 2 ^ 2098 → Within G v
rounded-within v D G r h l = elim r [
  | inl p ↦ subst (λ (z : Float). Within G z) (sym p) (at D h)
  | inr p ↦ subst (λ (z : Float). Within G z) (sym (p.0 ∙ round-neg binary64 false 0 (2 ^ 1074))) (within-neg G (round binary64 false 0 (2 ^ 1074)) (at 0 (le_trans (grid_mono 0 (2 ^ 1074) D (2 ^ 1074) (pow_pos 1074) (pow_pos 1074) (mul-le-mul_right (2 ^ 1074) zero-le)) h)))
]
  where
    at : (E : ℕ) → grid binary64 E (2 ^ 1074) ≤ G → Within G (round binary64 false E (2 ^ 1074))
    at E k = of-value G (grid binary64 E (2 ^ 1074)) (round binary64 false E (2 ^ 1074)) (round_val binary64 E (2 ^ 1074) (lt_of_le_of_lt k l)) k

at-least-value : (v : Float) (G : ℕ) → HasValue v false G (2 ^ 1074) → AtLeast G v
at-least-value nan G h = absurd h
at-least-value (inf s) G h = absurd h
at-least-value (fin s m e) G h = le_of_eq (sym h.1)

pub rounded-at-least : (v : Float) (D : ℕ) → Rounded v D → 0 < D → grid binary64 D (2 ^ 1074) < 2 ^ 2098 → AtLeast (grid binary64 D (2 ^ 1074)) v
rounded-at-least v D r h l = elim r [
  | inl p ↦ subst (λ (z : Float). AtLeast (grid binary64 D (2 ^ 1074)) z) (sym p) (at-least-value (round binary64 false D (2 ^ 1074)) (grid binary64 D (2 ^ 1074)) (round_val binary64 D (2 ^ 1074) l))
  | inr p ↦ absurd (lt_irrefl 0 (subst (λ (z : ℕ). 0 < z) p.1 h))
]

-- what is not 0 does not round to 0
pub grid-positive : (D : ℕ) → 0 < D → 0 < grid binary64 D (2 ^ 1074)
grid-positive D h = le_trans (le_of_eq (sym (grid-exact 1 0 (lit< tt) (lit< {m = 1} {n = 2 ^ 2098} tt)))) (grid_mono 1 (2 ^ 1074) D (2 ^ 1074) (pow_pos 1074) (pow_pos 1074) (mul-le-mul_right (2 ^ 1074) h))

-- ---- a quotient
ratio : (x y c d A B L k : ℕ) → 0 < L → x * L ≤ A * c → B * d ≤ y * L → A * L ≤ k * B → x * d * L ≤ k * (y * c)
ratio x y c d A B L k l p q h =
    le_of_mul-le-mul_right
    (le_trans (le_of_eq (ap (λ (z : ℕ). z * L) (mul_right_comm x d L)))
    (le_trans (mul-le-mul_right L (mul-le-mul_right d p))
    (le_trans (le_of_eq (turn A c d L))
    (le_trans (mul-le-mul_right (c * d) h)
    (le_trans (le_of_eq (turn2 k B c d))
    (le_trans (mul-le-mul_left (k * c) q) (le_of_eq (turn3 k c y L))))))))
    l
  where
    turn : (A c d L : ℕ) → A * c * d * L ≡ A * L * (c * d)
    turn A c d L = omega arith

    turn2 : (k B c d : ℕ) → k * B * (c * d) ≡ k * c * (B * d)
    turn2 k B c d = omega arith

    turn3 : (k c y L : ℕ) → k * c * (y * L) ≡ k * (y * c) * L
    turn3 k c y L = omega arith

not-nothing : (B n : ℕ) (d : ℤ) → 0 < B → B * down d ≤ n * up d * 2 ^ 1074 → 0 < n
not-nothing B zero d b h = absurd (not-le_of_lt (mul-pos b (down_pos d)) (le_trans h (le_of_eq (ap (λ (z : ℕ). z * 2 ^ 1074) (zero-mul (up d)) ∙ zero-mul (2 ^ 1074)))))
not-nothing B (suc n) d b h = zero-lt-suc n

pub div-within : (A B k : ℕ) (x y : Float) → Within A x → AtLeast B y → 0 < B → A * 2 ^ 1074 ≤ 2 ^ k * B → k < 2098 → Within (2 ^ k) (div binary64 x y)
unfolding div
div-within A B k nan y p q b h K = absurd p
div-within A B k (inf s) y p q b h K = absurd p
div-within A B k (fin s m e) nan p q b h K = absurd q
div-within A B k (fin s m e) (inf t) p q b h K = absurd q
div-within A B k (fin s m e) (fin t zero d) p q b h K = absurd (lt_irrefl 0 (not-nothing B zero d b q))
div-within A B k (fin s m e) (fin t (suc n) d) p q b h K =
    subst (λ (z : Bool). Within (2 ^ k) (cond z (cond (eqb m 0) nan (inf (unlike s t))) (round binary64 (unlike s t) (m * up e * down d) (suc n * up d * down e)))) (sym (eqb-suc-zero n))
    (round-within (unlike s t) (m * up e * down d) (suc n * up d * down e) k (mul-pos (mul-pos (zero-lt-suc n) (up_pos d)) (down_pos e)) K (ratio (m * up e) (suc n * up d) (down e) (down d) A B (2 ^ 1074) (2 ^ k) (pow_pos 1074) p q h))

-- what is at least B units, for a B above 0, is not equal to 0
pub not-zero : (B : ℕ) (y : Float) → 0 < B → AtLeast B y → eq y (fin false 0 (pos 0)) ≡ false
unfolding eq
not-zero B nan b h = absurd h
not-zero B (inf s) b h = absurd h
not-zero B (fin t n d) b h =
    ap (λ (z : Bool). z && (beq t false || eqb (n * up d * 1) 0))
    (ne_eqb (n * up d * 1) (0 * down d) (λ (e : n * up d * 1 ≡ 0 * down d). lt_irrefl 0 (subst (λ (z : ℕ). 0 < z) (e ∙ zero-mul (down d)) (mul-pos (mul-pos (not-nothing B n d b h) (up_pos d)) (zero-lt-suc 0)))))
