-- How large a sum, a difference, a product can be: where the bound is a power of two of units of 2 ^ -1074, below the infinity, rounding does not pass it. Assumes nothing.
use Rattle.std.proofs.Common.{◌≡◌, ℕ, suc, ◌+◌, ◌-◌, ◌*◌, ◌^◌, ◌<◌, ◌≤◌, Bool, true, false, cond, not, ◌&&◌, T, ltb, sym, ap, ◌∙◌, subst, le_trans, le_of_eq, lt_of_le_of_lt, mul-le-mul_right, mul_assoc, mul_comm, add-mul, mul-le-mul, mul-pos, one-mul, mul_right_comm, le_of_mul-le-mul_right, arith, lit<, pow_pos, pow_mono, pow-add}
use native.Mathlib.Nat.{mul-mul-mul_comm, pow-succ'}
use mathlib.Core.Bool.{beq}
use lib.Pow.{pow-lt}
use lib.Ieee.{Float, nan, inf, fin, binary64, up, down, unlike, round, sum, neg, add, sub, mul, is_nan}
use lib.Ieee.Fits.{down_pos}
use lib.Ieee.Exact.{HasValue}
use lib.Ieee.Scale.{round_val, grid, finite}
use Rattle.geometry.specs.inside.Units.{Within, within}
use Rattle.geometry.proofs.Laws.Float.Grid.{grid_mono, grid-exact}
use Rattle.geometry.proofs.Laws.Float.Sign.{round-neg}

pub within-neg : (B : ℕ) (x : Float) → Within B x → Within B (neg x)
unfolding neg
within-neg B nan h = h
within-neg B (inf s) h = h
within-neg B (fin s m e) h = h

pub within-not-nan : (B : ℕ) (x : Float) → Within B x → T (not (is_nan x))
unfolding is_nan
within-not-nan B nan h = absurd h
within-not-nan B (inf s) h = tt
within-not-nan B (fin s m e) h = tt

pub within-finite : (B : ℕ) (x : Float) → Within B x → T (finite x)
within-finite B nan h = absurd h
within-finite B (inf s) h = absurd h
within-finite B (fin s m e) h = tt

pub within_more : (A B : ℕ) (x : Float) → A ≤ B → Within A x → Within B x
within_more A B nan l h = h
within_more A B (inf s) l h = h
within_more A B (fin s m e) l h = le_trans h (mul-le-mul_right (down e) l)

-- ---- `round`
pub of-value : (B a : ℕ) (x : Float) → HasValue x false a (2 ^ 1074) → a ≤ B → Within B x
of-value B a nan h l = absurd h
of-value B a (inf s) h l = absurd h
of-value B a (fin s m e) h l = le_trans (le_of_eq h.1) (mul-le-mul_right (down e) l)

-- a bound that is a value itself, q * 2 ^ j units with q of 53 digits at most, is not passed
pub round-within-value : (s : Bool) (a c q j : ℕ) → 0 < c → q < 2 ^ 53 → q * 2 ^ j < 2 ^ 2098 → a * 2 ^ 1074 ≤ q * 2 ^ j * c → Within (q * 2 ^ j) (round binary64 s a c)
round-within-value s a c q j C small top h =
    let g : grid binary64 a c ≤ q * 2 ^ j = le_trans (grid_mono a c (q * 2 ^ j) (2 ^ 1074) C (pow_pos 1074) h) (le_of_eq (grid-exact q j small top)) in
    go s (of-value (q * 2 ^ j) (grid binary64 a c) (round binary64 false a c) (round_val binary64 a c (lt_of_le_of_lt g top)) g)
  where
    go : (s : Bool) → Within (q * 2 ^ j) (round binary64 false a c) → Within (q * 2 ^ j) (round binary64 s a c)
    go false w = w
    go true w = subst (λ (x : Float). Within (q * 2 ^ j) x) (sym (round-neg binary64 false a c)) (within-neg (q * 2 ^ j) (round binary64 false a c) w)

pub round-within : (s : Bool) (a c k : ℕ) → 0 < c → k < 2098 → a * 2 ^ 1074 ≤ 2 ^ k * c → Within (2 ^ k) (round binary64 s a c)
round-within s a c k C K h =
    subst (λ (z : ℕ). Within z (round binary64 s a c)) (one-mul (2 ^ k))
    (round-within-value s a c 1 k C (lit< tt) (lt_of_le_of_lt (le_of_eq (one-mul (2 ^ k))) (pow-lt K)) (le_trans h (le_of_eq (ap (λ (z : ℕ). z * c) (sym (one-mul (2 ^ k)))))))

-- ---- a sum
less : (a b : ℕ) → b - a ≤ a + b
less a b = omega arith

less-r : (a b : ℕ) → a - b ≤ a + b
less-r a b = omega arith

sum-within : (s : Bool) (a : ℕ) (t : Bool) (b c k : ℕ) → 0 < c → k < 2098 → (a + b) * 2 ^ 1074 ≤ 2 ^ k * c → Within (2 ^ k) (sum binary64 s a t b c)
unfolding sum
sum-within s a t b c k C K h = go (beq s t) (ltb a b)
  where
    go : (x y : Bool) → Within (2 ^ k) (cond x (round binary64 s (a + b) c) (cond y (round binary64 t (b - a) c) (round binary64 (s && ltb b a) (a - b) c)))
    go true y = round-within s (a + b) c k C K h
    go false true = round-within t (b - a) c k C K (le_trans (mul-le-mul_right (2 ^ 1074) (less a b)) h)
    go false false = round-within (s && ltb b a) (a - b) c k C K (le_trans (mul-le-mul_right (2 ^ 1074) (less-r a b)) h)

totals : (x y c d A B L k : ℕ) → x * L ≤ A * c → y * L ≤ B * d → A + B ≤ k → (x * d + y * c) * L ≤ k * (c * d)
totals x y c d A B L k p q h =
    let u : x * d * L ≤ A * (c * d) = le_trans (le_of_eq (mul_right_comm x d L)) (le_trans (mul-le-mul_right d p) (le_of_eq (mul_assoc A c d))) in
    let v : y * c * L ≤ B * (c * d) = le_trans (le_of_eq (mul_right_comm y c L)) (le_trans (mul-le-mul_right c q) (le_of_eq (mul_assoc B d c ∙ ap (λ (z : ℕ). B * z) (mul_comm d c)))) in
    le_trans (le_of_eq (add-mul (x * d) (y * c) L)) (le_trans (both (x * d * L) (y * c * L) (A * (c * d)) (B * (c * d)) u v) (le_trans (le_of_eq (sym (add-mul A B (c * d)))) (mul-le-mul_right (c * d) h)))
  where
    both : (a b c d : ℕ) → a ≤ c → b ≤ d → a + b ≤ c + d
    both a b c d h k = omega arith

pub add-within : (A B k : ℕ) (x y : Float) → Within A x → Within B y → A + B ≤ 2 ^ k → k < 2098 → Within (2 ^ k) (add binary64 x y)
unfolding add
add-within A B k nan y p q h K = absurd p
add-within A B k (inf s) y p q h K = absurd p
add-within A B k (fin s m e) nan p q h K = absurd q
add-within A B k (fin s m e) (inf t) p q h K = absurd q
add-within A B k (fin s m e) (fin t n d) p q h K =
    sum-within s (m * up e * down d) t (n * up d * down e) (down e * down d) k (mul-pos (down_pos e) (down_pos d)) K (totals (m * up e) (n * up d) (down e) (down d) A B (2 ^ 1074) (2 ^ k) p q h)

pub sub_within : (A B k : ℕ) (x y : Float) → Within A x → Within B y → A + B ≤ 2 ^ k → k < 2098 → Within (2 ^ k) (sub binary64 x y)
unfolding sub
sub_within A B k x y p q h K = add-within A B k x (neg y) p (within-neg B y q) h K

-- ---- a product
product : (x y c d A B L k : ℕ) → 0 < L → x * L ≤ A * c → y * L ≤ B * d → A * B ≤ k * L → x * y * L ≤ k * (c * d)
product x y c d A B L k l p q h =
    le_of_mul-le-mul_right
    (le_trans (le_of_eq (mul_assoc (x * y) L L ∙ mul-mul-mul_comm x y L L))
    (le_trans (mul-le-mul p q)
    (le_trans (le_of_eq (mul-mul-mul_comm A c B d))
    (le_trans (mul-le-mul_right (c * d) h) (le_of_eq (mul_right_comm k L (c * d)))))))
    l

pub mul-within : (A B k : ℕ) (x y : Float) → Within A x → Within B y → A * B ≤ 2 ^ k * 2 ^ 1074 → k < 2098 → Within (2 ^ k) (mul binary64 x y)
unfolding mul
mul-within A B k nan y p q h K = absurd p
mul-within A B k (inf s) y p q h K = absurd p
mul-within A B k (fin s m e) nan p q h K = absurd q
mul-within A B k (fin s m e) (inf t) p q h K = absurd q
mul-within A B k (fin s m e) (fin t n d) p q h K =
    round-within (unlike s t) (m * up e * (n * up d)) (down e * down d) k (mul-pos (down_pos e) (down_pos d)) K (product (m * up e) (n * up d) (down e) (down d) A B (2 ^ 1074) (2 ^ k) (pow_pos 1074) p q h)

pub mul-within-value : (A B q j : ℕ) (x y : Float) → Within A x → Within B y → A * B ≤ q * 2 ^ j * 2 ^ 1074 → q < 2 ^ 53 → q * 2 ^ j < 2 ^ 2098 → Within (q * 2 ^ j) (mul binary64 x y)
unfolding mul
mul-within-value A B q j nan y p r h small top = absurd p
mul-within-value A B q j (inf s) y p r h small top = absurd p
mul-within-value A B q j (fin s m e) nan p r h small top = absurd r
mul-within-value A B q j (fin s m e) (inf t) p r h small top = absurd r
mul-within-value A B q j (fin s m e) (fin t n d) p r h small top =
    round-within-value (unlike s t) (m * up e * (n * up d)) (down e * down d) q j (mul-pos (down_pos e) (down_pos d)) small top (product (m * up e) (n * up d) (down e) (down d) A B (2 ^ 1074) (q * 2 ^ j) (pow_pos 1074) p r h)

-- ---- by powers of two
pub plus : (k : ℕ) (x y : Float) → k < 1023 → within k x → within k y → within (suc k) (add binary64 x y)
plus k x y l p q = add-within (2 ^ (1074 + k)) (2 ^ (1074 + k)) (1074 + suc k) x y p q (le_of_eq (twice (2 ^ (1074 + k)) ∙ sym (pow-succ' 2 (1074 + k)) ∙ ap (λ (z : ℕ). 2 ^ z) (one k))) (top k l)
  where
    twice : (a : ℕ) → a + a ≡ 2 * a
    twice a = omega arith

    one : (k : ℕ) → suc (1074 + k) ≡ 1074 + suc k
    one k = omega arith

    top : (k : ℕ) → k < 1023 → 1074 + suc k < 2098
    top k h = omega arith

pub less_by : (k : ℕ) (x y : Float) → k < 1023 → within k x → within k y → within (suc k) (sub binary64 x y)
unfolding sub
less_by k x y l p q = plus k x (neg y) l p (within-neg (2 ^ (1074 + k)) y q)

pub times : (k l : ℕ) (x y : Float) → k + l < 1024 → within k x → within l y → within (k + l) (mul binary64 x y)
times k l x y h p q =
    mul-within (2 ^ (1074 + k)) (2 ^ (1074 + l)) (1074 + (k + l)) x y p q
    (le_of_eq (sym (pow-add 2 (1074 + k) (1074 + l)) ∙ ap (λ (z : ℕ). 2 ^ z) (regroup k l) ∙ pow-add 2 (1074 + (k + l)) 1074)) (top (k + l) h)
  where
    regroup : (k l : ℕ) → 1074 + k + (1074 + l) ≡ 1074 + (k + l) + 1074
    regroup k l = omega arith

    top : (k : ℕ) → k < 1024 → 1074 + k < 2098
    top k h = omega arith

pub more : (k l : ℕ) (x : Float) → k ≤ l → within k x → within l x
more k l x h w = within_more (2 ^ (1074 + k)) (2 ^ (1074 + l)) x (pow_mono (under k l h)) w
  where
    under : (k l : ℕ) → k ≤ l → 1074 + k ≤ 1074 + l
    under k l h = omega arith
