-- Values that are no NaN and not below 0, an infinity and -0 among them: sums, products and quotients of them. Assumes nothing.
use Rattle.std.proofs.Common.{◌≡◌, ℕ, zero, suc, ◌+◌, ◌*◌, ◌<◌, ◌≤◌, Bool, true, false, cond, not, T, eqb, ltb, ◌⊎◌, ℤ, pos, sym, refl, ap, ◌∙◌, subst, inl, inr, true≢false, zero-le, zero-lt-suc, mul-pos, mul-zero, zero-mul, arith, lit<, le-ltb}
use lib.Dec.{eqb-suc-zero}
use lib.Ieee.{Float, nan, inf, fin, binary64, up, down, unlike, round, sum, add, mul, div, lt, eq, level, is_nan}
use lib.Ieee.Fits.{up_pos, down_pos}
use lib.Ieee.Exact.{HasValue, round_exact}
use Rattle.geometry.specs.Units.{NotNegative}
use Rattle.geometry.specs.inside.Units.{Within}
use Rattle.geometry.proofs.Laws.Float.Mirror.{zero_of, zeroed}
use Rattle.geometry.proofs.Laws.Float.Sign.{Signed, round-signed}

abbrev pub Up : Float → Type 0
Up nan = ⊥
Up (inf s) = s ≡ false
Up (fin true m e) = m ≡ 0
Up (fin false m e) = Unit {0}

pub up-not-nan : (x : Float) → Up x → T (not (is_nan x))
unfolding is_nan
up-not-nan nan h = absurd h
up-not-nan (inf s) h = tt
up-not-nan (fin s m e) h = tt

pub up-not-below : (x : Float) → Up x → lt x (fin false 0 (pos 0)) ≡ false
unfolding lt
up-not-below nan h = refl
up-not-below (inf true) h = absurd (true≢false h)
up-not-below (inf false) h = refl
up-not-below (fin true m e) h = ap (λ (z : ℕ). ltb 0 (z + 0 * down e)) (zeroed m (up e) 1 h) ∙ ap (λ (z : ℕ). ltb 0 (0 + z)) (zero-mul (down e))
up-not-below (fin false m e) h = le-ltb (m * up e * 1) (0 * down e) (subst (λ (k : ℕ). k ≤ m * up e * 1) (sym (zero-mul (down e))) zero-le)

pub up-not-negative : (B : ℕ) (x : Float) → Within B x → Up x → NotNegative x
up-not-negative B nan w h = h
up-not-negative B (inf s) w h = absurd w
up-not-negative B (fin true m e) w h = h
up-not-negative B (fin false m e) w h = tt

pub signed_up : (x : Float) → Signed false x → Up x
signed_up nan h = h
signed_up (inf s) h = h
signed_up (fin true m e) h = absurd (true≢false h)
signed_up (fin false m e) h = tt

-- ---- `round`
of_zero : (v : Float) (s : Bool) (c : ℕ) → 0 < c → HasValue v s 0 c → Up v
of_zero nan s c C h = absurd h
of_zero (inf t) s c C h = absurd h
of_zero (fin true m e) s c C h = zero_of m (up e) c (down e) (up_pos e) C h.1
of_zero (fin false m e) s c C h = tt

pub round_up : (s : Bool) (a c : ℕ) → 0 < c → (s ≡ false) ⊎ (a ≡ 0) → Up (round binary64 s a c)
round_up s a c C h = elim h [
  | inl p ↦ subst (λ (t : Bool). Up (round binary64 t a c)) (sym p) (signed_up (round binary64 false a c) (round-signed binary64 false a c))
  | inr z ↦ subst (λ (k : ℕ). Up (round binary64 s k c)) (sym z) (of_zero (round binary64 s 0 c) s c C (round_exact binary64 s 0 c 0 0 C (lit< tt) (lit< tt) (sym (zero-mul c))))
]

-- ---- a sum of values with the sign clear, and a square
pub add-signed : (x y : Float) → Signed false x → Signed false y → Signed false (add binary64 x y)
unfolding add sum
add-signed nan y h k = absurd h
add-signed (inf true) y h k = absurd (true≢false h)
add-signed (inf false) nan h k = absurd k
add-signed (inf false) (inf true) h k = absurd (true≢false k)
add-signed (inf false) (inf false) h k = refl
add-signed (inf false) (fin t n d) h k = refl
add-signed (fin true m e) y h k = absurd (true≢false h)
add-signed (fin false m e) nan h k = absurd k
add-signed (fin false m e) (inf t) h k = k
add-signed (fin false m e) (fin true n d) h k = absurd (true≢false k)
add-signed (fin false m e) (fin false n d) h k = round-signed binary64 false (m * up e * down d + n * up d * down e) (down e * down d)

pub square-signed : (B : ℕ) (x : Float) → Within B x → Signed false (mul binary64 x x)
unfolding mul
square-signed B nan w = absurd w
square-signed B (inf s) w = absurd w
square-signed B (fin true m e) w = round-signed binary64 false (m * up e * (m * up e)) (down e * down e)
square-signed B (fin false m e) w = round-signed binary64 false (m * up e * (m * up e)) (down e * down e)

-- ---- a product, and a quotient by what is not 0
pub mul-up : (A B : ℕ) (x y : Float) → Within A x → Within B y → Up x → Up y → Up (mul binary64 x y)
unfolding mul
mul-up A B nan y w v h k = absurd w
mul-up A B (inf s) y w v h k = absurd w
mul-up A B (fin s m e) nan w v h k = absurd v
mul-up A B (fin s m e) (inf t) w v h k = absurd v
mul-up A B (fin true m e) (fin t n d) w v h k =
    round_up (unlike true t) (m * up e * (n * up d)) (down e * down d) (mul-pos (down_pos e) (down_pos d)) (inr (ap (λ (z : ℕ). z * up e * (n * up d)) h ∙ ap (λ (z : ℕ). z * (n * up d)) (zero-mul (up e)) ∙ zero-mul (n * up d)))
mul-up A B (fin false m e) (fin true n d) w v h k =
    round_up true (m * up e * (n * up d)) (down e * down d) (mul-pos (down_pos e) (down_pos d)) (inr (ap (λ (z : ℕ). m * up e * (z * up d)) k ∙ ap (λ (z : ℕ). m * up e * z) (zero-mul (up d)) ∙ mul-zero (m * up e)))
mul-up A B (fin false m e) (fin false n d) w v h k = round_up false (m * up e * (n * up d)) (down e * down d) (mul-pos (down_pos e) (down_pos d)) (inl refl)

pub zero_is : (s : Bool) (e : ℤ) → eq (fin s zero e) (fin false 0 (pos 0)) ≡ true
unfolding eq
zero_is s e = ap (λ (a : ℕ). level s (a * 1) false (0 * down e)) (zero-mul (up e)) ∙ ap (λ (b : ℕ). level s 0 false b) (zero-mul (down e)) ∙ go s
  where
    go : (s : Bool) → level s 0 false 0 ≡ true
    go true = refl
    go false = refl

pub div-up : (A B : ℕ) (x y : Float) → Within A x → Within B y → Up x → Up y → eq y (fin false 0 (pos 0)) ≡ false → Up (div binary64 x y)
unfolding div
div-up A B nan y w v h k q = absurd w
div-up A B (inf s) y w v h k q = absurd w
div-up A B (fin s m e) nan w v h k q = absurd v
div-up A B (fin s m e) (inf t) w v h k q = absurd v
div-up A B (fin s m e) (fin t zero d) w v h k q = absurd (true≢false (sym (zero_is t d) ∙ q))
div-up A B (fin s m e) (fin true (suc n) d) w v h k q = absurd (suc-zero n k)
  where
    suc-zero : (n : ℕ) → suc n ≡ 0 → ⊥
    suc-zero n h = omega arith
div-up A B (fin true m e) (fin false (suc n) d) w v h k q =
    subst (λ (b : Bool). Up (cond b (cond (eqb m 0) nan (inf true)) (round binary64 true (m * up e * down d) (suc n * up d * down e)))) (sym (eqb-suc-zero n))
    (round_up true (m * up e * down d) (suc n * up d * down e) (mul-pos (mul-pos (zero-lt-suc n) (up_pos d)) (down_pos e)) (inr (zeroed m (up e) (down d) h)))
div-up A B (fin false m e) (fin false (suc n) d) w v h k q =
    subst (λ (b : Bool). Up (cond b (cond (eqb m 0) nan (inf false)) (round binary64 false (m * up e * down d) (suc n * up d * down e)))) (sym (eqb-suc-zero n))
    (round_up false (m * up e * down d) (suc n * up d * down e) (mul-pos (mul-pos (zero-lt-suc n) (up_pos d)) (down_pos e)) (inl refl))
