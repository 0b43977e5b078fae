-- The score of a tetrahedron with points within 2 ^ 20 is no NaN and not below 0. Assumes nothing.
use Rattle.std.proofs.Common.{◌≡◌, ℕ, zero, suc, ◌+◌, ◌*◌, ◌/◌, ◌^◌, ◌<◌, ◌≤◌, Bool, true, false, cond, not, T, eqb, ltb, ℤ, sym, refl, ap, ◌∙◌, true≢false, zero-le, le_trans, le_of_eq, lt_of_lt_of_le, le-add_right, mul-le-mul_right, zero-lt-suc, mul-pos, zero-mul, arith, lit<, lit≤, pow_pos, lt-ltb}
use lib.Ieee.{Float, nan, inf, fin, binary64, up, down, neg, lt, eq, div, fits, is_nan}
use lib.Ieee.Fits.{up_pos, add-fits}
use Rattle.geometry.specs.Root.{number, operand, exact_root, rounded, root_of, sqrt}
use Rattle.geometry.proofs.Laws.Root.Whole.{whole-small}
use Rattle.geometry.proofs.Laws.Root.Special.{number_small}
use Rattle.geometry.proofs.Laws.Root.Rounding.{halves, bit_le}
use Rattle.geometry.specs.inside.Units.{Within}
use Rattle.geometry.proofs.Laws.Float.Magnitude.{round-within, mul-within, within-neg}
use Rattle.geometry.proofs.Laws.Float.Sign.{Signed, round-signed}
use Rattle.geometry.proofs.Laws.Float.Up.{Up, signed_up, add-signed, square-signed, mul-up, div-up, up-not-nan, up-not-below}
use Rattle.geometry.specs.declared.point.Point.{Point}
use Rattle.geometry.specs.Float.{◌+₆₄◌, ◌*₆₄◌, zero64, absolute}
use Rattle.geometry.specs.Point.{difference, determinant}
use Rattle.geometry.specs.Score.{R, squared_edge, squared_edges, score}
use Rattle.geometry.proofs.Laws.Score.Near.{Near, minus-near, det-near, edges-near}

-- ---- the root
root-signed : (n : ℕ) → Signed false (root_of (number n))
unfolding root_of rounded
root-signed n = round-signed binary64 false (halves (exact_root n)) (2 ^ 1075)

pub sqrt-signed : (x : Float) → Signed false x → Signed false (sqrt x)
unfolding sqrt operand root_of
sqrt-signed nan h = absurd h
sqrt-signed (inf true) h = absurd (true≢false h)
sqrt-signed (inf false) h = refl
sqrt-signed (fin true m e) h = absurd (true≢false h)
sqrt-signed (fin false zero e) h = refl
sqrt-signed (fin false (suc m) e) h = root-signed (suc m * up e * 2 ^ 2148 / down e)

-- the root of anything finite is below 2 ^ 512, which is 2 ^ 1586 units
root-within : (n : ℕ) → n < 4 ^ 1586 → Within (2 ^ 1586) (root_of (number n))
unfolding root_of rounded
root-within n h =
    let x = exact_root n in
    let r-lt : x.whole < 2 ^ 1586 = whole-small n h in
    round-within false (halves x) (2 ^ 1075) 1586 (pow_pos 1075) (lit< tt)
    (le_trans (mul-le-mul_right (2 ^ 1074) (under x.whole (cond (eqb x.remainder 0) 0 1) (2 ^ 1586) (bit_le (eqb x.remainder 0)) r-lt)) (lit≤ {m = 2 * 2 ^ 1586 * 2 ^ 1074} {n = 2 ^ 1586 * 2 ^ 1075} tt))
  where
    under : (r t p : ℕ) → t ≤ 1 → r < p → 2 * r + t ≤ 2 * p
    under r t p h k = omega arith

pub sqrt-within : (B : ℕ) (x : Float) → T (fits binary64 x) → Within B x → Signed false x → Within (2 ^ 1586) (sqrt x)
unfolding sqrt operand root_of
sqrt-within B nan f w h = absurd h
sqrt-within B (inf s) f w h = absurd w
sqrt-within B (fin true m e) f w h = absurd (true≢false h)
sqrt-within B (fin false zero e) f w h = le_trans (le_of_eq (ap (λ (z : ℕ). z * 2 ^ 1074) (zero-mul (up e)) ∙ zero-mul (2 ^ 1074))) zero-le
sqrt-within B (fin false (suc m) e) f w h = root-within (suc m * up e * 2 ^ 2148 / down e) (number_small m e f)

-- ---- the sum of squared_edge squared_edges has its sign clear
pub squared-signed : (a b : Point) → Near 20 a → Near 20 b → Signed false (squared_edge a b)
unfolding squared_edge
squared-signed a b p q =
    let e = difference b a in
    let n = minus-near 20 b a (lit< tt) q p in
    add-signed ((e.x *₆₄ e.x) +₆₄ (e.y *₆₄ e.y)) (e.z *₆₄ e.z)
    (add-signed (e.x *₆₄ e.x) (e.y *₆₄ e.y) (square-signed (2 ^ 1095) e.x n.x) (square-signed (2 ^ 1095) e.y n.y))
    (square-signed (2 ^ 1095) e.z n.z)

pub edges-signed : (a b c d : Point) → Near 20 a → Near 20 b → Near 20 c → Near 20 d → Signed false (squared_edges a b c d)
unfolding squared_edges
edges-signed a b c d p q r s =
    let e1 = squared_edge a b in
    let e2 = e1 +₆₄ squared_edge a c in
    let e3 = e2 +₆₄ squared_edge a d in
    let e4 = e3 +₆₄ squared_edge b c in
    let e5 = e4 +₆₄ squared_edge b d in
    add-signed e5 (squared_edge c d)
    (add-signed e4 (squared_edge b d)
    (add-signed e3 (squared_edge b c)
    (add-signed e2 (squared_edge a d)
    (add-signed e1 (squared_edge a c) (squared-signed a b p q) (squared-signed a c p r))
    (squared-signed a d p s))
    (squared-signed b c q r))
    (squared-signed b d q s))
    (squared-signed c d r s)

pub edges-fits : (a b c d : Point) → T (fits binary64 (squared_edges a b c d))
unfolding squared_edges
edges-fits a b c d = add-fits binary64 (squared_edge a b +₆₄ squared_edge a c +₆₄ squared_edge a d +₆₄ squared_edge b c +₆₄ squared_edge b d) (squared_edge c d)

-- ---- |x|
pub size-within : (B : ℕ) (x : Float) → Within B x → Within B (absolute x)
size-within B x w = go (lt x zero64)
  where
    go : (t : Bool) → Within B (cond t (neg x) x)
    go true = within-neg B x w
    go false = w

zero_of : (m u : ℕ) → 0 < u → ltb 0 (m * u * 1 + 0) ≡ false → m ≡ 0
zero_of zero u U h = refl
zero_of (suc m) u U h = absurd (true≢false (sym (lt-ltb 0 (suc m * u * 1 + 0) (lt_of_lt_of_le (mul-pos (mul-pos (zero-lt-suc m) U) (zero-lt-suc 0)) (le-add_right (suc m * u * 1) 0))) ∙ h))

size-up : (B : ℕ) (x : Float) → Within B x → Up (absolute x)
unfolding lt neg
size-up B nan w = absurd w
size-up B (inf s) w = absurd w
size-up B (fin false m e) w = go (lt (fin false m e) zero64) (not-below m e)
  where
    not-below : (m : ℕ) (e : ℤ) → lt (fin false m e) zero64 ≡ false
    not-below m e = up-not-below (fin false m e) tt

    go : (t : Bool) → t ≡ false → Up (cond t (fin true m e) (fin false m e))
    go true h = absurd (true≢false h)
    go false h = tt
size-up B (fin true m e) w = go (lt (fin true m e) zero64) refl
  where
    go : (t : Bool) → lt (fin true m e) zero64 ≡ t → Up (cond t (fin false m e) (fin true m e))
    go true h = tt
    go false h = zero_of m (up e) (up_pos e) (ap (λ (z : ℕ). ltb 0 (m * up e * 1 + z)) (sym (zero-mul (down e))) ∙ h)

-- ---- the score
pub r-within : Within (2 ^ 1079) R
r-within = lit≤ tt

pub score-up : (a b c d : Point) → Near 20 a → Near 20 b → Near 20 c → Near 20 d → Up (score a b c d)
unfolding score
score-up a b c d p q r s =
    let l = squared_edges a b c d in
    let ls = edges-signed a b c d p q r s in
    let lw = edges-near a b c d p q r s in
    let k = sqrt l in
    let kw = sqrt-within (2 ^ 1123) l (edges-fits a b c d) lw ls in
    let v = l *₆₄ k in
    let vw : Within (2 ^ 1635) v = mul-within (2 ^ 1123) (2 ^ 1586) 1635 l k lw kw (lit≤ {m = 2 ^ 1123 * 2 ^ 1586} {n = 2 ^ 1635 * 2 ^ 1074} tt) (lit< tt) in
    let vu : Up v = mul-up (2 ^ 1123) (2 ^ 1586) l k lw kw (signed_up l ls) (signed_up k (sqrt-signed l ls)) in
    let w = absolute (determinant a b c d) in
    let ww = size-within (2 ^ 1140) (determinant a b c d) (det-near a b c d p q r s) in
    let wu = size-up (2 ^ 1140) (determinant a b c d) (det-near a b c d p q r s) in
    let n = R *₆₄ w in
    let nw : Within (2 ^ 1145) n = mul-within (2 ^ 1079) (2 ^ 1140) 1145 R w r-within ww (lit≤ {m = 2 ^ 1079 * 2 ^ 1140} {n = 2 ^ 1145 * 2 ^ 1074} tt) (lit< tt) in
    let nu : Up n = mul-up (2 ^ 1079) (2 ^ 1140) R w r-within ww tt wu in
    go (eq v zero64) refl (λ (h : eq v zero64 ≡ false). div-up (2 ^ 1145) (2 ^ 1635) n v nw vw nu vu h)
  where
    go : (t : Bool) → eq (squared_edges a b c d *₆₄ sqrt (squared_edges a b c d)) zero64 ≡ t
        → (eq (squared_edges a b c d *₆₄ sqrt (squared_edges a b c d)) zero64 ≡ false → Up (div binary64 (R *₆₄ absolute (determinant a b c d)) (squared_edges a b c d *₆₄ sqrt (squared_edges a b c d))))
        → Up (cond t zero64 (div binary64 (R *₆₄ absolute (determinant a b c d)) (squared_edges a b c d *₆₄ sqrt (squared_edges a b c d))))
    go true e h = tt
    go false e h = h e

pub score-no-nan : (a b c d : Point) → Near 20 a → Near 20 b → Near 20 c → Near 20 d → T (not (is_nan (score a b c d)))
score-no-nan a b c d p q r s = up-not-nan (score a b c d) (score-up a b c d p q r s)

pub score-not-below : (a b c d : Point) → Near 20 a → Near 20 b → Near 20 c → Near 20 d → lt (score a b c d) zero64 ≡ false
score-not-below a b c d p q r s = up-not-below (score a b c d) (score-up a b c d p q r s)
