-- The score of a tetrahedron with points within 2 ^ 20 is finite. Where the sum of squared_edge squared_edges L is 2 ^ -634 or more, so is its root 2 ^ -317 and the divisor 2 ^ -951, and the determinant is within 2 ^ 66.
-- Where L is less, each coordinate of an edge is within 2 ^ -317, and the determinant within 2 ^ -948, while the divisor is one unit at least. Assumes nothing.
use Rattle.std.proofs.Common.{◌≡◌, ℕ, zero, suc, ◌+◌, ◌-◌, ◌*◌, ◌/◌, ◌^◌, ◌<◌, ◌≤◌, Bool, true, false, cond, T, eqb, ◌⊎◌, sym, refl, ap, ◌∙◌, inl, inr, true≢false, le_trans, le_of_eq, lt_of_le_of_lt, mul-le-mul_right, mul_assoc, lt_of_mul-lt-mul_right, mul-pos, lt_of_not-le, le-div_iff_mul-le, zero-mul, mul_right_comm, not-le_of_lt, arith, lit<, lit≤, pow_pos, pow-add}
use native.Mathlib.Decide.{dec_le}
use lib.Pow.{le_ones}
use lib.Ieee.{Float, nan, inf, fin, binary64, up, down, lt, eq, div, fits}
use lib.Ieee.Fits.{down_pos, add-fits, mul-fits, div-fits, cond-fits}
use Rattle.geometry.specs.Literals.{e_12}
use Rattle.geometry.proofs.Laws.Float.Tolerance.{Least, tolerance}
use Rattle.geometry.specs.Root.{number, operand, exact_root, rounded, root_of, sqrt}
use Rattle.geometry.proofs.Laws.Root.Whole.{exact-root, root-le}
use Rattle.geometry.proofs.Laws.Root.Special.{number_small}
use Rattle.geometry.proofs.Laws.Root.Rounding.{halves}
use Rattle.geometry.specs.Units.{units_of, NotNegative}
use Rattle.geometry.specs.inside.Units.{Within, within}
use Rattle.geometry.proofs.Laws.Float.Units.{units-exact}
use Rattle.geometry.proofs.Laws.Float.Magnitude.{mul-within, add-within, sub_within, within_more}
use Rattle.geometry.proofs.Laws.Float.Sign.{Signed}
use Rattle.geometry.proofs.Laws.Float.Up.{up-not-negative, add-signed, square-signed}
use Rattle.geometry.proofs.Laws.Float.Diff.{AtLeast, div-within}
use Rattle.geometry.proofs.Laws.Float.Lower.{round-least, mul-least, square-small, sum_left, sum-right, one_unit}
use Rattle.geometry.specs.declared.point.Point.{Point}
use Rattle.geometry.specs.Float.{◌+₆₄◌, ◌-₆₄◌, ◌*₆₄◌, zero64, absolute}
use Rattle.geometry.specs.Point.{difference, cross, determinant}
use Rattle.geometry.specs.Score.{R, squared_edge, squared_edges, score}
use Rattle.geometry.proofs.Laws.Score.Near.{Near, minus-near, det-near, edges-near}
use Rattle.geometry.proofs.Laws.Score.Quality.{sqrt-within, squared-signed, edges-signed, edges-fits, size-within, r-within, score-up}

-- ---- the root of 2 ^ 440 units or more is 2 ^ 757 units or more
root-least : (n B : ℕ) → n < 4 ^ 1586 → 2 ^ 757 * 2 ^ 757 ≤ n → Within B (root_of (number n)) → AtLeast (2 ^ 757) (root_of (number n))
unfolding root_of rounded
root-least n B u h w =
    let x = exact_root n in
    let r-ge : 2 ^ 757 ≤ x.whole = root-le n (2 ^ 757) x.whole h (exact-root n u).most in
    round-least false (halves x) (2 ^ 1075) 757 B (pow_pos 1075) (lit< tt)
    (le_trans (lit≤ {m = 2 ^ 757 * 2 ^ 1075} {n = 2 * 2 ^ 757 * 2 ^ 1074} tt) (mul-le-mul_right (2 ^ 1074) (more (2 ^ 757) x.whole (cond (eqb x.remainder 0) 0 1) r-ge))) w
  where
    more : (p r t : ℕ) → p ≤ r → 2 * p ≤ 2 * r + t
    more p r t h = omega arith

sqrt-least : (x : Float) (B : ℕ) → T (fits binary64 x) → Signed false x → AtLeast (2 ^ 440) x → Within B (sqrt x) → AtLeast (2 ^ 757) (sqrt x)
unfolding sqrt operand root_of
sqrt-least nan B f s a w = absurd a
sqrt-least (inf t) B f s a w = absurd a
sqrt-least (fin true m e) B f s a w = absurd (true≢false s)
sqrt-least (fin false zero e) B f s a w = absurd (not-le_of_lt (mul-pos (pow_pos 440) (down_pos e)) (le_trans a (le_of_eq (ap (λ (z : ℕ). z * 2 ^ 1074) (zero-mul (up e)) ∙ zero-mul (2 ^ 1074)))))
sqrt-least (fin false (suc m) e) B f s a w =
    root-least (suc m * up e * 2 ^ 2148 / down e) B (number_small m e f)
    ((le-div_iff_mul-le (down_pos e)).1
    (le_trans (mul-le-mul_right (down e) (lit≤ {m = 2 ^ 757 * 2 ^ 757} {n = 2 ^ 440 * 2 ^ 1074} tt))
    (le_trans (le_of_eq (mul_right_comm (2 ^ 440) (2 ^ 1074) (down e))) (le_trans (mul-le-mul_right (2 ^ 1074) a) (le_of_eq (mul_assoc (suc m * up e) (2 ^ 1074) (2 ^ 1074))))))) w

-- ---- a small L: each coordinate of the three squared_edges from a is small
pub record Small (p : Point) : Type 0 where
  pub x : Within (2 ^ 757) p.x
  pub y : Within (2 ^ 757) p.y
  pub z : Within (2 ^ 757) p.z

coordinate : (x : Float) → Within (2 ^ 1095) x → Within (2 ^ 440 - 1) (x *₆₄ x) → Within (2 ^ 757) x
coordinate x b w = square-small 757 440 (2 ^ 1095) (2 ^ 440 - 1) x b (lit≤ {m = 2 ^ 440 * 2 ^ 1074} {n = 2 ^ 757 * 2 ^ 757} tt) (lit< tt) (lit< {m = 2 ^ 440 - 1} {n = 2 ^ 440} tt) w

edge-small : (a b : Point) → Near 20 a → Near 20 b → Within (2 ^ 440 - 1) (squared_edge a b) → Small (difference b a)
unfolding squared_edge
edge-small a b p q w =
    let e = difference b a in
    let n = minus-near 20 b a (lit< tt) q p in
    let sx = square-signed (2 ^ 1095) e.x n.x in
    let sy = square-signed (2 ^ 1095) e.y n.y in
    let sz = square-signed (2 ^ 1095) e.z n.z in
    let xx = e.x *₆₄ e.x in
    let yy = e.y *₆₄ e.y in
    let zz = e.z *₆₄ e.z in
    let fx = mul-fits binary64 e.x e.x in
    let fy = mul-fits binary64 e.y e.y in
    let fz = mul-fits binary64 e.z e.z in
    let wxy = sum_left (2 ^ 440 - 1) (xx +₆₄ yy) zz (add-fits binary64 xx yy) fz (add-signed xx yy sx sy) sz w in
    record {
      x = coordinate e.x n.x (sum_left (2 ^ 440 - 1) xx yy fx fy sx sy wxy);
      y = coordinate e.y n.y (sum-right (2 ^ 440 - 1) xx yy fx fy sx sy wxy);
      z = coordinate e.z n.z (sum-right (2 ^ 440 - 1) (xx +₆₄ yy) zz (add-fits binary64 xx yy) fz (add-signed xx yy sx sy) sz w);
    }

squared-fits : (a b : Point) → T (fits binary64 (squared_edge a b))
unfolding squared_edge
squared-fits a b = let e = difference b a in add-fits binary64 ((e.x *₆₄ e.x) +₆₄ (e.y *₆₄ e.y)) (e.z *₆₄ e.z)

edges-small : (a b c d : Point) → Near 20 a → Near 20 b → Near 20 c → Near 20 d → Within (2 ^ 440 - 1) (squared_edges a b c d) → Small (difference b a) × Small (difference c a) × Small (difference d a)
unfolding squared_edges
edges-small a b c d p q r s w =
    let K = 2 ^ 440 - 1 in
    let q1 = squared_edge a b in
    let q2 = squared_edge a c in
    let q3 = squared_edge a d in
    let q4 = squared_edge b c in
    let q5 = squared_edge b d in
    let q6 = squared_edge c d in
    let s1 = squared-signed a b p q in
    let s2 = squared-signed a c p r in
    let s3 = squared-signed a d p s in
    let s4 = squared-signed b c q r in
    let s5 = squared-signed b d q s in
    let s6 = squared-signed c d r s in
    let t2 = add-signed q1 q2 s1 s2 in
    let t3 = add-signed (q1 +₆₄ q2) q3 t2 s3 in
    let t4 = add-signed (q1 +₆₄ q2 +₆₄ q3) q4 t3 s4 in
    let t5 = add-signed (q1 +₆₄ q2 +₆₄ q3 +₆₄ q4) q5 t4 s5 in
    let f2 = add-fits binary64 q1 q2 in
    let f3 = add-fits binary64 (q1 +₆₄ q2) q3 in
    let f4 = add-fits binary64 (q1 +₆₄ q2 +₆₄ q3) q4 in
    let f5 = add-fits binary64 (q1 +₆₄ q2 +₆₄ q3 +₆₄ q4) q5 in
    let w5 = sum_left (2 ^ 440 - 1) (q1 +₆₄ q2 +₆₄ q3 +₆₄ q4 +₆₄ q5) q6 f5 (squared-fits c d) t5 s6 w in
    let w4 = sum_left (2 ^ 440 - 1) (q1 +₆₄ q2 +₆₄ q3 +₆₄ q4) q5 f4 (squared-fits b d) t4 s5 w5 in
    let w3 = sum_left (2 ^ 440 - 1) (q1 +₆₄ q2 +₆₄ q3) q4 f3 (squared-fits b c) t3 s4 w4 in
    let w2 = sum_left (2 ^ 440 - 1) (q1 +₆₄ q2) q3 f2 (squared-fits a d) t2 s3 w3 in (
      edge-small a b p q (sum_left (2 ^ 440 - 1) q1 q2 (squared-fits a b) (squared-fits a c) s1 s2 w2),
      edge-small a c p r (sum-right (2 ^ 440 - 1) q1 q2 (squared-fits a b) (squared-fits a c) s1 s2 w2),
      edge-small a d p s (sum-right (2 ^ 440 - 1) (q1 +₆₄ q2) q3 f2 (squared-fits a d) t2 s3 w3),
    )

-- ---- and then the determinant
two_products : (p q r s : Float) → Within (2 ^ 757) p → Within (2 ^ 757) q → Within (2 ^ 757) r → Within (2 ^ 757) s → Within (2 ^ 441) ((p *₆₄ q) -₆₄ (r *₆₄ s))
two_products p q r s a b c d =
    sub_within (2 ^ 440) (2 ^ 440) 441 (p *₆₄ q) (r *₆₄ s) (product p q a b) (product r s c d) (lit≤ {m = 2 ^ 440 + 2 ^ 440} {n = 2 ^ 441} tt) (lit< tt)
  where
    product : (p q : Float) → Within (2 ^ 757) p → Within (2 ^ 757) q → Within (2 ^ 440) (p *₆₄ q)
    product p q a b = mul-within (2 ^ 757) (2 ^ 757) 440 p q a b (lit≤ {m = 2 ^ 757 * 2 ^ 757} {n = 2 ^ 440 * 2 ^ 1074} tt) (lit< tt)

det-small : (a b c d : Point) → Small (difference b a) → Small (difference c a) → Small (difference d a) → Within (2 ^ 126) (determinant a b c d)
unfolding determinant
det-small a b c d p q r =
    let w = difference b a in
    let u = difference c a in
    let v = difference d a in
    let k = cross u v in
    let tx = term w.x k.x p.x (two_products u.y v.z u.z v.y q.y r.z q.z r.y) in
    let ty = term w.y k.y p.y (two_products u.z v.x u.x v.z q.z r.x q.x r.z) in
    let tz = term w.z k.z p.z (two_products u.x v.y u.y v.x q.x r.y q.y r.x) in
    add-within (2 ^ 125) (2 ^ 124) 126 ((w.x *₆₄ k.x) +₆₄ (w.y *₆₄ k.y)) (w.z *₆₄ k.z)
    (add-within (2 ^ 124) (2 ^ 124) 125 (w.x *₆₄ k.x) (w.y *₆₄ k.y) tx ty (lit≤ {m = 2 ^ 124 + 2 ^ 124} {n = 2 ^ 125} tt) (lit< tt))
    tz (lit≤ {m = 2 ^ 125 + 2 ^ 124} {n = 2 ^ 126} tt) (lit< tt)
  where
    term : (x k : Float) → Within (2 ^ 757) x → Within (2 ^ 441) k → Within (2 ^ 124) (x *₆₄ k)
    term x k a b = mul-within (2 ^ 757) (2 ^ 441) 124 x k a b (lit≤ {m = 2 ^ 757 * 2 ^ 441} {n = 2 ^ 124 * 2 ^ 1074} tt) (lit< tt)

-- ---- the two cases
split : (B : ℕ) (x : Float) → T (fits binary64 x) → Within B x → AtLeast (2 ^ 440) x ⊎ Within (2 ^ 440 - 1) x
split B nan f w = absurd w
split B (inf s) f w = absurd w
split B (fin s m e) f w = go (dec_le (2 ^ 440 * down e) (m * up e * 2 ^ 1074))
  where
    X : ℕ
    X = units_of (fin s m e)

    go : Dec (2 ^ 440 * down e ≤ m * up e * 2 ^ 1074) → AtLeast (2 ^ 440) (fin s m e) ⊎ Within (2 ^ 440 - 1) (fin s m e)
    go (yes l) = inl l
    go (no g) =
        let x_lt : X < 2 ^ 440 = lt_of_mul-lt-mul_right (down e) (lt_of_le_of_lt (le_of_eq (sym (units-exact s m e f))) (lt_of_not-le g)) in
        inr (le_trans (le_of_eq (units-exact s m e f)) (mul-le-mul_right (down e) (le_ones 440 x_lt)))

module _ (a b c d : Point) (p : Near 20 a) (q : Near 20 b) (r : Near 20 c) (s : Near 20 d) where
  l-fits : T (fits binary64 (squared_edges a b c d))
  l-fits = edges-fits a b c d

  l-in : within 49 (squared_edges a b c d)
  l-in = edges-near a b c d p q r s

  l-signed : Signed false (squared_edges a b c d)
  l-signed = edges-signed a b c d p q r s

  root_in : Within (2 ^ 1586) (sqrt (squared_edges a b c d))
  root_in = sqrt-within (2 ^ 1123) (squared_edges a b c d) l-fits l-in l-signed

  divisor-in : Within (2 ^ 1635) (squared_edges a b c d *₆₄ sqrt (squared_edges a b c d))
  divisor-in = mul-within (2 ^ 1123) (2 ^ 1586) 1635 (squared_edges a b c d) (sqrt (squared_edges a b c d)) l-in root_in (lit≤ {m = 2 ^ 1123 * 2 ^ 1586} {n = 2 ^ 1635 * 2 ^ 1074} tt) (lit< tt)

  -- the divisor in the first case
  large : AtLeast (2 ^ 440) (squared_edges a b c d) → AtLeast (2 ^ 123) (squared_edges a b c d *₆₄ sqrt (squared_edges a b c d))
  large h =
      mul-least (2 ^ 440) (2 ^ 757) 123 (2 ^ 1635) (squared_edges a b c d) (sqrt (squared_edges a b c d)) h (sqrt-least (squared_edges a b c d) (2 ^ 1586) l-fits l-signed h root_in)
      (lit≤ {m = 2 ^ 123 * 2 ^ 1074} {n = 2 ^ 440 * 2 ^ 757} tt) (lit< tt) divisor-in

  top_in : (k : ℕ) → k < 2093 → Within (2 ^ k) (determinant a b c d) → Within (2 ^ (k + 5)) (R *₆₄ absolute (determinant a b c d))
  top_in k K w = mul-within (2 ^ 1079) (2 ^ k) (k + 5) R (absolute (determinant a b c d)) r-within (size-within (2 ^ k) (determinant a b c d) w) (le_of_eq (sym (pow-add 2 1079 k) ∙ ap (λ (z : ℕ). 2 ^ z) (sums k) ∙ pow-add 2 (k + 5) 1074)) (under k K)
    where
      sums : (k : ℕ) → 1079 + k ≡ k + 5 + 1074
      sums k = omega arith

      under : (k : ℕ) → k < 2093 → k + 5 < 2098
      under k h = omega arith

  quotient-in : eq (squared_edges a b c d *₆₄ sqrt (squared_edges a b c d)) zero64 ≡ false → Within (2 ^ 2096) (div binary64 (R *₆₄ absolute (determinant a b c d)) (squared_edges a b c d *₆₄ sqrt (squared_edges a b c d)))
  quotient-in h = elim (split (2 ^ 1123) (squared_edges a b c d) l-fits l-in) [
    | inl big ↦
        div-within (2 ^ 1145) (2 ^ 123) 2096 (R *₆₄ absolute (determinant a b c d)) (squared_edges a b c d *₆₄ sqrt (squared_edges a b c d)) (top_in 1140 (lit< tt) (det-near a b c d p q r s)) (large big) (pow_pos 123)
        (lit≤ {m = 2 ^ 1145 * 2 ^ 1074} {n = 2 ^ 2096 * 2 ^ 123} tt) (lit< tt)
    | inr small ↦
        let e = edges-small a b c d p q r s small in
        within_more (2 ^ 1205) (2 ^ 2096) (div binary64 (R *₆₄ absolute (determinant a b c d)) (squared_edges a b c d *₆₄ sqrt (squared_edges a b c d))) (lit≤ {m = 2 ^ 1205} {n = 2 ^ 2096} tt)
        (div-within (2 ^ 131) 1 1205 (R *₆₄ absolute (determinant a b c d)) (squared_edges a b c d *₆₄ sqrt (squared_edges a b c d)) (top_in 126 (lit< tt) (det-small a b c d e.0 e.1 e.2))
        (one_unit (2 ^ 1635) (squared_edges a b c d *₆₄ sqrt (squared_edges a b c d)) (mul-fits binary64 (squared_edges a b c d) (sqrt (squared_edges a b c d))) divisor-in h) (lit< tt)
        (lit≤ {m = 2 ^ 131 * 2 ^ 1074} {n = 2 ^ 1205 * 1} tt) (lit< tt))
  ]

  pub score-in : Within (2 ^ 2096) (score a b c d)
  unfolding score
  score-in = go (eq (squared_edges a b c d *₆₄ sqrt (squared_edges a b c d)) zero64) refl
    where
      go : (t : Bool) → eq (squared_edges a b c d *₆₄ sqrt (squared_edges a b c d)) zero64 ≡ t → Within (2 ^ 2096) (cond t zero64 (div binary64 (R *₆₄ absolute (determinant a b c d)) (squared_edges a b c d *₆₄ sqrt (squared_edges a b c d))))
      go true e = lit≤ {m = 0} {n = 2 ^ 2096 * 1} tt
      go false e = quotient-in e

  -- so a score is a number, and not below 0
  pub score-not-negative : NotNegative (score a b c d)
  score-not-negative = up-not-negative (2 ^ 2096) (score a b c d) score-in (score-up a b c d p q r s)

  score-fits : T (fits binary64 (score a b c d))
  unfolding score
  score-fits =
      cond-fits binary64 (eq (squared_edges a b c d *₆₄ sqrt (squared_edges a b c d)) zero64) zero64 (div binary64 (R *₆₄ absolute (determinant a b c d)) (squared_edges a b c d *₆₄ sqrt (squared_edges a b c d))) zero-fits
      (div-fits binary64 (R *₆₄ absolute (determinant a b c d)) (squared_edges a b c d *₆₄ sqrt (squared_edges a b c d)))
    where
      zero-fits : T (fits binary64 zero64)
      zero-fits = unfold fits in tt

  -- a score s that passed the test against the lowest one, where s + 1e-12 is not below m, is m - 2e-12 or more
  pub score-tolerance : (m : Float) → Least m → lt (score a b c d +₆₄ e_12) m ≡ false → 10 ^ 12 * units_of m ≤ 10 ^ 12 * units_of (score a b c d) + 2 * 2 ^ 1074
  score-tolerance m l h = tolerance (score a b c d) m score-fits l.fit score-not-negative l.not_negative l.low h
