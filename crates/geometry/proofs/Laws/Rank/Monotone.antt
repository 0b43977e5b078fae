-- The rank keeps the order: for lo ≤ x ≤ y ≤ hi the rank of x is at most that of y. Assumes nothing.
use Rattle.std.proofs.Common.{◌≡◌, ℕ, zero, suc, ◌+◌, ◌-◌, ◌*◌, ◌/◌, ◌%◌, ◌^◌, ◌<◌, ◌≤◌, min, Bool, true, false, cond, not, T, eqb, leb, ℤ, sym, refl, ap, ◌∙◌, subst, inl, inr, zero-le, le_trans, le_of_eq, lt_of_le_of_lt, mul-le-mul_right, mod-lt, zero-lt-suc, mul-pos, div-add-mod', zero-mul, not-le_of_lt, arith, leb→le, pow_pos}
use lib.Dec.{eqb-suc-zero, nleb→lt}
use lib.Arith.{digits_div}
use lib.Ieee.{Float, nan, inf, fin, binary64, up, down, unlike, round, neg, sub, mul, div, le}
use lib.Ieee.Fits.{up_pos, down_pos}
use lib.Ieee.Nearest.{div_mono}
use lib.Ieee.Order.{transfer}
use lib.Ieee.Positive.{num, den, value→cross}
use lib.Ieee.Scale.{grid, finite, round_val, round_under}
use Rattle.geometry.specs.Units.{NotNegative}
use Rattle.geometry.specs.inside.Units.{Within}
use Rattle.geometry.proofs.Laws.Float.Grid.{grid_mono}
use Rattle.geometry.proofs.Laws.Float.Sign.{round-neg}
use Rattle.geometry.proofs.Laws.Float.Magnitude.{within-finite}
use Rattle.geometry.proofs.Laws.Float.Diff.{Rounded, AtLeast}
use Rattle.geometry.specs.Rank.{nearest_whole, nearest_away, e11, share, rank_value}
use Rattle.geometry.proofs.Laws.Rank.Share.{Between, D, E, top, top_in, bottom-least, G, G-pos, share-le, scaled-le, scaled-not-negative, D-mono}
use Rattle.geometry.proofs.Laws.Rank.Away.{whole-zero}

-- |x| ≤ |y|
abbrev Less : Float → Float → Type 0
Less x y = num x * den y ≤ num y * den x

num-neg : (x : Float) → num (neg x) ≡ num x
unfolding neg
num-neg nan = refl
num-neg (inf s) = refl
num-neg (fin s m e) = refl

den-neg : (x : Float) → den (neg x) ≡ den x
unfolding neg
den-neg nan = refl
den-neg (inf s) = refl
den-neg (fin s m e) = refl

-- the sign does not count
round-num : (s : Bool) (a c : ℕ) → (num (round binary64 s a c) ≡ num (round binary64 false a c)) × (den (round binary64 s a c) ≡ den (round binary64 false a c))
round-num false a c = (refl, refl)
round-num true a c = (ap num (round-neg binary64 false a c) ∙ num-neg (round binary64 false a c), ap den (round-neg binary64 false a c) ∙ den-neg (round binary64 false a c))

finite-neg : (x : Float) → T (finite (neg x)) → T (finite x)
unfolding neg
finite-neg nan t = t
finite-neg (inf s) t = t
finite-neg (fin s m e) t = t

fits_under : (s : Bool) (a c : ℕ) → T (finite (round binary64 s a c)) → grid binary64 a c < 2 ^ 2098
fits_under false a c t = round_under binary64 a c t
fits_under true a c t = round_under binary64 a c (finite-neg (round binary64 false a c) (subst (λ (x : Float). T (finite x)) (round-neg binary64 false a c) t))

pub round-less : (s t : Bool) (a c b d : ℕ) → 0 < c → 0 < d → a * d ≤ b * c → T (finite (round binary64 t b d)) → Less (round binary64 s a c) (round binary64 t b d)
round-less s t a c b d C D h f =
    let x = round binary64 false a c in
    let y = round binary64 false b d in
    let gb : grid binary64 b d < 2 ^ 2098 = fits_under t b d f in
    let g : grid binary64 a c ≤ grid binary64 b d = grid_mono a c b d C D h in
    let p = value→cross x (grid binary64 a c) (2 ^ 1074) (round_val binary64 a c (lt_of_le_of_lt g gb)) in
    let q = value→cross y (grid binary64 b d) (2 ^ 1074) (round_val binary64 b d gb) in
    let l : num x * den y ≤ num y * den x = transfer (num x) (num y) (den x) (den y) (grid binary64 a c) (grid binary64 b d) (2 ^ 1074) (2 ^ 1074) (pow_pos 1074) (pow_pos 1074) p q (mul-le-mul_right (2 ^ 1074) g) in
    le_trans (le_of_eq (λ i. (round-num s a c).0 i * (round-num t b d).1 i)) (le_trans l (le_of_eq (sym (λ i. (round-num t b d).0 i * (round-num s a c).1 i))))

-- ---- a rounded difference
rounded-round : (v : Float) (D : ℕ) → Rounded v D → (s : Bool) × (v ≡ round binary64 s D (2 ^ 1074))
rounded-round v D r = elim r [ inl p ↦ (false, p) | inr p ↦ (true, p.0 ∙ ap (λ (z : ℕ). round binary64 true z (2 ^ 1074)) (sym p.1)) ]

diff-less : (v w : Float) (D E : ℕ) → Rounded v D → Rounded w E → D ≤ E → T (finite w) → Less v w
diff-less v w D E r q h f =
    let a = rounded-round v D r in
    let b = rounded-round w E q in
    subst (λ (z : Float). Less z w) (sym a.1)
    (subst (λ (z : Float). Less (round binary64 a.0 D (2 ^ 1074)) z) (sym b.1)
    (round-less a.0 b.0 D (2 ^ 1074) E (2 ^ 1074) (pow_pos 1074) (pow_pos 1074) (mul-le-mul_right (2 ^ 1074) h) (subst (λ (z : Float). T (finite z)) b.1 f)))

-- ---- a quotient by the same divisor, and a product with the same factor
div-less : (A C B k : ℕ) (x y z : Float) → Within A x → Within C y → AtLeast B z → 0 < B → Within k (div binary64 y z) → Less x y → Less (div binary64 x z) (div binary64 y z)
unfolding div
div-less A C B k nan y z p q r b w h = absurd p
div-less A C B k (inf s) y z p q r b w h = absurd p
div-less A C B k (fin s m e) nan z p q r b w h = absurd q
div-less A C B k (fin s m e) (inf t) z p q r b w h = absurd q
div-less A C B k (fin s m e) (fin t n d) nan p q r b w h = absurd r
div-less A C B k (fin s m e) (fin t n d) (inf u) p q r b w h = absurd r
div-less A C B k (fin s m e) (fin t n d) (fin u zero g) p q r b w h =
    absurd (not-le_of_lt (mul-pos b (down_pos g)) (le_trans r (le_of_eq (ap (λ (z : ℕ). z * 2 ^ 1074) (zero-mul (up g)) ∙ zero-mul (2 ^ 1074)))))
div-less A C B k (fin s m e) (fin t n d) (fin u (suc o) g) p q r b w h =
    let X = round binary64 (unlike s u) (m * up e * down g) (suc o * up g * down e) in
    let Y = round binary64 (unlike t u) (n * up d * down g) (suc o * up g * down d) in
    let wy : Within k Y = subst (λ (z : Bool). Within k (cond z (cond (eqb n 0) nan (inf (unlike t u))) Y)) (eqb-suc-zero o) w in
    subst (λ (z : Bool). Less (cond z (cond (eqb m 0) nan (inf (unlike s u))) X) (cond z (cond (eqb n 0) nan (inf (unlike t u))) Y)) (sym (eqb-suc-zero o))
    (round-less (unlike s u) (unlike t u) (m * up e * down g) (suc o * up g * down e) (n * up d * down g) (suc o * up g * down d) (mul-pos (mul-pos (zero-lt-suc o) (up_pos g)) (down_pos e)) (mul-pos (mul-pos (zero-lt-suc o) (up_pos g)) (down_pos d))
    (scale (m * up e) (down d) (n * up d) (down e) (down g) (suc o * up g) h) (within-finite k Y wy))
  where
    scale : (x d y e g z : ℕ) → x * d ≤ y * e → x * g * (z * d) ≤ y * g * (z * e)
    scale x d y e g z h = le_trans (le_of_eq (turn x d g z)) (le_trans (mul-le-mul_right (g * z) h) (le_of_eq (sym (turn y e g z))))
      where
        turn : (x d g z : ℕ) → x * g * (z * d) ≡ x * d * (g * z)
        turn x d g z = omega arith

mul-less : (A C k : ℕ) (x y : Float) → Within A x → Within C y → Within k (mul binary64 y e11) → Less x y → Less (mul binary64 x e11) (mul binary64 y e11)
unfolding mul
mul-less A C k nan y p q w h = absurd p
mul-less A C k (inf s) y p q w h = absurd p
mul-less A C k (fin s m e) nan p q w h = absurd q
mul-less A C k (fin s m e) (inf t) p q w h = absurd q
mul-less A C k (fin s m e) (fin t n d) p q w h =
    let F : ℕ = 48828125 * 2 ^ 11 in
    round-less (unlike s false) (unlike t false) (m * up e * F) (down e * 1) (n * up d * F) (down d * 1) (mul-pos (down_pos e) (zero-lt-suc 0)) (mul-pos (down_pos d) (zero-lt-suc 0)) (scale (m * up e) (down d) (n * up d) (down e) F h)
    (within-finite k (round binary64 (unlike t false) (n * up d * F) (down d * 1)) w)
  where
    scale : (x d y e F : ℕ) → x * d ≤ y * e → x * F * (d * 1) ≤ y * F * (e * 1)
    scale x d y e F h = le_trans (le_of_eq (turn x d F)) (le_trans (mul-le-mul_right F h) (le_of_eq (sym (turn y e F))))
      where
        turn : (x d F : ℕ) → x * F * (d * 1) ≡ x * d * F
        turn x d F = omega arith

-- ---- the nearest whole number is the whole part of (2 * x + 1) / 2
away-by : (n r d : ℕ) (t : Bool) → r < d → (T t → d ≤ r * 2) → (T (not t) → r * 2 < d) → (2 * (n * d + r) + d) / (2 * d) ≡ n + cond t 1 0
away-by n r d true l y f = ap (λ (z : ℕ). z / (2 * d)) (sums n r d (y tt)) ∙ digits_div (n + 1) (less r d l)
  where
    sums : (n r d : ℕ) → d ≤ r * 2 → 2 * (n * d + r) + d ≡ (n + 1) * (2 * d) + (r * 2 - d)
    sums n r d h = omega arith

    less : (r d : ℕ) → r < d → r * 2 - d < 2 * d
    less r d h = omega arith
away-by n r d false l y f = ap (λ (z : ℕ). z / (2 * d)) (sums n r d) ∙ digits_div (n + 0) (less r d (f tt))
  where
    sums : (n r d : ℕ) → 2 * (n * d + r) + d ≡ (n + 0) * (2 * d) + (r * 2 + d)
    sums n r d = omega arith

    less : (r d : ℕ) → r * 2 < d → r * 2 + d < 2 * d
    less r d h = omega arith

away-half : (m : ℕ) (e : ℤ) → nearest_whole m e ≡ (2 * (m * up e) + down e) / (2 * down e)
away-half m e =
    let x = m * up e in
    let d = down e in
    sym (away-by (x / d) (x % d) d (leb d (x % d * 2)) (mod-lt x (down_pos e)) (leb→le d (x % d * 2)) (nleb→lt d (x % d * 2)))
    ∙ ap (λ (z : ℕ). (2 * z + d) / (2 * d)) (div-add-mod' x d)

whole-less : (m : ℕ) (e : ℤ) (n : ℕ) (d : ℤ) → m * up e * down d ≤ n * up d * down e → nearest_whole m e ≤ nearest_whole n d
whole-less m e n d h =
    le_trans (le_of_eq (away-half m e))
    (le_trans (div_mono (2 * (m * up e) + down e) (2 * down e) (2 * (n * up d) + down d) (2 * down d) (twice (down e) (down_pos e)) (twice (down d) (down_pos d)) (scale (m * up e) (down d) (n * up d) (down e) h))
    (le_of_eq (sym (away-half n d))))
  where
    twice : (a : ℕ) → 0 < a → 0 < 2 * a
    twice a h = omega arith

    scale : (x d y e : ℕ) → x * d ≤ y * e → (2 * x + e) * (2 * d) ≤ (2 * y + d) * (2 * e)
    scale x d y e h = omega arith

-- among values that are not negative
pub away-less : (x y : Float) → NotNegative x → NotNegative y → Less x y → nearest_away x ≤ nearest_away y
unfolding nearest_away
away-less nan y p q h = absurd p
away-less (inf s) y p q h = absurd p
away-less (fin s m e) nan p q h = absurd q
away-less (fin s m e) (inf t) p q h = absurd q
away-less (fin true m e) (fin t n d) p q h = zero-le
away-less (fin false m e) (fin true n d) p q h = cut (nearest_whole m e) (le_trans (whole-less m e n d h) (le_of_eq (whole-zero n d (ap (λ (z : ℕ). z * up d) q ∙ zero-mul (up d)))))
  where
    cut : (a : ℕ) → a ≤ 0 → min a (2 ^ 64 - 1) ≤ 0
    cut a h = omega arith
away-less (fin false m e) (fin false n d) p q h = cut (nearest_whole m e) (nearest_whole n d) (whole-less m e n d h)
  where
    cut : (a b : ℕ) → a ≤ b → min a (2 ^ 64 - 1) ≤ min b (2 ^ 64 - 1)
    cut a b h = omega arith

-- ---- the rank
pub rank_mono : (x y lo hi : Float) → Between x lo hi → Between y lo hi → T (le x y) → rank_value x lo hi ≤ rank_value y lo hi
unfolding rank_value
rank_mono x y lo hi p q h =
    let sx = sub binary64 x lo in
    let sy = sub binary64 y lo in
    let sh = sub binary64 hi lo in
    let l : Less sx sy = diff-less sx sy (D x lo hi p) (D y lo hi q) (top x lo hi p) (top y lo hi q) (D-mono x y lo hi p q h) (within-finite (G y lo hi q) sy (top_in y lo hi q)) in
    let m : Less (share x lo hi) (share y lo hi) = div-less (G x lo hi p) (G y lo hi q) (G y lo hi q) (2 ^ 1074) sx sy sh (top_in x lo hi p) (top_in y lo hi q) (bottom-least y lo hi q) (G-pos y lo hi q) (share-le y lo hi q) l in
    away-less (mul binary64 (share x lo hi) e11) (mul binary64 (share y lo hi) e11) (scaled-not-negative x lo hi p) (scaled-not-negative y lo hi q)
    (mul-less (2 ^ 1074) (2 ^ 1074) (48828125 * 2 ^ 1085) (share x lo hi) (share y lo hi) (share-le x lo hi p) (share-le y lo hi q) (scaled-le y lo hi q) m)
