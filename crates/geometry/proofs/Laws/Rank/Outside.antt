-- The rank at the ends of the box and outside it: 0 for a NaN and up to lo, 10^11 at hi, and no less above hi. Assumes nothing.
use Rattle.std.proofs.Common.{◌≡◌, ℕ, zero, suc, ◌+◌, ◌-◌, ◌*◌, ◌/◌, ◌%◌, ◌^◌, ◌<◌, ◌≤◌, min, Bool, true, false, cond, not, ◌&&◌, ◌||◌, T, eqb, ltb, leb, sym, refl, ap, ◌∙◌, subst, true≢false, le_trans, le_of_eq, le_of_lt, lt_irrefl, mul-le-mul_right, zero-lt-suc, mul_comm, mul-pos, le-div_iff_mul-le, zero-mul, mul_right_comm, not-le_of_lt, le_of_mul-le-mul_right, arith, lit<, lit≤, eqb→eq, pow_pos, ltb-true, le-ltb, lt-ltb}
use lib.Dec.{eqb_refl, eqb-suc-zero}
use lib.Ieee.{Float, nan, inf, fin, binary64, up, down, below, level, round, sum, neg, add, sub, mul, div, lt, eq, le, fits}
use lib.Ieee.Fits.{up_pos, down_pos, and_i, and_l, and_r}
use lib.Ieee.Exact.{HasValue, round_exact}
use lib.Ieee.Scale.{grid, finite, round_same, round_val, round_under}
use Rattle.geometry.specs.Float.{one64}
use Rattle.geometry.specs.inside.Units.{Within, within}
use Rattle.geometry.specs.Rank.{nearest_away, e11, share, rank_value}
use Rattle.geometry.proofs.Laws.Float.Mirror.{none_left}
use Rattle.geometry.proofs.Laws.Float.Grid.{grid_mono, grid-exact}
use Rattle.geometry.proofs.Laws.Float.Magnitude.{less_by, within-finite}
use Rattle.geometry.proofs.Laws.Float.Sign.{Signed, round-signed}
use Rattle.geometry.proofs.Laws.Float.Up.{Up}
use Rattle.geometry.proofs.Laws.Float.Spot.{spot, lt-spot, le-spot}
use Rattle.geometry.proofs.Laws.Float.Diff.{AtLeast, rounded-up, rounded-at-least, sub-spot}
use Rattle.geometry.proofs.Laws.Rank.Away.{not-above}
use Rattle.geometry.proofs.Laws.Rank.Share.{Between, E, G, G-pos, top_in, bottom, bottom-least, rounded-under}

-- ---- a NaN among the three
pub rank-nan : (lo hi : Float) → rank_value nan lo hi ≡ 0
unfolding rank_value nearest_away sub add div mul
rank-nan lo hi = refl

pub rank-nan-lo : (x hi : Float) → rank_value x nan hi ≡ 0
unfolding rank_value nearest_away sub add neg div mul
rank-nan-lo nan hi = refl
rank-nan-lo (inf s) hi = refl
rank-nan-lo (fin s m e) hi = refl

pub rank-nan-hi : (x lo : Float) → rank_value x lo nan ≡ 0
unfolding rank_value nearest_away sub add div mul
rank-nan-hi x lo = go (sub binary64 x lo)
  where
    go : (v : Float) → nearest_away (mul binary64 (div binary64 v nan) e11) ≡ 0
    go nan = refl
    go (inf s) = refl
    go (fin s m e) = refl

-- ---- a NaN, or not above 0
abbrev Down : Float → Type 0
Down nan = Unit {0}
Down (inf s) = s ≡ true
Down (fin true m e) = Unit {0}
Down (fin false m e) = m ≡ 0

signed-down : (x : Float) → Signed true x → Down x
signed-down nan h = tt
signed-down (inf s) h = h
signed-down (fin true m e) h = tt
signed-down (fin false m e) h = absurd (true≢false (sym h))

zero-down : (s : Bool) (a c : ℕ) → 0 < c → a ≡ 0 → Down (round binary64 s a c)
zero-down s a c C z = subst (λ (k : ℕ). Down (round binary64 s k c)) (sym z) (of (round binary64 s 0 c) (round_exact binary64 s 0 c 0 0 C (lit< tt) (lit< tt) (sym (zero-mul c))))
  where
    first : (m u c : ℕ) → 0 < u → 0 < c → m * u * c ≡ 0 → m ≡ 0
    first zero u c U C h = refl
    first (suc m) u c U C h = absurd (lt_irrefl 0 (subst (λ (z : ℕ). 0 < z) h (mul-pos (mul-pos (zero-lt-suc m) U) C)))

    of : (v : Float) → HasValue v s 0 c → Down v
    of nan h = tt
    of (inf t) h = absurd h
    of (fin true m e) h = tt
    of (fin false m e) h = first m (up e) c (up_pos e) C (h.1 ∙ zero-mul (down e))

away-down : (x : Float) → Down x → nearest_away x ≡ 0
unfolding nearest_away lt
away-down nan h = refl
away-down (inf s) h = ap (λ (t : Bool). cond t 0 (2 ^ 64 - 1)) h
away-down (fin true m e) h = refl
away-down (fin false m e) h = sym (not-above (fin false m e) (le-ltb (0 * down e) (m * up e * 1) (le_of_eq (ap (λ (z : ℕ). z * up e * 1) h ∙ ap (λ (z : ℕ). z * 1) (zero-mul (up e)) ∙ sym (zero-mul (down e))))))

-- ---- x - lo for an x up to lo, and hi - lo
sum-down : (s t : Bool) (a b c : ℕ) → 0 < c → T (below s a t b || level s a t b) → Down (sum binary64 s a (not t) b c)
unfolding sum
sum-down false true a b c C h = zero-down false (a + b) c C (nil a b (eqb→eq a b (and_l (eqb a b) (eqb a 0) h)) (eqb→eq a 0 (and_r (eqb a b) (eqb a 0) h)))
  where
    nil : (a b : ℕ) → a ≡ b → a ≡ 0 → a + b ≡ 0
    nil a b p q = omega arith
sum-down true false a b c C h = signed-down (round binary64 true (a + b) c) (round-signed binary64 true (a + b) c)
sum-down false false a b c C h = go (ltb a b) refl
  where
    even : ltb a b ≡ false → a ≡ b
    even l = eqb→eq a b (and_l (eqb a b) true (subst (λ (z : Bool). T (z || (eqb a b && true))) l h))

    go : (t : Bool) → ltb a b ≡ t → Down (cond t (round binary64 true (b - a) c) (round binary64 false (a - b) c))
    go true l = signed-down (round binary64 true (b - a) c) (round-signed binary64 true (b - a) c)
    go false l = zero-down false (a - b) c C (none_left a b (even l))
sum-down true true a b c C h = go (ltb b a) refl
  where
    even : ltb b a ≡ false → a ≡ b
    even l = eqb→eq a b (and_l (eqb a b) true (subst (λ (z : Bool). T (z || (eqb a b && true))) l h))

    go : (t : Bool) → ltb b a ≡ t → Down (cond (ltb a b) (round binary64 false (b - a) c) (round binary64 t (a - b) c))
    go true l = subst (λ (z : Bool). Down (cond z (round binary64 false (b - a) c) (round binary64 true (a - b) c))) (sym (le-ltb a b (le_of_lt (ltb-true b a l)))) (signed-down (round binary64 true (a - b) c) (round-signed binary64 true (a - b) c))
    go false l = subst (λ (z : Bool). Down (cond z (round binary64 false (b - a) c) (round binary64 false (a - b) c))) (sym (le-ltb a b (le_of_eq (sym (even l))))) (zero-down false (a - b) c C (none_left a b (even l)))

sub-down : (x lo : Float) → T (le x lo) → Down (sub binary64 x lo)
unfolding sub add neg le lt eq
sub-down nan lo h = tt
sub-down (inf true) nan h = tt
sub-down (inf true) (inf true) h = tt
sub-down (inf true) (inf false) h = refl
sub-down (inf true) (fin t n d) h = refl
sub-down (inf false) nan h = tt
sub-down (inf false) (inf true) h = absurd h
sub-down (inf false) (inf false) h = tt
sub-down (inf false) (fin t n d) h = absurd h
sub-down (fin s m e) nan h = tt
sub-down (fin s m e) (inf true) h = absurd h
sub-down (fin s m e) (inf false) h = refl
sub-down (fin s m e) (fin t n d) h = sum-down s t (m * up e * down d) (n * up d * down e) (down e * down d) (mul-pos (down_pos e) (down_pos d)) h

sum-plus : (s t : Bool) (a b c : ℕ) → T (below t b s a) → Signed false (sum binary64 s a (not t) b c)
unfolding sum
sum-plus false true a b c h = round-signed binary64 false (a + b) c
sum-plus true false a b c h = absurd h
sum-plus false false a b c h = subst (λ (z : Bool). Signed false (cond z (round binary64 true (b - a) c) (round binary64 false (a - b) c))) (sym (le-ltb a b (le_of_lt (less b a h)))) (round-signed binary64 false (a - b) c)
  where
    less : (a b : ℕ) → T (ltb a b) → a < b
    less a b h = lit< h
sum-plus true true a b c h = subst (λ (z : Bool). Signed false (cond z (round binary64 false (b - a) c) (round binary64 (ltb b a) (a - b) c))) (sym (lt-ltb a b (lit< h))) (round-signed binary64 false (b - a) c)

sub-plus : (lo hi : Float) → T (lt lo hi) → Signed false (sub binary64 hi lo)
unfolding sub add neg lt
sub-plus nan hi h = absurd h
sub-plus (inf true) nan h = absurd h
sub-plus (inf true) (inf true) h = absurd h
sub-plus (inf true) (inf false) h = refl
sub-plus (inf true) (fin t n d) h = refl
sub-plus (inf false) nan h = absurd h
sub-plus (inf false) (inf t) h = absurd h
sub-plus (inf false) (fin t n d) h = absurd h
sub-plus (fin s m e) nan h = absurd h
sub-plus (fin s m e) (inf true) h = absurd h
sub-plus (fin s m e) (inf false) h = refl
sub-plus (fin s m e) (fin t n d) h = sum-plus t s (n * up d * down e) (m * up e * down d) (down d * down e) h

-- ---- the quotient, and 1e11 times it
div-down : (x y : Float) → Down x → Signed false y → Down (div binary64 x y)
unfolding div
div-down nan y h k = tt
div-down (inf s) nan h k = tt
div-down (inf s) (inf t) h k = tt
div-down (inf s) (fin true n d) h k = absurd (true≢false k)
div-down (inf true) (fin false n d) h k = refl
div-down (inf false) (fin false n d) h k = absurd (true≢false (sym h))
div-down (fin s m e) nan h k = tt
div-down (fin s m e) (inf true) h k = absurd (true≢false k)
div-down (fin true m e) (inf false) h k = tt
div-down (fin false m e) (inf false) h k = refl
div-down (fin s m e) (fin true n d) h k = absurd (true≢false k)
div-down (fin true m e) (fin false n d) h k = go (eqb n 0) (eqb m 0)
  where
    go : (t u : Bool) → Down (cond t (cond u nan (inf true)) (round binary64 true (m * up e * down d) (n * up d * down e)))
    go true true = tt
    go true false = refl
    go false u = signed-down (round binary64 true (m * up e * down d) (n * up d * down e)) (round-signed binary64 true (m * up e * down d) (n * up d * down e))
div-down (fin false m e) (fin false n d) h k = go n
  where
    nil : m * up e * down d ≡ 0
    nil = ap (λ (z : ℕ). z * up e * down d) h ∙ ap (λ (z : ℕ). z * down d) (zero-mul (up e)) ∙ zero-mul (down d)

    go : (n : ℕ) → Down (cond (eqb n 0) (cond (eqb m 0) nan (inf false)) (round binary64 false (m * up e * down d) (n * up d * down e)))
    go zero = subst (λ (z : ℕ). Down (cond (eqb z 0) nan (inf false))) (sym h) tt
    go (suc n) = subst (λ (b : Bool). Down (cond b (cond (eqb m 0) nan (inf false)) (round binary64 false (m * up e * down d) (suc n * up d * down e)))) (sym (eqb-suc-zero n)) (zero-down false (m * up e * down d) (suc n * up d * down e) (mul-pos (mul-pos (zero-lt-suc n) (up_pos d)) (down_pos e)) nil)

mul-down : (x : Float) → Down x → Down (mul binary64 x e11)
unfolding mul
mul-down nan h = tt
mul-down (inf true) h = refl
mul-down (inf false) h = absurd (true≢false (sym h))
mul-down (fin true m e) h = signed-down (round binary64 true (m * up e * (48828125 * 2 ^ 11)) (down e * 1)) (round-signed binary64 true (m * up e * (48828125 * 2 ^ 11)) (down e * 1))
mul-down (fin false m e) h = zero-down false (m * up e * (48828125 * 2 ^ 11)) (down e * 1) (mul-pos (down_pos e) (zero-lt-suc 0)) (ap (λ (z : ℕ). z * up e * (48828125 * 2 ^ 11)) h ∙ ap (λ (z : ℕ). z * (48828125 * 2 ^ 11)) (zero-mul (up e)))

-- up to lo, whatever the size of the three
pub rank_below : (x lo hi : Float) → T (le x lo) → T (lt lo hi) → rank_value x lo hi ≡ 0
unfolding rank_value
rank_below x lo hi h k = away-down (mul binary64 (share x lo hi) e11) (mul-down (share x lo hi) (div-down (sub binary64 x lo) (sub binary64 hi lo) (sub-down x lo h) (sub-plus lo hi k)))

-- ---- at lo
level-same : (s : Bool) (a : ℕ) → T (level s a s a)
level-same true a = and_i (eqb a a) true (eqb_refl a) tt
level-same false a = and_i (eqb a a) true (eqb_refl a) tt

or_right : (a b : Bool) → T b → T (a || b)
or_right true b t = tt
or_right false b t = t

pub same-le : (lo hi : Float) → T (lt lo hi) → T (le lo lo)
unfolding le lt eq
same-le nan hi h = absurd h
same-le (inf true) hi h = tt
same-le (inf false) hi h = tt
same-le (fin s m e) hi h = or_right (below s (m * up e * down e) s (m * up e * down e)) (level s (m * up e * down e) s (m * up e * down e)) (level-same s (m * up e * down e))

pub rank-lo : (lo hi : Float) → T (lt lo hi) → rank_value lo lo hi ≡ 0
rank-lo lo hi h = rank_below lo lo hi (same-le lo hi h) h

-- ---- at hi: the quotient of what is finite and above 0 by itself is 1
suc-zero : (n : ℕ) → suc n ≡ 0 → ⊥
suc-zero n h = omega arith

one-is : round binary64 false 1 1 ≡ one64
unfolding round
one-is = refl

div_self : (B : ℕ) (v : Float) → 0 < B → Up v → AtLeast B v → div binary64 v v ≡ one64
unfolding div
div_self B nan b u h = absurd h
div_self B (inf s) b u h = absurd h
div_self B (fin s zero e) b u h = absurd (not-le_of_lt (mul-pos b (down_pos e)) (le_trans h (le_of_eq (ap (λ (z : ℕ). z * 2 ^ 1074) (zero-mul (up e)) ∙ zero-mul (2 ^ 1074)))))
div_self B (fin true (suc m) e) b u h = absurd (suc-zero m u)
div_self B (fin false (suc m) e) b u h =
    let a = suc m * up e * down e in
    let p : 0 < a = mul-pos (mul-pos (zero-lt-suc m) (up_pos e)) (down_pos e) in
    ap (λ (t : Bool). cond t (cond (eqb (suc m) 0) nan (inf false)) (round binary64 false a a)) (eqb-suc-zero m)
    ∙ round_same binary64 false a a 1 1 p (zero-lt-suc 0) (mul_comm a 1)
    ∙ one-is

once : nearest_away (mul binary64 one64 e11) ≡ 10 ^ 11
unfolding nearest_away mul
once = refl

pub rank-hi : (lo hi : Float) → Between hi lo hi → rank_value hi lo hi ≡ 10 ^ 11
unfolding rank_value
rank-hi lo hi h = ap (λ (v : Float). nearest_away (mul binary64 v e11)) (div_self (G hi lo hi h) (sub binary64 hi lo) (G-pos hi lo hi h) (rounded-up (sub binary64 hi lo) (E hi lo hi h) (bottom hi lo hi h)) (bottom-least hi lo hi h)) ∙ once

-- ---- above hi: an infinity, or B units at least
abbrev Reaches : ℕ → Float → Type 0
Reaches B nan = ⊥
Reaches B (inf s) = s ≡ false
Reaches B (fin true m e) = ⊥
Reaches B (fin false m e) = B * down e ≤ m * up e * 2 ^ 1074

round-reaches : (a c q j : ℕ) → 0 < c → q < 2 ^ 53 → q * 2 ^ j < 2 ^ 2098 → q * 2 ^ j * c ≤ a * 2 ^ 1074 → Reaches (q * 2 ^ j) (round binary64 false a c)
round-reaches a c q j C s u h = of (round binary64 false a c) (round-signed binary64 false a c) (λ f. round_val binary64 a c (round_under binary64 a c f))
  where
    g : q * 2 ^ j ≤ grid binary64 a c
    g = le_trans (le_of_eq (sym (grid-exact q j s u))) (grid_mono (q * 2 ^ j) (2 ^ 1074) a c (pow_pos 1074) C h)

    of : (v : Float) → Signed false v → (T (finite v) → HasValue v false (grid binary64 a c) (2 ^ 1074)) → Reaches (q * 2 ^ j) v
    of nan n f = n
    of (inf t) n f = n
    of (fin true m e) n f = absurd (true≢false n)
    of (fin false m e) n f = le_trans (mul-le-mul_right (down e) g) (le_of_eq (sym (f tt).1))

div-reaches : (B : ℕ) (x y : Float) → 0 < B → Up x → AtLeast B x → Up y → AtLeast B y → Within B y → Reaches (1 * 2 ^ 1074) (div binary64 x y)
unfolding div
div-reaches B nan y b u h v k w = absurd h
div-reaches B (inf s) y b u h v k w = absurd h
div-reaches B (fin s m e) nan b u h v k w = absurd k
div-reaches B (fin s m e) (inf t) b u h v k w = absurd k
div-reaches B (fin s m e) (fin t zero d) b u h v k w = absurd (not-le_of_lt (mul-pos b (down_pos d)) (le_trans k (le_of_eq (ap (λ (z : ℕ). z * 2 ^ 1074) (zero-mul (up d)) ∙ zero-mul (2 ^ 1074)))))
div-reaches B (fin s m e) (fin true (suc n) d) b u h v k w = absurd (suc-zero n v)
div-reaches B (fin true m e) (fin false (suc n) d) b u h v k w = absurd (not-le_of_lt (mul-pos b (down_pos e)) (le_trans h (le_of_eq (ap (λ (z : ℕ). z * up e * 2 ^ 1074) u ∙ ap (λ (z : ℕ). z * 2 ^ 1074) (zero-mul (up e)) ∙ zero-mul (2 ^ 1074)))))
div-reaches B (fin false m e) (fin false (suc n) d) b u h v k w =
    subst (λ (t : Bool). Reaches (1 * 2 ^ 1074) (cond t (cond (eqb m 0) nan (inf false)) (round binary64 false (m * up e * down d) (suc n * up d * down e)))) (sym (eqb-suc-zero n))
    (round-reaches (m * up e * down d) (suc n * up d * down e) 1 1074 (mul-pos (mul-pos (zero-lt-suc n) (up_pos d)) (down_pos e)) (lit< tt) (lit< {m = 1 * 2 ^ 1074} {n = 2 ^ 2098} tt)
    (le_trans (le_of_eq (mul_comm (1 * 2 ^ 1074) (suc n * up d * down e))) (mul-le-mul_right (2 ^ 1074) (more (m * up e) (suc n * up d) (down e) (down d) (2 ^ 1074) (pow_pos 1074) h w))))
  where
    more : (x y c d L : ℕ) → 0 < L → B * c ≤ x * L → y * L ≤ B * d → y * c ≤ x * d
    more x y c d L l p q =
        le_of_mul-le-mul_right
        (le_trans (le_of_eq (mul_right_comm y c L))
        (le_trans (mul-le-mul_right c q)
        (le_trans (le_of_eq (mul_right_comm B d c))
        (le_trans (mul-le-mul_right d p) (le_of_eq (mul_right_comm x L d))))))
        l

mul-reaches : (x : Float) → Reaches (1 * 2 ^ 1074) x → Reaches (48828125 * 2 ^ 1085) (mul binary64 x e11)
unfolding mul
mul-reaches nan h = h
mul-reaches (inf true) h = absurd (true≢false h)
mul-reaches (inf false) h = refl
mul-reaches (fin true m e) h = absurd h
mul-reaches (fin false m e) h =
    round-reaches (m * up e * (48828125 * 2 ^ 11)) (down e * 1) 48828125 1085 (mul-pos (down_pos e) (zero-lt-suc 0)) (lit< tt) (lit< {m = 48828125 * 2 ^ 1085} {n = 2 ^ 2098} tt)
    (grown (m * up e) (down e) (2 ^ 1074) h)
  where
    grown : (x d L : ℕ) → L * d ≤ x * L → 48828125 * 2 ^ 11 * L * (d * 1) ≤ x * (48828125 * 2 ^ 11) * L
    grown x d L h = le_trans (le_of_eq (left d L)) (le_trans (mul-le-mul_right (48828125 * 2 ^ 11) h) (le_of_eq (right x L)))
      where
        left : (d L : ℕ) → 48828125 * 2 ^ 11 * L * (d * 1) ≡ L * d * (48828125 * 2 ^ 11)
        left d L = omega arith

        right : (x L : ℕ) → x * L * (48828125 * 2 ^ 11) ≡ x * (48828125 * 2 ^ 11) * L
        right x L = omega arith

away-reaches : (x : Float) → Reaches (48828125 * 2 ^ 1085) x → 10 ^ 11 ≤ nearest_away x
unfolding nearest_away
away-reaches nan h = absurd h
away-reaches (inf true) h = absurd (true≢false h)
away-reaches (inf false) h = lit≤ tt
away-reaches (fin true m e) h = absurd h
away-reaches (fin false m e) h =
    least (m * up e / down e) (leb (down e) (m * up e % down e * 2))
    ((le-div_iff_mul-le (down_pos e)).1 (le_of_mul-le-mul_right (le_trans (le_of_eq (mul_right_comm (10 ^ 11) (down e) (2 ^ 1074))) h) (pow_pos 1074)))
  where
    least : (n : ℕ) (t : Bool) → 10 ^ 11 ≤ n → 10 ^ 11 ≤ min (n + cond t 1 0) (2 ^ 64 - 1)
    least n true h = omega arith
    least n false h = omega arith

module _ (x lo hi : Float) (x-fits : T (fits binary64 x)) (x-in : within 20 x) (over : T (le hi x)) (h : Between hi lo hi) where
  lo-lt : spot lo < spot hi
  lo-lt = lt-spot (2 ^ 1094) (2 ^ 1094) lo hi h.lo-fits h.hi-fits h.lo-in h.hi-in h.apart

  hi-le : spot hi ≤ spot x
  hi-le = le-spot (2 ^ 1094) (2 ^ 1094) hi x h.hi-fits x-fits h.hi-in x-in over

  pub rank-above : 10 ^ 11 ≤ rank_value x lo hi
  unfolding rank_value E G
  rank-above =
      let D = spot x - spot lo in
      let g = G hi lo hi h in
      let r = sub-spot (2 ^ 1094) (2 ^ 1094) x lo x-fits h.lo-fits x-in h.lo-in (le_trans (le_of_lt lo-lt) hi-le) in
      let p : 0 < D = apart (spot lo) (spot hi) (spot x) lo-lt hi-le in
      let u = rounded-under (sub binary64 x lo) D r p (within-finite (2 ^ 1095) (sub binary64 x lo) (less_by 20 x lo (lit< tt) x-in h.lo-in)) in
      let l : g ≤ grid binary64 D (2 ^ 1074) = grid_mono (spot hi - spot lo) (2 ^ 1074) D (2 ^ 1074) (pow_pos 1074) (pow_pos 1074) (mul-le-mul_right (2 ^ 1074) (diff (spot lo) (spot hi) (spot x) hi-le)) in
      away-reaches (mul binary64 (share x lo hi) e11)
      (mul-reaches (share x lo hi)
      (div-reaches g (sub binary64 x lo) (sub binary64 hi lo) (G-pos hi lo hi h) (rounded-up (sub binary64 x lo) D r) (fewer g (grid binary64 D (2 ^ 1074)) (sub binary64 x lo) l (rounded-at-least (sub binary64 x lo) D r p u))
      (rounded-up (sub binary64 hi lo) (E hi lo hi h) (bottom hi lo hi h)) (bottom-least hi lo hi h) (top_in hi lo hi h)))
    where
      apart : (a b c : ℕ) → a < b → b ≤ c → 0 < c - a
      apart a b c h k = omega arith

      diff : (a b c : ℕ) → b ≤ c → b - a ≤ c - a
      diff a b c h = omega arith

      fewer : (B C : ℕ) (v : Float) → B ≤ C → AtLeast C v → AtLeast B v
      fewer B C nan h a = a
      fewer B C (inf s) h a = a
      fewer B C (fin s m e) h a = le_trans (mul-le-mul_right (down e) h) a
