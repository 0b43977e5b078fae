-- Values that are equal but for the sign of a zero, and negation: y - x is the negation of x - y in that sense, and so on through products and sums. Assumes nothing.
use Rattle.std.proofs.Common.{◌≡◌, ℕ, zero, suc, ◌+◌, ◌-◌, ◌*◌, ◌<◌, ◌≤◌, Bool, true, false, cond, not, eqb, ltb, ◌⊎◌, ℤ, sym, refl, ap, ◌∙◌, subst, inl, inr, zero-le, add-zero, le_of_lt, lt_irrefl, zero-lt-suc, mul_comm, add_comm, le_antisymm, mul-pos, mul-zero, zero-mul, not-le_of_lt, arith, lit<, ltb-false, ltb-true, le-ltb}
use Rattle.geometry.specs.Float.{zero64}
use lib.Ieee.Exact.{HasValue, round_exact}
use lib.Ieee.{Float, nan, inf, fin, binary64, up, down, unlike, round, sum, neg, add, sub, mul, lt}
use lib.Ieee.Fits.{up_pos, down_pos}
use Rattle.geometry.proofs.Laws.Float.Sign.{round-neg}

-- equal, or two zeros
abbrev pub Same : Float → Float → Type 0
Same nan y = y ≡ nan
Same (inf s) y = y ≡ inf s
Same (fin s m e) nan = ⊥
Same (fin s m e) (inf t) = ⊥
Same (fin s m e) (fin t n d) = (m ≡ n) × (e ≡ d) × ((s ≡ t) ⊎ (m ≡ 0))

pub same_refl : (x : Float) → Same x x
same_refl nan = refl
same_refl (inf s) = refl
same_refl (fin s m e) = (refl, refl, inl refl)

pub same-path : {x y : Float} → x ≡ y → Same x y
same-path {x} p = subst (λ (z : Float). Same x z) p (same_refl x)

pub same-sym : (x y : Float) → Same x y → Same y x
same-sym nan y h = same-path h
same-sym (inf s) y h = same-path h
same-sym (fin s m e) nan h = absurd h
same-sym (fin s m e) (inf t) h = absurd h
same-sym (fin s m e) (fin t n d) h = (sym h.0, sym h.1, elim h.2 [ inl p ↦ inl (sym p) | inr z ↦ inr (sym h.0 ∙ z) ])

pub same-trans : (x y z : Float) → Same x y → Same y z → Same x z
same-trans nan y z h k = subst (λ (w : Float). Same w z) h k
same-trans (inf s) y z h k = subst (λ (w : Float). Same w z) h k
same-trans (fin s m e) nan z h k = absurd h
same-trans (fin s m e) (inf t) z h k = absurd h
same-trans (fin s m e) (fin t n d) nan h k = absurd k
same-trans (fin s m e) (fin t n d) (inf u) h k = absurd k
same-trans (fin s m e) (fin t n d) (fin u o g) h k = (
  h.0 ∙ k.0,
  h.1 ∙ k.1,
  elim h.2 [ inl p ↦ elim k.2 [ inl q ↦ inl (p ∙ q) | inr z ↦ inr (h.0 ∙ z) ] | inr z ↦ inr z ],
)

pub neg-neg : (x : Float) → neg (neg x) ≡ x
unfolding neg
neg-neg nan = refl
neg-neg (inf true) = refl
neg-neg (inf false) = refl
neg-neg (fin true m e) = refl
neg-neg (fin false m e) = refl

pub same-neg : (x y : Float) → Same x y → Same (neg x) (neg y)
unfolding neg
same-neg nan y h = ap neg h
same-neg (inf s) y h = ap neg h
same-neg (fin s m e) nan h = absurd h
same-neg (fin s m e) (inf t) h = absurd h
same-neg (fin s m e) (fin t n d) h = (h.0, h.1, elim h.2 [ inl p ↦ inl (ap not p) | inr z ↦ inr z ])

-- ---- 0 / c rounds to a zero, whose sign does not count
pub zero_of : (m u c d : ℕ) → 0 < u → 0 < c → m * u * c ≡ 0 * d → m ≡ 0
zero_of zero u c d U C h = refl
zero_of (suc m) u c d U C h = absurd (lt_irrefl 0 (subst (λ (z : ℕ). 0 < z) (h ∙ zero-mul d) (mul-pos (mul-pos (zero-lt-suc m) U) C)))

zero-mirror : (v : Float) (s : Bool) (c : ℕ) → 0 < c → HasValue v s 0 c → Same v (neg v)
unfolding neg
zero-mirror nan s c C h = absurd h
zero-mirror (inf t) s c C h = absurd h
zero-mirror (fin t m e) s c C h = (refl, refl, inr (zero_of m (up e) c (down e) (up_pos e) C h.1))

round-zero : (s : Bool) (c : ℕ) → 0 < c → Same (round binary64 s 0 c) (round binary64 (not s) 0 c)
round-zero s c C =
    subst (λ (z : Float). Same (round binary64 s 0 c) z) (sym (round-neg binary64 s 0 c))
    (zero-mirror (round binary64 s 0 c) s c C (round_exact binary64 s 0 c 0 0 C (lit< tt) (lit< tt) (sym (zero-mul c))))

pub round-any : (s t : Bool) (a c : ℕ) → 0 < c → a ≡ 0 → Same (round binary64 s a c) (round binary64 t a c)
round-any s t a c C z = subst (λ (x : ℕ). Same (round binary64 s x c) (round binary64 t x c)) (sym z) (go s t)
  where
    go : (s t : Bool) → Same (round binary64 s 0 c) (round binary64 t 0 c)
    go true true = same_refl (round binary64 true 0 c)
    go true false = round-zero true c C
    go false true = round-zero false c C
    go false false = same_refl (round binary64 false 0 c)

-- ---- a sum the other way round
both-less : (a b : ℕ) → ltb a b ≡ true → ltb b a ≡ true → ⊥
both-less a b h k = not-le_of_lt (ltb-true a b h) (le_of_lt (ltb-true b a k))

neither : (a b : ℕ) → ltb a b ≡ false → ltb b a ≡ false → a ≡ b
neither a b h k = le_antisymm (ltb-false b a k) (ltb-false a b h)

pub none_left : (a b : ℕ) → a ≡ b → a - b ≡ 0
none_left a b e = omega arith

swap-tf : (a b c : ℕ) → sum binary64 true a false b c ≡ sum binary64 false b true a c
unfolding sum
swap-tf a b c = go (ltb a b) (ltb b a) refl refl
  where
    go : (x y : Bool) → ltb a b ≡ x → ltb b a ≡ y → cond x (round binary64 false (b - a) c) (round binary64 y (a - b) c) ≡ cond y (round binary64 true (a - b) c) (round binary64 false (b - a) c)
    go true true p q = absurd (both-less a b p q)
    go true false p q = refl
    go false true p q = refl
    go false false p q = ap (λ (z : ℕ). round binary64 false z c) (none_left a b (neither a b p q) ∙ sym (none_left b a (sym (neither a b p q))))

swap-same : (s : Bool) (a b c : ℕ) → sum binary64 s a s b c ≡ sum binary64 s b s a c
unfolding sum
swap-same true a b c = ap (λ (z : ℕ). round binary64 true z c) (add_comm a b)
swap-same false a b c = ap (λ (z : ℕ). round binary64 false z c) (add_comm a b)

sum_comm : (s : Bool) (a : ℕ) (t : Bool) (b c : ℕ) → sum binary64 s a t b c ≡ sum binary64 t b s a c
sum_comm true a true b c = swap-same true a b c
sum_comm true a false b c = swap-tf a b c
sum_comm false a true b c = sym (swap-tf b a c)
sum_comm false a false b c = swap-same false a b c

pub add-comm-f : (x y : Float) → add binary64 x y ≡ add binary64 y x
unfolding add
add-comm-f nan nan = refl
add-comm-f nan (inf t) = refl
add-comm-f nan (fin t n d) = refl
add-comm-f (inf s) nan = refl
add-comm-f (inf true) (inf true) = refl
add-comm-f (inf true) (inf false) = refl
add-comm-f (inf false) (inf true) = refl
add-comm-f (inf false) (inf false) = refl
add-comm-f (inf s) (fin t n d) = refl
add-comm-f (fin s m e) nan = refl
add-comm-f (fin s m e) (inf t) = refl
add-comm-f (fin s m e) (fin t n d) =
    ap (λ (z : ℕ). sum binary64 s (m * up e * down d) t (n * up d * down e) z) (mul_comm (down e) (down d))
    ∙ sum_comm s (m * up e * down d) t (n * up d * down e) (down d * down e)

-- ---- the negations' sum
sum-neg : (s : Bool) (a : ℕ) (t : Bool) (b c : ℕ) → 0 < c → Same (sum binary64 (not s) a (not t) b c) (neg (sum binary64 s a t b c))
unfolding sum
sum-neg true a true b c C = same-path (round-neg binary64 true (a + b) c)
sum-neg false a false b c C = same-path (round-neg binary64 false (a + b) c)
sum-neg true a false b c C = go (ltb a b) (ltb b a) refl refl
  where
    go : (x y : Bool) → ltb a b ≡ x → ltb b a ≡ y → Same (cond x (round binary64 true (b - a) c) (round binary64 false (a - b) c)) (neg (cond x (round binary64 false (b - a) c) (round binary64 y (a - b) c)))
    go true y p q = same-path (round-neg binary64 false (b - a) c)
    go false true p q = same-path (round-neg binary64 true (a - b) c)
    go false false p q = subst (λ (z : Float). Same (round binary64 false (a - b) c) z) (round-neg binary64 false (a - b) c) (round-any false true (a - b) c C (none_left a b (neither a b p q)))
sum-neg false a true b c C = go (ltb a b) (ltb b a) refl refl
  where
    go : (x y : Bool) → ltb a b ≡ x → ltb b a ≡ y → Same (cond x (round binary64 false (b - a) c) (round binary64 y (a - b) c)) (neg (cond x (round binary64 true (b - a) c) (round binary64 false (a - b) c)))
    go true y p q = same-path (round-neg binary64 true (b - a) c)
    go false true p q = same-path (round-neg binary64 false (a - b) c)
    go false false p q = subst (λ (z : Float). Same (round binary64 false (a - b) c) z) (round-neg binary64 false (a - b) c) (round-any false true (a - b) c C (none_left a b (neither a b p q)))

pub add-neg : (x y : Float) → Same (add binary64 (neg x) (neg y)) (neg (add binary64 x y))
unfolding add neg
add-neg nan y = refl
add-neg (inf s) nan = refl
add-neg (inf true) (inf true) = refl
add-neg (inf true) (inf false) = refl
add-neg (inf false) (inf true) = refl
add-neg (inf false) (inf false) = refl
add-neg (inf s) (fin t n d) = refl
add-neg (fin s m e) nan = refl
add-neg (fin s m e) (inf t) = refl
add-neg (fin s m e) (fin t n d) = sum-neg s (m * up e * down d) t (n * up d * down e) (down e * down d) (mul-pos (down_pos e) (down_pos d))

-- ---- a zero's sign does not count in a sum
sum-zero : (s : Bool) (a : ℕ) (t : Bool) (b c : ℕ) → 0 < c → a ≡ 0 → Same (sum binary64 s a t b c) (round binary64 t b c)
unfolding sum
sum-zero true a true b c C z = same-path (ap (λ (w : ℕ). round binary64 true w c) (gone a b z))
  where
    gone : (a b : ℕ) → a ≡ 0 → a + b ≡ b
    gone a b z = omega arith
sum-zero false a false b c C z = same-path (ap (λ (w : ℕ). round binary64 false w c) (gone a b z))
  where
    gone : (a b : ℕ) → a ≡ 0 → a + b ≡ b
    gone a b z = omega arith
sum-zero true a false b c C z = go (ltb a b) refl
  where
    all : (a b : ℕ) → a ≡ 0 → b - a ≡ b
    all a b z = omega arith

    nil : (a b : ℕ) → a ≡ 0 → b ≤ a → (a - b ≡ b) × (b ≡ 0)
    nil a b z h = omega arith

    go : (x : Bool) → ltb a b ≡ x → Same (cond x (round binary64 false (b - a) c) (round binary64 (ltb b a) (a - b) c)) (round binary64 false b c)
    go true p = same-path (ap (λ (w : ℕ). round binary64 false w c) (all a b z))
    go false p = let k = nil a b z (ltb-false a b p) in subst (λ (w : ℕ). Same (round binary64 (ltb b a) w c) (round binary64 false b c)) (sym k.0) (round-any (ltb b a) false b c C k.1)
sum-zero false a true b c C z = go (ltb a b) refl
  where
    all : (a b : ℕ) → a ≡ 0 → b - a ≡ b
    all a b z = omega arith

    nil : (a b : ℕ) → a ≡ 0 → b ≤ a → (a - b ≡ b) × (b ≡ 0)
    nil a b z h = omega arith

    go : (x : Bool) → ltb a b ≡ x → Same (cond x (round binary64 true (b - a) c) (round binary64 false (a - b) c)) (round binary64 true b c)
    go true p = same-path (ap (λ (w : ℕ). round binary64 true w c) (all a b z))
    go false p = let k = nil a b z (ltb-false a b p) in subst (λ (w : ℕ). Same (round binary64 false w c) (round binary64 true b c)) (sym k.0) (round-any false true b c C k.1)

pub zeroed : (m u d : ℕ) → m ≡ 0 → m * u * d ≡ 0
zeroed m u d e = ap (λ (z : ℕ). z * u * d) e ∙ ap (λ (z : ℕ). z * d) (zero-mul u) ∙ zero-mul d

same-add-zero : (s t : Bool) (m : ℕ) (e : ℤ) (y : Float) → m ≡ 0 → Same (add binary64 (fin s m e) y) (add binary64 (fin t m e) y)
unfolding add
same-add-zero s t m e nan z = refl
same-add-zero s t m e (inf u) z = refl
same-add-zero s t m e (fin u n d) z =
    let a = m * up e * down d in
    let b = n * up d * down e in
    let c = down e * down d in
    let C = mul-pos (down_pos e) (down_pos d) in
    same-trans (sum binary64 s a u b c) (round binary64 u b c) (sum binary64 t a u b c) (sum-zero s a u b c C (zeroed m (up e) (down d) z))
    (same-sym (sum binary64 t a u b c) (round binary64 u b c) (sum-zero t a u b c C (zeroed m (up e) (down d) z)))

pub same-add-left : (x x' y : Float) → Same x x' → Same (add binary64 x y) (add binary64 x' y)
same-add-left nan x' y h = same-path (ap (λ (z : Float). add binary64 z y) (sym h))
same-add-left (inf s) x' y h = same-path (ap (λ (z : Float). add binary64 z y) (sym h))
same-add-left (fin s m e) nan y h = absurd h
same-add-left (fin s m e) (inf t) y h = absurd h
same-add-left (fin s m e) (fin t n d) y h =
    let p : fin t m e ≡ fin t n d = λ i. fin t (h.0 i) (h.1 i) in
    subst (λ (z : Float). Same (add binary64 (fin s m e) y) (add binary64 z y)) p
    (elim h.2 [ inl q ↦ same-path (ap (λ (b : Bool). add binary64 (fin b m e) y) q) | inr z ↦ same-add-zero s t m e y z ])

pub same_add : (x x' y y' : Float) → Same x x' → Same y y' → Same (add binary64 x y) (add binary64 x' y')
same_add x x' y y' h k =
    same-trans (add binary64 x y) (add binary64 x' y) (add binary64 x' y') (same-add-left x x' y h)
    (subst (λ (z : Float). Same z (add binary64 x' y')) (add-comm-f y x') (subst (λ (z : Float). Same (add binary64 y x') z) (add-comm-f y' x') (same-add-left y y' x' k)))

-- y - x is the negation of x - y
sub_is : (x y : Float) → sub binary64 x y ≡ add binary64 x (neg y)
unfolding sub
sub_is x y = refl

pub sub-mirror : (x y : Float) → Same (sub binary64 y x) (neg (sub binary64 x y))
sub-mirror x y =
    subst (λ (z : Float). Same z (neg (sub binary64 x y))) (sym (sub_is y x ∙ add-comm-f y (neg x) ∙ ap (λ (z : Float). add binary64 (neg x) z) (sym (neg-neg y))))
    (subst (λ (z : Float). Same (add binary64 (neg x) (neg (neg y))) (neg z)) (sym (sub_is x y)) (add-neg x (neg y)))

-- ---- products
unlike-comm : (s t : Bool) → unlike s t ≡ unlike t s
unlike-comm true true = refl
unlike-comm true false = refl
unlike-comm false true = refl
unlike-comm false false = refl

unlike-not : (s t : Bool) → unlike s (not t) ≡ not (unlike s t)
unlike-not true true = refl
unlike-not true false = refl
unlike-not false true = refl
unlike-not false false = refl

cond-neg : (b : Bool) (x : Float) → cond b nan (neg x) ≡ neg (cond b nan x)
unfolding neg
cond-neg true x = refl
cond-neg false x = refl

pub mul-comm-f : (x y : Float) → mul binary64 x y ≡ mul binary64 y x
unfolding mul
mul-comm-f nan nan = refl
mul-comm-f nan (inf t) = refl
mul-comm-f nan (fin t n d) = refl
mul-comm-f (inf s) nan = refl
mul-comm-f (inf s) (inf t) = ap (λ (b : Bool). inf b) (unlike-comm s t)
mul-comm-f (inf s) (fin t n d) = ap (λ (b : Bool). cond (eqb n 0) nan (inf b)) (unlike-comm s t)
mul-comm-f (fin s m e) nan = refl
mul-comm-f (fin s m e) (inf t) = ap (λ (b : Bool). cond (eqb m 0) nan (inf b)) (unlike-comm s t)
mul-comm-f (fin s m e) (fin t n d) = λ i. round binary64 (unlike-comm s t i) (mul_comm (m * up e) (n * up d) i) (mul_comm (down e) (down d) i)

pub mul-neg : (x y : Float) → mul binary64 x (neg y) ≡ neg (mul binary64 x y)
unfolding mul neg
mul-neg nan y = refl
mul-neg (inf s) nan = refl
mul-neg (inf s) (inf t) = ap (λ (b : Bool). inf b) (unlike-not s t)
mul-neg (inf s) (fin t n d) = ap (λ (b : Bool). cond (eqb n 0) nan (inf b)) (unlike-not s t) ∙ cond-neg (eqb n 0) (inf (unlike s t))
mul-neg (fin s m e) nan = refl
mul-neg (fin s m e) (inf t) = ap (λ (b : Bool). cond (eqb m 0) nan (inf b)) (unlike-not s t) ∙ cond-neg (eqb m 0) (inf (unlike s t))
mul-neg (fin s m e) (fin t n d) = ap (λ (b : Bool). round binary64 b (m * up e * (n * up d)) (down e * down d)) (unlike-not s t) ∙ round-neg binary64 (unlike s t) (m * up e * (n * up d)) (down e * down d)

mul-zero-same : (x : Float) (s t : Bool) (n : ℕ) (d : ℤ) → n ≡ 0 → Same (mul binary64 x (fin s n d)) (mul binary64 x (fin t n d))
unfolding mul
mul-zero-same nan s t n d z = refl
mul-zero-same (inf u) s t n d z = same-path (ap (λ (k : ℕ). cond (eqb k 0) nan (inf (unlike u s))) z ∙ sym (ap (λ (k : ℕ). cond (eqb k 0) nan (inf (unlike u t))) z))
mul-zero-same (fin u m e) s t n d z =
    round-any (unlike u s) (unlike u t) (m * up e * (n * up d)) (down e * down d) (mul-pos (down_pos e) (down_pos d)) (ap (λ (k : ℕ). m * up e * (k * up d)) z ∙ ap (λ (k : ℕ). m * up e * k) (zero-mul (up d)) ∙ mul-zero (m * up e))

pub same-mul : (x y y' : Float) → Same y y' → Same (mul binary64 x y) (mul binary64 x y')
same-mul x nan y' h = same-path (ap (λ (z : Float). mul binary64 x z) (sym h))
same-mul x (inf s) y' h = same-path (ap (λ (z : Float). mul binary64 x z) (sym h))
same-mul x (fin s m e) nan h = absurd h
same-mul x (fin s m e) (inf t) h = absurd h
same-mul x (fin s m e) (fin t n d) h =
    let p : fin t m e ≡ fin t n d = λ i. fin t (h.0 i) (h.1 i) in
    subst (λ (z : Float). Same (mul binary64 x (fin s m e)) (mul binary64 x z)) p
    (elim h.2 [ inl q ↦ same-path (ap (λ (b : Bool). mul binary64 x (fin b m e)) q) | inr z ↦ mul-zero-same x s t m e z ])

-- ---- the tests against 0
zero-side : (s : Bool) (m : ℕ) (e : ℤ) → m ≡ 0 → lt zero64 (fin s m e) ≡ false
unfolding lt
zero-side true m e z = refl
zero-side false m e z = ap (λ (k : ℕ). ltb (0 * down e) k) (zeroed m (up e) 1 z) ∙ ap (λ (k : ℕ). ltb k 0) (zero-mul (down e))

pub same_test : (x y : Float) → Same x y → lt zero64 x ≡ lt zero64 y
same_test nan y h = ap (lt zero64) (sym h)
same_test (inf s) y h = ap (lt zero64) (sym h)
same_test (fin s m e) nan h = absurd h
same_test (fin s m e) (inf t) h = absurd h
same_test (fin s m e) (fin t n d) h =
    elim h.2 [
      | inl q ↦ λ i. lt zero64 (fin (q i) (h.0 i) (h.1 i))
      | inr z ↦ zero-side s m e z ∙ sym (zero-side t n d (sym h.0 ∙ z))
    ]

pub neg-test : (x : Float) → lt zero64 (neg x) ≡ lt x zero64
unfolding lt neg
neg-test nan = refl
neg-test (inf true) = refl
neg-test (inf false) = refl
neg-test (fin true m e) = ap (λ (k : ℕ). ltb k (m * up e * 1)) (zero-mul (down e)) ∙ ap (λ (k : ℕ). ltb 0 k) (sym (ap (λ (k : ℕ). m * up e * 1 + k) (zero-mul (down e)) ∙ add-zero (m * up e * 1)))
neg-test (fin false m e) = sym (le-ltb (m * up e * 1) (0 * down e) (subst (λ (k : ℕ). k ≤ m * up e * 1) (sym (zero-mul (down e))) zero-le))

-- y is -x but for a zero's sign: y is above 0 exactly where x is below
pub opposite : (x y : Float) → Same y (neg x) → lt zero64 y ≡ lt x zero64
opposite x y h = same_test y (neg x) h ∙ neg-test x
