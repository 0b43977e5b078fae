-- `lt` is transitive for all values, NaN and infinities too; and the smaller of two is above nothing that the first is not above. Assumes nothing.
use Rattle.std.proofs.Common.{◌≡◌, ℕ, zero, suc, ◌+◌, ◌*◌, ◌<◌, Bool, true, false, cond, sym, refl, ◌∙◌, true≢false, zero-le, le_trans, le_of_eq, lt_of_lt_of_le, lt_of_le_of_lt, le_of_lt, lt_irrefl, mul-le-mul_right, zero-lt-suc, lt_of_mul-lt-mul_right, mul-lt-mul_of_pos_right, mul-pos, zero-mul, mul_right_comm, arith, ltb-true, lt-ltb}
use lib.Ieee.{Float, nan, inf, fin, up, down, lt, below}
use lib.Ieee.Fits.{down_pos}
use Rattle.geometry.specs.Float.{smaller}

-- ---- fractions

-- three fractions: x / p < y / q < z / r
less : (x y z p q r : ℕ) → 0 < r → x * q < y * p → y * r < z * q → x * r < z * p
less x y z p q r R h k =
    lt_of_mul-lt-mul_right q
    (lt_of_le_of_lt (le_of_eq (mul_right_comm x r q))
    (lt_of_lt_of_le (mul-lt-mul_of_pos_right h R)
    (le_trans (le_of_eq (mul_right_comm y p r))
    (le_trans (mul-le-mul_right p (le_of_lt k)) (le_of_eq (mul_right_comm z q p))))))

-- a fraction above 0 is above 0 over any denominator
positive : (b x q p : ℕ) → b < x * q → 0 < p → 0 < x * p
positive b zero q p h P = absurd (lt_irrefl 0 (lt_of_le_of_lt zero-le (lt_of_lt_of_le h (le_of_eq (zero-mul q)))))
positive b (suc x) q p h P = mul-pos (zero-lt-suc x) P

-- a sum with a part above 0
first : (a b : ℕ) → 0 < a → 0 < a + b
first a b h = omega arith

second : (a b : ℕ) → 0 < b → 0 < a + b
second a b h = omega arith

-- ---- the order

no : {A : Type 0} → false ≡ true → A
no h = absurd (true≢false (sym h))

-- three fractions with their signs
signs : (s t u : Bool) (x y z p q r : ℕ) → 0 < p → 0 < r → below s (x * q) t (y * p) ≡ true → below t (y * r) u (z * q) ≡ true → below s (x * r) u (z * p) ≡ true
signs false false false x y z p q r P R h k = lt-ltb (x * r) (z * p) (less x y z p q r R (ltb-true (x * q) (y * p) h) (ltb-true (y * r) (z * q) k))
signs false false true x y z p q r P R h k = no k
signs false true u x y z p q r P R h k = no h
signs true false false x y z p q r P R h k = lt-ltb 0 (x * r + z * p) (second (x * r) (z * p) (positive (y * r) z q p (ltb-true (y * r) (z * q) k) P))
signs true false true x y z p q r P R h k = no k
signs true true false x y z p q r P R h k = lt-ltb 0 (x * r + z * p) (first (x * r) (z * p) (positive (y * p) x q r (ltb-true (y * p) (x * q) h) R))
signs true true true x y z p q r P R h k = lt-ltb (z * p) (x * r) (less z y x r q p P (ltb-true (z * q) (y * r) k) (ltb-true (y * p) (x * q) h))

pub lt_trans : (x y z : Float) → lt x y ≡ true → lt y z ≡ true → lt x z ≡ true
unfolding lt
lt_trans nan y z h k = no h
lt_trans (inf s) nan z h k = no h
lt_trans (inf true) (inf true) z h k = no h
lt_trans (inf true) (inf false) nan h k = no k
lt_trans (inf true) (inf false) (inf t) h k = no k
lt_trans (inf true) (inf false) (fin t n d) h k = no k
lt_trans (inf false) (inf t) z h k = no h
lt_trans (inf s) (fin t n d) nan h k = no k
lt_trans (inf true) (fin t n d) (inf u) h k = k
lt_trans (inf false) (fin t n d) (inf u) h k = no h
lt_trans (inf s) (fin t n d) (fin u o g) h k = h
lt_trans (fin s m e) nan z h k = no h
lt_trans (fin s m e) (inf true) z h k = no h
lt_trans (fin s m e) (inf false) nan h k = no k
lt_trans (fin s m e) (inf false) (inf t) h k = no k
lt_trans (fin s m e) (inf false) (fin t n d) h k = no k
lt_trans (fin s m e) (fin t n d) nan h k = no k
lt_trans (fin s m e) (fin t n d) (inf u) h k = k
lt_trans (fin s m e) (fin t n d) (fin u o g) h k = signs s t u (m * up e) (n * up d) (o * up g) (down e) (down d) (down g) (down_pos e) (down_pos g) h k

-- ---- the smaller of two

-- where x is not below m, it is not below the smaller of m and s
pub not-below-smaller : (x m s : Float) → lt x m ≡ false → lt x (smaller m s) ≡ false
not-below-smaller x m s h = go (lt s m) refl
  where
    not-below : (b : Bool) → lt s m ≡ true → lt x s ≡ b → b ≡ false
    not-below true e f = sym (lt_trans x s m f e) ∙ h
    not-below false e f = refl

    go : (b : Bool) → lt s m ≡ b → lt x (cond b s m) ≡ false
    go true e = not-below (lt x s) e refl
    go false e = h
