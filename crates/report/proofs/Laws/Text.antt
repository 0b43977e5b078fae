-- Text written from a place on, and decimal digits. Assumes nothing.
use Rattle.std.proofs.Common.{◌≡◌, ℕ, zero, suc, ◌+◌, ◌*◌, ◌/◌, ◌%◌, ◌^◌, ◌<◌, ◌≤◌, false, ltb, List, [], ◌∷◌, ◌++◌, length, get_or, take, set, sym, refl, ap, ◌∙◌, inl, inr, pow-suc, add-one, arith, length-append, length-take-le, take_all, take-suc, ltb-false, le-ltb, lt-ltb}
use lib.Seq.{sets}
use Rattle.mesh.proofs.Laws.Bools.{split}
use Rattle.report.specs.Table.{digits, decimal}
use Rattle.report.specs.inside.Written.{Written}

-- a text behind another
pub sets-append : (o : List ℕ) (p : ℕ) (a b : List ℕ) → sets o p (a ++ b) ≡ sets (sets o p a) (p + length a) b
sets-append o p [] b = let e : p ≡ p + 0 = omega arith in ap (λ (k : ℕ). sets o k b) e
sets-append o p (x ∷ a) b = let e : suc p + length a ≡ p + suc (length a) = omega arith in sets-append (set o p x) (suc p) a b ∙ ap (λ (k : ℕ). sets (sets (set o p x) (suc p) a) k b) e

-- one more byte of a text
pub sets_more : (o cur text : List ℕ) (p i b : ℕ) → i < length text → cur ≡ sets o p (take i text) → b ≡ get_or text i 0
    → set cur (p + i) b ≡ sets o p (take (i + 1) text)
sets_more o cur text p i b h e f =
    let l = length-take-le i text (omega arith) in
    let next : take (i + 1) text ≡ take i text ++ (b ∷ []) = rw add-one (take-suc text i 0 h ∙ ap (λ (u : ℕ). take i text ++ (u ∷ [])) (sym f)) in
    sym (ap (sets o p) next ∙ (sets-append o p (take i text) (b ∷ []) ∙ (ap (λ (k : ℕ). set (sets o p (take i text)) (p + k) b) l ∙ ap (λ (t : List ℕ). set t (p + i) b) (sym e))))

-- the whole text
pub sets-all : (o cur text : List ℕ) (p i : ℕ) → i ≡ length text → cur ≡ sets o p (take i text) → Written o cur p (p + i) text
sets-all o cur text p i e f = record { bytes = f ∙ ap (sets o p) (take_all i text (omega arith)); place = ap (λ (k : ℕ). p + k) e }

-- one text written behind another
pub written_then : {o m n : List ℕ} {p q r : ℕ} {a b : List ℕ} → Written o m p q a → Written m n q r b → Written o n p r (a ++ b)
written_then {o} {m} {n} {p} {q} {r} {a} {b} w u =
    let l = length-append a b in
    let x = w.place in
    let y = u.place in
    record {
      bytes = u.bytes ∙ (ap (λ (k : ℕ). sets m k b) x ∙ (ap (λ (t : List ℕ). sets t (p + length a) b) w.bytes ∙ sym (sets-append o p a b)));
      place = omega arith;
    }

-- ---- digits

-- how many digits are allowed does not matter, if they are enough
pub digits-enough : (k m n : ℕ) → n < k → n < m → digits k n ≡ digits m n
unfolding digits
digits-enough (suc k) (suc m) n h g = elim (split (ltb n 10)) [ inl t ↦ rw t | inr f ↦ rw f (ap (λ (l : List ℕ). l ++ ((48 + n % 10) ∷ [])) (digits-enough k m (n / 10) (smaller n k f h) (smaller n m f g))) ]
  where
    smaller : (n k : ℕ) → ltb n 10 ≡ false → n < suc k → n / 10 < k
    smaller n k f h = let t = ltb-false n 10 f in omega arith
digits-enough zero m n h g = absurd (never n h)
  where
    never : (n : ℕ) → n < 0 → ⊥
    never n h = omega arith
digits-enough (suc k) zero n h g = absurd (never n g)
  where
    never : (n : ℕ) → n < 0 → ⊥
    never n h = omega arith

-- one digit
pub decimal-one : (n : ℕ) → n < 10 → decimal n ≡ (48 + n) ∷ []
unfolding decimal digits
decimal-one n h = rw (lt-ltb n 10 h)

-- more than one
pub decimal-more : (n : ℕ) → 10 ≤ n → decimal n ≡ decimal (n / 10) ++ ((48 + n % 10) ∷ [])
unfolding decimal digits
decimal-more n h =
    let less : n / 10 < n = omega arith in
    rw (le-ltb n 10 h) (ap (λ (l : List ℕ). l ++ ((48 + n % 10) ∷ [])) (digits-enough n (suc (n / 10)) (n / 10) less (omega arith)))

-- a number of m + 1 digits at most
short : (m k n : ℕ) → n < 10 ^ suc m → length (digits k n) ≤ suc m
unfolding digits
short m zero n h = omega arith
short zero (suc k) n h = rw (lt-ltb n 10 h) (omega arith)
short (suc m) (suc k) n h =
    let p : 10 ^ suc (suc m) ≡ 10 ^ suc m * 10 = pow-suc 10 (suc m) in
    let l = short m k (n / 10) (omega arith) in
    let a = length-append (digits k (n / 10)) ((48 + n % 10) ∷ []) in
    elim (split (ltb n 10)) [ inl t ↦ rw t (omega arith) | inr f ↦ rw f (omega arith) ]

-- at most 20 digits below 10^20, as in every word of 64 bits
pub decimal-short : (n : ℕ) → n < 100000000000000000000 → length (decimal n) ≤ 20
unfolding decimal
decimal-short n h = short 19 (suc n) n h

-- a number of one digit, written
pub written_one : (o new : List ℕ) (p n b : ℕ) → n < 10 → b ≡ 48 + n → new ≡ set o p b → Written o new p (p + 1) (decimal n)
written_one o new p n b h e f = rw (decimal-one n h) (record { bytes = f ∙ ap (set o p) e; place = refl })

-- a number of more digits, written: the last digit behind the others
pub written-more : (o m new : List ℕ) (p q n b : ℕ) → 10 ≤ n → Written o m p q (decimal (n / 10)) → b ≡ 48 + n % 10 → new ≡ set m q b
    → Written o new p (q + 1) (decimal n)
written-more o m new p q n b h w e f =
    let last : Written m new q (q + 1) ((48 + n % 10) ∷ []) = record { bytes = f ∙ ap (set m q) e; place = refl } in
    rw (decimal-more n h) (written_then w last)
