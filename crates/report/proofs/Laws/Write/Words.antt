-- Words as bytes and back, sums of words, and rows of equal length. Assumes nothing.
use Rattle.std.proofs.Common.{◌≡◌, ℕ, zero, suc, ◌+◌, ◌*◌, ◌/◌, ◌%◌, ◌^◌, ◌<◌, ◌≤◌, List, [], ◌∷◌, ◌++◌, length, get_or, take, sym, refl, ap, ◌∙◌, inl, inr, mul-le-mul_right, arith, take_all, take-suc, get_or-append-add}
use native.Mathlib.Nat.{div-div-eq-div-mul}
use lib.ListN.{get_or-append}
use Rattle.mesh.proofs.Laws.Parts.{side}
use Rattle.report.specs.Bytes.{word_in, sum_of, listed}
use Rattle.report.specs.Write.{word_bytes, bytes_of, total_of, check_of, closed}
use Rattle.report.proofs.Laws.Listed.{length-listed}

-- ---- bytes

-- four bytes a word
pub bytes-length : (ws : List ℕ) → length (bytes_of ws) ≡ 4 * length ws
unfolding bytes_of
bytes-length [] = refl
bytes-length (w ∷ ws) = let l = bytes-length ws in omega arith

-- the bytes of words behind others
pub bytes-append : (a b : List ℕ) → bytes_of (a ++ b) ≡ bytes_of a ++ bytes_of b
unfolding bytes_of
bytes-append [] b = refl
bytes-append (w ∷ a) b = ap (λ (l : List ℕ). word_bytes w ++ l) (bytes-append a b)

-- four bytes make the word modulo 2^32
bytes_word : (w : ℕ) → w % 256 + 256 * (w / 256 % 256) + 65536 * (w / 65536 % 256) + 16777216 * (w / 16777216 % 256) ≡ w % 2 ^ 32
bytes_word w =
    let high = half (w / 65536) in
    let same : w / 65536 / 256 ≡ w / 16777216 = div-div-eq-div-mul w 65536 256 in
    let top : w / 65536 % 256 + 256 * (w / 16777216 % 256) ≡ w / 65536 % 65536 = rw same at high in
    sum (w % 256) (w / 256 % 256) (w / 65536 % 256) (w / 16777216 % 256) (w % 65536) (w / 65536 % 65536) (w % 2 ^ 32) (half w) top (whole w)
  where
    half : (n : ℕ) → n % 256 + 256 * (n / 256 % 256) ≡ n % 65536
    half n = omega arith

    cut : (x t : ℕ) → x < 2 ^ 32 → (x + 2 ^ 32 * t) % 2 ^ 32 ≡ x
    cut x t h = omega arith

    whole : (n : ℕ) → n % 65536 + 65536 * (n / 65536 % 65536) ≡ n % 2 ^ 32
    whole n =
        let e : n ≡ n % 65536 + 65536 * (n / 65536 % 65536) + 2 ^ 32 * (n / 65536 / 65536) = omega arith in
        sym (ap (λ (k : ℕ). k % 2 ^ 32) e ∙ cut (n % 65536 + 65536 * (n / 65536 % 65536)) (n / 65536 / 65536) (omega arith))

    sum : (a b c d l h n : ℕ) → a + 256 * b ≡ l → c + 256 * d ≡ h → l + 65536 * h ≡ n → a + 256 * b + 65536 * c + 16777216 * d ≡ n
    sum a b c d l h n e f g = omega arith

-- the word i of what is written is the word i, modulo 2^32
pub word_back : (ws : List ℕ) (i : ℕ) → word_in (bytes_of ws) i ≡ get_or ws i 0 % 2 ^ 32
unfolding word_in bytes_of
word_back [] i = refl
word_back (w ∷ ws) zero = bytes_word w
word_back (w ∷ ws) (suc i) =
    let s = bytes_of (w ∷ ws) in
    let at : (p q : ℕ) → p ≡ q → get_or s p 0 ≡ get_or s q 0 = λ p q e. ap (λ (k : ℕ). get_or s k 0) e in
    let a = at (4 * suc i) (suc (suc (suc (suc (4 * i))))) (omega arith) in
    let b = at (4 * suc i + 1) (suc (suc (suc (suc (4 * i + 1))))) (omega arith) in
    let c = at (4 * suc i + 2) (suc (suc (suc (suc (4 * i + 2))))) (omega arith) in
    let d = at (4 * suc i + 3) (suc (suc (suc (suc (4 * i + 3))))) (omega arith) in
    rw (a, b, c, d) (word_back ws i)

-- ---- sums

-- the sum of words behind others
pub total-append : (a b : List ℕ) → total_of (a ++ b) ≡ total_of a + total_of b
unfolding total_of
total-append [] b = omega arith
total-append (w ∷ a) b = let l = total-append a b in omega arith

-- words that are those of a list modulo 2^32 have its sum modulo 2^32
module _ (s : List ℕ) (i : ℕ) (ws : List ℕ) (same : (j : ℕ) → j < length ws → word_in s (i + j) ≡ get_or ws j 0 % 2 ^ 32) where
  sum-front : (n : ℕ) → n ≤ length ws → sum_of s i n % 2 ^ 32 ≡ total_of (take n ws) % 2 ^ 32
  unfolding sum_of total_of
  sum-front zero h = refl
  sum-front (suc n) h =
      let before = sum-front n (omega arith) in
      let word = same n (omega arith) in
      let last = ap total_of (take-suc ws n 0 (omega arith)) ∙ total-append (take n ws) (get_or ws n 0 ∷ []) in
      step (sum_of s i n) (total_of (take n ws)) (word_in s (i + n)) (get_or ws n 0) (total_of (take (suc n) ws)) before word last
    where
      step : (a b c d t : ℕ) → a % 2 ^ 32 ≡ b % 2 ^ 32 → c ≡ d % 2 ^ 32 → t ≡ b + (d + 0) → (a + c) % 2 ^ 32 ≡ t % 2 ^ 32
      step a b c d t e f g = omega arith

  pub sum_back : sum_of s i (length ws) % 2 ^ 32 ≡ total_of ws % 2 ^ 32
  sum_back = sum-front (length ws) (omega arith) ∙ ap (λ (l : List ℕ). total_of l % 2 ^ 32) (take_all (length ws) ws (omega arith))

-- "all 128 words add to 0 modulo 2^32"
pub closed-total : (front : List ℕ) → total_of (closed front) % 2 ^ 32 ≡ 0
unfolding closed total_of
closed-total front = let l = total-append front (check_of (total_of front) ∷ []) in zero-sum (total_of front) (total_of (front ++ (check_of (total_of front) ∷ []))) l
  where
    zero-sum : (n t : ℕ) → t ≡ n + (check_of n + 0) → t % 2 ^ 32 ≡ 0
    zero-sum n t e = omega arith

-- ---- rows of w places

-- the place j of the row k
pub listed_at : {A : Type 0} (row : ℕ → List A) (w : ℕ) (d : A) → ((k : ℕ) → length (row k) ≡ w) → (n k j : ℕ) → k < n → j < w
    → get_or (listed row n) (k * w + j) d ≡ get_or (row k) j d
unfolding listed
listed_at row w d size zero k j h g = absurd (never k h)
  where
    never : (k : ℕ) → k < 0 → ⊥
    never k h = omega arith
listed_at row w d size (suc n) k j h g = elim (side k n) [
  | inl l ↦ (let m = mul-le-mul_right w l in get_or-append (listed row n) (row n) d (k * w + j) (omega (arith, long n))) ∙ listed_at row w d size n k j l g
  | inr l ↦ (let e : k ≡ n = omega arith in
      let f : k * w + j ≡ length (listed row n) + j = ap (λ (x : ℕ). x * w + j) e ∙ ap (λ (x : ℕ). x + j) (sym (long n)) in
      ap (λ (x : ℕ). get_or (listed row n ++ row n) x d) f ∙ (get_or-append-add (listed row n) (row n) j d ∙ ap (λ (x : ℕ). get_or (row x) j d) (sym e)))
]
  where
    long : (n : ℕ) → length (listed row n) ≡ n * w
    long n = length-listed row w size n
