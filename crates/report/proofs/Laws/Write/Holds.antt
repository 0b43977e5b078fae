-- Words that a file holds from a place on: parts of them, rows of them, and the floats that they make; and, the other way, what a file
-- holds that has the parts, the rows, the floats. Assumes nothing.
use Rattle.std.proofs.Common.{◌≡◌, ℕ, zero, suc, ◌+◌, ◌-◌, ◌*◌, ◌%◌, ◌^◌, ◌<◌, true, false, T, List, [], ◌∷◌, ◌++◌, length, get_or, sym, refl, ap, ◌∙◌, subst, ap₂, inl, inr, mul-le-mul_right, mod-eq_of_lt, arith, length-append, get_or-append-add}
use native.Mathlib.Nat.{mod-mod}
use lib.Ieee.{Float, binary64, fits, is_nan, to_bits}
use lib.Ieee.Bits.{nan_bits_is}
use lib.ListN.{length-replicate, get_or-append}
use Rattle.geometry.specs.declared.point.Point.{Point}
use Rattle.geometry.specs.Word.{from_words, low_word, high_word}
use Rattle.geometry.proofs.Laws.Word.Words.{words-value, high_lt, low-back, high-back}
use Rattle.mesh.specs.Words.{zero_words}
use Rattle.mesh.proofs.Laws.Parts.{side, zero_word}
use Rattle.report.specs.Bytes.{word_in, float_in, sum_of, listed}
use Rattle.report.specs.Block.{zeros_from}
use Rattle.report.specs.Write.{total_of, float_words, point_words, check_of, closed, PointIsNumber}
use Rattle.report.proofs.Laws.Listed.{length-listed}
use Rattle.report.proofs.Laws.Spare.{zeros-word}
use Rattle.report.proofs.Laws.Write.Words.{listed_at, sum_back}

-- from the word `base` on the file s has these words, modulo 2^32
abbrev pub Holds : List ℕ → ℕ → List ℕ → Type 0
Holds s base ws = (m q : ℕ) → q ≡ base + m → m < length ws → word_in s q ≡ get_or ws m 0 % 2 ^ 32

module _ (s : List ℕ) where
  -- the first of two lists
  pub holds-left : (base : ℕ) (a b : List ℕ) → Holds s base (a ++ b) → Holds s base a
  holds-left base a b h m q e l =
      let n = length-append a b in
      h m q e (omega arith) ∙ ap (λ (w : ℕ). w % 2 ^ 32) (get_or-append a b 0 m l)

  -- the second
  pub holds-right : (base next : ℕ) (a b : List ℕ) → next ≡ base + length a → Holds s base (a ++ b) → Holds s next b
  holds-right base next a b f h m q e l =
      let n = length-append a b in
      h (length a + m) q (omega arith) (omega arith) ∙ ap (λ (w : ℕ). w % 2 ^ 32) (get_or-append-add a b m 0)

  -- the row k
  pub holds_row : (base next : ℕ) (row : ℕ → List ℕ) (w n k : ℕ) → ((j : ℕ) → length (row j) ≡ w) → k < n → next ≡ base + k * w
      → Holds s base (listed row n) → Holds s next (row k)
  holds_row base next row w n k size l f h m q e g =
      let long = length-listed row w size n in
      let one = size k in
      let many = mul-le-mul_right w l in
      h (k * w + m) q (omega arith) (omega arith) ∙ ap (λ (v : ℕ). v % 2 ^ 32) (listed_at row w 0 size n k m l (omega arith))

  module _ (base : ℕ) (ws : List ℕ) (h : Holds s base ws) where
    -- a word
    pub word-at : (a q w : ℕ) → q ≡ base + a → a < length ws → get_or ws a 0 ≡ w → w < 2 ^ 32 → word_in s q ≡ w
    word-at a q w e l f g = h a q e l ∙ (ap (λ (v : ℕ). v % 2 ^ 32) f ∙ mod-eq_of_lt g)

    -- a float
    pub float-at : (a q : ℕ) (x : Float) → T (fits binary64 x) → q ≡ base + a → a + 1 < length ws → get_or ws a 0 ≡ low_word x → get_or ws (a + 1) 0 ≡ high_word x
        → float_in s q ≡ x
    unfolding float_in
    float-at a q x fit e l f g =
        ap₂ from_words
        (h a q e (omega arith) ∙ (ap (λ (v : ℕ). v % 2 ^ 32) f ∙ mod-mod (to_bits binary64 x) (2 ^ 32)))
        (word-at (a + 1) (q + 1) (high_word x) (omega arith) l g (high_lt x fit))
        ∙ words-value x fit

-- ---- the other way: what a file has is held

module _ (s : List ℕ) where
  -- the same words, the place by another name
  pub held_move : (base next : ℕ) (ws : List ℕ) → next ≡ base → Holds s base ws → Holds s next ws
  held_move base next ws f h m q e l = h m q (omega arith) l

  -- two lists, one behind the other
  pub held-append : (base next : ℕ) (a b : List ℕ) → next ≡ base + length a → Holds s base a → Holds s next b → Holds s base (a ++ b)
  held-append base next a b f g h m q e l = elim (side m (length a)) [
    | inl u ↦ g m q e u ∙ ap (λ (w : ℕ). w % 2 ^ 32) (sym (get_or-append a b 0 m u))
    | inr u ↦ (let n = length-append a b in
        let at : m ≡ length a + (m - length a) = omega arith in
        h (m - length a) q (omega arith) (omega arith)
        ∙ ap (λ (w : ℕ). w % 2 ^ 32) (sym (ap (λ (i : ℕ). get_or (a ++ b) i 0) at ∙ get_or-append-add a b (m - length a) 0)))
  ]

  -- n rows
  pub held_rows : (base : ℕ) (row : ℕ → List ℕ) (w : ℕ) → ((j : ℕ) → length (row j) ≡ w) → (n : ℕ)
      → ((k : ℕ) → k < n → Holds s (base + k * w) (row k)) → Holds s base (listed row n)
  unfolding listed
  held_rows base row w size zero h = λ m q e l. absurd (omega arith)
  held_rows base row w size (suc n) h =
      let long = length-listed row w size n in
      held-append base (base + n * w) (listed row n) (row n) (omega arith) (held_rows base row w size n (λ k l. h k (omega arith))) (h n (omega arith))

  -- zero words
  pub held-zeros : (base n : ℕ) → zeros_from s base n ≡ true → Holds s base (zero_words n)
  held-zeros base n h m q e l =
      let long = length-replicate {A = ℕ} n 0 in
      zeros-word s base n q h (omega arith) (omega arith) ∙ ap (λ (w : ℕ). w % 2 ^ 32) (sym (zero_word n m))

  module _ (small : (i : ℕ) → word_in s i < 2 ^ 32) where
    -- a word
    pub held_word : (base w : ℕ) → word_in s base ≡ w → Holds s base (w ∷ [])
    held_word base w e zero q f l = let at : q ≡ base = omega arith in ap (word_in s) at ∙ (e ∙ sym (mod-eq_of_lt (rw e at (small base))))
    held_word base w e (suc m) q f l = absurd (omega arith)

    -- the words that stand there
    pub held-words : (base n : ℕ) → Holds s base (listed (λ (j : ℕ). word_in s (base + j * 1) ∷ []) n)
    held-words base n =
        held_rows base (λ (j : ℕ). word_in s (base + j * 1) ∷ []) 1 (λ j. refl) n (λ j l. held_word (base + j * 1) (word_in s (base + j * 1)) refl)

    -- the float that stands there
    float-there : (i : ℕ) → is_nan (float_in s i) ≡ false → Holds s i (float_words (float_in s i))
    unfolding float_in
    float-there i number =
        let low = word_in s i in
        let high = word_in s (i + 1) in
        let pattern = nan_bits_is binary64 (low + 2 ^ 32 * high) ∙ number in
        held-append i (i + 1) (low_word (from_words low high) ∷ []) (high_word (from_words low high) ∷ []) refl
        (held_word i (low_word (from_words low high)) (sym (low-back low high (small i) (small (i + 1)) pattern)))
        (held_word (i + 1) (high_word (from_words low high)) (sym (high-back low high (small i) (small (i + 1)) pattern)))

    -- a float that is no NaN
    pub held-float : (i : ℕ) (x : Float) → float_in s i ≡ x → is_nan x ≡ false → Holds s i (float_words x)
    held-float i x e number = subst (λ (y : Float). Holds s i (float_words y)) e (float-there i (ap is_nan e ∙ number))

    -- three of them
    pub held-point : (i : ℕ) (q : Point) → float_in s i ≡ q.x → float_in s (i + 2) ≡ q.y → float_in s (i + 4) ≡ q.z → PointIsNumber q
        → Holds s i (point_words q)
    held-point i q e f g number =
        held-append i (i + 2) (float_words q.x) (float_words q.y ++ float_words q.z) refl
        (held-float i q.x e number.x-number)
        (held-append (i + 2) (i + 4) (float_words q.y) (float_words q.z) (omega arith)
        (held-float (i + 2) q.y f number.y-number)
        (held-float (i + 4) q.z g number.z-number))

    -- words that add to 0 with the next: it is their check
    pub held-closed : (base : ℕ) (front : List ℕ) (n : ℕ) → length front ≡ n → Holds s base front → sum_of s base (suc n) % 2 ^ 32 ≡ 0
        → Holds s base (closed front)
    unfolding closed sum_of
    held-closed base front n long h zero-sum =
        let sum = sum_back s base front (λ j l. h j (base + j) refl l) in
        held-append base (base + n) front (check_of (total_of front) ∷ []) (omega arith) h
        (held_word (base + n) (check_of (total_of front))
        (last (sum_of s base n) (total_of front) (word_in s (base + n)) (rw long at sum) zero-sum (small (base + n))))
      where
        last : (a t w : ℕ) → a % 2 ^ 32 ≡ t % 2 ^ 32 → (a + w) % 2 ^ 32 ≡ 0 → w < 2 ^ 32 → w ≡ check_of t
        last a t w e f l = omega arith
