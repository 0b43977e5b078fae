-- Words of an area that are kept, rows that are written, sorted and cleared behind them, and scans over runs. Assumes nothing.
use Rattle.std.proofs.Common.{◌≡◌, ℕ, suc, ◌+◌, ◌-◌, ◌*◌, ◌/◌, ◌%◌, ◌<◌, ◌≤◌, min, max, Bool, true, false, cond, ltb, leb, List, [], ◌∷◌, ◌++◌, length, get_or, take, drop, sym, ap, ◌∙◌, ap₂, le_refl, arith, length-append, length-drop, length-take-le, get_or-take, take-take, take_at, get_or-append-add, drop_at, lt-ltb, le-leb}
use lib.ListN.{length-replicate}
use Rattle.mesh.specs.Words.{word_at, zero_words}
use Rattle.mesh.specs.Sort.{sort}
use Rattle.mesh.specs.inside.Sort.{leading}
use Rattle.mesh.specs.inside.Rows.{rows, le_row, eq_row, fit_rows, sorted_area, run}
use Rattle.mesh.proofs.Laws.Bools.{and_intro}
use Rattle.mesh.proofs.Laws.Rows.{rows_same}
use Rattle.mesh.proofs.Laws.Areas.{rows-sorted, length-sorted}
use Rattle.mesh.specs.inside.Manifold.{corner_at, edge_row, link_row, KeptBelow}
use Rattle.mesh.proofs.Laws.Parts.{zero_word}

-- ---- words that are kept

pub word_below : {base : ℕ} {s₀ s : List ℕ} → KeptBelow base s₀ s → (j : ℕ) → j < base → word_at s j ≡ word_at s₀ j
word_below {base} {s₀} {s} k j h = sym (get_or-take base s j 0 h) ∙ ap (λ (l : List ℕ). get_or l j 0) k.front ∙ get_or-take base s₀ j 0 h

pub rows-below : {base : ℕ} {s₀ s : List ℕ} → KeptBelow base s₀ s → (w n p : ℕ) → p + n * w ≤ base → rows w n (drop p s) ≡ rows w n (drop p s₀)
rows-below {base} {s₀} {s} k w n p h = rows_same w n s s₀ p k.long (λ j f g. word_below k j (omega arith))

pub kept_less : {a b : ℕ} {s₀ s : List ℕ} → a ≤ b → KeptBelow b s₀ s → KeptBelow a s₀ s
kept_less {a} {b} {s₀} {s} h k = record {
  front = sym (take-take a b s h) ∙ ap (take a) k.front ∙ take-take a b s₀ h;
  long = k.long;
}

-- ---- a part that reaches to the end

-- new words behind the first a
pub put-kept : (a : ℕ) (s s' y : List ℕ) → a ≤ length s → length y ≡ length s - a → s' ≡ take a s ++ y → KeptBelow a s s'
put-kept a s s' y h l e = record {
  front = ap (take a) e ∙ take_at (take a s) y a (length-take-le a s h);
  long = ap length e ∙ (let f : length (take a s ++ y) ≡ length s = omega (arith, length-append (take a s) y, length-take-le a s h) in f);
}

-- rows sorted behind the first a words
module _ (a n w : ℕ) (s s' : List ℕ) (h : a ≤ length s) (e : s' ≡ take a s ++ sorted_area n w (drop a s)) where
  pub sort-kept : KeptBelow a s s'
  sort-kept = put-kept a s s' (sorted_area n w (drop a s)) h (length-sorted n w (drop a s) ∙ length-drop a s) e

  pub sort-from-rows : 0 < w → a + (n + n) * w ≤ length s → rows w n (drop a s') ≡ sort le_row (rows w n (drop a s))
  unfolding fit_rows
  sort-from-rows k r =
      ap (λ (u : List ℕ). rows w n (drop a u)) e
      ∙ ap (rows w n) (drop_at (take a s) (sorted_area n w (drop a s)) a (length-take-le a s h))
      ∙ rows-sorted n w (drop a s) (and_intro (ltb 0 w) (leb ((n + n) * w) (length (drop a s))) (lt-ltb 0 w k) (le-leb ((n + n) * w) (length (drop a s)) (omega (arith, length-drop a s))))

-- the words from a on cleared
module _ (a : ℕ) (s s' : List ℕ) (h : a ≤ length s) (e : s' ≡ take a s ++ zero_words (length s - a)) where
  pub clear_kept : KeptBelow a s s'
  clear_kept = put-kept a s s' (zero_words (length s - a)) h (length-replicate {A = ℕ} (length s - a) 0) e

  pub clear_zero : (x : ℕ) → word_at s' (a + x) ≡ 0
  clear_zero x =
      ap (λ (u : List ℕ). word_at u (a + x)) e
      ∙ ap (λ (u : ℕ). word_at (take a s ++ zero_words (length s - a)) (u + x)) (sym (length-take-le a s h))
      ∙ get_or-append-add (take a s) (zero_words (length s - a)) x 0
      ∙ zero_word (length s - a) x

-- ---- the length of a run

pub leading-few : {A : Type 0} (p : A → Bool) (l : List A) → leading p l ≤ length l
unfolding leading
leading-few p [] = omega arith
leading-few p (x ∷ l) = go (p x) (leading-few p l)
  where
    go : (b : Bool) → leading p l ≤ length l → cond b (suc (leading p l)) 0 ≤ suc (length l)
    go true h = omega arith
    go false h = omega arith

-- a run is no longer than the list
pub run-few : (kw : ℕ) (l : List (List ℕ)) → run kw l ≤ length l
unfolding run
run-few kw [] = omega arith
run-few kw (r ∷ l) = leading-few (λ q. eq_row (take kw r) (take kw q)) (r ∷ l)

-- ---- rows listed

corner-kept : (s₀ s : List ℕ) (n j k : ℕ) → take (3 * n) s ≡ take (3 * n) s₀ → j < 3 * n → corner_at s j k ≡ corner_at s₀ j k
unfolding corner_at
corner-kept s₀ s n j k e h =
    let i = j / 3 * 3 + (j + k) % 3 in
    let l : i < 3 * n = omega arith in
    sym (get_or-take (3 * n) s i 0 l) ∙ ap (λ (u : List ℕ). get_or u i 0) e ∙ get_or-take (3 * n) s₀ i 0 l

-- the triples tell the rows of their edges and corners
module _ (s : List ℕ) (n j : ℕ) (h : j < 3 * n) where
  told : (k : ℕ) → corner_at (take (3 * n) s) j k ≡ corner_at s j k
  told k = corner-kept s (take (3 * n) s) n j k (take-take (3 * n) (3 * n) s (le_refl (3 * n))) h

  pub edge_row-told : edge_row (take (3 * n) s) j ≡ edge_row s j
  unfolding edge_row
  edge_row-told = ap₂ (λ (u v : ℕ). min u v ∷ max u v ∷ []) (told 0) (told 1)

  pub link_row-told : link_row (take (3 * n) s) j ≡ link_row s j
  unfolding link_row
  link_row-told = ap₂ (λ (u : ℕ) (l : List ℕ). u ∷ j ∷ l) (told 0) (ap₂ (λ (u t : ℕ). u ∷ t ∷ []) (told 1) (told 2))
