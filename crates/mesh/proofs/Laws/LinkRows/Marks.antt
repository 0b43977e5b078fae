-- Marks of rows with one key, in any order, and simplices as the words of a row. Assumes nothing.
use Rattle.std.proofs.Common.{◌≡◌, ℕ, ◌≤◌, true, false, not, eqb, List, [], ◌∷◌, ◌++◌, length, get_or, take, sym, refl, ap, ◌∙◌, inl, inr, true≢false, arith, take_at, eq-eqb, ne_eqb, eqb-true}
use mathlib.Core.List.Memᴰ
use mathlib.Core.List.{Memᴰ}
use borrow.Author.Tests.{eqb-false}
use lib.Seq.{get_or-append_seam}
use Rattle.mesh.specs.Sort.{sort, unique_after, unique}
use Rattle.mesh.specs.inside.Rows.{le_row, eq_row}
use Rattle.mesh.specs.Complex.{keep}
use Rattle.mesh.specs.inside.Group.{same_first}
use Rattle.mesh.specs.inside.LinkRows.{marked, three_words, two_words}
use Rattle.mesh.proofs.Laws.Complex.Sets.{split, mem-here}
use Rattle.mesh.proofs.Laws.Rows.{le_row-trans, le_row-total, eq_row-refl}
use Rattle.mesh.proofs.Laws.Manifold.Kept.{every-sort, keep-sort}
use Rattle.mesh.proofs.Laws.Link.Simplices.{rising, rising-head, rising-tail}

-- ---- marks

module _ (k m : ℕ) where
  -- a marked run has a row with the mark
  pub marked-elim : (g : List (List ℕ)) → marked k m g ≡ true → (r : List ℕ) × Memᴰ r g × (get_or r k 0 ≡ m)
  marked-elim [] h = absurd (true≢false (sym h))
  marked-elim (r ∷ g) h =
      elim (split (eqb (get_or r k 0) m)) [
        | inl e ↦ (r, Memᴰ.head refl, eqb-true (get_or r k 0) m e)
        | inr e ↦ let q = marked-elim g (rw e at h) in (q.0, Memᴰ.tail q.1, q.2)
      ]

  -- a run with such a row is marked
  pub marked-intro : (r : List ℕ) (g : List (List ℕ)) → Memᴰ r g → get_or r k 0 ≡ m → marked k m g ≡ true
  marked-intro r [] i e = absurd (Memᴰ.not-nil i)
  marked-intro r (q ∷ g) i e =
      elim (split (eqb (get_or q k 0) m)) [
        | inl h ↦ rw h refl
        | inr h ↦ rw h (elim (Memᴰ.cases_cons i) [
          | inl x ↦ absurd (eqb-false (get_or q k 0) m h (ap (λ (u : List ℕ). get_or u k 0) (sym x) ∙ e))
          | inr x ↦ marked-intro r g x e
        ])
      ]

  -- sorting changes no mark of the rows of a key
  pub marked-kept : (r : List ℕ) (l : List (List ℕ)) → marked k m (keep (same_first k r) (sort le_row l)) ≡ marked k m (keep (same_first k r) l)
  marked-kept r l =
      ap (marked k m) (keep-sort le_row le_row-trans (same_first k r) le_row-total l)
      ∙ ap not (every-sort le_row (λ q. not (eqb (get_or q k 0) m)) (keep (same_first k r) l))

-- ---- simplices as words

-- each simplex of at most k vertices gives k words, from which it can be read
pub record Pads (k : ℕ) (pad : List ℕ → List ℕ) : Type 0 where
  pub size : (σ : List ℕ) → 1 ≤ length σ → length σ ≤ k → length (pad σ) ≡ k
  pub back : (σ : List ℕ) → 1 ≤ length σ → length σ ≤ k → rising σ ≡ true → unique eqb (pad σ) ≡ σ

two-apart : (x y : ℕ) (σ : List ℕ) → rising (x ∷ y ∷ σ) ≡ true → eqb x y ≡ false
two-apart x y σ h = let r = rising-head x (y ∷ σ) h y (mem-here y σ) in ne_eqb x y (λ e. omega arith)

pub three-pads : Pads 3 three_words
unfolding unique unique_after
three-pads = record { size = size'; back = back' }
  where
    size' : (σ : List ℕ) → 1 ≤ length σ → length σ ≤ 3 → length (three_words σ) ≡ 3
    size' [] p q = absurd (omega arith)
    size' (x ∷ []) p q = refl
    size' (x ∷ y ∷ []) p q = refl
    size' (x ∷ y ∷ z ∷ σ) p q = refl

    back' : (σ : List ℕ) → 1 ≤ length σ → length σ ≤ 3 → rising σ ≡ true → unique eqb (three_words σ) ≡ σ
    back' [] p q h = absurd (omega arith)
    back' (x ∷ []) p q h = rw (eq-eqb x x refl) refl
    back' (x ∷ y ∷ []) p q h = rw (two-apart x y [] h, eq-eqb y y refl) refl
    back' (x ∷ y ∷ z ∷ []) p q h = rw (two-apart x y (z ∷ []) h, two-apart y z [] (rising-tail x (y ∷ z ∷ []) h)) refl
    back' (x ∷ y ∷ z ∷ w ∷ σ) p q h = absurd (omega arith)

pub two-pads : Pads 2 two_words
unfolding unique unique_after
two-pads = record { size = size'; back = back' }
  where
    size' : (σ : List ℕ) → 1 ≤ length σ → length σ ≤ 2 → length (two_words σ) ≡ 2
    size' [] p q = absurd (omega arith)
    size' (x ∷ []) p q = refl
    size' (x ∷ y ∷ σ) p q = refl

    back' : (σ : List ℕ) → 1 ≤ length σ → length σ ≤ 2 → rising σ ≡ true → unique eqb (two_words σ) ≡ σ
    back' [] p q h = absurd (omega arith)
    back' (x ∷ []) p q h = rw (eq-eqb x x refl) refl
    back' (x ∷ y ∷ []) p q h = rw (two-apart x y [] h) refl
    back' (x ∷ y ∷ z ∷ σ) p q h = absurd (omega arith)

module _ {k : ℕ} {pad : List ℕ → List ℕ} (P : Pads k pad) where
  module _ (σ : List ℕ) (some : 1 ≤ length σ) (small : length σ ≤ k) where
    -- the words of a row but its mark
    pub pad-words : (m : ℕ) → take k (pad σ ++ (m ∷ [])) ≡ pad σ
    pad-words m = take_at (pad σ) (m ∷ []) k (P.size σ some small)

    -- its mark
    pub pad-mark : (m : ℕ) → get_or (pad σ ++ (m ∷ [])) k 0 ≡ m
    pad-mark m = ap (λ (i : ℕ). get_or (pad σ ++ (m ∷ [])) i 0) (sym (P.size σ some small)) ∙ get_or-append_seam (pad σ) m [] 0

    -- a row with the words of σ has its key
    pub pad-key : (r : List ℕ) (m : ℕ) → take k r ≡ pad σ → same_first k r (pad σ ++ (m ∷ [])) ≡ true
    pad-key r m e = ap (eq_row (take k r)) (pad-words m ∙ sym e) ∙ eq_row-refl (take k r)
