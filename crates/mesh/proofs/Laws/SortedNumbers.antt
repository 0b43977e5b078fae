-- What the library's sort makes of a list of numbers is the sort of specs/Sort. Assumes nothing.
use Rattle.std.proofs.Common.{◌≡◌, ℕ, ◌+◌, ◌<◌, ◌≤◌, Bool, true, false, cond, eqb, leb, nat_cmp, suc, List, [], ◌∷◌, length, get_or, sym, refl, ◌∙◌, arith, eqb-true, le-leb}
use Rattle.std.specs.List.{sum_by}
use Rattle.std.specs.List.Sorted.{IsPermutation, IsSorted}
use Rattle.std.proofs.lemmas.List.Sorted.{sum_by-IsPermutation, IsNonDecreasingBy-from_sort}
use Rattle.std.proofs.lemmas.List.Sums.{sum_by-cons}
use Rattle.mesh.specs.Sort.{sort}
use Rattle.mesh.specs.inside.Sort.{headed, ordered, count}
use Rattle.mesh.proofs.Laws.Bools.{and_intro}
use Rattle.mesh.proofs.Laws.Numbers.{leb-trans, leb-total, leb-anti, eqb_same}
use Rattle.mesh.proofs.Laws.Sort.{sorted-unique}

-- a count is a sum
one : ℕ → ℕ → ℕ
one z x = cond (eqb z x) 1 0

count-sum : (z : ℕ) (l : List ℕ) → count eqb z l ≡ sum_by (one z) l
unfolding count one
count-sum z [] = refl
count-sum z (x ∷ l) = go (eqb z x) (count-sum z l) ∙ sym (sum_by-cons (one z) x l)
  where
    go : (b : Bool) → count eqb z l ≡ sum_by (one z) l → cond b (suc (count eqb z l)) (count eqb z l) ≡ cond b 1 0 + sum_by (one z) l
    go true ih = omega (arith, ih)
    go false ih = omega (arith, ih)

rising : (l : List ℕ) → ((k : ℕ) (d : ℕ) → suc k < length l → get_or l k d ≤ get_or l (suc k) d) → ordered leb l ≡ true
unfolding ordered headed
rising [] h = refl
rising (x ∷ []) h = refl
rising (x ∷ y ∷ l) h = and_intro (leb x y) (ordered leb (y ∷ l)) (le-leb x y (h 0 0 (omega arith))) (rising (y ∷ l) (λ k d lt. h (suc k) d (omega arith)))

pub library-sort : (xs ys : List ℕ) → IsPermutation xs ys → IsSorted nat_cmp ys → ys ≡ sort leb xs
library-sort xs ys p s =
    sorted-unique leb leb-trans leb-total leb-anti eqb eqb_same eqb-true ys xs
    (rising ys (λ k d lt. IsNonDecreasingBy-from_sort (λ x. x) ys s k (suc k) d (omega arith) lt))
    (λ z. count-sum z ys ∙ sum_by-IsPermutation (one z) xs ys p ∙ sym (count-sum z xs))
