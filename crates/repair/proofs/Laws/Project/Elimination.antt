-- Loops over the columns of a row, and over the rows of the matrix: what is left from here is the whole. Assumes nothing.
use Prim.Native.Nat.{ℕ, zero, suc, ◌+◌, ◌-◌, ◌≤◌, ◌<◌}
use mathlib.Core.Path.{◌≡◌, refl, sym, ap, ◌∙◌}
use mathlib.Core.Bool.{cond}
use mathlib.Core.List.{List, [], ◌∷◌, ◌++◌, append-nil}
use native.Mathlib.Numerals.{add-one}
use native.Mathlib.Omega.{arith}
use lib.Ieee.{Float}
use lib.ListN.{length, get_or, take, drop, set, drop_of_length-le}
use lib.Seq.{drop-cons, take_all, take-set-lt, get_or-take, length-take-le}
use Rattle.geometry.specs.Float.{◌-₆₄◌, ◌*₆₄◌, ◌/₆₄◌}
use Rattle.repair.specs.Project.{entry, smaller_size, pivot, divide_from, less_from, cleared}
use Rattle.repair.specs.inside.project.Solve.{cleared_at}
use Rattle.repair.proofs.Laws.Project.Lists.{changed-front, changed-rest}

-- ---- the columns of one row

divide-next : (d z : Float) (xs : List Float) (j : ℕ) → j < length xs → divide_from (suc j) d (set xs j (get_or xs j z /₆₄ d)) ≡ divide_from j d xs
unfolding divide_from
divide-next d z [] j h = absurd (omega arith)
divide-next d z (v ∷ vs) zero h = refl
divide-next d z (v ∷ vs) (suc j) h = ap (λ (t : List Float). v ∷ t) (divide-next d z vs j (omega arith))

-- column j of the first n + 1 is divided
pub divide-turn : (n : ℕ) (d z : Float) (xs : List Float) (j : ℕ) → j ≤ n → n < length xs
    → divide_from (j + 1) d (take (n + 1) (set xs j (get_or xs j z /₆₄ d))) ≡ divide_from j d (take (n + 1) xs)
divide-turn n d z xs j h g =
    (λ i. divide_from (add-one j i) d (take-set-lt (n + 1) xs j (sym (get_or-take (n + 1) xs j z (omega arith)) i /₆₄ d) (omega arith) i))
    ∙ divide-next d z (take (n + 1) xs) j (omega (arith, length-take-le (n + 1) xs (omega arith)))

divide-none : (d : Float) (xs : List Float) (j : ℕ) → length xs ≤ j → divide_from j d xs ≡ xs
unfolding divide_from
divide-none d [] zero h = refl
divide-none d [] (suc j) h = refl
divide-none d (v ∷ vs) zero h = absurd (omega arith)
divide-none d (v ∷ vs) (suc j) h = ap (λ (t : List Float). v ∷ t) (divide-none d vs j (omega arith))

-- none is left to divide
pub divide-end : (n : ℕ) (d : Float) (xs : List Float) (j : ℕ) → n < j → n < length xs → divide_from j d (take (n + 1) xs) ≡ take (n + 1) xs
divide-end n d xs j h g = divide-none d (take (n + 1) xs) j (omega (arith, length-take-le (n + 1) xs (omega arith)))

less-next : (f z : Float) (xs ps : List Float) (j : ℕ) → j < length xs → j < length ps
    → less_from (suc j) f (set xs j (get_or xs j z -₆₄ f *₆₄ get_or ps j z)) ps ≡ less_from j f xs ps
unfolding less_from
less-next f z [] ps j h g = absurd (omega arith)
less-next f z (v ∷ vs) [] j h g = absurd (omega arith)
less-next f z (v ∷ vs) (p ∷ ps) zero h g = refl
less-next f z (v ∷ vs) (p ∷ ps) (suc j) h g = ap (λ (t : List Float). v ∷ t) (less-next f z vs ps j (omega arith) (omega arith))

-- column j of the first n + 1 is made less
pub less-turn : (n : ℕ) (f z : Float) (xs ps : List Float) (j : ℕ) → j ≤ n → n < length xs → n < length ps
    → less_from (j + 1) f (take (n + 1) (set xs j (get_or xs j z -₆₄ f *₆₄ get_or ps j z))) (take (n + 1) ps) ≡ less_from j f (take (n + 1) xs) (take (n + 1) ps)
less-turn n f z xs ps j h g l =
    (λ i. less_from (add-one j i) f (take-set-lt (n + 1) xs j (sym (get_or-take (n + 1) xs j z (omega arith)) i -₆₄ f *₆₄ sym (get_or-take (n + 1) ps j z (omega arith)) i) (omega arith) i) (take (n + 1) ps))
    ∙ less-next f z (take (n + 1) xs) (take (n + 1) ps) j (omega (arith, length-take-le (n + 1) xs (omega arith))) (omega (arith, length-take-le (n + 1) ps (omega arith)))

less_none : (f : Float) (xs ps : List Float) (j : ℕ) → length xs ≤ j → less_from j f xs ps ≡ xs
unfolding less_from
less_none f [] ps zero h = refl
less_none f [] ps (suc j) h = refl
less_none f (v ∷ vs) [] zero h = refl
less_none f (v ∷ vs) [] (suc j) h = refl
less_none f (v ∷ vs) (p ∷ ps) zero h = absurd (omega arith)
less_none f (v ∷ vs) (p ∷ ps) (suc j) h = ap (λ (t : List Float). v ∷ t) (less_none f vs ps j (omega arith))

-- none is left to make less
pub less-end : (n : ℕ) (f : Float) (xs ps : List Float) (j : ℕ) → n < j → n < length xs → less_from j f (take (n + 1) xs) (take (n + 1) ps) ≡ take (n + 1) xs
less-end n f xs ps j h g = less_none f (take (n + 1) xs) (take (n + 1) ps) j (omega (arith, length-take-le (n + 1) xs (omega arith)))

-- ---- the rows

-- row i is compared with the best so far
pub pivot-turn : (m : List (List Float)) (k best i n : ℕ) → i < n
    → pivot m k (cond (smaller_size (entry m i k) (entry m best k)) best i) (i + 1) (n - (i + 1)) ≡ pivot m k best i (n - i)
unfolding pivot
pivot-turn m k best i n h = let e : n - i ≡ suc (n - (i + 1)) = omega arith in rw e

-- none is left to compare
pub pivot-end : (m : List (List Float)) (k best i n : ℕ) → n ≤ i → pivot m k best i (n - i) ≡ best
unfolding pivot
pivot-end m k best i n h = let e : n - i ≡ 0 = omega arith in rw e

module _ (k : ℕ) (row : List Float) where
  -- the rows up to i as they are, the others cleared
  abbrev pub cleared_from : ℕ → List (List Float) → List (List Float)
  cleared_from i m = take i m ++ cleared k i row (drop i m)

  -- row i is cleared
  pub clear-turn : (m : List (List Float)) (i : ℕ) (r : List Float) → i < length m → r ≡ cleared_at k i row (get_or m i []) → cleared_from (i + 1) (set m i r) ≡ cleared_from i m
  unfolding cleared
  clear-turn m i r h e =
      changed-front m i r (cleared k (i + 1) row (drop (i + 1) (set m i r))) h
      ∙ (λ j. take i m ++ (e j ∷ cleared k (i + 1) row ((changed-rest m i r ∙ ap (λ (n : ℕ). drop n m) (add-one i)) j)))
      ∙ ap (λ (t : List (List Float)). take i m ++ cleared k i row t) (sym (drop-cons m i [] h))

  -- none is left to clear
  pub clear-end : (m : List (List Float)) (i : ℕ) → length m ≤ i → cleared_from i m ≡ m
  unfolding cleared
  clear-end m i h = (λ j. take_all i m h j ++ cleared k i row (drop_of_length-le m h j)) ∙ append-nil m
