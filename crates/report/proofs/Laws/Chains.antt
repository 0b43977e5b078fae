-- Chains over a range of numbers: tests of all, and counts of elements. Assumes nothing.
use Rattle.std.proofs.Common.{◌≡◌, ℕ, zero, suc, ◌+◌, ◌*◌, Bool, true, false, cond, ◌&&◌, List, [], ◌∷◌, length, drop, sym, refl, ap, ◌∙◌, arith}
use Rattle.std.specs.List.{list_all, filter, range_with_len}
use Rattle.std.proofs.lemmas.List.{drop-drop}
use Rattle.mesh.specs.declared.element.Tet.{Tet}
use Rattle.mesh.specs.Words.{numbers}
use Rattle.mesh.specs.Tests.{every}
use Rattle.mesh.specs.Complex.{keep}
use Rattle.mesh.specs.Element.{tets}
use Rattle.mesh.specs.inside.Intake.{tet_at}
use Rattle.mesh.proofs.Laws.Intake.Reads.{tet-drop}

-- the numbers that a range gives
pub numbers-range : (k n : ℕ) → range_with_len k n ≡ numbers k n
unfolding numbers
numbers-range k zero = refl
numbers-range k (suc n) = ap (λ (l : List ℕ). k ∷ l) (numbers-range (k + 1) n)

pub all-every : (p : ℕ → Bool) (l : List ℕ) → list_all p l ≡ every p l
all-every p [] = refl
all-every p (x ∷ l) = ap (λ (b : Bool). p x && b) (all-every p l)

-- a test of each number of a range
pub all-range : (p : ℕ → Bool) (k n : ℕ) → list_all p (range_with_len k n) ≡ every p (numbers k n)
all-range p k n = ap (list_all p) (numbers-range k n) ∙ all-every p (numbers k n)

-- the element in the place a is the first behind 4 a words
first-at : (s : List ℕ) (a : ℕ) → tet_at (drop (4 * a) s) 0 ≡ tet_at s a
first-at s zero = refl
first-at s (suc a) =
    let e : 4 * suc a ≡ 4 + 4 * a = omega arith in
    ap (λ (l : List ℕ). tet_at l 0) (ap (λ (k : ℕ). drop k s) e ∙ sym (drop-drop (4 * a) 4 s)) ∙ (first-at (drop 4 s) a ∙ tet-drop s a)

-- the first element, and those behind it
first-of-tets : (n : ℕ) (s : List ℕ) → tets (suc n) s ≡ tet_at s 0 ∷ tets n (drop 4 s)
unfolding tets tet_at
first-of-tets n s = refl

-- how many numbers of a range name an element that passes
pub counted-from : (p : Tet → Bool) (s : List ℕ) (a n : ℕ) → length (filter (λ (i : ℕ). p (tet_at s i)) (range_with_len a n)) ≡ length (keep p (tets n (drop (4 * a) s)))
unfolding tets
counted-from p s a zero = refl
counted-from p s a (suc n) =
    let e : 4 * a + 4 ≡ 4 * (a + 1) = omega arith in
    let rest : length (filter (λ (i : ℕ). p (tet_at s i)) (range_with_len (a + 1) n)) ≡ length (keep p (tets n (drop 4 (drop (4 * a) s)))) =
    counted-from p s (a + 1) n ∙ ap (λ (l : List ℕ). length (keep p (tets n l))) (ap (λ (k : ℕ). drop k s) (sym e) ∙ sym (drop-drop 4 (4 * a) s)) in
    let more : keep p (tets (suc n) (drop (4 * a) s)) ≡ cond (p (tet_at s a)) (tet_at s a ∷ keep p (tets n (drop 4 (drop (4 * a) s)))) (keep p (tets n (drop 4 (drop (4 * a) s)))) =
    ap (keep p) (first-of-tets n (drop (4 * a) s) ∙ ap (λ (t : Tet). t ∷ tets n (drop 4 (drop (4 * a) s))) (first-at s a)) in
    one (p (tet_at s a)) a (tet_at s a) (filter (λ (i : ℕ). p (tet_at s i)) (range_with_len (a + 1) n)) (keep p (tets n (drop 4 (drop (4 * a) s)))) rest ∙ ap length (sym more)
  where
    one : (b : Bool) (x : ℕ) (t : Tet) (xs : List ℕ) (ts : List Tet) → length xs ≡ length ts → length (cond b (x ∷ xs) xs) ≡ length (cond b (t ∷ ts) ts)
    one true x t xs ts r = ap suc r
    one false x t xs ts r = r
