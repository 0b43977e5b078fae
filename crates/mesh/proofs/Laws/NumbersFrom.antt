-- The numbers from k on: how many, which they are, each once, and what all of them pass. Assumes nothing.
use Rattle.std.proofs.Common.{◌≡◌, ℕ, zero, suc, ◌+◌, ◌<◌, ◌≤◌, Bool, true, eqb, ltb, List, [], ◌∷◌, ◌++◌, length, refl, ap, ◌∙◌, inl, inr, zero-add, arith, lt-ltb}
use borrow.Author.Tests.{eqb-false}
use Rattle.mesh.specs.Words.{numbers}
use Rattle.mesh.specs.Complex.{mem, Nodup}
use Rattle.mesh.specs.Tests.{every}
use Rattle.mesh.proofs.Laws.Bools.{split, and_intro}
use Rattle.mesh.proofs.Laws.Complex.Sets.{nope, mem-there, mem-cases, mem-nil}

pub length-numbers : (k n : ℕ) → length (numbers k n) ≡ n
unfolding numbers
length-numbers k zero = refl
length-numbers k (suc n) = ap suc (length-numbers (k + 1) n)

-- ---- which they are

pub numbers-mem : (k n x : ℕ) → k ≤ x → x < k + n → mem x (numbers k n) ≡ true
unfolding numbers
numbers-mem k zero x l u = absurd (omega arith)
numbers-mem k (suc n) x l u =
    elim (split (eqb x k)) [
      | inl h ↦ rw h refl
      | inr h ↦ let ne = eqb-false x k h in mem-there x k (numbers (k + 1) n) (numbers-mem (k + 1) n x (omega arith) (omega arith))
    ]

pub numbers-from : (k n x : ℕ) → mem x (numbers k n) ≡ true → k ≤ x
unfolding numbers
numbers-from k zero x h = absurd (mem-nil x h)
numbers-from k (suc n) x h =
    elim (mem-cases x k (numbers (k + 1) n) h) [ inl e ↦ omega arith | inr r ↦ let l : k + 1 ≤ x = numbers-from (k + 1) n x r in omega arith ]

pub numbers-nodup : (k n : ℕ) → Nodup (numbers k n)
unfolding numbers
numbers-nodup k zero = tt
numbers-nodup k (suc n) = (nope (λ h. let l : k + 1 ≤ k = numbers-from (k + 1) n k h in omega arith), numbers-nodup (k + 1) n)

-- a test that each of them passes
pub every-numbers : (p : ℕ → Bool) (k n : ℕ) → ((j : ℕ) → k ≤ j → j < k + n → p j ≡ true) → every p (numbers k n) ≡ true
unfolding numbers
every-numbers p k zero h = refl
every-numbers p k (suc n) h = and_intro (p k) (every p (numbers (k + 1) n)) (h k (omega arith) (omega arith)) (every-numbers p (k + 1) n (λ j a b. h j (omega arith) (omega arith)))

pub numbers-below : (k n m : ℕ) → k + n ≤ m → every (λ j. ltb j m) (numbers k n) ≡ true
numbers-below k n m h = every-numbers (λ j. ltb j m) k n (λ j a b. lt-ltb j m (omega arith))

-- ---- more of them

pub numbers_more : (k n : ℕ) → numbers k (suc n) ≡ numbers k n ++ ((k + n) ∷ [])
unfolding numbers
numbers_more k zero = let e : k ≡ k + 0 = omega arith in ap (λ (u : ℕ). u ∷ []) e
numbers_more k (suc n) =
    let e : k + 1 + n ≡ k + suc n = omega arith in
    ap (λ (l : List ℕ). k ∷ l) (numbers_more (k + 1) n ∙ ap (λ (u : ℕ). numbers (k + 1) n ++ (u ∷ [])) e)

pub numbers-split : (k a b : ℕ) → numbers k (a + b) ≡ numbers k a ++ numbers (k + a) b
unfolding numbers
numbers-split k zero b = let e : k ≡ k + 0 = omega arith in rw zero-add (ap (λ (u : ℕ). numbers u b) e)
numbers-split k (suc a) b =
    let e : suc a + b ≡ suc (a + b) = omega arith in
    let f : k + 1 + a ≡ k + suc a = omega arith in
    ap (numbers k) e ∙ ap (λ (l : List ℕ). k ∷ l) (numbers-split (k + 1) a b ∙ ap (λ (u : ℕ). numbers (k + 1) a ++ numbers u b) f)
