-- Decimal digits read back give the number. Assumes nothing.
use Rattle.std.proofs.Common.{◌≡◌, ℕ, zero, suc, ◌+◌, ◌-◌, ◌*◌, ◌/◌, ◌%◌, ◌<◌, ltb, List, [], ◌∷◌, ◌++◌, refl, ◌∙◌, inl, inr, arith, ltb-false}
use Rattle.mesh.proofs.Laws.Bools.{split}
use Rattle.report.specs.Table.{digits, decimal}

-- the number that digits stand for, behind those that stand for a
unfoldable pub number_from : ℕ → List ℕ → ℕ
number_from a [] = a
number_from a (d ∷ ds) = number_from (10 * a + (d - 48)) ds

-- one more digit
number-last : (a : ℕ) (ds : List ℕ) (d : ℕ) → number_from a (ds ++ (d ∷ [])) ≡ 10 * number_from a ds + (d - 48)
unfolding number_from
number-last a [] d = refl
number-last a (c ∷ ds) d = number-last (10 * a + (c - 48)) ds d

digits_number : (k n : ℕ) → n < k → number_from 0 (digits k n) ≡ n
unfolding digits number_from
digits_number zero n h = absurd (never n h)
  where
    never : (n : ℕ) → n < 0 → ⊥
    never n h = omega arith
digits_number (suc k) n h = elim (split (ltb n 10)) [
  | inl t ↦ rw t (omega arith)
  | inr f ↦ (let g = ltb-false n 10 f in let r = digits_number k (n / 10) (omega arith) in rw f (number-last 0 (digits k (n / 10)) (48 + n % 10) ∙ (rw r (omega arith))))
]

-- the digits of n stand for n
pub decimal-number : (n : ℕ) → number_from 0 (decimal n) ≡ n
unfolding decimal
decimal-number n = digits_number (suc n) n (omega arith)
