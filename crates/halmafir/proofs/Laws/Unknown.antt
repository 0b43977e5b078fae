-- A call with an unknown kind among its fields gives 11 wherever 10 does not apply, with zeros for a result and the mesh as it was.
-- Assumes nothing.
use Prim.Native.Nat.{ℕ, zero, suc, ◌+◌, ◌<◌}
use native.Mathlib.Omega.{arith}
use mathlib.Core.Path.{◌≡◌, refl, ap, ◌∙◌}
use mathlib.Core.Bool.{Bool, true, false, ◌&&◌, ◌||◌}
use mathlib.Core.List.{List, [], ◌∷◌}
use lib.Dec.{leb}
use lib.Ieee.{Float, nan, le}
use lib.ListN.{length, take, get_or}
use Rattle.geometry.specs.declared.field.Field.{Field}
use Rattle.geometry.specs.declared.field.Field.TheVariants.{Level}
use Rattle.mesh.specs.Tests.{every}
use Rattle.mesh.specs.Intake.{too_many, too_short, sized_field, options_in, fields_in, intake}
use Rattle.repair.specs.Step.{Refused}
use Rattle.repair.specs.Step.{State, Call, lengths_of, given, step}
use Rattle.halmafir.specs.Arrays.{field_of, field_at, fields_of}
use Rattle.halmafir.specs.Called.{returned, called}

-- what fails on one side fails
and-false : (b : Bool) → (b && false) ≡ false
and-false true = refl
and-false false = refl

-- a test that the j-th of the first n fails
some-fails : {A : Type 0} (p : A → Bool) (n j : ℕ) (l : List A) (d : A) → j < n → j < length l → p (get_or l j d) ≡ false → every p (take n l) ≡ false
some-fails p zero j l d h g e = absurd (omega arith)
some-fails p (suc n) j [] d h g e = absurd (omega arith)
some-fails p (suc n) zero (x ∷ l) d h g e = rw e
some-fails p (suc n) (suc j) (x ∷ l) d h g e = rw (some-fails p n j l d (omega arith) (omega arith) e) (and-false (p x))

-- an unknown kind is read as a level at NaN
pub unknown : (k : ℕ) (l : List Float) → (k ≡ 0 → ⊥) → (k ≡ 1 → ⊥) → (k ≡ 2 → ⊥) → field_of k l ≡ Level nan
unknown zero l f g h = absurd (f refl)
unknown (suc zero) l f g h = absurd (g refl)
unknown (suc (suc zero)) l f g h = absurd (h refl)
unknown (suc (suc (suc k))) l f g h = refl

-- whose number is not finite
unsized : sized_field (Level nan) ≡ false
unfolding le
unsized = refl

-- the j-th of eight
jth : (k : List ℕ) (l : List Float) (d : Field) (j : ℕ) → j < 8 → get_or (fields_of k l) j d ≡ field_at k l j
jth k l d zero h = refl
jth k l d (suc zero) h = refl
jth k l d (suc (suc zero)) h = refl
jth k l d (suc (suc (suc zero))) h = refl
jth k l d (suc (suc (suc (suc zero)))) h = refl
jth k l d (suc (suc (suc (suc (suc zero))))) h = refl
jth k l d (suc (suc (suc (suc (suc (suc zero)))))) h = refl
jth k l d (suc (suc (suc (suc (suc (suc (suc zero))))))) h = refl
jth k l d (suc (suc (suc (suc (suc (suc (suc (suc j)))))))) h = absurd (omega arith)

-- the same, of the j-th of eight
unknown-at : (k : List ℕ) (l : List Float) (j : ℕ) → 2 < get_or k (6 + j) 0 → field_at k l j ≡ Level nan
unfolding field_at
unknown-at k l j h = unknown (get_or k (6 + j) 0) _ (λ e. omega arith) (λ e. omega arith) (λ e. omega arith)

-- row 11 fails
fields_out : (k : List ℕ) (l : List Float) (n j : ℕ) → j < n → j < 8 → 2 < get_or k (6 + j) 0 → fields_in n (fields_of k l) ≡ false
fields_out k l n j h g u =
    rw (some-fails sized_field n j (fields_of k l) (Level nan) h g (ap sized_field (jth k l (Level nan) j g ∙ unknown-at k l j u) ∙ unsized)) (and-false (leb n 8))

-- "an unknown kind" gives 11
pub unknown-kind : (c : Call) (s : State) (k : List ℕ) (l : List Float) (j : ℕ)
    → c.fields ≡ fields_of k l → j < c.count → j < 8 → 2 < get_or k (6 + j) 0
    → (too_many s.sizes || too_short s.sizes (lengths_of c s)) ≡ false
    → called c s ≡ returned c.words c.floats (Refused 11, s)
unfolding step given intake
unknown-kind c s k l j e h g u ok =
    rw (ok, e, fields_out k l c.count j h g u, and-false (options_in c.options))
