-- The numbers of refusals: each is at least 10, and a number is that of one refusal. Assumes nothing.
use Rattle.std.proofs.Common.{◌≡◌, ◌≤◌, ◌∙◌, ℕ, refl, sym, ap, eqb, cond, arith}
use Rattle.mesh.specs.declared.refusal.Refusal.{Refusal}
use Rattle.mesh.specs.declared.refusal.Refusal.TheVariants.{Room, Settings, Vertex, Corner, Twice, Inverted, Crowded, Parity, Nonmanifold, Changed}
use Rattle.mesh.specs.Refusal.{table_number}

-- each is at least 10
pub number_above : (e : Refusal) → 10 ≤ table_number e
number_above Room = omega arith
number_above Settings = omega arith
number_above Vertex = omega arith
number_above Corner = omega arith
number_above Twice = omega arith
number_above Inverted = omega arith
number_above Crowded = omega arith
number_above Parity = omega arith
number_above Nonmanifold = omega arith
number_above Changed = omega arith

-- the refusal of a number in the table
named : ℕ → Refusal
named n =
    cond (eqb n 10) Room (cond (eqb n 11) Settings (cond (eqb n 12) Vertex (cond (eqb n 13) Corner (cond (eqb n 14) Twice
    (cond (eqb n 15) Inverted (cond (eqb n 16) Crowded (cond (eqb n 17) Parity (cond (eqb n 22) Nonmanifold Changed))))))))

named_same : (e : Refusal) → named (table_number e) ≡ e
unfolding named
named_same Room = refl
named_same Settings = refl
named_same Vertex = refl
named_same Corner = refl
named_same Twice = refl
named_same Inverted = refl
named_same Crowded = refl
named_same Parity = refl
named_same Nonmanifold = refl
named_same Changed = refl

-- no two have the same number
pub number-same : (e f : Refusal) → table_number e ≡ table_number f → e ≡ f
number-same e f q = sym (named_same e) ∙ (ap named q ∙ named_same f)
