-- Lines: texts written one behind the other. Assumes nothing.
use Rattle.std.proofs.Common.{◌≡◌, ℕ, suc, ◌+◌, ◌-◌, ◌<◌, ◌≤◌, List, [], ◌∷◌, ◌++◌, set, refl, arith, le-ltb, lt-ltb}
use lib.IntN.{sub_ℕ}
use Rattle.report.specs.Table.{decimal, signed}
use Rattle.report.specs.inside.Written.{Written}
use Rattle.report.proofs.Laws.Text.{written_then}

-- three texts
pub three : {o m₁ m₂ n : List ℕ} {p p₁ p₂ r : ℕ} (a b c : List ℕ) → Written o m₁ p p₁ a → Written m₁ m₂ p₁ p₂ b → Written m₂ n p₂ r c
    → Written o n p r (a ++ (b ++ c))
three a b c u v w = written_then {a = a} {b = b ++ c} u (written_then {a = b} {b = c} v w)

-- five texts
pub five : {o m₁ m₂ m₃ m₄ n : List ℕ} {p p₁ p₂ p₃ p₄ r : ℕ} (a b c d e : List ℕ) → Written o m₁ p p₁ a → Written m₁ m₂ p₁ p₂ b → Written m₂ m₃ p₂ p₃ c
    → Written m₃ m₄ p₃ p₄ d → Written m₄ n p₄ r e → Written o n p r (a ++ (b ++ (c ++ (d ++ e))))
five a b c d e u v w x y = three a b (c ++ (d ++ e)) u v (three c d e w x y)

-- seven texts
pub seven : {o m₁ m₂ m₃ m₄ m₅ m₆ n : List ℕ} {p p₁ p₂ p₃ p₄ p₅ p₆ r : ℕ} (a b c d e f g : List ℕ) → Written o m₁ p p₁ a → Written m₁ m₂ p₁ p₂ b
    → Written m₂ m₃ p₂ p₃ c → Written m₃ m₄ p₃ p₄ d → Written m₄ m₅ p₄ p₅ e → Written m₅ m₆ p₅ p₆ f → Written m₆ n p₆ r g
    → Written o n p r (a ++ (b ++ (c ++ (d ++ (e ++ (f ++ g))))))
seven a b c d e f g u v w x y z t = three a b (c ++ (d ++ (e ++ (f ++ g)))) u v (five c d e f g w x y z t)

-- six texts
pub six : {o m₁ m₂ m₃ m₄ m₅ n : List ℕ} {p p₁ p₂ p₃ p₄ p₅ r : ℕ} (a b c d e f : List ℕ) → Written o m₁ p p₁ a → Written m₁ m₂ p₁ p₂ b
    → Written m₂ m₃ p₂ p₃ c → Written m₃ m₄ p₃ p₄ d → Written m₄ m₅ p₄ p₅ e → Written m₅ n p₅ r f
    → Written o n p r (a ++ (b ++ (c ++ (d ++ (e ++ f)))))
six a b c d e f u v w x y z = written_then {a = a} {b = b ++ (c ++ (d ++ (e ++ f)))} u (five b c d e f v w x y z)

-- what is not below 0 has no sign
pub signed-plus : {o n : List ℕ} {at r : ℕ} (p m : ℕ) → m ≤ p → Written o n at r (decimal (p - m)) → Written o n at r (signed (sub_ℕ p m))
unfolding signed
signed-plus p m h w = rw (le-ltb p m h) w

-- what is below 0 has a minus sign
pub signed-minus : {o m₁ n : List ℕ} {r : ℕ} (at p m : ℕ) → p < m → m₁ ≡ set o at 45 → Written m₁ n (at + 1) r (decimal (m - p)) → Written o n at r (signed (sub_ℕ p m))
unfolding signed
signed-minus {o} {m₁} {n} {r} at p m h e w =
    let sign : Written o m₁ at (at + 1) (45 ∷ []) = record { bytes = e; place = refl } in
    let d : m - p ≡ suc (m - suc p) = omega arith in
    rw (lt-ltb p m h) (written_then {a = 45 ∷ []} {b = decimal (suc (m - suc p))} sign (rw d at w))
