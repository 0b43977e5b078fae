-- How a call of `improve` may end where demand 3's premise holds of it (document 01, "Where each number is given"). `improve-refusals` of
-- proofs/ImproveRefusals.antt proves it. Definitions only.
use Rattle.std.specs.Prelude.{◌≡◌, ◌⊎◌}
use Rattle.mesh.specs.Intake.{intake}
use Rattle.repair.specs.Step.{State, Call, Pass, lengths_of, given, number_of, step}
use Rattle.repair.specs.Wholeness.{Apart}

-- of a mesh that passes intake, where "no direction is periodic and no two vertices have the same rank in all three directions", `improve`
-- gives a count or 22, "a nonmanifold boundary vertex": never 16 or 17
abbrev pub ImproveRefusals : Type 0
ImproveRefusals = (c : Call) (s : State) → c.pass ≡ Pass.improve → intake (given (lengths_of c s) c s) ≡ 0 → Apart c s → (number_of (step c s).0 ≡ 0) ⊎ (number_of (step c s).0 ≡ 22)
