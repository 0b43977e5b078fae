-- With which numbers a `flip` may end on a mesh whose surface is its boundary (document 01, "Where each number is given"). Definitions
-- only.
use Rattle.std.specs.Prelude.{◌≡◌, ◌⊎◌, List, ℕ}
use Rattle.mesh.specs.Intake.{intake}
use Rattle.repair.specs.Step.{State, Call, Pass, given, lengths_of, number_of, step, run}
use Rattle.repair.specs.Wholeness.{PassesIntake, Closed}

-- the number 0 of a result, or 17
abbrev pub CountOr17 : ℕ → Type 0
CountOr17 number = (number ≡ 0) ⊎ (number ≡ 17)

-- a `flip` that passes intake gives its count or 17, "a shared face with equal parities": never 16, "a face three times or more", nor 23,
-- "sorted surface triples differ from those given"
abbrev pub FlipRefusals : Type 0
FlipRefusals = (c : Call) (s : State) → c.pass ≡ Pass.flip → intake (given (lengths_of c s) c s) ≡ 0 → Closed s → CountOr17 (number_of (step c s).0)

-- so does each such `flip` after a list of calls, where the mesh at the start passes intake and its surface is its boundary
abbrev pub FlipRefusalsAlong : Type 0
FlipRefusalsAlong =
    (calls : List Call) (c : Call) (s : State) → PassesIntake s → Closed s → c.pass ≡ Pass.flip
    → intake (given (lengths_of c (run calls s)) c (run calls s)) ≡ 0 → CountOr17 (number_of (step c (run calls s)).0)
