-- What a pass returns, as the answer of a call. Definitions only.
use Rattle.std.specs.Prelude.{Result, Ok, Err}
use Rattle.mesh.specs.declared.refusal.Refusal.{Refusal}
use Rattle.mesh.specs.Refusal.{table_number}
use Rattle.repair.specs.declared.answer.Made.{Made}
use Rattle.repair.specs.Step.{Answer, Done, Refused}

-- done with a count and the sizes, or refused with the number in the table
abbrev pub answer_of : Result Made Refusal → Answer
answer_of (Ok m) = Done m.count m.sizes
answer_of (Err e) = Refused (table_number e)
