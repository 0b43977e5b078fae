-- `report::header::check_kinds` meets its contract. The invariant: what is left of the kinds from j on is the whole. Assumes nothing.
use Rattle.std.proofs.Common.{◌≡◌, ◌-◌, ◌≤◌}
use Rattle.mesh.specs.Words.{numbers}
use Rattle.mesh.specs.Tests.{every}
use Rattle.report.proofs.Laws.Kinds.{known}
use Rattle.report.proofs.header.check_kinds.Given as goal

abbrev pub invariant-loop-j : goal.invariant-loop-j
invariant-loop-j l = (l.n ≤ 8) × (every (known l.s) (numbers l.j (l.n - l.j)) ≡ every (known l.s) (numbers 0 l.n))
