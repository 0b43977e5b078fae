-- `fields::Fields::rows_at` meets its contract. The invariant: the rows before i are those of the fields, and what is left of the tests is the whole.
-- Assumes nothing.
use Rattle.std.proofs.Common.{◌≡◌, map, length, take, drop}
use Rattle.mesh.specs.Tests.{every}
use Rattle.repair.specs.Project.{usable, normalised}
use Rattle.repair.specs.inside.project.Solve.{rows_of}
use Rattle.repair.proofs.project.fields.Fields.rows_at.Given as goal

abbrev pub invariant-loop-i : goal.invariant-loop-i
invariant-loop-i l =
    (length l.rows ≡ 8) × (every (usable l.p) (drop l.i l.self.list.now) ≡ every (usable l.p) l.self.list.now) × (rows_of (take l.i l.rows) ≡ map (normalised l.p) (take l.i l.self.list.now))
