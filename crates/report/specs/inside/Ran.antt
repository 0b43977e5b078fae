-- What the functions of src/run.rt return, as the run of specs/Run.antt. Definitions only.
use Rattle.std.specs.Prelude.{Result, Ok, Err}
use Rattle.mesh.specs.Refusal.{table_number}
use Rattle.report.specs.declared.run.Finished as finished
use Rattle.report.specs.declared.run.Stopped as stopped
use Rattle.report.specs.Run.{Ran, Finished, Stopped}

-- finished with the counts, or stopped by the number of a refusal
abbrev pub ran_of : Result finished.Finished stopped.Stopped → Ran
ran_of (Ok f) = Finished f.changes.collapsed f.changes.moved f.changes.reconnected f.sizes
ran_of (Err e) = Stopped (table_number e.refusal) e.sizes
