-- Rows of fields. Assumes nothing.
use mathlib.Core.Path.{◌≡◌}
use mathlib.Core.List.{List}
use lib.ListN.{length, length-map}
use Rattle.repair.specs.declared.project.rows.Row.{Row}
use Rattle.repair.specs.inside.project.Solve.{row_of, rows_of}

-- as many as the code's rows
pub rows_long : (rows : List Row) → length (rows_of rows) ≡ length rows
rows_long rows = length-map rows row_of
