-- `matrix::Matrix::solve_column` meets its contract: row k is divided, then the others are cleared. Assumes nothing.
use mathlib.Core.Path.{refl}
use Rattle.repair.proofs.Laws.Project.Window.{column-solved}
use Rattle.repair.proofs.project.matrix.Matrix.solve_column.Goals as goal

pub returns : goal.returns
returns c = let s = c.args.self.now in
    (c.clear.ensures.0, column-solved s.size s.rows c.args.k _ c.divided-pivot.result _ c.requires refl c.divided-pivot.ensures c.clear.ensures.1)
