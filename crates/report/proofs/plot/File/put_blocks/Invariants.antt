-- `report::plot::File::put_blocks` meets its contract. The invariant: k blocks stand there. Assumes nothing.
use Rattle.std.proofs.Common.{◌≡◌, ◌*◌, ◌≤◌, length}
use Rattle.report.specs.Format.{bytes_a_block}
use Rattle.report.specs.Bytes.{listed}
use Rattle.report.specs.Write.{file_block}
use Rattle.report.specs.Write.{plot_of}
use Rattle.report.specs.inside.Put.{Put}
use Rattle.report.proofs.plot.File.put_blocks.Given as goal

abbrev pub invariant-loop-k : goal.invariant-loop-k
invariant-loop-k l = (l.k ≤ l.n) × (length l.out ≡ length l.initial.out) × (l.at ≡ bytes_a_block * l.k) × Put l.initial.out l.out 0 0 l.at 0 (listed (file_block (plot_of l.self.plot.now)) l.k)
