-- `report::report::plot_text` meets its contract: the buffers are those of the definition. Assumes nothing.
use Rattle.std.proofs.Common.{◌≡◌, length, ap, ◌∙◌, arith, length-take-le}
use Rattle.report.specs.Report.{placed}
use Rattle.report.specs.Block.{plot_in}
use Rattle.report.proofs.Laws.Passed.{read-fields}
use Rattle.report.proofs.Laws.Plot.{plot-printed}
use Rattle.report.proofs.Laws.Counted.{run-ready}
use Rattle.report.proofs.report.plot_text.Goals as goal

pub slice_bounds-all-end : goal.slice_bounds-all-end
slice_bounds-all-end c = let n = read-fields c.args.s.now c.requires in omega (arith, n, c.word.ensures)

pub slice_bounds-print_run-end : goal.slice_bounds-print_run-end
slice_bounds-print_run-end c =
    let n = read-fields c.args.s.now c.requires in
    let e : length c.fields-all.result ≡ 8 = ap length c.fields-all.ensures in
    let l = length-take-le c.word.result c.fields-all.result (omega (arith, n, c.word.ensures, e)) in
    omega arith

pub print_run-requires : goal.print_run-requires
print_run-requires c =
    let n = read-fields c.args.s.now c.requires in
    let e : length c.fields-all.result ≡ 8 = ap length c.fields-all.ensures in
    let l = length-take-le c.word.result c.fields-all.result (omega (arith, n, c.word.ensures, e)) in
    (omega (arith, n, c.word.ensures), run-ready _ _ _ _ c.run_passes-ran.ensures.fact)

pub returns : goal.returns
returns c = (plot-printed c.args.s.now _ _ _ _ _ _ _ _ _ _ _ _ c.options.ensures c.fields-all.ensures c.word.ensures c.read_plot.ensures.room.0 c.read_plot.ensures.room.1 (c.read_plot.ensures.fact ∙ ap (placed (plot_in c.args.s.now)) c.new-buffers.ensures) c.run_passes-ran.ensures.fact c.print_run.ensures.0, c.print_run.ensures.1)
