-- `report::report::report` meets its contract, by its definition. Assumes nothing.
use Rattle.std.proofs.Common.{sym, ap, ◌∙◌, arith}
use Rattle.report.specs.Table.{refused_text}
use Rattle.report.proofs.Laws.Errors.{error-some}
use Rattle.report.proofs.Laws.Plot.{report-read, report-refused, report-written}
use Rattle.report.proofs.report.report.Goals as goal

pub plot_text-requires : goal.plot_text-requires
plot_text-requires c = sym c.in-Ok.ensures

pub returns-in-Ok : goal.returns-in-Ok
returns-in-Ok c =
    let both = report-written c.args.input.now _ (report-read c.args.input.now (sym c.in-Ok.ensures)) c.plot_text.ensures.0 c.plot_text.ensures.1 in
    record { out_after = both.0; value = both.1 }

pub returns-in-Err : goal.returns-in-Err
returns-in-Err c =
    let e = c.in-Err.error in
    let both = report-written c.args.input.now _ (ap refused_text (c.from.ensures ∙ c.in-Err.ensures) ∙ report-refused c.args.input.now (λ z. error-some e (c.in-Err.ensures ∙ z))) c.refused_text.ensures.0 (omega (arith, c.refused_text.ensures.1)) in
    record { out_after = both.0; value = both.1 }
