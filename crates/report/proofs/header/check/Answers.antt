-- `report::header::check` meets its contract. Assumes nothing.
use Rattle.std.proofs.Common.{◌≡◌, refl}
use Rattle.std.proofs.lemmas.Result.{err_from_is_err_and}
use Rattle.report.specs.Block.{reading_number}
use Rattle.report.specs.inside.Error.{error_number, number_of}
use Rattle.report.proofs.Laws.Blocks.{reading-stop, reading-go}
use Rattle.report.proofs.Laws.Errors.{error-some}
use Rattle.report.proofs.header.check.Goals as goal

pub returns-in_err-check_file : goal.returns-in_err-check_file
returns-in_err-check_file c =
    let p = err_from_is_err_and c.from_residual.result c.from_residual.ensures.1 in
    let e = c.in_err-check_file.field-0.0 in
    let q : error_number e ≡ reading_number c.args.s.now = reading-stop c.args.s.now (error_number e) c.in_err-check_file.ensures (error-some e) in
    rw (p.1, p.2) q

pub returns : goal.returns
returns c = reading-go c.args.s.now 0 (number_of c.check_kinds.result) c.in_ok-check_file.ensures refl c.check_kinds.ensures
