-- `report::block::check_file` meets its contract. Assumes nothing.
use Rattle.std.proofs.Common.{◌≡◌, refl}
use Rattle.std.proofs.lemmas.Result.{err_from_is_err_and}
use Rattle.report.specs.Block.{file_number}
use Rattle.report.specs.inside.Error.{error_number, number_of}
use Rattle.report.proofs.Laws.Blocks.{file-stop, file-go}
use Rattle.report.proofs.Laws.Errors.{error-some}
use Rattle.report.proofs.block.check_file.Goals as goal

pub returns-in_err-check : goal.returns-in_err-check
returns-in_err-check c =
    let p = err_from_is_err_and c.from_residual.result c.from_residual.ensures.1 in
    let e = c.in_err-check.field-0.0 in
    let q : error_number e ≡ file_number c.args.s.now = file-stop c.args.s.now (error_number e) c.in_err-check.ensures (error-some e) in
    rw (p.1, p.2) q

pub returns : goal.returns
returns c = file-go c.args.s.now 0 c.word.result c.word-2.result (number_of c.check_body.result) c.in_ok-check.ensures refl c.word.ensures c.word-2.ensures c.check_body.ensures
