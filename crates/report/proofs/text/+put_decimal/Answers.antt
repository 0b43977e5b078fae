-- `put_decimal` meets its contract, by recursion on the number. Assumes nothing.
use Rattle.std.proofs.Common.{refl, arith}
use Rattle.report.proofs.Laws.Text.{written_one, written-more, decimal-short}
use Rattle.report.proofs.text.+put_decimal.Goals as goal

pub returns-then-n-lt10 : goal.returns-then-n-lt10
returns-then-n-lt10 t c = (written_one c.args.out.now _ c.args.at c.args.n _ c.if-n-lt10.true refl c.put.ensures, omega arith)

pub returns : goal.returns
returns t c =
    let w = written-more c.args.out.now c.put_decimal-end.new.out c.put-2.new.out c.args.at c.put_decimal-end.result c.args.n _ c.if-n-lt10.false c.put_decimal-end.ensures.0 refl c.put-2.ensures in
    (w, (let p = w.place in let l = decimal-short c.args.n (omega arith) in omega arith))
