-- `report::spare::used_in` meets its contract. Assumes nothing.
use Rattle.std.proofs.Common.{◌+◌, ◌*◌, sym, ◌∙◌, arith, le-ltb, lt-ltb, eq-eqb, ne_eqb}
use Rattle.report.specs.Format.{count_place, first_field, field_size, level_kind}
use Rattle.report.specs.Bytes.{word_in}
use Rattle.report.specs.Block.{used_in}
use Rattle.report.proofs.spare.used_in.Goals as goal

pub returns-then-word-j : goal.returns-then-word-j
unfolding used_in
returns-then-word-j c = let e = c.word.ensures in (rw (le-ltb c.args.j (word_in c.args.s.now count_place) (omega arith)), omega arith)

pub returns-then-word-from : goal.returns-then-word-from
unfolding used_in
returns-then-word-from c = let e = c.word.ensures in (rw (lt-ltb c.args.j (word_in c.args.s.now count_place) (omega arith), eq-eqb (word_in c.args.s.now (first_field + field_size * c.args.j)) level_kind (sym c.word-2.ensures ∙ (c.if-word-from.true ∙ c.from.ensures))), omega arith)

pub returns : goal.returns
unfolding used_in
returns c = let e = c.word.ensures in (rw (lt-ltb c.args.j (word_in c.args.s.now count_place) (omega arith), ne_eqb (word_in c.args.s.now (first_field + field_size * c.args.j)) level_kind (λ f. c.if-word-from.false (c.word-2.ensures ∙ (f ∙ sym c.from.ensures)))), omega arith)
