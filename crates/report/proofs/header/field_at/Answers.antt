-- `report::header::field_at` meets its contract. Assumes nothing.
use Rattle.std.proofs.Common.{◌≡◌, ◌+◌, ◌*◌, ap, ◌∙◌, arith, le-ltb, lt-ltb}
use lib.Ieee.{of_bits}
use Rattle.report.specs.Format.{count_place, first_field, field_size}
use Rattle.report.specs.Bytes.{word_in}
use Rattle.report.specs.Block.{kind_at, field_from, field_at}
use Rattle.geometry.specs.declared.field.Kind.{Kind}
use Rattle.geometry.specs.Field.{number_of}
use Rattle.report.proofs.Laws.Kinds.{kind-field}
use Rattle.report.proofs.header.field_at.Goals as goal

pub returns-then-j-word : goal.returns-then-j-word
unfolding field_at
returns-then-j-word c =
    let e = c.word.ensures in
    let p = first_field + field_size * c.args.j in
    let q : p + 1 ≡ first_field + 1 + field_size * c.args.j = omega arith in
    let k = kind-field c.args.s.now (p + 1) c.word-then-j-word.result c.try_from.result c.try_from.ensures in
    let f : field_from c.args.s.now (number_of c.unwrap_or-kind.result) (p + 1) ≡ field_from c.args.s.now (kind_at c.args.s.now c.args.j) (first_field + 1 + field_size * c.args.j) =
    ap (λ (m : Kind). field_from c.args.s.now (number_of m) (p + 1)) c.unwrap_or-kind.ensures ∙ (k ∙ (λ i. field_from c.args.s.now (c.word-then-j-word.ensures i) (q i))) in
    rw (lt-ltb c.args.j (word_in c.args.s.now count_place) (omega arith)) (c.field_from.ensures ∙ f)

pub returns : goal.returns
unfolding field_at of_bits
returns c = let e = c.word.ensures in rw (le-ltb c.args.j (word_in c.args.s.now count_place) (omega arith))
