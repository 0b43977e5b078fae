-- `report::plot::File::put_header` meets its contract: the record, then the end. Assumes nothing.
use Rattle.std.proofs.Common.{ℕ, ◌-◌, [], ◌∷◌, arith, zero-add}
use Rattle.report.specs.Format.{header_kind, record_room, header_size, field_places}
use Rattle.report.specs.Bytes.{listed}
use Rattle.report.specs.Write.{place_words, header_record, header_front}
use Rattle.report.proofs.Laws.Write.Puts.{put_then, put_as, put-closed}
use Rattle.report.proofs.Laws.Write.Sizes.{header-rest}
use Rattle.report.proofs.plot.File.put_header.Goals as goal

pub returns : goal.returns
unfolding header_front header_record
returns c =
    let p = c.args.self.now.plot.now in
    let options = rw c.options_words.ensures at c.put_words-e.ensures.0 in
    let places = put_as (λ i. listed (λ (r : ℕ). place_words p.count p.fields (zero-add r i)) field_places) c.put_rows-g.ensures.0 in
    let all = put_then (p.vertices ∷ p.elements ∷ []) _ c.put_words-d.ensures.0 (put_then _ _ options (put_then _ _ c.put_word-f.ensures.0 places)) in
    (put-closed header_kind 0 1 (header_record p.options p.count p.fields p.vertices p.elements) (record_room - header_size) (header-rest p.options p.count p.fields p.vertices p.elements) c.put_front-c.ensures.0 all c.put_end.ensures.0, omega (arith, c.put_front-c.ensures.1, c.put_words-d.ensures.1, c.put_words-e.ensures.1, c.put_word-f.ensures.1, c.put_rows-g.ensures.1, c.put_end.ensures.1))
