-- The places of fields meet their contract. Assumes nothing.
use Rattle.std.proofs.Common.{ap, ◌∙◌, lt-ltb, le-ltb}
use Rattle.mesh.specs.Words.{zero_words}
use Rattle.report.specs.Write.{field_words, place_words}
use Rattle.report.proofs.write.PlacesRowsU32FIELD_SIZE.put.Goals as goal

pub returns-then-j-self : goal.returns-then-j-self
unfolding place_words
returns-then-j-self c = rw (lt-ltb c.args.j c.args.self.now.0.now.count c.if-j-self.true) (c.copy_from_slice.ensures.after ∙ c.field_words.ensures ∙ ap field_words c.field_at.ensures)

pub returns-else-j-self : goal.returns-else-j-self
unfolding place_words
returns-else-j-self c = rw (le-ltb c.args.j c.args.self.now.0.now.count c.if-j-self.false) (c.zero_all.ensures ∙ ap zero_words c.requires.1)
