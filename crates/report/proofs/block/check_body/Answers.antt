-- `report::block::check_body` meets its contract. Assumes nothing.
use Rattle.std.proofs.Common.{◌+◌, refl, le-ltb, lt-ltb}
use Rattle.report.specs.Format.{most_vertices, most_elements}
use Rattle.report.specs.Block.{vertex_blocks, element_blocks}
use Rattle.report.specs.inside.Error.{number_of}
use Rattle.report.proofs.Laws.Blocks.{body-many, body-few}
use Rattle.report.proofs.block.check_body.Goals as goal
use Rattle.report.proofs.block.check_body.Goals.{then-vertices-gt-MOST_VERTICES-via-then-vertices-gt-MOST_VERTICES, then-vertices-gt-MOST_VERTICES-via-else-vertices-gt-MOST_VERTICES+then-elements-gt-MOST_ELEMENTS}

pub returns-then-vertices-gt-MOST_VERTICES : goal.returns-then-vertices-gt-MOST_VERTICES
returns-then-vertices-gt-MOST_VERTICES c =
    elim c.then-vertices-gt-MOST_VERTICES.branch [
      | then-vertices-gt-MOST_VERTICES-via-then-vertices-gt-MOST_VERTICES w ↦ body-many c.args.s.now c.args.vertices c.args.elements (rw (lt-ltb most_vertices c.args.vertices w.if-vertices-gt-MOST_VERTICES.true))
      | then-vertices-gt-MOST_VERTICES-via-else-vertices-gt-MOST_VERTICES+then-elements-gt-MOST_ELEMENTS w ↦ body-many c.args.s.now c.args.vertices c.args.elements (rw (le-ltb most_vertices c.args.vertices w.if-vertices-gt-MOST_VERTICES.false, lt-ltb most_elements c.args.elements w.if-elements-gt-MOST_ELEMENTS.true))
    ]

pub returns : goal.returns
returns c = body-few c.args.s.now c.args.vertices c.args.elements (vertex_blocks c.args.vertices + element_blocks c.args.elements) (number_of c.check_blocks.result) c.if-vertices-gt-MOST_VERTICES.false c.if-elements-gt-MOST_ELEMENTS.false refl c.check_blocks.ensures
