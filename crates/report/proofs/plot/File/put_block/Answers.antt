-- `report::plot::File::put_block` meets its contract, kind by kind. Assumes nothing.
use Rattle.std.proofs.Common.{ℕ, ◌-◌, ◌*◌, ap, arith, eq-eqb, ne_eqb, le-leb}
use borrow.Author.Tests.{lt-leb}
use Rattle.report.specs.Format.{vertices_a_block, elements_a_block}
use Rattle.report.specs.Block.{vertex_blocks}
use Rattle.report.specs.Write.{closed, block_front, vertex_record, element_record, records_from, vertex_front, element_front, file_front}
use Rattle.report.proofs.Laws.Write.Puts.{put_as}
use Rattle.report.proofs.plot.File.put_block.Goals as goal

pub returns-then-k-eq0 : goal.returns-then-k-eq0
unfolding file_front
returns-then-k-eq0 c = (rw (eq-eqb c.args.k 0 c.if-k-eq0.true) c.put_header.ensures.0, c.put_header.ensures.1)

pub returns-then-k-before : goal.returns-then-k-before
unfolding file_front vertex_front
returns-then-k-before c =
    let p = c.args.self.now.plot.now in
    let first = vertices_a_block * (c.args.k - 1) in
    (rw (ne_eqb c.args.k 0 c.if-k-eq0.false, le-leb c.args.k (vertex_blocks p.vertices) (omega arith)) (put_as (ap (λ (m : ℕ). closed (block_front 2 c.args.k m (records_from (vertex_record p.parameters.now p.points.now p.masks.now) first m))) c.min-n.ensures) c.put_records.ensures.0), c.put_records.ensures.1)

pub returns : goal.returns
unfolding file_front element_front
returns c =
    let p = c.args.self.now.plot.now in
    let one = put_as (ap (λ (m : ℕ). closed (block_front 3 c.args.k m (records_from (element_record p.corners.now) (elements_a_block * (c.args.k - 1 - c.vertex_blocks-before.result)) m))) c.min-n-2.ensures) c.put_records-2.ensures.0 in
    (rw (ne_eqb c.args.k 0 c.if-k-eq0.false, lt-leb c.args.k (vertex_blocks p.vertices) (omega arith)) (put_as (ap (λ (b : ℕ). closed (element_front p.corners.now p.elements b c.args.k)) c.vertex_blocks-before.ensures.0) one), c.put_records-2.ensures.1)
