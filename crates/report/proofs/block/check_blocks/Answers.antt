-- `report::block::check_blocks` meets its contract. The invariant: what is left from the block k on is the whole. Assumes nothing.
use Rattle.std.proofs.Common.{◌≡◌, ℕ, ◌+◌, ◌-◌, sym, refl, ap, ◌∙◌, arith}
use Rattle.std.proofs.lemmas.Result.{err_from_is_err_and}
use Rattle.report.specs.Block.{blocks_from, end_number}
use Rattle.report.specs.inside.Error.{error_number, number_of}
use Rattle.report.proofs.Laws.Blocks.{blocks-stop, blocks-go, blocks_end}
use Rattle.report.proofs.Laws.Errors.{error-some}
use Rattle.report.proofs.block.check_blocks.Goals as goal

pub returns-in_err-check : goal.returns-in_err-check
returns-in_err-check c =
    let p = err_from_is_err_and c.from_residual.result c.from_residual.ensures.1 in
    let e = c.in_err-check.field-0.0 in
    let q : error_number e ≡ blocks_from c.args.s.now c.args.counts.vertices c.args.counts.elements c.blocks-n.result 1 =
    blocks-stop c.args.s.now c.args.counts.vertices c.args.counts.elements (c.blocks-n.result + 1 - c.loop-k.k) c.loop-k.k (error_number e) _ (omega arith) (rw (c.kind_of.ensures, c.count_of.ensures.0) at c.in_err-check.ensures) c.loop-k.invariant (error-some e) in
    rw (p.1, p.2) (q ∙ ap (λ (u : ℕ). blocks_from c.args.s.now c.args.counts.vertices c.args.counts.elements u 1) c.blocks-n.ensures.0)

pub loop-k-preserved : goal.loop-k-preserved
loop-k-preserved c =
    let e : c.blocks-n.result + 1 - c.loop-k.k - 1 ≡ c.blocks-n.result + 1 - (c.loop-k.k + 1) = omega arith in
    ap (λ (u : ℕ). blocks_from c.args.s.now c.args.counts.vertices c.args.counts.elements u (c.loop-k.k + 1)) (sym e)
    ∙ blocks-go c.args.s.now c.args.counts.vertices c.args.counts.elements (c.blocks-n.result + 1 - c.loop-k.k) c.loop-k.k 0 _ (omega arith) (rw (c.kind_of.ensures, c.count_of.ensures.0) at c.in_ok-check.ensures) c.loop-k.invariant refl

pub returns : goal.returns
returns c =
    let e : c.loop-k.k ≡ c.blocks-n.result + 1 = omega arith in
    let v = c.args.counts.vertices in
    let w = c.args.counts.elements in
    blocks_end c.args.s.now v w (c.blocks-n.result + 1 - c.loop-k.k) c.loop-k.k (number_of c.check_end.result) _ (omega arith)
    (c.check_end.ensures ∙ ap (end_number c.args.s.now) (sym e)) c.loop-k.invariant
    ∙ ap (λ (u : ℕ). blocks_from c.args.s.now v w u 1) c.blocks-n.ensures.0
