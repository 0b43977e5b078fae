-- `report::buffers::Buffers::read_plot` meets its contract, buffer by buffer. Assumes nothing.
use Rattle.std.proofs.Common.{◌≡◌, ℕ, ◌++◌, drop, ap, ◌∙◌, arith}
use Rattle.report.specs.Bytes.{listed}
use Rattle.report.specs.Block.{mask_row}
use Rattle.report.proofs.Laws.Limits.{read-few}
use Rattle.report.proofs.Laws.Plot.{plot-placed}
use Rattle.report.proofs.buffers.Buffers.read_plot.Goals as goal

pub put_rows-requires : goal.put_rows-requires
put_rows-requires c = let few = read-few c.args.s.now c.requires in let v = c.word-v.ensures in (omega (arith, few.0, v), omega (arith, few.0, v))

pub put_rows-requires-2 : goal.put_rows-requires-2
put_rows-requires-2 c = let few = read-few c.args.s.now c.requires in let v = c.word-v.ensures in (omega (arith, few.0, v), omega (arith, few.0, v))

pub put_rows-requires-3 : goal.put_rows-requires-3
put_rows-requires-3 c = let few = read-few c.args.s.now c.requires in let v = c.word-v.ensures in (omega (arith, few.0, v), omega (arith, few.0, v))

pub vertex_blocks-requires : goal.vertex_blocks-requires
vertex_blocks-requires c = let few = read-few c.args.s.now c.requires in let v = c.word-v.ensures in omega (arith, few.0, v)

pub put_rows-requires-4 : goal.put_rows-requires-4
put_rows-requires-4 c = let few = read-few c.args.s.now c.requires in let v = c.word-v.ensures in let n = c.word-n.ensures in (omega (arith, few.1, n), omega (arith, few.1, n))

pub put_surface-c-requires : goal.put_surface-c-requires
put_surface-c-requires c = let few = read-few c.args.s.now c.requires in let v = c.word-v.ensures in let n = c.word-n.ensures in (omega (arith, few.1, n), omega (arith, few.1, n, c.put_rows-4.auto.out), omega (arith, few.1, n), omega (arith, few.1, n))

pub returns-clause-fact : goal.returns-clause-fact
returns-clause-fact c =
    let a = c.args in
    let m : c.put_rows-3.new.out ≡ listed (mask_row a.s.now) c.word-v.result ++ drop c.word-v.result a.self.now.masks = c.put_rows-3.ensures ∙ ap (λ (k : ℕ). listed (mask_row a.s.now) c.word-v.result ++ drop k a.self.now.masks) (omega arith) in
    plot-placed a.s.now c.word-v.result c.word-n.result c.vertex_blocks.result c.put_surface-c.result c.put_rows.new.out a.self.now.parameters c.put_rows-2.new.out a.self.now.points c.put_rows-3.new.out a.self.now.masks c.put_rows-4.new.out a.self.now.elements c.put_surface-c.new.surface a.self.now.surface c.word-v.ensures c.word-n.ensures c.vertex_blocks.ensures.0 c.put_rows.ensures c.put_rows-2.ensures m c.put_rows-4.ensures c.put_surface-c.ensures.0 c.put_surface-c.ensures.1
