-- `report::buffers::put_surface` meets its contract, by that of `boundary`. Assumes nothing.
use Rattle.std.proofs.Common.{ap, ◌∙◌}
use Rattle.mesh.specs.Surface.{outcome_of, triples_of}
use Rattle.report.proofs.Laws.Plot.{surface-put, unwrapped}
use Rattle.report.proofs.buffers.put_surface.Goals as goal

pub returns : goal.returns
returns c =
    let a = c.args in
    let b = c.boundary in
    let w = surface-put a.n a.elements.now a.surface.now a.work.now b.new.surface b.new.work (outcome_of b.result) c.requires.0 c.requires.1 c.requires.2 c.requires.3 b.ensures in
    (c.unwrap_or.ensures ∙ unwrapped b.result ∙ ap triples_of w.0, w.1)
