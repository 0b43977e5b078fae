-- `mesh::manifold::nonmanifold_in` meets its contract: the edges first, then the links. Assumes nothing.
use Rattle.std.proofs.Common.{◌≡◌, ◌*◌, List, not, sym, subst, ap, ◌∙◌, arith}
use Rattle.mesh.specs.declared.element.Triple.{Triple}
use Rattle.mesh.specs.Tests.{every}
use Rattle.mesh.specs.Element.{triples, all_corners}
use Rattle.mesh.specs.Manifold.{one_cycle, surface_link, nonmanifold}
use Rattle.mesh.specs.inside.Manifold.{KeptBelow}
use Rattle.mesh.proofs.Laws.Manifold.Growth.{kept-both}
use Rattle.mesh.proofs.Laws.Manifold.Whole.{triples-kept, manifold-no, manifold-yes, kept-fits, fits-is, in-no, in-yes}
use Rattle.mesh.proofs.manifold.nonmanifold_in.Goals as goal
use Rattle.mesh.proofs.manifold.nonmanifold_in.Goals.{then-edges_twice, else-edges_twice}

pub returns-then-not-surface_fits : goal.returns-then-not-surface_fits
returns-then-not-surface_fits c = in-no c.args.n c.args.area.now (sym c.surface_fits.ensures ∙ c.if-not-surface_fits.true)

pub edges_twice-requires : goal.edges_twice-requires
edges_twice-requires c = let f = fits-is c.args.n c.args.area.now (sym c.surface_fits.ensures ∙ c.if-not-surface_fits.false) in (f.0, f.1)

pub links_cycle-manifold-requires : goal.links_cycle-manifold-requires
links_cycle-manifold-requires c = kept-fits c.args.n c.edges_twice.ensures.1 (fits-is c.args.n c.args.area.now (sym c.surface_fits.ensures ∙ c.if-not-surface_fits.false))

pub overflow_mul-n : goal.overflow_mul-n
overflow_mul-n c = let f = fits-is c.args.n c.args.area.now (sym c.surface_fits.ensures ∙ c.if-not-surface_fits.false) in omega (arith, f.0)

pub clear_from-requires : goal.clear_from-requires
clear_from-requires c =
    let f = fits-is c.args.n c.args.area.now (sym c.surface_fits.ensures ∙ c.if-not-surface_fits.false) in
    omega (arith, f.1, c.if-edges_twice.auto.area, c.edges_twice.ensures.1.long)

pub returns : goal.returns
returns c =
    let n = c.args.n in
    let s = c.args.area.now in
    let e = c.edges_twice in
    let k : (not c.if-edges_twice.manifold ≡ nonmanifold (triples n s)) × KeptBelow (3 * n) s c.if-edges_twice.area =
    elim c.if-edges_twice.branch [
      | then-edges_twice w ↦ (
        ap not w.manifold-is
            ∙ manifold-yes n s w.links_cycle-manifold.result (sym e.ensures.0 ∙ w.if-edges_twice.true)
            (w.links_cycle-manifold.ensures.0 ∙ ap (λ (fs : List Triple). every (λ v. one_cycle (surface_link v fs)) (all_corners fs)) (triples-kept n e.ensures.1)),
        subst (KeptBelow (3 * n) s) (sym w.area-is) (kept-both (3 * n) s e.new.area w.links_cycle-manifold.new.area e.ensures.1 w.links_cycle-manifold.ensures.1),
      )
      | else-edges_twice w ↦ (
        ap not (w.manifold-is ∙ w.if-edges_twice.false) ∙ manifold-no n s (sym e.ensures.0 ∙ w.if-edges_twice.false),
        subst (KeptBelow (3 * n) s) (sym w.area-is) e.ensures.1,
      )
    ] in
    in-yes n s c.if-edges_twice.area c.clear_from.new.area _ (sym c.surface_fits.ensures ∙ c.if-not-surface_fits.false) k.0 k.1 c.clear_from.ensures
