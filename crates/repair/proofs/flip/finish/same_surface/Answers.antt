-- `repair::flip::finish::same_surface` meets its contract. Assumes nothing.
use mathlib.Core.Path.{refl}
use Prim.Native.Nat.{◌*◌}
use lib.ListN.{drop}
use Rattle.repair.proofs.Laws.Flip.Surface.{keys-differ, surface-same, surface-kept}
use Rattle.repair.proofs.flip.finish.same_surface.Goals as goal

pub returns-then-c-g-clause-value : goal.returns-then-c-g-clause-value
returns-then-c-g-clause-value c =
    keys-differ c.args.c c.args.g (drop (4 * c.args.k) c.args.area.now) c.args.surface.now c.if-c-g.true

pub returns : goal.returns
returns c =
    record { value = surface-same c.args.k c.args.c c.args.g _ _ _ c.args.area.now c.args.surface.now c.requires.2 c.requires.3 refl refl refl c.put_sorted_keys.new.area _ c.put_sorted_keys-2.new.area c.put_sorted_keys.ensures c.copy_part.ensures c.put_sorted_keys-2.ensures c.if-c-g.false _ c.same_triples.ensures; same = surface-kept c.args.k c.args.c c.args.g _ _ _ c.args.area.now c.args.surface.now c.requires.2 c.requires.3 refl refl refl c.put_sorted_keys.new.area _ c.put_sorted_keys-2.new.area c.put_sorted_keys.ensures c.copy_part.ensures c.put_sorted_keys-2.ensures }
