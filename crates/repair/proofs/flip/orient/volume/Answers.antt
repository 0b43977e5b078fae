-- `repair::flip::orient::volume` meets its contract. Assumes nothing.
use mathlib.Core.Path.{◌∙◌}
use lib.IntN.{pos}
use lib.Ieee.{Float, fin}
use mathlib.Core.Bool.{true}
use Rattle.std.proofs.Common.{rules, tests}
use Rattle.std.proofs.lemmas.Iterator.{YieldsList-from_slice}
use Rattle.std.proofs.lemmas.Iterator.Consumers.{fold_from_yields_List}
use Rattle.geometry.specs.Float.{◌+₆₄◌, total}
use Rattle.mesh.specs.declared.element.Tet.{Tet}
use Rattle.mesh.specs.Words.{points_in}
use Rattle.mesh.specs.Measure.{determinant_of}
use Rattle.repair.proofs.Laws.Flip.Accepted.{fold-total}
use Rattle.repair.proofs.flip.orient.volume.Goals as goal

pub returns : goal.returns
unfolding lib.Ieee.of_bits lib.Ieee.neg total
returns c =
    let g = determinant_of (points_in c.args.points) in
    fold_from_yields_List _ (λ (a : Float) (t : Tet). a +₆₄ g t) (fin true 0 (pos 0)) _ c.fold.ensures.ran (YieldsList-from_slice c.args.ts.now cc) (λ a x b q k. search (rules, tests)) ∙ fold-total g (fin true 0 (pos 0)) c.args.ts.now
