-- `repair::flip::two_to_three::apex` meets its contract. Assumes nothing.
use mathlib.Core.Path.{◌∙◌}
use mathlib.Core.Bool.{not}
use mathlib.Core.List.{[], ◌∷◌}
use Prim.Native.Nat.{ℕ}
use Rattle.std.proofs.Common.{rules, tests}
use Rattle.std.proofs.lemmas.Iterator.{YieldsList-from_slice}
use Rattle.std.proofs.lemmas.Iterator.Consumers.{YieldsList-from_copied}
use Rattle.std.proofs.lemmas.Iterator.Search.{find_from_yields_List}
use Rattle.mesh.specs.Complex.{mem}
use Rattle.mesh.specs.Element.{corners_of}
use Rattle.repair.proofs.Laws.Flip.Apex.{apex-found}
use Rattle.repair.proofs.flip.two_to_three.apex.Goals as goal

pub returns : goal.returns
returns c =
    let t = c.args.t in
    let σ = corners_of c.args.f in
    c.unwrap_or.ensures
    ∙ apex-found σ t c.find.result (find_from_yields_List (λ (v : ℕ). not (mem v σ)) _ _ c.find.result c.find.ensures.ran (YieldsList-from_copied (YieldsList-from_slice (t.a ∷ t.b ∷ t.c ∷ []) cc)) (λ x b q k. search (rules, tests)))
