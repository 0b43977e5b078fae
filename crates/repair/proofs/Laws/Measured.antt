-- An element measured: the score where the determinant is above 0. Assumes nothing.
use Rattle.std.proofs.Common.{◌≡◌, Bool, true, false, cond, List, Some, None, Float, sym, refl}
use Rattle.std.proofs.lemmas.Option.{cond_some, none-some}
use Rattle.geometry.specs.declared.point.Point.{Point}
use Rattle.mesh.specs.declared.element.Tet.{Tet}
use Rattle.mesh.specs.Measure.{measure, score_of, measured_of}

pub measured-some : (ps : List Point) (t : Tet) (s : Float) → measured_of ps t ≡ Some s → ((measure ps).above t ≡ true) × (score_of ps t ≡ s)
measured-some ps t s e = cond_some ((measure ps).above t) (score_of ps t) s e

none-from : {A : Type 0} (b : Bool) (x : A) → cond b (Some x) None ≡ None → b ≡ false
none-from true x e = absurd (none-some x (sym e))
none-from false x e = refl

pub measured-none : (ps : List Point) (t : Tet) → measured_of ps t ≡ None → (measure ps).above t ≡ false
measured-none ps t e = none-from ((measure ps).above t) (score_of ps t) e
