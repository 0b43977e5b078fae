-- Elements measured one after the other, as src/quality.rt does. For the contracts of private functions; definitions only.
use Rattle.std.specs.Prelude.{Bool, not, cond, ◌&&◌, List, [], ◌∷◌, ◌+◌, Float, Option, None, Some}
use Rattle.std.specs.Float.Ieee.{lt}
use Rattle.geometry.specs.Float.{◌+₆₄◌, one64, smaller}
use Rattle.geometry.specs.Literals.{e_12}
use Rattle.geometry.specs.Score.{bad}
use Rattle.mesh.specs.declared.element.Tet.{Tet}
use Rattle.mesh.specs.Tests.{every, nodup}
use Rattle.mesh.specs.Element.{vertices_of}
use Rattle.mesh.specs.Measure.{Measure}
use Rattle.repair.specs.declared.quality.Tally.{Tally}

-- no elements yet
abbrev pub started : Tally
started = record { lowest = one64; bad = 0 }

-- one more score
unfoldable pub counted : Tally → Float → Tally
counted r s = record { lowest = smaller r.lowest s; bad = cond (bad s) (r.bad + 1) r.bad }

-- the elements counted
unfoldable pub tallied : Measure → Tally → List Tet → Tally
tallied μ r [] = r
tallied μ r (t ∷ ts) = tallied μ (counted r (μ.score t)) ts

-- determinant above 0 and a score no more than 1e-12 below the limit
abbrev pub allowed : Measure → Float → Tet → Bool
allowed μ limit t = μ.above t && not (lt (μ.score t +₆₄ e_12) limit)

-- one more element, passed over where two of its vertices are the same; nothing where it is not allowed
unfoldable pub judged : Measure → Float → Tally → Tet → Option Tally
judged μ limit r t = cond (nodup (vertices_of t)) (cond (allowed μ limit t) (Some (counted r (μ.score t))) None) (Some r)

-- what ts count on top of r where all are allowed, and nothing where one is not
unfoldable pub all_judged : Measure → Float → Tally → List Tet → Option Tally
all_judged μ limit r ts = cond (every (allowed μ limit) ts) (Some (tallied μ r ts)) None
