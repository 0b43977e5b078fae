-- `geometry::score::score` meets its contract: by the values of its parts, and the test of the divisor. Assumes nothing.
use Rattle.std.proofs.Common.{◌≡◌, Bool, true, false, cond, sym, ap, ◌∙◌}
use lib.Ieee.{Float, eq, of_bits}
use Rattle.geometry.specs.declared.point.Point.{Point}
use Rattle.geometry.specs.Float.{◌*₆₄◌, ◌/₆₄◌, zero64, absolute}
use Rattle.geometry.specs.Root.{sqrt}
use Rattle.geometry.specs.Point.{determinant}
use Rattle.geometry.specs.Score.{R, squared_edges, score}
use Rattle.geometry.proofs.score.score.Goals as goal

-- by the parts' values
module _ (a b c d : Point) (l r : Float) (l-is : l ≡ squared_edges a b c d) (r-is : r ≡ sqrt l) where
  divisor-is : l *₆₄ r ≡ squared_edges a b c d *₆₄ sqrt (squared_edges a b c d)
  divisor-is = λ i. l-is i *₆₄ (r-is ∙ ap sqrt l-is) i

  pick : (t : Bool) → eq (l *₆₄ r) zero64 ≡ t → score a b c d ≡ cond t zero64 ((R *₆₄ absolute (determinant a b c d)) /₆₄ (l *₆₄ r))
  unfolding score
  pick t h = λ i. cond ((ap (λ (z : Float). eq z zero64) (sym divisor-is) ∙ h) i) zero64 ((R *₆₄ absolute (determinant a b c d)) /₆₄ (sym divisor-is) i)

pub returns-then-divisor : goal.returns-then-divisor
unfolding of_bits
returns-then-divisor c =
    let s = c.args in
    sym (pick s.a s.b s.c s.d c.squared_edges-l.result c.root.result c.squared_edges-l.ensures c.root.ensures true c.if-divisor.true)

pub returns : goal.returns
unfolding of_bits
returns c =
    let s = c.args in
    let l = c.squared_edges-l in
    let r = c.root in
    let v = c.determinant in
    sym
    (pick s.a s.b s.c s.d l.result r.result l.ensures r.ensures false c.if-divisor.false
    ∙ (λ i. (R *₆₄ (sym (c.absolute.ensures ∙ ap absolute v.ensures)) i) /₆₄ (l.result *₆₄ r.result)))
