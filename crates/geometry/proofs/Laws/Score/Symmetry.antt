-- With the last two points exchanged the determinant is its negation, but for the sign of a zero. Assumes nothing.
use Rattle.std.proofs.Common.{◌≡◌, subst}
use lib.Ieee.{Float, neg, lt}
use Rattle.geometry.proofs.Laws.Float.Mirror.{Same, same-trans, same_add, add-neg, sub-mirror, mul-comm-f, mul-neg, same-mul, opposite}
use Rattle.geometry.specs.declared.point.Point.{Point}
use Rattle.geometry.specs.Float.{◌+₆₄◌, ◌-₆₄◌, ◌*₆₄◌, zero64}
use Rattle.geometry.specs.Point.{difference, cross, determinant}

-- (p * q - r * s) and (s * r - q * p)
turn : (p q r s : Float) → Same ((p *₆₄ q) -₆₄ (r *₆₄ s)) (neg ((s *₆₄ r) -₆₄ (q *₆₄ p)))
turn p q r s =
    subst (λ (z : Float). Same (z -₆₄ (r *₆₄ s)) (neg ((s *₆₄ r) -₆₄ (q *₆₄ p)))) (mul-comm-f q p)
    (subst (λ (z : Float). Same ((q *₆₄ p) -₆₄ z) (neg ((s *₆₄ r) -₆₄ (q *₆₄ p)))) (mul-comm-f s r) (sub-mirror (s *₆₄ r) (q *₆₄ p)))

-- a product with the negation
term : (w k k' : Float) → Same k' (neg k) → Same (w *₆₄ k') (neg (w *₆₄ k))
term w k k' h = subst (λ (z : Float). Same (w *₆₄ k') z) (mul-neg w k) (same-mul w k' (neg k) h)

sum : (t u t' u' : Float) → Same t' (neg t) → Same u' (neg u) → Same (t' +₆₄ u') (neg (t +₆₄ u))
sum t u t' u' h k = same-trans (t' +₆₄ u') (neg t +₆₄ neg u) (neg (t +₆₄ u)) (same_add t' (neg t) u' (neg u) h k) (add-neg t u)

pub exchanged : (a b c d : Point) → Same (determinant a b d c) (neg (determinant a b c d))
unfolding determinant
exchanged a b c d =
    let w = difference b a in
    let u = difference c a in
    let v = difference d a in
    let k = cross u v in
    let k' = cross v u in
    let tx = w.x *₆₄ k.x in
    let ty = w.y *₆₄ k.y in
    let tz = w.z *₆₄ k.z in
    let tx' = w.x *₆₄ k'.x in
    let ty' = w.y *₆₄ k'.y in
    let tz' = w.z *₆₄ k'.z in
    sum (tx +₆₄ ty) tz (tx' +₆₄ ty') tz'
    (sum tx ty tx' ty' (term w.x k.x k'.x (turn v.y u.z v.z u.y)) (term w.y k.y k'.y (turn v.z u.x v.x u.z)))
    (term w.z k.z k'.z (turn v.x u.y v.y u.x))

-- so one is above 0 exactly where the other is below
pub orientation : (a b c d : Point) → lt zero64 (determinant a b d c) ≡ lt (determinant a b c d) zero64
orientation a b c d = opposite (determinant a b c d) (determinant a b d c) (exchanged a b c d)
