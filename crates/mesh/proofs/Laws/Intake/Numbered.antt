-- The vertices of well numbered elements. Assumes nothing.
use Rattle.std.proofs.Common.{◌≡◌, ℕ, ◌<◌, true, ltb, [], ◌∷◌, ltb-true}
use Rattle.mesh.specs.declared.element.Tet.{Tet}
use Rattle.mesh.specs.Tests.{nodup, under}
use Rattle.mesh.specs.Element.{vertices_of}
use Rattle.mesh.specs.Intake.{well_numbered}
use Rattle.mesh.proofs.Laws.Bools.{and_left, and_right}

-- the vertices of a well numbered element are below n
pub below : (n : ℕ) (t : Tet) → well_numbered n t ≡ true → (t.a < n) × (t.b < n) × (t.c < n) × (t.d < n)
below n t h =
    let u = and_left (under n (vertices_of t)) (nodup (vertices_of t)) h in
    let b = and_right (ltb t.a n) (under n (t.b ∷ t.c ∷ t.d ∷ [])) u in
    let c = and_right (ltb t.b n) (under n (t.c ∷ t.d ∷ [])) b in
    let d = and_right (ltb t.c n) (under n (t.d ∷ [])) c in (
      ltb-true t.a n (and_left (ltb t.a n) (under n (t.b ∷ t.c ∷ t.d ∷ [])) u),
      ltb-true t.b n (and_left (ltb t.b n) (under n (t.c ∷ t.d ∷ [])) b),
      ltb-true t.c n (and_left (ltb t.c n) (under n (t.d ∷ [])) c),
      ltb-true t.d n (and_left (ltb t.d n) true d),
    )
