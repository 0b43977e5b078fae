-- The boundary of elements: its vertices are theirs, and its words. Assumes nothing.
use mathlib.Core.Path.{◌≡◌, refl, ap}
use mathlib.Core.Bool.{Bool, true}
use mathlib.Core.List.{List, [], ◌∷◌, ◌++◌, map}
use Prim.Native.Nat.{ℕ}
use Rattle.mesh.specs.declared.element.Tet.{Tet}
use Rattle.mesh.specs.declared.element.Triple.{Triple}
use Rattle.mesh.specs.Words.{flat}
use Rattle.mesh.specs.Tests.{every}
use Rattle.mesh.specs.Element.{corners_of, all_corners, all_vertices}
use Rattle.mesh.specs.Boundary.{all_faces, boundary_of, singles, le_triple}
use Rattle.mesh.proofs.Laws.Bools.{and_left, and_right}
use Rattle.repair.proofs.Laws.Improve.Edges.{every-keep}
use Rattle.mesh.proofs.Laws.Boundary.Same.{sort-every}

-- ---- vertices of the boundary

corners-every : (q : ℕ → Bool) (fs : List Triple) → every (λ f. every q (corners_of f)) fs ≡ true → every q (all_corners fs) ≡ true
unfolding all_corners
corners-every q [] h = refl
corners-every q (f ∷ fs) h =
    three (and_left (every q (corners_of f)) (every (λ g. every q (corners_of g)) fs) h) (corners-every q fs (and_right (every q (corners_of f)) (every (λ g. every q (corners_of g)) fs) h))
  where
    three : every q (corners_of f) ≡ true → every q (all_corners fs) ≡ true → every q (f.a ∷ f.b ∷ f.c ∷ all_corners fs) ≡ true
    three e g =
        let i = and_right (q f.a) (every q (f.b ∷ f.c ∷ [])) e in
        let j = and_right (q f.b) (every q (f.c ∷ [])) i in
        rw (and_left (q f.a) (every q (f.b ∷ f.c ∷ [])) e, and_left (q f.b) (every q (f.c ∷ [])) i, and_left (q f.c) (every q []) j, g) refl

pub faces-every : (q : ℕ → Bool) (ts : List Tet) → every q (all_vertices ts) ≡ true → every (λ f. every q (corners_of f)) (all_faces ts) ≡ true
unfolding all_vertices all_faces
faces-every q [] h = refl
faces-every q (t ∷ ts) h =
    let vs = all_vertices ts in
    let i = and_right (q t.a) (every q (t.b ∷ t.c ∷ t.d ∷ vs)) h in
    let j = and_right (q t.b) (every q (t.c ∷ t.d ∷ vs)) i in
    let k = and_right (q t.c) (every q (t.d ∷ vs)) j in
    rw (and_left (q t.a) (every q (t.b ∷ t.c ∷ t.d ∷ vs)) h, and_left (q t.b) (every q (t.c ∷ t.d ∷ vs)) i, and_left (q t.c) (every q (t.d ∷ vs)) j, and_left (q t.d) (every q vs) k)
    (faces-every q ts (and_right (q t.d) (every q vs) k))

-- the boundary has vertices of the elements only
pub boundary-every : (q : ℕ → Bool) (ts : List Tet) → every q (all_vertices ts) ≡ true → every q (all_corners (boundary_of ts)) ≡ true
unfolding boundary_of singles
boundary-every q ts h =
    corners-every q (boundary_of ts)
    (sort-every (λ f. every q (corners_of f)) le_triple (singles (all_faces ts))
    (every-keep (λ f. every q (corners_of f)) _ (all_faces ts) (faces-every q ts h)))

-- ---- words of the boundary

pub words-flat : (fs : List Triple) → flat (map corners_of fs) ≡ all_corners fs
unfolding flat all_corners
words-flat [] = refl
words-flat (f ∷ fs) = ap (λ (l : List ℕ). corners_of f ++ l) (words-flat fs)
