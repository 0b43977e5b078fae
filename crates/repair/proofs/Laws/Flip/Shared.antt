-- The faces that `mesh::shared` lists are those that `flip` tries: their owners are the numbers with their corners, and the other listed
-- faces change nothing. Assumes nothing.
use mathlib.Core.Path.{◌≡◌, refl, sym, ap, ◌∙◌}
use mathlib.Core.Logic.{inl, inr}
use mathlib.Core.Bool.{Bool, true, false}
use mathlib.Core.List.{List, [], ◌∷◌, map}
use mathlib.Core.Option.{none, some}
use Prim.Native.Nat.{ℕ, zero, suc, ◌+◌, ◌<◌}
use native.Mathlib.Nat.{not-suc-le-zero, le_of_suc-le-suc}
use native.Mathlib.Omega.{arith}
use lib.Dec.{eqb}
use lib.ListN.{length, get_or}
use Rattle.geometry.specs.declared.point.Point.{Point}
use Rattle.mesh.specs.declared.element.Triple.{Triple}
use Rattle.mesh.specs.declared.element.Tet.{Tet}
use Rattle.mesh.specs.Sort.{sort, unique}
use Rattle.mesh.specs.Complex.{keep}
use Rattle.mesh.specs.Tests.{every}
use Rattle.mesh.specs.Element.{tet, corners_of, key_of}
use Rattle.mesh.specs.Boundary.{same_triple, le_triple, all_faces}
use Rattle.mesh.specs.Words.{numbers}
use Rattle.mesh.specs.inside.Shared.{owners, has_two, bad_keys, shared_faces}
use Rattle.mesh.specs.Measure.{Measure, measure}
use Rattle.mesh.proofs.Laws.Complex.Sets.{split, and-fst, and-snd}
use Rattle.mesh.proofs.Laws.Boundary.Same.{length-map}
use Rattle.mesh.proofs.Laws.Link.Simplices.{rising}
use Rattle.mesh.proofs.Laws.Link.Keys.{Fours}
use Rattle.mesh.proofs.Laws.Shared.Meaning.{holds, owners-are}
use Rattle.repair.specs.Flip.{State, slot_has, numbers_with, listed_faces, try_face, try_faces}
use Rattle.repair.proofs.Laws.Improve.Short.{Live, bad-same}
use Rattle.repair.proofs.Laws.Flip.Listed.{faces-rise}

-- ---- what is listed

-- "faces .. of elements that are bad at the start of the pass"
pub keys-listed : (ps : List Point) (ts : List Tet) → Live ts → bad_keys ps ts ≡ listed_faces (measure ps) ts
unfolding bad_keys listed_faces
keys-listed ps ts live = ap (λ (l : List Tet). unique same_triple (sort le_triple (map key_of (all_faces l)))) (bad-same ps ts live)

-- ---- owners

-- a slot of the start
slot_at : (z : Tet) (ts : List Tet) (i : ℕ) → i < length ts → get_or (map some ts) i none ≡ some (get_or ts i z)
slot_at z [] i h = absurd (not-suc-le-zero h)
slot_at z (t ∷ ts) zero h = refl
slot_at z (t ∷ ts) (suc i) h = slot_at z ts i (le_of_suc-le-suc h)

-- two tests that agree on the numbers
keep-numbers : (p q : ℕ → Bool) (k n : ℕ) → ((i : ℕ) → i < k + n → p i ≡ q i) → keep p (numbers k n) ≡ keep q (numbers k n)
unfolding numbers
keep-numbers p q k zero e = refl
keep-numbers p q k (suc n) e =
    let here = e k (omega arith) in
    let ih = keep-numbers p q (k + 1) n (λ i h. e i (omega arith)) in
    elim (split (q k)) [ inl h ↦ rw (here, h) (ap (λ (l : List ℕ). k ∷ l) ih) | inr h ↦ rw (here, h) ih ]

-- the owners of a listed face are the numbers of the elements that have its three vertices
pub owners-numbers : (ts : List Tet) → Fours ts → (f : Triple) → rising (corners_of f) ≡ true → owners ts f ≡ numbers_with (corners_of f) (map some ts)
owners-numbers ts d f h =
    let z = tet 0 0 0 0 in
    let σ = corners_of f in
    owners-are f h z ts d
    ∙ keep-numbers (holds σ ts z) (λ i. slot_has σ (get_or (map some ts) i none)) 0 (length ts) (λ i l. sym (ap (slot_has σ) (slot_at z ts i (omega arith))))
    ∙ ap (λ (n : ℕ). keep (λ i. slot_has σ (get_or (map some ts) i none)) (numbers 0 n)) (sym (length-map some ts))

-- ---- trials

module _ (μ : Measure) (ts : List Tet) (d : Fours ts) where
  -- a face without exactly two owners changes nothing
  idle : (s : State) (f : Triple) → rising (corners_of f) ≡ true → has_two ts f ≡ false → try_face μ ts s f ≡ s
  unfolding try_face
  idle s f r h = rw (ap (λ (l : List ℕ). eqb (length l) 2) (sym (owners-numbers ts d f r)) ∙ h) refl

  skipped : (s : State) (fs : List Triple) → every (λ f. rising (corners_of f)) fs ≡ true → try_faces μ ts s (keep (has_two ts) fs) ≡ try_faces μ ts s fs
  unfolding try_faces
  skipped s [] h = refl
  skipped s (f ∷ fs) h =
      let r = and-fst (rising (corners_of f)) (every (λ g. rising (corners_of g)) fs) h in
      let rest = and-snd (rising (corners_of f)) (every (λ g. rising (corners_of g)) fs) h in
      elim (split (has_two ts f)) [
        | inl e ↦ rw e (skipped (try_face μ ts s f) fs rest)
        | inr e ↦ rw e (skipped s fs rest ∙ ap (λ (u : State). try_faces μ ts u fs) (sym (idle s f r e)))
      ]

-- "two-to-three over shared faces in key order": to try the shared faces is to try all that are listed
pub shared-tried : (ps : List Point) (ts : List Tet) → Live ts → Fours ts → (s : State) → try_faces (measure ps) ts s (shared_faces ps ts) ≡ try_faces (measure ps) ts s (listed_faces (measure ps) ts)
unfolding shared_faces
shared-tried ps ts live d s =
    ap (λ (l : List Triple). try_faces (measure ps) ts s (keep (has_two ts) l)) (keys-listed ps ts live)
    ∙ skipped (measure ps) ts d s (listed_faces (measure ps) ts) (faces-rise (measure ps) ts d)
