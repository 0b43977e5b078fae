-- What a file that is read has: at most as many vertices and elements as `plot` takes. Assumes nothing.
use Rattle.std.proofs.Common.{◌≡◌, ℕ, ◌≤◌, Bool, true, false, ◌||◌, eqb, ltb, List, inl, inr, arith, ltb-false, eq-eqb, eqb-true}
use Rattle.mesh.proofs.Laws.Bools.{split, clash}
use Rattle.mesh.proofs.Laws.Intake.Chains.{neither_left, neither_right}
use Rattle.report.specs.Format.{most_vertices, most_elements}
use Rattle.report.specs.Bytes.{first_of}
use Rattle.report.specs.Block.{block_number, vertices_in, elements_in, body_number, file_number, kinds_number, reading_number}

-- the first of two numbers is 0 where both are
pub first-zero : (m n : ℕ) → first_of m n ≡ 0 → (m ≡ 0) × (n ≡ 0)
first-zero m n h = elim (split (eqb m 0)) [ inl t ↦ (eqb-true m 0 t, (rw t at h)) | inr f ↦ (let z : m ≡ 0 = (rw f at h) in (z, absurd (no (eqb m 0) (eq-eqb m 0 z) f))) ]
  where
    no : (b : Bool) → b ≡ true → b ≡ false → ⊥
    no b t f = clash b t f

-- the counts of a body without a number
pub body-counts : (s : List ℕ) (v e : ℕ) → body_number s v e ≡ 0 → (v ≤ most_vertices) × (e ≤ most_elements)
unfolding body_number
body-counts s v e h = elim (split (ltb most_vertices v || ltb most_elements e)) [
  | inl t ↦ absurd (no (rw t at h))
  | inr f ↦ (ltb-false most_vertices v (neither_left (ltb most_vertices v) (ltb most_elements e) f), ltb-false most_elements e (neither_right (ltb most_vertices v) (ltb most_elements e) f))
]
  where
    no : ◌≡◌ {A = ℕ} 10 0 → ⊥
    no z = omega arith

-- the counts of a file that is read
pub read-few : (s : List ℕ) → reading_number s ≡ 0 → (vertices_in s ≤ most_vertices) × (elements_in s ≤ most_elements)
unfolding reading_number file_number
read-few s h =
    let f = first-zero (file_number s) (kinds_number s) h in
    let b = first-zero (block_number s 0 1 1) (body_number s (vertices_in s) (elements_in s)) f.0 in
    body-counts s (vertices_in s) (elements_in s) b.1
