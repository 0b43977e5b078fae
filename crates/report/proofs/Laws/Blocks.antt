-- Blocks one by one. Assumes nothing.
use Rattle.std.proofs.Common.{◌≡◌, ℕ, suc, ◌+◌, ◌-◌, ◌<◌, ◌≤◌, true, ◌||◌, ltb, List, sym, ap, ◌∙◌, arith, le-ltb, eq-eqb, ne_eqb}
use Rattle.report.specs.Format.{most_vertices, most_elements}
use Rattle.report.specs.Bytes.{first_of}
use Rattle.report.specs.Block.{block_number, kind_of, count_of, end_number, vertex_blocks, element_blocks, blocks_from, vertices_in, elements_in, body_number, file_number, kinds_number, reading_number}

-- the first of two numbers
pub first-stop : (m n : ℕ) → (m ≡ 0 → ⊥) → first_of m n ≡ m
first-stop m n h = rw (ne_eqb m 0 h)

pub first-go : (m n : ℕ) → m ≡ 0 → first_of m n ≡ n
first-go m n h = rw (eq-eqb m 0 h)

module _ (s : List ℕ) (v e left k m whole : ℕ) (some : 0 < left) (is : m ≡ block_number s k (kind_of v k) (count_of v e k)) (all : blocks_from s v e left k ≡ whole) where
  turn : blocks_from s v e left k ≡ first_of m (blocks_from s v e (left - 1) (k + 1))
  unfolding blocks_from
  turn = let f : left ≡ suc (left - 1) = omega arith in ap (λ (u : ℕ). blocks_from s v e u k) f ∙ ap (λ (u : ℕ). first_of u (blocks_from s v e (left - 1) (k + 1))) (sym is)

  -- the block's number is the file's
  pub blocks-stop : (m ≡ 0 → ⊥) → m ≡ whole
  blocks-stop h = sym (first-stop m (blocks_from s v e (left - 1) (k + 1)) h) ∙ (sym turn ∙ all)

  -- the block passes
  pub blocks-go : m ≡ 0 → blocks_from s v e (left - 1) (k + 1) ≡ whole
  blocks-go h = sym (first-go m (blocks_from s v e (left - 1) (k + 1)) h) ∙ (sym turn ∙ all)

-- no block is left
pub blocks_end : (s : List ℕ) (v e left k m whole : ℕ) → left ≡ 0 → m ≡ end_number s k → blocks_from s v e left k ≡ whole → m ≡ whole
unfolding blocks_from
blocks_end s v e left k m whole none is all = is ∙ (rw none at all)

-- 10 for too many
pub body-many : (s : List ℕ) (v e : ℕ) → (ltb most_vertices v || ltb most_elements e) ≡ true → 10 ≡ body_number s v e
unfolding body_number
body-many s v e h = rw h

-- the blocks, where there are few
pub body-few : (s : List ℕ) (v e n m : ℕ) → v ≤ most_vertices → e ≤ most_elements → n ≡ vertex_blocks v + element_blocks e → m ≡ blocks_from s v e n 1 → m ≡ body_number s v e
unfolding body_number
body-few s v e n m hv he is f = rw (le-ltb most_vertices v hv, le-ltb most_elements e he) (f ∙ ap (λ (u : ℕ). blocks_from s v e u 1) is)

-- the header's number, or that of what is behind it
pub file-stop : (s : List ℕ) (m : ℕ) → m ≡ block_number s 0 1 1 → (m ≡ 0 → ⊥) → m ≡ file_number s
unfolding file_number
file-stop s m is h = is ∙ sym (first-stop (block_number s 0 1 1) (body_number s (vertices_in s) (elements_in s)) (λ z. h (is ∙ z)))

pub file-go : (s : List ℕ) (m v e r : ℕ) → m ≡ block_number s 0 1 1 → m ≡ 0 → v ≡ vertices_in s → e ≡ elements_in s → r ≡ body_number s v e → r ≡ file_number s
unfolding file_number
file-go s m v e r is h f g k =
    k ∙ (ap (λ (u : ℕ). body_number s u e) f ∙ (ap (body_number s (vertices_in s)) g ∙ sym (first-go (block_number s 0 1 1) (body_number s (vertices_in s) (elements_in s)) (sym is ∙ h))))

-- the file's number, or that of the fields
pub reading-stop : (s : List ℕ) (m : ℕ) → m ≡ file_number s → (m ≡ 0 → ⊥) → m ≡ reading_number s
unfolding reading_number
reading-stop s m is h = is ∙ sym (first-stop (file_number s) (kinds_number s) (λ z. h (is ∙ z)))

pub reading-go : (s : List ℕ) (m r : ℕ) → m ≡ file_number s → m ≡ 0 → r ≡ kinds_number s → r ≡ reading_number s
unfolding reading_number
reading-go s m r is h k = k ∙ sym (first-go (file_number s) (kinds_number s) (sym is ∙ h))
