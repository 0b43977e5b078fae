-- What a file that is read has: each block is whole, adds to 0, has what is expected and zeros in its spare words; nothing is behind the
-- last; and the fields' kinds are known. Assumes nothing.
use Rattle.std.proofs.Common.{◌≡◌, ℕ, zero, suc, ◌+◌, ◌*◌, ◌%◌, ◌^◌, ◌<◌, ◌≤◌, Bool, true, false, cond, not, ◌&&◌, eqb, ltb, leb, List, length, refl, subst, inl, inr, arith, ltb-false, eqb-true, leb-true}
use Rattle.mesh.specs.Words.{numbers}
use Rattle.mesh.specs.Tests.{every}
use Rattle.mesh.proofs.Laws.Bools.{split, and_left, and_right}
use Rattle.mesh.proofs.Laws.NumbersFrom.{numbers-mem}
use Rattle.mesh.proofs.Laws.Link.Simplices.{every-mem}
use Rattle.mesh.proofs.Laws.Parts.{side}
use Rattle.report.specs.Format.{words_a_block, bytes_a_block, header_kind, field_places, ball_kind}
use Rattle.report.specs.Bytes.{word_in, sum_of}
use Rattle.report.specs.Block.{Plot, not_whole, adds_to_zero, is_expected, spare_zero, block_number, vertex_blocks, element_blocks, kind_of, count_of, blocks_from, vertices_in, elements_in, limit_number, body_number, file_number, fields_in, kind_at, kinds_number, reading_number, plot_in, reading}
use Rattle.report.specs.Block.{refused, read}
use Rattle.report.specs.Write.{blocks_of}
use Rattle.report.proofs.Laws.Kinds.{known}
use Rattle.report.proofs.Laws.Limits.{first-zero}

-- ---- a block

-- a block of this kind and count to which no number applies
pub record Passed (s : List ℕ) (k kind count : ℕ) : Type 0 where
  pub whole : bytes_a_block * (k + 1) ≤ length s
  pub sum : sum_of s (words_a_block * k) words_a_block % 2 ^ 32 ≡ 0
  pub kind-is : word_in s (words_a_block * k) ≡ kind
  pub number_is : word_in s (words_a_block * k + 1) ≡ k
  pub count-is : word_in s (words_a_block * k + 2) ≡ count
  pub spare : spare_zero s k kind count ≡ true

-- a chain of tests that gives no number
chain : (a b c d : Bool) → ◌≡◌ {A = ℕ} (cond a 1 (cond (not b) 2 (cond (not c) 3 (cond (not d) 30 0)))) 0
    → (a ≡ false) × (b ≡ true) × (c ≡ true) × (d ≡ true)
chain true b c d h = absurd (omega arith)
chain false false c d h = absurd (omega arith)
chain false true false d h = absurd (omega arith)
chain false true true false h = absurd (omega arith)
chain false true true true h = (refl, refl, refl, refl)

-- the tests of a block, one by one
pub block-passed : (s : List ℕ) (k kind count : ℕ) → block_number s k kind count ≡ 0 → Passed s k kind count
unfolding block_number adds_to_zero
block-passed s k kind count h =
    let a = word_in s (words_a_block * k) in
    let b = word_in s (words_a_block * k + 1) in
    let c = word_in s (words_a_block * k + 2) in
    let t = chain (not_whole s k) (adds_to_zero s k) (is_expected s k kind count) (spare_zero s k kind count) h in
    let r = and_right (eqb a kind) (eqb b k && eqb c count) t.2 in
    record {
      whole = ltb-false (length s) (bytes_a_block * (k + 1)) t.0;
      sum = eqb-true (sum_of s (words_a_block * k) words_a_block % 2 ^ 32) 0 t.1;
      kind-is = eqb-true a kind (and_left (eqb a kind) (eqb b k && eqb c count) t.2);
      number_is = eqb-true b k (and_left (eqb b k) (eqb c count) r);
      count-is = eqb-true c count (and_right (eqb b k) (eqb c count) r);
      spare = t.3;
    }

-- ---- the blocks

-- each of n blocks from the block k on
each-zero : (s : List ℕ) (v e n k : ℕ) → blocks_from s v e n k ≡ 0 → (j : ℕ) → k ≤ j → j < k + n → block_number s j (kind_of v j) (count_of v e j) ≡ 0
unfolding blocks_from
each-zero s v e zero k h j l u = absurd (omega arith)
each-zero s v e (suc n) k h j l u =
    let f = first-zero (block_number s k (kind_of v k) (count_of v e k)) (blocks_from s v e n (k + 1)) h in
    elim (side k j) [
      | inl g ↦ each-zero s v e n (k + 1) f.1 j (omega arith) (omega arith)
      | inr g ↦ (let same : k ≡ j = omega arith in subst (λ (i : ℕ). block_number s i (kind_of v i) (count_of v e i) ≡ 0) same f.0)
    ]

-- nothing is behind them
end-zero : (s : List ℕ) (v e n k : ℕ) → blocks_from s v e n k ≡ 0 → length s ≤ bytes_a_block * (k + n)
unfolding blocks_from
end-zero s v e zero k h = elim (split (ltb (bytes_a_block * k) (length s))) [
  | inl t ↦ absurd (no (rw t at h))
  | inr f ↦ (let l = ltb-false (bytes_a_block * k) (length s) f in omega arith)
]
  where
    no : ◌≡◌ {A = ℕ} 1 0 → ⊥
    no z = omega arith
end-zero s v e (suc n) k h =
    let f = first-zero (block_number s k (kind_of v k) (count_of v e k)) (blocks_from s v e n (k + 1)) h in
    let l = end-zero s v e n (k + 1) f.1 in
    omega arith

module _ (s : List ℕ) (number : reading_number s ≡ 0) where
  -- no number of the blocks
  file-zero : file_number s ≡ 0
  unfolding reading_number
  file-zero = (first-zero (file_number s) (kinds_number s) number).0

  -- the header
  pub header-passed : Passed s 0 header_kind 1
  unfolding file_number
  header-passed = block-passed s 0 header_kind 1 (first-zero (block_number s 0 header_kind 1) (body_number s (vertices_in s) (elements_in s)) file-zero).0

  abbrev vertices : ℕ
  vertices = vertices_in s

  abbrev elements : ℕ
  elements = elements_in s

  -- nor of those behind the header
  rest-zero : blocks_from s vertices elements (vertex_blocks vertices + element_blocks elements) 1 ≡ 0
  unfolding file_number body_number
  rest-zero =
      (first-zero (limit_number vertices elements) (blocks_from s vertices elements (vertex_blocks vertices + element_blocks elements) 1)
      (first-zero (block_number s 0 header_kind 1) (body_number s vertices elements) file-zero).1).1

  -- the block k behind it
  pub next-passed : (k : ℕ) → 0 < k → k < blocks_of (vertices_in s) (elements_in s)
      → Passed s k (kind_of (vertices_in s) k) (count_of (vertices_in s) (elements_in s) k)
  next-passed k some l =
      block-passed s k (kind_of vertices k) (count_of vertices elements k)
      (each-zero s vertices elements (vertex_blocks vertices + element_blocks elements) 1 rest-zero k some (omega arith))

  -- how long the file is
  pub read_length : length s ≡ bytes_a_block * blocks_of (vertices_in s) (elements_in s)
  read_length =
      let rest = vertex_blocks vertices + element_blocks elements in
      let end = end-zero s vertices elements rest 1 rest-zero in
      elim (side 0 rest) [
        | inl l ↦ (let whole = (next-passed rest l (omega arith)).whole in omega arith)
        | inr l ↦ (let whole = header-passed.whole in omega arith)
      ]

  -- no number of the fields
  kinds-all : (leb (fields_in s) field_places && every (known s) (numbers 0 (fields_in s))) ≡ true
  unfolding reading_number kinds_number
  kinds-all = yes (leb (fields_in s) field_places && every (known s) (numbers 0 (fields_in s))) (first-zero (file_number s) (kinds_number s) number).1
    where
      yes : (b : Bool) → ◌≡◌ {A = ℕ} (cond b 0 11) 0 → b ≡ true
      yes true h = refl
      yes false h = absurd (omega arith)

  -- at most 8 fields
  pub read-fields : fields_in s ≤ field_places
  read-fields = leb-true (fields_in s) field_places (and_left (leb (fields_in s) field_places) (every (known s) (numbers 0 (fields_in s))) kinds-all)

  -- each of a known kind
  pub kind-known : (j : ℕ) → j < fields_in s → kind_at s j ≤ ball_kind
  kind-known j l =
      leb-true (kind_at s j) ball_kind
      (every-mem (known s) (numbers 0 (fields_in s))
      (and_right (leb (fields_in s) field_places) (every (known s) (numbers 0 (fields_in s))) kinds-all) j
      (numbers-mem 0 (fields_in s) j (omega arith) (omega arith)))

-- ---- the reading

-- a plot that is read is what the file holds
pub read-plot : (s : List ℕ) (p : Plot) → reading s ≡ read p → (reading_number s ≡ 0) × (p ≡ plot_in s)
unfolding reading
read-plot s p h = elim (split (eqb (reading_number s) 0)) [
  | inl t ↦ (eqb-true (reading_number s) 0 t, same (plot_in s) (rw t at h))
  | inr f ↦ absurd (no (reading_number s) (rw f at h))
]
  where
    same : (q : Plot) → read q ≡ read p → p ≡ q
    same q e = cc

    no : (n : ℕ) → refused n ≡ read p → ⊥
    no n e = let z : ◌≡◌ {A = ℕ} 0 1 = cc in omega arith
