-- The sorted rows of ranks and vertices: their runs of the same rank, read as vertices, are the groups in rank order, with members in number
-- order. Assumes nothing.
use Rattle.std.proofs.Common.{◌≡◌, ℕ, zero, suc, ◌+◌, ◌<◌, ◌≤◌, Bool, true, ◌&&◌, List, [], ◌∷◌, ◌++◌, map, length, get_or, take, sym, refl, ap, ◌∙◌, ap₂, inl, inr, append_assoc, arith, length-append, le-ltb, lt-ltb}
use mathlib.Core.List.Memᴰ
use mathlib.Core.List.{Memᴰ}
use lib.Seq.{get_or-append_seam}
use Rattle.geometry.specs.declared.point.Point.{Point}
use Rattle.geometry.specs.declared.bounds.Options.{Options}
use Rattle.geometry.specs.declared.bounds.Ranks.{Ranks}
use Rattle.geometry.specs.Rank.{rank}
use Rattle.mesh.specs.Words.{point_at, zero_point, numbers}
use Rattle.mesh.specs.Sort.{sort, unique}
use Rattle.mesh.specs.inside.Rows.{le_row, eq_row}
use Rattle.mesh.specs.Complex.{keep}
use Rattle.mesh.specs.Group.{same_ranks, le_ranks, rank_of, of_rank, group_of, groups}
use Rattle.mesh.specs.inside.Group.{runs, same_first, rank_words, group_row, vertex_in, group_rows}
use Rattle.mesh.proofs.Laws.Sort.{ordered-sort}
use Rattle.mesh.proofs.Laws.Rows.{le_row-total, le_row-take, eq_row-sound}
use Rattle.mesh.proofs.Laws.SortedRows.{sorted-rows-unique}
use Rattle.mesh.proofs.Laws.Link.Members.{keep_same}
use Rattle.mesh.proofs.Laws.Manifold.Kept.{Steady, none, more}
use Rattle.mesh.proofs.Laws.Manifold.RowRuns.{sorted-runs, kept-steady}
use Rattle.mesh.proofs.Laws.Group.Images.{sort-map, unique-map, ordered-map, count-sort-map, map-map, map_same}
use Rattle.mesh.proofs.Laws.Group.Ranks.{le-ranks, eq-ranks}
use Rattle.mesh.proofs.Laws.Numbers.{eqb_swap}
use Rattle.mesh.proofs.Laws.Boundary.Same.{keep-map}

-- ---- numbers

-- a list read by number
read-from : {A B : Type 0} (f : A → B) (d : A) (pre l : List A) → map (λ v. f (get_or (pre ++ l) v d)) (numbers (length pre) (length l)) ≡ map f l
unfolding numbers
read-from f d pre [] = refl
read-from {A} {B} f d pre (x ∷ l) =
    let e : length pre + 1 ≡ length (pre ++ (x ∷ [])) = sym (length-append pre (x ∷ [])) in
    ap₂ (λ (u : B) (v : List B). u ∷ v) (ap f (get_or-append_seam pre x l d))
    (ap₂ (λ (k : ℕ) (m : List A). map (λ v. f (get_or m v d)) (numbers k (length l))) e (sym (append_assoc pre (x ∷ []) l))
    ∙ read-from f d (pre ++ (x ∷ [])) l)

ranks-flip : (r s : Ranks) → same_ranks r s ≡ same_ranks s r
ranks-flip r s = ap₂ (λ (a b : Bool). a && b) (eqb_swap r.x s.x) (ap₂ (λ (a b : Bool). a && b) (eqb_swap r.y s.y) (eqb_swap r.z s.z))

-- ---- rows of one rank stand in number order

le-last : (a : List ℕ) (i j : ℕ) → i < j → le_row (a ++ (i ∷ [])) (a ++ (j ∷ [])) ≡ true
unfolding le_row
le-last [] i j h = simp (lt-ltb i j h)
le-last (x ∷ a) i j h = simp (le-ltb x x (omega arith)) (le-last a i j h)

module _ (o : Options) (ps : List Point) where
  numbered : (k n : ℕ) (y : List ℕ) → Memᴰ y (map (λ v. group_row (rank_of o ps v) v) (numbers k n)) → (j : ℕ) × (k ≤ j) × (y ≡ group_row (rank_of o ps j) j)
  unfolding numbers
  numbered k zero y m = absurd (Memᴰ.not-nil m)
  numbered k (suc n) y m =
      elim (Memᴰ.cases_cons m) [
        | inl q ↦ (k, omega arith, q)
        | inr q ↦ let r = numbered (k + 1) n y q in (r.0, (let h = r.1 in omega arith), r.2)
      ]

  steady-rows : (q : List ℕ) (k n : ℕ) → Steady le_row (same_first 6 q) (map (λ v. group_row (rank_of o ps v) v) (numbers k n))
  unfolding numbers
  steady-rows q k zero = none
  steady-rows q k (suc n) =
      more
      (λ y m h g.
      let r = numbered (k + 1) n y m in
      let l = r.1 in
      let e : rank_words (rank_of o ps k) ≡ rank_words (rank_of o ps r.0) =
      sym (eq_row-sound (take 6 q) (rank_words (rank_of o ps k)) h) ∙ eq_row-sound (take 6 q) (rank_words (rank_of o ps r.0)) (ap (same_first 6 q) (sym r.2) ∙ g) in
      ap₂ le_row (ap (λ (a : List ℕ). a ++ (k ∷ [])) e) r.2 ∙ le-last (rank_words (rank_of o ps r.0)) k r.0 (omega arith))
      (steady-rows q (k + 1) n)

  -- the vertices of the rows of a rank
  pub rows-of-rank : (q : Ranks) (w : ℕ) → map vertex_in (keep (same_first 6 (group_row q w)) (sort le_row (group_rows o ps))) ≡ of_rank o ps q
  unfolding group_rows
  rows-of-rank q w =
      let ns = numbers 0 (length ps) in
      let f : ℕ → List ℕ = λ v. group_row (rank_of o ps v) v in
      ap (map vertex_in) (kept-steady 6 (group_row q w) (map f ns) (steady-rows (group_row q w) 0 (length ps)) ∙ keep-map f (same_first 6 (group_row q w)) ns)
      ∙ map-map vertex_in f (keep (λ v. same_first 6 (group_row q w) (f v)) ns)
      ∙ same (keep (λ v. same_first 6 (group_row q w) (f v)) ns)
      ∙ keep_same (λ v. same_first 6 (group_row q w) (f v)) (λ v. same_ranks (rank_of o ps v) q) ns (λ v. eq-ranks q (rank_of o ps v) ∙ ranks-flip q (rank_of o ps v))
    where
      same : (l : List ℕ) → map (λ v. vertex_in (group_row (rank_of o ps v) v)) l ≡ l
      same [] = refl
      same (v ∷ l) = ap (λ (u : List ℕ). v ∷ u) (same l)

  -- the run of a vertex is its group
  pub run-of-vertex : (v : ℕ) → map vertex_in (keep (same_first 6 (group_row (rank_of o ps v) v)) (sort le_row (group_rows o ps))) ≡ group_of o ps v
  run-of-vertex v = rows-of-rank (rank_of o ps v) v

  -- the ranks of the rows, in order
  sorted-ranks : map (take 6) (sort le_row (group_rows o ps)) ≡ map rank_words (sort le_ranks (map (λ p. rank p o) ps))
  unfolding group_rows
  sorted-ranks =
      let ns = numbers 0 (length ps) in
      let f : ℕ → List ℕ = λ v. group_row (rank_of o ps v) v in
      sorted-rows-unique (map (take 6) (sort le_row (map f ns))) (map (take 6) (map f ns))
      (ordered-map (take 6) le_row le_row (le_row-take 6) (sort le_row (map f ns)) (ordered-sort le_row le_row-total (map f ns)))
      (λ z. count-sort-map (take 6) le_row eq_row z (map f ns))
      ∙ ap (sort le_row)
      (map-map (take 6) f ns ∙ sym (map-map rank_words (λ v. rank (point_at ps v) o) ns) ∙ ap (map rank_words) (read-from (λ p. rank p o) zero_point [] ps))
      ∙ sort-map rank_words le_ranks le_row le-ranks (map (λ p. rank p o) ps)

  -- the runs of the same rank are the groups
  pub runs-are-groups : map (map vertex_in) (runs (same_first 6) (sort le_row (group_rows o ps))) ≡ groups o ps
  unfolding groups
  runs-are-groups =
      let rs = sort le_row (group_rows o ps) in
      let us = unique (same_first 6) rs in
      let of : List ℕ → List ℕ = λ key. map vertex_in (keep (λ r. eq_row key (take 6 r)) rs) in
      let ranks = unique same_ranks (sort le_ranks (map (λ p. rank p o) ps)) in
      ap (map (map vertex_in)) (sorted-runs 6 (group_rows o ps))
      ∙ map-map (map vertex_in) (λ r. keep (same_first 6 r) rs) us
      ∙ sym (map-map of (take 6) us)
      ∙ ap (map of)
      (sym (unique-map (take 6) (same_first 6) eq_row (λ a b. refl) rs)
      ∙ ap (unique eq_row) sorted-ranks
      ∙ unique-map rank_words same_ranks eq_row eq-ranks (sort le_ranks (map (λ p. rank p o) ps)))
      ∙ map-map of rank_words ranks
      ∙ map_same (λ q. of (rank_words q)) (of_rank o ps) ranks (λ q. rows-of-rank q 0)
