-- What `flip` lists at its start: the shared faces and the edges of bad elements, each behind a copy of the elements. Assumes nothing.
use mathlib.Core.Path.{◌≡◌, refl, sym, ap, ap₂, subst, ◌∙◌}
use mathlib.Core.List.{List, [], ◌∷◌, ◌++◌, map, append_assoc}
use Prim.Native.Nat.{ℕ, ◌+◌, ◌-◌, ◌*◌, ◌≤◌}
use native.Mathlib.Omega.{arith}
use borrow.Author.Tests.{le-leb}
use lib.ListN.{length, take, drop, length-append, length-replicate}
use lib.Seq.{length-take-le}
use Rattle.geometry.specs.declared.point.Point.{Point}
use Rattle.mesh.specs.declared.element.Tet.{Tet}
use Rattle.mesh.specs.declared.list.Listed.{Listed}
use Rattle.mesh.specs.declared.star.Index.{Index}
use Rattle.mesh.specs.Words.{zero_words, copied, flat}
use Rattle.mesh.specs.Sort.{sort, unique}
use Rattle.mesh.specs.inside.Rows.{rows, le_row, eq_row}
use Rattle.mesh.specs.Complex.{keep}
use Rattle.mesh.specs.Element.{key_of, tets, vertices_of}
use Rattle.mesh.specs.Boundary.{same_triple, le_triple, all_faces}
use Rattle.mesh.specs.inside.Group.{runs, same_first}
use Rattle.mesh.specs.inside.Euler.{spread, edge_rows}
use Rattle.mesh.specs.inside.List.{bad_in, set_of, bad_edges, list_fits, Listing, listed_in}
use Rattle.mesh.specs.inside.Shared.{has_two, bad_keys, shared_faces, shared_row, shared_fits, Shares, shared_in, owned_from}
use Rattle.mesh.proofs.Laws.Rows.{Shape, none, more, length-flat, shape-sort, shape-unique}
use Rattle.mesh.proofs.Laws.Sort.{length-sort}
use Rattle.mesh.proofs.Laws.Unique.{length-unique}
use Rattle.mesh.proofs.Laws.Boundary.Same.{length-keep, length-map}
use Rattle.mesh.proofs.Laws.List.Push.{shape-append}
use Rattle.mesh.proofs.Laws.Shared.Runs.{runs-shared}
use Rattle.mesh.proofs.Laws.Shared.Scan.{shape-runs}
use Rattle.repair.specs.inside.Layout.{Same}
use Rattle.repair.specs.inside.flip.Layout.{FlipRoom, faces_at, edges_at}
use Rattle.repair.specs.inside.flip.Prepare.{FacesLaid, EdgesLaid}
use Rattle.repair.proofs.Laws.Flip.Part.{part-long, part-elements, part_same, part-rows}
use Rattle.mesh.proofs.Laws.Intake.Reads.{length-tets}
use Rattle.mesh.proofs.Laws.Boundary.Meaning.{length-faces}
use Rattle.mesh.proofs.Laws.List.Rows.{length-vertices}

-- ---- shared faces

module _ (ps : List Point) (ts : List Tet) where
  abbrev shared : List (List ℕ)
  shared = map (shared_row ts) (shared_faces ps ts)

  shared-shape : Shape 5 (length shared) shared
  shared-shape = subst (λ (l : List (List ℕ)). Shape 5 (length l) l) (runs-shared ps ts) (shape-runs (runs (same_first 3) (sort le_row (owned_from ps 0 ts))))

  -- no more than four an element
  shared-few : length shared ≤ 4 * length ts
  unfolding shared_faces bad_keys
  shared-few =
      let bad = keep (bad_in ps) ts in
      let keys = map key_of (all_faces bad) in
      let us = unique same_triple (sort le_triple keys) in
      let a = length-map (shared_row ts) (keep (has_two ts) us) in
      let b = length-keep (has_two ts) us in
      let c = length-unique same_triple (sort le_triple keys) in
      let d = length-sort le_triple keys in
      let e = length-map key_of (all_faces bad) in
      let f = length-faces bad in
      let g = length-keep (bad_in ps) ts in
      omega arith

  shared-is : (n : ℕ) (s : List ℕ) → tets n s ≡ ts → n ≤ 65536 → 44 * n ≤ length s
      → shared_in ps n s ≡ record { number = length shared; area = take (4 * n) s ++ (flat shared ++ zero_words (length s - (4 * n + length (flat shared)))) }
  unfolding shared_in shared_fits
  shared-is n s e h g = rw (e, le-leb n 65536 h, le-leb (44 * n) (length s) g) refl

module _ (x : Index) (n : ℕ) (ps : List Point) (els w w₁ p v : List ℕ) (r : ℕ) (room : FlipRoom x n (length w)) (long : 4 * n ≤ length els) (from to : ℕ) (start : from ≡ faces_at x) (end : to ≡ edges_at x n)
    (copy : w₁ ≡ copied els 0 w from (4 * n)) (found : ◌≡◌ {A = Shares} (record { number = r; area = p }) (shared_in ps n (take (to - from) (drop from w₁))))
    (put : v ≡ take from w₁ ++ (p ++ drop (to - from) (drop from w₁))) where
  e₁ : w₁ ≡ copied els 0 w (faces_at x) (4 * n)
  e₁ = copy ∙ ap (λ (i : ℕ). copied els 0 w i (4 * n)) start

  abbrev s : List ℕ
  s = take (faces_at x + 44 * n - faces_at x) (drop (faces_at x) w₁)

  e₂ : ◌≡◌ {A = Shares} (record { number = r; area = p }) (shared_in ps n s)
  e₂ = found ∙ ap₂ (λ (i j : ℕ). shared_in ps n (take (j - i) (drop i w₁))) start end

  e₃ : v ≡ take (faces_at x) w₁ ++ (p ++ drop (faces_at x + 44 * n - faces_at x) (drop (faces_at x) w₁))
  e₃ = put ∙ ap₂ (λ (i j : ℕ). take i w₁ ++ (p ++ drop (j - i) (drop i w₁))) start end

  abbrev ts : List Tet
  ts = tets n els

  fits : faces_at x + 44 * n ≤ length w
  fits = let a = room.lengths in let b = room.long in omega arith

  s-long : length s ≡ 44 * n
  s-long = part-long els w w₁ (faces_at x) (44 * n) n long fits (omega arith) e₁

  answer : ◌≡◌ {A = Shares} (record { number = r; area = p }) (record { number = length (shared ps ts); area = take (4 * n) s ++ (flat (shared ps ts) ++ zero_words (length s - (4 * n + length (flat (shared ps ts))))) })
  answer =
      let a = room.elements in let b = s-long in
      e₂ ∙ shared-is ps ts n s (part-elements els w w₁ (faces_at x) (44 * n) n long fits (omega arith) e₁) (omega arith) (omega arith)

  number : r ≡ length (shared ps ts)
  number = ap (λ (u : Shares). u.number) answer

  area : p ≡ take (4 * n) s ++ (flat (shared ps ts) ++ zero_words (length s - (4 * n + length (flat (shared ps ts)))))
  area = ap (λ (u : Shares). u.area) answer

  few : r ≤ 4 * n
  few = let a = number in let b = shared-few ps ts in let c = length-tets n els in omega arith

  front : length (take (4 * n) s) ≡ 4 * n
  front = let a = s-long in length-take-le (4 * n) s (omega arith)

  p-long : length p ≡ 44 * n
  p-long =
      let z = zero_words (length s - (4 * n + length (flat (shared ps ts)))) in
      let a = ap length area in
      let b = length-append (take (4 * n) s) (flat (shared ps ts) ++ z) in
      let c = length-append (flat (shared ps ts)) z in
      let d = length-replicate {A = ℕ} (length s - (4 * n + length (flat (shared ps ts)))) 0 in
      let e = length-flat (shared-shape ps ts) in
      let f = front in let g = few in let h = number in let i = s-long in
      omega arith

  pub faces-laid : FacesLaid x n ps (tets n els) r w v
  faces-laid = record {
    same = part_same els w w₁ (faces_at x) (44 * n) n long fits (omega arith) e₁ p v p-long e₃;
    rows = ap (λ (k : ℕ). rows 5 k (drop (faces_at x + 4 * n) v)) number ∙ part-rows els w w₁ (faces_at x) (44 * n) n long fits (omega arith) e₁ p v p-long e₃ (shared-shape ps ts) (take (4 * n) s) _ area (4 * n) front;
    few = few;
  }

-- ---- edges of bad elements

module _ (ps : List Point) (ts : List Tet) where
  abbrev bad : List Tet
  bad = keep (bad_in ps) ts

  shape-edges : (us : List Tet) → Shape 2 (length (spread edge_rows us)) (spread edge_rows us)
  unfolding spread
  shape-edges [] = none
  shape-edges (t ∷ us) = shape-append (edge_rows t) (spread edge_rows us) (more refl (more refl (more refl (more refl (more refl (more refl none)))))) (shape-edges us)

  bad-shape : Shape 2 (length (bad_edges ps ts)) (bad_edges ps ts)
  unfolding set_of
  bad-shape = shape-unique (shape-sort (shape-edges bad))

  edges-many : (us : List Tet) → length (spread edge_rows us) ≡ 6 * length us
  unfolding spread
  edges-many [] = refl
  edges-many (t ∷ us) = let h = edges-many us in omega arith

  bad-few : length (bad_edges ps ts) ≤ 6 * length bad
  unfolding set_of
  bad-few =
      let rs = spread edge_rows bad in
      let a = length-unique eq_row (sort le_row rs) in
      let b = length-sort le_row rs in
      let c = edges-many bad in
      omega arith

  edges_are : (n : ℕ) (s : List ℕ) → tets n s ≡ ts → n ≤ 65536 → 32 * n ≤ length s
      → listed_in (bad_edges ps) ps n s ≡ record {
        listed = record { elements = length bad; rows = length (bad_edges ps ts) };
        area = take (4 * n) s ++ (flat (map vertices_of bad) ++ (flat (bad_edges ps ts) ++ zero_words (length s - (4 * n + length (flat (map vertices_of bad)) + length (flat (bad_edges ps ts))))));
      }
  unfolding listed_in list_fits
  edges_are n s e h g = rw (e, le-leb n 65536 h, le-leb (32 * n) (length s) g) refl

module _ (x : Index) (n : ℕ) (ps : List Point) (els w w₁ p v : List ℕ) (r : Listed) (room : FlipRoom x n (length w)) (long : 4 * n ≤ length els) (from : ℕ) (start : from ≡ edges_at x n)
    (copy : w₁ ≡ copied els 0 w from (4 * n)) (found : ◌≡◌ {A = Listing} (record { listed = r; area = p }) (listed_in (bad_edges ps) ps n (take (x.area - from) (drop from w₁))))
    (put : v ≡ take from w₁ ++ (p ++ drop (x.area - from) (drop from w₁))) where
  end : x.area ≡ edges_at x n + 32 * n
  end = let a = room.area in omega arith

  f₁ : w₁ ≡ copied els 0 w (edges_at x n) (4 * n)
  f₁ = copy ∙ ap (λ (i : ℕ). copied els 0 w i (4 * n)) start

  abbrev s₂ : List ℕ
  s₂ = take (edges_at x n + 32 * n - edges_at x n) (drop (edges_at x n) w₁)

  f₂ : ◌≡◌ {A = Listing} (record { listed = r; area = p }) (listed_in (bad_edges ps) ps n s₂)
  f₂ = found ∙ ap₂ (λ (i j : ℕ). listed_in (bad_edges ps) ps n (take (j - i) (drop i w₁))) start end

  f₃ : v ≡ take (edges_at x n) w₁ ++ (p ++ drop (edges_at x n + 32 * n - edges_at x n) (drop (edges_at x n) w₁))
  f₃ = put ∙ ap₂ (λ (i j : ℕ). take i w₁ ++ (p ++ drop (j - i) (drop i w₁))) start end

  abbrev us : List Tet
  us = tets n els

  abbrev es : List ℕ
  es = flat (map vertices_of (bad ps us))

  abbrev zs : List ℕ
  zs = zero_words (length s₂ - (4 * n + length es + length (flat (bad_edges ps us))))

  fits₂ : edges_at x n + 32 * n ≤ length w
  fits₂ = let a = room.lengths in let b = room.long in omega arith

  s₂-long : length s₂ ≡ 32 * n
  s₂-long = part-long els w w₁ (edges_at x n) (32 * n) n long fits₂ (omega arith) f₁

  answer₂ : ◌≡◌ {A = Listing} (record { listed = r; area = p }) (record { listed = record { elements = length (bad ps us); rows = length (bad_edges ps us) }; area = take (4 * n) s₂ ++ (es ++ (flat (bad_edges ps us) ++ zs)) })
  answer₂ =
      let a = room.elements in let b = s₂-long in
      f₂ ∙ edges_are ps us n s₂ (part-elements els w w₁ (edges_at x n) (32 * n) n long fits₂ (omega arith) f₁) (omega arith) (omega arith)

  elements₂ : r.elements ≡ length (bad ps us)
  elements₂ = ap (λ (u : Listing). u.listed.elements) answer₂

  rows₂ : r.rows ≡ length (bad_edges ps us)
  rows₂ = ap (λ (u : Listing). u.listed.rows) answer₂

  area₂ : p ≡ (take (4 * n) s₂ ++ es) ++ (flat (bad_edges ps us) ++ zs)
  area₂ = ap (λ (u : Listing). u.area) answer₂ ∙ sym (append_assoc (take (4 * n) s₂) es (flat (bad_edges ps us) ++ zs))

  few-bad : r.elements ≤ n
  few-bad = let a = elements₂ in let b = length-keep (bad_in ps) us in let c = length-tets n els in omega arith

  few-rows : r.rows ≤ 6 * n
  few-rows = let a = rows₂ in let b = bad-few ps us in let c = few-bad in let d = elements₂ in omega arith

  front₂ : length (take (4 * n) s₂ ++ es) ≡ 4 * n + 4 * r.elements
  front₂ =
      let a = s₂-long in
      let b = length-take-le (4 * n) s₂ (omega arith) in
      let c = length-append (take (4 * n) s₂) es in
      let d = length-vertices (bad ps us) in
      let e = elements₂ in
      omega arith

  p-long₂ : length p ≡ 32 * n
  p-long₂ =
      let a = ap length area₂ in
      let b = length-append (take (4 * n) s₂ ++ es) (flat (bad_edges ps us) ++ zs) in
      let c = length-append (flat (bad_edges ps us)) zs in
      let d = length-replicate {A = ℕ} (length s₂ - (4 * n + length es + length (flat (bad_edges ps us)))) 0 in
      let e = length-flat (bad-shape ps us) in
      let f = front₂ in let g = few-rows in let h = rows₂ in let i = s₂-long in let j = few-bad in
      let k = length-vertices (bad ps us) in let l = elements₂ in
      omega arith

  pub edges-laid : EdgesLaid x n ps (tets n els) r w v
  edges-laid =
      let o : edges_at x n + (4 * n + 4 * r.elements) ≡ edges_at x n + 4 * n + 4 * r.elements = omega arith in
      record {
        same = subst (Same w v (edges_at x n)) (sym end) (part_same els w w₁ (edges_at x n) (32 * n) n long fits₂ (omega arith) f₁ p v p-long₂ f₃);
        rows = ap₂ (λ (k i : ℕ). rows 2 k (drop i v)) rows₂ (sym o) ∙ part-rows els w w₁ (edges_at x n) (32 * n) n long fits₂ (omega arith) f₁ p v p-long₂ f₃ (bad-shape ps us) (take (4 * n) s₂ ++ es) zs area₂ (4 * n + 4 * r.elements) front₂;
        few_bad = few-bad;
        few = few-rows;
      }
