-- The runs of one key among the sorted rows give the shared faces of bad elements, in key order. Assumes nothing.
use Rattle.std.proofs.Common.{◌≡◌, ℕ, Bool, true, false, cond, not, ◌&&◌, eqb, List, [], ◌∷◌, ◌++◌, map, length, take, sym, refl, ap, ◌∙◌, ap₂, inl, inr}
use Rattle.geometry.specs.declared.point.Point.{Point}
use Rattle.mesh.specs.declared.element.Triple.{Triple}
use Rattle.mesh.specs.declared.element.Tet.{Tet}
use Rattle.mesh.specs.Sort.{sort, unique}
use Rattle.mesh.specs.inside.Rows.{le_row, eq_row}
use Rattle.mesh.specs.Complex.{keep}
use Rattle.mesh.specs.Element.{corners_of}
use Rattle.mesh.specs.inside.Group.{runs, same_first}
use Rattle.mesh.proofs.Laws.Bools.{split}
use Rattle.mesh.proofs.Laws.Boundary.Same.{keep-keep}
use Rattle.mesh.proofs.Laws.Manifold.RowRuns.{sorted-runs, kept-steady}
use Rattle.mesh.proofs.Laws.List.Push.{every-kept}
use Rattle.mesh.specs.inside.Shared.{has_two, shared_faces, shared_row, owned_from, run_row, runs_rows}
use Rattle.mesh.proofs.Laws.Shared.Rows.{of_key, owners-kept, marks-kept, run-gives}
use Rattle.mesh.proofs.Laws.Shared.Order.{steady-owned}
use Rattle.mesh.proofs.Laws.Shared.Keys.{keys_of, keys-are, in_bad, bad-keys}

-- ---- rows for each of a list

each : {A : Type 0} → (A → List (List ℕ)) → List A → List (List ℕ)
each h [] = []
each h (x ∷ l) = h x ++ each h l

runs-each : {A : Type 0} (h : A → List (List ℕ)) (l : List A) → runs_rows (map h l) ≡ each (λ x. run_row (h x)) l
unfolding runs_rows each
runs-each h [] = refl
runs-each h (x ∷ l) = ap (λ (u : List (List ℕ)). run_row (h x) ++ u) (runs-each h l)

each_same : {A : Type 0} (h g : A → List (List ℕ)) (l : List A) → ((x : A) → h x ≡ g x) → each h l ≡ each g l
unfolding each
each_same h g [] e = refl
each_same h g (x ∷ l) e = ap₂ (λ (u v : List (List ℕ)). u ++ v) (e x) (each_same h g l e)

each_map : {A B : Type 0} (h : B → List (List ℕ)) (k : A → B) (l : List A) → each (λ x. h (k x)) l ≡ each h (map k l)
unfolding each
each_map h k [] = refl
each_map h k (x ∷ l) = ap (λ (u : List (List ℕ)). h (k x) ++ u) (each_map h k l)

each_keep : {A : Type 0} (p : A → Bool) (g : A → List ℕ) (l : List A) → each (λ x. cond (p x) (g x ∷ []) []) l ≡ map g (keep p l)
unfolding each
each_keep p g [] = refl
each_keep p g (x ∷ l) = let ih = each_keep p g l in elim (split (p x)) [ inl e ↦ rw e (ap (λ (u : List (List ℕ)). g x ∷ u) ih) | inr e ↦ rw e ih ]

-- ---- the whole

module _ (ps : List Point) (ts : List Tet) where
  -- the run of a key
  of-key : (f : Triple) → run_row (keep (of_key f) (owned_from ps 0 ts)) ≡ cond (in_bad ps ts f && has_two ts f) (shared_row ts f ∷ []) []
  of-key f =
      let g = keep (of_key f) (owned_from ps 0 ts) in
      run-gives f g (every-kept (of_key f) (owned_from ps 0 ts))
      ∙ ap₂ (λ (l : List ℕ) (b : Bool). cond (eqb (length l) 2 && not b) ((corners_of f ++ l) ∷ []) []) (owners-kept f ps 0 ts) (marks-kept f ps 0 ts)
      ∙ ap (λ (b : Bool). cond b (shared_row ts f ∷ []) []) (swap (has_two ts f) (in_bad ps ts f))
    where
      swap : (a b : Bool) → (a && not (not b)) ≡ (b && a)
      swap true true = refl
      swap true false = refl
      swap false true = refl
      swap false false = refl

  pub runs-shared : runs_rows (runs (same_first 3) (sort le_row (owned_from ps 0 ts))) ≡ map (shared_row ts) (shared_faces ps ts)
  unfolding shared_faces
  runs-shared =
      let R = owned_from ps 0 ts in
      let rs = sort le_row R in
      let us = unique (same_first 3) rs in
      let of : List ℕ → List (List ℕ) = λ key. run_row (keep (λ q. eq_row key (take 3 q)) R) in
      ap runs_rows (sorted-runs 3 R)
      ∙ runs-each (λ r. keep (same_first 3 r) rs) us
      ∙ each_same (λ r. run_row (keep (same_first 3 r) rs)) (λ r. of (take 3 r)) us (λ r. ap run_row (kept-steady 3 r R (steady-owned r ps 0 ts)))
      ∙ each_map of (take 3) us
      ∙ ap (each of) (keys-are ps ts)
      ∙ sym (each_map of corners_of (keys_of ts))
      ∙ each_same (λ f. of (corners_of f)) (λ f. cond (in_bad ps ts f && has_two ts f) (shared_row ts f ∷ []) []) (keys_of ts) of-key
      ∙ each_keep (λ f. in_bad ps ts f && has_two ts f) (shared_row ts) (keys_of ts)
      ∙ ap (map (shared_row ts)) (sym (keep-keep (has_two ts) (in_bad ps ts) (keys_of ts)) ∙ ap (keep (has_two ts)) (bad-keys ps ts))
