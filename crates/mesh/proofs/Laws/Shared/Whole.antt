-- The shared faces listed in one area, call by call: the whole is the definition. Assumes nothing.
use Rattle.std.proofs.Common.{◌≡◌, ℕ, ◌+◌, ◌-◌, ◌*◌, ◌<◌, ◌≤◌, true, false, leb, List, ◌++◌, map, length, take, drop, refl, ap, ◌∙◌, ap₂, append_assoc, arith, length-drop, take_at, leb-true}
use lib.Seq.{paste, length-paste, length_paste_head}
use Rattle.geometry.specs.declared.point.Point.{Point}
use Rattle.mesh.specs.Words.{zero_words, flat}
use Rattle.mesh.specs.Sort.{sort}
use Rattle.mesh.specs.inside.Rows.{rows, le_row, sorted_area}
use Rattle.mesh.specs.Element.{tets}
use Rattle.mesh.specs.inside.Group.{runs, same_first}
use Rattle.mesh.specs.inside.Manifold.{KeptBelow}
use Rattle.mesh.specs.inside.List.{Pushed}
use Rattle.mesh.proofs.Laws.Bools.{and_left, and_right}
use Rattle.mesh.proofs.Laws.Rows.{Shape, length-flat}
use Rattle.mesh.proofs.Laws.Manifold.Growth.{kept-both}
use Rattle.mesh.proofs.Laws.Manifold.Steps.{kept_less, sort-kept, sort-from-rows}
use Rattle.mesh.proofs.Laws.List.Push.{push_kept, push-rows, push-behind}
use Rattle.mesh.specs.inside.Shared.{shared_faces, shared_row, shared_fits, Shares, shared_in, owned_from, runs_rows}
use Rattle.mesh.proofs.Laws.Shared.Runs.{runs-shared}
use Rattle.mesh.proofs.Laws.Shared.Loops.{shape-owned}
use Rattle.mesh.proofs.Laws.Shared.Scan.{shape-runs}

pub fits-is : (n m : ℕ) → shared_fits n m ≡ true → (n ≤ 65536) × (44 * n ≤ m)
unfolding shared_fits
fits-is n m h = (leb-true n 65536 (and_left (leb n 65536) (leb (44 * n) m) h), leb-true (44 * n) m (and_right (leb n 65536) (leb (44 * n) m) h))

pub in-no : (ps : List Point) (n : ℕ) (s : List ℕ) → shared_fits n (length s) ≡ false → ◌≡◌ {A = Shares} (record { number = 0; area = s }) (shared_in ps n s)
unfolding shared_in
in-no ps n s e = rw e refl

-- the first k rows from b on, which begin with rs, copied to a and cleared behind
module _ (rs : List (List ℕ)) (a b k : ℕ) (s s' s'' : List ℕ) (shape : Shape 5 (length rs) rs) (number : k ≡ length rs) (behind : take (5 * k) (drop b s) ≡ flat rs)
    (low : a + 5 * k ≤ length s) (high : b + 5 * k ≤ length s) (copied : s' ≡ paste s a (drop b s) (5 * k)) where
  copied-long : length s' ≡ length s
  copied-long = ap length copied ∙ length-paste s a (drop b s) (5 * k) low (omega (arith, length-drop b s))

  pub copied-room : a + 5 * k ≤ length s'
  copied-room = omega (arith, copied-long)

  pub copied-cleared : s'' ≡ take (a + 5 * k) s' ++ zero_words (length s' - (a + 5 * k)) → s'' ≡ take a s ++ (flat rs ++ zero_words (length s - (a + length (flat rs))))
  copied-cleared e =
      let words : 5 * k ≡ length (flat rs) = (let l = length-flat shape in omega arith) in
      let front : take (a + 5 * k) s' ≡ take a s ++ flat rs =
      ap (take (a + 5 * k)) copied
      ∙ take_at (take a s ++ take (5 * k) (drop b s)) (drop (a + 5 * k) s) (a + 5 * k) (length_paste_head s a (drop b s) (5 * k) (omega arith) (omega (arith, length-drop b s)))
      ∙ ap (λ (u : List ℕ). take a s ++ u) behind in
      e ∙ ap₂ (λ (u : List ℕ) (v : ℕ). u ++ zero_words v) front (ap₂ (λ (u v : ℕ). u - (a + v)) copied-long words)
      ∙ append_assoc (take a s) (flat rs) (zero_words (length s - (a + length (flat rs))))

module _ (ps : List Point) (n : ℕ) (s₀ s₁ : List ℕ) (fits : shared_fits n (length s₀) ≡ true) (owned : Pushed (owned_from ps 0 (tets n s₀)) 5 (4 * n) s₀ s₁ (4 * n)) where
  room : 44 * n ≤ length s₀
  room = (fits-is n (length s₀) fits).1

  kept₁ : KeptBelow (4 * n) s₀ s₁
  kept₁ = push_kept (shape-owned ps 0 (tets n s₀)) (omega (arith, room)) owned (omega (arith, room))

  pub sortable : 4 * n ≤ length s₁
  sortable = omega (arith, room, kept₁.long)

  module _ (s₂ : List ℕ) (sorted : s₂ ≡ take (4 * n) s₁ ++ sorted_area (4 * n) 5 (drop (4 * n) s₁)) where
    kept₂ : KeptBelow (4 * n) s₀ s₂
    kept₂ = kept-both (4 * n) s₀ s₁ s₂ kept₁ (sort-kept (4 * n) (4 * n) 5 s₁ s₂ sortable sorted)

    pub scannable : (n ≤ 65536) × (44 * n ≤ length s₂)
    scannable = ((fits-is n (length s₀) fits).0, omega (arith, room, kept₂.long))

    rows_are : rows 5 (4 * n) (drop (4 * n) s₂) ≡ sort le_row (owned_from ps 0 (tets n s₀))
    rows_are =
        sort-from-rows (4 * n) (4 * n) 5 s₁ s₂ sortable sorted (omega arith) (omega (arith, room, kept₁.long))
        ∙ ap (sort le_row) (push-rows (shape-owned ps 0 (tets n s₀)) (omega (arith, room)) owned)

    shared-are : runs_rows (runs (same_first 3) (rows 5 (4 * n) (drop (4 * n) s₂))) ≡ map (shared_row (tets n s₀)) (shared_faces ps (tets n s₀))
    shared-are = ap (λ (l : List (List ℕ)). runs_rows (runs (same_first 3) l)) rows_are ∙ runs-shared ps (tets n s₀)

    module _ (k : ℕ) (s₃ : List ℕ) (pushed : Pushed (runs_rows (runs (same_first 3) (rows 5 (4 * n) (drop (4 * n) s₂)))) 5 (24 * n) s₂ s₃ k) (few : k ≤ 4 * n) where
      shape-out : Shape 5 (length (runs_rows (runs (same_first 3) (rows 5 (4 * n) (drop (4 * n) s₂))))) (runs_rows (runs (same_first 3) (rows 5 (4 * n) (drop (4 * n) s₂))))
      shape-out = shape-runs (runs (same_first 3) (rows 5 (4 * n) (drop (4 * n) s₂)))

      kept₃ : KeptBelow (24 * n) s₂ s₃
      kept₃ = push_kept shape-out (omega (arith, scannable.1)) pushed (omega (arith, scannable.1, few))

      pub copyable : (24 * n + 5 * k ≤ length s₃) × (4 * n + 5 * k ≤ length s₃) × (24 * n < 4 * n → 24 * n + 5 * k ≤ 4 * n)
      copyable = (omega (arith, scannable.1, few, kept₃.long), omega (arith, scannable.1, few, kept₃.long), λ h. omega arith)

      behind : take (5 * k) (drop (24 * n) s₃) ≡ flat (runs_rows (runs (same_first 3) (rows 5 (4 * n) (drop (4 * n) s₂))))
      behind =
          let rs = runs_rows (runs (same_first 3) (rows 5 (4 * n) (drop (4 * n) s₂))) in
          ap (take (5 * k)) (push-behind shape-out (omega (arith, scannable.1)) pushed)
          ∙ take_at (flat rs) (drop (24 * n + 5 * length rs) s₂) (5 * k) (let l = length-flat shape-out in omega (arith, pushed.number))

      module _ (s₄ : List ℕ) (copied : s₄ ≡ paste s₃ (4 * n) (drop (24 * n) s₃) (5 * k)) where
        pub clearable : 4 * n + 5 * k ≤ length s₄
        clearable = copied-room (runs_rows (runs (same_first 3) (rows 5 (4 * n) (drop (4 * n) s₂)))) (4 * n) (24 * n) k s₃ s₄ s₄ shape-out pushed.number behind copyable.1 copyable.0 copied

        pub listing : (s₅ : List ℕ) → s₅ ≡ take (4 * n + 5 * k) s₄ ++ zero_words (length s₄ - (4 * n + 5 * k)) → ◌≡◌ {A = Shares} (record { number = k; area = s₅ }) (shared_in ps n s₀)
        unfolding shared_in
        listing s₅ e =
            let rs = map (shared_row (tets n s₀)) (shared_faces ps (tets n s₀)) in
            let below = kept-both (4 * n) s₀ s₂ s₃ kept₂ (kept_less (omega arith) kept₃) in
            let area : s₅ ≡ take (4 * n) s₀ ++ (flat rs ++ zero_words (length s₀ - (4 * n + length (flat rs)))) =
            copied-cleared (runs_rows (runs (same_first 3) (rows 5 (4 * n) (drop (4 * n) s₂)))) (4 * n) (24 * n) k s₃ s₄ s₅ shape-out pushed.number behind copyable.1 copyable.0 copied e
            ∙ ap (λ (l : List (List ℕ)). take (4 * n) s₃ ++ (flat l ++ zero_words (length s₃ - (4 * n + length (flat l))))) shared-are
            ∙ ap₂ (λ (u : List ℕ) (v : ℕ). u ++ (flat rs ++ zero_words (v - (4 * n + length (flat rs))))) below.front below.long in
            rw fits (ap₂ (λ (u : ℕ) (v : List ℕ). record { number = u; area = v }) (pushed.number ∙ ap length shared-are) area)
