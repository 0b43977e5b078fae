-- The short edges listed in one area: the pushed rows, sorted and each once, are the definition. Assumes nothing.
use Rattle.std.proofs.Common.{◌≡◌, ℕ, ◌+◌, ◌-◌, ◌*◌, ◌<◌, ◌≤◌, true, false, leb, List, ◌++◌, map, length, take, drop, refl, ap, ◌∙◌, ap₂, arith, leb-true}
use lib.Ieee.{Float}
use Rattle.geometry.specs.declared.point.Point.{Point}
use Rattle.mesh.specs.Words.{zero_words, flat}
use Rattle.mesh.specs.inside.Rows.{rows}
use Rattle.mesh.specs.Complex.{keep}
use Rattle.mesh.specs.Element.{tets, all_edges}
use Rattle.mesh.specs.inside.Manifold.{KeptBelow}
use Rattle.mesh.specs.inside.List.{bad_in, set_of, Pushed}
use Rattle.mesh.proofs.Laws.Bools.{and_left, and_right}
use Rattle.mesh.specs.inside.Short.{short_edges, edge_row, short_fits, Shorts, short_in, short_rows}
use Rattle.mesh.proofs.Laws.Short.Order.{set-rows}
use Rattle.mesh.proofs.Laws.List.Push.{push_kept, push-rows}
use Rattle.mesh.proofs.Laws.Short.Push.{shape-short}
use Rattle.mesh.proofs.Laws.Short.Loops.{slots-few}

pub fits-is : (n m : ℕ) → short_fits n m ≡ true → (n ≤ 65536) × (52 * n ≤ m)
unfolding short_fits
fits-is n m h = (leb-true n 65536 (and_left (leb n 65536) (leb (52 * n) m) h), leb-true (52 * n) m (and_right (leb n 65536) (leb (52 * n) m) h))

pub in-no : (ps : List Point) (limit : Float) (n : ℕ) (s : List ℕ) → short_fits n (length s) ≡ false → ◌≡◌ {A = Shorts} (record { number = 0; area = s }) (short_in ps limit n s)
unfolding short_in
in-no ps limit n s e = rw e refl

module _ (ps : List Point) (limit : Float) (n k : ℕ) (s₀ s₁ : List ℕ) (fits : short_fits n (length s₀) ≡ true) (pushed : Pushed (short_rows ps limit (all_edges (keep (bad_in ps) (tets n s₀)))) 4 (4 * n) s₀ s₁ k) where
  room : 52 * n ≤ length s₀
  room = (fits-is n (length s₀) fits).1

  pub few : (n ≤ 65536) × (k ≤ 6 * n)
  few = ((fits-is n (length s₀) fits).0, omega (arith, pushed.number, slots-few ps limit n s₀ room))

  kept : KeptBelow (4 * n) s₀ s₁
  kept = push_kept (shape-short ps limit (all_edges (keep (bad_in ps) (tets n s₀)))) (omega (arith, room)) pushed (omega (arith, room, few.1))

  pub sortable : (0 < 4) × (4 * n + (k + k) * 4 ≤ length s₁)
  sortable = (omega arith, omega (arith, room, few.1, kept.long))

  rows_are : rows 4 k (drop (4 * n) s₁) ≡ short_rows ps limit (all_edges (keep (bad_in ps) (tets n s₀)))
  rows_are = push-rows (shape-short ps limit (all_edges (keep (bad_in ps) (tets n s₀)))) (omega (arith, room)) pushed

  set_is : set_of (rows 4 k (drop (4 * n) s₁)) ≡ map (edge_row ps) (short_edges ps limit (tets n s₀))
  unfolding short_edges
  set_is = ap set_of rows_are ∙ set-rows ps limit (all_edges (keep (bad_in ps) (tets n s₀)))

  pub listing : (m : ℕ) (s₂ : List ℕ) → m ≡ length (set_of (rows 4 k (drop (4 * n) s₁)))
      → s₂ ≡ take (4 * n) s₁ ++ (flat (set_of (rows 4 k (drop (4 * n) s₁))) ++ zero_words (length s₁ - (4 * n + length (flat (set_of (rows 4 k (drop (4 * n) s₁)))))))
      → ◌≡◌ {A = Shorts} (record { number = m; area = s₂ }) (short_in ps limit n s₀)
  unfolding short_in
  listing m s₂ q e =
      let rs = map (edge_row ps) (short_edges ps limit (tets n s₀)) in
      let area : s₂ ≡ take (4 * n) s₀ ++ (flat rs ++ zero_words (length s₀ - (4 * n + length (flat rs)))) =
      e ∙ ap (λ (l : List (List ℕ)). take (4 * n) s₁ ++ (flat l ++ zero_words (length s₁ - (4 * n + length (flat l))))) set_is
      ∙ ap₂ (λ (u : List ℕ) (v : ℕ). u ++ (flat rs ++ zero_words (v - (4 * n + length (flat rs))))) kept.front kept.long in
      rw fits (ap₂ (λ (u : ℕ) (v : List ℕ). record { number = u; area = v }) (q ∙ ap length set_is) area)
