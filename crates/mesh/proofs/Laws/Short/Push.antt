-- Rows of short edges pushed behind the first words of an area. Assumes nothing.
use Rattle.std.proofs.Common.{◌≡◌, ℕ, ◌+◌, ◌/◌, ◌%◌, ◌^◌, ◌≤◌, true, false, List, [], ◌∷◌, ◌++◌, map, length, sym, refl, ap, ◌∙◌, ap₂, arith}
use mathlib.Core.List.{map-append}
use lib.Ieee.{Float, lt}
use lib.Seq.{paste}
use Rattle.geometry.specs.declared.point.Point.{Point}
use Rattle.geometry.specs.inside.Word.{order_bits}
use Rattle.mesh.specs.declared.element.Pair.{Pair}
use Rattle.mesh.specs.Complex.{keep}
use Rattle.mesh.specs.inside.List.{Pushed}
use Rattle.mesh.proofs.Laws.Rows.{Shape, none, more}
use Rattle.mesh.proofs.Laws.Boundary.Same.{length-keep, length-map}
use Rattle.mesh.proofs.Laws.List.Push.{push-start, push-one, keep_append}
use Rattle.mesh.specs.Measure.{length_of}
use Rattle.mesh.specs.inside.Short.{short, edge_row, short_rows}

module _ (ps : List Point) (limit : Float) where
  shape-map : (es : List Pair) → Shape 4 (length (map (edge_row ps) es)) (map (edge_row ps) es)
  unfolding edge_row
  shape-map [] = none
  shape-map (e ∷ es) = more refl (shape-map es)

  pub shape-short : (es : List Pair) → Shape 4 (length (short_rows ps limit es)) (short_rows ps limit es)
  unfolding short_rows
  shape-short es = shape-map (keep (short ps limit) es)

  pub short-append : (es fs : List Pair) → short_rows ps limit (es ++ fs) ≡ short_rows ps limit es ++ short_rows ps limit fs
  unfolding short_rows
  short-append es fs = ap (map (edge_row ps)) (keep_append (short ps limit) es fs) ∙ map-append (edge_row ps) (keep (short ps limit) es) (keep (short ps limit) fs)

  pub short-few : (es : List Pair) → length (short_rows ps limit es) ≤ length es
  unfolding short_rows
  short-few es = omega (arith, length-map (edge_row ps) (keep (short ps limit) es), length-keep (short ps limit) es)

  pub no_rows : [] ≡ short_rows ps limit []
  unfolding short_rows
  no_rows = refl

  -- ---- one edge

  module _ (e : Pair) (p : ℕ) (s : List ℕ) (x : Float) (length-is : x ≡ length_of ps e) where
    pub edge-less : lt x limit ≡ false → Pushed (short_rows ps limit (e ∷ [])) 4 p s s 0
    unfolding short_rows
    edge-less h = rw (ap (λ (u : Float). lt u limit) (sym length-is) ∙ h) (push-start 4 p s)

    pub edge-put : (s' : List ℕ) (b hi lo : ℕ) → b ≡ order_bits x → hi ≡ b / 2 ^ 32 → lo ≡ b % 2 ^ 32 → p + 4 ≤ length s → lt x limit ≡ true
        → s' ≡ paste s p (hi ∷ lo ∷ e.a ∷ e.b ∷ []) 4 → Pushed (short_rows ps limit (e ∷ [])) 4 p s s' 1
    unfolding short_rows edge_row
    edge-put s' b hi lo q i j h k f =
        let w : b ≡ order_bits (length_of ps e) = q ∙ ap order_bits length-is in
        let g : s' ≡ paste s p (edge_row ps e) 4 =
        f ∙ ap₂ (λ (u v : ℕ). paste s p (u ∷ v ∷ e.a ∷ e.b ∷ []) 4) i j ∙ ap (λ (u : ℕ). paste s p (u / 2 ^ 32 ∷ u % 2 ^ 32 ∷ e.a ∷ e.b ∷ []) 4) w in
        rw (ap (λ (u : Float). lt u limit) (sym length-is) ∙ k) (push-one 4 p s s' (edge_row ps e) (omega arith) refl g)
