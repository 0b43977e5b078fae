-- `plot`'s buffers and work are long enough for every file that is read: the row 10 does not apply where the passes begin. Assumes nothing.
use Rattle.std.proofs.Common.{◌≡◌, ℕ, ◌+◌, ◌*◌, ◌≤◌, false, ◌||◌, List, length, drop, replicate, refl, arith, length-append, length-drop, le-ltb}
use lib.ListN.{length-replicate}
use Rattle.geometry.specs.Float.{zero64}
use Rattle.mesh.specs.declared.intake.Sizes.{Sizes}
use Rattle.mesh.specs.declared.intake.Lengths.{Lengths}
use Rattle.mesh.specs.Words.{zero_words}
use Rattle.mesh.specs.Element.{tets}
use Rattle.mesh.specs.Surface.{surface_words}
use Rattle.mesh.specs.Intake.{too_many, too_short}
use Rattle.mesh.proofs.Laws.Boundary.Whole.{words_count, triples-few}
use Rattle.repair.specs.Step.{Pass, over, lengths_of}
use Rattle.report.specs.Format.{most_vertices, most_elements}
use Rattle.report.specs.Bytes.{listed}
use Rattle.report.specs.Block.{vertices_in, elements_in, vertex_blocks, parameter_row, point_row, mask_row, element_row, reading_number, plot_in}
use Rattle.report.specs.Run.{call_in}
use Rattle.report.specs.Report.{point_room, mask_room, element_room, surface_room, word_room, float_room, setting_of, placed, blank}
use Rattle.report.proofs.Laws.Listed.{length-listed}
use Rattle.report.proofs.Laws.Limits.{read-few}

-- at most as many vertices and elements as `plot` takes, in buffers of these lengths
enough : (z : Sizes) (l : Lengths) → z.vertices ≤ most_vertices → z.elements ≤ most_elements → z.triples ≤ 4 * z.elements → point_room ≤ l.parameters → point_room ≤ l.points → mask_room ≤ l.masks
    → element_room ≤ l.elements → surface_room ≤ l.surface → word_room ≤ l.words → float_room ≤ l.floats → (too_many z || too_short z l) ≡ false
enough z l v e t p q m s f w x =
    rw (
      le-ltb 4096 z.vertices (omega arith),
      le-ltb 16384 z.elements (omega arith),
      le-ltb (4 * z.elements) z.triples t,
      le-ltb l.parameters (3 * z.vertices) (omega arith),
      le-ltb l.points (3 * z.vertices) (omega arith),
      le-ltb l.masks z.vertices (omega arith),
      le-ltb l.surface (3 * (4 * z.elements)) (omega arith),
      le-ltb l.elements (4 * (2 * z.elements)) (omega arith),
      le-ltb l.words (256 * z.elements + 32 * z.vertices + 1024) (omega arith),
      le-ltb l.floats (16 * z.vertices) (omega arith),
    )

-- a buffer of k places keeps its length under no more than k values
over-long : {A : Type 0} (new : List A) (k : ℕ) (d : A) → length new ≤ k → k ≤ length (over new (replicate k d))
over-long new k d h =
    omega (arith, length-append new (drop (length new) (replicate k d)), length-drop (length new) (replicate k d), length-replicate k d)

-- and under n rows of w
rows_long : {A : Type 0} (row : ℕ → List A) (w n k : ℕ) (d : A) → ((j : ℕ) → length (row j) ≡ w) → n * w ≤ k → k ≤ length (over (listed row n) (replicate k d))
rows_long row w n k d h g = over-long (listed row n) k d (omega (arith, length-listed row w h n))

-- where the passes begin, no count is over its limit and no slice too short
pub first-room : (s : List ℕ) (pass : Pass) → reading_number s ≡ 0
    → (too_many (placed (plot_in s) blank).sizes || too_short (placed (plot_in s) blank).sizes (lengths_of (call_in (setting_of (plot_in s)) pass) (placed (plot_in s) blank))) ≡ false
unfolding placed plot_in blank parameter_row point_row mask_row element_row
first-room s pass h =
    let few = read-few s h in
    let v = few.0 in
    let e = few.1 in
    let row = element_row s (1 + vertex_blocks (vertices_in s)) in
    let els = over (listed row (elements_in s)) (zero_words element_room) in
    let t = triples-few (elements_in s) els in
    let c = words_count (tets (elements_in s) els) in
    enough (placed (plot_in s) blank).sizes (lengths_of (call_in (setting_of (plot_in s)) pass) (placed (plot_in s) blank)) v e t
    (rows_long (parameter_row s) 3 (vertices_in s) point_room zero64 (λ j. refl) (omega arith))
    (rows_long (point_row s) 3 (vertices_in s) point_room zero64 (λ j. refl) (omega arith))
    (rows_long (mask_row s) 1 (vertices_in s) mask_room 0 (λ j. refl) (omega arith))
    (rows_long row 4 (elements_in s) element_room 0 (λ j. refl) (omega arith))
    (over-long (surface_words (tets (elements_in s) els)) surface_room 0 (omega arith))
    (omega arith)
    (omega arith)
