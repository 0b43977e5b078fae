-- What it says that the table's row 10 does not apply: counts within their limits, and slices long enough. Assumes nothing.
use mathlib.Core.Path.{◌≡◌}
use mathlib.Core.Bool.{false, ◌||◌}
use Prim.Native.Nat.{◌+◌, ◌*◌, ◌≤◌}
use native.Mathlib.Omega.{arith}
use lib.Dec.{ltb}
use borrow.Author.Tests.{ltb-false}
use Rattle.mesh.specs.declared.intake.Sizes.{Sizes}
use Rattle.mesh.specs.declared.intake.Lengths.{Lengths}
use Rattle.mesh.specs.Intake.{too_many, too_short}
use Rattle.repair.proofs.Laws.Improve.Intake.{or-none}

pub record LongEnough (s : Sizes) (l : Lengths) : Type 0 where
  pub vertices : s.vertices ≤ 4096
  pub elements : s.elements ≤ 16384
  pub triples : s.triples ≤ 4 * s.elements
  pub parameters : 3 * s.vertices ≤ l.parameters
  pub points : 3 * s.vertices ≤ l.points
  pub masks : s.vertices ≤ l.masks
  pub slots : 8 * s.elements ≤ l.elements
  pub surface : 12 * s.elements ≤ l.surface
  pub words : 256 * s.elements + 32 * s.vertices + 1024 ≤ l.words
  pub floats : 16 * s.vertices ≤ l.floats

pub long-enough : (s : Sizes) (l : Lengths) → too_many s ≡ false → too_short s l ≡ false → LongEnough s l
long-enough s l few long =
    let a = ltb 4096 s.vertices in
    let b = ltb 16384 s.elements in
    let c = ltb (4 * s.elements) s.triples in
    let h₁ = or-none a (b || c) few in
    let h₂ = or-none b c h₁.1 in
    let t₁ = ltb l.parameters (3 * s.vertices) in
    let t₂ = ltb l.points (3 * s.vertices) in
    let t₃ = ltb l.masks s.vertices in
    let t₄ = ltb l.surface (3 * (4 * s.elements)) in
    let t₅ = ltb l.elements (4 * (2 * s.elements)) in
    let t₆ = ltb l.words (256 * s.elements + 32 * s.vertices + 1024) in
    let t₇ = ltb l.floats (16 * s.vertices) in
    let s₁ = or-none t₁ (t₂ || (t₃ || (t₄ || (t₅ || (t₆ || t₇))))) long in
    let s₂ = or-none t₂ (t₃ || (t₄ || (t₅ || (t₆ || t₇)))) s₁.1 in
    let s₃ = or-none t₃ (t₄ || (t₅ || (t₆ || t₇))) s₂.1 in
    let s₄ = or-none t₄ (t₅ || (t₆ || t₇)) s₃.1 in
    let s₅ = or-none t₅ (t₆ || t₇) s₄.1 in
    let s₆ = or-none t₆ t₇ s₅.1 in
    record {
      vertices = ltb-false 4096 s.vertices h₁.0;
      elements = ltb-false 16384 s.elements h₂.0;
      triples = ltb-false (4 * s.elements) s.triples h₂.1;
      parameters = ltb-false l.parameters (3 * s.vertices) s₁.0;
      points = ltb-false l.points (3 * s.vertices) s₂.0;
      masks = ltb-false l.masks s.vertices s₃.0;
      slots = let u = ltb-false l.elements (4 * (2 * s.elements)) s₅.0 in omega arith;
      surface = let u = ltb-false l.surface (3 * (4 * s.elements)) s₄.0 in omega arith;
      words = ltb-false l.words (256 * s.elements + 32 * s.vertices + 1024) s₆.0;
      floats = ltb-false l.floats (16 * s.vertices) s₆.1;
    }
