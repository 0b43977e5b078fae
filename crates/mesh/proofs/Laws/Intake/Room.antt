-- Number 10: counts within their limits. Assumes nothing.
use Rattle.std.proofs.Common.{◌≡◌, ◌+◌, ◌*◌, ◌≤◌, false, ◌||◌, ltb, arith, ltb-false}
use Rattle.mesh.specs.declared.intake.Sizes.{Sizes}
use Rattle.mesh.specs.declared.intake.Lengths.{Lengths}
use Rattle.mesh.specs.Intake.{too_many, too_short}
use Rattle.mesh.proofs.Laws.Intake.Chains.{neither_left, neither_right}

pub counts-few : (s : Sizes) → too_many s ≡ false → (s.vertices ≤ 4096) × (s.elements ≤ 16384)
counts-few s h =
    let v = ltb 4096 s.vertices in
    let e = ltb 16384 s.elements in
    let t = ltb (4 * s.elements) s.triples in
    (ltb-false 4096 s.vertices (neither_left v (e || t) h), ltb-false 16384 s.elements (neither_left e t (neither_right v (e || t) h)))

-- "a slice shorter than its count": what the twice and four-fold buffers leave of it for elements and surface
pub slices-hold : (s : Sizes) (l : Lengths) → (too_many s || too_short s l) ≡ false → (4 * s.elements ≤ l.elements) × (3 * s.triples ≤ l.surface)
slices-hold s l h =
    let v = ltb 4096 s.vertices in
    let e = ltb 16384 s.elements in
    let t = ltb (4 * s.elements) s.triples in
    let t₁ = ltb l.parameters (3 * s.vertices) in
    let t₂ = ltb l.points (3 * s.vertices) in
    let t₃ = ltb l.masks s.vertices in
    let t₄ = ltb l.surface (3 * (4 * s.elements)) in
    let t₅ = ltb l.elements (4 * (2 * s.elements)) in
    let t₆ = ltb l.words (256 * s.elements + 32 * s.vertices + 1024) in
    let t₇ = ltb l.floats (16 * s.vertices) in
    let short : (t₄ || (t₅ || (t₆ || t₇))) ≡ false =
    neither_right t₃ (t₄ || (t₅ || (t₆ || t₇)))
    (neither_right t₂ (t₃ || (t₄ || (t₅ || (t₆ || t₇))))
    (neither_right t₁ (t₂ || (t₃ || (t₄ || (t₅ || (t₆ || t₇))))) (neither_right (too_many s) (too_short s l) h))) in
    let few : s.triples ≤ 4 * s.elements =
    ltb-false (4 * s.elements) s.triples (neither_right e t (neither_right v (e || t) (neither_left (too_many s) (too_short s l) h))) in
    let surface : 3 * (4 * s.elements) ≤ l.surface = ltb-false l.surface (3 * (4 * s.elements)) (neither_left t₄ (t₅ || (t₆ || t₇)) short) in
    let elements : 4 * (2 * s.elements) ≤ l.elements =
    ltb-false l.elements (4 * (2 * s.elements)) (neither_left t₅ (t₆ || t₇) (neither_right t₄ (t₅ || (t₆ || t₇)) short)) in
    (omega arith, omega arith)
