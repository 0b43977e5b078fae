-- The file in a slice: where it is written, and what is left. Assumes nothing.
use Rattle.std.proofs.Common.{◌≡◌, ℕ, ◌+◌, ◌*◌, ◌≤◌, Bool, true, false, not, leb, List, ◌++◌, length, drop, sym, ap, ◌∙◌, arith, leb-true}
use lib.Seq.{sets, sets-eq}
use borrow.Author.Tests.{not-true, not-false}
use Rattle.mesh.proofs.Laws.Bools.{and_left, and_right}
use Rattle.report.specs.Format.{bytes_a_block, field_places, most_vertices, most_elements}
use Rattle.report.specs.Bytes.{listed}
use Rattle.report.specs.Block.{Plot}
use Rattle.report.specs.Write.{bytes_of, file_block, blocks_of, file_of, Rooms, room_for, has_room, file_into, file_size}
use Rattle.report.specs.inside.Put.{Put}
use Rattle.report.proofs.Laws.Write.Words.{bytes-length}
use Rattle.report.proofs.Laws.Write.Sizes.{blocks-length}

-- what is so where the file is written
pub record Roomy (count vertices elements : ℕ) (l : Rooms) : Type 0 where
  pub vertices-few : vertices ≤ most_vertices
  pub elements-few : elements ≤ most_elements
  pub count-few : count ≤ field_places
  pub parameters-in : 3 * vertices ≤ l.parameters
  pub points-in : 3 * vertices ≤ l.points
  pub masks-in : vertices ≤ l.masks
  pub corners-in : 4 * elements ≤ l.corners
  pub out-in : bytes_a_block * blocks_of vertices elements ≤ l.out

pub roomy : (count vertices elements : ℕ) (l : Rooms) → room_for count vertices elements l ≡ true → Roomy count vertices elements l
unfolding room_for
roomy count vertices elements l h =
    let h₁ = and_right (leb vertices most_vertices) _ h in
    let h₂ = and_right (leb elements most_elements) _ h₁ in
    let h₃ = and_right (leb count field_places) _ h₂ in
    let h₄ = and_right (leb (3 * vertices) l.parameters) _ h₃ in
    let h₅ = and_right (leb (3 * vertices) l.points) _ h₄ in
    let h₆ = and_right (leb vertices l.masks) _ h₅ in
    record {
      vertices-few = leb-true vertices most_vertices (and_left (leb vertices most_vertices) _ h);
      elements-few = leb-true elements most_elements (and_left (leb elements most_elements) _ h₁);
      count-few = leb-true count field_places (and_left (leb count field_places) _ h₂);
      parameters-in = leb-true (3 * vertices) l.parameters (and_left (leb (3 * vertices) l.parameters) _ h₃);
      points-in = leb-true (3 * vertices) l.points (and_left (leb (3 * vertices) l.points) _ h₄);
      masks-in = leb-true vertices l.masks (and_left (leb vertices l.masks) _ h₅);
      corners-in = leb-true (4 * elements) l.corners (and_left (leb (4 * elements) l.corners) _ h₆);
      out-in = leb-true (bytes_a_block * blocks_of vertices elements) l.out (and_right (leb (4 * elements) l.corners) _ h₆);
    }

-- how long the file is
pub file-length : (p : Plot) → length (file_of p) ≡ bytes_a_block * blocks_of p.vertices p.elements
unfolding file_of
file-length p =
    let a = bytes-length (listed (file_block p) (blocks_of p.vertices p.elements)) in
    let b = blocks-length p (blocks_of p.vertices p.elements) in
    omega arith

-- what the test says of a plot and a slice, and what is left
module _ (p : Plot) (o : List ℕ) (b : Bool) (is : b ≡ has_room p (length o)) where
  yes : not b ≡ false → has_room p (length o) ≡ true
  yes h = sym is ∙ not-false b h

  -- nothing is written
  pub none-size : not b ≡ true → 0 ≡ file_size p (length o)
  unfolding file_size
  none-size h = let f : has_room p (length o) ≡ false = sym is ∙ not-true b h in rw f

  pub none-into : not b ≡ true → o ≡ file_into p o
  unfolding file_into
  none-into h = let f : has_room p (length o) ≡ false = sym is ∙ not-true b h in rw f

  -- the counts and the room where the file is written
  pub room_in : not b ≡ false → (p.vertices ≤ most_vertices) × (p.elements ≤ most_elements) × (bytes_a_block * blocks_of p.vertices p.elements ≤ length o)
  room_in h = let r = roomy p.count p.vertices p.elements _ (yes h) in (r.vertices-few, r.elements-few, r.out-in)

  -- all blocks are written
  pub all-size : (k r : ℕ) → not b ≡ false → k ≡ blocks_of p.vertices p.elements → r ≡ bytes_a_block * k → r ≡ file_size p (length o)
  unfolding file_size
  all-size k r h e f = rw (yes h) (f ∙ ap (λ (n : ℕ). bytes_a_block * n) e)

  pub all-into : {n : List ℕ} {r : ℕ} (k : ℕ) → not b ≡ false → k ≡ blocks_of p.vertices p.elements → Put o n 0 0 r 0 (listed (file_block p) k) → n ≡ file_into p o
  unfolding file_into file_of
  all-into {n} {r} k h e w =
      let many = blocks_of p.vertices p.elements in
      let s = bytes_of (listed (file_block p) many) in
      let long : length s ≡ bytes_a_block * many = file-length p in
      let room = (room_in h).2 in
      let at : n ≡ s ++ drop (0 + length s) o = w.bytes ∙ (ap (λ (i : ℕ). sets o 0 (bytes_of (listed (file_block p) i))) e ∙ sets-eq s o 0 (omega arith)) in
      let end : 0 + length s ≡ bytes_a_block * many = omega arith in
      rw (yes h) (at ∙ ap (λ (i : ℕ). s ++ drop i o) end)
