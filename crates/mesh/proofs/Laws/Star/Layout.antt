-- The layout as facts and as its test. Assumes nothing.
use Rattle.std.proofs.Common.{◌≡◌, ℕ, ◌+◌, ◌*◌, ◌≤◌, true, ◌&&◌, leb, le-leb, leb-true}
use Rattle.mesh.specs.declared.star.Index.{Index}
use Rattle.mesh.specs.Words.{inside}
use Rattle.mesh.specs.inside.Star.{Laid, laid, room_for, has_slots}
use Rattle.mesh.proofs.Laws.Bools.{and_left, and_right}

pub laid-is : (x : Index) (m : ℕ) → laid x m ≡ true → Laid x m
unfolding laid inside
laid-is x m h =
    let a₁ = leb x.room 131072 in
    let a₂ = leb (x.slots + 4 * x.room) x.nexts in
    let a₃ = leb (x.nexts + 4 * x.room) x.heads in
    let a₄ = leb (x.heads + x.vertices) x.lengths in
    let a₅ = leb (x.lengths + x.vertices) x.area in
    let a₆ = leb x.area m in
    let h₂ = and_right a₁ (a₂ && (a₃ && (a₄ && (a₅ && a₆)))) h in
    let h₃ = and_right a₂ (a₃ && (a₄ && (a₅ && a₆))) h₂ in
    let h₄ = and_right a₃ (a₄ && (a₅ && a₆)) h₃ in
    let h₅ = and_right a₄ (a₅ && a₆) h₄ in
    record {
      few = leb-true x.room 131072 (and_left a₁ (a₂ && (a₃ && (a₄ && (a₅ && a₆)))) h);
      nexts = leb-true (x.slots + 4 * x.room) x.nexts (and_left a₂ (a₃ && (a₄ && (a₅ && a₆))) h₂);
      heads = leb-true (x.nexts + 4 * x.room) x.heads (and_left a₃ (a₄ && (a₅ && a₆)) h₃);
      lengths = leb-true (x.heads + x.vertices) x.lengths (and_left a₄ (a₅ && a₆) h₄);
      area = leb-true (x.lengths + x.vertices) x.area (and_left a₅ a₆ h₅);
      end = leb-true x.area m (and_right a₅ a₆ h₅);
    }

pub laid-yes : (x : Index) (m : ℕ) → Laid x m → laid x m ≡ true
unfolding laid inside
laid-yes x m l =
    simp (
      le-leb x.room 131072 l.few,
      le-leb (x.slots + 4 * x.room) x.nexts l.nexts,
      le-leb (x.nexts + 4 * x.room) x.heads l.heads,
      le-leb (x.heads + x.vertices) x.lengths l.lengths,
      le-leb (x.lengths + x.vertices) x.area l.area,
      le-leb x.area m l.end,
    )

pub room-is : (x : Index) (m n : ℕ) → room_for x m n ≡ true → Laid x m × (x.area + (n + n) ≤ m)
unfolding room_for
room-is x m n h =
    (laid-is x m (and_left (laid x m) (leb (x.area + (n + n)) m) h), leb-true (x.area + (n + n)) m (and_right (laid x m) (leb (x.area + (n + n)) m) h))

pub room-yes : (x : Index) (m n : ℕ) → Laid x m → x.area + (n + n) ≤ m → room_for x m n ≡ true
unfolding room_for
room-yes x m n l h = simp (laid-yes x m l, le-leb (x.area + (n + n)) m h)

-- ---- slots

pub slots-are : (x : Index) (m i j : ℕ) → has_slots x m i j ≡ true → Laid x m × (i ≤ j) × (j ≤ x.room)
unfolding has_slots
slots-are x m i j h =
    let g = and_right (laid x m) (leb i j && leb j x.room) h in
    (laid-is x m (and_left (laid x m) (leb i j && leb j x.room) h), leb-true i j (and_left (leb i j) (leb j x.room) g), leb-true j x.room (and_right (leb i j) (leb j x.room) g))
