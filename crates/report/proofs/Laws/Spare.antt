-- Spare words: what it says of each word that they are zero, and the parts of a block's test. Assumes nothing.
use Rattle.std.proofs.Common.{◌≡◌, ℕ, ◌+◌, ◌-◌, ◌*◌, ◌<◌, ◌≤◌, Bool, true, not, ◌||◌, eqb, List, ap, mul-le-mul, arith, eq-eqb, eqb-true}
use Rattle.mesh.specs.Words.{numbers}
use Rattle.mesh.specs.Tests.{every}
use Rattle.mesh.proofs.Laws.Bools.{and_left, and_right}
use Rattle.mesh.proofs.Laws.NumbersFrom.{numbers-mem, every-numbers}
use Rattle.mesh.proofs.Laws.Link.Simplices.{every-mem}
use Rattle.report.specs.Format.{header_kind, field_places, header_size}
use Rattle.report.specs.Bytes.{word_in}
use Rattle.report.specs.Block.{zeros_from, rest_zero, place_zero, spare_zero}

-- is the word j zero
abbrev pub zero_at : List ℕ → ℕ → Bool
zero_at s j = eqb (word_in s j) 0

-- each of the words is zero
pub zeros-word : (s : List ℕ) (i n j : ℕ) → zeros_from s i n ≡ true → i ≤ j → j < i + n → word_in s j ≡ 0
unfolding zeros_from
zeros-word s i n j h l u = eqb-true (word_in s j) 0 (every-mem (zero_at s) (numbers i n) h j (numbers-mem i n j l u))

-- where each is, all are
pub zeros-all : (s : List ℕ) (i n : ℕ) → ((j : ℕ) → i ≤ j → j < i + n → word_in s j ≡ 0) → zeros_from s i n ≡ true
unfolding zeros_from
zeros-all s i n h = every-numbers (zero_at s) i n (λ j l u. eq-eqb (word_in s j) 0 (h j l u))

-- the words behind the records of a block
pub spare-rest : (s : List ℕ) (k kind count : ℕ) → spare_zero s k kind count ≡ true → rest_zero s k kind count ≡ true
unfolding spare_zero
spare-rest s k kind count h = and_left (rest_zero s k kind count) (not (eqb kind header_kind) || every (place_zero s) (numbers 0 field_places)) h

-- the places of fields
pub spare-place : (s : List ℕ) (j : ℕ) → spare_zero s 0 header_kind 1 ≡ true → j < field_places → place_zero s j ≡ true
unfolding spare_zero
spare-place s j h l =
    every-mem (place_zero s) (numbers 0 field_places) (and_right (rest_zero s 0 header_kind 1) (every (place_zero s) (numbers 0 field_places)) h) j
    (numbers-mem 0 field_places j (omega arith) (omega arith))

-- the records of a block take few words
pub used-few : (w count : ℕ) → w ≤ header_size → count < 1000 → w * count < 100000
used-few w count h l = let b : count ≤ 1000 = omega arith in let m : w * count ≤ header_size * 1000 = mul-le-mul h b in omega arith

-- from behind the used words of a room to its end
pub zeros-room : (s : List ℕ) (first used room : ℕ) → zeros_from s (first + used) (first + room - (first + used)) ≡ zeros_from s (first + used) (room - used)
zeros-room s first used room = let e : first + room - (first + used) ≡ room - used = omega arith in ap (zeros_from s (first + used)) e
