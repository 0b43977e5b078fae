-- Document 01's example of `plot`'s text, the numbers given, and a mean that the order of its sum decides. Assumes nothing.
use Rattle.std.proofs.Common.{◌≡◌, ℕ, List, [], ◌∷◌, pos, refl}
use lib.Ieee.{Float, binary64, add, div, of_bits}
use Rattle.geometry.specs.declared.point.Point.{Point}
use Rattle.geometry.specs.Float.{◌+₆₄◌, ◌/₆₄◌}
use Rattle.mesh.specs.Element.{tet}
use Rattle.report.specs.Table.{Table, table_text, sizes_line, counts_line, state_line, inside_lines, inside_line, element_lines, element_line, decimal, digits, signed, vertices_word, elements_word, collapse_word, move_word, reconnect_word, low_word, euler_word, inside_word, element_word, space, line_end, four, mean}

abbrev example : Table
example = record {
  vertices = 4;
  collapsed = 0;
  moved = 0;
  reconnected = 0;
  low = 0;
  euler = pos 1;
  inside = 1 ∷ [];
  elements = tet 0 1 2 3 ∷ [];
}

-- the bytes of its five lines
abbrev example_bytes : List ℕ
example_bytes =
    118 ∷ 101 ∷ 114 ∷ 116 ∷ 105 ∷ 99 ∷ 101 ∷ 115 ∷ 32 ∷ 52 ∷ 32 ∷ 101 ∷ 108 ∷ 101 ∷ 109 ∷ 101 ∷ 110 ∷ 116 ∷ 115 ∷ 32 ∷ 49 ∷ 10 ∷ 99 ∷ 111 ∷ 108 ∷ 108 ∷ 97
    ∷ 112 ∷ 115 ∷ 101 ∷ 32 ∷ 48 ∷ 32 ∷ 109 ∷ 111 ∷ 118 ∷ 101 ∷ 32 ∷ 48 ∷ 32 ∷ 114 ∷ 101 ∷ 99 ∷ 111 ∷ 110 ∷ 110 ∷ 101 ∷ 99 ∷ 116 ∷ 32 ∷ 48 ∷ 10 ∷ 108 ∷ 111
    ∷ 119 ∷ 32 ∷ 48 ∷ 32 ∷ 101 ∷ 117 ∷ 108 ∷ 101 ∷ 114 ∷ 32 ∷ 49 ∷ 10 ∷ 105 ∷ 110 ∷ 115 ∷ 105 ∷ 100 ∷ 101 ∷ 32 ∷ 48 ∷ 32 ∷ 49 ∷ 10 ∷ 101 ∷ 108 ∷ 101 ∷ 109
    ∷ 101 ∷ 110 ∷ 116 ∷ 32 ∷ 48 ∷ 32 ∷ 49 ∷ 32 ∷ 50 ∷ 32 ∷ 51 ∷ 10 ∷ []

pub example-text : table_text example ≡ example_bytes
unfolding table_text sizes_line counts_line state_line inside_lines inside_line element_lines element_line decimal digits signed vertices_word elements_word collapse_word move_word reconnect_word low_word euler_word inside_word element_word space line_end
example-text = refl

-- ---- the mean

-- a point with one number in each direction
abbrev diagonal : Float → Point
diagonal u = record { x = u; y = u; z = u }

-- 0.85
abbrev u85 : Float
u85 = of_bits binary64 0x3FEB_3333_3333_3333

-- 0.46
abbrev u46 : Float
u46 = of_bits binary64 0x3FDD_70A3_D70A_3D71

-- 0.25
abbrev u25 : Float
u25 = of_bits binary64 0x3FD0_0000_0000_0000

-- 0.16
abbrev u16 : Float
u16 = of_bits binary64 0x3FC4_7AE1_47AE_147B

-- left to right the mean is 0.43; from the last point to the first, and by pairs, it is 0.43000000000000005, the next f64
pub mean-order : (mean (diagonal u85) (diagonal u46) (diagonal u25) (diagonal u16) ≡ diagonal (of_bits binary64 0x3FDB_851E_B851_EB85))
    × (mean (diagonal u16) (diagonal u25) (diagonal u46) (diagonal u85) ≡ diagonal (of_bits binary64 0x3FDB_851E_B851_EB86))
    × (((u85 +₆₄ u46) +₆₄ (u25 +₆₄ u16)) /₆₄ four ≡ of_bits binary64 0x3FDB_851E_B851_EB86)
unfolding of_bits add div
mean-order = (refl, refl, refl)
