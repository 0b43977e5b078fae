-- The text that `plot` prints (document 01, "Trial soil blocks": "Lines: sizes after the run; the three counts; bad elements and the
-- alternating count of demand 3; per field its number and elements inside; one line an element"; document 02, request (ii), for the place that
-- an inside count looks at), as bytes. Definitions only.
use Rattle.std.specs.Prelude.{◌≡◌, ℕ, zero, suc, ◌+◌, ◌/◌, ◌%◌, Bool, false, cond, List, [], ◌∷◌, ◌++◌, length, ℤ, pos, negsuc, nat_lt, refl, Float}
use Rattle.std.specs.Float.{fin, binary64}
use Rattle.std.specs.Float.Ieee.{of_bits, le}
use Rattle.geometry.specs.declared.point.Point.{Point}
use Rattle.geometry.specs.declared.field.Field.{Field}
use Rattle.geometry.specs.Float.{◌+₆₄◌, ◌/₆₄◌, zero64}
use Rattle.geometry.specs.Field.{value}
use Rattle.mesh.specs.declared.element.Tet.{Tet}
use Rattle.mesh.specs.Words.{point_at}
use Rattle.mesh.specs.Complex.{keep}
use Rattle.mesh.specs.Measure.{measure, bad_count}

-- ---- numbers

-- the digits of n, at most `most` of them, the highest first
unfoldable pub digits : ℕ → ℕ → List ℕ
digits zero n = []
digits (suc most) n = cond (nat_lt n 10) ((48 + n) ∷ []) (digits most (n / 10) ++ ((48 + n % 10) ∷ []))

-- n in decimal digits, with no leading zeros: n + 1 digits are enough for n
unfoldable pub decimal : ℕ → List ℕ
decimal n = digits (suc n) n

-- a minus sign before what is below 0
unfoldable pub signed : ℤ → List ℕ
signed (pos n) = decimal n
signed (negsuc n) = 45 ∷ decimal (suc n)

-- ---- words

-- the bytes of "vertices "
unfoldable pub vertices_word : List ℕ
vertices_word = 118 ∷ 101 ∷ 114 ∷ 116 ∷ 105 ∷ 99 ∷ 101 ∷ 115 ∷ 32 ∷ []

-- the bytes of " elements "
unfoldable pub elements_word : List ℕ
elements_word = 32 ∷ 101 ∷ 108 ∷ 101 ∷ 109 ∷ 101 ∷ 110 ∷ 116 ∷ 115 ∷ 32 ∷ []

-- the bytes of "collapse "
unfoldable pub collapse_word : List ℕ
collapse_word = 99 ∷ 111 ∷ 108 ∷ 108 ∷ 97 ∷ 112 ∷ 115 ∷ 101 ∷ 32 ∷ []

-- the bytes of " move "
unfoldable pub move_word : List ℕ
move_word = 32 ∷ 109 ∷ 111 ∷ 118 ∷ 101 ∷ 32 ∷ []

-- the bytes of " reconnect "
unfoldable pub reconnect_word : List ℕ
reconnect_word = 32 ∷ 114 ∷ 101 ∷ 99 ∷ 111 ∷ 110 ∷ 110 ∷ 101 ∷ 99 ∷ 116 ∷ 32 ∷ []

-- the bytes of "low "
unfoldable pub low_word : List ℕ
low_word = 108 ∷ 111 ∷ 119 ∷ 32 ∷ []

-- the bytes of " euler "
unfoldable pub euler_word : List ℕ
euler_word = 32 ∷ 101 ∷ 117 ∷ 108 ∷ 101 ∷ 114 ∷ 32 ∷ []

-- the bytes of "inside "
unfoldable pub inside_word : List ℕ
inside_word = 105 ∷ 110 ∷ 115 ∷ 105 ∷ 100 ∷ 101 ∷ 32 ∷ []

-- the bytes of "element "
unfoldable pub element_word : List ℕ
element_word = 101 ∷ 108 ∷ 101 ∷ 109 ∷ 101 ∷ 110 ∷ 116 ∷ 32 ∷ []

-- the bytes of "refused "
unfoldable pub refused_word : List ℕ
refused_word = 114 ∷ 101 ∷ 102 ∷ 117 ∷ 115 ∷ 101 ∷ 100 ∷ 32 ∷ []

-- the byte of a space
unfoldable pub space : List ℕ
space = 32 ∷ []

-- every line ends with byte 10
unfoldable pub line_end : List ℕ
line_end = 10 ∷ []

-- ---- lines

-- "`plot` prints only `refused N`"
unfoldable pub refused_text : ℕ → List ℕ
refused_text n = refused_word ++ (decimal n ++ line_end)

-- "sizes after the run"
unfoldable pub sizes_line : ℕ → ℕ → List ℕ
sizes_line vertices elements = vertices_word ++ (decimal vertices ++ (elements_word ++ (decimal elements ++ line_end)))

-- "the three counts"
unfoldable pub counts_line : ℕ → ℕ → ℕ → List ℕ
counts_line collapsed moved reconnected =
    collapse_word ++ (decimal collapsed ++ (move_word ++ (decimal moved ++ (reconnect_word ++ (decimal reconnected ++ line_end)))))

-- "bad elements and the alternating count of demand 3"
unfoldable pub state_line : ℕ → ℤ → List ℕ
state_line low euler = low_word ++ (decimal low ++ (euler_word ++ (signed euler ++ line_end)))

-- "per field its number and elements inside"
unfoldable pub inside_line : ℕ → ℕ → List ℕ
inside_line field count = inside_word ++ (decimal field ++ (space ++ (decimal count ++ line_end)))

-- "one line an element"
unfoldable pub element_line : Tet → List ℕ
element_line t =
    element_word
    ++ ((decimal t.a ++ space) ++ ((decimal t.b ++ space) ++ ((decimal t.c ++ space) ++ (decimal t.d ++ line_end))))

-- a line for each field, from the field number j on
unfoldable pub inside_lines : ℕ → List ℕ → List ℕ
inside_lines j [] = []
inside_lines j (n ∷ ns) = inside_line j n ++ inside_lines (j + 1) ns

-- a line for each element
unfoldable pub element_lines : List Tet → List ℕ
element_lines [] = []
element_lines (t ∷ ts) = element_line t ++ element_lines ts

-- ---- the table

-- what the lines say
pub record Table : Type 0 where
  pub vertices : ℕ
  pub collapsed : ℕ
  pub moved : ℕ
  pub reconnected : ℕ
  pub low : ℕ
  pub euler : ℤ
  pub inside : List ℕ
  pub elements : List Tet

-- all lines, one after the other
unfoldable pub table_text : Table → List ℕ
table_text t =
    sizes_line t.vertices (length t.elements)
    ++ (counts_line t.collapsed t.moved t.reconnected
    ++ (state_line t.low t.euler ++ (inside_lines 0 t.inside ++ element_lines t.elements)))

-- ---- what is inside

-- 4.0
abbrev pub four : Float
four = fin false 1 (pos 2)

four-bits : of_bits binary64 0x4010_0000_0000_0000 ≡ four
unfolding of_bits
four-bits = refl

-- "per direction the sum left to right, then divided by 4" (document 02, request (ii))
abbrev pub mean : Point → Point → Point → Point → Point
mean a b c d = record {
  x = (a.x +₆₄ b.x +₆₄ c.x +₆₄ d.x) /₆₄ four;
  y = (a.y +₆₄ b.y +₆₄ c.y +₆₄ d.y) /₆₄ four;
  z = (a.z +₆₄ b.z +₆₄ c.z +₆₄ d.z) /₆₄ four;
}

-- "the place looked at is the mean of the four points", taken in the order of the element's vertices
unfoldable pub place_of : List Point → Tet → Point
place_of points t = mean (point_at points t.a) (point_at points t.b) (point_at points t.c) (point_at points t.d)

-- "An element is inside a field where the field's value .. is at most 0"
abbrev pub is_inside : List Point → Field → Tet → Bool
is_inside points f t = le (value f (place_of points t)) zero64

-- "per field its number and elements inside"
unfoldable pub inside_count : List Point → List Tet → Field → ℕ
inside_count points elements f = length (keep (is_inside points f) elements)

-- "bad elements"
unfoldable pub low_count : List Point → List Tet → ℕ
low_count points elements = bad_count (measure points) elements
