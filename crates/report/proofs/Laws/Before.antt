-- "Only the `inside` lines change" (document 02, request (ii)): with document 01's count every file has, line by line, the text that `report` has now,
-- but for the counts in its `inside` lines; so it is refused where it is refused now, with the same number. Assumes nothing.
use Rattle.std.proofs.Common.{◌≡◌, ℕ, zero, suc, ◌+◌, ◌/◌, ◌%◌, false, eqb, ltb, ◌≢◌, List, [], ◌∷◌, ◌++◌, length, take, ℤ, pos, negsuc, sym, refl, ap, ◌∙◌, inl, inr, append_assoc, append-nil, arith, ne_eqb}
use mathlib.Core.List.{flatten, head_d}
use lib.ListN.{length-map}
use Rattle.geometry.specs.declared.point.Point.{Point}
use Rattle.geometry.specs.declared.field.Field.{Field}
use Rattle.mesh.specs.declared.element.Tet.{Tet}
use Rattle.mesh.specs.Complex.{mem}
use Rattle.mesh.proofs.Laws.Bools.{split}
use Rattle.mesh.proofs.Laws.Complex.Sets.{out-head, out-tail}
use Rattle.repair.specs.Step.{mesh_of}
use Rattle.report.specs.Run.{Ran}
use Rattle.report.specs.Run.{Finished, Stopped}
use Rattle.report.specs.Block.{Reading, refused, read, reading}
use Rattle.report.specs.Run.{run_passes}
use Rattle.report.specs.Table.{digits, decimal, signed, vertices_word, elements_word, collapse_word, move_word, reconnect_word, low_word, euler_word, inside_word, refused_word, space, line_end, refused_text, sizes_line, counts_line, state_line, inside_line, inside_lines, element_lines, Table, table_text}
use Rattle.report.specs.Report.{blank, placed, table_of, printed, setting_of, text_of, report}
use Rattle.report.specs.Before.{in_front, lines_of, Alike, no_lines, same_line, inside-line, with_inside, Counting, printed_by, text_by, report_by, OneTable, both-refused, both-printed, first_counts, mean_counts}

-- ---- cutting

-- a byte in front of the first line is the first byte
front-whole : (b : ℕ) (ls : List (List ℕ)) → flatten (in_front b ls) ≡ b ∷ flatten ls
unfolding flatten in_front
front-whole b [] = refl
front-whole b (l ∷ ls) = refl

-- nothing is lost by cutting
pub lines-whole : (s : List ℕ) → flatten (lines_of s) ≡ s
unfolding flatten lines_of
lines-whole [] = refl
lines-whole (b ∷ s) =
    let e = ap (λ (u : List ℕ). b ∷ u) (lines-whole s) in
    elim (split (eqb b 10)) [ inl t ↦ rw t e | inr f ↦ rw f (front-whole b (lines_of s) ∙ e) ]

-- one line: before any text it is the first, and the text's lines follow
record IsLine (l : List ℕ) : Type 0 where
  pub first : (rest : List ℕ) → lines_of (l ++ rest) ≡ l ∷ lines_of rest

-- byte 10 alone
end : IsLine line_end
unfolding lines_of line_end
end = record { first = λ rest. refl }

-- another byte before a line
byte : (b : ℕ) {l : List ℕ} → 10 ≢ b → IsLine l → IsLine (b ∷ l)
unfolding lines_of in_front
byte b h line = record { first = λ rest. rw (ne_eqb b 10 (λ e. h (sym e)), line.first rest) }

-- bytes without 10 before a line
word : (body : List ℕ) {l : List ℕ} → mem 10 body ≡ false → IsLine l → IsLine (body ++ l)
word [] h line = line
word (b ∷ body) h line = byte b (out-head 10 b body h) (word body (out-tail 10 b body h) line)

-- ---- the lines that are one line each

-- a digit before a line
digit : (d : ℕ) {l : List ℕ} → IsLine l → IsLine ((48 + d) ∷ l)
digit d line = byte (48 + d) (λ e. omega arith) line

-- digits before a line
numeral : (most n : ℕ) {l : List ℕ} → IsLine l → IsLine (digits most n ++ l)
unfolding digits
numeral zero n line = line
numeral (suc most) n {l} line = elim (split (ltb n 10)) [
  | inl t ↦ rw t (digit n line)
  | inr f ↦ rw (f, append_assoc (digits most (n / 10)) ((48 + n % 10) ∷ []) l) (numeral most (n / 10) (digit (n % 10) line))
]

-- a number before a line
number : (n : ℕ) {l : List ℕ} → IsLine l → IsLine (decimal n ++ l)
unfolding decimal
number n line = numeral (suc n) n line

-- a number with its sign before a line
number± : (z : ℤ) {l : List ℕ} → IsLine l → IsLine (signed z ++ l)
unfolding signed
number± (pos n) line = number n line
number± (negsuc n) line = word (45 ∷ []) refl (number (suc n) line)

refused-one : (n : ℕ) → IsLine (refused_text n)
unfolding refused_text refused_word
refused-one n = word refused_word refl (number n end)

sizes-one : (vertices elements : ℕ) → IsLine (sizes_line vertices elements)
unfolding sizes_line vertices_word elements_word
sizes-one v e = word vertices_word refl (number v (word elements_word refl (number e end)))

counts-one : (collapsed moved reconnected : ℕ) → IsLine (counts_line collapsed moved reconnected)
unfolding counts_line collapse_word move_word reconnect_word
counts-one c m r = word collapse_word refl (number c (word move_word refl (number m (word reconnect_word refl (number r end)))))

state-one : (low : ℕ) (euler : ℤ) → IsLine (state_line low euler)
unfolding state_line low_word euler_word
state-one low euler = word low_word refl (number low (word euler_word refl (number± euler end)))

inside_one : (field count : ℕ) → IsLine (inside_line field count)
unfolding inside_line inside_word space
inside_one field count = word inside_word refl (number field (word space refl (number count end)))

-- ---- alike

-- a text and itself
pub alike_refl : (ls : List (List ℕ)) → Alike ls ls
alike_refl [] = no_lines
alike_refl (l ∷ ls) = same_line l (alike_refl ls)

-- the other way round
pub alike-sym : {ls ms : List (List ℕ)} → Alike ls ms → Alike ms ls
alike-sym no_lines = no_lines
alike-sym (same_line l a) = same_line l (alike-sym a)
alike-sym (inside-line field m n a) = inside-line field n m (alike-sym a)

-- behind the same line
behind-line : {l : List ℕ} → IsLine l → (s t : List ℕ) → Alike (lines_of s) (lines_of t) → Alike (lines_of (l ++ s)) (lines_of (l ++ t))
behind-line {l} line s t a = rw (line.first s, line.first t) (same_line l a)

-- behind `inside` lines of the same fields
behind-insides : (j : ℕ) (ms ns s : List ℕ) → length ms ≡ length ns → Alike (lines_of (inside_lines j ms ++ s)) (lines_of (inside_lines j ns ++ s))
unfolding inside_lines
behind-insides j [] [] s e = alike_refl (lines_of s)
behind-insides j [] (n ∷ ns) s e = absurd (omega arith)
behind-insides j (m ∷ ms) [] s e = absurd (omega arith)
behind-insides j (m ∷ ms) (n ∷ ns) s e =
    simp (append_assoc, (inside_one j m).first, (inside_one j n).first) (inside-line j m n (behind-insides (j + 1) ms ns s (omega arith)))

-- one table with two lists of counts
table-alike : (t : Table) (ms ns : List ℕ) → length ms ≡ length ns → Alike (lines_of (table_text (with_inside ms t))) (lines_of (table_text (with_inside ns t)))
unfolding table_text with_inside
table-alike t ms ns e =
    behind-line (sizes-one t.vertices (length t.elements)) _ _
    (behind-line (counts-one t.collapsed t.moved t.reconnected) _ _
    (behind-line (state-one t.low t.euler) _ _ (behind-insides 0 ms ns (element_lines t.elements) e)))

-- ---- refusals

-- a refusal has one line
refused-lines : (n : ℕ) → lines_of (refused_text n) ≡ refused_text n ∷ []
unfolding lines_of
refused-lines n = ap lines_of (sym (append-nil (refused_text n))) ∙ (refused-one n).first []

-- only no lines are alike to no lines
none_alike : {ms : List (List ℕ)} → Alike [] ms → ms ≡ []
none_alike no_lines = refl

-- an `inside` line begins with byte 105, a refusal with 114
refused-alike : (n : ℕ) {ls ms : List (List ℕ)} → Alike ls ms → ls ≡ refused_text n ∷ [] → ms ≡ refused_text n ∷ []
unfolding inside_line inside_word refused_text refused_word head_d
refused-alike n no_lines e = e
refused-alike n (same_line l {ls} {ms} a) e =
    let no_more : ls ≡ [] = cc in
    let none = none_alike (rw no_more at a) in
    cc
refused-alike n (inside-line field m k a) e = absurd (let z : ◌≡◌ {A = ℕ} 105 114 = ap (λ ls. head_d (head_d ls []) 0) e in omega arith)

-- what is alike to a refusal is that refusal
pub refusal-same : (t u : List ℕ) (n : ℕ) → Alike (lines_of t) (lines_of u) → t ≡ refused_text n → u ≡ refused_text n
unfolding flatten
refusal-same t u n a e = sym (lines-whole u) ∙ ap flatten (refused-alike n a (ap lines_of e ∙ refused-lines n)) ∙ append-nil (refused_text n)

-- ---- every file

-- what holds of the text by each count and of the text now, for refusals and tables, holds of them for every file
module _ (R : (Counting → List ℕ) → List ℕ → Type 0) (stopped : (n : ℕ) → R (λ c. refused_text n) (refused_text n))
    (finished : (fs : List Field) (collapsed moved reconnected : ℕ) (ps : List Point) (ts : List Tet) → let t = table_of fs collapsed moved reconnected ps ts in
    R (λ c. table_text (with_inside (c ps ts fs) t)) (table_text t)) where
  -- a run
  run-text : (fs : List Field) (r : Ran) (ps : List Point) (ts : List Tet) → R (λ c. printed_by c fs r ps ts) (printed fs r ps ts)
  run-text fs (Finished collapsed moved reconnected z) ps ts = finished fs collapsed moved reconnected ps ts
  run-text fs (Stopped number z) ps ts = stopped number

  -- a reading
  reading-text : (r : Reading) → R (λ c. text_by c r) (text_of r)
  reading-text (refused number) = stopped number
  reading-text (read p) =
      let g = setting_of p in
      let x = run_passes g (placed p blank) in
      run-text (take g.count g.fields) x.0 (mesh_of x.1).points (mesh_of x.1).elements

  -- a file
  file-text : (s : List ℕ) → R (λ c. report_by c s) (report s)
  unfolding report_by report
  file-text s = reading-text (reading s)

-- for every file the same refusal, or one table with the counts given and with today's
pub by-table : (c : Counting) (s : List ℕ) → OneTable c (report_by c s) (report s)
by-table c = file-text (λ text now. OneTable c (text c) now) both-refused both-printed

-- the counts given are those of the table
pub inside-given : (counts : List ℕ) (t : Table) → (with_inside counts t).inside ≡ counts
unfolding with_inside
inside-given counts t = refl

-- by two counts that give as many numbers, whatever they count
pub by_alike : (c d : Counting) → ((ps : List Point) (ts : List Tet) (fs : List Field) → length (c ps ts fs) ≡ length (d ps ts fs)) → (s : List ℕ)
    → Alike (lines_of (report_by c s)) (lines_of (report_by d s))
by_alike c d same =
    file-text (λ text now. Alike (lines_of (text c)) (lines_of (text d))) (λ n. alike_refl (lines_of (refused_text n)))
    (λ fs collapsed moved reconnected ps ts. table-alike (table_of fs collapsed moved reconnected ps ts) (c ps ts fs) (d ps ts fs) (same ps ts fs))

-- counted at the mean it is the text now
pub report-now : (s : List ℕ) → report_by mean_counts s ≡ report s
unfolding with_inside mean_counts table_of
report-now = file-text (λ text now. text mean_counts ≡ now) (λ n. refl) (λ fs collapsed moved reconnected ps ts. refl)

-- both give a count for each field
as_many : (ps : List Point) (ts : List Tet) (fs : List Field) → length (first_counts ps ts fs) ≡ length (mean_counts ps ts fs)
unfolding first_counts mean_counts
as_many ps ts fs = simp length-map

-- "Only the `inside` lines change"
pub only-inside : (s : List ℕ) → Alike (lines_of (report_by first_counts s)) (lines_of (report s))
only-inside s = rw (report-now s) at (by_alike first_counts mean_counts as_many s)

-- the same files are refused, with the same number
pub same-refusal : (s : List ℕ) (n : ℕ)
    → (report_by first_counts s ≡ refused_text n → report s ≡ refused_text n) × (report s ≡ refused_text n → report_by first_counts s ≡ refused_text n)
same-refusal s n =
    let a = only-inside s in
    (refusal-same (report_by first_counts s) (report s) n a, refusal-same (report s) (report_by first_counts s) n (alike-sym a))
