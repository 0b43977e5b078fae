-- Elements and fields one by one: counts and lines. Assumes nothing.
use Rattle.std.proofs.Common.{◌≡◌, ℕ, zero, suc, ◌+◌, ◌<◌, List, [], ◌∷◌, ◌++◌, map, length, get_or, take, drop, sym, refl, ap, ◌∙◌, subst, append_assoc, append-nil, add-one, arith, length-take-le, take-suc}
use mathlib.Core.List.{map-append}
use lib.ListN.{length-map}
use Rattle.geometry.specs.declared.field.Field.{Field}
use Rattle.mesh.specs.declared.element.Tet.{Tet}
use Rattle.mesh.specs.Element.{tet, tets}
use Rattle.mesh.specs.inside.Intake.{tet_at}
use Rattle.report.specs.Table.{inside_line, inside_lines, element_line, element_lines}
use Rattle.report.specs.inside.Written.{Written}
use Rattle.report.proofs.Laws.Text.{written_then}
use Rattle.mesh.proofs.Laws.Intake.Reads.{tet-drop}

-- one more element
pub tets-more : (i : ℕ) (s : List ℕ) → tets (suc i) s ≡ tets i s ++ (tet_at s i ∷ [])
unfolding tets tet_at
tets-more zero s = refl
tets-more (suc i) s = ap (λ (l : List Tet). tet (get_or s 0 0) (get_or s 1 0) (get_or s 2 0) (get_or s 3 0) ∷ l) (tets-more i (drop 4 s) ∙ ap (λ (t : Tet). tets i (drop 4 s) ++ (t ∷ [])) (tet-drop s i))

-- the lines of elements, the last behind the others
lines-last : (ts : List Tet) (t : Tet) → element_lines (ts ++ (t ∷ [])) ≡ element_lines ts ++ element_line t
unfolding element_lines
lines-last [] t = append-nil (element_line t)
lines-last (u ∷ ts) t = ap (λ (l : List ℕ). element_line u ++ l) (lines-last ts t) ∙ sym (append_assoc (element_line u) (element_lines ts) (element_line t))

-- one more element's line
pub element-more : {o m n : List ℕ} {at p q : ℕ} (s : List ℕ) (i : ℕ) (t : Tet) → t ≡ tet_at s i → Written o m at p (element_lines (tets i s)) → Written m n p q (element_line t)
    → Written o n at q (element_lines (tets (i + 1) s))
element-more {o} {m} {n} {at} {p} {q} s i t e w u =
    let text : element_lines (tets i s) ++ element_line t ≡ element_lines (tets (i + 1) s) = rw add-one (sym (ap element_lines (tets-more i s) ∙ (lines-last (tets i s) (tet_at s i) ∙ ap (λ (v : Tet). element_lines (tets i s) ++ element_line v) (sym e)))) in
    subst (λ (l : List ℕ). Written o n at q l) text (written_then {a = element_lines (tets i s)} {b = element_line t} w u)

-- the lines of fields, the last behind the others
fields-last : (j : ℕ) (ns : List ℕ) (n : ℕ) → inside_lines j (ns ++ (n ∷ [])) ≡ inside_lines j ns ++ inside_line (j + length ns) n
unfolding inside_lines
fields-last j [] n = let e : j ≡ j + 0 = omega arith in append-nil (inside_line j n) ∙ ap (λ (k : ℕ). inside_line k n) e
fields-last j (m ∷ ns) n =
    let e : j + 1 + length ns ≡ j + suc (length ns) = omega arith in
    ap (λ (l : List ℕ). inside_line j m ++ l) (fields-last (j + 1) ns n ∙ ap (λ (k : ℕ). inside_lines (j + 1) ns ++ inside_line k n) e)
    ∙ sym (append_assoc (inside_line j m) (inside_lines (j + 1) ns) (inside_line (j + suc (length ns)) n))

-- one more field's line
pub inside-more : {o m n : List ℕ} {at p q : ℕ} (g : Field → ℕ) (fields : List Field) (d : Field) (j r : ℕ) → j < length fields → r ≡ g (get_or fields j d)
    → Written o m at p (inside_lines 0 (map g (take j fields))) → Written m n p q (inside_line j r) → Written o n at q (inside_lines 0 (map g (take (j + 1) fields)))
inside-more {o} {m} {n} {at} {p} {q} g fields d j r h e w u =
    let front = take j fields in
    let long : 0 + length (map g front) ≡ j = let a = length-map front g in let b = length-take-le j fields (omega arith) in omega arith in
    let counts : map g (take (j + 1) fields) ≡ map g front ++ (r ∷ []) = rw add-one (ap (map g) (take-suc fields j d h) ∙ (map-append g front (get_or fields j d ∷ []) ∙ ap (λ (k : ℕ). map g front ++ (k ∷ [])) (sym e))) in
    let text : inside_lines 0 (map g front) ++ inside_line j r ≡ inside_lines 0 (map g (take (j + 1) fields)) = sym (ap (inside_lines 0) counts ∙ (fields-last 0 (map g front) r ∙ ap (λ (k : ℕ). inside_lines 0 (map g front) ++ inside_line k r) long)) in
    subst (λ (l : List ℕ). Written o n at q l) text (written_then {a = inside_lines 0 (map g front)} {b = inside_line j r} w u)
