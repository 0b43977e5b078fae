-- A file that is read: its plot in the passes' buffers, and what is printed for it. Assumes nothing.
use Rattle.std.proofs.Common.{◌≡◌, ℕ, ◌+◌, ◌*◌, ◌≤◌, true, leb, List, ◌++◌, length, take, drop, sym, refl, ap, ◌∙◌, subst, ap₂, arith, eq-eqb, ne_eqb, le-leb}
use Rattle.std.proofs.Common.{Result, Ok, Err}
use Rattle.std.specs.Result.{result_unwrap_or}
use lib.Ieee.{Float}
use lib.Seq.{sets}
use Rattle.geometry.specs.declared.bounds.Options.{Options}
use Rattle.geometry.specs.declared.field.Field.{Field}
use Rattle.mesh.specs.declared.element.Tet.{Tet}
use Rattle.mesh.specs.Surface.{Outcome}
use Rattle.mesh.specs.Words.{points_of}
use Rattle.mesh.specs.Element.{tets}
use Rattle.mesh.specs.declared.refusal.Refusal.{Refusal}
use Rattle.mesh.specs.Surface.{outcome_of, triples_of, answer_of, surface_words, call_fits, Call, boundary_call}
use Rattle.mesh.proofs.Laws.Bools.{and_intro}
use Rattle.repair.specs.Step.{State, over, mesh_of}
use Rattle.report.specs.Format.{most_elements}
use Rattle.report.specs.Bytes.{listed}
use Rattle.report.specs.Block.{vertices_in, elements_in, fields_in, vertex_blocks, parameter_row, point_row, mask_row, element_row, header_options, header_fields, reading_number, plot_in, refused, read, reading}
use Rattle.report.specs.Table.{refused_text}
use Rattle.report.specs.inside.Written.{Written}
use Rattle.report.specs.Run.{Ran}
use Rattle.report.specs.Run.{Setting, run_passes, sizes_left}
use Rattle.report.specs.Report.{word_room, float_room, placed, blank, printed, run_text, text_of, report}
use Rattle.report.proofs.Laws.Listed.{length-listed}
use Rattle.report.proofs.Laws.Prefix.{reading-front}

-- ---- the buffers

-- the surface, where the buffers have room
pub surface-put : (n : ℕ) (els sf wk sf' wk' : List ℕ) (r : Outcome) → n ≤ most_elements → 4 * n ≤ length els → 12 * n ≤ length sf → 36 * n ≤ length wk
    → ◌≡◌ {A = Call} (record { answer = r; surface = sf'; work = wk' }) (boundary_call n els sf wk)
    → (r ≡ answer_of (tets n els)) × (sf' ≡ over (surface_words (tets n els)) sf)
unfolding boundary_call call_fits
surface-put n els sf wk sf' wk' r few e f w h =
    let fits : call_fits n (length els) (length sf) (length wk) ≡ true =
    and_intro (leb n 16384) _ (le-leb n 16384 (omega arith)) (and_intro (leb (4 * n) (length els)) _ (le-leb (4 * n) (length els) e) (and_intro (leb (12 * n) (length sf)) _ (le-leb (12 * n) (length sf) f) (le-leb (36 * n) (length wk) w))) in
    let g = rw fits at h in
    (ap (λ (c : Call). c.answer) g, ap (λ (c : Call). c.surface) g)

-- rows over the front of a buffer
rows-over : {A : Type 0} (row : ℕ → List A) (w n m k : ℕ) (old new : List A) → ((j : ℕ) → length (row j) ≡ w) → n ≡ m → k ≡ n * w → new ≡ listed row n ++ drop k old
    → new ≡ over (listed row m) old
rows-over row w n m k old new h e f g =
    let l : k ≡ length (listed row n) = f ∙ sym (length-listed row w h n) in
    g ∙ ap (λ (i : ℕ). listed row n ++ drop i old) l ∙ ap (λ (i : ℕ). over (listed row i) old) e

-- the plot at the front of the buffers
pub plot-placed : (s : List ℕ) (v n b c : ℕ) (p p₀ q q₀ : List Float) (m m₀ e e₀ t t₀ : List ℕ) → v ≡ vertices_in s → n ≡ elements_in s → b ≡ vertex_blocks v
    → p ≡ listed (parameter_row s) v ++ drop (3 * v) p₀ → q ≡ listed (point_row s) v ++ drop (3 * v) q₀ → m ≡ listed (mask_row s) v ++ drop v m₀
    → e ≡ listed (element_row s (1 + b)) n ++ drop (4 * n) e₀ → c ≡ triples_of (answer_of (tets n e)) → t ≡ over (surface_words (tets n e)) t₀
    → ◌≡◌ {A = State} (record { parameters = p; points = q; masks = m; elements = e; surface = t; sizes = record { vertices = v; elements = n; triples = c } })
    (placed (plot_in s) (record { parameters = p₀; points = q₀; masks = m₀; elements = e₀; surface = t₀; sizes = record { vertices = 0; elements = 0; triples = 0 } }))
unfolding placed plot_in parameter_row point_row mask_row element_row
plot-placed s v n b c p p₀ q q₀ m m₀ e e₀ t t₀ hv hn hb hp hq hm he hc ht =
    let k : 1 + b ≡ 1 + vertex_blocks (vertices_in s) = ap (λ (i : ℕ). 1 + i) (hb ∙ ap vertex_blocks hv) in
    let ep = rows-over (parameter_row s) 3 v (vertices_in s) (3 * v) p₀ p (λ j. refl) hv (omega arith) hp in
    let eq = rows-over (point_row s) 3 v (vertices_in s) (3 * v) q₀ q (λ j. refl) hv (omega arith) hq in
    let em = rows-over (mask_row s) 1 v (vertices_in s) v m₀ m (λ j. refl) hv (omega arith) hm in
    let ee = rows-over (element_row s (1 + b)) 4 n (elements_in s) (4 * n) e₀ e (λ j. refl) hn (omega arith) he
    ∙ ap (λ (i : ℕ). over (listed (element_row s i) (elements_in s)) e₀) k in
    let ts = ap₂ tets hn ee in
    let et = ht ∙ ap (λ (l : List Tet). over (surface_words l) t₀) ts in
    let ec = hc ∙ ap (λ (l : List Tet). triples_of (answer_of l)) ts in
    (λ i. record { parameters = ep i; points = eq i; masks = em i; elements = ee i; surface = et i; sizes = record { vertices = hv i; elements = hn i; triples = ec i } })

-- ---- the whole

-- the text of a run with the box, the fields and the buffers of the plot
pub plot-printed : (s : List ℕ) (o : Options) (fs : List Field) (n w f : ℕ) (x : State) (ran : Ran) (p q : List Float) (m e t : List ℕ) {old new : List ℕ} {r : ℕ}
    → o ≡ header_options s → fs ≡ header_fields s → n ≡ fields_in s → w ≡ word_room → f ≡ float_room → x ≡ placed (plot_in s) blank
    → ◌≡◌ {A = Ran × State} (ran, record { parameters = p; points = q; masks = m; elements = e; surface = t; sizes = sizes_left ran })
    (run_passes (record { options = o; fields = fs; count = n; words = w; floats = f }) x)
    → Written old new 0 r (printed (take n fs) ran (points_of (sizes_left ran).vertices q) (tets (sizes_left ran).elements e))
    → Written old new 0 r (text_of (read (plot_in s)))
unfolding plot_in mesh_of
plot-printed s o fs n w f x ran p q m e t {old} {new} {r} ho hf hn hw hl hx h =
    let g : Setting = record { options = o; fields = fs; count = n; words = w; floats = f } in
    let a : run_text g (ran, record { parameters = p; points = q; masks = m; elements = e; surface = t; sizes = sizes_left ran }) ≡ run_text g (run_passes g x) = ap (run_text g) h in
    subst (λ (u : List ℕ). Written old new 0 r u)
    (a ∙ (λ i. run_text (record { options = ho i; fields = hf i; count = hn i; words = hw i; floats = hl i }) (run_passes (record { options = ho i; fields = hf i; count = hn i; words = hw i; floats = hl i }) (hx i))))

-- a file that is read
pub report-read : (s : List ℕ) → reading_number s ≡ 0 → text_of (read (plot_in s)) ≡ report s
unfolding report reading
report-read s h = let e : reading s ≡ read (plot_in s) = rw (eq-eqb (reading_number s) 0 h) in sym (ap text_of e)

-- one that is not
pub report-refused : (s : List ℕ) → (reading_number s ≡ 0 → ⊥) → refused_text (reading_number s) ≡ report s
unfolding report reading
report-refused s h = let e : reading s ≡ refused (reading_number s) = rw (ne_eqb (reading_number s) 0 h) in sym (ap text_of e)

-- a text that is written, in the words of `report`'s contract
pub report-written : (s text : List ℕ) {old new : List ℕ} {r : ℕ} → text ≡ report s → Written old new 0 r text → r ≤ 50000
    → (new ≡ sets old 0 (report s)) × ((r ≡ length (report s)) × (r ≤ 50000))
report-written s text {old} {new} {r} e w h =
    let l = ap length e in
    let p = w.place in
    (w.bytes ∙ ap (sets old 0) e, (omega arith, h))

-- the first 2,561 bytes decide what is printed
pub report-front : (s : List ℕ) → report (take 2561 s) ≡ report s
unfolding report
report-front s = ap text_of (reading-front s 2561 (omega arith))

-- the triples of a result, 0 of a refusal
pub unwrapped : (r : Result ℕ Refusal) → result_unwrap_or r 0 ≡ triples_of (outcome_of r)
unwrapped (Ok c) = refl
unwrapped (Err e) = refl
