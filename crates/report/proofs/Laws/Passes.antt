-- The three calls one after the other: what a run gives after an answer, the room that a call leaves, and the counts of simplices.
-- Assumes nothing.
use Rattle.std.proofs.Common.{◌≡◌, ℕ, ◌+◌, ◌*◌, ◌≤◌, Bool, true, false, cond, eqb, leb, List, [], ◌∷◌, length, take, drop, sym, refl, ap, ◌∙◌, subst, arith, length-append, length-take-le, take_at, le-leb}
use lib.Ieee.{Float}
use Rattle.mesh.specs.declared.element.Tet.{Tet}
use Rattle.mesh.specs.declared.euler.Counts.{Counts}
use Rattle.mesh.specs.declared.intake.Sizes.{Sizes}
use Rattle.mesh.specs.Words.{inside, copied}
use Rattle.mesh.specs.Sort.{sort}
use Rattle.mesh.specs.inside.Rows.{le_row, eq_row}
use Rattle.mesh.specs.Element.{tets, all_vertices}
use Rattle.mesh.specs.Intake.{intake}
use Rattle.mesh.specs.inside.Euler.{vertex_rows, edge_rows, triangle_rows, spread, different, counts_of, count_fits, Counted, counted_in}
use Rattle.mesh.proofs.Laws.Bools.{clash, and_intro}
use Rattle.mesh.proofs.Laws.Parts.{into-is, length-copied}
use Rattle.mesh.proofs.Laws.Sort.{length-sort}
use Rattle.mesh.proofs.Laws.Unique.{length-unique}
use Rattle.mesh.proofs.Laws.Boundary.Faces.{tets-kept}
use Rattle.repair.specs.Step.{Answer}
use Rattle.repair.specs.Step.{Done, Refused}
use Rattle.repair.specs.Mesh.{Result, made, refused}
use Rattle.repair.specs.Step.{State, Call, Pass, sizes_after, committed, lengths_of, given, mesh_of, result_of, finish, step}
use Rattle.report.specs.Run.{Ran}
use Rattle.report.specs.Run.{Finished, Stopped}
use Rattle.report.specs.Run.{Setting, call_in, after, called, run_flip, run_smooth, run_passes}

-- ---- the counts of simplices

-- elements copied to the front of the work
elements-copied : (n : ℕ) (els wk : List ℕ) → 4 * n ≤ length els → 4 * n ≤ length wk → tets n (copied els 0 wk 0 (4 * n)) ≡ tets n els
unfolding inside
elements-copied n els wk h k =
    tets-kept n (copied els 0 wk 0 (4 * n)) els
    (ap (take (4 * n)) (sym (into-is els wk 0 0 (4 * n) (le-leb (0 + 4 * n) (length els) (omega arith)) (le-leb (0 + 4 * n) (length wk) (omega arith))))
    ∙ take_at (take (4 * n) els) (drop (0 + 4 * n) wk) (4 * n) (length-take-le (4 * n) els h))

-- the counts, where the area is long enough
counted : (n : ℕ) (s : List ℕ) → count_fits n (length s) ≡ true → (counted_in n s).counts ≡ counts_of (tets n s)
unfolding counted_in
counted n s e = rw e

-- the counts of the copied elements
pub simplices-are : (n : ℕ) (els wk w z : List ℕ) (r : Counts) → n ≤ 1000 → 4 * n ≤ length els → 28 * n ≤ length wk → w ≡ copied els 0 wk 0 (4 * n)
    → ◌≡◌ {A = Counted} (record { counts = r; area = z }) (counted_in n w) → r ≡ counts_of (tets n els)
unfolding count_fits
simplices-are n els wk w z r few long room e g =
    let l : length w ≡ length wk = ap length e ∙ length-copied els wk 0 0 (4 * n) in
    let fits : count_fits n (length w) ≡ true = and_intro (leb n 65536) (leb (28 * n) (length w)) (le-leb n 65536 (omega arith)) (le-leb (28 * n) (length w) (omega arith)) in
    ap (λ (c : Counted). c.counts) g ∙ counted n w fits ∙ ap counts_of (ap (tets n) e ∙ elements-copied n els wk long (omega arith))

-- w rows an element
spread-long : (f : Tet → List (List ℕ)) (w : ℕ) → ((t : Tet) → length (f t) ≡ w) → (ts : List Tet) → length (spread f ts) ≡ length ts * w
unfolding spread
spread-long f w h [] = omega arith
spread-long f w h (t ∷ ts) = omega (arith, length-append (f t) (spread f ts), h t, spread-long f w h ts)

different-few : (rs : List (List ℕ)) → different rs ≤ length rs
unfolding different
different-few rs = omega (arith, length-unique eq_row (sort le_row rs), length-sort le_row rs)

-- four vertices, six edges and four triangles an element at most
pub simplices-few : (ts : List Tet) → ((counts_of ts).vertices ≤ 4 * length ts) × ((counts_of ts).edges ≤ 6 * length ts) × ((counts_of ts).triangles ≤ 4 * length ts) × ((counts_of ts).elements ≡ length ts)
unfolding counts_of
simplices-few ts = (
  omega (arith, different-few (spread vertex_rows ts), spread-long vertex_rows 4 (λ t. refl) ts),
  omega (arith, different-few (spread edge_rows ts), spread-long edge_rows 6 (λ t. refl) ts),
  omega (arith, different-few (spread triangle_rows ts), spread-long triangle_rows 4 (λ t. refl) ts),
  refl,
)

-- ---- the room that a call leaves

-- four words an element
words_long : (ts : List Tet) → length (all_vertices ts) ≡ 4 * length ts
unfolding all_vertices
words_long [] = refl
words_long (t ∷ ts) = omega (arith, words_long ts)

-- a refusal
abbrev is_refused : Answer → Bool
is_refused (Done count z) = false
is_refused (Refused number) = true

-- a mesh that is made stands in its buffer
finish-room : (s : State) (r : Result) (count : ℕ) (z : Sizes) → (finish s r).0 ≡ Done count z → 4 * (finish s r).1.sizes.elements ≤ length (finish s r).1.elements
unfolding committed
finish-room s (made k m) count z e =
    omega (arith, length-append (all_vertices m.elements) (drop (length (all_vertices m.elements)) s.elements), words_long m.elements)
finish-room s (refused k) count z e = clash true refl (ap is_refused e)

-- a call that gives a count leaves its elements in their buffer
pub step_room : (c : Call) (s : State) (count : ℕ) (z : Sizes) → (step c s).0 ≡ Done count z → 4 * (step c s).1.sizes.elements ≤ length (step c s).1.elements
unfolding step
step_room c s count z e =
    let k = intake (given (lengths_of c s) c s) in
    finish-room s (cond (eqb k 0) (result_of c.pass c (mesh_of s)) (refused k)) count z e

-- ---- after an answer

-- the sizes that an answer gives
pub done-sizes : (z : Sizes) {p q : List Float} {m e t : List ℕ} {y : Sizes} {a : Answer} {count : ℕ} {x : Answer × State}
    → ◌≡◌ {A = Answer × State} (a, record { parameters = p; points = q; masks = m; elements = e; surface = t; sizes = sizes_after a z }) x → a ≡ Done count y
    → ◌≡◌ {A = Answer × State} (Done count y, record { parameters = p; points = q; masks = m; elements = e; surface = t; sizes = y }) x
done-sizes z {p} {q} {m} {e} {t} {y} {a} {count} {x} h f =
    subst (λ (b : Answer). ◌≡◌ {A = Answer × State} (b, record { parameters = p; points = q; masks = m; elements = e; surface = t; sizes = sizes_after b z }) x) f h

-- the sizes that a refusal leaves
pub refused-sizes : (z : Sizes) {p q : List Float} {m e t : List ℕ} {a : Answer} {k : ℕ} {x : Answer × State}
    → ◌≡◌ {A = Answer × State} (a, record { parameters = p; points = q; masks = m; elements = e; surface = t; sizes = sizes_after a z }) x → a ≡ Refused k
    → ◌≡◌ {A = Answer × State} (Refused k, record { parameters = p; points = q; masks = m; elements = e; surface = t; sizes = z }) x
refused-sizes z {p} {q} {m} {e} {t} {a} {k} {x} h f =
    subst (λ (b : Answer). ◌≡◌ {A = Answer × State} (b, record { parameters = p; points = q; masks = m; elements = e; surface = t; sizes = sizes_after b z }) x) f h

-- a count hands on to what comes next
called-done : (c : Call) (next : ℕ → State → Ran × State) (s t : State) (a : Answer) (count : ℕ) (z : Sizes)
    → ◌≡◌ {A = Answer × State} (a, t) (step c s) → a ≡ Done count z → next count t ≡ called c next s
unfolding called
called-done c next s t a count z e f = ap (λ (x : Answer). after x t next) (sym f) ∙ ap (λ (y : Answer × State). after y.0 y.1 next) e

-- a refusal ends
called-refused : (c : Call) (next : ℕ → State → Ran × State) (s t : State) (a : Answer) (k : ℕ)
    → ◌≡◌ {A = Answer × State} (a, t) (step c s) → a ≡ Refused k → ◌≡◌ {A = Ran × State} (Stopped k t.sizes, t) (called c next s)
unfolding called
called-refused c next s t a k e f = ap (λ (x : Answer). after x t next) (sym f) ∙ ap (λ (y : Answer × State). after y.0 y.1 next) e

module _ (g : Setting) (s t : State) (a : Answer) where
  -- `flip`'s answer
  pub flip-finished : (collapsed moved count : ℕ) (z : Sizes) → ◌≡◌ {A = Answer × State} (a, t) (step (call_in g Pass.flip) s) → a ≡ Done count z
      → ◌≡◌ {A = Ran × State} (Finished collapsed moved count t.sizes, t) (run_flip g collapsed moved s)
  unfolding run_flip
  flip-finished collapsed moved count z e f = called-done (call_in g Pass.flip) (λ n y. (Finished collapsed moved n y.sizes, y)) s t a count z e f

  pub flip-stopped : (collapsed moved k : ℕ) → ◌≡◌ {A = Answer × State} (a, t) (step (call_in g Pass.flip) s) → a ≡ Refused k
      → ◌≡◌ {A = Ran × State} (Stopped k t.sizes, t) (run_flip g collapsed moved s)
  unfolding run_flip
  flip-stopped collapsed moved k e f = called-refused (call_in g Pass.flip) (λ n y. (Finished collapsed moved n y.sizes, y)) s t a k e f

  -- `smooth`'s answer
  pub smooth-done : {x : Ran × State} (collapsed count : ℕ) (z : Sizes) → ◌≡◌ {A = Answer × State} (a, t) (step (call_in g Pass.smooth) s) → a ≡ Done count z
      → x ≡ run_flip g collapsed count t → x ≡ run_smooth g collapsed s
  unfolding run_smooth
  smooth-done collapsed count z e f h = h ∙ called-done (call_in g Pass.smooth) (λ n y. run_flip g collapsed n y) s t a count z e f

  pub smooth-stopped : (collapsed k : ℕ) → ◌≡◌ {A = Answer × State} (a, t) (step (call_in g Pass.smooth) s) → a ≡ Refused k
      → ◌≡◌ {A = Ran × State} (Stopped k t.sizes, t) (run_smooth g collapsed s)
  unfolding run_smooth
  smooth-stopped collapsed k e f = called-refused (call_in g Pass.smooth) (λ n y. run_flip g collapsed n y) s t a k e f

  -- `improve`'s answer
  pub improve-done : {x : Ran × State} (count : ℕ) (z : Sizes) → ◌≡◌ {A = Answer × State} (a, t) (step (call_in g Pass.improve) s) → a ≡ Done count z
      → x ≡ run_smooth g count t → x ≡ run_passes g s
  unfolding run_passes
  improve-done count z e f h = h ∙ called-done (call_in g Pass.improve) (λ n y. run_smooth g n y) s t a count z e f

  pub improve-stopped : (k : ℕ) → ◌≡◌ {A = Answer × State} (a, t) (step (call_in g Pass.improve) s) → a ≡ Refused k
      → ◌≡◌ {A = Ran × State} (Stopped k t.sizes, t) (run_passes g s)
  unfolding run_passes
  improve-stopped k e f = called-refused (call_in g Pass.improve) (λ n y. run_smooth g n y) s t a k e f
