-- The link tests of an edge, call by call: what stands in the area, and that the answer is the definition's. Assumes nothing.
use Rattle.std.proofs.Common.{◌≡◌, ℕ, zero, suc, ◌+◌, ◌-◌, ◌*◌, ◌<◌, ◌≤◌, Bool, true, false, ◌&&◌, leb, ◌≢◌, List, [], ◌++◌, map, length, get_or, take, drop, sym, refl, ap, ◌∙◌, subst, ap₂, arith, eq-eqb, ne_eqb, leb-true, get_or-take, get_or-drop}
use mathlib.Core.Bool.{and-false, and-true}
use Rattle.mesh.specs.declared.element.Tet.{Tet}
use Rattle.mesh.specs.declared.link.area.Area.{Area}
use Rattle.mesh.specs.Words.{zero_words, numbers}
use Rattle.mesh.specs.Sort.{sort}
use Rattle.mesh.specs.inside.Rows.{rows, le_row, sorted_area}
use Rattle.mesh.specs.Complex.{sub}
use Rattle.mesh.specs.Tests.{every, nodup}
use Rattle.mesh.specs.Element.{vertices_of, tets}
use Rattle.mesh.specs.Link.{interior_ok, boundary_about, boundary_ok}
use Rattle.mesh.specs.Feature.{bits_of, shared, feature_ok, link_ok, link_fits, link_ok_in}
use Rattle.mesh.specs.inside.Group.{runs, same_first}
use Rattle.mesh.specs.Manifold.{Tested}
use Rattle.mesh.specs.inside.Manifold.{filled, KeptBelow}
use Rattle.mesh.specs.inside.LinkRows.{element_row_at, alone_faces, rows_of_faces, marked, meet_run, rim_by, curve_by, vertex_by, feature_run}
use Rattle.mesh.specs.inside.LinkAreas.{tets_of, Proper, Same, Kept, EdgeRows}
use Rattle.mesh.proofs.Laws.Complex.Sets.{sub-elim, sub-intro}
use Rattle.mesh.proofs.Laws.Bools.{and_left, and_right}
use Rattle.mesh.proofs.Laws.Manifold.Fill.{fill-kept, filled-rows}
use Rattle.mesh.proofs.Laws.Manifold.Growth.{kept_self, kept-both}
use Rattle.mesh.proofs.Laws.Manifold.Steps.{sort-kept, sort-from-rows}
use Rattle.mesh.proofs.Laws.Euler.Areas.{tets-kept}
use Rattle.mesh.proofs.Laws.LinkRows.Elements.{fours, interior-runs, element-rows}
use Rattle.mesh.proofs.Laws.LinkRows.Boundary.{boundary-runs}
use Rattle.mesh.proofs.Laws.LinkRows.Features.{feature-runs}
use Rattle.mesh.proofs.Laws.LinkRows.Self.{link_ok-self}

-- ---- interior

module _ (a b n : ℕ) (s₀ s₁ s₂ : List ℕ) (room : 88 * n ≤ length s₀) (e₁ : s₁ ≡ filled (element_row_at a b s₀) 4 (4 * n) (7 * n) s₀) where
  element-kept : KeptBelow (4 * n) s₀ s₁
  unfolding element_row_at
  element-kept = fill-kept (element_row_at a b s₀) 4 (λ i. refl) (4 * n) s₀ (omega arith) (7 * n) s₁ (omega arith) e₁

  element-room : 4 * n ≤ length s₁
  element-room = omega (arith, element-kept.long)

  listed : rows 4 (7 * n) (drop (4 * n) s₁) ≡ map (element_row_at a b s₀) (numbers 0 (7 * n))
  unfolding element_row_at
  listed = filled-rows (element_row_at a b s₀) 4 (λ i. refl) (4 * n) s₀ (omega arith) (7 * n) s₁ e₁

  module _ (e₂ : s₂ ≡ take (4 * n) s₁ ++ sorted_area (7 * n) 4 (drop (4 * n) s₁)) where
    pub interior-kept : KeptBelow (4 * n) s₀ s₂
    interior-kept = kept-both (4 * n) s₀ s₁ s₂ element-kept (sort-kept (4 * n) (7 * n) 4 s₁ s₂ element-room e₂)

    pub interior-answer : every (λ t. nodup (vertices_of t)) (tets n s₀) ≡ true → every (meet_run 3) (runs (same_first 3) (rows 4 (7 * n) (drop (4 * n) s₂))) ≡ interior_ok a b (tets n s₀)
    interior-answer d =
        ap (λ (l : List (List ℕ)). every (meet_run 3) (runs (same_first 3) l))
        (sort-from-rows (4 * n) (7 * n) 4 s₁ s₂ element-room e₂ (omega arith) (omega (arith, element-kept.long)) ∙ ap (sort le_row) (listed ∙ element-rows a b s₀ n))
        ∙ interior-runs a b (tets n s₀) (fours (tets n s₀) d)

-- ---- boundary and features

module _ (a b m : ℕ) (x : Area) (r : EdgeRows a b m x) where
  pub boundary-answer : every (meet_run 2) (runs (same_first 2) (rows 3 m (drop (16 * x.n) x.words.now))) ≡ boundary_ok a b (tets_of x)
  boundary-answer = ap (λ (l : List (List ℕ)). every (meet_run 2) (runs (same_first 2) l)) r.result ∙ boundary-runs a b (tets_of x) (fours (tets_of x) r.distinct)

  pub feature-answer : (stratum : ℕ → ℕ) (p : Bool) → sub (bits_of (stratum a)) (bits_of (stratum b)) ≡ true → p ≡ marked 2 3 (rows 3 m (drop (16 * x.n) x.words.now))
      → every (feature_run stratum a b p) (runs (same_first 2) (rows 3 m (drop (16 * x.n) x.words.now))) ≡ feature_ok stratum a b (boundary_about a b (tets_of x))
  feature-answer stratum p h e =
      ap₂ (λ (q : Bool) (l : List (List ℕ)). every (feature_run stratum a b q) (runs (same_first 2) l)) (e ∙ ap (marked 2 3) r.result) r.result
      ∙ feature-runs stratum a b r.apart (tets_of x) (fours (tets_of x) r.distinct) (sub-elim (bits_of (stratum a)) (bits_of (stratum b)) h)

-- the first words of the first row
row_word : (s : List ℕ) (p w k i : ℕ) → 0 < k → i < w → get_or (get_or (rows w k (drop p s)) 0 []) i 0 ≡ get_or s (p + i) 0
unfolding rows
row_word s p w (suc k) i h l = get_or-take w (drop p s) i 0 l ∙ get_or-drop p s i 0
row_word s p w zero i h l = absurd (omega arith)

-- one vertex
pub vertex-exact : (stratum : ℕ → ℕ) (a b x ma mb mx : ℕ) (ab oa ob both oa' ob' both' r : Bool) → ma ≡ stratum a → mb ≡ stratum b → mx ≡ stratum x → oa ≡ oa' → ob ≡ ob' → both ≡ both'
    → r ≡ (rim_by (length (shared ma mx)) (length (shared mb mx)) oa ob both && curve_by (length (shared ma mx)) oa ob both ab) → r ≡ vertex_by stratum a b ab x oa' ob' both'
vertex-exact stratum a b x ma mb mx ab oa ob both oa' ob' both' r e₁ e₂ e₃ e₄ e₅ e₆ e = e ∙ rw (e₁, e₂, e₃, e₄, e₅, e₆) refl

module _ (stratum : ℕ → ℕ) (a b : ℕ) (ab : Bool) (s : List ℕ) (p k : ℕ) (h : 0 < k) where
  abbrev g : List (List ℕ)
  g = rows 3 k (drop p s)

  first : get_or (get_or g 0 []) 0 0 ≡ get_or s p 0
  first = let e : p + 0 ≡ p = omega arith in row_word s p 3 k 0 h (omega arith) ∙ ap (λ (i : ℕ). get_or s i 0) e

  second : get_or (get_or g 0 []) 1 0 ≡ get_or s (p + 1) 0
  second = row_word s p 3 k 1 h (omega arith)

  pub feature-edge : (get_or s p 0 ≡ get_or s (p + 1) 0 → ⊥) → true ≡ feature_run stratum a b ab g
  unfolding feature_run
  feature-edge n = sym (rw (first, second, ne_eqb (get_or s p 0) (get_or s (p + 1) 0) n) refl)

  module _ (q : get_or s p 0 ≡ get_or s (p + 1) 0) where
    pub feature-first : get_or s p 0 ≡ a → true ≡ feature_run stratum a b ab g
    unfolding feature_run
    feature-first e = sym (rw (first, second, eq-eqb (get_or s p 0) (get_or s (p + 1) 0) q, eq-eqb (get_or s p 0) a e) refl)

    pub feature-second : (get_or s p 0 ≡ a → ⊥) → get_or s p 0 ≡ b → true ≡ feature_run stratum a b ab g
    unfolding feature_run
    feature-second n e = sym (rw (first, second, eq-eqb (get_or s p 0) (get_or s (p + 1) 0) q, ne_eqb (get_or s p 0) a n, eq-eqb (get_or s p 0) b e) refl)

    pub feature-at : (get_or s p 0 ≡ a → ⊥) → (get_or s p 0 ≡ b → ⊥) → (r : Bool) → r ≡ vertex_by stratum a b ab (get_or s p 0) (marked 2 1 g) (marked 2 2 g) (marked 2 3 g) → r ≡ feature_run stratum a b ab g
    unfolding feature_run
    feature-at n o r e = e ∙ sym (rw (first, second, eq-eqb (get_or s p 0) (get_or s (p + 1) 0) q, ne_eqb (get_or s p 0) a n, ne_eqb (get_or s p 0) b o) refl)

-- ---- the three tests

pub same-self : (x : Area) → Same x x
same-self x = record { lent = refl; count = refl }

pub kept-self : (x : Area) → Kept x x
kept-self x = record { same = same-self x; elements = kept_self (4 * x.n) x.words.now }

pub same-both : {x y z : Area} → Same x y → Same y z → Same x z
same-both s t = record { lent = t.lent ∙ s.lent; count = t.count ∙ s.count }

module _ {x y : Area} (k : Kept x y) where
  -- the elements are those at the start
  pub elements-kept : tets_of y ≡ tets_of x
  elements-kept = ap (λ (m : ℕ). tets m y.words.now) k.same.count ∙ tets-kept x.n k.elements

  pub proper-kept : Proper x → Proper y
  proper-kept d = ap (every (λ t. nodup (vertices_of t))) elements-kept ∙ d

  pub kept-on : {z : Area} → Kept y z → Kept x z
  kept-on {z} l = record {
    same = same-both k.same l.same;
    elements = kept-both (4 * x.n) x.words.now y.words.now z.words.now k.elements (subst (λ (m : ℕ). KeptBelow (4 * m) y.words.now z.words.now) k.same.count l.elements);
  }

  -- a test after that is one of the elements at the start
  pub later : (test : List Tet → Bool) {z : Area} {r : Bool} → (r ≡ test (tets_of y)) × Kept y z → (r ≡ test (tets_of x)) × Kept x z
  later test h = (h.0 ∙ ap test elements-kept, kept-on h.1)

  pub edge-rows : (a b m : ℕ) → Proper x → a ≢ b → rows 3 m (drop (16 * x.n) y.words.now) ≡ sort le_row (rows_of_faces a b (alone_faces a b (tets_of x))) → m ≤ 12 * x.n → EdgeRows a b m y
  edge-rows a b m d ab e g = record {
    fewer = (let c = k.same.count in omega arith);
    apart = ab;
    distinct = proper-kept d;
    result = ap (λ (i : ℕ). rows 3 m (drop (16 * i) y.words.now)) k.same.count ∙ e ∙ ap (λ (ts : List Tet). sort le_row (rows_of_faces a b (alone_faces a b ts))) (sym elements-kept);
  }

module _ (stratum : ℕ → ℕ) (a b : ℕ) (ts : List Tet) where
  abbrev surface : Bool
  surface = boundary_ok a b ts && feature_ok stratum a b (boundary_about a b ts)

  pub surface-fails : surface ≡ false → false ≡ link_ok stratum a b ts
  unfolding link_ok
  surface-fails h = sym (rw h (and-false (interior_ok a b ts)))

  pub interior-decides : (r : Bool) → surface ≡ true → r ≡ interior_ok a b ts → r ≡ link_ok stratum a b ts
  unfolding link_ok
  interior-decides r h e = e ∙ sym (rw h (and-true (interior_ok a b ts)))

-- a vertex with itself
pub passes-self : (stratum : ℕ → ℕ) (a b : ℕ) (ts : List Tet) → every (λ t. nodup (vertices_of t)) ts ≡ true → a ≡ b → true ≡ (sub (bits_of (stratum a)) (bits_of (stratum b)) && link_ok stratum a b ts)
passes-self stratum a b ts d e =
    subst (λ (u : ℕ). true ≡ (sub (bits_of (stratum a)) (bits_of (stratum u)) && link_ok stratum a u ts)) e
    (sym (rw (sub-intro (bits_of (stratum a)) (bits_of (stratum a)) (λ x m. m)) (link_ok-self stratum a ts (fours ts d))))

-- ---- room

pub fits-is : (n : ℕ) (s : List ℕ) → link_fits n s ≡ true → (n ≤ 16384) × (88 * n ≤ length s) × (every (λ t. nodup (vertices_of t)) (tets n s) ≡ true)
unfolding link_fits
fits-is n s h =
    let e = every (λ t. nodup (vertices_of t)) (tets n s) in
    let k = and_right (leb n 16384) (leb (88 * n) (length s) && e) h in
    (leb-true n 16384 (and_left (leb n 16384) (leb (88 * n) (length s) && e) h), leb-true (88 * n) (length s) (and_left (leb (88 * n) (length s)) e k), and_right (leb (88 * n) (length s)) e k)

-- ---- the answer and the area

module _ (stratum : ℕ → ℕ) (a b n : ℕ) (s₀ : List ℕ) where
  pub in-no : link_fits n s₀ ≡ false → ◌≡◌ {A = Tested} (record { answer = false; area = s₀ }) (link_ok_in stratum a b n s₀)
  unfolding link_ok_in
  in-no e = rw e refl

  pub in-yes : (r : Bool) (s₁ s₂ : List ℕ) → link_fits n s₀ ≡ true → r ≡ (sub (bits_of (stratum a)) (bits_of (stratum b)) && link_ok stratum a b (tets n s₀)) → KeptBelow (4 * n) s₀ s₁ → s₂ ≡ take (4 * n) s₁ ++ zero_words (length s₁ - 4 * n)
      → ◌≡◌ {A = Tested} (record { answer = r; area = s₂ }) (link_ok_in stratum a b n s₀)
  unfolding link_ok_in
  in-yes r s₁ s₂ f e k z =
      let w : s₂ ≡ take (4 * n) s₀ ++ zero_words (length s₀ - 4 * n) = z ∙ ap₂ (λ (l : List ℕ) (m : ℕ). l ++ zero_words (m - 4 * n)) k.front k.long in
      rw f (ap₂ tested e w)
    where
      tested : Bool → List ℕ → Tested
      tested p l = record { answer = p; area = l }
