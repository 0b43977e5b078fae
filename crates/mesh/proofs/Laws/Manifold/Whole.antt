-- The test of a whole surface, call by call: what stands in the area, and that the answer is the definition's. Assumes nothing.
use Rattle.std.proofs.Common.{◌≡◌, ℕ, zero, suc, ◌+◌, ◌-◌, ◌*◌, ◌<◌, ◌≤◌, Bool, true, false, not, ◌&&◌, ltb, leb, List, [], ◌∷◌, ◌++◌, map, length, take, drop, sym, refl, ap, ◌∙◌, ap₂, arith, get_or-drop, ltb-true, lt-ltb, le-leb, leb-true}
use Rattle.mesh.specs.declared.element.Triple.{Triple}
use Rattle.mesh.specs.Words.{word_at, zero_words, numbers, flat}
use Rattle.mesh.specs.Sort.{sort}
use Rattle.mesh.specs.inside.Rows.{rows, le_row, sorted_area}
use Rattle.mesh.specs.Tests.{every}
use Rattle.mesh.specs.Element.{corners_of, triples, all_corners}
use Rattle.mesh.specs.inside.Group.{runs, same_first}
use Rattle.mesh.specs.Manifold.{edges_twice, surface_link, one_cycle, nonmanifold, surface_fits, Tested, nonmanifold_in}
use Rattle.mesh.specs.inside.Manifold.{edge_row, link_row, filled, two, cycle, link_pair, pair_below, KeptBelow, LinkArea}
use Rattle.mesh.proofs.Laws.Bools.{and_intro, and_left, and_right}
use Rattle.mesh.proofs.Laws.Intake.Reads.{triples-front}
use Rattle.mesh.proofs.Laws.Manifold.Fill.{fill-kept, filled-rows}
use Rattle.mesh.proofs.Laws.Manifold.Kept.{every-sort}
use Rattle.mesh.proofs.Laws.Manifold.Corners.{edges-twice, links-cycle, links-below}
use Rattle.mesh.proofs.Laws.Manifold.Growth.{kept-both}
use Rattle.mesh.proofs.Laws.Manifold.Steps.{word_below, rows-below, kept_less, sort-kept, sort-from-rows, clear_kept, clear_zero}

-- ---- room

pub fits-test : (n : ℕ) (s : List ℕ) → n ≤ 65536 → 27 * n ≤ length s → every (λ x. ltb x (length s - 15 * n)) (take (3 * n) s) ≡ surface_fits n s
unfolding surface_fits
fits-test n s h k = sym (rw (le-leb n 65536 h, le-leb (27 * n) (length s) k) refl)

pub fits-is : (n : ℕ) (s : List ℕ) → surface_fits n s ≡ true → (n ≤ 65536) × (27 * n ≤ length s) × (every (λ x. ltb x (length s - 15 * n)) (take (3 * n) s) ≡ true)
unfolding surface_fits
fits-is n s h =
    let e = every (λ x. ltb x (length s - 15 * n)) (take (3 * n) s) in
    let k = and_right (leb n 65536) (leb (27 * n) (length s) && e) h in
    (leb-true n 65536 (and_left (leb n 65536) (leb (27 * n) (length s) && e) h), leb-true (27 * n) (length s) (and_left (leb (27 * n) (length s)) e k), and_right (leb (27 * n) (length s)) e k)

-- ---- triples that are kept

pub triples-take : (n : ℕ) (s t : List ℕ) → ((j : ℕ) → j < 3 * n → word_at s j ≡ word_at t j) → triples n s ≡ triples n t
unfolding triples
triples-take zero s t h = refl
triples-take (suc n) s t h =
    ap₂ (λ (f : Triple) (l : List Triple). f ∷ l)
    (rw (h 0 (omega arith), h 1 (omega arith), h 2 (omega arith)) refl)
    (triples-take n (drop 3 s) (drop 3 t) (λ j k. get_or-drop 3 s j 0 ∙ h (3 + j) (omega arith) ∙ sym (get_or-drop 3 t j 0)))

pub triples-kept : (n : ℕ) {s₀ s : List ℕ} → KeptBelow (3 * n) s₀ s → triples n s ≡ triples n s₀
triples-kept n {s₀} {s} k = triples-take n s s₀ (λ j h. word_below k j h)

-- ---- for callers

-- triples read from their words
pub triples-flat : (fs : List Triple) (x : List ℕ) → triples (length fs) (flat (map corners_of fs) ++ x) ≡ fs
unfolding triples flat
triples-flat [] x = refl
triples-flat (f ∷ fs) x = ap (λ (l : List Triple). f ∷ l) (triples-flat fs x)

-- vertices below m, and m marks: there is room
pub fits_below : (n m : ℕ) (s : List ℕ) → n ≤ 65536 → 27 * n ≤ length s → m + 15 * n ≤ length s → every (λ x. ltb x m) (all_corners (triples n s)) ≡ true
    → surface_fits n s ≡ true
fits_below n m s h k l b =
    sym (fits-test n s h k)
    ∙ every-less (take (3 * n) s) (ap (every (λ x. ltb x m)) (sym (triples-front n s (omega arith))) ∙ b)
  where
    every-less : (xs : List ℕ) → every (λ x. ltb x m) xs ≡ true → every (λ x. ltb x (length s - 15 * n)) xs ≡ true
    every-less [] e = refl
    every-less (x ∷ xs) e =
        let i = ltb-true x m (and_left (ltb x m) (every (λ x. ltb x m) xs) e) in
        and_intro (ltb x (length s - 15 * n)) (every (λ x. ltb x (length s - 15 * n)) xs) (lt-ltb x (length s - 15 * n) (omega arith))
        (every-less xs (and_right (ltb x m) (every (λ x. ltb x m) xs) e))

-- ---- edges

module _ (n : ℕ) (s₀ : List ℕ) (room : 27 * n ≤ length s₀) (s₁ : List ℕ) (e₁ : s₁ ≡ filled (edge_row s₀) 2 (3 * n) (3 * n) s₀) where
  edges-kept : KeptBelow (3 * n) s₀ s₁
  unfolding edge_row
  edges-kept = fill-kept (edge_row s₀) 2 (λ i. refl) (3 * n) s₀ (omega arith) (3 * n) s₁ (omega arith) e₁

  edges-listed : rows 2 (3 * n) (drop (3 * n) s₁) ≡ map (edge_row s₀) (numbers 0 (3 * n))
  unfolding edge_row
  edges-listed = filled-rows (edge_row s₀) 2 (λ i. refl) (3 * n) s₀ (omega arith) (3 * n) s₁ e₁

  pub edges_room : 3 * n ≤ length s₁
  edges_room = omega (arith, edges-kept.long)

  module _ (s₂ : List ℕ) (e₂ : s₂ ≡ take (3 * n) s₁ ++ sorted_area (3 * n) 2 (drop (3 * n) s₁)) where
    pub edges-both : KeptBelow (3 * n) s₀ s₂
    edges-both = kept-both (3 * n) s₀ s₁ s₂ edges-kept (sort-kept (3 * n) (3 * n) 2 s₁ s₂ edges_room e₂)

    pub edges-answer : every two (runs (same_first 2) (rows 2 (3 * n) (drop (3 * n) s₂))) ≡ edges_twice (triples n s₀)
    edges-answer =
        ap (λ (l : List (List ℕ)). every two (runs (same_first 2) l))
        (sort-from-rows (3 * n) (3 * n) 2 s₁ s₂ edges_room e₂ (omega arith) (omega (arith, edges-kept.long)) ∙ ap (sort le_row) edges-listed)
        ∙ edges-twice s₀ n

-- ---- links

module _ (n : ℕ) (s₀ : List ℕ) (few : n ≤ 65536) (room : 27 * n ≤ length s₀) (below : every (λ x. ltb x (length s₀ - 15 * n)) (take (3 * n) s₀) ≡ true)
    (s₁ : List ℕ) (e₁ : s₁ ≡ filled (link_row s₀) 4 (3 * n) (3 * n) s₀) where
  corners-kept : KeptBelow (3 * n) s₀ s₁
  unfolding link_row
  corners-kept = fill-kept (link_row s₀) 4 (λ i. refl) (3 * n) s₀ (omega arith) (3 * n) s₁ (omega arith) e₁

  corners-listed : rows 4 (3 * n) (drop (3 * n) s₁) ≡ map (link_row s₀) (numbers 0 (3 * n))
  unfolding link_row
  corners-listed = filled-rows (link_row s₀) 4 (λ i. refl) (3 * n) s₀ (omega arith) (3 * n) s₁ e₁

  pub corners-room : 3 * n ≤ length s₁
  corners-room = omega (arith, corners-kept.long)

  module _ (s₂ : List ℕ) (e₂ : s₂ ≡ take (3 * n) s₁ ++ sorted_area (3 * n) 4 (drop (3 * n) s₁)) where
    sorted-kept : KeptBelow (3 * n) s₀ s₂
    sorted-kept = kept-both (3 * n) s₀ s₁ s₂ corners-kept (sort-kept (3 * n) (3 * n) 4 s₁ s₂ corners-room e₂)

    pub marks-room : 5 * (3 * n) ≤ length s₂
    marks-room = omega (arith, sorted-kept.long)

    module _ (s₃ : List ℕ) (e₃ : s₃ ≡ take (5 * (3 * n)) s₂ ++ zero_words (length s₂ - 5 * (3 * n))) where
      cleared : KeptBelow (5 * (3 * n)) s₂ s₃
      cleared = clear_kept (5 * (3 * n)) s₂ s₃ marks-room e₃

      rows-ready : rows 4 (3 * n) (drop (3 * n) s₃) ≡ sort le_row (map (link_row s₀) (numbers 0 (3 * n)))
      rows-ready =
          rows-below cleared 4 (3 * n) (3 * n) (omega arith)
          ∙ sort-from-rows (3 * n) (3 * n) 4 s₁ s₂ corners-room e₂ (omega arith) (omega (arith, corners-kept.long))
          ∙ ap (sort le_row) corners-listed

      pub links-kept : KeptBelow (3 * n) s₀ s₃
      links-kept = kept-both (3 * n) s₀ s₂ s₃ sorted-kept (kept_less (omega arith) cleared)

      pub links-ready : LinkArea (3 * n) s₃
      links-ready =
          let e : length s₃ - 5 * (3 * n) ≡ length s₀ - 15 * n = omega (arith, links-kept.long) in
          record {
            few = omega arith;
            room = omega (arith, links-kept.long);
            known =
                ap₂ (λ (b : ℕ) (l : List (List ℕ)). every (λ r. pair_below b (link_pair r)) l) e rows-ready
                ∙ every-sort le_row (λ r. pair_below (length s₀ - 15 * n) (link_pair r)) (map (link_row s₀) (numbers 0 (3 * n)))
                ∙ links-below s₀ n (length s₀ - 15 * n) (omega arith) below;
            fresh = clear_zero (5 * (3 * n)) s₂ s₃ marks-room e₃;
          }

      pub links-answer : every cycle (runs (same_first 1) (rows 4 (3 * n) (drop (3 * n) s₃))) ≡ every (λ v. one_cycle (surface_link v (triples n s₀))) (all_corners (triples n s₀))
      links-answer = ap (λ (l : List (List ℕ)). every cycle (runs (same_first 1) l)) rows-ready ∙ links-cycle s₀ n

      pub links_end : {s₄ : List ℕ} → KeptBelow (5 * (3 * n)) s₃ s₄ → KeptBelow (3 * n) s₀ s₄
      links_end {s₄} k = kept-both (3 * n) s₀ s₃ s₄ links-kept (kept_less (omega arith) k)

-- ---- both

pub manifold-no : (n : ℕ) (s : List ℕ) → edges_twice (triples n s) ≡ false → true ≡ nonmanifold (triples n s)
unfolding nonmanifold
manifold-no n s e = sym (rw e refl)

pub manifold-yes : (n : ℕ) (s : List ℕ) (r : Bool) → edges_twice (triples n s) ≡ true → r ≡ every (λ v. one_cycle (surface_link v (triples n s))) (all_corners (triples n s)) → not r ≡ nonmanifold (triples n s)
unfolding nonmanifold
manifold-yes n s r e f = rw (e, f) refl

-- the second test's premises after the first
pub kept-fits : (n : ℕ) {s₀ s : List ℕ} → KeptBelow (3 * n) s₀ s → (n ≤ 65536) × (27 * n ≤ length s₀) × (every (λ x. ltb x (length s₀ - 15 * n)) (take (3 * n) s₀) ≡ true)
    → (n ≤ 65536) × (27 * n ≤ length s) × (every (λ x. ltb x (length s - 15 * n)) (take (3 * n) s) ≡ true)
kept-fits n {s₀} {s} k h =
    (h.0, omega (arith, k.long, h.1), ap₂ (λ (m : ℕ) (l : List ℕ). every (λ x. ltb x (m - 15 * n)) l) k.long k.front ∙ h.2)

pub in-no : (n : ℕ) (s : List ℕ) → surface_fits n s ≡ false → ◌≡◌ {A = Tested} (record { answer = true; area = s }) (nonmanifold_in n s)
unfolding nonmanifold_in
in-no n s e = rw e refl

pub in-yes : (n : ℕ) (s₀ s₁ s₂ : List ℕ) (r : Bool) → surface_fits n s₀ ≡ true → r ≡ nonmanifold (triples n s₀) → KeptBelow (3 * n) s₀ s₁
    → s₂ ≡ take (3 * n) s₁ ++ zero_words (length s₁ - 3 * n) → ◌≡◌ {A = Tested} (record { answer = r; area = s₂ }) (nonmanifold_in n s₀)
unfolding nonmanifold_in
in-yes n s₀ s₁ s₂ r e q k f = rw (e, q) (ap (λ (l : List ℕ). record { answer = nonmanifold (triples n s₀); area = l }) (f ∙ ap₂ (λ (l : List ℕ) (m : ℕ). l ++ zero_words (m - 3 * n)) k.front k.long))
