-- Corners by number: the rows of a surface's edges and links are those of the definition. Assumes nothing.
use Rattle.std.proofs.Common.{◌≡◌, ℕ, zero, suc, ◌+◌, ◌*◌, ◌/◌, ◌%◌, ◌<◌, ◌≤◌, Bool, true, false, cond, ◌&&◌, eqb, ltb, List, [], ◌∷◌, ◌++◌, map, length, get_or, take, drop, sym, refl, ap, ◌∙◌, ap₂, inl, inr, le_of_suc-le-suc, not-suc-le-zero, arith, length-take-le, get_or-drop, get_or-take, drop-drop, le-ltb, lt-ltb, eq-eqb, ne_eqb, eqb-true}
use mathlib.Core.Bool.{and-true}
use mathlib.Core.List.Memᴰ
use mathlib.Core.List.{map-append, Memᴰ}
use lib.ListN.{length-map}
use Rattle.mesh.specs.declared.element.Pair.{Pair}
use Rattle.mesh.specs.declared.element.Triple.{Triple}
use Rattle.mesh.specs.Words.{word_at, numbers}
use Rattle.mesh.specs.Sort.{sort}
use Rattle.mesh.specs.inside.Rows.{le_row, eq_row}
use Rattle.mesh.specs.Complex.{keep}
use Rattle.mesh.specs.Tests.{every}
use Rattle.mesh.specs.Sets.{times}
use Rattle.mesh.specs.Element.{triple, same_pair, triples, all_corners}
use Rattle.mesh.specs.Manifold.{sides_of, surface_edges, edges_twice, surface_link, one_cycle}
use Rattle.mesh.proofs.Laws.Bools.{split, clash, and_intro, and_left, and_right}
use Rattle.mesh.proofs.Laws.NumbersFrom.{every-numbers}
use Rattle.mesh.proofs.Laws.Rows.{eq_row-sound}
use Rattle.mesh.proofs.Laws.Link.Members.{keep_same}
use Rattle.mesh.specs.inside.Group.{runs, same_first}
use Rattle.mesh.specs.inside.Manifold.{corner_at, edge_row, link_row, link_pair, pair_below, two, cycle}
use Rattle.mesh.proofs.Laws.Manifold.Kept.{Steady, none, more}
use Rattle.mesh.proofs.Laws.Manifold.RowRuns.{every-same, every-run, kept-number, kept-steady}
use Rattle.mesh.proofs.Laws.Boundary.Same.{keep-map}
use Rattle.mesh.proofs.Laws.Boundary.Faces.{every_map}

-- ---- three corners

-- the numbers of the corners of k + 1 triples from i on
three : (i k : ℕ) → numbers (3 * i) (3 * suc k) ≡ 3 * i ∷ (3 * i + 1) ∷ (3 * i + 2) ∷ numbers (3 * suc i) (3 * k)
unfolding numbers
three i k =
    let e : 3 * suc k ≡ suc (suc (suc (3 * k))) = omega arith in
    let f : 3 * i + 1 + 1 ≡ 3 * i + 2 = omega arith in
    let g : 3 * i + 1 + 1 + 1 ≡ 3 * suc i = omega arith in
    ap (numbers (3 * i)) e ∙ ap₂ (λ (u v : ℕ). 3 * i ∷ (3 * i + 1) ∷ u ∷ numbers v (3 * k)) f g

corner-is : (s : List ℕ) (j k i : ℕ) → j / 3 * 3 + (j + k) % 3 ≡ i → corner_at s j k ≡ word_at s i
unfolding corner_at
corner-is s j k i e = ap (word_at s) e

-- the triple i
abbrev triple_at : List ℕ → ℕ → Triple
triple_at s i = triple (word_at s (3 * i)) (word_at s (3 * i + 1)) (word_at s (3 * i + 2))

triples-from : (s : List ℕ) (i k : ℕ) → triples (suc k) (drop (3 * i) s) ≡ triple_at s i ∷ triples k (drop (3 * suc i) s)
unfolding triples
triples-from s i k =
    let e : 3 * i + 0 ≡ 3 * i = omega arith in
    let f : 3 * i + 3 ≡ 3 * suc i = omega arith in
    ap₂ (λ (t : Triple) (u : List ℕ). t ∷ triples k u)
    (rw (get_or-drop (3 * i) s 0 0, get_or-drop (3 * i) s 1 0, get_or-drop (3 * i) s 2 0, e) refl)
    (drop-drop 3 (3 * i) s ∙ ap (λ (u : ℕ). drop u s) f)

-- ---- edges

-- an edge as a row
abbrev pair_row : Pair → List ℕ
pair_row e = e.a ∷ e.b ∷ []

edge-three : (s : List ℕ) (i : ℕ) → edge_row s (3 * i) ∷ edge_row s (3 * i + 1) ∷ edge_row s (3 * i + 2) ∷ [] ≡ map pair_row (sides_of (triple_at s i))
unfolding edge_row
edge-three s i =
    rw (
      corner-is s (3 * i) 0 (3 * i) (omega arith),
      corner-is s (3 * i) 1 (3 * i + 1) (omega arith),
      corner-is s (3 * i + 1) 0 (3 * i + 1) (omega arith),
      corner-is s (3 * i + 1) 1 (3 * i + 2) (omega arith),
      corner-is s (3 * i + 2) 0 (3 * i + 2) (omega arith),
      corner-is s (3 * i + 2) 1 (3 * i) (omega arith),
    ) refl

edge-rows-from : (s : List ℕ) (k i : ℕ) → map (edge_row s) (numbers (3 * i) (3 * k)) ≡ map pair_row (surface_edges (triples k (drop (3 * i) s)))
unfolding surface_edges numbers triples
edge-rows-from s zero i = refl
edge-rows-from s (suc k) i =
    ap (map (edge_row s)) (three i k)
    ∙ ap₂ (λ (u v : List (List ℕ)). u ++ v) (edge-three s i) (edge-rows-from s k (suc i))
    ∙ sym (map-append pair_row (sides_of (triple_at s i)) (surface_edges (triples k (drop (3 * suc i) s))))
    ∙ ap (λ (l : List Triple). map pair_row (surface_edges l)) (sym (triples-from s i k))

edge-rows : (s : List ℕ) (n : ℕ) → map (edge_row s) (numbers 0 (3 * n)) ≡ map pair_row (surface_edges (triples n s))
edge-rows s n = edge-rows-from s n 0

same-pair : (e f : Pair) → same_first 2 (pair_row e) (pair_row f) ≡ same_pair e f
unfolding eq_row
same-pair e f = ap (λ (b : Bool). eqb e.a f.a && b) (and-true (eqb e.b f.b))

-- every edge is on exactly two triples where every run of the sorted rows has two
pub edges-twice : (s : List ℕ) (n : ℕ) → every two (runs (same_first 2) (sort le_row (map (edge_row s) (numbers 0 (3 * n))))) ≡ edges_twice (triples n s)
unfolding edges_twice
edges-twice s n =
    let es = surface_edges (triples n s) in
    let rs = map pair_row es in
    ap (λ (l : List (List ℕ)). every two (runs (same_first 2) (sort le_row l))) (edge-rows s n)
    ∙ every-run 2 two rs
    ∙ every-same (λ r. two (keep (same_first 2 r) (sort le_row rs))) (λ r. two (keep (same_first 2 r) rs)) rs (λ r. ap (λ (m : ℕ). eqb m 2) (kept-number 2 r rs))
    ∙ every_map pair_row (λ r. two (keep (same_first 2 r) rs)) es
    ∙ every-same (λ e. two (keep (same_first 2 (pair_row e)) rs)) (λ e. eqb (times same_pair e es) 2) es
    (λ e. ap (λ (l : List (List ℕ)). eqb (length l) 2) (keep-map pair_row (same_first 2 (pair_row e)) es)
    ∙ ap (λ (m : ℕ). eqb m 2) (length-map (keep (λ f. same_first 2 (pair_row e) (pair_row f)) es) pair_row ∙ ap length (keep_same (λ f. same_first 2 (pair_row e) (pair_row f)) (same_pair e) es (same-pair e))))

-- ---- links

-- the rows of the corners of a triple, numbered from j on
abbrev corner_rows : ℕ → Triple → List (List ℕ)
corner_rows j f =
    (f.a ∷ j ∷ f.b ∷ f.c ∷ []) ∷ (f.b ∷ (j + 1) ∷ f.c ∷ f.a ∷ []) ∷ (f.c ∷ (j + 2) ∷ f.a ∷ f.b ∷ []) ∷ []

abbrev link_rows : ℕ → List Triple → List (List ℕ)
link_rows i [] = []
link_rows i (f ∷ fs) = corner_rows (3 * i) f ++ link_rows (suc i) fs

link-three : (s : List ℕ) (i : ℕ) → link_row s (3 * i) ∷ link_row s (3 * i + 1) ∷ link_row s (3 * i + 2) ∷ [] ≡ corner_rows (3 * i) (triple_at s i)
unfolding link_row
link-three s i =
    rw (
      corner-is s (3 * i) 0 (3 * i) (omega arith),
      corner-is s (3 * i) 1 (3 * i + 1) (omega arith),
      corner-is s (3 * i) 2 (3 * i + 2) (omega arith),
      corner-is s (3 * i + 1) 0 (3 * i + 1) (omega arith),
      corner-is s (3 * i + 1) 1 (3 * i + 2) (omega arith),
      corner-is s (3 * i + 1) 2 (3 * i) (omega arith),
      corner-is s (3 * i + 2) 0 (3 * i + 2) (omega arith),
      corner-is s (3 * i + 2) 1 (3 * i) (omega arith),
      corner-is s (3 * i + 2) 2 (3 * i + 1) (omega arith),
    ) refl

link-rows-from : (s : List ℕ) (k i : ℕ) → map (link_row s) (numbers (3 * i) (3 * k)) ≡ link_rows i (triples k (drop (3 * i) s))
unfolding numbers triples
link-rows-from s zero i = refl
link-rows-from s (suc k) i =
    ap (map (link_row s)) (three i k)
    ∙ ap₂ (λ (u v : List (List ℕ)). u ++ v) (link-three s i) (link-rows-from s k (suc i))
    ∙ ap (link_rows i) (sym (triples-from s i k))

link-rows : (s : List ℕ) (n : ℕ) → map (link_row s) (numbers 0 (3 * n)) ≡ link_rows 0 (triples n s)
link-rows s n = link-rows-from s n 0

-- the rows of one vertex, read as pairs, are its link
eqb_swap : (x y : ℕ) → (eqb x y && true) ≡ eqb y x
eqb_swap x y = elim (split (eqb y x)) [ inl e ↦ rw (eq-eqb x y (sym (eqb-true y x e)), e) refl | inr e ↦ rw (ne_eqb x y (λ q. clash (eqb y x) (eq-eqb y x (sym q)) e), e) refl ]

pick : (a b : Bool) → a ≡ b → (r : List ℕ) (ks : List (List ℕ)) (l : List Pair) → map link_pair ks ≡ l
    → map link_pair (cond a (r ∷ ks) ks) ≡ cond b (link_pair r ∷ []) [] ++ l
pick true b e r ks l h = rw (← e) (ap (λ (u : List Pair). link_pair r ∷ u) h)
pick false b e r ks l h = rw (← e) h

link-is : (v j x y : ℕ) (i : ℕ) (fs : List Triple) → map link_pair (keep (same_first 1 (v ∷ j ∷ x ∷ y ∷ [])) (link_rows i fs)) ≡ surface_link v fs
unfolding surface_link eq_row
link-is v j x y i [] = refl
link-is v j x y i (f ∷ fs) =
    pick (eqb v f.a && true) (eqb f.a v) (eqb_swap v f.a) _ _ _
    (pick (eqb v f.b && true) (eqb f.b v) (eqb_swap v f.b) _ _ _
    (pick (eqb v f.c && true) (eqb f.c v) (eqb_swap v f.c) _ _ _ (link-is v j x y (suc i) fs)))

-- ---- link rows of one vertex stand in order

-- a link row with a number from j on
abbrev Numbered : ℕ → List ℕ → Type 0
Numbered j r = (v : ℕ) × (k : ℕ) × (a : List ℕ) × (r ≡ v ∷ k ∷ a) × (j ≤ k)

numbered : (i : ℕ) (fs : List Triple) (j : ℕ) → j ≤ 3 * i → (r : List ℕ) → Memᴰ r (link_rows i fs) → Numbered j r
numbered i [] j h r m = absurd (Memᴰ.not-nil m)
numbered i (f ∷ fs) j h r m =
    elim (Memᴰ.cases_cons m) [
      | inl q ↦ (f.a, 3 * i, f.b ∷ f.c ∷ [], q, h)
      | inr m₁ ↦ elim (Memᴰ.cases_cons m₁) [
        | inl q ↦ (f.b, 3 * i + 1, f.c ∷ f.a ∷ [], q, omega arith)
        | inr m₂ ↦ elim (Memᴰ.cases_cons m₂) [
          | inl q ↦ (f.c, 3 * i + 2, f.a ∷ f.b ∷ [], q, omega arith)
          | inr m₃ ↦ numbered (suc i) fs j (omega arith) r m₃
        ]
      ]
    ]

le_next : (v w j k : ℕ) (a b : List ℕ) → v ≡ w → j < k → le_row (v ∷ j ∷ a) (w ∷ k ∷ b) ≡ true
unfolding le_row
le_next v w j k a b e h = simp (le-ltb v w (omega arith), le-ltb w v (omega arith), lt-ltb j k h)

module _ (q : List ℕ) where
  in_order : (v j : ℕ) (a r : List ℕ) → Numbered (j + 1) r → same_first 1 q (v ∷ j ∷ a) ≡ true → same_first 1 q r ≡ true → le_row (v ∷ j ∷ a) r ≡ true
  in_order v j a r n h k =
      let e : v ∷ [] ≡ n.0 ∷ [] =
      sym (eq_row-sound (take 1 q) (v ∷ []) h) ∙ eq_row-sound (take 1 q) (n.0 ∷ []) (ap (same_first 1 q) (sym n.3) ∙ k) in
      ap (le_row (v ∷ j ∷ a)) n.3 ∙ le_next v n.0 j n.1 a n.2 (ap (λ (l : List ℕ). get_or l 0 0) e) (omega (arith, n.4))

  steady-links : (i : ℕ) (fs : List Triple) → Steady le_row (same_first 1 q) (link_rows i fs)
  steady-links i [] = none
  steady-links i (f ∷ fs) =
      let later : (j : ℕ) → j ≤ 3 * suc i → (r : List ℕ) → Memᴰ r (link_rows (suc i) fs) → Numbered j r = λ j h r m. numbered (suc i) fs j h r m in
      let c : (j : ℕ) → j ≤ 3 * i + 2 → (r : List ℕ) → Memᴰ r ((f.c ∷ (3 * i + 2) ∷ f.a ∷ f.b ∷ []) ∷ link_rows (suc i) fs) → Numbered j r =
      λ j h r m. elim (Memᴰ.cases_cons m) [ inl e ↦ (f.c, 3 * i + 2, f.a ∷ f.b ∷ [], e, h) | inr n ↦ later j (omega arith) r n ] in
      let b : (r : List ℕ) → Memᴰ r ((f.b ∷ (3 * i + 1) ∷ f.c ∷ f.a ∷ []) ∷ (f.c ∷ (3 * i + 2) ∷ f.a ∷ f.b ∷ []) ∷ link_rows (suc i) fs) → Numbered (3 * i + 1) r =
      λ r m. elim (Memᴰ.cases_cons m) [ inl e ↦ (f.b, 3 * i + 1, f.c ∷ f.a ∷ [], e, omega arith) | inr n ↦ c (3 * i + 1) (omega arith) r n ] in
      more (λ r m h k. in_order f.a (3 * i) (f.b ∷ f.c ∷ []) r (b r m) h k)
      (more (λ r m h k. in_order f.b (3 * i + 1) (f.c ∷ f.a ∷ []) r (c (3 * i + 1 + 1) (omega arith) r m) h k)
      (more (λ r m h k. in_order f.c (3 * i + 2) (f.a ∷ f.b ∷ []) r (later (3 * i + 2 + 1) (omega arith) r m) h k)
      (steady-links (suc i) fs)))

-- ---- all vertices

every-corner : (p : List ℕ → Bool) (t : ℕ → Bool) → ((v j x y : ℕ) → p (v ∷ j ∷ x ∷ y ∷ []) ≡ t v) → (i : ℕ) (fs : List Triple) → every p (link_rows i fs) ≡ every t (all_corners fs)
unfolding all_corners
every-corner p t h i [] = refl
every-corner p t h i (f ∷ fs) = rw (h f.a, h f.b, h f.c) (ap (λ (b : Bool). t f.a && (t f.b && (t f.c && b))) (every-corner p t h (suc i) fs))

-- every link is one cycle where every run of the sorted rows is one
pub links-cycle : (s : List ℕ) (n : ℕ) → every cycle (runs (same_first 1) (sort le_row (map (link_row s) (numbers 0 (3 * n)))))
    ≡ every (λ v. one_cycle (surface_link v (triples n s))) (all_corners (triples n s))
links-cycle s n =
    let fs = triples n s in
    let rs = link_rows 0 fs in
    ap (λ (l : List (List ℕ)). every cycle (runs (same_first 1) (sort le_row l))) (link-rows s n)
    ∙ every-run 1 cycle rs
    ∙ every-same (λ r. cycle (keep (same_first 1 r) (sort le_row rs))) (λ r. cycle (keep (same_first 1 r) rs)) rs (λ r. ap cycle (kept-steady 1 r rs (steady-links r 0 fs)))
    ∙ every-corner (λ r. cycle (keep (same_first 1 r) rs)) (λ v. one_cycle (surface_link v fs)) (λ v j x y. ap one_cycle (link-is v j x y 0 fs)) 0 fs

-- ---- vertices below a bound

pub every-get_or : {A : Type 0} (p : A → Bool) (l : List A) (i : ℕ) (d : A) → every p l ≡ true → i < length l → p (get_or l i d) ≡ true
every-get_or p [] i d h k = absurd (not-suc-le-zero k)
every-get_or p (x ∷ l) zero d h k = and_left (p x) (every p l) h
every-get_or p (x ∷ l) (suc i) d h k = every-get_or p l i d (and_right (p x) (every p l) h) (le_of_suc-le-suc k)

-- the other vertices of every link row
pub links-below : (s : List ℕ) (n b : ℕ) → 3 * n ≤ length s → every (λ x. ltb x b) (take (3 * n) s) ≡ true
    → every (λ r. pair_below b (link_pair r)) (map (link_row s) (numbers 0 (3 * n))) ≡ true
unfolding link_row corner_at
links-below s n b l h =
    every_map (link_row s) (λ r. pair_below b (link_pair r)) (numbers 0 (3 * n))
    ∙ every-numbers (λ j. pair_below b (link_pair (link_row s j))) 0 (3 * n)
    (λ j f g. and_intro (ltb (corner_at s j 1) b) (ltb (corner_at s j 2) b) (at (j / 3 * 3 + (j + 1) % 3) (omega arith)) (at (j / 3 * 3 + (j + 2) % 3) (omega arith)))
  where
    at : (i : ℕ) → i < 3 * n → ltb (word_at s i) b ≡ true
    at i k = ap (λ (x : ℕ). ltb x b) (sym (get_or-take (3 * n) s i 0 k)) ∙ every-get_or (λ x. ltb x b) (take (3 * n) s) i 0 h (omega (arith, length-take-le (3 * n) s l))
