-- The cycle tests of the links: link rows in one part of an area, marks in the other. Assumes nothing.
use Rattle.std.proofs.Common.{◌≡◌, ℕ, ◌+◌, ◌-◌, ◌*◌, ◌<◌, ◌≤◌, Bool, true, false, ◌&&◌, eqb, ltb, Some, None, inl, inr, List, [], ◌∷◌, ◌++◌, map, length, get_or, take, drop, set, sym, refl, ap, subst, ◌∙◌, ap₂, add-one, arith, length-append, length-drop, length-take-le, get_or-drop, take_all, take_at, get_or-take, take-suc, drop-drop, ltb-true}
use Rattle.std.proofs.lemmas.List.{drop-take}
use lib.ListN.{length-map, get_or-map}
use Rattle.mesh.specs.declared.element.Pair.{Pair}
use Rattle.mesh.specs.declared.runs.Runs.{Runs}
use Rattle.mesh.specs.Words.{word_at}
use Rattle.mesh.specs.inside.Rows.{rows}
use Rattle.mesh.specs.inside.Runs.{runs_left, GivesRun, RunsOf}
use Rattle.mesh.specs.Tests.{every}
use Rattle.mesh.specs.Element.{pair}
use Rattle.mesh.specs.Manifold.{grow, reach}
use Rattle.mesh.proofs.Laws.Bools.{split, and_left, and_right}
use Rattle.mesh.proofs.Laws.EachRun.{length-runs, rows-front}
use Rattle.mesh.proofs.Laws.Rows.{rows_at, length-rows}
use Rattle.mesh.specs.inside.Group.{join_run, runs, same_first}
use Rattle.mesh.specs.inside.Manifold.{link_pair, cycle, pair_below, Low, Marked, KeptBelow, Grown, LinkRun, LinkArea}
use Rattle.mesh.proofs.Laws.Manifold.Corners.{every-get_or}
use Rattle.mesh.proofs.Laws.Manifold.Growth.{grown-more, low-marked, marked-low, Reaching, reach-start, reach-stop, reach-end, cycle-is}
use Rattle.mesh.proofs.Laws.Boundary.Faces.{every_map}

-- the pairs of k link rows from p on
abbrev pub pairs_at : ℕ → ℕ → List ℕ → List Pair
pairs_at p k s = map link_pair (rows 4 k (drop p s))

pub length_pairs : (p k : ℕ) (s : List ℕ) → length (pairs_at p k s) ≡ k
length_pairs p k s = length-map (rows 4 k (drop p s)) link_pair ∙ length-rows 4 k (drop p s)

pair-at : (p k : ℕ) (s : List ℕ) (i : ℕ) → i < k → get_or (pairs_at p k s) i (pair 0 0) ≡ pair (word_at s (p + 4 * i + 2)) (word_at s (p + 4 * i + 3))
pair-at p k s i h =
    let e : p + i * 4 ≡ p + 4 * i = omega arith in
    get_or-map link_pair (rows 4 k (drop p s)) i []
    ∙ ap link_pair (rows_at 4 k (drop p s) i h ∙ ap (take 4) (drop-drop (i * 4) p s ∙ ap (λ (u : ℕ). drop u s) e))
    ∙ ap₂ pair (get_or-take 4 (drop (p + 4 * i) s) 2 0 (omega arith) ∙ get_or-drop (p + 4 * i) s 2 0) (get_or-take 4 (drop (p + 4 * i) s) 3 0 (omega arith) ∙ get_or-drop (p + 4 * i) s 3 0)

-- ---- a pass over the pairs of the rows l, which grows the marks s₀ to s

module _ {p k t : ℕ} {l s₀ s : List ℕ} {i a : ℕ} (r : LinkRun p k (length s₀) l) (g : Grown t (take i (pairs_at p k l)) s₀ s a) (h : i < k) where
  pub pair_read : {x y : ℕ} → x ≡ word_at l (p + 4 * i + 2) → y ≡ word_at l (p + 4 * i + 3) → pair x y ≡ get_or (pairs_at p k l) i (pair 0 0)
  pair_read {x} {y} e f = ap₂ pair e f ∙ sym (pair-at p k l i h)

  pub pair-known : {x y : ℕ} → x ≡ word_at l (p + 4 * i + 2) → y ≡ word_at l (p + 4 * i + 3) → (x < length s) × (y < length s)
  pair-known {x} {y} e f =
      let b = length s₀ in
      let q : pair_below b (pair x y) ≡ true = ap (pair_below b) (pair_read e f) ∙ every-get_or (pair_below b) (pairs_at p k l) i (pair 0 0) r.known (omega (arith, length_pairs p k l)) in
      (omega (arith, ltb-true x b (and_left (ltb x b) (ltb y b) q), g.long), omega (arith, ltb-true y b (and_right (ltb x b) (ltb y b) q), g.long))

  pub grow-turn : {x y b : ℕ} {s' : List ℕ} → x ≡ word_at l (p + 4 * i + 2) → y ≡ word_at l (p + 4 * i + 3) → Grown t (pair x y ∷ []) s s' b
      → Grown t (take (i + 1) (pairs_at p k l)) s₀ s' (a + b)
  grow-turn {x} {y} {b} {s'} e f j =
      let es = pairs_at p k l in
      let q : take (i + 1) es ≡ take i es ++ (pair x y ∷ []) =
      ap (λ (n : ℕ). take n es) (add-one i) ∙ take-suc es i (pair 0 0) (omega (arith, length_pairs p k l)) ∙ ap (λ (z : Pair). take i es ++ (z ∷ [])) (sym (pair_read e f)) in
      rw q (grown-more g j)

pub grow-end : (p k : ℕ) (l : List ℕ) {t : ℕ} {s₀ s : List ℕ} (i : ℕ) {a : ℕ} → k ≤ i → Grown t (take i (pairs_at p k l)) s₀ s a → Grown t (pairs_at p k l) s₀ s a
grow-end p k l {t} {s₀} {s} i {a} h g = rw (take_all i (pairs_at p k l) (omega (arith, length_pairs p k l))) at g

-- ---- one cycle

-- l holds the rows; s are the b marks as lent, s₁ those with the first vertex marked
module _ {p k b : ℕ} {l : List ℕ} (v : LinkRun p k b l) (h : 0 < k) {start : ℕ} (e : start ≡ word_at l (p + 2)) where
  first-is : (get_or (pairs_at p k l) 0 (pair 0 0)).a ≡ start
  first-is = ap (λ (z : Pair). z.a) (pair-at p k l 0 h) ∙ (let q : p + 4 * 0 + 2 ≡ p + 2 = omega arith in ap (word_at l) q) ∙ sym e

  start-room : start < b
  start-room =
      let q = every-get_or (pair_below b) (pairs_at p k l) 0 (pair 0 0) v.known (omega (arith, length_pairs p k l)) in
      let z = get_or (pairs_at p k l) 0 (pair 0 0) in
      omega (arith, ltb-true z.a b (and_left (ltb z.a b) (ltb z.b b) q), first-is)

  answer-is : {count : ℕ} → count ≡ length (reach k (pairs_at p k l) (start ∷ [])) → eqb count k ≡ cycle (rows 4 k (drop p l))
  answer-is {count} q = cycle-is start k count (pairs_at p k l) h (length_pairs p k l) first-is q

  pub rounds-start : (t : ℕ) (s : List ℕ) {s₁ : List ℕ} → b ≡ length s → s₁ ≡ set s start t → Marked t [] s → Reaching t (pairs_at p k l) start k b s₁ k 1
  rounds-start t s {s₁} q f m = rw q (reach-start t start k (pairs_at p k l) s s₁ (omega (arith, start-room)) m f)

  module _ {t : ℕ} {s₂ : List ℕ} {left count : ℕ} (r : Reaching t (pairs_at p k l) start k b s₂ left count) where
    pub rounds-run : LinkRun p k (length s₂) l
    rounds-run = subst (λ (u : ℕ). LinkRun p k u l) (sym r.long) v

    pub rounds-stop : {s₃ : List ℕ} {n : ℕ} → Grown t (pairs_at p k l) s₂ s₃ n → n ≡ 0 → (eqb count k ≡ cycle (rows 4 k (drop p l))) × (length s₃ ≡ b) × Low t s₃
    rounds-stop {s₃} {n} g z = (answer-is (reach-stop r g z), g.long ∙ r.long, marked-low t (grow (pairs_at p k l) r.seen) s₃ (g.marked r.seen r.marked))

    pub rounds-end : left ≤ 0 → (eqb count k ≡ cycle (rows 4 k (drop p l))) × (length s₂ ≡ b) × Low t s₂
    rounds-end z = (answer-is (reach-end r z), r.long, marked-low t r.seen s₂ r.marked)

-- ---- runs of rows that all pass

every-join : (same : List ℕ → List ℕ → Bool) (p : List ℕ → Bool) (r : List ℕ) (gs : List (List (List ℕ))) → p r ≡ true → every (every p) gs ≡ true → every (every p) (join_run same r gs) ≡ true
unfolding join_run
every-join same p r [] h k = rw h refl
every-join same p r ([] ∷ gs) h k = rw h k
every-join same p r ((q ∷ g) ∷ gs) h k = elim (split (same r q)) [ inl e ↦ rw (e, h) k | inr e ↦ rw (e, h) k ]

every-runs : (same : List ℕ → List ℕ → Bool) (p : List ℕ → Bool) (rs : List (List ℕ)) → every p rs ≡ true → every (every p) (runs same rs) ≡ true
unfolding runs
every-runs same p [] h = refl
every-runs same p (r ∷ rs) h = every-join same p r (runs same rs) (and_left (p r) (every p rs) h) (every-runs same p rs (and_right (p r) (every p rs) h))

-- ---- all runs

module _ (m : ℕ) (s₀ : List ℕ) where
  abbrev front : List ℕ
  front = take (5 * m) s₀

  abbrev links : List (List ℕ)
  links = rows 4 m (drop m s₀)

  abbrev inside : List ℕ → Bool
  inside r = pair_below (length s₀ - 5 * m) (link_pair r)

  links-front : rows 4 m (drop m front) ≡ links
  links-front =
      let i : m + 4 * m ≡ 5 * m = omega arith in
      ap (λ (u : ℕ). rows 4 m (drop m (take u s₀))) (sym i) ∙ ap (rows 4 m) (drop-take m (4 * m) s₀) ∙ rows-front 4 m (4 * m) (drop m s₀) (omega arith)

  -- what holds at the head of the loop over the runs: those left decide, and no mark is above the last
  pub record Cycling (s : List ℕ) (mark : ℕ) (r : Runs) : Type 0 where
    pub keyed : r.area.now ≡ front
    pub width : r.w ≡ 4
    pub long : length s ≡ length s₀ - 5 * m
    pub low : Low mark s
    pub few : mark + length (runs_left r) ≤ m
    pub known : every (every inside) (runs_left r) ≡ true
    pub all : every cycle (runs_left r) ≡ every cycle (runs (same_first 1) links)

  module _ (a : LinkArea m s₀) where
    pub cycling-start : {t s : List ℕ} {r : Runs} → t ≡ front → s ≡ drop (5 * m) s₀ → RunsOf t m m 4 1 r → Cycling s 0 r
    cycling-start {t} {s} {r} e d g =
        let k : runs_left r ≡ runs (same_first 1) links =
        g.left ∙ ap (λ (l : List ℕ). runs (same_first 1) (rows 4 m (drop m l))) e ∙ ap (runs (same_first 1)) links-front in
        record {
          keyed = g.area ∙ e;
          width = g.width;
          long = ap length d ∙ length-drop (5 * m) s₀;
          low = λ x. omega (arith, ap (λ (l : List ℕ). word_at l x) d, get_or-drop (5 * m) s₀ x 0, a.fresh x);
          few = omega (arith, ap length k, length-runs (same_first 1) links, length-rows 4 m (drop m s₀));
          known = ap (every (every inside)) k ∙ every-runs (same_first 1) inside links a.known;
          all = ap (every cycle) k;
        }

    module _ {s : List ℕ} {mark : ℕ} {r : Runs} (v : Cycling s mark r) where
      -- the rows stand, behind them the marks
      pub cycling-kept : (s' : List ℕ) → length s' ≡ length s → KeptBelow (5 * m) s₀ (front ++ s')
      cycling-kept s' e = record {
        front = take_at front s' (5 * m) (length-take-le (5 * m) s₀ (omega (arith, a.room)));
        long = omega (arith, length-append front s', length-take-le (5 * m) s₀ (omega (arith, a.room)), e, v.long, a.room);
      }

      module _ (x : ℕ × ℕ) (r' : Runs) (g : GivesRun r (Some x) r') where
        abbrev here : List (List ℕ)
        here = rows 4 x.1 (drop x.0 front)

        runs-here : runs_left r ≡ here ∷ runs_left r'
        runs-here = g.2.0 ∙ ap₂ (λ (l : List ℕ) (w : ℕ). rows w x.1 (drop x.0 l) ∷ runs_left r') v.keyed v.width

        known-here : every (every inside) (here ∷ runs_left r') ≡ true
        known-here = ap (every (every inside)) (sym runs-here) ∙ v.known

        pub cycling-few : mark < m
        cycling-few = omega (arith, v.few, ap length g.2.0)

        pub run-ready : LinkRun x.0 x.1 (length s) front × (0 < x.1) × Marked (mark + 1) [] s
        run-ready =
            let w : x.1 * r.w ≡ x.1 * 4 = ap (λ (u : ℕ). x.1 * u) v.width in (
              record {
                few = omega (arith, length-take-le (5 * m) s₀ (omega (arith, a.room)), a.few);
                room = omega (arith, g.2.2, ap length v.keyed);
                known =
                    ap (λ (b : ℕ). every (pair_below b) (map link_pair here)) v.long
                    ∙ every_map link_pair (pair_below (length s₀ - 5 * m)) here
                    ∙ and_left (every inside here) (every (every inside) (runs_left r')) known-here;
              },
              g.2.1,
              low-marked mark s v.low,
            )

        pub cycling-turn : {s' : List ℕ} {b : Bool} → b ≡ cycle here → b ≡ true → length s' ≡ length s → Low (mark + 1) s' → Cycling s' (mark + 1) r'
        cycling-turn {s'} {b} q t long low = record {
          keyed = ap (λ u. u.now) g.0 ∙ v.keyed;
          width = g.1 ∙ v.width;
          long = long ∙ v.long;
          low = low;
          few = omega (arith, v.few, ap length g.2.0);
          known = and_right (every inside here) (every (every inside) (runs_left r')) known-here;
          all = sym (ap (every cycle) runs-here ∙ ap (λ (u : Bool). u && every cycle (runs_left r')) (sym q ∙ t)) ∙ v.all;
        }

        pub cycling-fail : {b : Bool} → b ≡ cycle here → b ≡ false → false ≡ every cycle (runs (same_first 1) links)
        cycling-fail {b} q t = sym (ap (every cycle) runs-here ∙ ap (λ (u : Bool). u && every cycle (runs_left r')) (sym q ∙ t)) ∙ v.all

      pub cycling-end : (r' : Runs) → GivesRun r None r' → true ≡ every cycle (runs (same_first 1) links)
      cycling-end r' g = sym (ap (every cycle) g.2) ∙ v.all
