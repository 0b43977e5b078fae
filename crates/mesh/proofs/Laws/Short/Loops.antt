-- The loops that push rows of short edges: over the edges of an element, and over the slots. Assumes nothing.
use Rattle.std.proofs.Common.{◌≡◌, ℕ, ◌+◌, ◌*◌, ◌<◌, ◌≤◌, true, false, List, [], ◌∷◌, ◌++◌, length, take, sym, refl, ap, ◌∙◌, subst, append_assoc, append-nil, add-one, arith, take_all, take-suc}
use lib.Ieee.{Float}
use lib.ListN.{get_or-map}
use Rattle.geometry.specs.declared.point.Point.{Point}
use Rattle.mesh.specs.declared.element.Pair.{Pair}
use Rattle.mesh.specs.declared.element.Tet.{Tet}
use Rattle.mesh.specs.Complex.{keep}
use Rattle.mesh.specs.Element.{pair, tet, tets, edge, edges_of, all_edges}
use Rattle.mesh.specs.inside.Intake.{tet_at}
use Rattle.mesh.specs.inside.Manifold.{KeptBelow}
use Rattle.mesh.specs.inside.Euler.{ends_of, ends_at}
use Rattle.mesh.specs.inside.List.{bad_in, Pushed}
use Rattle.mesh.proofs.Laws.Boundary.Same.{length-keep}
use Rattle.mesh.proofs.Laws.Intake.Reads.{length-tets, tets-at}
use Rattle.mesh.proofs.Laws.Euler.Areas.{tet-kept}
use Rattle.mesh.proofs.Laws.List.Push.{push-start, push_kept, push-more, keep_append}
use Rattle.mesh.specs.inside.Short.{short_rows}
use Rattle.mesh.proofs.Laws.Short.Push.{shape-short, short-append, short-few, no_rows}

-- an edge with its smaller vertex first
abbrev rise : Pair → Pair
rise e = edge e.a e.b

-- ---- the edges of an element

-- the rows of its first j edges are pushed
pub record Edges (ps : List Point) (limit : Float) (t : Tet) (b : ℕ) (s₀ s : List ℕ) (k j : ℕ) : Type 0 where
  pub bound : j ≤ 6
  pub few : k ≤ j
  pub pushed : Pushed (short_rows ps limit (take j (edges_of t))) 4 b s₀ s k

module _ (ps : List Point) (limit : Float) (t : Tet) (b : ℕ) (s₀ : List ℕ) (room : b + 24 ≤ length s₀) where
  pub edges-start : Edges ps limit t b s₀ s₀ 0 0
  edges-start = record { bound = omega arith; few = omega arith; pushed = subst (λ (l : List (List ℕ)). Pushed l 4 b s₀ s₀ 0) (no_rows ps limit) (push-start 4 b s₀) }

  module _ {s : List ℕ} {k j : ℕ} (g : Edges ps limit t b s₀ s k j) where
    pub edges-turn : j < 6 → {x e : Pair} → x ≡ ends_at t j → e ≡ rise x → {s' : List ℕ} {m : ℕ} → Pushed (short_rows ps limit (e ∷ [])) 4 (b + 4 * k) s s' m
        → Edges ps limit t b s₀ s' (k + m) (j + 1)
    edges-turn h {x} {e} p q {s'} {m} r =
        let next : take (j + 1) (edges_of t) ≡ take j (edges_of t) ++ (e ∷ []) =
        ap (λ (u : ℕ). take u (edges_of t)) (add-one j) ∙ take-suc (edges_of t) j (rise (pair t.c t.d)) h
        ∙ ap (λ (u : Pair). take j (edges_of t) ++ (u ∷ [])) (get_or-map rise (ends_of t) j (pair t.c t.d) ∙ sym (q ∙ ap rise p)) in
        record {
          bound = omega arith;
          few = omega (arith, g.few, r.number, short-few ps limit (e ∷ []));
          pushed =
              subst (λ (l : List (List ℕ)). Pushed l 4 b s₀ s' (k + m)) (sym (ap (short_rows ps limit) next ∙ short-append ps limit (take j (edges_of t)) (e ∷ [])))
              (push-more (shape-short ps limit (take j (edges_of t))) (omega arith) g.pushed r);
        }

-- ---- the slots

all_append : (l m : List Tet) → all_edges (l ++ m) ≡ all_edges l ++ all_edges m
unfolding all_edges
all_append [] m = refl
all_append (t ∷ l) m = ap (λ (u : List Pair). edges_of t ++ u) (all_append l m) ∙ sym (append_assoc (edges_of t) (all_edges l) (all_edges m))

pub length-all : (l : List Tet) → length (all_edges l) ≡ 6 * length l
unfolding all_edges
length-all [] = refl
length-all (t ∷ l) = omega (arith, length-all l)

-- the rows of the bad ones among the first e slots are pushed
pub record Slots (ps : List Point) (limit : Float) (n : ℕ) (s₀ s : List ℕ) (k e : ℕ) : Type 0 where
  pub bound : e ≤ n
  pub few : k ≤ 6 * e
  pub pushed : Pushed (short_rows ps limit (all_edges (keep (bad_in ps) (take e (tets n s₀))))) 4 (4 * n) s₀ s k

module _ (ps : List Point) (limit : Float) (n : ℕ) (s₀ : List ℕ) (room : 52 * n ≤ length s₀) where
  pub slots-start : Slots ps limit n s₀ s₀ 0 0
  unfolding all_edges
  slots-start = record { bound = omega arith; few = omega arith; pushed = subst (λ (l : List (List ℕ)). Pushed l 4 (4 * n) s₀ s₀ 0) (no_rows ps limit) (push-start 4 (4 * n) s₀) }

  module _ {s : List ℕ} {k e : ℕ} (g : Slots ps limit n s₀ s k e) where
    pub slots_kept : KeptBelow (4 * n) s₀ s
    slots_kept = push_kept (shape-short ps limit (all_edges (keep (bad_in ps) (take e (tets n s₀))))) (omega arith) g.pushed (omega (arith, g.few, g.bound))

    module _ (h : e < n) {t : Tet} (r : t ≡ tet_at s e) where
      next : keep (bad_in ps) (take (e + 1) (tets n s₀)) ≡ keep (bad_in ps) (take e (tets n s₀)) ++ keep (bad_in ps) (t ∷ [])
      next =
          ap (λ (u : ℕ). keep (bad_in ps) (take u (tets n s₀))) (add-one e)
          ∙ ap (keep (bad_in ps))
          (take-suc (tets n s₀) e (tet 0 0 0 0) (omega (arith, length-tets n s₀))
          ∙ ap (λ (u : Tet). take e (tets n s₀) ++ (u ∷ [])) (tets-at n s₀ e (tet 0 0 0 0) h ∙ sym (r ∙ tet-kept s₀ s n e slots_kept.front h)))
          ∙ keep_append (bad_in ps) (take e (tets n s₀)) (t ∷ [])

      -- it is bad
      pub slots-more : bad_in ps t ≡ true → {s' : List ℕ} {m : ℕ} → Pushed (short_rows ps limit (edges_of t)) 4 (4 * n + 4 * k) s s' m → Slots ps limit n s₀ s' (k + m) (e + 1)
      unfolding all_edges
      slots-more q {s'} {m} f =
          let l = keep (bad_in ps) (take e (tets n s₀)) in
          let one : all_edges (keep (bad_in ps) (t ∷ [])) ≡ edges_of t = rw q (append-nil (edges_of t)) in
          let w : all_edges (keep (bad_in ps) (take (e + 1) (tets n s₀))) ≡ all_edges l ++ edges_of t =
          ap all_edges next ∙ all_append l (keep (bad_in ps) (t ∷ [])) ∙ ap (λ (u : List Pair). all_edges l ++ u) one in
          record {
            bound = omega arith;
            few = omega (arith, g.few, f.number, short-few ps limit (edges_of t));
            pushed =
                subst (λ (u : List (List ℕ)). Pushed u 4 (4 * n) s₀ s' (k + m)) (sym (ap (short_rows ps limit) w ∙ short-append ps limit (all_edges l) (edges_of t)))
                (push-more (shape-short ps limit (all_edges l)) (omega arith) g.pushed f);
          }

      -- it is not
      pub slots-less : bad_in ps t ≡ false → Slots ps limit n s₀ s k (e + 1)
      slots-less q =
          let l = keep (bad_in ps) (take e (tets n s₀)) in
          let w : keep (bad_in ps) (take (e + 1) (tets n s₀)) ≡ l = next ∙ rw q (append-nil l) in
          record {
            bound = omega arith;
            few = omega (arith, g.few);
            pushed = subst (λ (u : List Tet). Pushed (short_rows ps limit (all_edges u)) 4 (4 * n) s₀ s k) (sym w) g.pushed;
          }

    pub slots_end : n ≤ e → Pushed (short_rows ps limit (all_edges (keep (bad_in ps) (tets n s₀)))) 4 (4 * n) s₀ s k
    slots_end h = subst (λ (u : List Tet). Pushed (short_rows ps limit (all_edges (keep (bad_in ps) u))) 4 (4 * n) s₀ s k) (take_all e (tets n s₀) (omega (arith, length-tets n s₀))) g.pushed

  -- no more than six rows a slot
  pub slots-few : length (short_rows ps limit (all_edges (keep (bad_in ps) (tets n s₀)))) ≤ 6 * n
  slots-few =
      let l = keep (bad_in ps) (tets n s₀) in
      omega (arith, short-few ps limit (all_edges l), length-all l, length-keep (bad_in ps) (tets n s₀), length-tets n s₀)
