-- The runs that src/runs.rt gives, one after the other, and a test of them all. Assumes nothing.
use Rattle.std.proofs.Common.{◌≡◌, ℕ, zero, suc, ◌+◌, ◌-◌, ◌*◌, ◌<◌, ◌≤◌, Bool, Some, inl, inr, List, [], ◌∷◌, length, take, drop, sym, refl, ap, subst, ◌∙◌, ap₂, arith, take-take, drop-drop}
use Rattle.std.proofs.lemmas.List.{drop-take}
use Rattle.std.specs.List.{FoldsTo}
use Rattle.std.specs.Iterator.{AlwaysYields, Yields, CallableAtEachTurn}
use Rattle.std.proofs.lemmas.Iterator.{YieldsList}
use Rattle.mesh.specs.declared.runs.Runs.{Runs}
use Rattle.mesh.specs.inside.Rows.{rows, run}
use Rattle.mesh.specs.inside.Runs.{runs_left, GivesRun, RunsOf}
use Rattle.mesh.specs.inside.Group.{join_run, runs, same_first}
use Rattle.mesh.proofs.Laws.Bools.{split}
use Rattle.mesh.proofs.Laws.Rows.{length-rows, take-rows, drop-rows}
use Rattle.mesh.proofs.Laws.Runs.{of_key, run_is}
use Rattle.mesh.proofs.Laws.Manifold.RowRuns.{run-first, run-turn}
use Rattle.mesh.proofs.Laws.Manifold.Steps.{run-few}

-- `left` rows of w words from `at` on, at least one: the run at their front, of k rows, and the runs behind it
module _ (s : List ℕ) (at left w kw k : ℕ) (h : 0 < left) (room : at + left * w ≤ length s) (keyed : kw ≤ w)
    (e : k ≡ of_key kw (take kw (drop at s)) (rows w left (drop at s))) where
  abbrev rs : List (List ℕ)
  rs = rows w left (drop at s)

  is-run : k ≡ run kw rs
  is-run = e ∙ run_is (drop at s) w kw left h keyed

  front : (n : ℕ) → 0 < n → (0 < run kw (rows w n (drop at s))) × (runs (same_first kw) (rows w n (drop at s))
      ≡ take (run kw (rows w n (drop at s))) (rows w n (drop at s)) ∷ runs (same_first kw) (drop (run kw (rows w n (drop at s))) (rows w n (drop at s))))
  unfolding rows
  front zero g = absurd (omega arith)
  front (suc n) g = (run-first kw (take w (drop at s)) (rows w n (drop w (drop at s))), run-turn kw (take w (drop at s)) (rows w n (drop w (drop at s))))

  pub some-run : 0 < k
  some-run = omega (arith, is-run, (front left h).0)

  pub few-run : k ≤ left
  few-run = omega (arith, is-run, run-few kw rs, length-rows w left (drop at s))

  together : (n : ℕ) → n ≡ left - k → k + n ≡ left
  together n g = omega (arith, few-run)

  pub run-words : k * w + (left - k) * w ≡ left * w
  run-words =
      let g : k + (left - k) ≡ left = together (left - k) refl in
      let m : (k + (left - k)) * w ≡ left * w = ap (λ (u : ℕ). u * w) g in
      omega arith

  pub first-run : runs (same_first kw) rs ≡ rows w k (drop at s) ∷ runs (same_first kw) (rows w (left - k) (drop (at + k * w) s))
  first-run =
      let g : k + (left - k) ≡ left = together (left - k) refl in
      (front left h).1
      ∙ ap (λ (u : ℕ). take u rs ∷ runs (same_first kw) (drop u rs)) (sym is-run)
      ∙ ap (λ (u : ℕ). take k (rows w u (drop at s)) ∷ runs (same_first kw) (drop k (rows w u (drop at s)))) (sym g)
      ∙ ap (λ (l : List (List ℕ)). l ∷ runs (same_first kw) (drop k (rows w (k + (left - k)) (drop at s)))) (take-rows w k (left - k) (drop at s))
      ∙ ap (λ (l : List (List ℕ)). rows w k (drop at s) ∷ runs (same_first kw) l) (drop-rows w k (left - k) (drop at s) ∙ ap (rows w (left - k)) (drop-drop (k * w) at s))

-- no rows, no runs
pub no-runs : (s : List ℕ) (at left w kw : ℕ) → left ≡ 0 → runs (same_first kw) (rows w left (drop at s)) ≡ []
unfolding rows runs
no-runs s at left w kw e = rw e refl

-- ---- no more runs than rows

length-join : (same : List ℕ → List ℕ → Bool) (r : List ℕ) (gs : List (List (List ℕ))) → length (join_run same r gs) ≤ length gs + 1
unfolding join_run
length-join same r [] = omega arith
length-join same r ([] ∷ gs) = omega arith
length-join same r ((q ∷ g) ∷ gs) = elim (split (same r q)) [ inl e ↦ rw e (omega arith) | inr e ↦ rw e (omega arith) ]

pub length-runs : (same : List ℕ → List ℕ → Bool) (rs : List (List ℕ)) → length (runs same rs) ≤ length rs
unfolding runs
length-runs same [] = omega arith
length-runs same (r ∷ rs) = omega (arith, length-join same r (runs same rs), length-runs same rs)

-- rows of the words before a place
pub rows-front : (w k m : ℕ) (l : List ℕ) → k * w ≤ m → rows w k (take m l) ≡ rows w k l
unfolding rows
rows-front w zero m l h = refl
rows-front w (suc k) m l h =
    let e : w + (m - w) ≡ m = omega arith in
    ap₂ (λ (r : List ℕ) (rs : List (List ℕ)). r ∷ rs) (take-take w m l (omega arith))
    (ap (rows w k) (ap (λ (u : ℕ). drop w (take u l)) (sym e) ∙ drop-take w (m - w) l) ∙ rows-front w k (m - w) (drop w l) (omega arith))

-- ---- the runs that calls of `next` give

none-in : {A : Type 0} {x : A} {l : List A} → ◌≡◌ {A = List A} [] (x ∷ l) → ⊥
none-in e = absurd (omega (arith, ap length e))

abbrev first-of : {A : Type 0} → A → List A → A
first-of a [] = a
first-of a (x ∷ l) = x

abbrev rest-of : {A : Type 0} → List A → List A
rest-of [] = []
rest-of (x ∷ l) = l

module _ (s : List ℕ) (w : ℕ) where
  -- the rows that an item tells
  abbrev pub rows_at : ℕ × ℕ → List (List ℕ)
  rows_at x = rows w x.1 (drop x.0 s)

  given : (gs : List (List (List ℕ))) (r : Runs) → r.area.now ≡ s → r.w ≡ w → runs_left r ≡ gs → AlwaysYields GivesRun rows_at r gs
  given [] r a b e = λ x t p. none-in (sym e ∙ p.2.0)
  given (g ∷ gs) r a b e = (
    λ t p. none-in (sym p.2 ∙ e),
    λ x t p.
        let f : rows_at x ∷ runs_left t ≡ g ∷ gs = ap₂ (λ (l : List ℕ) (v : ℕ). rows v x.1 (drop x.0 l) ∷ runs_left t) (sym a) (sym b) ∙ sym p.2.0 ∙ e in
        (ap (first-of g) f, given gs t (ap (λ u. u.now) p.0 ∙ a) (p.1 ∙ b) (ap rest-of f)),
  )

  -- where a closure may be called at each run
  module _ {F : Type 0} (R : F → ℕ × ℕ → F → Type 0) (Q : F → ℕ × ℕ → Type 0) (f : F) (stays : (x : ℕ × ℕ) (q : F) → R f x q → q ≡ f)
      (told : (x : ℕ × ℕ) → 0 < x.1 → x.0 + x.1 * w ≤ length s → Q f x) where
    reached : (xs : List (ℕ × ℕ)) (r t : Runs) (q : F) (x : ℕ × ℕ) (u : Runs) → r.area.now ≡ s → r.w ≡ w → Yields GivesRun r xs t → FoldsTo R f xs q → GivesRun t (Some x) u → Q q x
    reached [] r t q x u a b y z p =
        let n : t.w ≡ w = ap (λ (k : Runs). k.w) (sym y) ∙ b in
        let l : t.area.now ≡ s = ap (λ (k : Runs). k.area.now) (sym y) ∙ a in
        subst (λ (g : F). Q g x) z (told x p.2.1 (subst (λ (k : ℕ). x.0 + x.1 * k ≤ length s) n (subst (λ (k : List ℕ). x.0 + x.1 * t.w ≤ length k) l p.2.2)))
    reached (v ∷ xs) r t q x u a b y z p =
        reached xs y.0 t q x u (ap (λ k. k.now) y.1.0 ∙ a) (y.1.1 ∙ b) y.2 (subst (λ (g : F). FoldsTo R g xs q) (stays v z.0 z.1) z.2) p

-- the runs of the m rows of w words from p on, as `Runs::new` gives them
module _ {s : List ℕ} {p m w kw : ℕ} {r : Runs} (e : RunsOf s p m w kw r) where
  pub runs-given : YieldsList GivesRun (rows_at s w) r (runs (same_first kw) (rows w m (drop p s)))
  runs-given = record { runs = given s w (runs (same_first kw) (rows w m (drop p s))) r e.area e.width e.left }

  pub runs-serve : {F : Type 0} (R : F → ℕ × ℕ → F → Type 0) (Q : F → ℕ × ℕ → Type 0) (f : F) → ((x : ℕ × ℕ) (q : F) → R f x q → q ≡ f)
      → ((x : ℕ × ℕ) → 0 < x.1 → x.0 + x.1 * w ≤ length s → Q f x) → CallableAtEachTurn GivesRun R Q r f
  runs-serve R Q f stays told = record { at = λ xs t q x u y z g. reached s w R Q f stays told xs r t q x u e.area e.width y z g }
