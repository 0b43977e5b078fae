-- `replace` in the work slice: the slots emptied and added one by one stand for the state of specs/Flip.antt. Assumes nothing.
use mathlib.Core.Path.{◌≡◌, refl, sym, ap, subst, ◌∙◌}
use mathlib.Core.Bool.{Bool, true, false, cond}
use mathlib.Core.List.{List, [], ◌∷◌, ◌++◌, map, append-nil}
use mathlib.Core.Option.{Option, none, some}
use Prim.Native.Nat.{ℕ, zero, suc, ◌+◌, ◌≤◌, ◌<◌}
use native.Mathlib.Omega.{arith}
use borrow.Author.Tests.{lt-ltb, ltb-true}
use lib.Dec.{ltb}
use lib.ListN.{length, get_or, set, drop, drop_of_length-le}
use lib.Seq.{append_snoc, drop-cons}
use Rattle.mesh.specs.declared.element.Tet.{Tet}
use Rattle.mesh.specs.declared.star.Index.{Index}
use Rattle.mesh.specs.Tests.{every, under}
use Rattle.mesh.specs.Intake.{well_numbered}
use Rattle.mesh.specs.Measure.{Measure}
use Rattle.mesh.proofs.Laws.Complex.Sets.{and-fst, and-snd}
use Rattle.mesh.proofs.Laws.Boundary.Same.{length-map}
use Rattle.repair.specs.declared.flip.counts.Tried.{Tried}
use Rattle.repair.specs.Flip.{State, live, emptied, elements_at, oriented, accepted, replace}
use Rattle.repair.specs.inside.flip.Layout.{SlotsStand, Kept}
use Rattle.repair.specs.inside.flip.Tries.{Holds, Old}
use Rattle.repair.specs.inside.flip.Replace.{Empties, Adds}
use Rattle.repair.proofs.Laws.Flip.Slots.{none-some, live-some}
use Rattle.repair.proofs.Laws.Flip.Numbered.{oriented-numbered}
use Rattle.repair.proofs.Laws.Flip.Layout.{kept_refl, kept_trans, slots-many}

-- ---- slots one by one

-- where w stands for a state, u stands for the state with the slot e emptied
abbrev EmptiesOne : Index → ℕ → List ℕ → List ℕ → Type 0
EmptiesOne x e w u = (n c : ℕ) (s : State) → e < c → SlotsStand x n c w s → SlotsStand x n c u (record { slots = set s.slots e none; flips = s.flips }) × Kept x w u

-- no slot emptied, and one more
empties-none : {x : Index} {w : List ℕ} → Empties x [] w w
unfolding emptied
empties-none n c s h z = (z, kept_refl)

empties-more : {x : Index} (e : ℕ) (is : List ℕ) {w u v : List ℕ} → EmptiesOne x e w u → Empties x is u v → Empties x (e ∷ is) w v
unfolding emptied
empties-more e is first rest n c s h z =
    let a = first n c s (ltb-true e c (and-fst (ltb e c) (under c is) h)) z in
    let b = rest n c (record { slots = set s.slots e none; flips = s.flips }) (and-snd (ltb e c) (under c is) h) a.0 in
    (b.0, kept_trans a.1 b.1)

-- once i of the slots are emptied: what empties those that are left makes all empty
pub record Emptying (x : Index) (is : List ℕ) (w u : List ℕ) (i : ℕ) : Type 0 where
  pub long : length u ≡ length w
  pub rest : (v : List ℕ) → Empties x (drop i is) u v → Empties x is w v

module _ {x : Index} {is w u : List ℕ} {i : ℕ} (k : Emptying x is w u i) where
  pub emptying-turn : i < length is → (v : List ℕ) → length v ≡ length u → EmptiesOne x (get_or is i 0) u v → Emptying x is w v (i + 1)
  emptying-turn h v l one = record {
    long = l ∙ k.long;
    rest = λ y more.
        let e : i + 1 ≡ suc i = omega arith in
        k.rest y (subst (λ (js : List ℕ). Empties x js u y) (sym (drop-cons is i 0 h)) (empties-more (get_or is i 0) (drop (suc i) is) one (subst (λ (j : ℕ). Empties x (drop j is) v y) e more)));
  }

  pub emptying-end : length is ≤ i → Empties x is w u
  emptying-end h = k.rest u (subst (λ (js : List ℕ). Empties x js u u) (sym (drop_of_length-le is h)) empties-none)

-- where w stands for a state with c slots, u stands for the state with t in a slot behind them
abbrev AddsOne : Index → ℕ → Tet → List ℕ → List ℕ → Type 0
AddsOne x c t w u =
    (n : ℕ) (s : State) → c < x.room → well_numbered x.vertices t ≡ true → SlotsStand x n c w s
    → SlotsStand x n (c + 1) u (record { slots = s.slots ++ (some t ∷ []); flips = s.flips }) × Kept x w u

-- no slot added, and one more
adds_none : {x : Index} {c : ℕ} {w : List ℕ} → Adds x c [] w w
adds_none {x} {c} {w} n s h ok z =
    let e : c ≡ c + 0 = omega arith in
    (subst (λ (k : ℕ). SlotsStand x n k w (record { slots = s.slots ++ []; flips = s.flips })) e (subst (λ (l : List (Option Tet)). SlotsStand x n c w (record { slots = l; flips = s.flips })) (sym (append-nil s.slots)) z), kept_refl)

adds-more : {x : Index} (c d : ℕ) (t : Tet) (ts : List Tet) {w u v : List ℕ} → d ≡ c + 1 → AddsOne x c t w u → Adds x d ts u v → Adds x c (t ∷ ts) w v
adds-more {x} c d t ts {w} {u} {v} e first rest n s h ok z =
    let nv = x.vertices in
    let a = first n s (omega arith) (and-fst (well_numbered nv t) (every (well_numbered nv) ts) ok) z in
    let s₁ : State = record { slots = s.slots ++ (some t ∷ []); flips = s.flips } in
    let b = rest n s₁ (omega arith) (and-snd (well_numbered nv t) (every (well_numbered nv) ts) ok) (subst (λ (k : ℕ). SlotsStand x n k u s₁) (sym e) a.0) in
    let f : d + length ts ≡ c + suc (length ts) = omega arith in (
      subst (λ (k : ℕ). SlotsStand x n k v (record { slots = s.slots ++ some t ∷ map some ts; flips = s.flips })) f
          (subst (λ (l : List (Option Tet)). SlotsStand x n (d + length ts) v (record { slots = l; flips = s.flips })) (append_snoc s.slots (some t) (map some ts)) b.0),
      kept_trans a.1 b.1,
    )

-- once i of the elements are added: what adds those that are left adds all
pub record Adding (x : Index) (c : ℕ) (ts : List Tet) (w u : List ℕ) (i : ℕ) : Type 0 where
  pub long : length u ≡ length w
  pub rest : (v : List ℕ) → Adds x (c + i) (drop i ts) u v → Adds x c ts w v

pub adding-start : (x : Index) (c : ℕ) (ts : List Tet) (w : List ℕ) → Adding x c ts w w 0
adding-start x c ts w = record {
  long = refl;
  rest = λ v h. let e : c + 0 ≡ c = omega arith in subst (λ (d : ℕ). Adds x d ts w v) e h;
}

module _ {x : Index} {c : ℕ} {ts : List Tet} {w u : List ℕ} {i : ℕ} (k : Adding x c ts w u i) where
  pub adding-turn : (d : Tet) → i < length ts → (v : List ℕ) → length v ≡ length u → AddsOne x (c + i) (get_or ts i d) u v → Adding x c ts w v (i + 1)
  adding-turn d h v l one = record {
    long = l ∙ k.long;
    rest = λ y more.
        let e : i + 1 ≡ suc i = omega arith in
        k.rest y (subst (λ (us : List Tet). Adds x (c + i) us u y) (sym (drop-cons ts i d h))
        (adds-more (c + i) (c + (i + 1)) (get_or ts i d) (drop (suc i) ts) (omega arith) one (subst (λ (j : ℕ). Adds x (c + (i + 1)) (drop j ts) v y) e more)));
  }

  pub adding-end : length ts ≤ i → Adds x c ts w u
  adding-end h = k.rest u (subst (λ (us : List Tet). Adds x (c + i) us u u) (sym (drop_of_length-le ts h)) (adds_none {c = c + i}))

-- ---- the old elements

-- a number with an element is that of a slot
at_under : (ss : List (Option Tet)) (i : ℕ) (t : Tet) → get_or ss i none ≡ some t → i < length ss
at_under [] i t h = absurd (none-some h)
at_under (x ∷ ss) zero t h = omega arith
at_under (x ∷ ss) (suc i) t h = let r = at_under ss i t h in omega arith

-- so are the numbers of the old elements
old-under : (ss : List (Option Tet)) (is : List ℕ) (ts : List Tet) → map (λ i. get_or ss i none) is ≡ map some ts → under (length ss) is ≡ true
old-under ss [] ts h = refl
old-under ss (i ∷ is) [] h = absurd (never h)
  where
    never : get_or ss i none ∷ map (λ j. get_or ss j none) is ≡ [] → ⊥
    never z = let y : ◌≡◌ {A = ℕ} (suc (length (map (λ j. get_or ss j none) is))) 0 = ap length z in omega arith
old-under ss (i ∷ is) (t ∷ ts) h = rw (lt-ltb i (length ss) (at_under ss i t (head h))) (old-under ss is ts (tail h))
  where
    head : get_or ss i none ∷ map (λ j. get_or ss j none) is ≡ some t ∷ map some ts → get_or ss i none ≡ some t
    head z = cc

    tail : get_or ss i none ∷ map (λ j. get_or ss j none) is ≡ some t ∷ map some ts → map (λ j. get_or ss j none) is ≡ map some ts
    tail z = cc

-- ---- all of it

module _ (μ : Measure) (x : Index) (n : ℕ) (t : Tried) (w : List ℕ) (s : State) (z : Holds x n t w s) (is : List ℕ) (old cs new : List Tet) (o : Old is old s) (made : new ≡ map (oriented μ) cs) where
  -- the elements of these slots
  elements-old : elements_at s.slots is ≡ old
  elements-old = ap live o ∙ live-some old

  -- the test of the code is that of the definition
  test : accepted μ (elements_at s.slots is) (map (oriented μ) cs) ≡ accepted μ old new
  test = rw (elements-old, made) refl

  -- not accepted: nothing changes
  pub replace-not : accepted μ old new ≡ false → Holds x n t w (replace μ s is cs) × Kept x w w
  unfolding replace
  replace-not h = (subst (λ (b : Bool). Holds x n t w (cond b (record { slots = emptied is s.slots ++ map some (map (oriented μ) cs); flips = s.flips + 1 }) s)) (sym (test ∙ h)) z, kept_refl)

  -- how many are made
  more-is : length new ≡ length cs
  more-is = ap length made ∙ length-map (oriented μ) cs

  -- accepted: slots emptied and added
  pub replace-made : accepted μ old new ≡ true → every (well_numbered x.vertices) cs ≡ true → t.slots + length cs ≤ x.room
      → (u v : List ℕ) → Empties x is w u → Adds x t.slots new u v → (k : ℕ) → k ≡ length new
      → Holds x n (record { slots = t.slots + k; flips = t.flips + 1 }) v (replace μ s is cs) × Kept x w v
  unfolding replace
  replace-made h ok room u v empties adds k e =
      let m = more-is in
      let inside : under t.slots is ≡ true = subst (λ (j : ℕ). under j is ≡ true) (slots-many z.stands) (old-under s.slots is old o) in
      let a = empties n t.slots s inside z.stands in
      let fine : every (well_numbered x.vertices) new ≡ true = ap (every (well_numbered x.vertices)) made ∙ oriented-numbered μ x.vertices cs ok in
      let b = adds n (record { slots = emptied is s.slots; flips = s.flips }) (omega arith) fine a.0 in (
        subst (λ (q : Bool). Holds x n (record { slots = t.slots + k; flips = t.flips + 1 }) v (cond q (record { slots = emptied is s.slots ++ map some (map (oriented μ) cs); flips = s.flips + 1 }) s)) (sym (test ∙ h))
            (record {
              stands = subst (λ (j : ℕ). SlotsStand x n (t.slots + j) v (record { slots = emptied is s.slots ++ map some (map (oriented μ) cs); flips = s.flips + 1 })) (sym e)
                  (counted (subst (λ (l : List Tet). SlotsStand x n (t.slots + length new) v (record { slots = emptied is s.slots ++ map some l; flips = s.flips })) made b.0));
              flips = ap (λ (j : ℕ). j + 1) z.flips;
            }),
        kept_trans a.1 b.1,
      )
    where
      -- the count of flips does not matter
      counted : {c f g : ℕ} {y : List ℕ} {l : List (Option Tet)} → SlotsStand x n c y (record { slots = l; flips = f }) → SlotsStand x n c y (record { slots = l; flips = g })
      counted q = record { room = q.room; fits = q.fits; slots = q.slots; proper = q.proper; index = q.index }
