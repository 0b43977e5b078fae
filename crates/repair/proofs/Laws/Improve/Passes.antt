-- Whatever each collapse keeps, a trial, a round and all rounds keep; and a round that collapses nothing ends them. Assumes nothing.
use mathlib.Core.Path.{◌≡◌, refl, sym}
use mathlib.Core.Logic.{◌≢◌, inl, inr}
use mathlib.Core.Bool.{Bool, true, false, not, ◌&&◌, ◌||◌}
use mathlib.Core.List.{List, [], ◌∷◌}
use Prim.Native.Nat.{ℕ, zero, suc, ◌<◌}
use borrow.Author.Tests.{ltb-true, eqb-false, eq-eqb, not-true}
use lib.Dec.{eqb, ltb}
use lib.ListN.{length}
use Rattle.geometry.specs.declared.bounds.Options.{Options}
use Rattle.geometry.specs.Bounds.{spacing}
use Rattle.mesh.specs.declared.element.Pair.{Pair}
use Rattle.mesh.specs.Complex.{mem}
use Rattle.mesh.specs.Tests.{every}
use Rattle.mesh.specs.Measure.{Measure}
use Rattle.mesh.proofs.Laws.Complex.Sets.{split, nope, clash, or_left, or_right, and-fst, and-snd}
use Rattle.repair.specs.Mesh.{Mesh}
use Rattle.repair.specs.Improve.{State, listed_edges, may_go, go, try_edge, try_edges, round, rounds}
use Rattle.repair.proofs.Laws.Improve.Edges.{joins}

-- what holds of a trial of a into b that succeeds
pub record Tried (o : Options) (m : Mesh) (μ : Measure) (s : State) (a b : ℕ) : Type 0 where
  pub first-there : mem a s.replaced ≡ false
  pub second-there : mem b s.replaced ≡ false
  pub may : may_go o m μ s a b ≡ true

-- two different vertices below n
pub record Joined (n a b : ℕ) : Type 0 where
  pub first : a < n
  pub second : b < n
  pub differ : a ≢ b

pub joined : (n : ℕ) (e : Pair) → joins n e ≡ true → Joined n e.a e.b
joined n e j =
    let k = and-snd (ltb e.a n) (ltb e.b n && not (eqb e.a e.b)) j in
    record {
      first = ltb-true e.a n (and-fst (ltb e.a n) (ltb e.b n && not (eqb e.a e.b)) j);
      second = ltb-true e.b n (and-fst (ltb e.b n) (not (eqb e.a e.b)) k);
      differ = eqb-false e.a e.b (not-true (eqb e.a e.b) (and-snd (ltb e.b n) (not (eqb e.a e.b)) k));
    }

pub joined_back : (n a b : ℕ) → Joined n a b → Joined n b a
joined_back n a b j = record { first = j.second; second = j.first; differ = λ e. j.differ (sym e) }

-- for edges that pass a test, `Ends` being what the test says of their ends in either order
module _ (o : Options) (m : Mesh) (μ : Measure) (test : Pair → Bool) (Ends : ℕ → ℕ → Type 0) (ends : (e : Pair) → test e ≡ true → Ends e.a e.b × Ends e.b e.a) (Q : State → Type 0) (keeps : (s : State) (a b : ℕ) → Ends a b → Tried o m μ s a b → Q s → Q (go o m μ s a b)) where
  pub try_edge-keeps : (s : State) (e : Pair) → test e ≡ true → Q s → Q (try_edge o m μ s e)
  unfolding try_edge
  try_edge-keeps s e j q =
      let A = mem e.a s.replaced in
      let B = mem e.b s.replaced in
      elim (split (A || B)) [
        | inl h ↦ rw h q
        | inr h ↦
            let na : A ≡ false = nope (λ z. clash (or_left B z) h) in
            let nb : B ≡ false = nope (λ z. clash (or_right A z) h) in
            rw h
            (elim (split (may_go o m μ s e.a e.b)) [
              | inl f ↦ rw f (keeps s e.a e.b (ends e j).0 (record { first-there = na; second-there = nb; may = f }) q)
              | inr f ↦
                  rw f
                  (elim (split (may_go o m μ s e.b e.a)) [
                    | inl g ↦ rw g (keeps s e.b e.a (ends e j).1 (record { first-there = nb; second-there = na; may = g }) q)
                    | inr g ↦ rw g q
                  ])
            ])
      ]

  pub try_edges-keeps : (es : List Pair) (s : State) → every test es ≡ true → Q s → Q (try_edges o m μ s es)
  unfolding try_edges
  try_edges-keeps [] s j q = q
  try_edges-keeps (e ∷ es) s j q =
      try_edges-keeps es (try_edge o m μ s e) (and-snd (test e) (every test es) j) (try_edge-keeps s e (and-fst (test e) (every test es) j) q)

  pub rounds-keep : ((s : State) → Q s → every test (listed_edges μ (spacing o) s.elements) ≡ true) → (k : ℕ) (s : State) → Q s → Q (rounds o m μ k s)
  unfolding rounds
  rounds-keep j zero s q = q
  rounds-keep j (suc k) s q =
      elim (split (eqb (length (round o m μ s).replaced) (length s.replaced))) [
        | inl h ↦ rw h q
        | inr h ↦ rw h (rounds-keep j k (round o m μ s) (try_edges-keeps (listed_edges μ (spacing o) s.elements) s (j s q) q))
      ]

-- the same of any edges
module _ (o : Options) (m : Mesh) (μ : Measure) (Q : State → Type 0) (keeps : (s : State) (a b : ℕ) → Tried o m μ s a b → Q s → Q (go o m μ s a b)) where
  every_any : (es : List Pair) → every (λ e. true) es ≡ true
  every_any [] = refl
  every_any (e ∷ es) = every_any es

  pub try_edge-always : (s : State) (e : Pair) → Q s → Q (try_edge o m μ s e)
  try_edge-always s e q = try_edge-keeps o m μ (λ e. true) (λ a b. Unit {0}) (λ e h. (tt, tt)) Q (λ s a b j. keeps s a b) s e refl q

  pub try_edges-always : (es : List Pair) (s : State) → Q s → Q (try_edges o m μ s es)
  try_edges-always es s q = try_edges-keeps o m μ (λ e. true) (λ a b. Unit {0}) (λ e h. (tt, tt)) Q (λ s a b j. keeps s a b) es s (every_any es) q

  pub rounds-always : (k : ℕ) (s : State) → Q s → Q (rounds o m μ k s)
  rounds-always k s q = rounds-keep o m μ (λ e. true) (λ a b. Unit {0}) (λ e h. (tt, tt)) Q (λ s a b j. keeps s a b) (λ t r. every_any (listed_edges μ (spacing o) t.elements)) k s q

-- a round that collapses nothing ends the rounds
pub rounds-end : (o : Options) (m : Mesh) (μ : Measure) (k : ℕ) (s : State) → length (round o m μ s).replaced ≡ length s.replaced → rounds o m μ k s ≡ s
unfolding rounds
rounds-end o m μ zero s h = refl
rounds-end o m μ (suc k) s h = rw (eq-eqb (length (round o m μ s).replaced) (length s.replaced) h) refl
