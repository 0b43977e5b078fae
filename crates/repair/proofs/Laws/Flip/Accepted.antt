-- The elements of a flip oriented, measured and compared. Assumes nothing.
use mathlib.Core.Path.{◌≡◌, refl, sym, ap, ap₂, ◌∙◌}
use mathlib.Core.Logic.{◌⊎◌, ⊎_elim}
use mathlib.Core.Bool.{Bool, true, false}
use mathlib.Core.List.{List, [], ◌∷◌, map}
use Prim.Native.Nat.{ℕ, suc, ◌+◌, ◌≤◌, ◌<◌}
use native.Mathlib.Omega.{arith}
use borrow.Author.Tests.{le-leb, lt-leb}
use lib.Dec.{leb}
use lib.ListN.{length, get_or, drop, drop_of_length-le}
use lib.Seq.{drop-cons}
use lib.Ieee.{Float, lt}
use Rattle.std.specs.List.{fold}
use Rattle.geometry.specs.Float.{◌+₆₄◌, total_from}
use Rattle.geometry.specs.Literals.{e_10}
use Rattle.mesh.specs.declared.element.Tet.{Tet}
use Rattle.mesh.specs.Tests.{every}
use Rattle.mesh.specs.Measure.{Measure, bad_count, lowest_of}
use Rattle.mesh.proofs.Laws.Complex.Sets.{clash}
use Rattle.repair.specs.declared.quality.Tally.{Tally}
use Rattle.repair.specs.Flip.{accepted}
use Rattle.repair.specs.inside.Quality.{started, counted, tallied}
use Rattle.repair.proofs.Laws.Gain.Tallies.{counted-few, tallied-lowest, tallied-bad}

-- ---- the tally

-- once i elements of ts are counted, r and those that are left make the tally of all
pub record Counting (μ : Measure) (ts : List Tet) (r : Tally) (i : ℕ) : Type 0 where
  pub few : r.bad ≤ i
  pub is : tallied μ r (drop i ts) ≡ tallied μ started ts

module _ (μ : Measure) (ts : List Tet) where
  module _ {r : Tally} {i : ℕ} (k : Counting μ ts r i) where
    pub counting-turn : (d : Tet) → i < length ts → (s : Float) → s ≡ μ.score (get_or ts i d) → (q : Tally) → q ≡ counted r s → Counting μ ts q (i + 1)
    unfolding tallied
    counting-turn d h s e q f = record {
      few = let a = k.few in omega (arith, ap (λ (u : Tally). u.bad) f, counted-few r s);
      is =
          let n : i + 1 ≡ suc i = omega arith in
          ap₂ (λ (u : Tally) (j : ℕ). tallied μ u (drop j ts)) f n ∙ ap (λ (z : Float). tallied μ (counted r z) (drop (suc i) ts)) e
          ∙ sym (ap (tallied μ r) (drop-cons ts i d h)) ∙ k.is;
    }

    pub counting-end : length ts ≤ i → r ≡ tallied μ started ts
    unfolding tallied
    counting-end h = sym (ap (tallied μ r) (drop_of_length-le ts h)) ∙ k.is

-- ---- the volume

-- a sum by `fold`
pub fold-total : (g : Tet → Float) (s : Float) (ts : List Tet) → fold (λ a t. a +₆₄ g t) s ts ≡ total_from s (map g ts)
unfolding total_from
fold-total g s [] = refl
fold-total g s (t ∷ ts) = fold-total g (s +₆₄ g t) ts

-- ---- all tests

module _ (μ : Measure) (old new : List Tet) (b : Bool) (eb : b ≡ every μ.above new) where
  module _ (hb : b ≡ true) (m n : Tally) (em : m ≡ tallied μ started old) (en : n ≡ tallied μ started new) where
    low : m.lowest ≡ lowest_of μ old
    low = ap (λ (y : Tally). y.lowest) em ∙ tallied-lowest μ old

    lowest : n.lowest ≡ lowest_of μ new
    lowest = ap (λ (y : Tally). y.lowest) en ∙ tallied-lowest μ new

    higher : {v : Bool} → lt (m.lowest +₆₄ e_10) n.lowest ≡ v → lt (lowest_of μ old +₆₄ e_10) (lowest_of μ new) ≡ v
    higher h = rw (sym low, sym lowest) h

    pub accepted-low : lt (m.lowest +₆₄ e_10) n.lowest ≡ false → false ≡ accepted μ old new
    accepted-low h = sym (rw (sym eb ∙ hb, higher h) refl)

    module _ (h : lt (m.lowest +₆₄ e_10) n.lowest ≡ true) where
      fewer : m.bad ≡ bad_count μ old
      fewer = ap (λ (y : Tally). y.bad) em ∙ tallied-bad μ old

      many : n.bad ≡ bad_count μ new
      many = ap (λ (y : Tally). y.bad) en ∙ tallied-bad μ new

      accepted-bad : m.bad < n.bad → false ≡ accepted μ old new
      accepted-bad g =
          let e : leb (bad_count μ new) (bad_count μ old) ≡ false = lt-leb (bad_count μ new) (bad_count μ old) (omega (arith, fewer, many)) in
          sym (rw (sym eb ∙ hb, higher h, e) refl)

      -- the same for a test that came out as the last one did
      pub accepted-more : (t : Bool) → t ≡ leb n.bad m.bad → ((lt (m.lowest +₆₄ e_10) n.lowest ≡ true) × (m.bad < n.bad)) ⊎ (lt (m.lowest +₆₄ e_10) n.lowest ≡ false) → t ≡ accepted μ old new
      accepted-more t e x = ⊎_elim (λ g. e ∙ lt-leb n.bad m.bad g.1 ∙ accepted-bad g.1) (λ z. absurd (clash h z)) x

      pub accepted-volume : n.bad ≤ m.bad → (v : Bool) → v ≡ μ.same_volume old new → v ≡ accepted μ old new
      accepted-volume g v ev =
          let e : leb (bad_count μ new) (bad_count μ old) ≡ true = le-leb (bad_count μ new) (bad_count μ old) (omega (arith, fewer, many)) in
          ev ∙ sym (rw (sym eb ∙ hb, higher h, e) refl)
