-- Elements read and measured one after the other: a loop that counts bad ones and keeps the lowest score. Assumes nothing.
use mathlib.Core.Path.{◌≡◌, refl, sym, ap, ap₂, ◌∙◌}
use mathlib.Core.Logic.{inl, inr}
use mathlib.Core.List.{List, [], ◌∷◌, map}
use Prim.Native.Nat.{ℕ, zero, suc, ◌+◌, ◌-◌, ◌*◌, ◌≤◌, ◌<◌}
use native.Mathlib.Nat.{add-zero, not-suc-le-zero}
use native.Mathlib.Omega.{arith}
use lib.Ieee.{Float}
use lib.ListN.{drop}
use lib.Seq.{get_or-drop, drop-drop}
use Rattle.geometry.specs.Score.{bad, lowest, lowest_from}
use Rattle.mesh.specs.declared.element.Tet.{Tet}
use Rattle.mesh.specs.Words.{word_at}
use Rattle.mesh.specs.Element.{tet, tets}
use Rattle.mesh.specs.Measure.{Measure, bad_count, lowest_of}
use Rattle.mesh.proofs.Laws.Bools.{split}
use Rattle.repair.specs.declared.quality.Tally.{Tally}
use Rattle.repair.specs.inside.Quality.{started, counted, tallied}

-- the element whose four words begin at p
abbrev pub element_at : List ℕ → ℕ → Tet
element_at w p = tet (word_at w p) (word_at w (p + 1)) (word_at w (p + 2)) (word_at w (p + 3))

-- the first of the n elements at p
pub tets-next : (n p : ℕ) (w : List ℕ) → 0 < n → tets n (drop p w) ≡ element_at w p ∷ tets (n - 1) (drop (p + 4) w)
unfolding tets
tets-next zero p w h = absurd (not-suc-le-zero h)
tets-next (suc n) p w h =
    let e : suc n - 1 ≡ n = omega arith in
    rw (e, get_or-drop p w 0 0, add-zero p, get_or-drop p w 1 0, get_or-drop p w 2 0, get_or-drop p w 3 0, drop-drop 4 p w) refl

pub tets-none : (n p : ℕ) (w : List ℕ) → n ≤ 0 → tets n (drop p w) ≡ []
unfolding tets
tets-none zero p w h = refl
tets-none (suc n) p w h = absurd (not-suc-le-zero h)

-- the first of those from the i-th on
pub tets-from : (n p i : ℕ) (w : List ℕ) → i < n → tets (n - i) (drop (p + 4 * i) w) ≡ element_at w (p + 4 * i) ∷ tets (n - (i + 1)) (drop (p + 4 * (i + 1)) w)
tets-from n p i w h =
    let e : n - i - 1 ≡ n - (i + 1) = omega arith in
    let f : p + 4 * i + 4 ≡ p + 4 * (i + 1) = omega arith in
    tets-next (n - i) (p + 4 * i) w (omega arith) ∙ ap₂ (λ (k q : ℕ). element_at w (p + 4 * i) ∷ tets k (drop q w)) e f

-- a count grows by at most one
pub counted-few : (r : Tally) (s : Float) → (counted r s).bad ≤ r.bad + 1
unfolding counted
counted-few r s = elim (split (bad s)) [ inl e ↦ rw e (omega arith) | inr e ↦ rw e (omega arith) ]

-- one more in what is counted and what is left
pub counted-bad : (μ : Measure) (r : Tally) (t : Tet) (ts : List Tet) → (counted r (μ.score t)).bad + bad_count μ ts ≡ r.bad + bad_count μ (t ∷ ts)
unfolding counted
counted-bad μ r t ts = elim (split (bad (μ.score t))) [ inl e ↦ rw e (omega arith) | inr e ↦ rw e refl ]

module _ (μ : Measure) where
  lowest-is : (r : Tally) (ts : List Tet) → (tallied μ r ts).lowest ≡ lowest_from r.lowest (map μ.score ts)
  unfolding tallied counted lowest_from
  lowest-is r [] = refl
  lowest-is r (t ∷ ts) = lowest-is (counted r (μ.score t)) ts

  bad-is : (r : Tally) (ts : List Tet) → (tallied μ r ts).bad ≡ r.bad + bad_count μ ts
  unfolding tallied
  bad-is r [] = sym (add-zero r.bad)
  bad-is r (t ∷ ts) = bad-is (counted r (μ.score t)) ts ∙ counted-bad μ r t ts

  -- what is counted
  pub tallied-lowest : (ts : List Tet) → (tallied μ started ts).lowest ≡ lowest_of μ ts
  unfolding lowest
  tallied-lowest ts = lowest-is started ts

  pub tallied-bad : (ts : List Tet) → (tallied μ started ts).bad ≡ bad_count μ ts
  tallied-bad ts = bad-is started ts ∙ (let e : 0 + bad_count μ ts ≡ bad_count μ ts = omega arith in e)

  -- ---- the loop

  -- with the elements from the i-th on r counts all
  pub record Tallying (w : List ℕ) (p n : ℕ) (r : Tally) (i : ℕ) : Type 0 where
    pub few : r.bad ≤ i
    pub is : tallied μ r (tets (n - i) (drop (p + 4 * i) w)) ≡ tallied μ started (tets n (drop p w))

  module _ {w : List ℕ} {p n i : ℕ} {r : Tally} (g : Tallying w p n r i) where
    pub tally-turn : i < n → (t : Tet) → t ≡ element_at w (p + 4 * i) → (r' : Tally) → r' ≡ counted r (μ.score t) → Tallying w p n r' (i + 1)
    unfolding tallied
    tally-turn h t e r' f = record {
      few = let a = g.few in omega (arith, ap (λ (u : Tally). u.bad) f, counted-few r (μ.score t));
      is =
          ap (λ (u : Tally). tallied μ u (tets (n - (i + 1)) (drop (p + 4 * (i + 1)) w))) (f ∙ ap (λ (u : Tet). counted r (μ.score u)) e)
          ∙ sym (ap (tallied μ r) (tets-from n p i w h)) ∙ g.is;
    }

    pub tally-end : n ≤ i → r ≡ tallied μ started (tets n (drop p w))
    unfolding tallied
    tally-end h = sym (ap (tallied μ r) (tets-none (n - i) (p + 4 * i) w (omega arith))) ∙ g.is
