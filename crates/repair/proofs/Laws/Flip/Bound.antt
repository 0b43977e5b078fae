-- How many slots a pass of `flip` takes: two-to-three takes two elements of the start each time, and three-to-two one live element more than
-- it makes, so that six slots an element are enough. Assumes nothing.
use mathlib.Core.Path.{◌≡◌, refl, sym, ap, ◌∙◌}
use mathlib.Core.Logic.{◌≢◌}
use mathlib.Core.List.{List, [], ◌∷◌, ◌++◌, map}
use mathlib.Core.Option.{Option, none, some}
use Prim.Native.Nat.{ℕ, zero, suc, ◌+◌, ◌*◌, ◌≤◌, ◌<◌}
use native.Mathlib.Omega.{arith}
use lib.ListN.{length, get_or, set, take, length-append, length-set}
use lib.Seq.{get_or-set_other, take-append-le, take-set-lt, get_or-take}
use Rattle.mesh.specs.declared.element.Tet.{Tet}
use Rattle.mesh.proofs.Laws.Boundary.Same.{length-map}
use Rattle.repair.specs.Flip.{live, emptied}
use Rattle.repair.specs.inside.flip.Layout.{FacesBound, EdgesBound}
use Rattle.repair.proofs.Laws.Flip.Slots.{none-some, live-append, live-some}

-- ---- one slot emptied

-- a live slot emptied is one live element less
live-set : (ss : List (Option Tet)) (i : ℕ) (t : Tet) → get_or ss i none ≡ some t → length (live ss) ≡ length (live (set ss i none)) + 1
unfolding live
live-set [] i t h = absurd (none-some h)
live-set (none ∷ ss) zero t h = absurd (none-some h)
live-set (some u ∷ ss) zero t h = omega arith
live-set (none ∷ ss) (suc i) t h = live-set ss i t h
live-set (some u ∷ ss) (suc i) t h = let r = live-set ss i t h in omega arith

front-set : (n : ℕ) (ss : List (Option Tet)) (i : ℕ) (t : Tet) → i < n → get_or ss i none ≡ some t → length (live (take n ss)) ≡ length (live (take n (set ss i none))) + 1
front-set n ss i t g h = live-set (take n ss) i t (get_or-take n ss i none g ∙ h) ∙ ap (λ (l : List (Option Tet)). length (live l) + 1) (sym (take-set-lt n ss i none g))

live_more : (ss : List (Option Tet)) (new : List Tet) → length (live (ss ++ map some new)) ≡ length (live ss) + length new
live_more ss new = ap length (live-append ss (map some new)) ∙ length-append (live ss) (live (map some new)) ∙ ap (λ (l : List Tet). length (live ss) + length l) (live-some new)

slots-more : (ss : List (Option Tet)) (new : List Tet) → length (ss ++ map some new) ≡ length ss + length new
slots-more ss new = length-append ss (map some new) ∙ ap (λ (k : ℕ). length ss + k) (length-map some new)

-- ---- while faces are tried

pub faces-start : (ts : List Tet) → FacesBound (length ts) (map some ts)
faces-start ts =
    let a = length-map some ts in
    let b = ap length (live-some ts) in
    let c = ap (λ (l : List (Option Tet)). length (live l)) (whole (map some ts) (length ts) a) in
    record { many = omega arith; slots = omega arith; live = omega arith }
  where
    whole : (ss : List (Option Tet)) (n : ℕ) → length ss ≡ n → take n ss ≡ ss
    whole [] zero h = refl
    whole [] (suc n) h = refl
    whole (x ∷ ss) zero h = absurd (omega arith)
    whole (x ∷ ss) (suc n) h = ap (λ l. x ∷ l) (whole ss n (omega arith))

module _ (n : ℕ) (ss : List (Option Tet)) (b : FacesBound n ss) (i j : ℕ) (ij : j ≢ i) (hi : i < n) (hj : j < n) (t u : Tet) (ti : get_or ss i none ≡ some t) (uj : get_or ss j none ≡ some u) where
  abbrev one : List (Option Tet)
  one = set ss i none

  abbrev two : List (Option Tet)
  two = set one j none

  uj₁ : get_or one j none ≡ some u
  uj₁ = get_or-set_other ss i j none none ij ∙ uj

  -- three more have room
  pub faces-room : length ss + 3 ≤ 6 * n
  faces-room =
      let p = b.slots in
      let q = front-set n ss i t hi ti in
      let r = front-set n one j u hj uj₁ in
      omega arith

  -- two elements of the start are replaced by three
  pub faces-turn : (new : List Tet) → length new ≡ 3 → FacesBound n (emptied (i ∷ j ∷ []) ss ++ map some new)
  unfolding emptied
  faces-turn new e =
      let l₁ = length-set ss i none in
      let l₂ = length-set one j none in
      let m = slots-more two new in
      let v = live_more two new in
      let a₁ = live-set ss i t ti in
      let a₂ = live-set one j u uj₁ in
      let f₁ = front-set n ss i t hi ti in
      let f₂ = front-set n one j u hj uj₁ in
      let h = b.many in
      let g = ap (λ (l : List (Option Tet)). length (live l)) (take-append-le n two (map some new) (omega arith)) in
      let p = b.slots in
      let q = b.live in
      record { many = omega arith; slots = omega arith; live = omega arith }

-- ---- while edges are tried

pub faces-edges : (n : ℕ) (ss : List (Option Tet)) → FacesBound n ss → EdgesBound n ss
faces-edges n ss b = let p = b.slots in let q = b.live in omega arith

module _ (n : ℕ) (ss : List (Option Tet)) (b : EdgesBound n ss) (i j k : ℕ) (ij : j ≢ i) (ik : k ≢ i) (jk : k ≢ j) (t u v : Tet) (ti : get_or ss i none ≡ some t) (uj : get_or ss j none ≡ some u) (vk : get_or ss k none ≡ some v) where
  abbrev first : List (Option Tet)
  first = set ss i none

  abbrev second : List (Option Tet)
  second = set first j none

  abbrev third : List (Option Tet)
  third = set second k none

  fewer₁ : length (live ss) ≡ length (live first) + 1
  fewer₁ = live-set ss i t ti

  fewer₂ : length (live first) ≡ length (live second) + 1
  fewer₂ = live-set first j u (get_or-set_other ss i j none none ij ∙ uj)

  fewer₃ : length (live second) ≡ length (live third) + 1
  fewer₃ = live-set second k v (get_or-set_other first j k none none jk ∙ get_or-set_other ss i k none none ik ∙ vk)

  -- two more have room
  pub edges_room : length ss + 2 ≤ 6 * n
  edges_room = let a = fewer₁ in let c = fewer₂ in let d = fewer₃ in omega arith

  -- three live elements are replaced by two
  pub edges-turn : (new : List Tet) → length new ≡ 2 → EdgesBound n (emptied (i ∷ j ∷ k ∷ []) ss ++ map some new)
  unfolding emptied
  edges-turn new e =
      let l₁ = length-set ss i none in
      let l₂ = length-set first j none in
      let l₃ = length-set second k none in
      let m = slots-more third new in
      let w = live_more third new in
      let a = fewer₁ in let c = fewer₂ in let d = fewer₃ in
      omega arith
