-- Values of listed vertices, gathered one by one and put over the first of their buffer. Assumes nothing.
use mathlib.Core.Path.{◌≡◌, refl, sym, ap, ap₂, ◌∙◌}
use mathlib.Core.List.{List, [], ◌∷◌, ◌++◌, map, append_assoc, append-nil}
use Prim.Native.Nat.{ℕ, suc, ◌+◌, ◌*◌, ◌≤◌, ◌<◌}
use native.Mathlib.Numerals.{add-one}
use native.Mathlib.Omega.{arith}
use borrow.Author.Tests.{le-leb}
use lib.Ieee.{Float}
use lib.ListN.{length, take, drop, set, get_or, length-drop}
use lib.Seq.{take_all, take-suc, take-suc-set, length-take-le}
use Rattle.std.proofs.Math.Nat.{mul-le-mul_left}
use Rattle.geometry.specs.Float.{zero64}
use Rattle.mesh.specs.Words.{word_at, inside, copied, point_in}
use Rattle.repair.specs.Step.{floats_of, over}
use Rattle.repair.specs.inside.improve.Renumber.{values_from, values_of, moved_points, moved_masks}

-- ---- a copy over the front

pub copied-over : {A : Type 0} (x d w : List A) (i n : ℕ) → i + n ≤ length x → n ≤ length d → take n (drop i x) ≡ w → copied x i d 0 n ≡ over w d
unfolding copied inside
copied-over {A} x d w i n h k e =
    let g : 0 + n ≡ length w = omega (arith, length-take-le n (drop i x) (omega (arith, length-drop i x)), ap length e) in
    rw (le-leb (i + n) (length x) h, le-leb (0 + n) (length d) (omega arith)) (ap₂ (λ (u : List A) (j : ℕ). u ++ drop j d) e g)

-- ---- values

module _ {A : Type 0} (z : A) (s : List A) where
  -- one more
  pub from-turn : (i k w j : ℕ) (l₀ l : List A) → j < w → i + w ≤ length l → take (i + j) l ≡ take i l₀ ++ values_from z s k j → {x : A} → x ≡ get_or s (k + j) z
      → {l' : List A} → l' ≡ set l (i + j) x → take (i + (j + 1)) l' ≡ take i l₀ ++ values_from z s k (j + 1)
  from-turn i k w j l₀ l h b e {x} ex f =
      let n : i + (j + 1) ≡ suc (i + j) = omega arith in
      ap₂ (λ (m : ℕ) (u : List A). take m u) n f
      ∙ take-suc-set l (i + j) x (omega arith)
      ∙ ap₂ (λ (u : List A) (y : A). u ++ (y ∷ [])) e ex
      ∙ append_assoc (take i l₀) (values_from z s k j) (get_or s (k + j) z ∷ [])
      ∙ ap (λ (m : ℕ). take i l₀ ++ values_from z s k m) (sym (add-one j))

  of-snoc : (w : ℕ) (vs : List ℕ) (v : ℕ) → values_of z s w (vs ++ (v ∷ [])) ≡ values_of z s w vs ++ values_from z s (w * v) w
  of-snoc w [] v = append-nil (values_from z s (w * v) w)
  of-snoc w (u ∷ vs) v =
      ap (λ (l : List A). values_from z s (w * u) w ++ l) (of-snoc w vs v) ∙ sym (append_assoc (values_from z s (w * u) w) (values_of z s w vs) (values_from z s (w * v) w))

  -- the values of the first i vertices are listed
  pub record Gathered (w : ℕ) (vs : List ℕ) (l₀ : List A) (i : ℕ) (l : List A) : Type 0 where
    pub far : i ≤ length vs
    pub long : length l ≡ length l₀
    pub done : take (w * i) l ≡ values_of z s w (take i vs)

  pub gathered-start : (w : ℕ) (vs : List ℕ) (l : List A) → Gathered w vs l 0 l
  gathered-start w vs l = let e : w * 0 ≡ 0 = omega arith in record { far = omega arith; long = refl; done = rw e refl }

  -- the place of the next ones is inside the list
  pub next-inside : (w i : ℕ) (vs : List ℕ) (m : ℕ) → w * length vs ≤ m → i < length vs → w * i + w ≤ m
  next-inside w i vs m b h =
      let g : w * (i + 1) ≤ w * length vs = mul-le-mul_left w (omega arith) in
      let e : w * (i + 1) ≡ w * i + w = omega arith in
      omega arith

  module _ {w : ℕ} {vs : List ℕ} {l₀ : List A} {i : ℕ} {l : List A} (G : Gathered w vs l₀ i l) where
    pub gathered-turn : i < length vs → (d : ℕ) {l' : List A} → length l' ≡ length l → take (w * i + w) l' ≡ take (w * i) l ++ values_from z s (w * get_or vs i d) w
        → Gathered w vs l₀ (i + 1) l'
    gathered-turn h d {l'} k e =
        let n : w * (i + 1) ≡ w * i + w = omega arith in
        record {
          far = omega arith;
          long = k ∙ G.long;
          done =
              ap (λ (m : ℕ). take m l') n ∙ e ∙ ap (λ (u : List A). u ++ values_from z s (w * get_or vs i d) w) G.done
              ∙ sym (of-snoc w (take i vs) (get_or vs i d))
              ∙ ap (values_of z s w) (sym (take-suc vs i d h) ∙ ap (λ (m : ℕ). take m vs) (sym (add-one i)));
        }

    pub gathered-end : length vs ≤ i → take (w * length vs) l ≡ values_of z s w vs
    gathered-end h =
        let e : i ≡ length vs = (let a = G.far in omega arith) in
        ap (λ (m : ℕ). take (w * m) l) (sym e) ∙ G.done ∙ ap (values_of z s w) (take_all i vs h)

-- ---- points and masks

points-are : (s : List Float) (vs : List ℕ) → values_of zero64 s 3 vs ≡ floats_of (map (point_in s) vs)
unfolding floats_of point_in
points-are s [] = refl
points-are s (v ∷ vs) =
    let e : 3 * v + 0 ≡ 3 * v = omega arith in
    λ t. get_or s (e t) zero64 ∷ get_or s (3 * v + 1) zero64 ∷ get_or s (3 * v + 2) zero64 ∷ points-are s vs t

masks-are : (s vs : List ℕ) → values_of 0 s 1 vs ≡ map (word_at s) vs
masks-are s [] = refl
masks-are s (v ∷ vs) =
    let e : 1 * v + 0 ≡ v = omega arith in
    λ t. get_or s (e t) 0 ∷ masks-are s vs t

pub points-moved : (vs : List ℕ) (s : List Float) {t : List Float} → t ≡ over (values_of zero64 s 3 vs) s → t ≡ moved_points vs s
points-moved vs s h = h ∙ ap (λ (l : List Float). over l s) (points-are s vs)

pub masks-moved : (vs s : List ℕ) {t : List ℕ} → t ≡ over (values_of 0 s 1 vs) s → t ≡ moved_masks vs s
masks-moved vs s h = h ∙ ap (λ (l : List ℕ). over l s) (masks-are s vs)
