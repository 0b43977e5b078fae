-- Rows written one behind the other into an area, from a place on. Assumes nothing.
use Rattle.std.proofs.Common.{◌≡◌, ℕ, zero, suc, ◌+◌, ◌*◌, ◌≤◌, List, [], ◌∷◌, ◌++◌, map, length, take, drop, sym, refl, ap, ◌∙◌, ap₂, append_assoc, append-nil, add-one, arith, length-append, length-drop, take-append-drop, length-take-le, take_all, drop-drop, take_at, drop_at}
use mathlib.Core.List.{map-append}
use lib.Seq.{paste}
use Rattle.mesh.specs.inside.Rows.{rows}
use Rattle.mesh.specs.Words.{numbers, flat}
use Rattle.mesh.proofs.Laws.NumbersFrom.{numbers_more}
use Rattle.mesh.proofs.Laws.Rows.{Shape, none, more, rows-flat, length-flat}
use Rattle.mesh.specs.inside.Manifold.{filled, KeptBelow}

pub flat_append : (a b : List (List ℕ)) → flat (a ++ b) ≡ flat a ++ flat b
unfolding flat
flat_append [] b = refl
flat_append (r ∷ a) b = ap (λ (l : List ℕ). r ++ l) (flat_append a b) ∙ sym (append_assoc r (flat a) (flat b))

module _ (row : ℕ → List ℕ) (w : ℕ) (size : (j : ℕ) → length (row j) ≡ w) where
  pub shape-numbered : (k n : ℕ) → Shape w n (map row (numbers k n))
  unfolding numbers
  shape-numbered k zero = none
  shape-numbered k (suc n) = more (size k) (shape-numbered (k + 1) n)

  words : (n : ℕ) → length (flat (map row (numbers 0 n))) ≡ w * n
  words n = length-flat (shape-numbered 0 n) ∙ (let e : n * w ≡ w * n = omega arith in e)

  words_more : (n : ℕ) → flat (map row (numbers 0 (n + 1))) ≡ flat (map row (numbers 0 n)) ++ row n
  unfolding flat
  words_more n =
      let e : 0 + n ≡ n = omega arith in
      ap (λ (u : ℕ). flat (map row (numbers 0 u))) (add-one n)
      ∙ ap (λ (l : List ℕ). flat (map row l)) (numbers_more 0 n ∙ ap (λ (u : ℕ). numbers 0 n ++ (u ∷ [])) e)
      ∙ ap flat (map-append row (numbers 0 n) (n ∷ []))
      ∙ flat_append (map row (numbers 0 n)) (row n ∷ [])
      ∙ ap (λ (l : List ℕ). flat (map row (numbers 0 n)) ++ l) (append-nil (row n))

  module _ (b : ℕ) (s₀ : List ℕ) (inside : b ≤ length s₀) where
    pub fill_start : s₀ ≡ filled row w b 0 s₀
    unfolding filled flat numbers
    fill_start = let e : b ≡ b + w * 0 = omega arith in sym (take-append-drop b s₀) ∙ ap (λ (u : ℕ). take b s₀ ++ drop u s₀) e

    front : length (take b s₀) ≡ b
    front = length-take-le b s₀ inside

    -- what stands below is kept
    pub fill-front : (n : ℕ) → take b (filled row w b n s₀) ≡ take b s₀
    unfolding filled
    fill-front n = take_at (take b s₀) (flat (map row (numbers 0 n)) ++ drop (b + w * n) s₀) b front

    -- the rows, and what stood behind them
    fill-behind : (n : ℕ) → drop b (filled row w b n s₀) ≡ flat (map row (numbers 0 n)) ++ drop (b + w * n) s₀
    unfolding filled
    fill-behind n = drop_at (take b s₀) (flat (map row (numbers 0 n)) ++ drop (b + w * n) s₀) b front

    fill-rows : (n : ℕ) → rows w n (drop b (filled row w b n s₀)) ≡ map row (numbers 0 n)
    fill-rows n = ap (rows w n) (fill-behind n) ∙ rows-flat (shape-numbered 0 n) (drop (b + w * n) s₀)

    fill-long : (n : ℕ) → b + w * n ≤ length s₀ → length (filled row w b n s₀) ≡ length s₀
    unfolding filled
    fill-long n h =
        let d = drop (b + w * n) s₀ in
        let x = flat (map row (numbers 0 n)) in
        omega (arith, length-append (take b s₀) (x ++ d), length-append x d, front, words n, length-drop (b + w * n) s₀)

    -- one more row
    pub fill-turn : (n : ℕ) (s s' r : List ℕ) → b + w * (n + 1) ≤ length s₀ → s ≡ filled row w b n s₀ → r ≡ row n → s' ≡ paste s (b + w * n) r w
        → s' ≡ filled row w b (n + 1) s₀
    unfolding filled
    fill-turn n s s' r h e f p =
        let x = flat (map row (numbers 0 n)) in
        let d = drop (b + w * n) s₀ in
        let g : s ≡ (take b s₀ ++ x) ++ d = e ∙ sym (append_assoc (take b s₀) x d) in
        let l : length (take b s₀ ++ x) ≡ b + w * n = length-append (take b s₀) x ∙ ap₂ (λ (u v : ℕ). u + v) front (words n) in
        let head : take (b + w * n) s ≡ take b s₀ ++ x = ap (take (b + w * n)) g ∙ take_at (take b s₀ ++ x) d (b + w * n) l in
        let k : b + w * n + w ≡ b + w * (n + 1) = omega arith in
        let tail : drop (b + w * n + w) s ≡ drop (b + w * (n + 1)) s₀ =
        sym (drop-drop w (b + w * n) s) ∙ ap (drop w) (ap (drop (b + w * n)) g ∙ drop_at (take b s₀ ++ x) d (b + w * n) l)
        ∙ drop-drop w (b + w * n) s₀ ∙ ap (λ (u : ℕ). drop u s₀) k in
        let mid : take w r ≡ row n = ap (take w) f ∙ take_all w (row n) (omega (arith, size n)) in
        p
        ∙ ap₂ (λ (u v : List ℕ). u ++ v) (ap₂ (λ (u v : List ℕ). u ++ v) head mid ∙ append_assoc (take b s₀) x (row n)) tail
        ∙ append_assoc (take b s₀) (x ++ row n) (drop (b + w * (n + 1)) s₀)
        ∙ ap (λ (u : List ℕ). take b s₀ ++ (u ++ drop (b + w * (n + 1)) s₀)) (sym (words_more n))

    -- what stood behind the rows is kept too
    fill-rest : (n : ℕ) → drop (b + w * n) (filled row w b n s₀) ≡ drop (b + w * n) s₀
    unfolding filled
    fill-rest n =
        let x = flat (map row (numbers 0 n)) in
        let d = drop (b + w * n) s₀ in
        let l : length (take b s₀ ++ x) ≡ b + w * n = length-append (take b s₀) x ∙ ap₂ (λ (u v : ℕ). u + v) front (words n) in
        ap (drop (b + w * n)) (sym (append_assoc (take b s₀) x d)) ∙ drop_at (take b s₀ ++ x) d (b + w * n) l

    -- the area with the rows written
    pub fill-kept : (n : ℕ) (s : List ℕ) → b + w * n ≤ length s₀ → s ≡ filled row w b n s₀ → KeptBelow b s₀ s
    fill-kept n s h e = record { front = ap (take b) e ∙ fill-front n; long = ap length e ∙ fill-long n h }

    pub filled-rows : (n : ℕ) (s : List ℕ) → s ≡ filled row w b n s₀ → rows w n (drop b s) ≡ map row (numbers 0 n)
    filled-rows n s e = ap (λ (l : List ℕ). rows w n (drop b l)) e ∙ fill-rows n

    pub filled-rest : (n : ℕ) (s : List ℕ) → s ≡ filled row w b n s₀ → drop (b + w * n) s ≡ drop (b + w * n) s₀
    filled-rest n s e = ap (drop (b + w * n)) e ∙ fill-rest n
