-- Rows put one by one behind the first words of an area. Assumes nothing.
use Rattle.std.proofs.Common.{◌≡◌, ℕ, suc, ◌+◌, ◌-◌, ◌*◌, ◌≤◌, List, [], ◌∷◌, ◌++◌, length, take, drop, sym, refl, ap, ◌∙◌, ap₂, append_assoc, append-nil, arith, length-append, length-drop, take-append-drop, length-take-le, take_all, drop-drop, take_at, drop_at}
use lib.Seq.{paste}
use Rattle.mesh.specs.Words.{flat}
use Rattle.mesh.specs.inside.Manifold.{KeptBelow}
use Rattle.mesh.proofs.Laws.Rows.{Shape, none, more, length-flat}
use Rattle.mesh.proofs.Laws.Manifold.Fill.{flat_append}
use Rattle.mesh.specs.inside.List.{stacked}

pub stack-start : (w b : ℕ) (s : List ℕ) → s ≡ stacked [] w b s
unfolding stacked flat
stack-start w b s = let e : b ≡ b + w * 0 = omega arith in sym (take-append-drop b s) ∙ ap (λ (u : ℕ). take b s ++ drop u s) e

module _ {w : ℕ} {rs : List (List ℕ)} (k : ℕ) (shape : Shape w k rs) (b : ℕ) (s₀ : List ℕ) (inside : b ≤ length s₀) where
  pub many : {n : ℕ} {l : List (List ℕ)} → Shape w n l → length l ≡ n
  many none = refl
  many (more e s) = ap suc (many s)

  pub front : length (take b s₀ ++ flat rs) ≡ b + w * length rs
  front =
      length-append (take b s₀) (flat rs) ∙ ap₂ (λ (u v : ℕ). u + v) (length-take-le b s₀ inside)
      (length-flat shape ∙ (let e : k * w ≡ w * k = omega arith in e) ∙ ap (λ (u : ℕ). w * u) (sym (many shape)))

  pub stack-kept : b + w * k ≤ length s₀ → KeptBelow b s₀ (stacked rs w b s₀)
  unfolding stacked
  stack-kept h = record {
    front = take_at (take b s₀) (flat rs ++ drop (b + w * length rs) s₀) b (length-take-le b s₀ inside);
    long =
        let m : w * length rs ≡ w * k = ap (λ (u : ℕ). w * u) (many shape) in
        let d = drop (b + w * length rs) s₀ in
        omega (arith, length-append (take b s₀) (flat rs ++ d), length-append (flat rs) d, length-append (take b s₀) (flat rs), front, length-take-le b s₀ inside, length-drop (b + w * length rs) s₀);
  }

  -- the words behind the rows stand as they did
  pub stack-rest : (j : ℕ) → b + w * k ≤ j → drop j (stacked rs w b s₀) ≡ drop j s₀
  unfolding stacked
  stack-rest j h =
      let i = b + w * length rs in
      let d = drop i s₀ in
      let m : w * length rs ≡ w * k = ap (λ (u : ℕ). w * u) (many shape) in
      let e : i + (j - i) ≡ j = omega arith in
      let x = take b s₀ ++ (flat rs ++ d) in
      ap (λ (u : ℕ). drop u x) (sym e)
      ∙ sym (drop-drop (j - i) i x)
      ∙ ap (drop (j - i)) (ap (drop i) (sym (append_assoc (take b s₀) (flat rs) d)) ∙ drop_at (take b s₀ ++ flat rs) d i front)
      ∙ drop-drop (j - i) i s₀
      ∙ ap (λ (u : ℕ). drop u s₀) e

  -- one more row
  pub stack-turn : (s s' r : List ℕ) → s ≡ stacked rs w b s₀ → length r ≡ w → s' ≡ paste s (b + w * k) r w → s' ≡ stacked (rs ++ (r ∷ [])) w b s₀
  unfolding stacked flat
  stack-turn s s' r e l p =
      let m : w * k ≡ w * length rs = ap (λ (u : ℕ). w * u) (sym (many shape)) in
      let j = b + w * length rs in
      let d = drop j s₀ in
      let g : s ≡ (take b s₀ ++ flat rs) ++ d = e ∙ sym (append_assoc (take b s₀) (flat rs) d) in
      let head : take j s ≡ take b s₀ ++ flat rs = ap (take j) g ∙ take_at (take b s₀ ++ flat rs) d j front in
      let n : w * length (rs ++ (r ∷ [])) ≡ w * length rs + w = ap (λ (u : ℕ). w * u) (length-append rs (r ∷ [])) ∙ (let q : w * (length rs + 1) ≡ w * length rs + w = omega arith in q) in
      let i : j + w ≡ b + w * length (rs ++ (r ∷ [])) = omega arith in
      let tail : drop (j + w) s ≡ drop (b + w * length (rs ++ (r ∷ []))) s₀ =
      sym (drop-drop w j s) ∙ ap (drop w) (ap (drop j) g ∙ drop_at (take b s₀ ++ flat rs) d j front) ∙ drop-drop w j s₀ ∙ ap (λ (u : ℕ). drop u s₀) i in
      let mid : take w r ≡ r = take_all w r (omega (arith, l)) in
      let last : flat (rs ++ (r ∷ [])) ≡ flat rs ++ r = flat_append rs (r ∷ []) ∙ ap (λ (u : List ℕ). flat rs ++ u) (append-nil r) in
      p
      ∙ ap (λ (u : ℕ). paste s (b + u) r w) m
      ∙ ap₂ (λ (u v : List ℕ). u ++ v) (ap₂ (λ (u v : List ℕ). u ++ v) head mid ∙ append_assoc (take b s₀) (flat rs) r) tail
      ∙ append_assoc (take b s₀) (flat rs ++ r) (drop (b + w * length (rs ++ (r ∷ []))) s₀)
      ∙ ap (λ (u : List ℕ). take b s₀ ++ (u ++ drop (b + w * length (rs ++ (r ∷ []))) s₀)) (sym last)
