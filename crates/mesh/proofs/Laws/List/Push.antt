-- Rows pushed behind rows, behind the first words of an area. Assumes nothing.
use Rattle.std.proofs.Common.{◌≡◌, ℕ, ◌+◌, ◌*◌, ◌≤◌, Bool, true, List, [], ◌∷◌, ◌++◌, length, take, drop, sym, refl, ap, ◌∙◌, subst, ap₂, inl, inr, append_assoc, arith, length-append, length-take-le, drop-drop, take_at, drop_at}
use lib.Seq.{paste}
use Rattle.mesh.specs.inside.Rows.{rows}
use Rattle.mesh.specs.Words.{flat}
use Rattle.mesh.specs.Complex.{keep}
use Rattle.mesh.specs.Tests.{every}
use Rattle.mesh.specs.inside.Manifold.{KeptBelow}
use Rattle.mesh.proofs.Laws.Bools.{split}
use Rattle.mesh.proofs.Laws.Rows.{Shape, none, more, rows-flat}
use Rattle.mesh.proofs.Laws.Manifold.Fill.{flat_append}
use Rattle.mesh.specs.inside.List.{stacked, Pushed}
use Rattle.mesh.proofs.Laws.List.Stack.{stack-start, stack-kept, stack-turn, front}

pub push-start : (w b : ℕ) (s : List ℕ) → Pushed [] w b s s 0
push-start w b s = record { number = refl; area = stack-start w b s }

-- one row
pub push-one : (w p : ℕ) (s s' r : List ℕ) → p ≤ length s → length r ≡ w → s' ≡ paste s p r w → Pushed (r ∷ []) w p s s' 1
push-one w p s s' r h l f =
    let z : p ≡ p + w * 0 = omega arith in
    record { number = refl; area = stack-turn {w = w} {rs = []} 0 none p s h s s' r (stack-start w p s) l (f ∙ ap (λ (u : ℕ). paste s u r w) z) }

module _ {rs : List (List ℕ)} {w b : ℕ} {s₀ s : List ℕ} {k : ℕ} (shape : Shape w (length rs) rs) (inside : b ≤ length s₀) (p : Pushed rs w b s₀ s k) where
  words : w * length rs ≡ w * k
  words = ap (λ (u : ℕ). w * u) (sym p.number)

  -- the words below stand as they did
  pub push_kept : b + w * k ≤ length s₀ → KeptBelow b s₀ s
  push_kept h = subst (KeptBelow b s₀) (sym p.area) (stack-kept (length rs) shape b s₀ inside (omega (arith, words)))

  -- the rows, and what stood behind them
  pub push-behind : drop b s ≡ flat rs ++ drop (b + w * length rs) s₀
  unfolding stacked
  push-behind = ap (drop b) p.area ∙ drop_at (take b s₀) (flat rs ++ drop (b + w * length rs) s₀) b (length-take-le b s₀ inside)

  pub push-rows : rows w k (drop b s) ≡ rs
  push-rows = ap₂ (rows w) p.number push-behind ∙ rows-flat shape (drop (b + w * length rs) s₀)

  -- more rows behind them
  pub push-more : {qs : List (List ℕ)} {s' : List ℕ} {m : ℕ} → Pushed qs w (b + w * k) s s' m → Pushed (rs ++ qs) w b s₀ s' (k + m)
  unfolding stacked
  push-more {qs} {s'} {m} q =
      let j = b + w * length rs in
      let d = drop j s₀ in
      let at : b + w * k ≡ j = ap (λ (u : ℕ). b + w * u) p.number in
      let g : s ≡ (take b s₀ ++ flat rs) ++ d = p.area ∙ sym (append_assoc (take b s₀) (flat rs) d) in
      let long : length (take b s₀ ++ flat rs) ≡ j = front (length rs) shape b s₀ inside in
      let head : take j s ≡ take b s₀ ++ flat rs = ap (take j) g ∙ take_at (take b s₀ ++ flat rs) d j long in
      let n : j + w * length qs ≡ b + w * length (rs ++ qs) =
      (let e : w * length (rs ++ qs) ≡ w * length rs + w * length qs = ap (λ (u : ℕ). w * u) (length-append rs qs) ∙ (let d : w * (length rs + length qs) ≡ w * length rs + w * length qs = omega arith in d) in omega arith) in
      let tail : drop (j + w * length qs) s ≡ drop (b + w * length (rs ++ qs)) s₀ =
      sym (drop-drop (w * length qs) j s) ∙ ap (drop (w * length qs)) (ap (drop j) g ∙ drop_at (take b s₀ ++ flat rs) d j long)
      ∙ drop-drop (w * length qs) j s₀ ∙ ap (λ (u : ℕ). drop u s₀) n in
      record {
        number = ap₂ (λ (u v : ℕ). u + v) p.number q.number ∙ sym (length-append rs qs);
        area =
            q.area
            ∙ ap (λ (u : ℕ). take u s ++ (flat qs ++ drop (u + w * length qs) s)) at
            ∙ ap₂ (λ (u v : List ℕ). u ++ (flat qs ++ v)) head tail
            ∙ append_assoc (take b s₀) (flat rs) (flat qs ++ drop (b + w * length (rs ++ qs)) s₀)
            ∙ ap (λ (u : List ℕ). take b s₀ ++ u) (sym (append_assoc (flat rs) (flat qs) (drop (b + w * length (rs ++ qs)) s₀)))
            ∙ ap (λ (u : List ℕ). take b s₀ ++ (u ++ drop (b + w * length (rs ++ qs)) s₀)) (sym (flat_append rs qs));
      }

-- ---- lists

pub shape-append : {w : ℕ} (rs qs : List (List ℕ)) → Shape w (length rs) rs → Shape w (length qs) qs → Shape w (length (rs ++ qs)) (rs ++ qs)
shape-append [] qs none q = q
shape-append (r ∷ rs) qs (more e s) q = more e (shape-append rs qs s q)

pub keep_append : {A : Type 0} (p : A → Bool) (l m : List A) → keep p (l ++ m) ≡ keep p l ++ keep p m
keep_append p [] m = refl
keep_append {A} p (x ∷ l) m = let ih = keep_append p l m in elim (split (p x)) [ inl e ↦ rw e (ap (λ (u : List A). x ∷ u) ih) | inr e ↦ rw e ih ]

-- those kept all pass
pub every-kept : {A : Type 0} (p : A → Bool) (l : List A) → every p (keep p l) ≡ true
every-kept p [] = refl
every-kept p (x ∷ l) = let ih = every-kept p l in elim (split (p x)) [ inl e ↦ rw (e, e) ih | inr e ↦ rw e ih ]
