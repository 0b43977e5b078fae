-- The numbers of the elements that pass a test: which they are, that they rise, and that their elements are those kept. Assumes nothing.
use Rattle.std.proofs.Common.{◌≡◌, ℕ, zero, suc, ◌+◌, ◌<◌, Bool, true, false, cond, ◌||◌, leb, List, [], ◌∷◌, map, length, get_or, sym, refl, ap, ◌∙◌, subst, ap₂, inl, inr, le_of_suc-le-suc, not-suc-le-zero, add-zero, arith, eq-eqb}
use borrow.Author.Tests.{lt-leb}
use Rattle.mesh.specs.declared.element.Tet.{Tet}
use Rattle.mesh.specs.inside.Sort.{before, headed, ordered}
use Rattle.mesh.specs.Complex.{mem, keep}
use Rattle.mesh.specs.Element.{has}
use Rattle.mesh.specs.inside.Star.{star_from}
use Rattle.mesh.specs.inside.About.{pass_from}
use Rattle.mesh.specs.Tests.{any}
use Rattle.mesh.proofs.Laws.Bools.{split, and_intro}
use Rattle.mesh.proofs.Laws.Complex.Sets.{clash, or_cases, or_left, or_right, mem-here, mem-there, mem-cases, mem-nil}

module _ (p : Tet → Bool) where
  -- each is the number of an element that passes
  pub pass-out : (ts : List Tet) (i e : ℕ) (z : Tet) → mem e (pass_from p i ts) ≡ true → (d : ℕ) × (e ≡ i + d) × (d < length ts) × (p (get_or ts d z) ≡ true)
  unfolding pass_from
  pass-out [] i e z m = absurd (mem-nil e m)
  pass-out (t ∷ ts) i e z m = go (p t) refl m (pass-out ts (i + 1) e z)
    where
      later : (d : ℕ) × (e ≡ i + 1 + d) × (d < length ts) × (p (get_or ts d z) ≡ true) → (d : ℕ) × (e ≡ i + d) × (d < length (t ∷ ts)) × (p (get_or (t ∷ ts) d z) ≡ true)
      later r = let a = r.1 in let b = r.2 in (suc r.0, omega arith, omega arith, r.3)

      go : (b : Bool) → p t ≡ b → mem e (cond b (i ∷ pass_from p (i + 1) ts) (pass_from p (i + 1) ts)) ≡ true
          → (mem e (pass_from p (i + 1) ts) ≡ true → (d : ℕ) × (e ≡ i + 1 + d) × (d < length ts) × (p (get_or ts d z) ≡ true))
          → (d : ℕ) × (e ≡ i + d) × (d < length (t ∷ ts)) × (p (get_or (t ∷ ts) d z) ≡ true)
      go true h m ih = elim (mem-cases e i (pass_from p (i + 1) ts) m) [ inl q ↦ (0, omega arith, omega arith, h) | inr n ↦ later (ih n) ]
      go false h m ih = later (ih m)

  -- and each such number is there
  pub pass-in : (ts : List Tet) (i d : ℕ) (z : Tet) → d < length ts → p (get_or ts d z) ≡ true → mem (i + d) (pass_from p i ts) ≡ true
  unfolding pass_from
  pass-in [] i d z h a = absurd (not-suc-le-zero h)
  pass-in (t ∷ ts) i zero z h a = rw a (or_left (mem (i + 0) (pass_from p (i + 1) ts)) (eq-eqb (i + 0) i (add-zero i)))
  pass-in (t ∷ ts) i (suc d) z h a = go (p t) (pass-in ts (i + 1) d z (le_of_suc-le-suc h) a)
    where
      n : i + 1 + d ≡ i + suc d
      n = omega arith

      go : (b : Bool) → mem (i + 1 + d) (pass_from p (i + 1) ts) ≡ true → mem (i + suc d) (cond b (i ∷ pass_from p (i + 1) ts) (pass_from p (i + 1) ts)) ≡ true
      go true m = mem-there (i + suc d) i (pass_from p (i + 1) ts) (subst (λ (u : ℕ). mem u (pass_from p (i + 1) ts) ≡ true) n m)
      go false m = subst (λ (u : ℕ). mem u (pass_from p (i + 1) ts) ≡ true) n m

  above : (ts : List Tet) (j i : ℕ) → j < i → headed (before leb) j (pass_from p i ts) ≡ true
  unfolding pass_from headed before
  above [] j i h = refl
  above (t ∷ ts) j i h = go (p t) (above ts j (i + 1) (omega arith))
    where
      go : (b : Bool) → headed (before leb) j (pass_from p (i + 1) ts) ≡ true → headed (before leb) j (cond b (i ∷ pass_from p (i + 1) ts) (pass_from p (i + 1) ts)) ≡ true
      go true ih = rw (lt-leb i j h)
      go false ih = ih

  -- in number order, each once
  pub pass-rising : (ts : List Tet) (i : ℕ) → ordered (before leb) (pass_from p i ts) ≡ true
  unfolding pass_from ordered
  pass-rising [] i = refl
  pass-rising (t ∷ ts) i = go (p t) (pass-rising ts (i + 1))
    where
      go : (b : Bool) → ordered (before leb) (pass_from p (i + 1) ts) ≡ true → ordered (before leb) (cond b (i ∷ pass_from p (i + 1) ts) (pass_from p (i + 1) ts)) ≡ true
      go true ih =
          and_intro (headed (before leb) i (pass_from p (i + 1) ts)) (ordered (before leb) (pass_from p (i + 1) ts)) (above ts i (i + 1) (omega arith)) ih
      go false ih = ih

  -- as many as there are elements kept
  pub pass-count : (ts : List Tet) (i : ℕ) → length (pass_from p i ts) ≡ length (keep p ts)
  unfolding pass_from
  pass-count [] i = refl
  pass-count (t ∷ ts) i = elim (split (p t)) [ inl e ↦ rw e (ap suc (pass-count ts (i + 1))) | inr e ↦ rw e (pass-count ts (i + 1)) ]

  -- their elements are those kept
  kept_from : (f : ℕ → Tet) (ts : List Tet) (i : ℕ) (z : Tet) → ((d : ℕ) → d < length ts → f (i + d) ≡ get_or ts d z) → map f (pass_from p i ts) ≡ keep p ts
  unfolding pass_from
  kept_from f [] i z h = refl
  kept_from f (t ∷ ts) i z h = go (p t) (kept_from f ts (i + 1) z (λ d g. ap f (one d) ∙ h (suc d) (omega arith)))
    where
      one : (d : ℕ) → i + 1 + d ≡ i + suc d
      one d = omega arith

      here : f i ≡ t
      here = ap f (sym (add-zero i)) ∙ h 0 (omega arith)

      go : (b : Bool) → map f (pass_from p (i + 1) ts) ≡ keep p ts → map f (cond b (i ∷ pass_from p (i + 1) ts) (pass_from p (i + 1) ts)) ≡ cond b (t ∷ keep p ts) (keep p ts)
      go true ih = ap₂ (λ (u : Tet) (l : List Tet). u ∷ l) here ih
      go false ih = ih

  pub pass-elements : (ts : List Tet) (z : Tet) → map (λ e. get_or ts e z) (pass_from p 0 ts) ≡ keep p ts
  pass-elements ts z = kept_from (λ e. get_or ts e z) ts 0 z (λ d h. let q : 0 + d ≡ d = omega arith in ap (λ (u : ℕ). get_or ts u z) q)

  -- each is below the number of elements
  pub pass_below : (ts : List Tet) (e : ℕ) (z : Tet) → mem e (pass_from p 0 ts) ≡ true → e < length ts
  pass_below ts e z m = let r = pass-out ts 0 e z m in let a = r.1 in let b = r.2 in omega arith

-- the star of a pair passes the pair's test
pub star-passes : (v w i : ℕ) (ts : List Tet) → star_from v w i ts ≡ pass_from (λ t. has v t || has w t) i ts
unfolding star_from pass_from
star-passes v w i [] = refl
star-passes v w i (t ∷ ts) = ap (λ (l : List ℕ). cond (has v t || has w t) (i ∷ l) l) (star-passes v w (i + 1) ts)

-- one of them passes
pub any_out : (p : ℕ → Bool) (vs : List ℕ) → any p vs ≡ true → (v : ℕ) × (mem v vs ≡ true) × (p v ≡ true)
any_out p [] h = absurd (clash refl (sym h))
any_out p (v ∷ vs) h =
    elim (or_cases (p v) (any p vs) h) [
      | inl a ↦ (v, mem-here v vs, a)
      | inr a ↦ let r = any_out p vs a in (r.0, mem-there r.0 v vs r.1, r.2)
    ]

pub any-in : (p : ℕ → Bool) (vs : List ℕ) (v : ℕ) → mem v vs ≡ true → p v ≡ true → any p vs ≡ true
any-in p [] v m h = absurd (mem-nil v m)
any-in p (u ∷ vs) v m h =
    elim (mem-cases v u vs m) [
      | inl e ↦ or_left (any p vs) (subst (λ (y : ℕ). p y ≡ true) e h)
      | inr n ↦ or_right (p u) (any-in p vs v n h)
    ]
