-- Walks along entries that name the next: what a walk does not pass over may change, and how two walks become one. Assumes nothing.
use Rattle.std.proofs.Common.{◌≡◌, ℕ, zero, suc, ◌+◌, ◌/◌, ◌<◌, ◌≤◌, Bool, true, false, cond, ltb, ◌≢◌, List, [], ◌∷◌, ◌++◌, length, sym, refl, ap, ◌∙◌, subst, inl, inr, suc-add, zero-add, arith, ltb-true, le-ltb, lt-ltb}
use Rattle.mesh.specs.Complex.{mem, Nodup}
use Rattle.mesh.specs.inside.Star.{walk, stepped}
use Rattle.mesh.proofs.Laws.Complex.Sets.{mem-here, mem-there, mem-cases, mem-nil, apart}

module _ (room : ℕ) where
  pub walk-yes : (f : ℕ → ℕ) (k p : ℕ) → p / 4 < room → walk room f (suc k) p ≡ p ∷ walk room f k (f p)
  unfolding walk
  walk-yes f k p h = rw (lt-ltb (p / 4) room h)

  pub walk_no : (f : ℕ → ℕ) (k p : ℕ) → room ≤ p / 4 → walk room f k p ≡ []
  unfolding walk
  walk_no f zero p h = refl
  walk_no f (suc k) p h = rw (le-ltb (p / 4) room h)

  pub walk_none : (f : ℕ → ℕ) (p : ℕ) → walk room f 0 p ≡ []
  unfolding walk
  walk_none f p = refl

  pub walk-short : (f : ℕ → ℕ) (k p : ℕ) → length (walk room f k p) ≤ k
  unfolding walk
  walk-short f zero p = omega arith
  walk-short f (suc k) p = go (ltb (p / 4) room) (walk-short f k (f p))
    where
      go : (b : Bool) → length (walk room f k (f p)) ≤ k → length (cond b (p ∷ walk room f k (f p)) []) ≤ suc k
      go true h = omega arith
      go false h = omega arith

  -- a walk of full length begins at an entry, and goes on at full length
  pub walk-full : (f : ℕ → ℕ) (k p : ℕ) → length (walk room f (suc k) p) ≡ suc k → (p / 4 < room) × (length (walk room f k (f p)) ≡ k)
  unfolding walk
  walk-full f k p e = go (ltb (p / 4) room) refl e
    where
      go : (b : Bool) → ltb (p / 4) room ≡ b → length (cond b (p ∷ walk room f k (f p)) []) ≡ suc k → (p / 4 < room) × (length (walk room f k (f p)) ≡ k)
      go true h e = (ltb-true (p / 4) room h, omega arith)
      go false h e = absurd (omega arith)

  -- all that a walk meets are entries
  pub walk-entry : (f : ℕ → ℕ) (k p q : ℕ) → mem q (walk room f k p) ≡ true → q / 4 < room
  unfolding walk
  walk-entry f zero p q m = absurd (mem-nil q m)
  walk-entry f (suc k) p q m = go (ltb (p / 4) room) refl (walk-entry f k (f p) q) m
    where
      go : (b : Bool) → ltb (p / 4) room ≡ b → (mem q (walk room f k (f p)) ≡ true → q / 4 < room) → mem q (cond b (p ∷ walk room f k (f p)) []) ≡ true → q / 4 < room
      go true h ih m = elim (mem-cases q p (walk room f k (f p)) m) [ inl e ↦ rw e (ltb-true (p / 4) room h) | inr n ↦ ih n ]
      go false h ih m = absurd (mem-nil q m)

  -- two that agree on what the walk of one meets
  pub walk_same : (f g : ℕ → ℕ) (k p : ℕ) → ((q : ℕ) → mem q (walk room f k p) ≡ true → g q ≡ f q) → walk room g k p ≡ walk room f k p
  unfolding walk
  walk_same f g zero p h = refl
  walk_same f g (suc k) p h = go (ltb (p / 4) room) h (walk_same f g k (f p))
    where
      go : (b : Bool) → ((q : ℕ) → mem q (cond b (p ∷ walk room f k (f p)) []) ≡ true → g q ≡ f q)
          → (((q : ℕ) → mem q (walk room f k (f p)) ≡ true → g q ≡ f q) → walk room g k (f p) ≡ walk room f k (f p))
          → cond b (p ∷ walk room g k (g p)) [] ≡ cond b (p ∷ walk room f k (f p)) []
      go true h ih =
          ap (λ (l : List ℕ). p ∷ l) (ap (walk room g k) (h p (mem-here p (walk room f k (f p)))) ∙ ih (λ q m. h q (mem-there q p (walk room f k (f p)) m)))
      go false h ih = refl

  -- a walk goes on where its first part ends
  pub walk-on : (f : ℕ → ℕ) (m n p : ℕ) → length (walk room f m p) ≡ m → walk room f (m + n) p ≡ walk room f m p ++ walk room f n (stepped f m p)
  unfolding stepped
  walk-on f zero n p e = rw (zero-add, walk_none f p)
  walk-on f (suc m) n p e =
      let w = walk-full f m p e in
      rw suc-add (walk-yes f (m + n) p w.0 ∙ ap (λ (l : List ℕ). p ∷ l) (walk-on f m n (f p) w.1) ∙ ap (λ (l : List ℕ). l ++ walk room f n (stepped f m (f p))) (sym (walk-yes f m p w.0)))

  -- the last entry of a walk stands in it
  pub last-stands : (f : ℕ → ℕ) (k p : ℕ) → length (walk room f (suc k) p) ≡ suc k → mem (stepped f k p) (walk room f (suc k) p) ≡ true
  unfolding stepped
  last-stands f zero p e = let w = walk-full f 0 p e in rw (walk-yes f 0 p w.0) (mem-here p (walk room f 0 (f p)))
  last-stands f (suc k) p e =
      let w = walk-full f (suc k) p e in
      rw (walk-yes f (suc k) p w.0) (mem-there (stepped f k (f p)) p (walk room f (suc k) (f p)) (last-stands f k (f p) w.1))

  -- where the last entry alone names another, the walk is the same and its end goes on there
  pub last-changed : (f g : ℕ → ℕ) (k p : ℕ) → length (walk room f (suc k) p) ≡ suc k → Nodup (walk room f (suc k) p)
      → ((q : ℕ) → mem q (walk room f (suc k) p) ≡ true → q ≢ stepped f k p → g q ≡ f q)
      → (walk room g (suc k) p ≡ walk room f (suc k) p) × (stepped g (suc k) p ≡ g (stepped f k p))
  unfolding stepped
  last-changed f g zero p e d h =
      let w = walk-full f 0 p e in
      (walk-yes g 0 p w.0 ∙ ap (λ (l : List ℕ). p ∷ l) (walk_none g (g p) ∙ sym (walk_none f (f p))) ∙ sym (walk-yes f 0 p w.0), refl)
  last-changed f g (suc k) p e d h =
      let w = walk-full f (suc k) p e in
      let t = stepped f k (f p) in
      let l = walk room f (suc k) (f p) in
      let y : walk room f (suc (suc k)) p ≡ p ∷ l = walk-yes f (suc k) p w.0 in
      let d' : Nodup (p ∷ l) = subst Nodup y d in
      let h' : (q : ℕ) → mem q (p ∷ l) ≡ true → q ≢ t → g q ≡ f q = subst (λ (u : List ℕ). (q : ℕ) → mem q u ≡ true → q ≢ t → g q ≡ f q) y h in
      let n : p ≢ t = λ z. apart t p l (last-stands f k (f p) w.1) d'.0 (sym z) in
      let a : g p ≡ f p = h' p (mem-here p l) n in
      let r = last-changed f g k (f p) w.1 d'.1 (λ q m. h' q (mem-there q p l m)) in
      (walk-yes g (suc k) p w.0 ∙ ap (λ (u : List ℕ). p ∷ u) (ap (walk room g (suc k)) a ∙ r.0) ∙ sym y, ap (stepped g (suc k)) a ∙ r.1)
