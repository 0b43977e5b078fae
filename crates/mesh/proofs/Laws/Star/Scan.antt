-- The scan: which numbers a star has, that they rise and that a gone slot is not among them; which neighbours a vertex has. Assumes nothing.
use Rattle.std.proofs.Common.{◌≡◌, ℕ, zero, suc, ◌+◌, ◌*◌, ◌<◌, Bool, true, false, cond, not, ◌||◌, eqb, leb, ◌≢◌, List, [], ◌∷◌, length, get_or, drop, sym, refl, ap, ◌∙◌, subst, inl, inr, le_of_suc-le-suc, not-suc-le-zero, arith, get_or-drop, ne_eqb}
use borrow.Author.Tests.{eqb-false, not-true}
use Rattle.mesh.specs.declared.element.Tet.{Tet}
use Rattle.mesh.specs.Words.{word_at}
use Rattle.mesh.specs.inside.Sort.{before, ordered}
use Rattle.mesh.specs.Complex.{mem, Nodup}
use Rattle.mesh.specs.Element.{tets, vertices_of, has}
use Rattle.mesh.specs.inside.Star.{star_from, star_of, gone_word, gone_tet, but_for, others_of, neighbours_of}
use Rattle.mesh.proofs.Laws.Complex.Sets.{clash, nope, and-fst, and-snd, mem-nil, keep-mem}
use Rattle.mesh.proofs.Laws.Star.Chains.{mem-left, mem-right, mem-either}
use Rattle.mesh.proofs.Laws.Star.Numbers.{star-passes, pass-out, pass-in, pass-rising}
use Rattle.mesh.proofs.Laws.Star.Distinct.{distinct-mem, distinct-once, distinct-rising}

-- ---- the numbers of a star

module _ (v w : ℕ) where
  abbrev about : Tet → Bool
  about t = has v t || has w t

  -- each is the number of an element that has v or w
  pub star-out : (ts : List Tet) (i e : ℕ) (z : Tet) → mem e (star_from v w i ts) ≡ true
      → (d : ℕ) × (e ≡ i + d) × (d < length ts) × ((has v (get_or ts d z) || has w (get_or ts d z)) ≡ true)
  star-out ts i e z m = pass-out about ts i e z (subst (λ (us : List ℕ). mem e us ≡ true) (star-passes v w i ts) m)

  -- and each such number is there
  pub star-in : (ts : List Tet) (i d : ℕ) (z : Tet) → d < length ts → (has v (get_or ts d z) || has w (get_or ts d z)) ≡ true → mem (i + d) (star_from v w i ts) ≡ true
  star-in ts i d z h a = subst (λ (us : List ℕ). mem (i + d) us ≡ true) (sym (star-passes v w i ts)) (pass-in about ts i d z h a)

  -- in number order, each once
  pub star-rising : (ts : List Tet) (i : ℕ) → ordered (before leb) (star_from v w i ts) ≡ true
  star-rising ts i = ap (ordered (before leb)) (star-passes v w i ts) ∙ pass-rising about ts i

  -- a slot that is gone is in no star of vertices
  pub gone-not : (ts : List Tet) (e : ℕ) (z : Tet) → v ≢ gone_word → w ≢ gone_word → get_or ts e z ≡ gone_tet → mem e (star_of v w ts) ≡ false
  gone-not ts e z hv hw g =
      nope (λ m.
      let r = star-out ts 0 e z m in
      let q : e ≡ r.0 = let a = r.1 in omega arith in
      let a : about gone_tet ≡ true = ap about (sym g ∙ ap (λ (u : ℕ). get_or ts u z) q) ∙ r.3 in
      clash a (rw (ne_eqb v gone_word hv, ne_eqb w gone_word hw)))

-- ---- the elements of a list of words

-- the vertices of the element d are the four words at 4 d
pub tets-vertices : (n : ℕ) (u : List ℕ) (d : ℕ) (z : Tet) → d < n
    → vertices_of (get_or (tets n u) d z) ≡ word_at u (4 * d) ∷ word_at u (4 * d + 1) ∷ word_at u (4 * d + 2) ∷ word_at u (4 * d + 3) ∷ []
unfolding tets
tets-vertices zero u d z h = absurd (not-suc-le-zero h)
tets-vertices (suc n) u zero z h = refl
tets-vertices (suc n) u (suc d) z h =
    tets-vertices n (drop 4 u) d z (le_of_suc-le-suc h)
    ∙ rw (at (4 * d) (4 * suc d) (omega arith), at (4 * d + 1) (4 * suc d + 1) (omega arith), at (4 * d + 2) (4 * suc d + 2) (omega arith), at (4 * d + 3) (4 * suc d + 3) (omega arith))
  where
    at : (i j : ℕ) → 4 + i ≡ j → word_at (drop 4 u) i ≡ word_at u j
    at i j q = get_or-drop 4 u i 0 ∙ ap (word_at u) q

-- ---- neighbours

pub but_out : (v u : ℕ) (us : List ℕ) → mem u (but_for v us) ≡ true → (mem u us ≡ true) × (u ≢ v)
but_out v u us m =
    let h = sym (keep-mem (λ y. not (eqb y v)) us u) ∙ m in
    (and-fst (mem u us) (not (eqb u v)) h, eqb-false u v (not-true (eqb u v) (and-snd (mem u us) (not (eqb u v)) h)))

pub but_in : (v u : ℕ) (us : List ℕ) → mem u us ≡ true → u ≢ v → mem u (but_for v us) ≡ true
but_in v u us m n = keep-mem (λ y. not (eqb y v)) us u ∙ rw (m, ne_eqb u v n)

module _ (v : ℕ) where
  -- each is another vertex of an element that has v
  pub others-out : (ts : List Tet) (u : ℕ) (z : Tet) → mem u (others_of v ts) ≡ true
      → (d : ℕ) × (d < length ts) × (has v (get_or ts d z) ≡ true) × (mem u (but_for v (vertices_of (get_or ts d z))) ≡ true)
  unfolding others_of
  others-out [] u z m = absurd (mem-nil u m)
  others-out (t ∷ ts) u z m =
      elim (mem-either u (cond (has v t) (but_for v (vertices_of t)) []) (others_of v ts) m) [
        | inl a ↦ here (has v t) refl a
        | inr a ↦ let r = others-out ts u z a in (suc r.0, let b = r.1 in omega arith, r.2, r.3)
      ]
    where
      here : (b : Bool) → has v t ≡ b → mem u (cond b (but_for v (vertices_of t)) []) ≡ true
          → (d : ℕ) × (d < length (t ∷ ts)) × (has v (get_or (t ∷ ts) d z) ≡ true) × (mem u (but_for v (vertices_of (get_or (t ∷ ts) d z))) ≡ true)
      here true h a = (0, omega arith, h, a)
      here false h a = absurd (mem-nil u a)

  pub others-in : (ts : List Tet) (u d : ℕ) (z : Tet) → d < length ts → has v (get_or ts d z) ≡ true → mem u (but_for v (vertices_of (get_or ts d z))) ≡ true → mem u (others_of v ts) ≡ true
  unfolding others_of
  others-in [] u d z h a m = absurd (not-suc-le-zero h)
  others-in (t ∷ ts) u zero z h a m = mem-left u (cond (has v t) (but_for v (vertices_of t)) []) (others_of v ts) (rw a m)
  others-in (t ∷ ts) u (suc d) z h a m =
      mem-right u (cond (has v t) (but_for v (vertices_of t)) []) (others_of v ts) (others-in ts u d z (le_of_suc-le-suc h) a m)

  -- each neighbour is there once
  pub neighbours-once : (ts : List Tet) → Nodup (neighbours_of v ts)
  unfolding neighbours_of
  neighbours-once ts = distinct-once (others_of v ts)

  -- and in number order
  pub neighbours-rising : (ts : List Tet) → ordered (before leb) (neighbours_of v ts) ≡ true
  unfolding neighbours_of
  neighbours-rising ts = distinct-rising (others_of v ts)

  -- a neighbour is another vertex of an element that has v
  pub neighbour-out : (ts : List Tet) (u : ℕ) (z : Tet) → mem u (neighbours_of v ts) ≡ true
      → (d : ℕ) × (d < length ts) × (has v (get_or ts d z) ≡ true) × (has u (get_or ts d z) ≡ true) × (u ≢ v)
  unfolding neighbours_of
  neighbour-out ts u z m =
      let r = others-out ts u z (sym (distinct-mem u (others_of v ts)) ∙ m) in
      let b = but_out v u (vertices_of (get_or ts r.0 z)) r.3 in
      (r.0, r.1, r.2, b.0, b.1)

  pub neighbour-in : (ts : List Tet) (u d : ℕ) (z : Tet) → d < length ts → has v (get_or ts d z) ≡ true → has u (get_or ts d z) ≡ true → u ≢ v → mem u (neighbours_of v ts) ≡ true
  unfolding neighbours_of
  neighbour-in ts u d z h a m n = distinct-mem u (others_of v ts) ∙ others-in ts u d z h a (but_in v u (vertices_of (get_or ts d z)) m n)
