-- Words numbered one after the other: where `number_words` stands, its start, its turn and its end. Assumes nothing.
use mathlib.Core.Path.{◌≡◌, refl, sym, ap, ap₂, subst, subst₂, ◌∙◌}
use mathlib.Core.Logic.{◌⊎◌, inl, inr, ⊎_elim}
use mathlib.Core.Bool.{Bool, true, false}
use mathlib.Core.List.{List, [], ◌∷◌, ◌++◌, map}
use Prim.Native.Nat.{ℕ, zero, suc, ◌+◌, ◌-◌, ◌≤◌, ◌<◌}
use native.Mathlib.Nat.{not-suc-le-zero, le_of_suc-le-suc}
use native.Mathlib.Numerals.{add-one}
use native.Mathlib.Omega.{arith}
use borrow.Author.Tests.{ltb-true, eqb-true, eqb-false, eq-eqb, ne_eqb}
use lib.Dec.{eqb, ltb}
use lib.ListN.{length, take, drop, set, length-append, length-drop, length-map, length-set, get_or-append, get_or-map}
use lib.Seq.{get_or-set_same, get_or-set_other, get_or-take, get_or-drop, get_or_at, take-suc, ext_get_or, length-take-le}
use Rattle.mesh.specs.Words.{word_at}
use Rattle.mesh.specs.Complex.{mem}
use Rattle.mesh.specs.Tests.{every}
use Rattle.mesh.proofs.Laws.Bools.{and_intro, and_left, and_right}
use Rattle.mesh.proofs.Laws.Complex.Sets.{split, mem-here, mem-there}
use Rattle.mesh.proofs.Laws.Link.Simplices.{every-mem}
use Rattle.mesh.proofs.Laws.Parts.{get_d_any}
use Rattle.repair.specs.Improve.{first_uses, place_of}
use Rattle.repair.specs.inside.improve.Renumber.{numbered_at, met_at, Unmet, Numbered}
use Rattle.repair.proofs.Laws.Finish.First.{mem-more, mem-last, first-old, first-new, first-few, place-more, place-last, mark_of, mark-met, mark-unmet, mark-last, mark-other}

-- ---- the first words of a list

take-mem : (l : List ℕ) (p j : ℕ) → j < p → j < length l → mem (word_at l j) (take p l) ≡ true
take-mem [] p j h k = absurd (not-suc-le-zero k)
take-mem (x ∷ l) zero j h k = absurd (not-suc-le-zero h)
take-mem (x ∷ l) (suc p) zero h k = mem-here x (take p l)
take-mem (x ∷ l) (suc p) (suc j) h k = mem-there (word_at l j) x (take p l) (take-mem l p j (le_of_suc-le-suc h) (le_of_suc-le-suc k))

take-every : (q : ℕ → Bool) (l : List ℕ) (p m : ℕ) → p ≤ m → every q (take m l) ≡ true → every q (take p l) ≡ true
take-every q l zero m h e = refl
take-every q [] (suc p) m h e = refl
take-every q (x ∷ l) (suc p) zero h e = absurd (not-suc-le-zero h)
take-every q (x ∷ l) (suc p) (suc m) h e =
    and_intro (q x) (every q (take p l)) (and_left (q x) (every q (take m l)) e) (take-every q l p m (le_of_suc-le-suc h) (and_right (q x) (every q (take m l)) e))

-- ---- where the loop stands

-- the first p words have their numbers, by the c vertices us met so far
pub record Met (m nv u : ℕ) (s₀ us : List ℕ) (p c : ℕ) (s : List ℕ) : Type 0 where
  pub long : length s ≡ length s₀
  pub met : c ≡ length us
  pub listed : (j : ℕ) → j < c → word_at s (u + j) ≡ word_at us j
  pub known : (j : ℕ) → j < p → mem (word_at s₀ j) us ≡ true
  pub done : (j : ℕ) → j < p → word_at s j ≡ place_of us (word_at s₀ j)
  pub left : (j : ℕ) → p ≤ j → j < m → word_at s j ≡ word_at s₀ j
  pub marks : (v : ℕ) → v < nv → word_at s (m + v) ≡ mark_of us v

pub record Numbering (m nv u : ℕ) (s₀ : List ℕ) (p c : ℕ) (s : List ℕ) : Type 0 where
  pub far : p ≤ m
  pub few : c ≤ p
  pub state : Met m nv u s₀ (first_uses (take p s₀)) p c s

below-or-at : (j p : ℕ) → j < p + 1 → (j < p) ⊎ (j ≡ p)
below-or-at j p h = elim (split (eqb j p)) [ inl q ↦ inr (eqb-true j p q) | inr q ↦ let d = eqb-false j p q in inl (omega arith) ]

-- a vertex that is met already
met-old : {m nv u : ℕ} {s₀ us : List ℕ} {p c : ℕ} {s : List ℕ} → Met m nv u s₀ us p c s → m ≤ u → p < m → m ≤ length s₀ → mem (word_at s₀ p) us ≡ true
    → Met m nv u s₀ us (p + 1) c (set s p (place_of us (word_at s₀ p)))
met-old {m} {nv} {u} {s₀} {us} {p} {c} {s} M a h k e = record {
  long = length-set s p (place_of us (word_at s₀ p)) ∙ M.long;
  met = M.met;
  listed = λ j l. off (u + j) (λ q. omega arith) ∙ M.listed j l;
  known = λ j l. elim (below-or-at j p l) [ inl f ↦ M.known j f | inr q ↦ rw q e ];
  done = λ j l. elim (below-or-at j p l) [ inl f ↦ off j (λ q. omega arith) ∙ M.done j f | inr q ↦ rw q here ];
  left = λ j f l. off j (λ q. omega arith) ∙ M.left j (omega arith) l;
  marks = λ v l. off (m + v) (λ q. omega arith) ∙ M.marks v l;
}
  where
    off : (j : ℕ) → (j ≡ p → ⊥) → word_at (set s p (place_of us (word_at s₀ p))) j ≡ word_at s j
    off j d = get_or-set_other s p j (place_of us (word_at s₀ p)) 0 d

    here : word_at (set s p (place_of us (word_at s₀ p))) p ≡ place_of us (word_at s₀ p)
    here = get_or-set_same s p (place_of us (word_at s₀ p)) 0 (omega (arith, M.long))

-- a new one
module _ {m nv u : ℕ} {s₀ us : List ℕ} {p c : ℕ} {s : List ℕ} (M : Met m nv u s₀ us p c s) (a : m + nv ≤ u) (h : p < m) (r : u + c < length s₀)
    (b : word_at s₀ p < nv) (e : mem (word_at s₀ p) us ≡ false) where
  v : ℕ
  v = word_at s₀ p

  s₁ : List ℕ
  unfolding v
  s₁ = set s (m + v) (c + 1)

  s₂ : List ℕ
  unfolding v
  s₂ = set s₁ (u + c) v

  s₃ : List ℕ
  s₃ = set s₂ p c

  long : length s₃ ≡ length s₀
  unfolding s₁ s₂ s₃
  long = length-set s₂ p c ∙ length-set s₁ (u + c) v ∙ length-set s (m + v) (c + 1) ∙ M.long

  off : (j : ℕ) → (j ≡ p → ⊥) → (j ≡ u + c → ⊥) → (j ≡ m + v → ⊥) → word_at s₃ j ≡ word_at s j
  unfolding s₁ s₂ s₃
  off j f g k = get_or-set_other s₂ p j c 0 f ∙ get_or-set_other s₁ (u + c) j v 0 g ∙ get_or-set_other s (m + v) j (c + 1) 0 k

  at-word : word_at s₃ p ≡ c
  unfolding s₁ s₂ s₃
  at-word = get_or-set_same s₂ p c 0 (omega (arith, length-set s₁ (u + c) v, length-set s (m + v) (c + 1), M.long))

  at-list : word_at s₃ (u + c) ≡ v
  unfolding s₁ s₂ s₃
  at-list = get_or-set_other s₂ p (u + c) c 0 (λ q. omega arith) ∙ get_or-set_same s₁ (u + c) v 0 (omega (arith, length-set s (m + v) (c + 1), M.long))

  at_mark : word_at s₃ (m + v) ≡ c + 1
  unfolding v s₁ s₂ s₃
  at_mark =
      get_or-set_other s₂ p (m + v) c 0 (λ q. omega arith) ∙ get_or-set_other s₁ (u + c) (m + v) v 0 (λ q. omega arith)
      ∙ get_or-set_same s (m + v) (c + 1) 0 (omega (arith, M.long))

  mark-is : (w : ℕ) → w < nv → word_at s₃ (m + w) ≡ mark_of (us ++ (v ∷ [])) w
  unfolding v
  mark-is w l =
      elim (split (eqb w v)) [
        | inl q ↦ let g = eqb-true w v q in rw g (at_mark ∙ ap (λ (i : ℕ). i + 1) M.met ∙ sym (mark-last us v e))
        | inr q ↦ let g = eqb-false w v q in off (m + w) (λ i. omega arith) (λ i. omega arith) (λ i. g (omega arith)) ∙ M.marks w l ∙ sym (mark-other us w v g)
      ]

  list-is : (j : ℕ) → j < c + 1 → word_at s₃ (u + j) ≡ word_at (us ++ (v ∷ [])) j
  unfolding v
  list-is j l =
      elim (below-or-at j c l) [
        | inl f ↦ off (u + j) (λ q. omega arith) (λ q. omega arith) (λ q. omega arith) ∙ M.listed j f ∙ sym (get_or-append us (v ∷ []) 0 j (omega (arith, M.met)))
        | inr q ↦ rw q (at-list ∙ sym (get_or_at us v [] 0 c (sym M.met)))
      ]

  done-is : (j : ℕ) → j < p + 1 → word_at s₃ j ≡ place_of (us ++ (v ∷ [])) (word_at s₀ j)
  unfolding v
  done-is j l =
      elim (below-or-at j p l) [
        | inl f ↦ off j (λ q. omega arith) (λ q. omega arith) (λ q. omega arith) ∙ M.done j f ∙ sym (place-more us (word_at s₀ j) v (M.known j f))
        | inr q ↦ rw q (at-word ∙ M.met ∙ sym (place-last us v e))
      ]

  met-new : Met m nv u s₀ (us ++ (word_at s₀ p ∷ [])) (p + 1) (c + 1) (set (set (set s (m + word_at s₀ p) (c + 1)) (u + c) (word_at s₀ p)) p c)
  unfolding v s₁ s₂ s₃
  met-new = record {
    long = long;
    met = omega (arith, M.met, length-append us (word_at s₀ p ∷ []));
    listed = list-is;
    known = λ j l. elim (below-or-at j p l) [ inl f ↦ mem-more (word_at s₀ j) v us (M.known j f) | inr q ↦ rw q (mem-last v us) ];
    done = done-is;
    left = λ j f l. off j (λ q. omega arith) (λ q. omega arith) (λ q. omega arith) ∙ M.left j (omega arith) l;
    marks = mark-is;
  }

-- ---- start, turn and end

module _ {m nv u : ℕ} {s₀ : List ℕ} (G : Unmet m nv u s₀) where
  -- the words are below nv
  word_below : (j : ℕ) → j < m → word_at s₀ j < nv
  word_below j h =
      ltb-true (word_at s₀ j) nv
      (every-mem (λ v. ltb v nv) (take m s₀) G.below (word_at s₀ j) (take-mem s₀ m j h (omega (arith, G.marks, G.long))))

  -- so are the vertices met
  used-few : (p : ℕ) → p ≤ m → length (first_uses (take p s₀)) ≤ nv
  used-few p h =
      first-few nv (take p s₀)
      (λ v k. ltb-true v nv (every-mem (λ w. ltb w nv) (take p s₀) (take-every (λ w. ltb w nv) s₀ p m h G.below) v k))

  pub numbering_start : Numbering m nv u s₀ 0 0 s₀
  unfolding first_uses mark_of
  numbering_start = record {
    far = omega arith;
    few = omega arith;
    state = record {
      long = refl;
      met = refl;
      listed = λ j h. absurd (not-suc-le-zero h);
      known = λ j h. absurd (not-suc-le-zero h);
      done = λ j h. absurd (not-suc-le-zero h);
      left = λ j f h. refl;
      marks = λ v h. G.clean v h;
    };
  }

  module _ {p c : ℕ} {s : List ℕ} (N : Numbering m nv u s₀ p c s) (h : p < m) where
    us : List ℕ
    us = first_uses (take p s₀)

    word-is : word_at s p ≡ word_at s₀ p
    word-is = N.state.left p (omega arith) h

    mark-is-of : word_at s (m + word_at s p) ≡ mark_of us (word_at s₀ p)
    unfolding us
    mark-is-of = ap (λ (i : ℕ). word_at s (m + i)) word-is ∙ N.state.marks (word_at s₀ p) (word_below p h)

    more : take (p + 1) s₀ ≡ take p s₀ ++ (word_at s₀ p ∷ [])
    more = rw add-one (take-suc s₀ p 0 (omega (arith, G.marks, G.long)))

    turn-old : mem (word_at s₀ p) us ≡ true → Numbering m nv u s₀ (p + 1) (met_at m c p s) (numbered_at m u c p s)
    unfolding us met_at numbered_at
    turn-old e =
        let x : word_at s (m + word_at s p) ≡ place_of us (word_at s₀ p) + 1 = mark-is-of ∙ mark-met us (word_at s₀ p) e in
        let f : eqb (word_at s (m + word_at s p)) 0 ≡ false = ne_eqb (word_at s (m + word_at s p)) 0 (λ q. omega arith) in
        let y : place_of us (word_at s₀ p) + 1 - 1 ≡ place_of us (word_at s₀ p) = omega arith in
        rw (f, x, y)
        (record {
          far = omega arith;
          few = omega (arith, N.few);
          state = subst (λ w. Met m nv u s₀ w (p + 1) c (set s p (place_of us (word_at s₀ p)))) (sym (ap first_uses more ∙ first-old (take p s₀) (word_at s₀ p) e))
              (met-old N.state (omega (arith, G.marks)) h (omega (arith, G.marks, G.long)) e);
        })

    turn-new : mem (word_at s₀ p) us ≡ false → Numbering m nv u s₀ (p + 1) (met_at m c p s) (numbered_at m u c p s)
    unfolding us met_at numbered_at
    turn-new e =
        let x : word_at s (m + word_at s p) ≡ 0 = mark-is-of ∙ mark-unmet us (word_at s₀ p) e in
        let n : first_uses (take (p + 1) s₀) ≡ us ++ (word_at s₀ p ∷ []) = ap first_uses more ∙ first-new (take p s₀) (word_at s₀ p) e in
        let l : c + 1 ≤ nv = omega (arith, used-few (p + 1) (omega arith), ap length n, length-append us (word_at s₀ p ∷ []), N.state.met) in
        rw (x, word-is)
        (record {
          far = omega arith;
          few = omega (arith, N.few);
          state = subst (λ w. Met m nv u s₀ w (p + 1) (c + 1) (set (set (set s (m + word_at s₀ p) (c + 1)) (u + c) (word_at s₀ p)) p c)) (sym n)
              (met-new N.state G.marks h (omega (arith, G.long)) (word_below p h) e);
        })

    pub numbering-turn : Numbering m nv u s₀ (p + 1) (met_at m c p s) (numbered_at m u c p s)
    numbering-turn = ⊎_elim turn-old turn-new (split (mem (word_at s₀ p) us))

  -- by the answer of `number_word`
  pub numbering-next : {p c r : ℕ} {s t : List ℕ} → Numbering m nv u s₀ p c s → p < m → (r ≡ met_at m c p s) × (t ≡ numbered_at m u c p s) → Numbering m nv u s₀ (p + 1) r t
  numbering-next {p} N h e = subst₂ (λ i l. Numbering m nv u s₀ (p + 1) i l) (sym e.0) (sym e.1) (numbering-turn N h)

  pub numbering-end : {p c : ℕ} {s : List ℕ} → Numbering m nv u s₀ p c s → m ≤ p → Numbered m u s₀ s c
  numbering-end {p} {c} {s} N h =
      let q : p ≡ m = omega (arith, N.far) in
      let M : Met m nv u s₀ (first_uses (take m s₀)) m c s = subst (λ i. Met m nv u s₀ (first_uses (take i s₀)) i c s) q N.state in
      record { many = M.met; words = words M; used = used M }
    where
      words : Met m nv u s₀ (first_uses (take m s₀)) m c s → take m s ≡ map (place_of (first_uses (take m s₀))) (take m s₀)
      words M =
          let us = first_uses (take m s₀) in
          let a : length (take m s) ≡ m = length-take-le m s (omega (arith, M.long, G.marks, G.long)) in
          let b : length (take m s₀) ≡ m = length-take-le m s₀ (omega (arith, G.marks, G.long)) in
          ext_get_or 0 (take m s) (map (place_of us) (take m s₀)) (a ∙ sym (length-map (take m s₀) (place_of us) ∙ b))
          (λ j l.
          let k : j < m = omega arith in
          get_or-take m s j 0 k ∙ M.done j k ∙ ap (place_of us) (sym (get_or-take m s₀ j 0 k))
          ∙ sym (get_or-map (place_of us) (take m s₀) j 0)
          ∙ get_d_any (map (place_of us) (take m s₀)) j (place_of us 0) 0 (omega (arith, length-map (take m s₀) (place_of us))))

      used : Met m nv u s₀ (first_uses (take m s₀)) m c s → take c (drop u s) ≡ first_uses (take m s₀)
      used M =
          let us = first_uses (take m s₀) in
          let f : length us ≤ nv = used-few m (omega arith) in
          let a : length (take c (drop u s)) ≡ c = length-take-le c (drop u s) (omega (arith, length-drop u s, M.met, M.long, G.long)) in
          ext_get_or 0 (take c (drop u s)) us (a ∙ M.met)
          (λ j l. let k : j < c = omega arith in get_or-take c (drop u s) j 0 k ∙ get_or-drop u s j 0 ∙ M.listed j k)

-- ---- `number_word`

module _ (m u c p : ℕ) (s : List ℕ) {v x : ℕ} (hv : v ≡ word_at s p) (hx : x ≡ word_at s (m + v)) where
  test-is : (b : Bool) → eqb x 0 ≡ b → eqb (word_at s (m + word_at s p)) 0 ≡ b
  test-is b e = ap (λ (i : ℕ). eqb (word_at s (m + i)) 0) (sym hv) ∙ ap (λ (i : ℕ). eqb i 0) (sym hx) ∙ e

  -- with the next number
  pub word-new : x ≡ 0 → {s₁ s₂ s₃ : List ℕ} → s₁ ≡ set s (m + v) (c + 1) → s₂ ≡ set s₁ (u + c) v → s₃ ≡ set s₂ p c
      → (c + 1 ≡ met_at m c p s) × (s₃ ≡ numbered_at m u c p s)
  unfolding met_at numbered_at
  word-new e f g h = rw (test-is true (eq-eqb x 0 e)) (refl, h ∙ ap (λ (l : List ℕ). set l p c) (g ∙ ap₂ (λ (l : List ℕ) (i : ℕ). set l (u + c) i) (f ∙ ap (λ (i : ℕ). set s (m + i) (c + 1)) hv) hv))

  -- with the number that it has
  pub word-old : (x ≡ 0 → ⊥) → {s₁ : List ℕ} → s₁ ≡ set s p (x - 1) → (c ≡ met_at m c p s) × (s₁ ≡ numbered_at m u c p s)
  unfolding met_at numbered_at
  word-old e f = rw (test-is false (ne_eqb x 0 e)) (refl, f ∙ ap (λ (i : ℕ). set s p (i - 1)) (hx ∙ ap (λ (i : ℕ). word_at s (m + i)) hv))
