-- Elements copied: each number gives at most one element, put behind those before it. Assumes nothing.
use Rattle.std.proofs.Common.{◌≡◌, ℕ, ◌+◌, ◌-◌, ◌*◌, ◌/◌, ◌<◌, ◌≤◌, Bool, true, false, leb, List, [], ◌∷◌, ◌++◌, map, length, get_or, take, drop, sym, refl, ap, ◌∙◌, ap₂, inl, inr, ⊎_elim, append_assoc, append-nil, add-one, arith, length-append, get_or-drop, take_all, take-suc, le-ltb, lt-ltb, le-leb}
use mathlib.Core.List.{map-append}
use lib.Seq.{paste}
use Rattle.mesh.specs.declared.element.Tet.{Tet}
use Rattle.mesh.specs.declared.star.Index.{Index}
use Rattle.mesh.specs.Words.{word_at, inside, flat}
use Rattle.mesh.specs.inside.Rows.{fit_rows}
use Rattle.mesh.specs.Complex.{keep}
use Rattle.mesh.specs.Element.{tet, tets, vertices_of}
use Rattle.mesh.specs.inside.Intake.{tet_at}
use Rattle.mesh.specs.inside.Star.{gone_tet, corner_at, Laid, laid, written}
use Rattle.mesh.specs.inside.About.{slot_at, words_of, space_for}
use Rattle.mesh.proofs.Laws.Bools.{split, and_left, and_right}
use Rattle.mesh.proofs.Laws.Parts.{side, within-test, within-is}
use Rattle.mesh.proofs.Laws.Rows.{fit-test}
use Rattle.mesh.proofs.Laws.Manifold.Fill.{flat_append}
use Rattle.mesh.proofs.Laws.Intake.Reads.{tets-at}
use Rattle.mesh.proofs.Laws.Star.Layout.{laid-is, laid-yes}
use Rattle.mesh.proofs.Laws.Star.Written.{length-written, written_below, written-more, written_none}

-- ---- room

pub space-no : (x : Index) (m n w : ℕ) → laid x m ≡ false → false ≡ space_for x m n w
unfolding space_for
space-no x m n w e = simp e

pub space-test : (x : Index) (m n w : ℕ) → laid x m ≡ true → 0 < w → leb n ((m - x.area) / w) ≡ space_for x m n w
unfolding space_for fit_rows
space-test x m n w e h =
    fit-test n w (m - x.area) h ∙ simp (e, lt-ltb 0 w h) (within-test x.area (n * w) m (laid-is x m e).end)

pub space-is : (x : Index) (m n w : ℕ) → space_for x m n w ≡ true → Laid x m × (x.area + n * w ≤ m)
unfolding space_for
space-is x m n w h =
    (laid-is x m (and_left (laid x m) (inside x.area (n * w) m) h), within-is x.area (n * w) m (and_right (laid x m) (inside x.area (n * w) m) h))

pub space-yes : (x : Index) (m n w : ℕ) → Laid x m → x.area + n * w ≤ m → space_for x m n w ≡ true
unfolding space_for inside
space-yes x m n w l h = simp (laid-yes x m l, le-leb (x.area + n * w) m h)

-- ---- words of elements

pub length-words : (ts : List Tet) → length (words_of ts) ≡ 4 * length ts
unfolding flat
length-words [] = refl
length-words (t ∷ ts) = omega (arith, length-words ts)

words_append : (ts us : List Tet) → words_of (ts ++ us) ≡ words_of ts ++ words_of us
words_append ts us = ap flat (map-append vertices_of ts us) ∙ flat_append (map vertices_of ts) (map vertices_of us)

-- four words pasted are an element written
pub paste-element : (s : List ℕ) (k : ℕ) (t : Tet) → paste s k (vertices_of t) 4 ≡ written s k (words_of (t ∷ []))
unfolding written flat
paste-element s k t = append_assoc (take k s) (vertices_of t) (drop (k + 4) s)

-- ---- the element of a slot

pub slot-none : (x : Index) (s : List ℕ) (e : ℕ) → x.room ≤ e → gone_tet ≡ slot_at x s e
unfolding slot_at
slot-none x s e h = rw (le-ltb e x.room h) refl

pub slot_is : (x : Index) (s : List ℕ) (e : ℕ) → e < x.room
    → tet (corner_at x s (4 * e)) (corner_at x s (4 * e + 1)) (corner_at x s (4 * e + 2)) (corner_at x s (4 * e + 3)) ≡ slot_at x s e
unfolding slot_at
slot_is x s e h = rw (lt-ltb e x.room h) refl

-- words from the area on do not matter to it
pub slot_kept : (x : Index) (s t : List ℕ) {m : ℕ} → Laid x m → ((j : ℕ) → j < x.area → word_at t j ≡ word_at s j) → (e : ℕ) → slot_at x t e ≡ slot_at x s e
slot_kept x s t l same e =
    ⊎_elim
    (λ h. sym (slot_is x t e h)
    ∙ rw (same (x.slots + 4 * e) (omega arith), same (x.slots + (4 * e + 1)) (omega arith), same (x.slots + (4 * e + 2)) (omega arith), same (x.slots + (4 * e + 3)) (omega arith)) (slot_is x s e h))
    (λ h. sym (slot-none x t e h) ∙ slot-none x s e h)
    (side e x.room)

-- it is that of the list of elements
pub slot-element : (x : Index) (s : List ℕ) (n e : ℕ) (z : Tet) → n ≤ x.room → e < n → get_or (tets n (drop x.slots s)) e z ≡ slot_at x s e
unfolding tet_at
slot-element x s n e z h g =
    tets-at n (drop x.slots s) e z g
    ∙ rw (get_or-drop x.slots s (4 * e) 0, get_or-drop x.slots s (4 * e + 1) 0, get_or-drop x.slots s (4 * e + 2) 0, get_or-drop x.slots s (4 * e + 3) 0) (slot_is x s e (omega arith))

-- ---- the loop

module _ {A : Type 0} where
  -- what f gives for each
  abbrev pub each : (A → List Tet) → List A → List Tet
  each f [] = []
  each f (u ∷ us) = f u ++ each f us

  each_append : (f : A → List Tet) (us vs : List A) → each f (us ++ vs) ≡ each f us ++ each f vs
  each_append f [] vs = refl
  each_append f (u ∷ us) vs = ap (λ (l : List Tet). f u ++ l) (each_append f us vs) ∙ sym (append_assoc (f u) (each f us) (each f vs))

  -- of the first i of us the elements stand at b, n of them
  pub record Copying (f : A → List Tet) (b : ℕ) (us : List A) (s₀ s : List ℕ) (i n : ℕ) : Type 0 where
    pub bound : i ≤ length us
    pub few : n ≤ i
    pub number : n ≡ length (each f (take i us))
    pub is : s ≡ written s₀ b (words_of (each f (take i us)))

  pub copy_start : (f : A → List Tet) (b : ℕ) (us : List A) (s : List ℕ) → Copying f b us s s 0 0
  unfolding flat
  copy_start f b us s = record { bound = omega arith; few = omega arith; number = refl; is = sym (written_none s b) }

  module _ {f : A → List Tet} {b : ℕ} {us : List A} {s₀ s : List ℕ} {i n : ℕ} (room : b + 4 * length us ≤ length s₀) (g : Copying f b us s₀ s i n) where
    fits : b + length (words_of (each f (take i us))) ≤ length s₀
    fits = let a = g.bound in let c = g.few in let d = g.number in omega (arith, length-words (each f (take i us)))

    pub copy-long : length s ≡ length s₀
    copy-long = ap length g.is ∙ length-written s₀ b (words_of (each f (take i us))) fits

    pub copy_read : (j : ℕ) → j < b → word_at s j ≡ word_at s₀ j
    copy_read j h = ap (λ (u : List ℕ). word_at u j) g.is ∙ written_below s₀ b (words_of (each f (take i us))) fits j h

    pub copy-room : i < length us → b + 4 * n + 4 ≤ length s
    copy-room h = let a = g.few in omega (arith, copy-long)

    -- a turn
    pub copy-turn : (some : i < length us) (z : A) (r : ℕ) (t : List ℕ) → length (f (get_or us i z)) ≤ 1 → r ≡ length (f (get_or us i z))
        → t ≡ written s (b + 4 * n) (words_of (f (get_or us i z))) → Copying f b us s₀ t (i + 1) (n + r)
    copy-turn some z r t short er et = record {
      bound = omega arith;
      few = let a = g.few in omega arith;
      number = ap₂ (λ (j k : ℕ). j + k) g.number er ∙ sym (ap length next ∙ length-append (each f (take i us)) (f (get_or us i z)));
      is =
          et ∙ ap (λ (u : List ℕ). written u (b + 4 * n) (words_of (f (get_or us i z)))) g.is
          ∙ ap (λ (k : ℕ). written (written s₀ b (words_of (each f (take i us)))) (b + k) (words_of (f (get_or us i z)))) four
          ∙ written-more s₀ b (words_of (each f (take i us))) fits (words_of (f (get_or us i z)))
          ∙ ap (written s₀ b) (sym (ap words_of next ∙ words_append (each f (take i us)) (f (get_or us i z))));
    }
      where
        next : each f (take (i + 1) us) ≡ each f (take i us) ++ f (get_or us i z)
        next =
            ap (λ (k : ℕ). each f (take k us)) (add-one i) ∙ ap (each f) (take-suc us i z some) ∙ each_append f (take i us) (get_or us i z ∷ [])
            ∙ ap (λ (l : List Tet). each f (take i us) ++ l) (append-nil (f (get_or us i z)))

        four : 4 * n ≡ length (words_of (each f (take i us)))
        four = ap (λ (k : ℕ). 4 * k) g.number ∙ sym (length-words (each f (take i us)))

    pub copy-end : length us ≤ i → (n ≡ length (each f us)) × (s ≡ written s₀ b (words_of (each f us)))
    copy-end h =
        let e : take i us ≡ us = take_all i us h in
        (g.number ∙ ap (λ (l : List A). length (each f l)) e, g.is ∙ ap (λ (l : List A). written s₀ b (words_of (each f l))) e)

  -- one element each
  pub each_map : (f : A → Tet) (us : List A) → each (λ u. f u ∷ []) us ≡ map f us
  each_map f [] = refl
  each_map f (u ∷ us) = ap (λ (l : List Tet). f u ∷ l) (each_map f us)

-- those kept
pub each_keep : (p : Tet → Bool) (ts : List Tet) → each (λ t. keep p (t ∷ [])) ts ≡ keep p ts
each_keep p [] = refl
each_keep p (t ∷ ts) = elim (split (p t)) [ inl e ↦ rw e (ap (λ (l : List Tet). t ∷ l) (each_keep p ts)) | inr e ↦ rw e (each_keep p ts) ]

pub keep_one : (p : Tet → Bool) (t : Tet) → length (keep p (t ∷ [])) ≤ 1
keep_one p t = elim (split (p t)) [ inl e ↦ rw e (omega arith) | inr e ↦ rw e (omega arith) ]
