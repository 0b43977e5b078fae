-- Equal neighbours taken out in place: what holds at the head of the loop, and that each turn keeps it. Assumes nothing.
use Rattle.std.proofs.Common.{◌≡◌, ℕ, zero, suc, ◌+◌, ◌-◌, ◌*◌, ◌<◌, ◌≤◌, true, false, List, [], ◌∷◌, ◌++◌, length, take, drop, sym, refl, ap, ◌∙◌, ap₂, ⊎_elim, append_assoc, append-nil, not-suc-le-zero, zero-add, zero-mul, sub-one, arith, length-append, length-drop, take-append-drop, drop-drop}
use lib.Seq.{paste, take-paste, drop-paste, length-paste}
use Rattle.mesh.specs.Sort.{unique_after, unique}
use Rattle.mesh.specs.inside.Rows.{rows, eq_row, fit_rows, unique_rows, unique_area}
use Rattle.mesh.specs.Words.{flat}
use Rattle.mesh.proofs.Laws.Bools.{split}
use Rattle.mesh.proofs.Laws.Parts.{paste-part}
use Rattle.mesh.proofs.Laws.Unique.{length-unique}
use Rattle.mesh.proofs.Laws.Rows.{one-row, fit_words, rows-flat, length-flat, length-rows, shape-rows, shape-unique}

-- what holds at the head of the loop: `last` is where the last row that was kept stands
pub record Keeping (s₀ : List ℕ) (n w : ℕ) (s : List ℕ) (last i left kept : ℕ) : Type 0 where
  pub count : i + left * w ≡ n * w
  pub behind : last + w ≤ i
  pub words : last + w ≡ kept * w
  pub long : length s ≡ length s₀
  pub tail : drop (last + w) s ≡ drop (last + w) s₀
  pub all : take (last + w) s ++ flat (unique_after eq_row (take w (drop last s)) (rows w left (drop i s₀))) ≡ flat (unique eq_row (rows w n s₀))
  pub number : kept + length (unique_after eq_row (take w (drop last s)) (rows w left (drop i s₀))) ≡ length (unique eq_row (rows w n s₀))
  pub few : kept + left ≤ n

after_same : (s₀ p : List ℕ) (w i left : ℕ) → 0 < left → eq_row p (take w (drop i s₀)) ≡ true
    → unique_after eq_row p (rows w left (drop i s₀)) ≡ unique_after eq_row p (rows w (left - 1) (drop (i + w) s₀))
unfolding rows unique_after
after_same s₀ p w i zero h e = absurd (not-suc-le-zero h)
after_same s₀ p w i (suc l) h e = simp (e, sub-one, drop-drop)

after-new : (s₀ p : List ℕ) (w i left : ℕ) → 0 < left → eq_row p (take w (drop i s₀)) ≡ false
    → unique_after eq_row p (rows w left (drop i s₀)) ≡ take w (drop i s₀) ∷ unique_after eq_row (take w (drop i s₀)) (rows w (left - 1) (drop (i + w) s₀))
unfolding rows unique_after
after-new s₀ p w i zero h e = absurd (not-suc-le-zero h)
after-new s₀ p w i (suc l) h e = simp (e, sub-one, drop-drop)

after_none : (p l : List ℕ) (w left : ℕ) → left ≤ 0 → unique_after eq_row p (rows w left l) ≡ []
unfolding rows unique_after
after_none p l w zero h = refl
after_none p l w (suc m) h = absurd (not-suc-le-zero h)

-- words past what is kept are as they were
past : (s s₀ : List ℕ) (k i : ℕ) → k ≤ i → drop k s ≡ drop k s₀ → drop i s ≡ drop i s₀
past s s₀ k i h e =
    let f : k + (i - k) ≡ i = omega arith in
    ap (λ (u : ℕ). drop u s) (sym f) ∙ sym (drop-drop (i - k) k s) ∙ ap (drop (i - k)) e ∙ drop-drop (i - k) k s₀ ∙ ap (λ (u : ℕ). drop u s₀) f

-- what the result is where there is room, and where not
pub unique-is : (n w : ℕ) (s : List ℕ) → fit_rows n w (length s) ≡ true → unique_rows n w s ≡ unique eq_row (rows w n s)
unfolding unique_rows
unique-is n w s e = rw e

pub unique-none : (n w : ℕ) (s : List ℕ) → fit_rows n w (length s) ≡ false → (0 ≡ length (unique_rows n w s)) × (s ≡ unique_area n w s)
unfolding unique_rows unique_area flat
unique-none n w s e = rw (e, zero-mul) (refl, refl)

no_rows : (n w : ℕ) (s : List ℕ) → n ≡ 0 → (0 ≡ length (unique eq_row (rows w n s))) × (s ≡ flat (unique eq_row (rows w n s)) ++ drop (length (unique eq_row (rows w n s)) * w) s)
unfolding rows unique flat
no_rows n w s h = rw (h, zero-mul) (refl, refl)

pub unique-empty : (n w : ℕ) (s : List ℕ) → n ≡ 0 → (0 ≡ length (unique_rows n w s)) × (s ≡ unique_area n w s)
unfolding unique_area
unique-empty n w s h = ⊎_elim (λ e. rw (unique-is n w s e) (no_rows n w s h)) (unique-none n w s) (split (fit_rows n w (length s)))

module _ {s₀ : List ℕ} {n w : ℕ} {s : List ℕ} {last i left kept : ℕ} (v : Keeping s₀ n w s last i left kept) (fit : fit_rows n w (length s₀) ≡ true) where
  pub keep-room : 0 < left → (last + w ≤ length s) × (i + w ≤ length s)
  keep-room h = let o = one-row left w h in let a = v.count in let b = v.behind in let d = v.long in omega (arith, (fit_words n w (length s₀) fit).1)

  pub copy-room : 0 < left → (i + w ≤ length s) × (last + w + w ≤ length s) × (i < last + w → i + w ≤ last + w)
  copy-room h = let r = keep-room h in (r.1, omega (arith, v.behind), λ l. omega (arith, v.behind))

  row_kept : take w (drop i s) ≡ take w (drop i s₀)
  row_kept = ap (take w) (past s s₀ (last + w) i v.behind v.tail)

  pub turn-same : 0 < left → eq_row (take w (drop last s)) (take w (drop i s)) ≡ true → Keeping s₀ n w s last (i + w) (left - 1) kept
  turn-same h e =
      let o = one-row left w h in
      let q = after_same s₀ (take w (drop last s)) w i left h (ap (eq_row (take w (drop last s))) (sym row_kept) ∙ e) in
      record {
        count = omega (arith, v.count);
        behind = omega (arith, v.behind);
        words = v.words;
        long = v.long;
        tail = v.tail;
        all = rw (← q) v.all;
        number = rw (← q) v.number;
        few = omega (arith, v.few);
      }

  pub turn-new : 0 < left → eq_row (take w (drop last s)) (take w (drop i s)) ≡ false → (s' : List ℕ) → s' ≡ paste s (last + w) (drop i s) w
      → Keeping s₀ n w s' (last + w) (i + w) (left - 1) (kept + 1)
  unfolding flat
  turn-new h e s' f =
      let o = one-row left w h in
      let k = last + w in
      let x = drop i s in
      let r = keep-room h in
      let c = (copy-room h).1 in
      let hw : w ≤ length x = omega (arith, length-drop i s) in
      let q = after-new s₀ (take w (drop last s)) w i left h (ap (eq_row (take w (drop last s))) (sym row_kept) ∙ e) in
      let p : take w (drop k s') ≡ take w (drop i s₀) = ap (λ (l : List ℕ). take w (drop k l)) f ∙ paste-part s x k w c hw ∙ row_kept in
      let t : take (k + w) s' ≡ take k s ++ take w (drop i s₀) = ap (take (k + w)) f ∙ take-paste s k x w r.0 hw ∙ ap (λ (l : List ℕ). take k s ++ l) row_kept in
      record {
        count = omega (arith, v.count);
        behind = omega (arith, v.behind);
        words = omega (arith, v.words);
        long = ap length f ∙ length-paste s k x w c hw ∙ v.long;
        tail = ap (drop (k + w)) f ∙ drop-paste s k x w r.0 hw ∙ past s s₀ k (k + w) (omega arith) v.tail;
        all = rw (p, t, append_assoc) (ap (λ (l : List (List ℕ)). take k s ++ flat l) (sym q) ∙ v.all);
        number = rw p (omega (arith, ap length q, v.number));
        few = omega (arith, v.few);
      }

  kept-all : left ≤ 0 → (kept ≡ length (unique eq_row (rows w n s₀))) × (s ≡ flat (unique eq_row (rows w n s₀)) ++ drop (kept * w) s₀)
  unfolding flat
  kept-all h =
      let q = after_none (take w (drop last s)) (drop i s₀) w left h in
      let e : take (last + w) s ≡ flat (unique eq_row (rows w n s₀)) = sym (append-nil (take (last + w) s)) ∙ (rw q at v.all) in (
        omega (arith, ap length q, v.number),
        sym (take-append-drop (last + w) s) ∙ ap₂ (λ (a b : List ℕ). a ++ b) e (v.tail ∙ ap (λ (u : ℕ). drop u s₀) v.words),
      )

  pub keep-end : left ≤ 0 → (kept ≡ length (unique_rows n w s₀)) × (s ≡ unique_area n w s₀)
  unfolding unique_area
  keep-end h =
      let k = kept-all h in
      let e = unique-is n w s₀ fit in
      let c : kept ≡ length (unique_rows n w s₀) = k.0 ∙ ap length (sym e) in
      (c, k.1 ∙ ap₂ (λ (u : List (List ℕ)) (m : ℕ). flat u ++ drop (m * w) s₀) (sym e) c)

-- where the loop begins
pub keep-start : (s : List ℕ) (n w : ℕ) → (n ≡ 0 → ⊥) → Keeping s n w s 0 w (n - 1) 1
unfolding rows unique flat
keep-start s zero w h = absurd (h refl)
keep-start s (suc n) w h = record {
  count = rw sub-one (omega arith);
  behind = omega arith;
  words = omega arith;
  long = refl;
  tail = refl;
  all = rw (sub-one, zero-add);
  number = rw sub-one (omega arith);
  few = omega arith;
}

-- ---- the area

module _ (n w : ℕ) (s : List ℕ) where
  -- its rows, where there is room
  pub rows-unique : fit_rows n w (length s) ≡ true → rows w (length (unique_rows n w s)) (unique_area n w s) ≡ unique eq_row (rows w n s)
  unfolding unique_area
  rows-unique e =
      let f = (fit_words n w (length s) e).1 in
      ap (λ (u : List (List ℕ)). rows w (length u) (flat u ++ drop (length u * w) s)) (unique-is n w s e)
      ∙ rows-flat (shape-unique (shape-rows w n s f)) (drop (length (unique eq_row (rows w n s)) * w) s)

  -- no more rows than before
  pub length-unique-rows : length (unique_rows n w s) ≤ n
  length-unique-rows = ⊎_elim yes no (split (fit_rows n w (length s)))
    where
      yes : fit_rows n w (length s) ≡ true → length (unique_rows n w s) ≤ n
      yes e = omega (arith, ap length (unique-is n w s e), length-unique eq_row (rows w n s), length-rows w n s)

      no : fit_rows n w (length s) ≡ false → length (unique_rows n w s) ≤ n
      no e = omega (arith, (unique-none n w s e).0)

  unique-long : fit_rows n w (length s) ≡ true → length (unique_area n w s) ≡ length s
  unfolding unique_area
  unique-long e =
      let f = (fit_words n w (length s) e).1 in
      let u = unique eq_row (rows w n s) in
      let g : length u * w ≤ n * w = native.Mathlib.Nat.mul-le-mul_right w (omega (arith, length-unique eq_row (rows w n s), length-rows w n s)) in
      ap (λ (u : List (List ℕ)). length (flat u ++ drop (length u * w) s)) (unique-is n w s e)
      ∙ omega (arith, length-append (flat u) (drop (length u * w) s), length-flat (shape-unique (shape-rows w n s f)), length-drop (length u * w) s)

  -- its length
  pub length-unique-area : length (unique_area n w s) ≡ length s
  length-unique-area = ⊎_elim unique-long no (split (fit_rows n w (length s)))
    where
      no : fit_rows n w (length s) ≡ false → length (unique_area n w s) ≡ length s
      no e = ap length (sym (unique-none n w s e).1)
