-- Runs of rows with equal keys: what holds at the head of the loop that counts one, and its end. Assumes nothing.
use Rattle.std.proofs.Common.{◌≡◌, subst, Option, None, Some, ℕ, zero, suc, ◌+◌, ◌-◌, ◌*◌, ◌<◌, ◌≤◌, Bool, true, false, cond, ◌&&◌, leb, List, length, take, drop, sym, refl, ap, ◌∙◌, not-suc-le-zero, zero-add, sub-one, arith, drop_of_length-le, take-take, drop-drop, le-leb}
use Rattle.std.specs.Option.{MatchOption, unwrap_or}
use mathlib.Core.Bool.{and-false}
use native.Mathlib.Nat.{sub-zero}
use borrow.Author.Tests.{lt-leb}
use Rattle.mesh.specs.inside.Sort.{leading}
use Rattle.mesh.specs.inside.Rows.{rows, eq_row, fit_rows, run, run_length}
use Rattle.mesh.proofs.Laws.Rows.{fit_words, one-row, drop-rows, length-rows}

-- how many rows at the front begin with the key
abbrev pub of_key : ℕ → List ℕ → List (List ℕ) → ℕ
of_key kw key rs = leading (λ q. eq_row key (take kw q)) rs

run-same : (s key : List ℕ) (w kw p left : ℕ) → 0 < left → kw ≤ w → eq_row key (take kw (drop p s)) ≡ true
    → of_key kw key (rows w left (drop p s)) ≡ suc (of_key kw key (rows w (left - 1) (drop (p + w) s)))
unfolding rows leading
run-same s key w kw p zero h k e = absurd (not-suc-le-zero h)
run-same s key w kw p (suc l) h k e = simp (take-take, e, sub-one, drop-drop, k)

run-other : (s key : List ℕ) (w kw p left : ℕ) → 0 < left → kw ≤ w → eq_row key (take kw (drop p s)) ≡ false → of_key kw key (rows w left (drop p s)) ≡ 0
unfolding rows leading
run-other s key w kw p zero h k e = absurd (not-suc-le-zero h)
run-other s key w kw p (suc l) h k e = simp (take-take, e, k)

run_none : (l key : List ℕ) (w kw left : ℕ) → left ≡ 0 → of_key kw key (rows w left l) ≡ 0
unfolding rows leading
run_none l key w kw left e = rw e

-- what holds at the head of the loop
pub record Counting (s key : List ℕ) (i left w kw p m : ℕ) : Type 0 where
  pub all : m + of_key kw key (rows w (left - m) (drop p s)) ≡ of_key kw key (rows w left (drop i s))
  pub fits : p + (left - m) * w ≤ length s
  pub few : m ≤ left

pub count-start : (s key : List ℕ) (i left w kw : ℕ) → i + left * w ≤ length s → Counting s key i left w kw i 0
count-start s key i left w kw h = record { all = rw (sub-zero, zero-add); fits = rw sub-zero h; few = omega arith }

module _ {s key : List ℕ} {i left w kw p m : ℕ} (v : Counting s key i left w kw p m) where
  pub count_room : m < left → p + w ≤ length s
  count_room h =
      let e : left - m ≡ suc (left - m - 1) = omega arith in
      let f : (left - m) * w ≡ suc (left - m - 1) * w = ap (λ (k : ℕ). k * w) e in
      omega (arith, v.fits)

  pub count_turn : m < left → kw ≤ w → eq_row key (take kw (drop p s)) ≡ true → Counting s key i left w kw (p + w) (m + 1)
  count_turn h k e =
      let d : left - m - 1 ≡ left - (m + 1) = omega arith in
      let f : left - m ≡ suc (left - (m + 1)) = omega arith in
      let g : (left - m) * w ≡ suc (left - (m + 1)) * w = ap (λ (k : ℕ). k * w) f in
      let q = run-same s key w kw p (left - m) (omega arith) k e in
      record {
        all = omega (arith, v.all, q, ap (λ (u : ℕ). of_key kw key (rows w u (drop (p + w) s))) d);
        fits = omega (arith, v.fits);
        few = omega arith;
      }

  pub count-stop : m < left → kw ≤ w → eq_row key (take kw (drop p s)) ≡ false → m ≡ of_key kw key (rows w left (drop i s))
  count-stop h k e = let q = run-other s key w kw p (left - m) (omega arith) k e in omega (arith, v.all)

  pub count-end : left ≤ m → m ≡ of_key kw key (rows w left (drop i s))
  count-end h = let q = run_none (drop p s) key w kw (left - m) (omega arith) in omega (arith, v.all)

-- ---- the run as what is before the first other row

module _ (s key : List ℕ) (i left w kw : ℕ) (room : i + left * w ≤ length s) (wide : kw ≤ w) where
  up-to : (m : ℕ) → m ≤ left → ((k : ℕ) → 0 ≤ k → k < m → eq_row key (take kw (drop (i + k * w) s)) ≡ true) → Counting s key i left w kw (i + m * w) m
  up-to zero h f = let e : i ≡ i + 0 * w = omega arith in subst (λ (p : ℕ). Counting s key i left w kw p 0) e (count-start s key i left w kw room)
  up-to (suc m) h f =
      let e : i + m * w + w ≡ i + (m + 1) * w = omega arith in
      let g : m + 1 ≡ suc m = omega arith in
      let v = count_turn (up-to m (omega arith) (λ k a b. f k a (omega arith))) (omega arith) wide (f m (omega arith) (omega arith)) in
      subst (λ (n : ℕ). Counting s key i left w kw (i + n * w) n) g (subst (λ (p : ℕ). Counting s key i left w kw p (m + 1)) e v)

  pub count-first : (r : Option ℕ) → MatchOption r ((k : ℕ) → 0 ≤ k → k < left → eq_row key (take kw (drop (i + k * w) s)) ≡ true)
      (λ m. (0 ≤ m) × (m < left) × (eq_row key (take kw (drop (i + m * w) s)) ≡ false) × ((k : ℕ) → 0 ≤ k → k < m → eq_row key (take kw (drop (i + k * w) s)) ≡ true))
      → unwrap_or r left ≡ of_key kw key (rows w left (drop i s))
  count-first None h = count-end (up-to left (omega arith) h) (omega arith)
  count-first (Some m) h = count-stop (up-to m (omega (arith, h.1)) h.3) h.1 wide h.2

-- ---- the run that begins at a row

pub run_is : (s : List ℕ) (w kw left : ℕ) → 0 < left → kw ≤ w → of_key kw (take kw s) (rows w left s) ≡ run kw (rows w left s)
unfolding rows run
run_is s w kw zero h k = absurd (not-suc-le-zero h)
run_is s w kw (suc l) h k = simp (take-take, k)

module _ (first n w kw : ℕ) (s : List ℕ) where
  pub length-is : fit_rows n w (length s) ≡ true → kw ≤ w → run_length first n w kw s ≡ run kw (drop first (rows w n s))
  unfolding run_length
  length-is e k = rw (e, le-leb kw w k)

  pub run-counted : first < n → fit_rows n w (length s) ≡ true → kw ≤ w
      → of_key kw (take kw (drop (first * w) s)) (rows w (n - first) (drop (first * w) s)) ≡ run_length first n w kw s
  run-counted h e k =
      let f : n ≡ first + (n - first) = omega arith in
      run_is (drop (first * w) s) w kw (n - first) (omega arith) k
      ∙ ap (run kw) (sym (drop-rows w first (n - first) s) ∙ ap (λ (u : ℕ). drop first (rows w u s)) (sym f))
      ∙ sym (length-is e k)

  pub run_room : first < n → fit_rows n w (length s) ≡ true → kw ≤ w → (first * w + (n - first) * w ≤ length s) × (first * w + kw ≤ length s) × (kw ≤ w)
  run_room h e k =
      let f : first + (n - first) ≡ n = omega arith in
      let g : (first + (n - first)) * w ≡ n * w = ap (λ (u : ℕ). u * w) f in
      let r = one-row (n - first) w (omega arith) in
      (omega (arith, (fit_words n w (length s) e).1), omega (arith, (fit_words n w (length s) e).1), k)

  -- no run: past the last row, a key wider than a row, no room
  pub run_past : n ≤ first → 0 ≡ run_length first n w kw s
  unfolding run_length run
  run_past h = simp (drop_of_length-le (rows w n s) {i = first} (omega (arith, length-rows w n s))) (sym (zeros (fit_rows n w (length s) && leb kw w)))
    where
      zeros : (b : Bool) → ◌≡◌ {A = ℕ} (cond b 0 0) 0
      zeros true = refl
      zeros false = refl

  pub run-wide : w < kw → 0 ≡ run_length first n w kw s
  unfolding run_length
  run-wide h = rw (lt-leb kw w h, and-false)

  pub run-unfit : fit_rows n w (length s) ≡ false → 0 ≡ run_length first n w kw s
  unfolding run_length
  run-unfit e = rw e
