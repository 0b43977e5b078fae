-- The halving search: the turns of its loop, and that among sorted rows it finds the first that reaches the key. Assumes nothing.
use Rattle.std.proofs.Common.{◌≡◌, ℕ, zero, suc, ◌+◌, ◌-◌, ◌*◌, ◌/◌, ◌<◌, ◌≤◌, Bool, true, false, List, [], length, take, drop, sym, refl, ap, ◌∙◌, subst, ap₂, ⊎_elim, arith, take-take, eq-eqb, ne_eqb, le-leb}
use mathlib.Core.Bool.{and-false}
use lib.Seq.{take-length}
use borrow.Author.Tests.{lt-leb}
use Rattle.mesh.specs.inside.Sort.{ordered, halving}
use Rattle.mesh.specs.inside.Rows.{rows, le_row, fit_rows, reaches, first_at_least}
use Rattle.mesh.proofs.Laws.Bools.{split, clash, fails}
use Rattle.mesh.proofs.Laws.Parts.{side}
use Rattle.mesh.proofs.Laws.Rows.{fit_words, le_row-refl, le_row-trans, le_row-take, rows_at, length-rows}
use Rattle.mesh.proofs.Laws.Sort.{ordered_at}

-- ---- the search

halving-none : (p : ℕ → Bool) (f lo n : ℕ) → n ≡ 0 → halving p f lo n ≡ lo
unfolding halving
halving-none p zero lo n h = refl
halving-none p (suc f) lo n h = simp (eq-eqb n 0 h)

halving-yes : (p : ℕ → Bool) (f lo n : ℕ) → 0 < n → p (lo + n / 2) ≡ true → halving p (suc f) lo n ≡ halving p f lo (n / 2)
unfolding halving
halving-yes p f lo n h e = simp (ne_eqb n 0 (λ z. some z), e)
  where
    some : n ≡ 0 → ⊥
    some z = omega arith

halving-no : (p : ℕ → Bool) (f lo n : ℕ) → 0 < n → p (lo + n / 2) ≡ false → halving p (suc f) lo n ≡ halving p f (lo + n / 2 + 1) (n - (n / 2 + 1))
unfolding halving
halving-no p f lo n h e = simp (ne_eqb n 0 (λ z. some z), e)
  where
    some : n ≡ 0 → ⊥
    some z = omega arith

-- what holds at the head of the loop
pub record Halving (p : ℕ → Bool) (n lo left : ℕ) : Type 0 where
  pub fuel : ℕ
  pub enough : left ≤ fuel
  pub within : lo + left ≤ n
  pub all : halving p fuel lo left ≡ halving p n 0 n

pub halving-start : (p : ℕ → Bool) (n : ℕ) → Halving p n 0 n
halving-start p n = record { fuel = n; enough = omega arith; within = omega arith; all = refl }

module _ {p : ℕ → Bool} {n lo left : ℕ} (v : Halving p n lo left) where
  less : 0 < left → v.fuel ≡ suc (v.fuel - 1)
  less h = omega (arith, v.enough)

  pub halving-left : 0 < left → p (lo + left / 2) ≡ true → Halving p n lo (left / 2)
  halving-left h e = record {
    fuel = v.fuel - 1;
    enough = omega (arith, v.enough);
    within = omega (arith, v.within);
    all = sym (halving-yes p (v.fuel - 1) lo left h e) ∙ ap (λ (f : ℕ). halving p f lo left) (sym (less h)) ∙ v.all;
  }

  pub halving-right : 0 < left → p (lo + left / 2) ≡ false → Halving p n (lo + left / 2 + 1) (left - (left / 2 + 1))
  halving-right h e = record {
    fuel = v.fuel - 1;
    enough = omega (arith, v.enough);
    within = omega (arith, v.within);
    all = sym (halving-no p (v.fuel - 1) lo left h e) ∙ ap (λ (f : ℕ). halving p f lo left) (sym (less h)) ∙ v.all;
  }

  pub halving-end : left ≤ 0 → lo ≡ halving p n 0 n
  halving-end h = sym (halving-none p v.fuel lo left (omega arith)) ∙ v.all

-- ---- in an area

module _ (n w : ℕ) (key s : List ℕ) where
  pub search_is : fit_rows n w (length s) ≡ true → length key ≤ w → first_at_least n w key s ≡ halving (reaches key w s) n 0 n
  unfolding first_at_least
  search_is e k = rw (e, le-leb (length key) w k)

  pub search-wide : w < length key → 0 ≡ first_at_least n w key s
  unfolding first_at_least
  search-wide h = rw (lt-leb (length key) w h, and-false)

  pub search-unfit : fit_rows n w (length s) ≡ false → 0 ≡ first_at_least n w key s
  unfolding first_at_least
  search-unfit e = rw e

  pub search-room : fit_rows n w (length s) ≡ true → length key ≤ w → (m : ℕ) → m < n → (0 + length key ≤ length key) × (m * w + length key ≤ length s)
  search-room e k m h =
      let g : (m + 1) * w ≤ n * w = native.Mathlib.Nat.mul-le-mul_right w (omega arith) in
      (omega arith, omega (arith, (fit_words n w (length s) e).1))

  -- the test as the code makes it
  pub reaches-is : (m : ℕ) (b : Bool) → le_row (take (length key) (drop 0 key)) (take (length key) (drop (m * w) s)) ≡ b → reaches key w s m ≡ b
  unfolding reaches
  reaches-is m b e = ap (λ (u : List ℕ). le_row u (take (length key) (drop (m * w) s))) (sym (take-length key)) ∙ e

-- ---- where the test, once passed, passes from there on

-- r is the first of the n numbers from lo on that passes
pub record First (p : ℕ → Bool) (lo n r : ℕ) : Type 0 where
  pub from : lo ≤ r
  pub most : r ≤ lo + n
  pub under : (m : ℕ) → lo ≤ m → m < r → p m ≡ false
  pub over : (m : ℕ) → r ≤ m → m < lo + n → p m ≡ true

-- passed at a, passed at b
abbrev pub Rising : (ℕ → Bool) → ℕ → ℕ → Type 0
Rising p lo n = (a b : ℕ) → lo ≤ a → a ≤ b → b < lo + n → p a ≡ true → p b ≡ true

first-none : (p : ℕ → Bool) (f lo n : ℕ) → n ≡ 0 → First p lo n (halving p f lo n)
first-none p f lo n h =
    let e = halving-none p f lo n h in
    record {
      from = omega arith;
      most = omega arith;
      under = λ m g l. absurd (apart m g (omega arith));
      over = λ m g l. absurd (apart m (omega arith) (omega arith));
    }
  where
    apart : (m : ℕ) → lo ≤ m → m < lo → ⊥
    apart m g l = omega arith

first-left : (p : ℕ → Bool) (lo n r : ℕ) → 0 < n → Rising p lo n → p (lo + n / 2) ≡ true → First p lo (n / 2) r → First p lo n r
first-left p lo n r h up e v = record {
  from = v.from;
  most = omega (arith, v.most);
  under = v.under;
  over = λ m g l. ⊎_elim (λ z. v.over m g z) (λ z. up (lo + n / 2) m (omega arith) z l e) (side m (lo + n / 2));
}

first-right : (p : ℕ → Bool) (lo n r : ℕ) → 0 < n → Rising p lo n → p (lo + n / 2) ≡ false → First p (lo + n / 2 + 1) (n - (n / 2 + 1)) r → First p lo n r
first-right p lo n r h up e v = record {
  from = omega (arith, v.from);
  most = omega (arith, v.most);
  under = λ m g l. ⊎_elim (λ z. before m g z) (λ z. v.under m z l) (side m (lo + n / 2 + 1));
  over = λ m g l. v.over m g (omega arith);
}
  where
    before : (m : ℕ) → lo ≤ m → m < lo + n / 2 + 1 → p m ≡ false
    before m g z = fails (p m) (λ k. clash (p (lo + n / 2)) (up m (lo + n / 2) g (omega arith) (omega arith) k) e)

-- the search finds the first that passes
pub halving-first : (p : ℕ → Bool) (f lo n : ℕ) → n ≤ f → Rising p lo n → First p lo n (halving p f lo n)
halving-first p zero lo n h up = first-none p zero lo n (omega arith)
halving-first p (suc f) lo n h up =
    ⊎_elim (some (halving-first p f)) (λ z. first-none p (suc f) lo n (omega arith)) (side 0 n)
  where
    some : ((lo n : ℕ) → n ≤ f → Rising p lo n → First p lo n (halving p f lo n)) → 0 < n → First p lo n (halving p (suc f) lo n)
    some ih z = ⊎_elim yes no (split (p (lo + n / 2)))
      where
        yes : p (lo + n / 2) ≡ true → First p lo n (halving p (suc f) lo n)
        yes e = subst (First p lo n) (sym (halving-yes p f lo n z e)) (first-left p lo n _ z up e (ih lo (n / 2) (omega arith) (λ a b g k l. up a b g k (omega arith))))

        no : p (lo + n / 2) ≡ false → First p lo n (halving p (suc f) lo n)
        no e = subst (First p lo n) (sym (halving-no p f lo n z e))
            (first-right p lo n _ z up e (ih (lo + n / 2 + 1) (n - (n / 2 + 1)) (omega arith) (λ a b g k l. up a b (omega arith) k (omega arith))))

-- among sorted rows: the rows before it do not reach the key, those from it on do
pub first-at-least : (n w : ℕ) (key s : List ℕ) → fit_rows n w (length s) ≡ true → length key ≤ w → ordered le_row (rows w n s) ≡ true
    → First (reaches key w s) 0 n (first_at_least n w key s)
unfolding reaches
first-at-least n w key s e k o = rw (search_is n w key s e k) (halving-first (reaches key w s) n 0 n (omega arith) up)
  where
    row : ℕ → List ℕ
    row m = take w (drop (m * w) s)

    cut : (m : ℕ) → take (length key) (row m) ≡ take (length key) (drop (m * w) s)
    cut m = take-take (length key) w (drop (m * w) s) k

    up : (a b : ℕ) → 0 ≤ a → a ≤ b → b < 0 + n → reaches key w s a ≡ true → reaches key w s b ≡ true
    up a b z g l h =
        let q : le_row (row a) (row b) ≡ true =
        ap₂ le_row (sym (rows_at w n s a (omega arith))) (sym (rows_at w n s b (omega arith)))
        ∙ ordered_at le_row le_row-trans le_row-refl (rows w n s) [] a b o g (omega (arith, length-rows w n s)) in
        le_row-trans key (take (length key) (drop (a * w) s)) (take (length key) (drop (b * w) s)) h
        (ap₂ le_row (sym (cut a)) (sym (cut b)) ∙ le_row-take (length key) (row a) (row b) q)
