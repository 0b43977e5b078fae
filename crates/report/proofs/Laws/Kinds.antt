-- The kinds of the fields, one by one. Assumes nothing.
use Rattle.std.proofs.Common.{◌≡◌, ℕ, suc, ◌+◌, ◌-◌, ◌<◌, ◌≤◌, Bool, true, false, leb, List, sym, ap, arith, le-leb, ne_eqb}
use borrow.Author.Tests.{lt-leb}
use Rattle.std.specs.Prelude.{Result, Ok, Err}
use Rattle.std.specs.Result.{is_ok, result_unwrap_or}
use Rattle.geometry.specs.declared.field.Kind.{Kind}
use Rattle.geometry.specs.declared.field.UnknownKind.{UnknownKind}
use Rattle.geometry.specs.Field.{number_of, NumberOf}
use Rattle.mesh.specs.Words.{numbers}
use Rattle.mesh.specs.Tests.{every}
use Rattle.report.specs.Format.{field_places, ball_kind}
use Rattle.report.specs.Block.{fields_in, kind_at, field_from, kinds_number}

module _ (p : ℕ → Bool) (n j : ℕ) (b : Bool) (all : every p (numbers j (n - j)) ≡ b) where
  -- the number j passes
  pub every-turn : j < n → p j ≡ true → every p (numbers (j + 1) (n - (j + 1))) ≡ b
  unfolding numbers
  every-turn h t = let e : n - j ≡ suc (n - (j + 1)) = omega arith in rw (e, t) at all

  -- the number j does not pass
  pub every-fail : j < n → p j ≡ false → b ≡ false
  unfolding numbers
  every-fail h t = let e : n - j ≡ suc (n - (j + 1)) = omega arith in sym (rw (e, t) at all)

  -- none is left
  pub every-end : n ≤ j → b ≡ true
  unfolding numbers
  every-end h = let e : n - j ≡ 0 = omega arith in sym (rw e at all)

-- a known kind
abbrev pub known : List ℕ → ℕ → Bool
known s j = leb (kind_at s j) ball_kind

-- "over 8 fields"
pub kinds-over : (s : List ℕ) (n : ℕ) → n ≡ fields_in s → 8 < n → 11 ≡ kinds_number s
unfolding kinds_number
kinds-over s n e h = let g : field_places < fields_in s = omega arith in rw (lt-leb (fields_in s) field_places g)

-- "an unknown kind"
pub kinds-unknown : (s : List ℕ) (n : ℕ) → n ≡ fields_in s → n ≤ 8 → every (known s) (numbers 0 n) ≡ false → 11 ≡ kinds_number s
unfolding kinds_number
kinds-unknown s n e h f = let g : fields_in s ≤ field_places = omega arith in rw (le-leb (fields_in s) field_places g, rw e at f)

-- all known
pub kinds-known : (s : List ℕ) (n : ℕ) → n ≡ fields_in s → n ≤ 8 → every (known s) (numbers 0 n) ≡ true → 0 ≡ kinds_number s
unfolding kinds_number
kinds-known s n e h f = let g : fields_in s ≤ field_places = omega arith in rw (le-leb (fields_in s) field_places g, rw e at f)

-- a number is read as a kind where it is known
pub kind-known : (n : ℕ) (r : Result Kind UnknownKind) → NumberOf n r → is_ok r ≡ leb n ball_kind
kind-known n (Ok Kind.Level) e = sym (le-leb n ball_kind (omega arith))
kind-known n (Ok Kind.Plane) e = sym (le-leb n ball_kind (omega arith))
kind-known n (Ok Kind.Ball) e = sym (le-leb n ball_kind (omega arith))
kind-known n (Err u) e = sym (lt-leb n ball_kind e.1)

-- the kind that is read, and a ball for what is unknown, give the field of the number
pub kind-field : (s : List ℕ) (i n : ℕ) (r : Result Kind UnknownKind) → NumberOf n r → field_from s (number_of (result_unwrap_or r Kind.Ball)) i ≡ field_from s n i
unfolding field_from
kind-field s i n (Ok k) e = ap (λ (m : ℕ). field_from s m i) e
kind-field s i n (Err u) e = let h : 2 < n = e.1 in rw (ne_eqb n 0 (λ f. omega arith), ne_eqb n 1 (λ f. omega arith))
