-- `root` meets its contract: the fields of x's pattern give its digits and exponent, and `sqrt` goes by the same cases (`Value.antt`). Assumes nothing.
use Rattle.std.proofs.Common.{◌≡◌, ℕ, ◌+◌, ◌-◌, ◌*◌, ◌%◌, ◌^◌, ◌<◌, ◌≤◌, true, false, T, pos, sym, ap, ◌∙◌, subst, lt_of_lt_of_le, mod-eq_of_lt, arith, lit≤}
use lib.Count.{count_leading_zeros}
use lib.Ieee.{Float, fin, binary64, fits, lt, to_bits, of_bits, div}
use Rattle.geometry.specs.Root.{number, root_of}
use Rattle.geometry.proofs.Laws.Root.Value.{field, digits, bits_small, infinite, normal, subnormal, low-digits, shifted, zeros, rest-nan}
use Rattle.geometry.proofs.root.root.Goals as goal
use Rattle.geometry.proofs.root.root.Goals.{Else-field-gt0, Start, Then-x}

-- what owning an `f64` tells: the format holds it
held : (c : Start) → T (fits binary64 c.args.x)
held c = subst T (sym c.well_formed.0.1) tt

-- x is above 0
above : (c : Then-x) → lt (fin false 0 (pos 0)) c.args.x ≡ true
unfolding of_bits
above c = c.if-x.true

pub returns-then-field-eq2047 : goal.returns-then-field-eq2047
returns-then-field-eq2047 c = infinite c.args.x (held c.before.before) (above c.before) c.if-field-eq2047.true

pub overflow_add-field : goal.overflow_add-field
overflow_add-field c = omega (arith, bits_small c.args.x (held c.before.before.before) (above c.before.before))

pub invariant_of-root_of_parts : goal.invariant_of-root_of_parts
invariant_of-root_of_parts c = record { finite = omega (arith, bits_small c.args.x (held c.before.before.before) (above c.before.before)) }

pub returns-then-field-gt0 : goal.returns-then-field-gt0
returns-then-field-gt0 c =
    let x = c.args.x in
    c.root_of_parts.ensures ∙ normal x (held c.before.before.before.before.before) (above c.before.before.before.before) c.if-field-eq2047.false c.if-field-gt0.true

-- the field is 0
flat : (w : ℕ) → w ≤ 0 → w ≡ 0
flat w h = omega arith

within : (t : ℕ) → t % 2 ^ 52 < 2 ^ 52
within t = omega arith

module _ (c : Else-field-gt0) where
  x : Float
  x = c.args.x

  low : field x ≡ 0
  unfolding x
  low = flat (field x) c.if-field-gt0.false

  count : (12 ≤ count_leading_zeros 64 (digits x)) × (count_leading_zeros 64 (digits x) ≤ 63) × (2 ^ 52 ≤ digits x * 2 ^ (count_leading_zeros 64 (digits x) - 11)) × (digits x * 2 ^ (count_leading_zeros 64 (digits x) - 11) < 2 ^ 53)
  unfolding x
  count = shifted (digits x) (low-digits x (held c.before.before.before) (above c.before.before) low) (within (to_bits binary64 x))

  kept : digits x * 2 ^ (count_leading_zeros 64 (digits x) - 11) % 2 ^ 64 ≡ digits x * 2 ^ (count_leading_zeros 64 (digits x) - 11)
  kept = mod-eq_of_lt (lt_of_lt_of_le count.3 (lit≤ {m = 2 ^ 53} {n = 2 ^ 64} tt))

pub overflow_sub-shift : goal.overflow_sub-shift
unfolding x
overflow_sub-shift c = omega (arith, (count c).0)

-- the shifted digits, and one bit above them
pattern : (m a : ℕ) → m < 2 ^ 53 → m + a % 2 * 2 ^ 52 < 2047 * 2 ^ 52
pattern m a h = omega arith

pub overflow_add-pattern : goal.overflow_add-pattern
unfolding x
overflow_add-pattern c = record { fits = word _ (pattern _ _ (subst (λ (z : ℕ). z < 2 ^ 53) (sym (kept c)) (count c).3)) }
  where
    word : (n : ℕ) → n < 2047 * 2 ^ 52 → n < 2 ^ 64
    word n h = omega arith

pub invariant_of-root_of_parts-then-x : goal.invariant_of-root_of_parts-then-x
unfolding x
invariant_of-root_of_parts-then-x c = record { finite = pattern _ _ (subst (λ (z : ℕ). z < 2 ^ 53) (sym (kept c)) (count c).3) }

pub root_of_parts-requires-then-x : goal.root_of_parts-requires-then-x
unfolding x
root_of_parts-requires-then-x c =
    let d = c.before in
    (subst (λ (z : ℕ). 2 ^ 52 ≤ z) (sym (kept d)) (count d).2, subst (λ (z : ℕ). z < 2 ^ 53) (sym (kept d)) (count d).3, omega (arith, (count d).1), omega (arith, (count d).1))

pub returns-then-x : goal.returns-then-x
unfolding x
returns-then-x c =
    let d = c.before.before in
    let y = x d in
    c.root_of_parts-then-x.ensures
    ∙ ap (λ (z : ℕ). root_of (number (z * 2 ^ (1074 - (count_leading_zeros 64 (digits y) - 11))))) (kept d)
    ∙ subnormal y (count_leading_zeros 64 (digits y) - 11) (held c.before.before.before.before.before) (above c.before.before.before.before) (low d) (omega (arith, (count d).1))

pub returns-then-x-2 : goal.returns-then-x-2
unfolding of_bits
returns-then-x-2 c = zeros c.args.x c.if-x-2.true

pub returns : goal.returns
unfolding of_bits div
returns c = rest-nan c.args.x c.if-x.false c.if-x-2.false
