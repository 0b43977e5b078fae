-- How many bits a stratum has, as a machine counts them. Assumes nothing.
use mathlib.Core.Path.{◌≡◌, sym, ap}
use mathlib.Core.Logic.{inl, inr}
use Prim.Native.Nat.{ℕ, zero, suc, ◌+◌, ◌/◌, ◌%◌, ◌^◌, ◌<◌}
use native.Mathlib.Omega.{arith}
use borrow.Author.Tests.{eqb-true, eqb-false}
use lib.Arith.{lt-one}
use lib.Count.{ones, ones_step}
use lib.Dec.{eqb}
use lib.ListN.{length}
use Rattle.mesh.specs.Feature.{bits_from, bits_of}
use Rattle.mesh.proofs.Laws.Complex.Sets.{split}
use Rattle.mesh.proofs.Laws.LinkRows.Bits.{half_lt}

-- ---- how many

-- the bits from place k on are those that are set
count-from : (n k x : ℕ) → x < 2 ^ n → length (bits_from n k x) ≡ ones x
unfolding bits_from ones
count-from zero k x h = sym (ap ones (lt-one h))
count-from (suc n) k x h =
    let ih = count-from n (k + 1) (x / 2) (half_lt n x h) in
    elim (split (eqb (x % 2) 1)) [
      | inl e ↦ let o = eqb-true (x % 2) 1 e in rw e (omega (arith, ones_step x))
      | inr e ↦ let o = eqb-false (x % 2) 1 e in rw e (omega (arith, ones_step x))
    ]

-- the number of bits of a stratum
pub count_bits : (x : ℕ) → x < 2 ^ 38 → length (bits_of x) ≡ ones x
unfolding bits_of
count_bits x h = count-from 38 0 x h
