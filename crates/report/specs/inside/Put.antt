-- What a function that writes words of a block leaves. For the contracts of private functions.
use Rattle.std.specs.Prelude.{◌≡◌, ℕ, ◌+◌, ◌*◌, ◌%◌, ◌^◌, List, length}
use Rattle.std.proofs.lemmas.List.Edits.{sets}
use Rattle.report.specs.Write.{bytes_of, total_of}

-- the words stand from the byte `at` on, `end` is the place behind them, and they are added to the sum modulo 2^32
pub record Put (old new : List ℕ) (at sum end after : ℕ) (words : List ℕ) : Type 0 where
  pub bytes : new ≡ sets old at (bytes_of words)
  pub place : end ≡ at + 4 * length words
  pub total : after % 2 ^ 32 ≡ (sum + total_of words) % 2 ^ 32
