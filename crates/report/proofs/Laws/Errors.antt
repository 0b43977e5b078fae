-- No error has the number 0. Assumes nothing.
use Rattle.std.proofs.Common.{◌≡◌, arith}
use Rattle.report.specs.declared.error.FileError.{FileError}
use Rattle.report.specs.declared.error.FileError.TheVariants.{WrongLength, WrongSum, UnexpectedBlock, SpareWord, TooLarge, UnknownField}
use Rattle.report.specs.inside.Error.{error_number}

pub error-some : (e : FileError) → error_number e ≡ 0 → ⊥
error-some WrongLength h = omega arith
error-some WrongSum h = omega arith
error-some UnexpectedBlock h = omega arith
error-some SpareWord h = omega arith
error-some TooLarge h = omega arith
error-some UnknownField h = omega arith
