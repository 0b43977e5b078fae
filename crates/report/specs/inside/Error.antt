-- The numbers of what can be wrong with a file, as values of the code's types. The rules that give them are in `Block`. Definitions only.
use Rattle.std.specs.Prelude.{ℕ, Result, Ok, Err}
use Rattle.report.specs.declared.error.FileError.{FileError}
use Rattle.report.specs.declared.error.FileError.TheVariants.{WrongLength, WrongSum, UnexpectedBlock, SpareWord, TooLarge, UnknownField}

-- the number of an error
abbrev pub error_number : FileError → ℕ
error_number WrongLength = 1
error_number WrongSum = 2
error_number UnexpectedBlock = 3
error_number SpareWord = 30
error_number TooLarge = 10
error_number UnknownField = 11

-- the number of a test's outcome: 0 where it passes
abbrev pub number_of : Result (Unit {0}) FileError → ℕ
number_of (Ok u) = 0
number_of (Err e) = error_number e
