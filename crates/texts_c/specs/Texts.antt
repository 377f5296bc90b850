-- What `read` and `print` give to C and COBOL.
use Rattle.std.specs.Prelude.{Result, List, ℕ}
use Rattle.spelling.specs.Reading.{read_condition}
use Rattle.spelling.specs.Printing.{print_condition}
use Rattle.books.specs.declared.Counts.{Counts}
use Rattle.books.specs.declared.ReadRefusal.{ReadRefusal}
use Rattle.books.specs.declared.PrintRefusal.{PrintRefusal}
use Rattle.books.specs.Calls.{read_number, print_number, ReadAs, PrintedAs}
use Rattle.answers.specs.Answer.{Told}
use Rattle.text_answers.specs.Texts.{read_numbers}
use Rattle.print_answers.specs.Prints.{print_numbers}

-- what the library's calls give, told
pub record Reads (description condition tokens literals bytes : List ℕ) (returned : ℕ) (answer tokens_after literals_after bytes_after : List ℕ) : Type 0 where
  pub given : Result Counts ReadRefusal
  pub reads : ReadAs (read_condition description condition) tokens literals bytes given tokens_after literals_after bytes_after
  pub told : Told (read_number given) (read_numbers given) returned answer

pub record Prints (description literals bytes tokens text : List ℕ) (returned : ℕ) (answer text_after : List ℕ) : Type 0 where
  pub given : Result ℕ PrintRefusal
  pub prints : PrintedAs (print_condition description literals bytes tokens) text given text_after
  pub told : Told (print_number given) (print_numbers given) returned answer
