-- How the answer of `print` is told to C and COBOL.
use Rattle.std.specs.Prelude.{Result, Ok, Err, List, [], ◌∷◌, ℕ}
use Rattle.books.specs.declared.PrintRefusal.{PrintRefusal}
use Rattle.books.specs.Calls.{print_place}
use Rattle.answers.specs.Answer.{narrowed}

abbrev pub print_count : Result ℕ PrintRefusal → ℕ
print_count (Ok n) = n
print_count (Err r) = 0

-- one count, or the place
abbrev pub print_numbers : Result ℕ PrintRefusal → List ℕ
print_numbers answer = narrowed (print_place answer) ∷ 0 ∷ 0 ∷ narrowed (print_count answer) ∷ 0 ∷ 0 ∷ 0 ∷ 0 ∷ 0 ∷ []
