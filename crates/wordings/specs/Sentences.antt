-- What a member reads: a sentence for each line of the table "What each call may say".
use Rattle.std.specs.Prelude.{List, [], ◌∷◌, ℕ, get_or}
use Rattle.description.specs.Grammar.{bytes}

-- by number: 0 is no refusal; 1 to 13 are document 01's, 14 to 20 document 02's, 21 is the sweep's
abbrev pub sentences : List (List ℕ)
sentences =
    []
    ∷ bytes "the item table is not whole rows, or has more than 64"
    ∷ bytes "this item row breaks its rules"
    ∷ bytes "the literal table is not whole rows, or has more than 64"
    ∷ bytes "this literal row breaks its rules"
    ∷ bytes "the rule has no word, or more than 256"
    ∷ bytes "there is no such token"
    ∷ bytes "no rule can go on like this"
    ∷ bytes "more than 16 brackets are open"
    ∷ bytes "these may not be compared or tested so"
    ∷ bytes "there is too little room for the result"
    ∷ bytes "the plan is not sound"
    ∷ bytes "the record ends before this item does"
    ∷ bytes "this item has to hold a number and does not"
    ∷ bytes "no description can go on like this, or this entry passes a limit"
    ∷ bytes "this word means nothing in a rule, or passes a limit"
    ∷ bytes "nothing has this name, or more than one has it"
    ∷ bytes "this item has to hold letters and spaces and does not"
    ∷ bytes "this condition-name is not sound"
    ∷ bytes "this item shares a byte with an earlier one"
    ∷ bytes "the copies are not equally long"
    ∷ bytes "records of this size do not fill the file"
    ∷ []

abbrev pub sentence : ℕ → List ℕ
sentence number = get_or sentences number []
