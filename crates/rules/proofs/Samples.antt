-- Worked examples of document 02, b), c), f), g), h), i), l), n), by computation.
use mathlib.Core.Path.{◌≡◌, refl}
use mathlib.Core.List.{List, [], ◌∷◌, ◌++◌}
use Prim.Native.Nat.{ℕ}
use mathlib.Core.Bool.{true, false}
use Rattle.tables.specs.declared.Refusal.TheVariants.{ItemRow, Record, Token, Grammar, Typing, PlanRow as PlanFault, Data, Letters, Name}
use Rattle.tables.specs.declared.Verdict.TheVariants.{True, False, Refused}
use Rattle.tables.specs.Operands.{Lent, under}
use lib.IntN.{negsuc}
use Rattle.content.specs.Content.{all, number_from}
use Rattle.content.specs.Packed.{packed_from}
use Rattle.content.specs.WrongByte.{first_from, valid_content}
use Rattle.tables.specs.Refusals.{first_failing, first_of}
use Rattle.typing.specs.Typing.{typed}
use Rattle.compare.specs.Compared.{byte_order}
use Rattle.values.specs.Comparison.{side_of, value_of, comparison}
use Rattle.compare.specs.Classes.{class_holds}
use Rattle.compare.specs.Switches.{switch_holds}
use Rattle.values.specs.Names.{every, some, name_check}
use Rattle.values.specs.Truth.{outcome}
use Rattle.grammar.specs.Grammar.{class}
use Rattle.grammar.specs.Parser.{on, parse_condition, read}
use Rattle.grammar.specs.Depth.{depth_from}
use Rattle.grammar.specs.Typed.{typing_from}
use Rattle.grammar.specs.Judging.{simple_count, when, at, judged, visited}
use Rattle.grammar.specs.Plan.{flat, plan_row, plan_row_sound, follow, run, reached, run_visits}
use Rattle.grammar.specs.Converted.{only_on, converted_tokens, on_row, on_rows, rows_from, converted_plan}
use Rattle.rules.specs.Calls.{judge_walk, judge_gives, run_walk, run_gives}
use Rattle.rules.specs.Footprint.{items_among, footprint}
use Rattle.std.specs.Prelude.{Err, Ok}

-- four items of kind 3, one digit each: a, b, c, d are 0 to 3; of the record, c is blank
abbrev digits : Lent
digits = record { off = false; items = 3 ∷ 0 ∷ 1 ∷ 0 ∷ 1 ∷ 3 ∷ 1 ∷ 1 ∷ 0 ∷ 1 ∷ 3 ∷ 2 ∷ 1 ∷ 0 ∷ 1 ∷ 3 ∷ 3 ∷ 1 ∷ 0 ∷ 1 ∷ []; literals = []; bytes = []; names = [] }

abbrev c_blank : List ℕ
c_blank = 0x31 ∷ 0x31 ∷ 0x20 ∷ 0x31 ∷ []

abbrev one_of_two : List ℕ
one_of_two = 0 ∷ 262151 ∷ 1 ∷ 262148 ∷ 2 ∷ 262151 ∷ 3 ∷ []

abbrev exchanged : List ℕ
exchanged = 2 ∷ 262151 ∷ 3 ∷ 262148 ∷ 0 ∷ 262151 ∷ 1 ∷ []

abbrev blank_not_read : List ℕ
blank_not_read = 2 ∷ 262154 ∷ 262147 ∷ 2 ∷ 262149 ∷ 0 ∷ []

-- i): cases 15 and 16 with their counts; a stop is counted; 0 where the record is too short or a token is none
counts : (judge_gives digits one_of_two c_blank 0 ≡ record { verdict = True; count = 1 })
    × (judge_gives digits exchanged c_blank 0 ≡ record { verdict = Refused (Data 0 2); count = 1 })
    × (judge_gives digits blank_not_read c_blank 0 ≡ record { verdict = False; count = 1 })
    × (judge_gives digits (0 ∷ 262151 ∷ 3 ∷ 262147 ∷ 1 ∷ 262148 ∷ 3 ∷ []) c_blank 0 ≡ record { verdict = True; count = 2 })
    × (judge_gives digits one_of_two (0x31 ∷ []) 0 ≡ record { verdict = Refused (Record 1); count = 0 })
    × (judge_gives digits (4 ∷ []) c_blank 0 ≡ record { verdict = Refused (Token 0); count = 0 })
unfolding all number_from first_from valid_content first_failing first_of typed byte_order comparison class_holds outcome class on parse_condition read depth_from typing_from simple_count when at judged visited judge_walk
counts = (refl, refl, refl, refl, refl, refl)

-- n): what those look at: items 0 and 1; items 2 and 3; item 2, and not item 0, although the row has 0 for its object
looks : (footprint digits (judge_walk digits one_of_two c_blank 0).visits ≡ 0 ∷ 1 ∷ [])
    × (footprint digits (judge_walk digits exchanged c_blank 0).visits ≡ 2 ∷ 3 ∷ [])
    × (footprint digits (judge_walk digits blank_not_read c_blank 0).visits ≡ 2 ∷ [])
unfolding all number_from first_from valid_content first_failing first_of typed byte_order comparison class_holds switch_holds outcome class on parse_condition read depth_from typing_from simple_count when at judged visited judge_walk items_among footprint
looks = (refl, refl, refl)

-- l): NOT off 0 AND off 1 becomes on 0 AND NOT on 1; NOT ( off 1 ) becomes NOT ( NOT on 1 ); the NOT of a relation and a NOT before
-- an on switch stay
words : (converted_tokens (262146 ∷ 196608 ∷ 262147 ∷ 196609 ∷ []) ≡ 131072 ∷ 262147 ∷ 262146 ∷ 131073 ∷ [])
    × (converted_tokens (262146 ∷ 262144 ∷ 196609 ∷ 262145 ∷ []) ≡ 262146 ∷ 262144 ∷ 262146 ∷ 131073 ∷ 262145 ∷ [])
    × (converted_tokens (0 ∷ 262146 ∷ 262149 ∷ 1 ∷ 262147 ∷ 262146 ∷ 131072 ∷ []) ≡ 0 ∷ 262146 ∷ 262149 ∷ 1 ∷ 262147 ∷ 262146 ∷ 131072 ∷ [])
unfolding only_on
words = (refl, refl, refl)

-- the row of an off switch
row : converted_plan (196608 ∷ 0 ∷ 0 ∷ 1 ∷ 65534 ∷ 131073 ∷ 0 ∷ 0 ∷ 65535 ∷ 65534 ∷ []) ≡ 131072 ∷ 0 ∷ 0 ∷ 65534 ∷ 1 ∷ 131073 ∷ 0 ∷ 0 ∷ 65535 ∷ 65534 ∷ []
unfolding flat plan_row on_row on_rows rows_from converted_plan
row = refl

-- "Expand, plan and judge refuse it with 6, run with 11"; the old rules do not
refused : (judge_gives digits (196608 ∷ []) c_blank 0 ≡ record { verdict = Refused (Token 0); count = 0 })
    × (run_gives digits (196608 ∷ 0 ∷ 0 ∷ 65535 ∷ 65534 ∷ []) c_blank 0 ≡ record { verdict = Refused (PlanFault 0); count = 0 })
    × (judge_gives (under true digits) (196608 ∷ []) c_blank 0 ≡ record { verdict = True; count = 1 })
    × (run_gives (under true digits) (196608 ∷ 0 ∷ 0 ∷ 65535 ∷ 65534 ∷ []) c_blank 0 ≡ record { verdict = True; count = 1 })
unfolding all number_from first_from valid_content first_failing first_of typed byte_order comparison class_holds switch_holds outcome class on parse_condition read depth_from typing_from simple_count when at judged visited judge_walk plan_row plan_row_sound follow run reached run_visits run_walk
refused = (refl, refl, refl, refl)

-- c): a counter of each numeric kind, three bytes each: 0 to 3 are kinds 3 to 6, at bytes 2, 5, 8 and 11; a text of kind 2 and a group lie
-- over the first two bytes.
abbrev counters : Lent
counters =
    record {
      off = false;
      items = 3 ∷ 2 ∷ 3 ∷ 0 ∷ 3 ∷ 4 ∷ 5 ∷ 3 ∷ 0 ∷ 3 ∷ 5 ∷ 8 ∷ 3 ∷ 0 ∷ 2 ∷ 6 ∷ 11 ∷ 3 ∷ 0 ∷ 2 ∷ 2 ∷ 0 ∷ 2 ∷ 0 ∷ 0 ∷ 0 ∷ 0 ∷ 2 ∷ 0 ∷ 0 ∷ [];
      literals = [];
      bytes = [];
      names = [];
    }

-- blank 1 blank; 1 2 and a last byte of left half 2; a sign that is blank; 1 2 and no sign
abbrev spoiled : List ℕ
spoiled = 0x41 ∷ 0x42 ∷ 0x20 ∷ 0x31 ∷ 0x20 ∷ 0x31 ∷ 0x32 ∷ 0x23 ∷ 0x20 ∷ 0x31 ∷ 0x32 ∷ 0x31 ∷ 0x32 ∷ 0x33 ∷ []

-- each POSITIVE: byte 2, the first of two wrong ones; 7; 8, the sign; 13. Then item 1 = item 2 and item 2 = item 1: the subject's byte. Text =
-- item 3: the object's. Item 3 = group: unchecked. The second condition judged: its number.
which_byte : (judge_gives counters (0 ∷ 262158 ∷ []) spoiled 0 ≡ record { verdict = Refused (Data 0 2); count = 1 })
    × (judge_gives counters (1 ∷ 262158 ∷ []) spoiled 0 ≡ record { verdict = Refused (Data 0 7); count = 1 })
    × (judge_gives counters (2 ∷ 262158 ∷ []) spoiled 0 ≡ record { verdict = Refused (Data 0 8); count = 1 })
    × (judge_gives counters (3 ∷ 262158 ∷ []) spoiled 0 ≡ record { verdict = Refused (Data 0 13); count = 1 })
    × (judge_gives counters (1 ∷ 262151 ∷ 2 ∷ []) spoiled 0 ≡ record { verdict = Refused (Data 0 7); count = 1 })
    × (judge_gives counters (2 ∷ 262151 ∷ 1 ∷ []) spoiled 0 ≡ record { verdict = Refused (Data 0 8); count = 1 })
    × (judge_gives counters (4 ∷ 262151 ∷ 3 ∷ []) spoiled 0 ≡ record { verdict = Refused (Data 0 13); count = 1 })
    × (judge_gives counters (3 ∷ 262151 ∷ 5 ∷ []) spoiled 0 ≡ record { verdict = False; count = 1 })
    × (judge_gives counters (4 ∷ 262154 ∷ 262148 ∷ 4 ∷ 262150 ∷ 0 ∷ []) spoiled 0 ≡ record { verdict = Refused (Data 1 2); count = 2 })
unfolding all first_from valid_content first_failing first_of typed byte_order comparison class_holds outcome class on parse_condition read depth_from typing_from simple_count when at judged visited judge_walk
which_byte = (refl, refl, refl, refl, refl, refl, refl, refl, refl)

-- g): an owner of kind 1 in bytes 0 to 2, a text of kind 2 in 3 to 5, a group over both, a counter of kind 4 in 6 to 8, a second owner in 9
-- and 10. Of the record the owner is A 7 7, the counter 1 and two blanks, the second owner a small z and a space.
abbrev fields : Lent
fields =
    record {
      off = false;
      items = 1 ∷ 0 ∷ 3 ∷ 0 ∷ 0 ∷ 2 ∷ 3 ∷ 3 ∷ 0 ∷ 0 ∷ 0 ∷ 0 ∷ 6 ∷ 0 ∷ 0 ∷ 4 ∷ 6 ∷ 3 ∷ 0 ∷ 3 ∷ 1 ∷ 9 ∷ 2 ∷ 0 ∷ 0 ∷ [];
      literals = [];
      bytes = [];
      names = [];
    }

abbrev typed_in : List ℕ
typed_in = 0x41 ∷ 0x37 ∷ 0x37 ∷ 0x41 ∷ 0x42 ∷ 0x43 ∷ 0x31 ∷ 0x20 ∷ 0x20 ∷ 0x7a ∷ 0x20 ∷ []

-- owner = text: 17 at 0, byte 1; text = owner: the same, the object's fault; owner < group: nothing is looked at; counter = owner: 13, byte
-- 7, the subject's fault before the object's; owner = counter: 17; ALPHABETIC on the owner never stops, counter POSITIVE then does;
-- second owner > text: letters and spaces only
letters_and_digits : (judge_gives fields (0 ∷ 262151 ∷ 1 ∷ []) typed_in 0 ≡ record { verdict = Refused (Letters 0 1); count = 1 })
    × (judge_gives fields (1 ∷ 262151 ∷ 0 ∷ []) typed_in 0 ≡ record { verdict = Refused (Letters 0 1); count = 1 })
    × (judge_gives fields (0 ∷ 262150 ∷ 2 ∷ []) typed_in 0 ≡ record { verdict = True; count = 1 })
    × (judge_gives fields (3 ∷ 262151 ∷ 0 ∷ []) typed_in 0 ≡ record { verdict = Refused (Data 0 7); count = 1 })
    × (judge_gives fields (0 ∷ 262151 ∷ 3 ∷ []) typed_in 0 ≡ record { verdict = Refused (Letters 0 1); count = 1 })
    × (judge_gives fields (0 ∷ 262155 ∷ 262148 ∷ 3 ∷ 262158 ∷ []) typed_in 0 ≡ record { verdict = Refused (Data 1 7); count = 2 })
    × (judge_gives fields (4 ∷ 262149 ∷ 1 ∷ []) typed_in 0 ≡ record { verdict = True; count = 1 })
unfolding all first_from valid_content first_failing first_of typed byte_order comparison class_holds outcome class on parse_condition read depth_from typing_from simple_count when at judged visited judge_walk
letters_and_digits = (refl, refl, refl, refl, refl, refl, refl)

-- b): of the record's first four bytes, 1 2 3 4, a group of kind 7, a group of kind 0 and a text of kind 2; a counter of kind 3, 1 and a blank,
-- in bytes 4 and 5; an owner of kind 1, A 7, in 6 and 7; a group of kind 7 over the last four bytes.
abbrev groups : Lent
groups =
    record {
      off = false;
      items = 7 ∷ 0 ∷ 4 ∷ 0 ∷ 0 ∷ 0 ∷ 0 ∷ 4 ∷ 0 ∷ 0 ∷ 2 ∷ 0 ∷ 4 ∷ 0 ∷ 0 ∷ 3 ∷ 4 ∷ 2 ∷ 0 ∷ 2 ∷ 1 ∷ 6 ∷ 2 ∷ 0 ∷ 0 ∷ 7 ∷ 4 ∷ 4 ∷ 0 ∷ 0 ∷ [];
      literals = [];
      bytes = [];
      names = [];
    }

abbrev counted : List ℕ
counted = 0x31 ∷ 0x32 ∷ 0x33 ∷ 0x34 ∷ 0x31 ∷ 0x20 ∷ 0x41 ∷ 0x37 ∷ []

-- NUMERIC: all digits, or not; 9 on kind 0. ALPHABETIC is typed on kind 7, POSITIVE is not. Kind 7 = kind 0. The counter and the owner beside
-- kind 7 are not looked at, on either side; beside the text they are. Kind 10 is none.
counters_in_groups : (judge_gives groups (0 ∷ 262154 ∷ []) counted 0 ≡ record { verdict = True; count = 1 })
    × (judge_gives groups (5 ∷ 262154 ∷ []) counted 0 ≡ record { verdict = False; count = 1 })
    × (judge_gives groups (1 ∷ 262154 ∷ []) counted 0 ≡ record { verdict = Refused (Typing 0); count = 0 })
    × (judge_gives groups (0 ∷ 262155 ∷ []) counted 0 ≡ record { verdict = False; count = 1 })
    × (judge_gives groups (0 ∷ 262158 ∷ []) counted 0 ≡ record { verdict = Refused (Typing 0); count = 0 })
    × (judge_gives groups (0 ∷ 262151 ∷ 1 ∷ []) counted 0 ≡ record { verdict = True; count = 1 })
    × (judge_gives groups (3 ∷ 262150 ∷ 0 ∷ []) counted 0 ≡ record { verdict = True; count = 1 })
    × (judge_gives groups (0 ∷ 262150 ∷ 4 ∷ []) counted 0 ≡ record { verdict = True; count = 1 })
    × (judge_gives groups (3 ∷ 262150 ∷ 2 ∷ []) counted 0 ≡ record { verdict = Refused (Data 0 5); count = 1 })
    × (judge_gives groups (2 ∷ 262150 ∷ 4 ∷ []) counted 0 ≡ record { verdict = Refused (Letters 0 7); count = 1 })
    × (judge_gives record { off = false; items = 10 ∷ 0 ∷ 4 ∷ 0 ∷ 0 ∷ []; literals = []; bytes = []; names = [] } (0 ∷ 262154 ∷ []) counted 0
    ≡ record { verdict = Refused (ItemRow 0); count = 0 })
unfolding all number_from first_from valid_content first_failing first_of typed byte_order comparison class_holds switch_holds outcome class on parse_condition read depth_from typing_from simple_count when at judged visited judge_walk
counters_in_groups = (refl, refl, refl, refl, refl, refl, refl, refl, refl, refl, refl)

-- f): 001's example, "PIC S9(5)V9(3) holding −23 is hex 0000230004", in bytes 0 to 4 as item 0; bytes 5 and 6 as items 1 and 2, kinds 8 and 9 of
-- three digits; bytes 7 and 8 as items 3 and 4, kind 8 of two digits and a group; byte 9, one digit of kind 9. Literal 0 is −23, literal 1 a
-- text.
abbrev amounts : Lent
amounts =
    record {
      off = false;
      items = 8 ∷ 0 ∷ 5 ∷ 3 ∷ 8 ∷ 8 ∷ 5 ∷ 2 ∷ 0 ∷ 3 ∷ 9 ∷ 5 ∷ 2 ∷ 0 ∷ 3 ∷ 8 ∷ 7 ∷ 2 ∷ 0 ∷ 2 ∷ 0 ∷ 7 ∷ 2 ∷ 0 ∷ 0 ∷ 9 ∷ 9 ∷ 1 ∷ 1 ∷ 1 ∷ [];
      literals = 5 ∷ 0 ∷ 3 ∷ 0 ∷ 2 ∷ 2 ∷ 1 ∷ 2 ∷ 0 ∷ 0 ∷ [];
      bytes = 0x2d ∷ 0x32 ∷ 0x33 ∷ [];
      names = [];
    }

-- −123 in bytes 5 and 6; a half 1 that leads two digits in byte 7; 0.5 in byte 9
abbrev ledger : List ℕ
ledger = 0x00 ∷ 0x00 ∷ 0x23 ∷ 0x00 ∷ 0x04 ∷ 0x12 ∷ 0x34 ∷ 0x11 ∷ 0x23 ∷ 0x53 ∷ []

-- its value is −23,000, at scale 3; it equals literal −23, and is NUMERIC and NEGATIVE. Item 1 is −123, less than it; kind 9 has no minus, so that
-- item 2 is not NUMERIC, and stops at byte 6. Item 3's leading half stops at byte 7. 9 beside a group and beside a text.
packed_amounts : (value_of (side_of amounts ledger 0) ≡ negsuc 22999)
    × (judge_gives amounts (0 ∷ 262151 ∷ 65536 ∷ []) ledger 0 ≡ record { verdict = True; count = 1 })
    × (judge_gives amounts (0 ∷ 262154 ∷ 262147 ∷ 0 ∷ 262159 ∷ []) ledger 0 ≡ record { verdict = True; count = 2 })
    × (judge_gives amounts (1 ∷ 262150 ∷ 0 ∷ []) ledger 0 ≡ record { verdict = True; count = 1 })
    × (judge_gives amounts (2 ∷ 262154 ∷ []) ledger 0 ≡ record { verdict = False; count = 1 })
    × (judge_gives amounts (5 ∷ 262149 ∷ 2 ∷ []) ledger 0 ≡ record { verdict = Refused (Data 0 6); count = 1 })
    × (judge_gives amounts (3 ∷ 262160 ∷ []) ledger 0 ≡ record { verdict = Refused (Data 0 7); count = 1 })
    × (judge_gives amounts (0 ∷ 262151 ∷ 4 ∷ []) ledger 0 ≡ record { verdict = Refused (Typing 0); count = 0 })
    × (judge_gives amounts (0 ∷ 262151 ∷ 65537 ∷ []) ledger 0 ≡ record { verdict = Refused (Typing 0); count = 0 })
unfolding all number_from packed_from first_from valid_content first_failing first_of typed byte_order comparison class_holds switch_holds outcome class on parse_condition read depth_from typing_from simple_count when at judged visited judge_walk
packed_amounts = (refl, refl, refl, refl, refl, refl, refl, refl, refl)

-- h): item 0 of kind 3, two digits; literals 5, 10, 30 of kind 3 and "30" of kind 2. Name 0 is 5 THRU 10; name 1 is 5, or 10 THRU 30.
abbrev pairs : List ℕ
pairs =
    0 ∷ 1 ∷ 0 ∷ 1 ∷ 0 ∷ 0 ∷ 0 ∷ 0 ∷ 0 ∷ 0 ∷ 0 ∷ 0 ∷ 0 ∷ 0 ∷ 0 ∷ 0 ∷ 0 ∷ 0
    ∷ 0 ∷ 2 ∷ 0 ∷ 0 ∷ 1 ∷ 2 ∷ 0 ∷ 0 ∷ 0 ∷ 0 ∷ 0 ∷ 0 ∷ 0 ∷ 0 ∷ 0 ∷ 0 ∷ 0 ∷ 0 ∷ []

abbrev named : List ℕ → Lent
named table =
    record {
      off = false;
      items = 3 ∷ 0 ∷ 2 ∷ 0 ∷ 2 ∷ [];
      literals = 3 ∷ 0 ∷ 1 ∷ 0 ∷ 1 ∷ 3 ∷ 1 ∷ 2 ∷ 0 ∷ 2 ∷ 3 ∷ 3 ∷ 2 ∷ 0 ∷ 2 ∷ 2 ∷ 3 ∷ 2 ∷ 0 ∷ 0 ∷ [];
      bytes = 0x35 ∷ 0x31 ∷ 0x30 ∷ 0x33 ∷ 0x30 ∷ [];
      names = table;
    }

-- 07 is in the first range and not in the second name; 05 equals its value; a blank is 13 at its byte, of a second condition by its number
names : (judge_gives (named pairs) (327680 ∷ []) (0x30 ∷ 0x37 ∷ []) 0 ≡ record { verdict = True; count = 1 })
    × (judge_gives (named pairs) (327681 ∷ []) (0x30 ∷ 0x37 ∷ []) 0 ≡ record { verdict = False; count = 1 })
    × (judge_gives (named pairs) (262146 ∷ 327681 ∷ []) (0x30 ∷ 0x35 ∷ []) 0 ≡ record { verdict = False; count = 1 })
    × (judge_gives (named pairs) (131072 ∷ 262148 ∷ 327680 ∷ []) (0x30 ∷ 0x20 ∷ []) 0 ≡ record { verdict = Refused (Data 1 1); count = 2 })
    -- it drops the carry: item = 5 AND name OR 10 is refused with 7 after the object alone
    × (judge_gives (named pairs) (0 ∷ 262151 ∷ 65536 ∷ 262147 ∷ 327680 ∷ 262148 ∷ 65537 ∷ []) (0x30 ∷ 0x37 ∷ []) 0 ≡ record { verdict = Refused (Grammar 7); count = 0 })
    -- no such row
    × (judge_gives (named pairs) (327682 ∷ []) (0x30 ∷ 0x37 ∷ []) 0 ≡ record { verdict = Refused (Token 0); count = 0 })
    × (footprint (named pairs) (judge_walk (named pairs) (327680 ∷ []) (0x30 ∷ 0x37 ∷ []) 0).visits ≡ 0 ∷ [])
    × (run_gives (named pairs) (327680 ∷ 0 ∷ 0 ∷ 65535 ∷ 65534 ∷ []) (0x30 ∷ 0x37 ∷ []) 0 ≡ record { verdict = True; count = 1 })
    × (run_gives (named pairs) (327680 ∷ 0 ∷ 1 ∷ 65535 ∷ 65534 ∷ []) (0x30 ∷ 0x37 ∷ []) 0 ≡ record { verdict = Refused (PlanFault 0); count = 0 })
unfolding all number_from first_from valid_content first_failing first_of every some typed byte_order comparison class_holds switch_holds outcome class on parse_condition read depth_from typing_from simple_count when at judged visited judge_walk plan_row plan_row_sound follow run reached run_visits run_walk items_among footprint
names = (refl, refl, refl, refl, refl, refl, refl, refl, refl)

-- 18: an unfit length; low above high; a count of 0; one numeric end only; a number after the pairs; an item row that is not there
abbrev zeros : List ℕ
zeros = 0 ∷ 0 ∷ 0 ∷ 0 ∷ 0 ∷ 0 ∷ 0 ∷ 0 ∷ 0 ∷ 0 ∷ 0 ∷ 0 ∷ []

unsound : (name_check (named (0 ∷ 1 ∷ [])) ≡ Err (Name 0))
    × (name_check (named (pairs ++ 0 ∷ 1 ∷ 1 ∷ 0 ∷ 0 ∷ 0 ∷ zeros)) ≡ Err (Name 2))
    × (name_check (named (pairs ++ 0 ∷ 0 ∷ 0 ∷ 0 ∷ 0 ∷ 0 ∷ zeros)) ≡ Err (Name 2))
    × (name_check (named (pairs ++ 0 ∷ 1 ∷ 2 ∷ 3 ∷ 0 ∷ 0 ∷ zeros)) ≡ Err (Name 2))
    × (name_check (named (pairs ++ 0 ∷ 1 ∷ 0 ∷ 1 ∷ 1 ∷ 0 ∷ zeros)) ≡ Err (Name 2))
    × (name_check (named (pairs ++ 1 ∷ 1 ∷ 0 ∷ 1 ∷ 0 ∷ 0 ∷ zeros)) ≡ Err (Name 2))
    × (name_check (named (pairs ++ 0 ∷ 1 ∷ 3 ∷ 3 ∷ 0 ∷ 0 ∷ zeros)) ≡ Ok tt)
unfolding all number_from first_failing first_of every some byte_order comparison
unsound = (refl, refl, refl, refl, refl, refl, refl)

-- a name of an owner of kind 1 whose value is AB: A 7 gives 17 at its byte, AB is true; 5 of scale 1 may not be its value
abbrev owner : ℕ → Lent
owner value =
    record {
      off = false;
      items = 1 ∷ 0 ∷ 2 ∷ 0 ∷ 0 ∷ [];
      literals = 2 ∷ 0 ∷ 2 ∷ 0 ∷ 0 ∷ 3 ∷ 2 ∷ 1 ∷ 1 ∷ 1 ∷ [];
      bytes = 0x41 ∷ 0x42 ∷ 0x35 ∷ [];
      names = 0 ∷ 1 ∷ value ∷ value ∷ 0 ∷ 0 ∷ zeros;
    }

owners : (judge_gives (owner 0) (327680 ∷ []) (0x41 ∷ 0x37 ∷ []) 0 ≡ record { verdict = Refused (Letters 0 1); count = 1 })
    × (judge_gives (owner 0) (327680 ∷ []) (0x41 ∷ 0x42 ∷ []) 0 ≡ record { verdict = True; count = 1 })
    × (judge_gives (owner 1) (327680 ∷ []) (0x41 ∷ 0x42 ∷ []) 0 ≡ record { verdict = Refused (Name 0); count = 0 })
unfolding all number_from first_from valid_content first_failing first_of every some typed byte_order comparison class_holds switch_holds outcome class on parse_condition read depth_from typing_from simple_count when at judged visited judge_walk
owners = (refl, refl, refl)

-- a packed item may be compared with a number and not with a text (f)
abbrev packed : ℕ → Lent
packed value =
    record {
      off = false;
      items = 8 ∷ 0 ∷ 2 ∷ 0 ∷ 2 ∷ [];
      literals = 3 ∷ 0 ∷ 1 ∷ 0 ∷ 1 ∷ 2 ∷ 0 ∷ 1 ∷ 0 ∷ 0 ∷ [];
      bytes = 0x35 ∷ [];
      names = 0 ∷ 1 ∷ value ∷ value ∷ 0 ∷ 0 ∷ zeros;
    }

amount_names : (judge_gives (packed 0) (327680 ∷ []) (0x00 ∷ 0x53 ∷ []) 0 ≡ record { verdict = True; count = 1 })
    × (judge_gives (packed 0) (327680 ∷ []) (0x00 ∷ 0x55 ∷ []) 0 ≡ record { verdict = Refused (Data 0 1); count = 1 })
    × (name_check (packed 1) ≡ Err (Name 0))
unfolding all number_from packed_from first_from valid_content first_failing first_of every some typed byte_order comparison class_holds switch_holds outcome class on parse_condition read depth_from typing_from simple_count when at judged visited judge_walk
amount_names = (refl, refl, refl)
