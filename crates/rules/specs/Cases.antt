-- Document 01, "Sixteen cases to prove together": one table, and what it is for a case to hold (proofs/Cases.antt proves all).
use Rattle.std.specs.Prelude.{◌≡◌, List, [], ◌∷◌, ◌++◌, ℕ, ◌+◌, length, take, drop, replicate, ℤ, negsuc, false, Err, Ok}
use Rattle.tables.specs.declared.Verdict.{Verdict}
use Rattle.tables.specs.declared.Judged.{Judged}
use Rattle.tables.specs.declared.Verdict.TheVariants.{True, False}
use Rattle.tables.specs.Operands.{Lent}
use Rattle.tables.specs.Words.{OPEN, CLOSE, NOT, AND, OR, GREATER, LESS, EQUAL, GREATER-OR-EQUAL, NUMERIC, ZERO, switch_token}
use Rattle.values.specs.Comparison.{side_of, value_of}
use Rattle.rules.specs.Calls.{Gives, written_over, expand_gives, plan_gives, judge_gives, run_gives}
use Rattle.rules.specs.Numbers.{of_written, of_verdict}

-- What a case says of a condition. A truth value or a stop is said of a record, for switch byte 0.
pub data Says : Type 0 where
  expands : List ℕ → Says
  plans : List ℕ → Says
  refuses : (number place : ℕ) → Says
  judges : (content : List ℕ) → Verdict → Says
  stops : (content : List ℕ) (number place byte : ℕ) → Says
  values : (content : List ℕ) (operand : ℕ) → ℤ → Says

pub record Case : Type 0 where
  pub lent : Lent
  pub tokens : List ℕ
  pub says : Says

-- an output that has room, and the numbers that stand in it before
abbrev pub lent_output : List ℕ
lent_output = replicate 24 7

-- the plan that the rules write for a case's condition
abbrev pub plan_of : Gives → List ℕ
plan_of gives = elim gives.answer [ Ok n ↦ take n gives.output | Err refusal ↦ [] ]

module _ (lent : Lent) (tokens : List ℕ) where
  abbrev pub runs : List ℕ → Judged
  runs content = run_gives lent (plan_of (plan_gives lent tokens lent_output)) content 0

  -- Expand, plan and judge refuse alike where a case gives a refusal; judge and the run of the plan answer alike where it gives
  -- an answer on a record.
  abbrev pub Meets : Says → Type 0
  Meets (expands form) = expand_gives lent tokens lent_output ≡ written_over form lent_output
  Meets (plans rows) = plan_gives lent tokens lent_output ≡ written_over rows lent_output
  Meets (refuses number place) =
      (of_written (expand_gives lent tokens lent_output).answer ≡ number ∷ place ∷ [])
      × (of_written (plan_gives lent tokens lent_output).answer ≡ number ∷ place ∷ [])
      × (of_verdict (judge_gives lent tokens [] 0).verdict ≡ number ∷ place ∷ [])
  Meets (judges content verdict) = ((judge_gives lent tokens content 0).verdict ≡ verdict) × ((runs content).verdict ≡ verdict)
  Meets (stops content number place byte) =
      (of_verdict (judge_gives lent tokens content 0).verdict ≡ number ∷ place ∷ byte ∷ [])
      × (of_verdict (runs content).verdict ≡ number ∷ place ∷ byte ∷ [])
  Meets (values content operand z) = value_of (side_of lent content operand) ≡ z

-- every case of the table holds
abbrev pub AllHold : List Case → Type 0
AllHold [] = Unit {0}
AllHold (c ∷ cases) = Meets c.lent c.tokens c.says × AllHold cases

-- "Items a, b, c, d are rows 0 to 3"; switches p, q, r, s are 0 to 3, kind 2; a word is 4 × 65,536 + its number
abbrev a : ℕ
a = 0

abbrev b : ℕ
b = 1

abbrev c : ℕ
c = 2

abbrev d : ℕ
d = 3

abbrev p : ℕ
p = switch_token 0

abbrev q : ℕ
q = switch_token 1

abbrev r : ℕ
r = switch_token 2

abbrev s : ℕ
s = switch_token 3

abbrev items : List ℕ → Lent
items rows = record { off = false; items = rows; literals = []; bytes = []; names = [] }

-- four items of kind 3, one digit each
abbrev digits : Lent
digits = items (3 ∷ 0 ∷ 1 ∷ 0 ∷ 1 ∷ 3 ∷ 1 ∷ 1 ∷ 0 ∷ 1 ∷ 3 ∷ 2 ∷ 1 ∷ 0 ∷ 1 ∷ 3 ∷ 3 ∷ 1 ∷ 0 ∷ 1 ∷ [])

abbrev case : Lent → List ℕ → Says → Case
case lent tokens says = record { lent = lent; tokens = tokens; says = says }

-- 1. "a > b AND NOT < c OR d is 0 262149 1 262147 262146 262150 2 262148 3."
abbrev first : List ℕ
first = 0 ∷ 262149 ∷ 1 ∷ 262147 ∷ 262146 ∷ 262150 ∷ 2 ∷ 262148 ∷ 3 ∷ []

-- 11. "31 32 33 34 45 as kind 4", "alphanumeric 12345" and "group 1234E"
abbrev signs : Lent
signs = items (4 ∷ 0 ∷ 5 ∷ 0 ∷ 5 ∷ 2 ∷ 5 ∷ 5 ∷ 0 ∷ 0 ∷ 0 ∷ 10 ∷ 5 ∷ 0 ∷ 0 ∷ [])

abbrev minus12345 : List ℕ
minus12345 =
    0x31 ∷ 0x32 ∷ 0x33 ∷ 0x34 ∷ 0x45 ∷ 0x31 ∷ 0x32 ∷ 0x33 ∷ 0x34 ∷ 0x35 ∷ 0x31 ∷ 0x32 ∷ 0x33 ∷ 0x34 ∷ 0x45 ∷ []

-- 12. "30 and 40 as kind 4"
abbrev zeros : Lent
zeros = items (4 ∷ 0 ∷ 1 ∷ 0 ∷ 1 ∷ 4 ∷ 1 ∷ 1 ∷ 0 ∷ 1 ∷ [])

abbrev plus_and_minus : List ℕ
plus_and_minus = 0x30 ∷ 0x40 ∷ []

-- 13. "150 at scale 2 equals 15 at scale 1."
abbrev scales : Lent
scales = items (3 ∷ 0 ∷ 3 ∷ 2 ∷ 3 ∷ 3 ∷ 3 ∷ 2 ∷ 1 ∷ 2 ∷ [])

-- 14. "All of kind 2: BBB equals BBB and a space, is less than BBBA, greater than 42 42 42 00."
abbrev letters : Lent
letters = items (2 ∷ 0 ∷ 3 ∷ 0 ∷ 0 ∷ 2 ∷ 3 ∷ 4 ∷ 0 ∷ 0 ∷ 2 ∷ 7 ∷ 4 ∷ 0 ∷ 0 ∷ 2 ∷ 11 ∷ 4 ∷ 0 ∷ 0 ∷ [])

abbrev BBB : List ℕ
BBB =
    0x42 ∷ 0x42 ∷ 0x42 ∷ 0x42 ∷ 0x42 ∷ 0x42 ∷ 0x20 ∷ 0x42 ∷ 0x42 ∷ 0x42 ∷ 0x41 ∷ 0x42 ∷ 0x42 ∷ 0x42 ∷ 0x00 ∷ []

-- 15, 16. a, b and d are 1, c is blank
abbrev c_blank : List ℕ
c_blank = 0x31 ∷ 0x31 ∷ 0x20 ∷ 0x31 ∷ []

unfoldable pub sixteen : List Case
sixteen =
    -- 1. "Expanded: .." and "Plan: .."
    case digits first (expands (0 ∷ 262149 ∷ 1 ∷ 262147 ∷ 0 ∷ 262146 ∷ 262150 ∷ 2 ∷ 262148 ∷ 0 ∷ 262146 ∷ 262150 ∷ 3 ∷ []))
    ∷ case digits first (plans (0 ∷ 5 ∷ 1 ∷ 1 ∷ 2 ∷ 0 ∷ 38 ∷ 2 ∷ 65535 ∷ 2 ∷ 0 ∷ 38 ∷ 3 ∷ 65535 ∷ 65534 ∷ []))
    -- 2. "NOT a = b OR c expands to NOT a = b OR a = c."
    ∷ case digits (NOT ∷ a ∷ EQUAL ∷ b ∷ OR ∷ c ∷ []) (expands (NOT ∷ a ∷ EQUAL ∷ b ∷ OR ∷ a ∷ EQUAL ∷ c ∷ []))
    -- 3. "a = b AND NOT >= c OR d: a = b AND NOT a >= c OR a >= d."
    ∷ case digits (a ∷ EQUAL ∷ b ∷ AND ∷ NOT ∷ GREATER-OR-EQUAL ∷ c ∷ OR ∷ d ∷ [])
    (expands (a ∷ EQUAL ∷ b ∷ AND ∷ NOT ∷ a ∷ GREATER-OR-EQUAL ∷ c ∷ OR ∷ a ∷ GREATER-OR-EQUAL ∷ d ∷ []))
    -- 4. "NOT ( a NOT > b AND c AND NOT d ): NOT ( a NOT > b AND a NOT > c AND NOT a NOT > d )."
    ∷ case digits (NOT ∷ OPEN ∷ a ∷ NOT ∷ GREATER ∷ b ∷ AND ∷ c ∷ AND ∷ NOT ∷ d ∷ CLOSE ∷ [])
    (expands (NOT ∷ OPEN ∷ a ∷ NOT ∷ GREATER ∷ b ∷ AND ∷ a ∷ NOT ∷ GREATER ∷ c ∷ AND ∷ NOT ∷ a ∷ NOT ∷ GREATER ∷ d ∷ CLOSE ∷ []))
    -- 5. "a = b AND ( c OR d ): refusal 7 at 6."
    ∷ case digits (a ∷ EQUAL ∷ b ∷ AND ∷ OPEN ∷ c ∷ OR ∷ d ∷ CLOSE ∷ []) (refuses 7 6)
    -- 6. "( a = b OR c ) AND d: 7 at 9."
    ∷ case digits (OPEN ∷ a ∷ EQUAL ∷ b ∷ OR ∷ c ∷ CLOSE ∷ AND ∷ d ∷ []) (refuses 7 9)
    -- 7. "a NOT >= b: 7 at 2."
    ∷ case digits (a ∷ NOT ∷ GREATER-OR-EQUAL ∷ b ∷ []) (refuses 7 2)
    -- 8. "a = b OR NOT NOT = c: 7 at 5."
    ∷ case digits (a ∷ EQUAL ∷ b ∷ OR ∷ NOT ∷ NOT ∷ EQUAL ∷ c ∷ []) (refuses 7 5)
    -- 9. "a alone: 7 at 1."
    ∷ case digits (a ∷ []) (refuses 7 1)
    -- 10. "Four switches, kind 2, as ( p OR NOT q ) AND r AND s: target pairs 2 1, 65534 2, 3 65534, 65535 65534."
    ∷ case (items []) (OPEN ∷ p ∷ OR ∷ NOT ∷ q ∷ CLOSE ∷ AND ∷ r ∷ AND ∷ s ∷ [])
    (plans
    (p ∷ 0 ∷ 0 ∷ 2 ∷ 1 ∷ q ∷ 0 ∷ 0 ∷ 65534 ∷ 2 ∷ r ∷ 0 ∷ 0 ∷ 3 ∷ 65534 ∷ s ∷ 0 ∷ 0 ∷ 65535 ∷ 65534 ∷ []))
    -- 11. "is −12345; equal to alphanumeric 12345 and to group 1234E."
    ∷ case signs (a ∷ EQUAL ∷ b ∷ []) (values minus12345 a (negsuc 12344))
    ∷ case signs (a ∷ EQUAL ∷ b ∷ []) (judges minus12345 True)
    ∷ case signs (a ∷ EQUAL ∷ c ∷ []) (judges minus12345 True)
    -- 12. "are equal; both ZERO."
    ∷ case zeros (a ∷ EQUAL ∷ b ∷ []) (judges plus_and_minus True)
    ∷ case zeros (a ∷ ZERO ∷ []) (judges plus_and_minus True)
    ∷ case zeros (b ∷ ZERO ∷ []) (judges plus_and_minus True)
    -- 13.
    ∷ case scales (a ∷ EQUAL ∷ b ∷ []) (judges (0x31 ∷ 0x35 ∷ 0x30 ∷ 0x31 ∷ 0x35 ∷ []) True)
    -- 14.
    ∷ case letters (a ∷ EQUAL ∷ b ∷ []) (judges BBB True)
    ∷ case letters (a ∷ LESS ∷ c ∷ []) (judges BBB True)
    ∷ case letters (a ∷ GREATER ∷ d ∷ []) (judges BBB True)
    -- 15. "a = b OR c = d, a equal b, c blank: true. With the two relations exchanged: 13 at 0."
    ∷ case digits (a ∷ EQUAL ∷ b ∷ OR ∷ c ∷ EQUAL ∷ d ∷ []) (judges c_blank True)
    ∷ case digits (c ∷ EQUAL ∷ d ∷ OR ∷ a ∷ EQUAL ∷ b ∷ []) (stops c_blank 13 0 2)
    -- 16. "x NUMERIC AND x > a, x of kind 3 and blank: false."
    ∷ case digits (c ∷ NUMERIC ∷ AND ∷ c ∷ GREATER ∷ a ∷ []) (judges c_blank False)
    ∷ []

-- "The sixteen cases are one table under a single proved statement about the definitions."
pub record SixteenCases : Type 0 where
  pub hold : AllHold sixteen
