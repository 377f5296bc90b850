-- Document 01, "The condition grammar": which token sequences derive which tree. One constructor for each sentence.
use Rattle.std.specs.Prelude.{◌≡◌, false, ℕ, ◌+◌, ◌≤◌, length, take, get_or}
use mathlib.Core.List.{List, [], ◌∷◌, ◌++◌, Memᴰ}
use Rattle.tables.specs.Tokens.{kind_of, index_of, exists}

-- What a token is to the grammar. `order` is > < =, each "with or without NOT before it"; `bound` is >= <=, "without"; `test`
-- is a class word or a sign word; `name` is a condition-name (02, h).
pub data Class : Type 0 where
  operand switch opening closing not and or order bound test name other : Class
  deriving Discrete as Class-discrete

-- "0 "(", 1 ")", 2 NOT, 3 AND, 4 OR, 5 GREATER, 6 LESS, 7 EQUAL, 8 GREATER OR EQUAL, 9 LESS OR EQUAL, 10 NUMERIC,
-- 11 ALPHABETIC, 12 ALPHABETIC-LOWER, 13 ALPHABETIC-UPPER, 14 POSITIVE, 15 NEGATIVE, 16 ZERO"
abbrev pub words : List Class
words =
    opening ∷ closing ∷ not ∷ and ∷ or ∷ order ∷ order ∷ order ∷ bound ∷ bound
    ∷ test ∷ test ∷ test ∷ test ∷ test ∷ test ∷ test ∷ []

-- kinds 0 item, 1 literal, 2 switch on, 3 switch off, 4 word, 5 condition-name
unfoldable pub class : ℕ → Class
class token = get_or (operand ∷ operand ∷ switch ∷ switch ∷ get_or words (index_of token) other ∷ name ∷ []) (kind_of token) other

pub record Is (k : Class) (token : ℕ) : Type 0 where
  pub is : class token ≡ k

-- "Abbreviation needs a carried subject and relation."
pub data Carry : Type 0 where
  nothing : Carry
  carried : ℕ → ℕ → Carry

-- A resolved condition: a simple condition as subject, relation and object, "an abbreviated one .. with its omitted parts"; NOT;
-- brackets; a term AND the rest of its chain; a chain OR the rest of its condition.
pub data Tree : Type 0 where
  simple : ℕ → ℕ → ℕ → Tree
  negated : Tree → Tree
  bracketed : Tree → Tree
  both either : Tree → Tree → Tree

-- A word of a class, with or without NOT before it, and its number: "the word number, plus 32 where NOT belongs to it".
pub data Stated (k : Class) : List ℕ → ℕ → Type 0 where
  plain : {w : ℕ} → Is k w → Stated k (w ∷ []) (index_of w)
  with_not : {n w : ℕ} → Is not n → Is k w → Stated k (n ∷ w ∷ []) (index_of w + 32)

-- "A relation is > < = each with or without NOT before it, or >= <= without."
pub data Relation : List ℕ → ℕ → Type 0 where
  ordered : {r : List ℕ} {n : ℕ} → Stated order r n → Relation r n
  bounded : {w : ℕ} → Is bound w → Relation (w ∷ []) (index_of w)

-- From a carry these tokens are a simple condition, which is resolved so and leaves a carry.
pub data Simple : Carry → List ℕ → Tree → Carry → Type 0 where
  -- "operand, relation, operand"; "A full relation sets both carried parts"
  full : {c : Carry} {r : List ℕ} {a n b : ℕ} →
      Is operand a → Relation r n → Is operand b → Simple c (a ∷ r ++ b ∷ []) (simple a n b) (carried a n)
  -- "operand, class word; operand, sign word"; "A class or sign word may have NOT before it. That NOT belongs to the word."
  -- "Class, sign and switch conditions .. drop the carry."
  tested : {c : Carry} {r : List ℕ} {a n : ℕ} → Is operand a → Stated test r n → Simple c (a ∷ r) (simple a n 0) nothing
  -- "switch"
  switched : {c : Carry} {s : ℕ} → Is switch s → Simple c (s ∷ []) (simple s 0 0) nothing
  -- Document 02, h): "It is a simple condition of its own, drops the carry"
  named : {c : Carry} {s : ℕ} → Is name s → Simple c (s ∷ []) (simple s 0 0) nothing
  -- "a relation and an object"; "an abbreviated relation that states its relation replaces that one"
  short : {r : List ℕ} {a m n b : ℕ} →
      Relation r n → Is operand b → Simple (carried a m) (r ++ b ∷ []) (simple a n b) (carried a n)
  -- "or an object alone. What is omitted is the carried part."
  bare : {a m b : ℕ} → Is operand b → Simple (carried a m) (b ∷ []) (simple a m b) (carried a m)

-- "NOT directly before > < = belongs to the relation .. Any other NOT before a body is logical"; "No NOT stands directly after a
-- NOT". A NOT is logical before tokens that begin with neither.
pub data Logical : List ℕ → Type 0 where
  logical : {x : ℕ} {ts : List ℕ} → ¬ Is order x → ¬ Is not x → Logical (x ∷ ts)

-- From a carry these tokens derive a tree and leave a carry.
mutual
  -- "A condition is one or more AND-chains joined by OR"; "AND, OR and a logical NOT keep it [the carry]."
  pub data Condition : Carry → List ℕ → Tree → Carry → Type 0 where
    chain : {c d : Carry} {ts : List ℕ} {t : Tree} → Chain c ts t d → Condition c ts t d
    ors : {c d e : Carry} {ts us : List ℕ} {o : ℕ} {t u : Tree} →
        Chain c ts t d → Is or o → Condition d us u e → Condition c (ts ++ o ∷ us) (either t u) e

  -- "a chain is one or more terms joined by AND"
  pub data Chain : Carry → List ℕ → Tree → Carry → Type 0 where
    term : {c d : Carry} {ts : List ℕ} {t : Tree} → Term c ts t d → Chain c ts t d
    ands : {c d e : Carry} {ts us : List ℕ} {o : ℕ} {t u : Tree} →
        Term c ts t d → Is and o → Chain d us u e → Chain c (ts ++ o ∷ us) (both t u) e

  -- "a term is a body, or NOT and a body"
  pub data Term : Carry → List ℕ → Tree → Carry → Type 0 where
    body : {c d : Carry} {ts : List ℕ} {t : Tree} → Body c ts t d → Term c ts t d
    negation : {c d : Carry} {ts : List ℕ} {n : ℕ} {t : Tree} →
        Is not n → Logical ts → Body c ts t d → Term c (n ∷ ts) (negated t) d

  -- "a body is a bracketed condition or a simple condition"; "each "(" and each ")" drop the carry"
  pub data Body : Carry → List ℕ → Tree → Carry → Type 0 where
    one : {c d : Carry} {ts : List ℕ} {t : Tree} → Simple c ts t d → Body c ts t d
    brackets : {c d : Carry} {ts : List ℕ} {t : Tree} {l r : ℕ} →
        Is opening l → Condition nothing ts t d → Is closing r → Body c (l ∷ ts ++ r ∷ []) (bracketed t) nothing

-- The tokens derive the tree: nothing is carried at the start.
pub record Derives (ts : List ℕ) (t : Tree) : Type 0 where
  pub carry : Carry
  pub derivation : Condition nothing ts t carry

-- "some derived sequence shares" this beginning
pub record Begins (ts : List ℕ) : Type 0 where
  pub more : List ℕ
  pub tree : Tree
  pub derives : Derives (ts ++ more) tree

-- a token that does not exist where the tables are empty: words and switches, "v 0 to 7", exist whatever the tables are
abbrev pub Tabled : ℕ → Type 0
Tabled token = exists false 0 0 token ≡ false

-- The same, completed by words and switches that exist and by tokens that the beginning itself holds: so the tables do not matter.
pub record Completes (ts : List ℕ) : Type 0 where
  pub begins : Begins ts
  pub held : (x : ℕ) → Memᴰ x begins.more → Tabled x → Memᴰ x ts

-- Refusal 7's place: "length of the longest beginning that some derived sequence shares"
pub record Place (ts : List ℕ) (n : ℕ) : Type 0 where
  pub inside : n ≤ length ts
  pub completes : Completes (take n ts)
  pub longest : (m : ℕ) → m ≤ length ts → Begins (take m ts) → m ≤ n
