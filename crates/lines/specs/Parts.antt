-- A line by its parts, one after another.
use Rattle.std.specs.Prelude.{◌≡◌, List, [], ◌∷◌, ◌++◌, ℕ, ◌-◌, length, replicate}
use Rattle.lines.specs.Put.{Puts, Decimal}

-- bytes as they are, or a number in decimal
pub data Said : Type 0 where
  text : List ℕ → Said
  number : ℕ → Said

-- either in a column: spaces after it up to a width
pub record Part : Type 0 where
  pub said : Said
  pub width : ℕ

abbrev pub say : List ℕ → Part
say t = record { said = text t; width = 0 }

abbrev pub count : ℕ → Part
count n = record { said = number n; width = 0 }

abbrev pub column : ℕ → List ℕ → Part
column width t = record { said = text t; width = width }

abbrev pub count_column : ℕ → ℕ → Part
count_column width n = record { said = number n; width = width }

abbrev pub Spells : Said → List ℕ → Type 0
Spells (text t) spelled = spelled ≡ t
Spells (number n) spelled = Decimal n spelled

-- the bytes of a part
pub record Shows (part : Part) (shown : List ℕ) : Type 0 where
  pub spelled : List ℕ
  pub spells : Spells part.said spelled
  pub filled : shown ≡ spelled ++ replicate (part.width - length spelled) 0x20

-- the bytes of a line
pub data Line : List Part → List ℕ → Type 0 where
  none : Line [] []
  more : {parts : List Part} {part : Part} {before shown : List ℕ} → Line parts before → Shows part shown → Line (parts ++ part ∷ []) (before ++ shown)

-- a line stands from a place on
pub record PutsLine (out : List ℕ) (at : ℕ) (parts : List Part) (end : ℕ) (after : List ℕ) : Type 0 where
  pub shown : List ℕ
  pub line : Line parts shown
  pub puts : Puts out at shown end after
