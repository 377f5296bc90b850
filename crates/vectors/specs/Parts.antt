-- The parts of a case, each a count and so many words, and the words behind them (tests/second/README.md).
use Rattle.std.specs.Prelude.{◌≡◌, ℕ, zero, suc, ◌+◌, ◌-◌, ◌*◌, ◌%◌, ◌≤◌, Bool, cond, ◌&&◌, List, [], ◌∷◌, ◌++◌, length, take, drop, ◌==◌, nat_le, nat_lt, slice_index}
use Rattle.tables.specs.Operands.{Lent, lend_names}

-- the first part, and what stands behind it; a count of more words than there are takes them all
abbrev pub first_part : List ℕ → List ℕ
first_part [] = []
first_part (count ∷ words) = take count words

abbrev pub behind_first : List ℕ → List ℕ
behind_first [] = []
behind_first (count ∷ words) = drop count words

-- what stands behind so many parts
unfoldable pub behind : ℕ → List ℕ → List ℕ
behind zero words = words
behind (suc parts) words = behind_first (behind parts words)

abbrev pub part_at : ℕ → List ℕ → List ℕ
part_at number words = first_part (behind number words)

-- One of the words behind the seven parts; 2,048, which is more than any room, where there is none.
abbrev pub setting_at : ℕ → List ℕ → ℕ
setting_at number words = cond (nat_lt number (length (behind 7 words))) (slice_index (behind 7 words) number) 2048

abbrev pub switches_in : List ℕ → ℕ
switches_in words = setting_at 0 words % 256

-- three words stand behind the parts, and two of them are rooms that an output has
abbrev pub is_whole : List ℕ → Bool
is_whole words = length (behind 7 words) == 3 && (nat_le (setting_at 1 words) 1024 && nat_le (setting_at 2 words) 1024)

-- items, literals, their bytes and names, as they are lent
abbrev pub lent_in : List ℕ → List ℕ → Lent
lent_in words bytes = lend_names (part_at 0 words) (part_at 1 words) bytes (part_at 3 words)

abbrev pub tokens_in : List ℕ → List ℕ
tokens_in words = part_at 4 words

-- What private functions promise. Where the part that starts at a place ends:
pub record PartEnds (words : List ℕ) (at r : ℕ) : Type 0 where
  pub within : r ≤ length words
  pub rest : drop r words ≡ behind_first (drop at words)
  pub held : take (r - (at + 1)) (drop (at + 1) words) ≡ first_part (drop at words)

-- Where a part starts:
pub record Starts (words : List ℕ) (part r : ℕ) : Type 0 where
  pub within : r ≤ length words
  pub rest : drop r words ≡ behind part words

-- Words of four bytes, the lowest first:
abbrev pub word_of : ℕ → ℕ → ℕ → ℕ → ℕ
word_of first second third fourth = first + second * 256 + third * 65536 + fourth * 16777216

unfoldable pub words_of : List ℕ → List ℕ
words_of [] = []
words_of (a ∷ []) = []
words_of (a ∷ b ∷ []) = []
words_of (a ∷ b ∷ c ∷ []) = []
words_of (a ∷ b ∷ c ∷ d ∷ raw) = word_of a b c d ∷ words_of raw

-- as many as there is room for; what is behind them is as it was
pub record Decodes (raw words : List ℕ) (r : ℕ) (after : List ℕ) : Type 0 where
  pub counted : r ≡ length (take (length words) (words_of raw))
  pub stands : after ≡ take (length words) (words_of raw) ++ drop r words

-- Words of the input, and what is behind them as it was. Free: the words.
pub record Held (r : ℕ) (words after : List ℕ) : Type 0 where
  pub within : r ≤ length words
  pub stays : drop r after ≡ drop r words
