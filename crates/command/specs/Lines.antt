-- The lines of `reel`'s input, and what a line says: a letter, and numbers, each with one space before it.
use Rattle.std.specs.Prelude.{◌≡◌, ℕ, ◌+◌, ◌-◌, ◌*◌, ◌<◌, ◌≤◌, Bool, true, false, ◌⊎◌, List, [], ◌∷◌, ◌++◌, length, Option, Some, None, Result, Ok, Err, vec_items, ◌≢◌}
use Rattle.std.specs.List.{AllByRecursion}
use denote.Ref.{Bor}
use Rattle.command.specs.declared.Line.{Line}
use Rattle.command.specs.declared.CutOff.{CutOff}

-- How many bytes of the input count.
abbrev pub most : ℕ
most = 32768

abbrev pub space : ℕ
space = 32

abbrev pub line_feed : ℕ
line_feed = 10

abbrev pub Digit : ℕ → Type 0
Digit c = (48 ≤ c) × (c ≤ 57)

-- The number that these decimal digits write behind digits that write n.
abbrev pub value_after : ℕ → List ℕ → ℕ
value_after n [] = n
value_after n (c ∷ cs) = value_after (n * 10 + (c - 48)) cs

-- These bytes write this number: 1 to 9 decimal digits, leading zeros allowed.
pub record Numeral (n : ℕ) (bytes : List ℕ) : Type 0 where
  pub digits : AllByRecursion Digit bytes
  pub some : 1 ≤ length bytes
  pub few : length bytes ≤ 9
  pub value : value_after 0 bytes ≡ n

-- These bytes are those numbers, each with one space before it.
abbrev pub Fields : List ℕ → List ℕ → Type 0
Fields [] bytes = bytes ≡ []
Fields (n ∷ ns) bytes =
    (numeral : List ℕ) × (rest : List ℕ) × Numeral n numeral × Fields ns rest × (bytes ≡ space ∷ (numeral ++ rest))

-- A line is its letter and then its numbers.
abbrev pub Says : ℕ → List ℕ → List ℕ → Type 0
Says letter numbers line = (fields : List ℕ) × Fields numbers fields × (line ≡ letter ∷ fields)

-- The letter and the numbers that a line gave.
abbrev pub given : Option Line → Option (ℕ × List ℕ)
given None = None
given (Some l) = Some (l.letter, vec_items l.numbers)

-- A text's first line and what stands behind its line feed.
pub record Cut (text line rest : List ℕ) : Type 0 where
  pub whole : text ≡ line ++ line_feed ∷ rest
  pub one_line : AllByRecursion (λ c. c ≢ line_feed) line

-- No line feed stands in these bytes.
abbrev pub OneLine : List ℕ → Type 0
OneLine bytes = AllByRecursion (λ c. c ≢ line_feed) bytes

-- What comes next in a text, and what is left behind it: its first line; at its end the last line, which needs no line feed
-- unless it was cut off; and nothing where nothing is left.
abbrev pub Comes : Bool → List ℕ → Option (Result (Bor (List ℕ)) CutOff) → List ℕ → Type 0
Comes cut text (Some (Ok line)) rest =
    Cut text line.now rest ⊎ (OneLine text × (0 < length text) × (cut ≡ false) × (line.now ≡ text) × (rest ≡ []))
Comes cut text (Some (Err _)) rest = OneLine text × (0 < length text) × (cut ≡ true) × (rest ≡ [])
Comes cut text None rest = (text ≡ []) × (rest ≡ [])
