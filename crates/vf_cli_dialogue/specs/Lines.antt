-- The lines of an input (profile). A line ends with a line feed and spells a piece, one octet at least, in
-- hexadecimal. Any other line is bad, and so is one without a line feed, or one that ends after the limit.
use Rattle.std.specs.Prelude.{◌≢◌, All, ℕ, ◌+◌, ◌++◌, nat_le, nat_eq, if◌then◌else◌, List, [], ◌∷◌, length, Option, Some, None}
use Rattle.vf_cli_dialogue.specs.Hex.{octets_of, hex_of}
pub use Rattle.vf_cli_printing.specs.Printed.{bad_line, line_feed}

-- octets of input, line feeds among them
abbrev pub input_limit : ℕ
input_limit = 67108864

-- the lines of some octets, without their line feeds, and the octets after the last line feed
pub record Cut : Type 0 where
  pub lines : List (List ℕ)
  pub rest : List ℕ

abbrev pub octet_before : ℕ → List (List ℕ) → List ℕ → Cut
octet_before octet [] rest = record { lines = []; rest = octet ∷ rest }
octet_before octet (line ∷ lines) rest = record { lines = (octet ∷ line) ∷ lines; rest = rest }

abbrev pub cut : List ℕ → Cut
cut [] = record { lines = []; rest = [] }
cut (octet ∷ octets) =
    let after = cut octets in
    if nat_eq octet line_feed then record { lines = [] ∷ after.lines; rest = after.rest }
    else octet_before octet after.lines after.rest

-- octets within a line
abbrev pub IsInLine : List ℕ → Type 0
IsInLine octets = All (λ octet. octet ≢ line_feed) octets

-- what an input says: the pieces of the lines before the first bad line, and the number of that line, from 1
pub record Input : Type 0 where
  pub pieces : List (List ℕ)
  pub bad : Option ℕ

abbrev pub ended : Input
ended = record { pieces = []; bad = None }

abbrev pub bad_at : ℕ → Input
bad_at number = record { pieces = []; bad = Some number }

abbrev pub piece_before : List ℕ → Input → Input
piece_before piece input = record { pieces = piece ∷ input.pieces; bad = input.bad }

-- the piece of a line that ends at this octet of the input, if the line is good
abbrev pub piece_of : ℕ → List ℕ → Option (List ℕ)
piece_of count [] = None
piece_of count (digit ∷ digits) = if nat_le count input_limit then octets_of (digit ∷ digits) else None

abbrev pub line_before : Option (List ℕ) → ℕ → Input → Input
line_before (Some piece) number input = piece_before piece input
line_before None number input = bad_at number

-- what lines and the octets after them say, from the line of this number on, with so many octets before it
abbrev pub lines_say : ℕ → ℕ → List (List ℕ) → List ℕ → Input
lines_say count number [] [] = ended
lines_say count number [] (octet ∷ octets) = bad_at number
lines_say count number (line ∷ lines) rest =
    let count = count + length line + 1 in
    line_before (piece_of count line) number (lines_say count (number + 1) lines rest)

abbrev pub says_from : ℕ → ℕ → List ℕ → Input
says_from count number octets = lines_say count number (cut octets).lines (cut octets).rest

-- what an input of these octets says
abbrev pub says : List ℕ → Input
says octets = says_from 0 1 octets

-- the line that spells octets
abbrev pub hex_line : List ℕ → List ℕ
hex_line octets = hex_of octets ++ line_feed ∷ []
