-- A reader of lines over a source (profile).
use Rattle.std.specs.Prelude.{◌≡◌, ◌≢◌, ◌<◌, ◌≤◌, ℕ, ◌+◌, ◌*◌, ◌++◌, ◌⊎◌, List, [], ◌∷◌, length, Bool, true, false, Option, Some, None, option_map, IfSome, Result, Ok, Err}
use Rattle.vf_cli_dialogue.specs.Hex.{half_of}
use Rattle.vf_cli_dialogue.specs.Lines.{Input, line_feed, input_limit, says_from, ended, bad_at, piece_before}
use Rattle.vf_cli_dialogue.specs.declared.block.Stop.{Stop}
use Rattle.vf_cli_dialogue.specs.declared.block.Stop.TheVariants as stops
use Rattle.vf_cli_dialogue.specs.declared.lines.NextLine.{NextLine}
use Rattle.vf_cli_dialogue.specs.declared.lines.NextLine.TheVariants.{Piece, Bad, End}
use Rattle.vf_cli_dialogue.specs.declared.lines.LineError.{LineError}
use Rattle.vf_cli_dialogue.specs.declared.lines.Found.{Found}
use Rattle.vf_cli_dialogue.specs.declared.lines.Found.TheVariants as found

-- octets before those that a source has left, where it tells them
abbrev pub with_prefix : List ℕ → Option (List ℕ) → Option (List ℕ)
with_prefix prefix None = None
with_prefix prefix (Some left) = Some (prefix ++ left)

-- Where a reader stands: the octets of the lines that it answered, the number of the next line, and the octets
-- that it read and has not answered.
pub record Place : Type 0 where
  pub count : ℕ
  pub number : ℕ
  pub ahead : List ℕ

-- what a reader will answer, where its source tells what it has left
abbrev pub will_say : Place → Option (List ℕ) → Option Input
will_say place left = option_map (says_from place.count place.number) (with_prefix place.ahead left)

-- A call answers what comes first. It leaves what comes after a piece, and otherwise what there was.
abbrev pub Answers : Option Input → Option Input → List ℕ → Result NextLine LineError → Type 0
Answers None new piece result = new ≡ None
Answers (Some old) new piece (Ok Piece) = (later : Input) × (new ≡ Some later) × (old ≡ piece_before piece later)
Answers (Some old) new piece (Ok (Bad number)) = (new ≡ Some old) × (old ≡ bad_at number)
Answers (Some old) new piece (Ok End) = (new ≡ Some old) × (old ≡ ended)
Answers (Some old) new piece (Err error) = new ≡ Some old

-- an octet that no good line has
abbrev pub IsStray : ℕ → Type 0
IsStray octet = (half_of octet ≡ None) × (octet ≢ line_feed)

-- what octets begin with that don't begin with a digit
abbrev pub Stops : Stop → List ℕ → Type 0
Stops stops.Feed octets = (rest : List ℕ) × (octets ≡ line_feed ∷ rest)
Stops stops.Other octets = (octet : ℕ) × (rest : List ℕ) × (octets ≡ octet ∷ rest) × IsStray octet
Stops stops.End octets = octets ≡ []

-- The digits that a block begins with are moved to others.
abbrev pub MovesDigits : List ℕ → List ℕ → List ℕ → List ℕ → Stop → Type 0
MovesDigits old new old_digits new_digits stop =
    (moved : List ℕ) × (old ≡ moved ++ new) × (new_digits ≡ old_digits ++ moved) × Stops stop new

-- A block was filled with what comes next, and is empty only at the end.
abbrev pub IsFilled : List ℕ → Option (List ℕ) → Bool → Type 0
IsFilled block left true = 0 < length block
IsFilled block left false = (block ≡ []) × IfSome left (λ octets. octets ≡ [])

-- the end of the input
abbrev pub IsAtEnd : List ℕ → Option (List ℕ) → Type 0
IsAtEnd block left = (block ≡ []) × IfSome left (λ octets. octets ≡ [])

-- what stands at the end of the input, after these digits
abbrev pub EndsAt : List ℕ → Found → Type 0
EndsAt digits found.Feed = ⊥
EndsAt digits found.Bad = 0 < length digits
EndsAt digits found.Nothing = digits ≡ []

-- What a search left: a line's digits before its line feed, the end of the input, or a bad line, which has too many digits
-- or another octet, or no end.
abbrev pub Finds : ℕ → List ℕ → List ℕ → Option (List ℕ) → Found → Type 0
Finds room digits block left found.Feed = Stops stops.Feed block × (length digits ≤ room)
Finds room digits block left found.Nothing = (digits ≡ []) × IsAtEnd block left
Finds room digits block left found.Bad =
    (room < length digits) ⊎ (Stops stops.Other block ⊎ ((0 < length digits) × IsAtEnd block left))

-- A piece takes two digits for each octet and a line feed, within the limit. Else the count stays.
abbrev pub Progresses : ℕ → ℕ → List ℕ → NextLine → Type 0
Progresses old new piece Piece = (old + 2 * length piece < new) × (new ≤ input_limit)
Progresses old new piece (Bad number) = new ≡ old
Progresses old new piece End = new ≡ old
