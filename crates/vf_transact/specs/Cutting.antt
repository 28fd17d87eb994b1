-- How the code cuts an input: by the line that begins at a place.
use Rattle.std.specs.Prelude.{◌≡◌, ◌+◌, ◌<◌, ◌≤◌, ℕ, Bool, true, false, List, [], ◌∷◌, drop, length, take}
use Rattle.vf_base.specs.declared.element.Element.{Element}
use Rattle.vf_initiator.specs.Cutting.{lines, record_of, text_of}
use Rattle.vf_transact.specs.declared.cutting.Line.{Line}

-- The lines from a place on are this one and those from the next place on.
pub record IsLineAt (input : List ℕ) (start : ℕ) (line : Line) : Type 0 where
  pub lines_are : lines (drop start input) ≡ take line.length (drop start input) ∷ lines (drop line.next input)
  pub within : start + line.length ≤ length input
  pub further : start < line.next
  pub next_within : line.next ≤ length input

-- what a line gives
abbrev pub elements_of_line : (is_record : Bool) → List ℕ → List Element
elements_of_line true line = record_of line
elements_of_line false line = text_of line ∷ []
