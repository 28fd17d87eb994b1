-- What stands among segments, in the words of texts.
use Rattle.std.specs.Prelude.{◌≡◌, ℕ, ◌+◌, ◌<◌, Bool, true, false, not, ◌&&◌, nat_eq, List, [], ◌∷◌, ◌++◌, length, Option, None, Some, if◌then◌else◌}
use Rattle.vf_upper_grammar.specs.declared.segments.Segment.{Segment}
use Rattle.vf_upper_grammar.specs.declared.segments.Segment.TheVariants.{Octets, Bound, Nothing}
use Rattle.vf_upper_grammar.specs.declared.text.Text as declared
use Rattle.vf_upper_grammar.specs.HeldViews.{IsIn}
use Rattle.vf_upper_grammar.specs.Parts.{header_at, first_part, Text}
use Rattle.vf_upper_grammar.specs.Texts.{constructed_segment, Held, nothing_held, primitive_segment, segment, segments, then_held}
use Rattle.vf_upper_grammar.specs.Views.{text_of}

-- no segment begins or ends with the first octet
abbrev pub no_segment : List ℕ → Bool
no_segment [] = false
no_segment (first ∷ octets) = not (nat_eq first 0) && not (nat_eq first 4) && not (nat_eq first 36)

-- where nothing is held: by a wrong segment or at the end
abbrev pub none_held : Text → ℕ → Held
none_held text end = if no_segment text.octets then nothing_held text.at true else nothing_held end false

abbrev pub held_by : (Text → Held) → Text → ℕ → Segment → Held
held_by others text end (Octets contents rest) = then_held (text_of contents) (others (text_of rest))
held_by others text end (Bound rest) = others (text_of rest)
held_by others text end Nothing = none_held text end

-- the octets of all segments are those that it has, and those after it
abbrev pub IsStep : Text → Segment → Type 0
IsStep text step = (others : Text → Held) (end : ℕ) → segment others text end text.octets ≡ held_by others text end step

abbrev pub IsPrimitive : Text → Segment → Type 0
IsPrimitive text step = (others : Text → Held) (end : ℕ) → primitive_segment others end (first_part text) ≡ held_by others text end step

abbrev pub IsConstructed : Text → Segment → Type 0
IsConstructed text step = (others : Text → Held) (end : ℕ) → constructed_segment others text end (header_at text.octets) ≡ held_by others text end step

-- fewer octets are left than so many
abbrev pub Shortens : ℕ → Segment → Type 0
Shortens n (Octets contents rest) = length contents.octets.now + length rest.octets.now < n
Shortens n (Bound rest) = length rest.octets.now < n
Shortens n Nothing = Unit {0}

-- the octets of all segments are these and those after them
abbrev pub IsPiece : Text → Option (declared.Text × declared.Text) → Type 0
IsPiece text (Some x) = (others : Text → Held) (end : ℕ) → segment others text end text.octets ≡ then_held (text_of x.0) (others (text_of x.1))
IsPiece text None = (others : Text → Held) (end : ℕ) → segment others text end text.octets ≡ none_held text end

-- what it has and what is after it stand among all at their places
abbrev pub AreIn : List ℕ → Segment → Type 0
AreIn all (Octets contents rest) = IsIn all (text_of contents) × IsIn all (text_of rest)
AreIn all (Bound rest) = IsIn all (text_of rest)
AreIn all Nothing = Unit {0}

-- the octets of all segments are these and those after them
abbrev pub AreFirst : Text → Text → Text → Type 0
AreFirst text first after = (end : ℕ) → (segments end text).octets ≡ first.octets ++ (segments end after).octets

-- no segment has octets
abbrev pub NoneHas : Text → Type 0
NoneHas text = (end : ℕ) → (segments end text).octets ≡ []
