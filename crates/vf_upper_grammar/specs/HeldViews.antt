-- What a part holds, in the words of texts.
use Rattle.std.specs.Prelude.{◌≡◌, ℕ, ◌+◌, ◌≤◌, List, length, take, drop, Option, None, Some, Result, if◌then◌else◌}
use Rattle.std.specs.Option.{option_map}
use Rattle.vf_upper_grammar.specs.declared.held.Held as code
use Rattle.vf_upper_grammar.specs.declared.held.Held.TheVariants.{Contents, Segments}
use Rattle.vf_upper_grammar.specs.declared.marks.Stop.{Stop}
use Rattle.vf_upper_grammar.specs.Marks.{Mark, Found}
use Rattle.vf_upper_grammar.specs.MarkViews.{Gives}
use Rattle.vf_upper_grammar.specs.Parts.{Part, Text}
use Rattle.vf_upper_grammar.specs.Texts.{Held, held, located, place_of, segments}

abbrev pub octets_of : code.Held → List ℕ
octets_of (Contents at octets) = octets.now
octets_of (Segments octets) = octets

-- octets that stand at this place among all
abbrev pub Stands : List ℕ → ℕ → List ℕ → Type 0
Stands all at octets = (take (length octets) (drop at all) ≡ octets) × (at + length octets ≤ length all)

abbrev pub IsIn : List ℕ → Text → Type 0
IsIn all text = Stands all text.at text.octets

-- contents stand among all at their place
abbrev pub IsKept : List ℕ → code.Held → Type 0
IsKept all (Contents at octets) = Stands all at octets.now
IsKept all (Segments octets) = Unit {0}

abbrev pub octets_in : Option Held → Option (List ℕ)
octets_in found = option_map (λ h. h.octets) found

-- the octets of segments
abbrev pub AreGathered : Text → List ℕ → Type 0
AreGathered text octets = (end : ℕ) → (segments end text).octets ≡ octets

abbrev pub broken_at : Held → Option ℕ
broken_at h = if h.broken then Some h.end else None

-- the place of a wrong segment
abbrev pub Breaks : Text → Option ℕ → Type 0
Breaks text place = (end : ℕ) → broken_at (segments end text) ≡ place

abbrev pub PlacesHeld : Part → ℕ → ℕ → ℕ → Type 0
PlacesHeld part len offset place = (h : Held) → held part ≡ Some h → length h.octets ≡ len → place ≡ place_of h offset

abbrev pub BreaksHeld : Part → Option ℕ → Type 0
BreaksHeld part place = (h : Held) → held part ≡ Some h → broken_at h ≡ place

-- what is found in held octets, with places in the user data
abbrev pub IsLocated : Part → ℕ → Result Unit Stop → Result Unit Stop → Type 0
IsLocated part len read result =
    (h : Held) → held part ≡ Some h → length h.octets ≡ len → (marks : List Mark) (found : Found) → Gives read marks found → Gives result marks (located h found)
