-- How long the values of data elements are.
use Rattle.std.specs.Prelude.{◌≤◌, length}
use Rattle.vf_base.specs.declared.element.Element.{Element}
use Rattle.vf_base.specs.declared.element.Element.TheVariants.{Text, Binary}
use Rattle.vf_base.specs.declared.limits.TheConstants.{MOST_STRING_OCTETS}
use Rattle.vf_ber.specs.Limits.{IsTooLarge}
use Rattle.vf_elements.specs.ElementValue.{IsWritable, value}

-- a string no longer than the longest that a file holds (profile)
abbrev pub IsShort : Element → Type 0
IsShort (Text class octets) = length octets ≤ MOST_STRING_OCTETS
IsShort (Binary octets) = length octets ≤ MOST_STRING_OCTETS
IsShort _ = Unit {0}

-- the value of such an element is within the limits of values
abbrev pub ElementIsWithin : Type 0
ElementIsWithin = (element : Element) → IsWritable element → IsShort element → IsTooLarge (value element) → ⊥
