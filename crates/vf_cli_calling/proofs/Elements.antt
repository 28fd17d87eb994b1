-- Values of data elements that are no longer than the limit of values are within its limits: none is deep.
use Rattle.std.proofs.Common.{◌≤◌, true, false, Some, None, length, arith, inl, inr}
use Rattle.vf_base.specs.declared.element.Element.{Element}
use Rattle.vf_base.specs.declared.element.Element.TheVariants.{Descriptor, Enter, Exit, Text, Binary}
use Rattle.vf_base.specs.declared.limits.TheConstants.{MOST_VALUE_OCTETS}
use Rattle.vf_ber.specs.Limits.{IsTooLarge}
use Rattle.vf_ber.specs.Spelling.{spell}
use Rattle.vf_ber.specs.Tree.{depth}
use Rattle.vf_ber.specs.declared.limits.TheConstants.{MOST_DEPTH}
use Rattle.vf_elements.specs.ElementValue.{value as element_value}

is_shallow : (element : Element) → depth (element_value element) ≤ MOST_DEPTH
is_shallow (Descriptor None true) = omega arith
is_shallow (Descriptor None false) = omega arith
is_shallow (Descriptor (Some name) true) = omega arith
is_shallow (Descriptor (Some name) false) = omega arith
is_shallow Enter = omega arith
is_shallow Exit = omega arith
is_shallow (Text class octets) = omega arith
is_shallow (Binary octets) = omega arith

pub element_within : (element : Element) → length (spell (element_value element)) ≤ MOST_VALUE_OCTETS → IsTooLarge (element_value element) → ⊥
element_within element short (inl deep) = let shallow = is_shallow element in omega (arith, deep, shallow)
element_within element short (inr long) = omega (arith, short, long)
