-- Whether two files have equal units.
use Rattle.std.specs.Prelude.{Bool, true, false, ◌&&◌, not, nat_eq, List, Option, Some, None, if◌then◌else◌, ℕ}
use Rattle.std.specs.Cmp.Lexicographic.{pointwise}
use Rattle.vf_base.specs.declared.element.Element.{Element}
use Rattle.vf_base.specs.declared.element.Element.TheVariants.{Descriptor, Enter, Exit, Text, Binary}
use Rattle.vf_tree.specs.FileTree.{DataUnit}

abbrev pub is_same_name : Option (List ℕ) → Option (List ℕ) → Bool
is_same_name (Some name) (Some other) = pointwise nat_eq name other
is_same_name None None = true
is_same_name _ _ = false

abbrev pub is_same_element : Element → Element → Bool
is_same_element (Descriptor name filled) (Descriptor other full) = (if filled then full else not full) && is_same_name name other
is_same_element Enter Enter = true
is_same_element Exit Exit = true
is_same_element (Text class octets) (Text other others) = nat_eq class other && pointwise nat_eq octets others
is_same_element (Binary octets) (Binary others) = pointwise nat_eq octets others
is_same_element _ _ = false

abbrev pub is_same_unit : DataUnit → DataUnit → Bool
is_same_unit unit other = pointwise is_same_element unit other

unfoldable pub are_same_units : List DataUnit → List DataUnit → Bool
are_same_units units others = pointwise is_same_unit units others
