-- How values, data elements and faults agree.
use Rattle.std.specs.Prelude.{◌≡◌, None, Ok}
use Rattle.vf_base.specs.declared.element.Element.{Element}
use Rattle.vf_ber.specs.Tree.{Tree}
use Rattle.vf_elements.specs.ElementFaults.{element_fault}
use Rattle.vf_elements.specs.ElementReading.{element_in}
use Rattle.vf_elements.specs.ElementValue.{IsWritable, value}
use Rattle.vf_elements.specs.Elements.{Means}

-- a value that means an element has no fault
abbrev pub MeaningHasNoFault : Type 0
MeaningHasNoFault = (tree : Tree) (element : Element) → Means tree element → element_fault tree ≡ None

-- a value means no two elements
abbrev pub MeaningIsOne : Type 0
MeaningIsOne = (tree : Tree) (e f : Element) → Means tree e → Means tree f → e ≡ f

-- what a value means can be written
abbrev pub MeaningIsWritable : Type 0
MeaningIsWritable = (tree : Tree) (element : Element) → Means tree element → IsWritable element

-- the value of an element has no fault, and means this element alone
abbrev pub WrittenIsReadAgain : Type 0
WrittenIsReadAgain = (element : Element) → IsWritable element → (element_fault (value element) ≡ None) × ((other : Element) → Means (value element) other → other ≡ element)

-- what is found in a value is what it means
abbrev pub MeaningIsFound : Type 0
MeaningIsFound = (tree : Tree) (element : Element) → Means tree element → element_in tree ≡ Ok element
