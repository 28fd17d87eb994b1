-- How values, PDUs and faults agree.
use Rattle.std.specs.Prelude.{◌≡◌, ℕ, None, Some}
use Rattle.vf_ber.specs.Tree.{Tree}
use Rattle.vf_pdu_fields.specs.Content.{Content}
use Rattle.vf_pdu_fields.specs.Faults.{form_of}
use Rattle.vf_pdu.specs.PduFaults.{fault}
use Rattle.vf_pdu_fields.specs.Meaning.{Has}
use Rattle.vf_pdu.specs.PduComputed.{meaning}
use Rattle.vf_pdu.specs.PduMeaning.{IsInRange, Means}
use Rattle.vf_pdu_fields.specs.Reading.{shape}
use Rattle.vf_pdu_fields.specs.Rows.{Form}
use Rattle.vf_pdu.specs.PduRows.{row_of}
use Rattle.vf_pdu.specs.PduValue.{value}
use Rattle.vf_pdu.specs.declared.pdu.Pdu.{Pdu}

-- a value that means a PDU has no fault
abbrev pub MeaningHasNoFault : Type 0
MeaningHasNoFault = (tree : Tree) (pdu : Pdu) → Means tree pdu → fault tree ≡ None

-- a value means no two PDUs
abbrev pub MeaningIsOne : Type 0
MeaningIsOne = (tree : Tree) (p q : Pdu) → Means tree p → Means tree q → p ≡ q

-- what a value means is in range, so that it can be written
abbrev pub MeaningIsInRange : Type 0
MeaningIsInRange = (tree : Tree) (pdu : Pdu) → Means tree pdu → IsInRange pdu

-- the value of a PDU has no fault, and means this PDU alone
abbrev pub WrittenIsReadAgain : Type 0
WrittenIsReadAgain = (pdu : Pdu) → IsInRange pdu → (fault (value pdu) ≡ None) × ((other : Pdu) → Means (value pdu) other → other ≡ pdu)

-- what is computed of a value is what it means
abbrev pub MeaningIsComputed : Type 0
MeaningIsComputed = (tree : Tree) (pdu : Pdu) → (Means tree pdu → meaning tree ≡ Some pdu) × (meaning tree ≡ Some pdu → Means tree pdu)

-- Meanings and faults have the same words for the form of a field: what a value has of the form of a PDU's field is
-- the contents that faults look at, and no other.
abbrev pub FormsHaveOneContent : Type 0
FormsHaveOneContent = (number tag : ℕ) (form : Form) → form_of (row_of number) tag ≡ Some form → (tree : Tree) (content : Content)
    → (Has form tree content → shape form tree ≡ Some content) × (shape form tree ≡ Some content → Has form tree content)
