-- Whether the fields of a row are in range, slot by slot.
use Rattle.std.specs.Prelude.{Bool, true, false, ◌&&◌, List, [], ◌∷◌, Some, None}
use Rattle.vf_pdu_fields.specs.Content.{Slot}
use Rattle.vf_pdu_fields.specs.Meaning.{fits}
use Rattle.vf_pdu_fields.specs.Rows.{Need, required, optional, default, Form, Row, end, field}

-- a field that is there is in range, and one that may be is absent
abbrev pub slot_fits : Form → Need → Slot → Bool
slot_fits form need (Some content) = fits form content
slot_fits form required None = false
slot_fits form optional None = true
slot_fits form (default content) None = false

abbrev pub slots_fit : Row → List Slot → Bool
slots_fit end [] = true
slots_fit end (slot ∷ slots) = false
slots_fit (field number form need row) [] = false
slots_fit (field number form need row) (slot ∷ slots) = slot_fits form need slot && slots_fit row slots
