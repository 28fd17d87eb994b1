-- Fields that are put one after another are those of the row.
use Rattle.std.proofs.Common.{◌≡◌, ℕ, List, [], ◌∷◌, refl, ap, ◌∙◌}
use Rattle.vf_ber.specs.Tree.{Trees}
use Rattle.vf_pdu_fields.specs.Content.{Slot}
use Rattle.vf_pdu_fields.specs.Rows.{Need, Form, Row, end, field}
use Rattle.vf_pdu_fields.specs.Writing.{◌▸◌, appended, part_of}

-- the fields of the row with these slots, put after these parts, are what is made
pub record Puts (made parts : Trees) (row : Row) (all : List Slot) : Type 0 where
  pub is : made ≡ appended parts row all

pub put_next : (made parts next : Trees) (number : ℕ) (form : Form) (need : Need) (row : Row) (slot : Slot) (all : List Slot) → next ≡ parts ▸ part_of number form need slot
    → Puts made next row all → Puts made parts (field number form need row) (slot ∷ all)
put_next made parts next number form need row slot all e h = record { is = h.is ∙ ap (λ p. appended p row all) e }

pub put_end : (made : Trees) → Puts made made end []
put_end made = record { is = refl }
