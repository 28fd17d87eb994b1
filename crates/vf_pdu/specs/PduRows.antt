-- The table of the PDUs (ISO 8571-4 has the PDUs and their numbers; the fields are this profile's).
use Rattle.std.specs.Prelude.{ℕ, List, [], ◌++◌, get_or}
use Rattle.vf_pdu_fields.specs.Rows.{Row}
use Rattle.vf_pdu.specs.PduAccess.{access_entries}
use Rattle.vf_pdu.specs.PduAssociation.{association_entries}
use Rattle.vf_pdu.specs.PduAttribute.{attribute_entries}
use Rattle.vf_pdu.specs.PduEntry.{Entry, bare, entry}
use Rattle.vf_pdu.specs.PduGroup.{group_entries}
use Rattle.vf_pdu.specs.PduSelection.{selection_entries}
use Rattle.vf_pdu.specs.PduTransfer.{transfer_entries}
use Rattle.vf_pdu.specs.declared.pdu.Pdu.TheVariants.{TerminateRequest}

-- the entry of each number, from 0 to 40
abbrev pub entries : List Entry
entries = association_entries ++ (selection_entries ++ (attribute_entries ++ (group_entries ++ (access_entries ++ transfer_entries))))

-- what a number above 40 has
abbrev pub no_entry : Entry
no_entry = entry bare (λ all. TerminateRequest)

abbrev pub entry_of : ℕ → Entry
entry_of number = get_or entries number no_entry

unfoldable pub row_of : ℕ → Row
row_of number = let found : Entry = entry_of number in found.its_row
