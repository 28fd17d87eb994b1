-- How a transfer ends (ISO 8571-2, actions on files; ISO 8571-3; the rows, their order and the limits are profile). One
-- that was refused at its request performs nothing, and neither does one whose values are refused here.
use Rattle.std.specs.Prelude.{ℕ, ◌+◌, Bool, true, false, not, ◌&&◌, List, [], ◌∷◌, Option, None, Some, Result, Ok, Err, if◌then◌else◌, nat_eq, nat_le, option_map}
use Rattle.vf_attr.specs.declared.file.File.{File}
use Rattle.vf_attr.specs.declared.stamp.Stamp.{Stamp}
use Rattle.vf_base.specs.declared.access.FaduId.{FaduId}
use Rattle.vf_base.specs.declared.diagnostic.Diagnostic.{Diagnostic}
use Rattle.vf_base.specs.declared.element.Element.{Element}
use Rattle.vf_doctype.specs.DocumentTypes.{doc_type}
use Rattle.vf_doctype.specs.Units.{units}
use Rattle.vf_doctype.specs.declared.doc_type.DocType.{DocType}
use Rattle.vf_doctype.specs.declared.errors.DocError.{DocError}
use Rattle.vf_doctype.specs.declared.errors.DocError.TheVariants as doc_errors
use Rattle.vf_pdu_fields.specs.declared.operation.WriteOperation.{WriteOperation}
use Rattle.vf_tables.specs.Sums.{octets_of_files}
use Rattle.vf_tables.specs.declared.limits.TheConstants.{MOST_FILESTORE_OCTETS}
use Rattle.vf_tree.specs.Actions.{Outcome}
use Rattle.vf_tree.specs.Acts.{does}
use Rattle.vf_tree.specs.FileTree.{DataUnit, FileTree, octets_in, parts_in}
use Rattle.vf_tree.specs.TreeRefusal.{TreeRefusal}
use Rattle.vf_tree.specs.declared.limits.TheConstants.{MOST_FILE_OCTETS, MOST_FILE_PARTS}
use Rattle.vf_filestore.specs.Diagnostics.{Row, row, first_row, plain, name_unknown, contents_mismatch, bad_element, element_too_long, file_full, store_full, cancelled}
use Rattle.vf_filestore.specs.Files.{with_file}
use Rattle.vf_filestore.specs.History.{Given, Nothing, position}
use Rattle.vf_filestore.specs.Opening.{act_of, act_row, placed, version_row}
use Rattle.vf_filestore.specs.State.{State, StandingParty, identity_of, selected_file}
use Rattle.vf_filestore.specs.Transfers.{Movement, Reads, Writes, Transfer, data_end, front, point, refusal_of, survivors, under_way}

-- what is answered, what is given, and the file after it where it isn't as it was
pub record Ending : Type 0 where
  pub refused : Option Diagnostic
  pub given : Given
  pub file : Option File

abbrev pub unchanged : Option Diagnostic → Ending
unchanged refused = record { refused = refused; given = Nothing; file = None }

-- a file keeps who read it last, and when
abbrev pub after_read : Stamp → File → File
after_read stamp file = record file { read = Some stamp }

-- a change of the contents makes a version, and has its stamp
abbrev pub after_act : Stamp → File → FileTree → File
after_act stamp file tree = record file { modified = Some stamp; version = file.version + 1; tree = tree }

abbrev pub file_after : Stamp → File → Result Outcome TreeRefusal → File
file_after stamp file (Ok outcome) = after_act stamp file outcome.tree
file_after stamp file (Err refusal) = file

abbrev pub element_diagnostic : DocError → Diagnostic
element_diagnostic doc_errors.BadElement = plain bad_element
element_diagnostic doc_errors.TooLong = plain element_too_long
element_diagnostic doc_errors.NoMemory = plain 0

abbrev pub element_row : Result (List DataUnit) DocError → Row
element_row (Ok units) = None
element_row (Err error) = Some (element_diagnostic error)

abbrev pub units_or_none : Result (List DataUnit) DocError → List DataUnit
units_or_none (Ok units) = units
units_or_none (Err error) = []

abbrev pub is_within_file : List DataUnit → Bool
is_within_file units = nat_le (octets_in units) MOST_FILE_OCTETS && nat_le (parts_in units) MOST_FILE_PARTS

-- the limits of a file and of the filestore, with the file as it would be
abbrev pub room_rows : List File → (before after : File) → List Row
room_rows files before after =
    row (not (is_within_file after.tree.units)) file_full
    ∷ version_row before
    ∷ row (not (nat_le (octets_of_files (with_file after files)) MOST_FILESTORE_OCTETS)) store_full ∷ []

abbrev pub performed_by : Row → File → Result Outcome TreeRefusal → Ending
performed_by (Some diagnostic) after outcome = unchanged (Some diagnostic)
performed_by None after outcome = record { refused = None; given = placed outcome; file = Some after }

-- the operation of a write with the units that its values make
abbrev pub written : List File → Stamp → File → (position : ℕ) → WriteOperation → FaduId → Result (List DataUnit) DocError → Ending
written files stamp file position operation fadu made =
    let outcome = does file.tree position (act_of operation fadu (units_or_none made)) in
    let after = file_after stamp file outcome in
    performed_by (first_row (element_row made ∷ act_row outcome ∷ room_rows files file after)) after outcome

abbrev pub written_in : List File → Stamp → File → (position : ℕ) → WriteOperation → FaduId → List Element → Option DocType → Ending
written_in files stamp file position operation fadu values None = unchanged (Some (plain contents_mismatch))
written_in files stamp file position operation fadu values (Some doc) =
    written files stamp file position operation fadu (units doc values)

-- a write of these values
abbrev pub write_of : List File → Stamp → Option File → (position : ℕ) → WriteOperation → FaduId → List Element → Ending
write_of files stamp None position operation fadu values = unchanged (Some (plain name_unknown))
write_of files stamp (Some file) position operation fadu values =
    written_in files stamp file position operation fadu values (doc_type file.contents)

-- a read that ends, however it does
abbrev pub read_ending : Stamp → Option File → Ending
read_ending stamp file = record { refused = None; given = Nothing; file = option_map (after_read stamp) file }

-- the initiator ended its values with a diagnostic
abbrev pub was_given_up : Option (Option Diagnostic) → Bool
was_given_up (Some (Some diagnostic)) = true
was_given_up (Some None) = false
was_given_up None = false

abbrev pub write_ending : State → StandingParty → Stamp → WriteOperation → FaduId → Ending
write_ending state party stamp operation fadu =
    if was_given_up (data_end party.history) then unchanged (Some (plain cancelled))
    else write_of state.files stamp (selected_file state party.history) (position party.history) operation fadu (survivors party.history)

abbrev pub ending_of : State → StandingParty → Stamp → Movement → Ending
ending_of state party stamp (Reads fadu context) = read_ending stamp (selected_file state party.history)
ending_of state party stamp (Writes operation fadu) = write_ending state party stamp operation fadu

abbrev pub ending_unless : Option Diagnostic → Ending → Ending
ending_unless (Some diagnostic) ending = unchanged (Some diagnostic)
ending_unless None ending = ending

abbrev pub ending_in : State → StandingParty → Stamp → Option Transfer → Ending
ending_in state party stamp None = unchanged None
ending_in state party stamp (Some transfer) =
    ending_unless (refusal_of transfer.given) (ending_of state party stamp transfer.movement)

abbrev pub stamp_of : StandingParty → (moment : ℕ) → Stamp
stamp_of party moment = record { moment = moment; identity = identity_of party }

-- F-TRANSFER-END: of a write the values that stand
abbrev pub transfer_ending : State → StandingParty → (moment : ℕ) → Ending
transfer_ending state party moment = ending_in state party (stamp_of party moment) (under_way party.history)

-- A cancel has no diagnostic: where what it would perform is refused it performs nothing.
abbrev pub in_silence : Ending → Ending
in_silence ending = record ending { refused = None }

-- of a write that has an acknowledged check the values before the last one
abbrev pub cancelled_write : State → StandingParty → Stamp → WriteOperation → FaduId → Ending
cancelled_write state party stamp operation fadu =
    if nat_eq (point party.history) 0 then unchanged None
    else in_silence (write_of state.files stamp (selected_file state party.history) (position party.history) operation fadu (front party.history))

abbrev pub cancel_of : State → StandingParty → Stamp → Movement → Ending
cancel_of state party stamp (Reads fadu context) = read_ending stamp (selected_file state party.history)
cancel_of state party stamp (Writes operation fadu) = cancelled_write state party stamp operation fadu

abbrev pub cancel_in : State → StandingParty → Stamp → Option Transfer → Ending
cancel_in state party stamp None = unchanged None
cancel_in state party stamp (Some transfer) =
    in_silence (ending_unless (refusal_of transfer.given) (cancel_of state party stamp transfer.movement))

-- F-CANCEL
abbrev pub cancel_ending : State → StandingParty → (moment : ℕ) → Ending
cancel_ending state party moment = cancel_in state party (stamp_of party moment) (under_way party.history)
