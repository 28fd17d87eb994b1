-- Two systems append records to one file, each under exclusive control, and one of them breaks in the middle and comes
-- back: their schedule, the serial order and what it leaves.
use Rattle.std.specs.Prelude.{◌≡◌, ℕ, Bool, true, List, [], ◌∷◌, ◌++◌, None, Some, map}
use Rattle.vf_base.specs.declared.access.FaduId.TheVariants.{End}
use Rattle.vf_base.specs.declared.action.Control.TheVariants.{Exclusive, NoAccess}
use Rattle.vf_base.specs.declared.element.Element.{Element}
use Rattle.vf_base.specs.declared.element.Element.TheVariants.{Descriptor, Text}
use Rattle.vf_elements.specs.declared.message.Message.{Message}
use Rattle.vf_elements.specs.declared.message.Message.TheVariants as messages
use Rattle.vf_pdu.specs.declared.pdu.Pdu.TheVariants.{CloseRequest, DataEnd, OpenRequest, TransferEndRequest, WriteRequest}
use Rattle.vf_pdu_fields.specs.declared.controls.ContentControls.{ContentControls}
use Rattle.vf_pdu_fields.specs.declared.operation.WriteOperation.TheVariants.{Insert}
use Rattle.vf_tree.specs.Acts.{Inserts}
use Rattle.vf_tree.specs.FileTree.{DataUnit}
use Rattle.vf_filestore.specs.Runs.{Event, beginning}
use Rattle.vf_filestore.specs.Samples.{a, initialize, on, recover, select, set, text_file, then_on}
use Rattle.vf_filestore.specs.State.{State}
use Rattle.vf_serial.specs.FileModel.{Operation, contents_after}
use Rattle.vf_serial.specs.Isolating.{isolates, isolating_controls}
use Rattle.vf_attr.specs.declared.file.File.{File}
use Rattle.std.specs.List.{list_all}
use Rattle.vf_serial.specs.Moves.{Happening, Happens, state_after}
use Rattle.vf_serial.specs.Schedule.{Place, Performs, Ceases, serial, serial_order}
use Rattle.vf_serial.specs.Uses.{Use, is_isolated, schedule_of, uses}

abbrev pub text : ℕ → Element
text letter = Text 25 (letter ∷ [])

abbrev pub record_of : ℕ → DataUnit
record_of letter = text letter ∷ []

abbrev pub with_records : State
with_records = beginning [] (text_file a (record_of 65 ∷ []) ∷ [])

-- insertion, and nobody else reads or changes
abbrev pub alone : ContentControls
alone = record { read = NoAccess; insert = Exclusive; replace = NoAccess; extend = NoAccess; erase = NoAccess }

abbrev pub open_to_append : (activity : ℕ) → Message
open_to_append activity = messages.Pdu (OpenRequest 2 None (Some alone) (Some activity))

abbrev pub appends : ℕ → List Message
appends letter = messages.Pdu (WriteRequest Insert End) ∷ messages.Element (Descriptor None true) ∷ messages.Element (text letter) ∷ []

abbrev pub done : List Message
done = messages.Pdu (DataEnd None) ∷ messages.Pdu TransferEndRequest ∷ []

-- The first appends a record, and breaks with a check of the next one acknowledged. The second finds the file held, until
-- the first has come back, has ended its record and has closed the file.
abbrev pub run_of_two : List Event
run_of_two =
    on 1 (initialize 255 ∷ select a 2 ∷ open_to_append 7 ∷ []) ++ then_on 1 (appends 66 ++ done)
    ++ then_on 1 (appends 67 ++ messages.Check ∷ messages.Break ∷ [])
    ++ on 2 (initialize 255 ∷ select a 2 ∷ open_to_append 8 ∷ [])
    ++ on 3 (initialize 255 ∷ recover 7 2 1 ∷ [])
    ++ then_on 3 (done ++ messages.Pdu CloseRequest ∷ [])
    ++ then_on 2 (open_to_append 8 ∷ []) ++ then_on 2 (appends 68 ++ done) ++ then_on 2 (messages.Pdu CloseRequest ∷ [])

abbrev pub happened : List Happening
happened = map Happens run_of_two

abbrev pub used : List Use
used = uses happened with_records

abbrev pub schedules : List (List (Place Operation))
schedules = map schedule_of used

abbrev pub appended : ℕ → Operation
appended letter = record { act = Inserts End (record_of letter ∷ []); shown = [] }

-- all records, as the serial order leaves them, and the file has them
abbrev pub four : List DataUnit
four = record_of 65 ∷ record_of 66 ∷ record_of 67 ∷ record_of 68 ∷ []

abbrev pub serial_units : Use → List DataUnit
serial_units one = (contents_after (serial (schedule_of one)) one.world).units

abbrev pub units_of : File → List DataUnit
units_of file = file.tree.units

-- every mode has controls by which its opens isolate
abbrev pub modes : List ℕ
modes =
    0 ∷ 1 ∷ 2 ∷ 3 ∷ 4 ∷ 5 ∷ 6 ∷ 7 ∷ 8 ∷ 9 ∷ 10 ∷ 11 ∷ 12 ∷ 13 ∷ 14 ∷ 15 ∷ 16 ∷ 17 ∷ 18 ∷ 19 ∷ 20 ∷ 21 ∷ 22 ∷ 23 ∷ 24 ∷ 25 ∷ 26 ∷ 27 ∷ 28 ∷ 29
    ∷ 30 ∷ 31 ∷ []

abbrev pub isolates_in : ℕ → Bool
isolates_in mode = isolates (record { number = 0; mode = set mode; controls = isolating_controls (set mode); activity = None })

pub record RowsOfAppends : Type 0 where
  pub schedule_is : schedules ≡
      (Performs 2 (appended 66) ∷ Performs 2 (appended 67) ∷ Ceases 2 ∷ Performs 19 (appended 68) ∷ Ceases 19 ∷ []) ∷ []
  pub isolated : map is_isolated used ≡ true ∷ []
  pub order_is : map serial_order schedules ≡ (2 ∷ 19 ∷ []) ∷ []
  pub in_serial_order : map serial_units used ≡ four ∷ []
  pub file_has : map units_of (state_after happened with_records).files ≡ four ∷ []
  pub each_mode_isolates : list_all isolates_in modes ≡ true
