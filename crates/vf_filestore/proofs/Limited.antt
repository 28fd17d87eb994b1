-- Files stay within the limits, of their document types, with each request that is granted.
use Rattle.std.proofs.Common.{◌≡◌, ℕ, ◌+◌, ◌<◌, ◌≤◌, Bool, true, false, cond, not, List, [], ◌∷◌, ◌++◌, length, Option, None, Some, refl, ap, sym, subst, ◌∙◌, arith, length-append, Result, Ok, Err}
use Rattle.std.specs.Prelude.{IfSome, nat_eq, nat_le, nat_lt}
use Rattle.std.specs.List.{AllByRecursion}
use Rattle.std.specs.Option.{option_map}
use Rattle.std.specs.Str.{bytes_eq}
use Rattle.std.proofs.lemmas.Bool.{and_parts, leb-true, ltb-true, not-false}
use Rattle.std.proofs.lemmas.List.Sums.{sum_by-append, sum_by-cons}
use Rattle.vf_attr.specs.Change.{after_change}
use Rattle.vf_attr.specs.declared.changes.AttributeChange.{AttributeChange}
use Rattle.vf_attr.specs.declared.file.File.{File}
use Rattle.vf_attr.specs.declared.stamp.Stamp.{Stamp}
use Rattle.vf_base.specs.declared.access.Constraint.{Constraint}
use Rattle.vf_base.specs.declared.access.Constraint.TheVariants.{Unstructured, SequentialFlat}
use Rattle.vf_base.specs.declared.access.FaduId.{FaduId}
use Rattle.vf_base.specs.declared.access.FaduId.TheVariants.{Begin, End, First}
use Rattle.vf_base.specs.declared.action.Action.TheVariants as actions
use Rattle.vf_base.specs.declared.diagnostic.Diagnostic.{Diagnostic}
use Rattle.vf_base.specs.declared.element.Element.{Element}
use Rattle.vf_doctype.specs.DocumentTypes.{constraint_of, doc_type}
use Rattle.vf_doctype.specs.Units.{units}
use Rattle.vf_doctype.specs.declared.doc_type.DocType.{DocType}
use Rattle.vf_doctype.specs.declared.errors.DocError.{DocError}
use Rattle.vf_pdu.specs.declared.pdu.Pdu.{Pdu}
use Rattle.vf_pdu.specs.declared.pdu.Pdu.TheVariants.{CreateRequest, DeleteRequest, ChangeAttribRequest, EraseRequest, TransferEndRequest, CancelRequest}
use Rattle.vf_pdu_fields.specs.declared.operation.WriteOperation.{WriteOperation}
use Rattle.vf_pdu_fields.specs.declared.operation.WriteOperation.TheVariants.{Insert, Replace, Extend}
use Rattle.vf_pdu_fields.proofs.Plain.{some_is}
use Rattle.vf_tables.specs.Sums.{octets_of_file, octets_of_files}
use Rattle.vf_tables.specs.declared.limits.TheConstants.{MOST_FILES, MOST_FILESTORE_OCTETS}
use Rattle.vf_tree.specs.Actions.{Outcome, erasure, extension, insertion, replacement}
use Rattle.vf_tree.specs.Acts.{Erases, does}
use Rattle.vf_tree.specs.FileTree.{DataUnit, FileTree, HasShape, IsFile, IsShaped, IsWithinFile, new_file, octets_in, parts_in, strings}
use Rattle.vf_tree.specs.TreeRefusal.{TreeRefusal}
use Rattle.vf_tree.specs.declared.limits.TheConstants.{MOST_FILE_OCTETS, MOST_FILE_PARTS}
use Rattle.vf_filestore.specs.Aborts.{Setting}
use Rattle.vf_filestore.specs.Decision.{Grants, erase_decision, made_unless, request_decision, wanted_by}
use Rattle.vf_filestore.specs.Diagnostics.{Row, cancelled, file_full, first_row, plain, row, store_full}
use Rattle.vf_filestore.specs.Effects.{changed, created, created_where, erased, files_by, in_place, put_where, without_file}
use Rattle.vf_filestore.specs.Ending.{Ending, after_act, after_read, cancel_ending, cancel_in, cancel_of, element_row, ending_in, ending_of, ending_unless, file_after, in_silence, is_within_file, performed_by, read_ending, room_rows, stamp_of, transfer_ending, unchanged, units_or_none, was_given_up, write_of, written, written_in}
use Rattle.vf_filestore.specs.Files.{file_named, with_file, made}
use Rattle.vf_filestore.specs.History.{Given, position, regime}
use Rattle.vf_filestore.specs.Holders.{held_files}
use Rattle.vf_filestore.specs.Limits.{most_version}
use Rattle.vf_filestore.specs.Opening.{act_of, act_row, action_row, placed, version_row}
use Rattle.vf_filestore.specs.Selecting.{Wanted, create_by, create_rows, selection_rows, typed_rows}
use Rattle.vf_filestore.specs.Sound.{AreLimited, IsLimited}
use Rattle.vf_filestore.specs.State.{State, StandingParty, mode_in, name_in, selected_file, units_of}
use Rattle.vf_filestore.specs.Transfers.{Movement, Reads, Writes, Transfer, data_end, front, point, refusal_of, survivors, under_way}
use Rattle.vf_filestore.specs.Units.{file_access, limited_management, unit_row}
use Rattle.vf_filestore.specs.declared.creation.NewFile.{NewFile}
use Rattle.vf_filestore.proofs.Decided.{first_passed, later_passed, row_passed, rows_passed}
use Rattle.vf_filestore.proofs.Filed.{found_itself, found_name, names_flip, with_file-new}
use Rattle.vf_filestore.proofs.Lists.{all-filter, all_append}

-- ---- trees

-- an act leaves the constraint set, and a tree of it
record IsKept (constraint : Constraint) (tree : FileTree) : Type 0 where
  constrained : tree.constraint ≡ constraint
  shaped : HasShape tree

kept_by : (constraint : Constraint) (units : List DataUnit) (at : ℕ) (outcome : Outcome) → IsShaped constraint units
    → ◌≡◌ {A = Result Outcome TreeRefusal} (Ok (record { tree = record { constraint = constraint; units = units }; position = at; shown = [] })) (Ok outcome) → IsKept constraint outcome.tree
kept_by constraint units at outcome shaped is =
    let one : Outcome = record { tree = record { constraint = constraint; units = units }; position = at; shown = [] } in
    let same : one ≡ outcome = cc in
    subst (λ (one : Outcome). IsKept constraint one.tree) same (record { constrained = refl; shaped = shaped })

insertion_kept : (constraint : Constraint) (units more : List DataUnit) (fadu : FaduId) (outcome : Outcome) → insertion constraint units fadu more ≡ Ok outcome → IsKept constraint outcome.tree
insertion_kept Unstructured units more fadu outcome is = absurd cc
insertion_kept SequentialFlat units more End outcome is = kept_by SequentialFlat (units ++ more) (length (units ++ more) + 1) outcome tt is
insertion_kept SequentialFlat units more fadu outcome is = absurd cc

replacement_kept : (constraint : Constraint) (units : List DataUnit) (unit : DataUnit) (fadu : FaduId) (outcome : Outcome) → replacement constraint units fadu unit ≡ Ok outcome → IsKept constraint outcome.tree
replacement_kept Unstructured units unit Begin outcome is = kept_by Unstructured (unit ∷ []) 0 outcome refl is
replacement_kept Unstructured units unit First outcome is = kept_by Unstructured (unit ∷ []) 0 outcome refl is
replacement_kept Unstructured units unit fadu outcome is = absurd cc
replacement_kept SequentialFlat units unit fadu outcome is = absurd cc

extension_kept : (constraint : Constraint) (units : List DataUnit) (unit : DataUnit) (fadu : FaduId) (outcome : Outcome) → extension constraint units fadu unit ≡ Ok outcome → IsKept constraint outcome.tree
extension_kept Unstructured units unit Begin outcome is = kept_by Unstructured ((strings units ++ unit) ∷ []) 0 outcome refl is
extension_kept Unstructured units unit First outcome is = kept_by Unstructured ((strings units ++ unit) ∷ []) 0 outcome refl is
extension_kept Unstructured units unit fadu outcome is = absurd cc
extension_kept SequentialFlat units unit fadu outcome is = absurd cc

write_kept : (tree : FileTree) (at : ℕ) (operation : WriteOperation) (fadu : FaduId) (values : List DataUnit) (outcome : Outcome) → does tree at (act_of operation fadu values) ≡ Ok outcome → IsKept tree.constraint outcome.tree
write_kept tree at Insert fadu values outcome is = insertion_kept tree.constraint tree.units values fadu outcome is
write_kept tree at Replace fadu values outcome is = replacement_kept tree.constraint tree.units _ fadu outcome is
write_kept tree at Extend fadu values outcome is = extension_kept tree.constraint tree.units _ fadu outcome is

-- an erased file has nothing in it
record IsErased (constraint : Constraint) (tree : FileTree) : Type 0 where
  kept : IsKept constraint tree
  within : IsWithinFile tree.units
  none : octets_in tree.units ≡ 0

erased_by : (constraint : Constraint) (units : List DataUnit) (outcome : Outcome) → IsShaped constraint units → IsWithinFile units → octets_in units ≡ 0
    → ◌≡◌ {A = Result Outcome TreeRefusal} (Ok (record { tree = record { constraint = constraint; units = units }; position = 0; shown = [] })) (Ok outcome) → IsErased constraint outcome.tree
erased_by constraint units outcome shaped within none is =
    let one : Outcome = record { tree = record { constraint = constraint; units = units }; position = 0; shown = [] } in
    let same : one ≡ outcome = cc in
    subst (λ (one : Outcome). IsErased constraint one.tree) same (record { kept = record { constrained = refl; shaped = shaped }; within = within; none = none })

erasure_small : (constraint : Constraint) (units : List DataUnit) (fadu : FaduId) (outcome : Outcome) → erasure constraint units fadu ≡ Ok outcome → IsErased constraint outcome.tree
erasure_small Unstructured units Begin outcome is = erased_by Unstructured ([] ∷ []) outcome refl (omega arith, omega arith) refl is
erasure_small Unstructured units First outcome is = erased_by Unstructured ([] ∷ []) outcome refl (omega arith, omega arith) refl is
erasure_small Unstructured units fadu outcome is = absurd cc
erasure_small SequentialFlat units Begin outcome is = erased_by SequentialFlat [] outcome tt (omega arith, omega arith) refl is
erasure_small SequentialFlat units fadu outcome is = absurd cc

new_small : (constraint : Constraint) → (IsFile (new_file constraint)) × (octets_in (new_file constraint).units ≡ 0) × ((new_file constraint).constraint ≡ constraint)
new_small Unstructured = ((refl, (omega arith, omega arith)), refl, refl)
new_small SequentialFlat = ((tt, (omega arith, omega arith)), refl, refl)

within_true : (values : List DataUnit) → is_within_file values ≡ true → IsWithinFile values
within_true values is =
    let both = and_parts (nat_le (octets_in values) MOST_FILE_OCTETS) (nat_le (parts_in values) MOST_FILE_PARTS) is in
    (leb-true (octets_in values) MOST_FILE_OCTETS both.0, leb-true (parts_in values) MOST_FILE_PARTS both.1)

-- ---- lists of files

in_place_each : (name : List ℕ) (after : File) (files : List File) → IsLimited after → AllByRecursion IsLimited files → AllByRecursion IsLimited (in_place name after files)
in_place_each name after [] limited all = tt
in_place_each name after (other ∷ files) limited all = by (bytes_eq other.name name) (in_place_each name after files limited all.1)
  where
    by : (b : Bool) → AllByRecursion IsLimited (in_place name after files) → AllByRecursion IsLimited (cond b (after ∷ files) (other ∷ in_place name after files))
    by true rest = (limited, all.1)
    by false rest = (all.0, rest)

in_place_length : (name : List ℕ) (after : File) (files : List File) → length (in_place name after files) ≡ length files
in_place_length name after [] = refl
in_place_length name after (other ∷ files) = by (bytes_eq other.name name) (in_place_length name after files)
  where
    by : (b : Bool) → length (in_place name after files) ≡ length files → length (cond b (after ∷ files) (other ∷ in_place name after files)) ≡ length (other ∷ files)
    by true rest = refl
    by false rest = omega (arith, rest)

octets-append : (files : List File) (file : File) → octets_of_files (files ++ file ∷ []) ≡ octets_of_files files + octets_of_file file
octets-append files file = omega (arith, sum_by-append octets_of_file files (file ∷ []), sum_by-cons octets_of_file file [])

in_place_octets : (name : List ℕ) (before after : File) (files : List File) → file_named name files ≡ Some before
    → octets_of_files (in_place name after files) + octets_of_file before ≡ octets_of_files files + octets_of_file after
in_place_octets name before after [] found = absurd cc
in_place_octets name before after (other ∷ files) found = by (bytes_eq other.name name) (names_flip name other.name) found (in_place_octets name before after files)
  where
    by : (b : Bool) → bytes_eq name other.name ≡ b → cond (bytes_eq name other.name) (Some other) (file_named name files) ≡ Some before
        → (file_named name files ≡ Some before → octets_of_files (in_place name after files) + octets_of_file before ≡ octets_of_files files + octets_of_file after)
        → octets_of_files (cond b (after ∷ files) (other ∷ in_place name after files)) + octets_of_file before ≡ octets_of_files (other ∷ files) + octets_of_file after
    by true is found rest =
        let here : ◌≡◌ {A = Option File} (Some other) (Some before) = sym (λ i. cond (is i) (Some other) (file_named name files)) ∙ found in
        let same : other ≡ before = cc in
        let octets = ap octets_of_file same in
        omega (arith, octets, sum_by-cons octets_of_file after files, sum_by-cons octets_of_file other files)
    by false is found rest =
        let later = rest (sym (λ i. cond (is i) (Some other) (file_named name files)) ∙ found) in
        omega (arith, later, sum_by-cons octets_of_file other (in_place name after files), sum_by-cons octets_of_file other files)

-- a file in its own place is put there
in_place_with : (name : List ℕ) (before after : File) (files : List File) → after.name ≡ name → file_named name files ≡ Some before → in_place name after files ≡ with_file after files
in_place_with name before after [] same found = absurd cc
in_place_with name before after (other ∷ files) same found = by (bytes_eq other.name name) (names_flip name other.name) found (in_place_with name before after files same)
  where
    by : (b : Bool) → bytes_eq name other.name ≡ b → cond (bytes_eq name other.name) (Some other) (file_named name files) ≡ Some before → (file_named name files ≡ Some before → in_place name after files ≡ with_file after files)
        → cond b (after ∷ files) (other ∷ in_place name after files) ≡ with_file after (other ∷ files)
    by true is found rest = sym (λ i. cond ((ap (λ name. bytes_eq name other.name) same ∙ is) i) (after ∷ files) (other ∷ with_file after files))
    by false is found rest =
        ap (λ (files : List File). other ∷ files) (rest (sym (λ i. cond (is i) (Some other) (file_named name files)) ∙ found))
        ∙ sym (λ i. cond ((ap (λ name. bytes_eq name other.name) same ∙ is) i) (after ∷ files) (other ∷ with_file after files))

without_length : (name : List ℕ) (files : List File) → (length (without_file name files) ≤ length files) × (octets_of_files (without_file name files) ≤ octets_of_files files)
without_length name [] = (omega arith, omega arith)
without_length name (file ∷ files) = by (bytes_eq file.name name) (without_length name files)
  where
    by : (b : Bool) → (length (without_file name files) ≤ length files) × (octets_of_files (without_file name files) ≤ octets_of_files files)
        → (length (cond (not b) (file ∷ without_file name files) (without_file name files)) ≤ length (file ∷ files)) × (octets_of_files (cond (not b) (file ∷ without_file name files) (without_file name files)) ≤ octets_of_files (file ∷ files))
    by true rest = (omega (arith, rest.0), omega (arith, rest.1, sum_by-cons octets_of_file file files))
    by false rest = (omega (arith, rest.0), omega (arith, rest.1, sum_by-cons octets_of_file file files, sum_by-cons octets_of_file file (without_file name files)))

pub found_limited : (name : List ℕ) (files : List File) (file : File) → file_named name files ≡ Some file → AllByRecursion IsLimited files → IsLimited file
found_limited name [] file found all = absurd cc
found_limited name (other ∷ files) file found all = by (bytes_eq name other.name) found (λ found. found_limited name files file found all.1)
  where
    by : (b : Bool) → cond b (Some other) (file_named name files) ≡ Some file → (file_named name files ≡ Some file → IsLimited file) → IsLimited file
    by true found rest = subst IsLimited (some_is other file found) all.0
    by false found rest = rest found

-- ---- a file that takes the place of the one of a name

-- within the limits, and no larger, or small enough for the filestore
record FitsIn (files : List File) (before after : File) : Type 0 where
  limited : IsLimited before → IsLimited after
  named : after.name ≡ before.name
  room : octets_of_files files ≤ MOST_FILESTORE_OCTETS → octets_of_files (with_file after files) ≤ MOST_FILESTORE_OCTETS

abbrev FitsFound : List File → Option File → File → Type 0
FitsFound files None after = ⊥
FitsFound files (Some before) after = FitsIn files before after

put_limited : (name : List ℕ) (files : List File) (one : Option File) → IfSome one (FitsFound files (file_named name files)) → AreLimited files → AreLimited (put_where name one files)
put_limited name files None fits limited = limited
put_limited name files (Some after) fits limited = by (file_named name files) refl fits
  where
    by : (found : Option File) → file_named name files ≡ found → FitsFound files found after → AreLimited (in_place name after files)
    by None is fits = absurd fits
    by (Some before) is fits =
        let same : after.name ≡ name = fits.named ∙ sym (found_name name files before is) in
        record {
          each = in_place_each name after files (fits.limited (found_limited name files before is limited.each)) limited.each;
          counted = omega (arith, limited.counted, in_place_length name after files);
          roomy = subst (λ (all : List File). octets_of_files all ≤ MOST_FILESTORE_OCTETS) (sym (in_place_with name before after files same is)) (fits.room limited.roomy);
        }

-- the same contents
same_octets : (files : List File) (before after : File) → octets_of_file after ≤ octets_of_file before → after.name ≡ before.name → file_named before.name files ≡ Some before
    → octets_of_files files ≤ MOST_FILESTORE_OCTETS → octets_of_files (with_file after files) ≤ MOST_FILESTORE_OCTETS
same_octets files before after small named found room =
    let sum = in_place_octets before.name before after files found in
    let least : octets_of_files (in_place before.name after files) ≤ MOST_FILESTORE_OCTETS = omega (arith, sum, small, room) in
    subst (λ (all : List File). octets_of_files all ≤ MOST_FILESTORE_OCTETS) (in_place_with before.name before after files named found) least

-- ---- ends of transfers

abbrev EndsFit : List File → Option File → Ending → Type 0
EndsFit files found ending = IfSome ending.file (FitsFound files found)

read_fits : (files : List File) (name : List ℕ) (stamp : Stamp) (found : Option File) → file_named name files ≡ found → EndsFit files found (read_ending stamp found)
read_fits files name stamp None is = tt
read_fits files name stamp (Some file) is = record {
  limited = λ limited. record { typed = limited.typed; shaped = limited.shaped; counted = limited.counted };
  named = refl;
  room = same_octets files file (after_read stamp file) (omega arith) refl (found_itself name files file is);
}

-- what is written within the rows of its end
written_fits : (files : List File) (stamp : Stamp) (file : File) (at : ℕ) (operation : WriteOperation) (fadu : FaduId) (made : Result (List DataUnit) DocError)
    → EndsFit files (Some file) (written files stamp file at operation fadu made)
written_fits files stamp file at operation fadu made = by (does file.tree at (act_of operation fadu (units_or_none made))) refl
  where
    of : (outcome : Result Outcome TreeRefusal) (after : File) (one : Row) → (one ≡ None → FitsIn files file after) → IfSome (performed_by one after outcome).file (FitsFound files (Some file))
    of outcome after None fits = fits refl
    of outcome after (Some diagnostic) fits = tt

    by : (outcome : Result Outcome TreeRefusal) → does file.tree at (act_of operation fadu (units_or_none made)) ≡ outcome
        → IfSome (performed_by (first_row (element_row made ∷ act_row outcome ∷ room_rows files file (file_after stamp file outcome))) (file_after stamp file outcome) outcome).file (FitsFound files (Some file))
    by (Err refusal) is =
        of (Err refusal) file (first_row (element_row made ∷ act_row (Err refusal) ∷ room_rows files file file))
        (λ none. let act = later_passed (element_row made) (act_row (Err refusal) ∷ room_rows files file file) none in
        let never : act_row (Err refusal) ≡ None = first_passed (act_row (Err refusal)) (room_rows files file file) act in absurd cc)
    by (Ok outcome) is =
        let after = after_act stamp file outcome.tree in
        of (Ok outcome) after (first_row (element_row made ∷ act_row (Ok outcome) ∷ room_rows files file after))
        (λ none.
        let first = row (not (is_within_file after.tree.units)) file_full in
        let second = version_row file in
        let third = row (not (nat_le (octets_of_files (with_file after files)) MOST_FILESTORE_OCTETS)) store_full in
        let rooms = later_passed (act_row (Ok outcome)) (room_rows files file after) (later_passed (element_row made) (act_row (Ok outcome) ∷ room_rows files file after) none) in
        let within = within_true after.tree.units (not-false (is_within_file after.tree.units) (row_passed (not (is_within_file after.tree.units)) file_full (first_passed first (second ∷ third ∷ []) rooms))) in
        let version = ltb-true file.version most_version (not-false (nat_lt file.version most_version) (row_passed (not (nat_lt file.version most_version)) file_full (first_passed second (third ∷ []) (later_passed first (second ∷ third ∷ []) rooms)))) in
        let room = leb-true (octets_of_files (with_file after files)) MOST_FILESTORE_OCTETS
        (not-false (nat_le (octets_of_files (with_file after files)) MOST_FILESTORE_OCTETS)
        (row_passed (not (nat_le (octets_of_files (with_file after files)) MOST_FILESTORE_OCTETS)) store_full (first_passed third [] (later_passed second (third ∷ []) (later_passed first (second ∷ third ∷ []) rooms))))) in
        let kept = write_kept file.tree at operation fadu (units_or_none made) outcome is in
        record {
          limited = λ limited. record { typed = limited.typed ∙ ap Some (sym kept.constrained); shaped = (kept.shaped, within); counted = omega (arith, version) };
          named = refl;
          room = λ before. room;
        })

typed_fits : (files : List File) (stamp : Stamp) (file : File) (at : ℕ) (operation : WriteOperation) (fadu : FaduId) (values : List Element) (doc : Option DocType)
    → EndsFit files (Some file) (written_in files stamp file at operation fadu values doc)
typed_fits files stamp file at operation fadu values None = tt
typed_fits files stamp file at operation fadu values (Some doc) = written_fits files stamp file at operation fadu (units doc values)

write_fits : (files : List File) (stamp : Stamp) (found : Option File) (at : ℕ) (operation : WriteOperation) (fadu : FaduId) (values : List Element) → EndsFit files found (write_of files stamp found at operation fadu values)
write_fits files stamp None at operation fadu values = tt
write_fits files stamp (Some file) at operation fadu values = typed_fits files stamp file at operation fadu values (doc_type file.contents)

unless_fits : (files : List File) (found : Option File) (refused : Option Diagnostic) (ending : Ending) → EndsFit files found ending → EndsFit files found (ending_unless refused ending)
unless_fits files found (Some diagnostic) ending fits = tt
unless_fits files found None ending fits = fits

transfer_fits : (state : State) (party : StandingParty) (moment : ℕ) → EndsFit state.files (selected_file state party.history) (transfer_ending state party moment)
transfer_fits state party moment = by (under_way party.history)
  where
    written_by : (b : Bool) (operation : WriteOperation) (fadu : FaduId)
        → EndsFit state.files (selected_file state party.history) (cond b (unchanged (Some (plain cancelled)))
        (write_of state.files (stamp_of party moment) (selected_file state party.history) (position party.history) operation fadu (survivors party.history)))
    written_by true operation fadu = tt
    written_by false operation fadu = write_fits state.files (stamp_of party moment) (selected_file state party.history) (position party.history) operation fadu (survivors party.history)

    of : (movement : Movement) → EndsFit state.files (selected_file state party.history) (ending_of state party (stamp_of party moment) movement)
    of (Reads fadu context) = read_fits state.files (name_in party.history) (stamp_of party moment) (selected_file state party.history) refl
    of (Writes operation fadu) = written_by (was_given_up (data_end party.history)) operation fadu

    by : (one : Option Transfer) → EndsFit state.files (selected_file state party.history) (ending_in state party (stamp_of party moment) one)
    by None = tt
    by (Some transfer) = unless_fits state.files (selected_file state party.history) (refusal_of transfer.given) (ending_of state party (stamp_of party moment) transfer.movement) (of transfer.movement)

cancel_fits : (state : State) (party : StandingParty) (moment : ℕ) → EndsFit state.files (selected_file state party.history) (cancel_ending state party moment)
cancel_fits state party moment = by (under_way party.history)
  where
    written_by : (b : Bool) (operation : WriteOperation) (fadu : FaduId)
        → EndsFit state.files (selected_file state party.history) (cond b (unchanged None)
        (in_silence (write_of state.files (stamp_of party moment) (selected_file state party.history) (position party.history) operation fadu (front party.history))))
    written_by true operation fadu = tt
    written_by false operation fadu = write_fits state.files (stamp_of party moment) (selected_file state party.history) (position party.history) operation fadu (front party.history)

    of : (movement : Movement) → EndsFit state.files (selected_file state party.history) (cancel_of state party (stamp_of party moment) movement)
    of (Reads fadu context) = read_fits state.files (name_in party.history) (stamp_of party moment) (selected_file state party.history) refl
    of (Writes operation fadu) = written_by (nat_eq (point party.history) 0) operation fadu

    by : (one : Option Transfer) → EndsFit state.files (selected_file state party.history) (cancel_in state party (stamp_of party moment) one)
    by None = tt
    by (Some transfer) = unless_fits state.files (selected_file state party.history) (refusal_of transfer.given) (cancel_of state party (stamp_of party moment) transfer.movement) (of transfer.movement)

-- ---- erasing

erase_fits : (state : State) (party : StandingParty) (moment : ℕ) (fadu : FaduId) (given : Given) (found : Option File) → selected_file state party.history ≡ found → erase_decision party fadu found ≡ Grants given
    → IfSome (erased found (stamp_of party moment) (position party.history) fadu) (FitsFound state.files found)
erase_fits state party moment fadu given None same is = tt
erase_fits state party moment fadu given (Some file) same is =
    let unit = unit_row (units_of party) file_access in
    let mode = action_row (mode_in (regime party.history)) actions.Erase in
    let act = act_row (does file.tree (position party.history) (Erases fadu)) in
    let version = version_row file in
    let passed = rows_passed (unit ∷ mode ∷ act ∷ version ∷ []) (placed (does file.tree (position party.history) (Erases fadu))) given is in
    let last = later_passed act (version ∷ []) (later_passed mode (act ∷ version ∷ []) (later_passed unit (mode ∷ act ∷ version ∷ []) passed.passed)) in
    let less = ltb-true file.version most_version (not-false (nat_lt file.version most_version) (row_passed (not (nat_lt file.version most_version)) file_full (first_passed version [] last))) in
    by (does file.tree (position party.history) (Erases fadu)) refl less
  where
    by : (outcome : Result Outcome TreeRefusal) → does file.tree (position party.history) (Erases fadu) ≡ outcome → file.version < most_version → FitsIn state.files file (file_after (stamp_of party moment) file outcome)
    by (Err refusal) is less = record { limited = λ limited. limited; named = refl; room = same_octets state.files file file (omega arith) refl (found_itself (name_in party.history) state.files file same) }
    by (Ok outcome) is less =
        let small = erasure_small file.tree.constraint file.tree.units fadu outcome is in
        let none = small.none in
        record {
          limited = λ limited. record { typed = limited.typed ∙ ap Some (sym small.kept.constrained); shaped = (small.kept.shaped, small.within); counted = omega (arith, less) };
          named = refl;
          room = same_octets state.files file (after_act (stamp_of party moment) file outcome.tree) (omega (arith, none)) refl (found_itself (name_in party.history) state.files file same);
        }

-- ---- attributes

changed_limited : (name : List ℕ) (files : List File) (stamp : Stamp) (change : AttributeChange) (found : Option File) → file_named name files ≡ found → AreLimited files → AreLimited (put_where name (changed found stamp change) files)
changed_limited name files stamp change None is limited = limited
changed_limited name files stamp change (Some file) is limited =
    let after = after_change file stamp change in
    let own = found_limited name files file is limited.each in
    record {
      each = in_place_each name after files (record { typed = own.typed; shaped = own.shaped; counted = own.counted }) limited.each;
      counted = omega (arith, limited.counted, in_place_length name after files);
      roomy = let sum : octets_of_files (in_place name after files) + octets_of_file file ≡ octets_of_files files + octets_of_file file = in_place_octets name file after files is in omega (arith, limited.roomy, sum);
    }

-- ---- creations

created_limited : (state : State) (wanted : Wanted) (over : ℕ) (stamp : Stamp) (new : NewFile) (found : Option File) (given : Given) → file_named new.name state.files ≡ found
    → first_row (create_by (held_files state) wanted over stamp new found) ≡ None → made_unless found ≡ given → AreLimited state.files → AreLimited (created_where given new stamp state.files)
created_limited state wanted over stamp new (Some file) given is rows made_is limited = subst (λ given. AreLimited (created_where given new stamp state.files)) made_is limited
created_limited state wanted over stamp new None given is rows made_is limited =
    subst (λ given. AreLimited (created_where given new stamp state.files)) made_is (by (doc_type new.contents) refl rows)
  where
    by : (doc : Option DocType) → doc_type new.contents ≡ doc → first_row (typed_rows (held_files state) wanted stamp new doc) ≡ None → AreLimited (created doc new stamp state.files)
    by None typed rows = absurd cc
    by (Some doc) typed rows =
        let file = made new stamp doc in
        let few = ltb-true (length state.files) MOST_FILES (not-false (nat_lt (length state.files) MOST_FILES)
        (row_passed (not (nat_lt (length state.files) MOST_FILES)) store_full (first_passed (row (not (nat_lt (length state.files) MOST_FILES)) store_full) (selection_rows (held_files state) wanted file) rows))) in
        let small = new_small (constraint_of doc.kind) in
        let none = small.1 in
        let own : IsLimited file = record { typed = ap (option_map (λ (doc : DocType). constraint_of doc.kind)) typed ∙ ap Some (sym small.2); shaped = small.0; counted = omega arith } in
        subst (λ (all : List File). AreLimited all) (sym (with_file-new file state.files is)) (record {
          each = all_append IsLimited state.files (file ∷ []) limited.each (own, tt);
          counted = omega (arith, few, length-append state.files (file ∷ []));
          roomy = let sum = octets-append state.files file in omega (arith, limited.roomy, sum, none);
        })

-- ---- requests

pub request_limited : (state : State) (party : StandingParty) (setting : Setting) (request : Pdu) (given : Given) → request_decision state party setting request ≡ Grants given → AreLimited state.files
    → AreLimited (files_by state party setting.moment given request)
request_limited state party setting (CreateRequest over name contents permitted terms requested controls password) given is limited =
    let wanted = wanted_by party requested controls password in
    let new : NewFile = record { name = name; contents = contents; permitted = permitted; terms = terms } in
    let unit = unit_row (units_of party) limited_management in
    let rows = create_rows (held_files state) wanted over (stamp_of party setting.moment) new in
    let passed = rows_passed (unit ∷ rows) (made_unless (file_named name state.files)) given is in
    created_limited state wanted over (stamp_of party setting.moment) new (file_named name state.files) given refl (later_passed unit rows passed.passed) passed.is limited
request_limited state party setting DeleteRequest given is limited =
    let fewer = without_length (name_in party.history) state.files in
    record {
      each = all-filter IsLimited (λ (file : File). not (bytes_eq file.name (name_in party.history))) state.files limited.each;
      counted = omega (arith, limited.counted, fewer.0);
      roomy = omega (arith, limited.roomy, fewer.1);
    }
request_limited state party setting (ChangeAttribRequest name permitted terms number) given is limited =
    changed_limited (name_in party.history) state.files (stamp_of party setting.moment) (record { name = name; permitted = permitted; terms = terms; others = number }) (selected_file state party.history) refl limited
request_limited state party setting (EraseRequest fadu) given is limited =
    put_limited (name_in party.history) state.files (erased (selected_file state party.history) (stamp_of party setting.moment) (position party.history) fadu)
    (erase_fits state party setting.moment fadu given (selected_file state party.history) refl is) limited
request_limited state party setting TransferEndRequest given is limited =
    put_limited (name_in party.history) state.files (transfer_ending state party setting.moment).file (transfer_fits state party setting.moment) limited
request_limited state party setting (CancelRequest diagnostic) given is limited =
    put_limited (name_in party.history) state.files (cancel_ending state party setting.moment).file (cancel_fits state party setting.moment) limited
request_limited state party setting request given is limited = limited
