-- What a granted request does to the files: each goes on under its name, but for one of which nobody else has a
-- selection.
use Rattle.std.proofs.Common.{◌≡◌, ℕ, Bool, true, false, cond, ◌&&◌, not, unwrap_or, List, [], ◌∷◌, map, is_none, Option, None, Some, inl, inr, refl, ap, sym, subst, ◌∙◌, arith, Result, Ok, Err}
use Rattle.std.specs.Prelude.{IfSome, nat_eq}
use Rattle.std.specs.List.{IsDistinct}
use Rattle.std.specs.Str.{bytes_eq}
use Rattle.vf_attr.specs.Access.{has}
use Rattle.vf_attr.specs.Change.{after_change}
use Rattle.vf_attr.specs.declared.changes.AttributeChange.{AttributeChange}
use Rattle.vf_attr.specs.declared.file.File.{File}
use Rattle.vf_attr.specs.declared.stamp.Stamp.{Stamp}
use Rattle.vf_base.specs.declared.access.FaduId.{FaduId}
use Rattle.vf_base.specs.declared.action.Action.TheVariants as actions
use Rattle.vf_base.specs.declared.diagnostic.Diagnostic.{Diagnostic}
use Rattle.vf_base.specs.declared.element.Element.{Element}
use Rattle.vf_doctype.specs.DocumentTypes.{doc_type}
use Rattle.vf_doctype.specs.Units.{units}
use Rattle.vf_doctype.specs.declared.doc_type.DocType.{DocType}
use Rattle.vf_doctype.specs.declared.errors.DocError.{DocError}
use Rattle.vf_filestore.specs.Files.{file_named, made}
use Rattle.vf_filestore.specs.Opening.{act_of}
use Rattle.vf_pdu.specs.declared.pdu.Pdu.{Pdu}
use Rattle.vf_pdu.specs.declared.pdu.Pdu.TheVariants.{CreateRequest, DeleteRequest, ChangeAttribRequest, EraseRequest, TransferEndRequest, CancelRequest}
use Rattle.vf_pdu_fields.specs.declared.operation.WriteOperation.{WriteOperation}
use Rattle.vf_tree.specs.Actions.{Outcome}
use Rattle.vf_tree.specs.Acts.{Erases, does}
use Rattle.vf_tree.specs.FileTree.{DataUnit, FileTree}
use Rattle.vf_tree.specs.TreeRefusal.{TreeRefusal}
use Rattle.vf_filestore.specs.Aborts.{Setting}
use Rattle.vf_filestore.specs.Decision.{Grants, made_unless, request_decision, wanted_by}
use Rattle.vf_filestore.specs.Diagnostics.{Row, first_row, row, attribute_unsupported, name_exists, not_permitted, cancelled, plain}
use Rattle.vf_filestore.specs.Effects.{changed, created, created_where, erased, files_by, in_place, put_where}
use Rattle.vf_filestore.specs.Ending.{Ending, after_act, cancel_ending, cancel_in, cancel_of, ending_in, ending_of, ending_unless, file_after, in_silence, performed_by, read_ending, stamp_of, transfer_ending, unchanged, was_given_up, write_of, written, written_in, units_or_none}
use Rattle.vf_filestore.specs.History.{Given, Nothing, position, selection}
use Rattle.vf_filestore.specs.Holders.{alone_row, held_files, holders}
use Rattle.vf_filestore.specs.Selecting.{Wanted, create_by, create_rows, delete_rows, is_taken, rename_row, typed_rows}
use Rattle.vf_filestore.specs.Sound.{name_of}
use Rattle.vf_filestore.specs.State.{State, StandingParty, name_in, requested_in, selected_file, units_of}
use Rattle.vf_filestore.specs.Transfers.{Movement, Reads, Writes, Transfer, data_end, front, point, refusal_of, survivors, under_way}
use Rattle.vf_filestore.specs.Units.{enhanced_management, limited_management, unit_row}
use Rattle.vf_filestore.specs.declared.creation.NewFile.{NewFile}
use Rattle.vf_filestore.proofs.Alone.{IsAlone, alone}
use Rattle.vf_filestore.proofs.Decided.{first_passed, later_passed, row_passed, rows_passed}
use Rattle.vf_filestore.proofs.Filed.{Continues, IsNext, continues_added, continues_in_place, continues_left, continues_renamed, continues_same, filed_added, filed_in_place, filed_left, found_name, same_name}

-- ---- what becomes of a file by its contents

-- the file of a name becomes this one, under the same name
abbrev pub IsNextIn : Option File → File → Type 0
IsNextIn None later = ⊥
IsNextIn (Some file) later = (later.name ≡ file.name) × IsNext file later

pub next_itself : (file : File) → IsNext file file
next_itself file = record { rises = omega arith; same = λ is. refl; typed = refl }

act_next : (stamp : Stamp) (file : File) (tree : FileTree) → IsNext file (after_act stamp file tree)
act_next stamp file tree = record { rises = omega arith; same = λ is. absurd (omega (arith, is)); typed = refl }

file_after_next : (stamp : Stamp) (file : File) (outcome : Result Outcome TreeRefusal) → IsNextIn (Some file) (file_after stamp file outcome)
file_after_next stamp file (Ok outcome) = (refl, act_next stamp file outcome.tree)
file_after_next stamp file (Err refusal) = (refl, next_itself file)

-- where a transfer's end leaves a file
abbrev EndsIn : Option File → Ending → Type 0
EndsIn found ending = IfSome ending.file (IsNextIn found)

performed_next : (found : Option File) (one : Row) (after : File) (outcome : Result Outcome TreeRefusal) → IsNextIn found after → EndsIn found (performed_by one after outcome)
performed_next found (Some diagnostic) after outcome next = tt
performed_next found None after outcome next = next

written_next : (files : List File) (stamp : Stamp) (file : File) (at : ℕ) (operation : WriteOperation) (fadu : FaduId) (made : Result (List DataUnit) DocError)
    → EndsIn (Some file) (written files stamp file at operation fadu made)
written_next files stamp file at operation fadu made =
    performed_next (Some file) _ _ _ (file_after_next stamp file (does file.tree at (act_of operation fadu (units_or_none made))))

typed_next : (files : List File) (stamp : Stamp) (file : File) (at : ℕ) (operation : WriteOperation) (fadu : FaduId) (values : List Element) (doc : Option DocType)
    → EndsIn (Some file) (written_in files stamp file at operation fadu values doc)
typed_next files stamp file at operation fadu values None = tt
typed_next files stamp file at operation fadu values (Some doc) = written_next files stamp file at operation fadu (units doc values)

write_next : (files : List File) (stamp : Stamp) (found : Option File) (at : ℕ) (operation : WriteOperation) (fadu : FaduId) (values : List Element)
    → EndsIn found (write_of files stamp found at operation fadu values)
write_next files stamp None at operation fadu values = tt
write_next files stamp (Some file) at operation fadu values = typed_next files stamp file at operation fadu values (doc_type file.contents)

read_next : (stamp : Stamp) (found : Option File) → EndsIn found (read_ending stamp found)
read_next stamp None = tt
read_next stamp (Some file) = (refl, record { rises = omega arith; same = λ is. refl; typed = refl })

unless_next : (found : Option File) (refused : Option Diagnostic) (ending : Ending) → EndsIn found ending → EndsIn found (ending_unless refused ending)
unless_next found (Some diagnostic) ending ends = tt
unless_next found None ending ends = ends

pub transfer_next : (state : State) (party : StandingParty) (moment : ℕ) → EndsIn (selected_file state party.history) (transfer_ending state party moment)
transfer_next state party moment = by (under_way party.history)
  where
    written_by : (b : Bool) (operation : WriteOperation) (fadu : FaduId)
        → EndsIn (selected_file state party.history) (cond b (unchanged (Some (plain cancelled)))
        (write_of state.files (stamp_of party moment) (selected_file state party.history) (position party.history) operation fadu (survivors party.history)))
    written_by true operation fadu = tt
    written_by false operation fadu = write_next state.files (stamp_of party moment) (selected_file state party.history) (position party.history) operation fadu (survivors party.history)

    of : (movement : Movement) → EndsIn (selected_file state party.history) (ending_of state party (stamp_of party moment) movement)
    of (Reads fadu context) = read_next (stamp_of party moment) (selected_file state party.history)
    of (Writes operation fadu) = written_by (was_given_up (data_end party.history)) operation fadu

    by : (one : Option Transfer) → EndsIn (selected_file state party.history) (ending_in state party (stamp_of party moment) one)
    by None = tt
    by (Some transfer) = unless_next (selected_file state party.history) (refusal_of transfer.given) (ending_of state party (stamp_of party moment) transfer.movement) (of transfer.movement)

pub cancel_next : (state : State) (party : StandingParty) (moment : ℕ) → EndsIn (selected_file state party.history) (cancel_ending state party moment)
cancel_next state party moment = by (under_way party.history)
  where
    written_by : (b : Bool) (operation : WriteOperation) (fadu : FaduId)
        → EndsIn (selected_file state party.history) (cond b (unchanged None)
        (in_silence (write_of state.files (stamp_of party moment) (selected_file state party.history) (position party.history) operation fadu (front party.history))))
    written_by true operation fadu = tt
    written_by false operation fadu = write_next state.files (stamp_of party moment) (selected_file state party.history) (position party.history) operation fadu (front party.history)

    of : (movement : Movement) → EndsIn (selected_file state party.history) (cancel_of state party (stamp_of party moment) movement)
    of (Reads fadu context) = read_next (stamp_of party moment) (selected_file state party.history)
    of (Writes operation fadu) = written_by (nat_eq (point party.history) 0) operation fadu

    by : (one : Option Transfer) → EndsIn (selected_file state party.history) (cancel_in state party (stamp_of party moment) one)
    by None = tt
    by (Some transfer) = unless_next (selected_file state party.history) (refusal_of transfer.given) (cancel_of state party (stamp_of party moment) transfer.movement) (of transfer.movement)

pub erased_next : (found : Option File) (stamp : Stamp) (at : ℕ) (fadu : FaduId) → IfSome (erased found stamp at fadu) (IsNextIn found)
erased_next None stamp at fadu = tt
erased_next (Some file) stamp at fadu = file_after_next stamp file (does file.tree at (Erases fadu))

-- ---- what becomes of all files

pub record KeepsAll (files later : List File) : Type 0 where
  pub filed : IsDistinct bytes_eq (map name_of later)
  pub goes : (name : List ℕ) → Continues files later name

pub record KeepsOthers (files later : List File) (old : List ℕ) : Type 0 where
  pub filed : IsDistinct bytes_eq (map name_of later)
  pub goes : (name : List ℕ) → bytes_eq name old ≡ false → Continues files later name

pub data Effect (state : State) (party : StandingParty) (later : List File) : Type 0 where
  keeps : KeepsAll state.files later → Effect state party later
  parts : KeepsOthers state.files later (name_in party.history) → IsAlone state party.link (name_in party.history) → Effect state party later

pub kept_all : (files : List File) → IsDistinct bytes_eq (map name_of files) → KeepsAll files files
kept_all files filed = record { filed = filed; goes = λ name. continues_same files files name refl }

pub put_keeps : (name : List ℕ) (files : List File) (one : Option File) → IsDistinct bytes_eq (map name_of files) → IfSome one (IsNextIn (file_named name files)) → KeepsAll files (put_where name one files)
put_keeps name files None filed next = kept_all files filed
put_keeps name files (Some after) filed next = by (file_named name files) refl next
  where
    by : (found : Option File) → file_named name files ≡ found → IsNextIn found after → KeepsAll files (in_place name after files)
    by None is next = absurd next
    by (Some before) is next =
        let same : after.name ≡ name = next.0 ∙ sym (found_name name files before is) in
        record { filed = filed_in_place name after files (inl same) filed; goes = continues_in_place name before after files is same next.1 }

-- ---- creations

create_keeps : (state : State) (wanted : Wanted) (over : ℕ) (stamp : Stamp) (new : NewFile) (found : Option File) (given : Given) → file_named new.name state.files ≡ found
    → IsDistinct bytes_eq (map name_of state.files) → first_row (create_by (held_files state) wanted over stamp new found) ≡ None → made_unless found ≡ given
    → KeepsAll state.files (created_where given new stamp state.files)
create_keeps state wanted over stamp new (Some file) given is filed rows made_is =
    subst (λ given. KeepsAll state.files (created_where given new stamp state.files)) made_is (kept_all state.files filed)
create_keeps state wanted over stamp new None given is filed rows made_is =
    subst (λ given. KeepsAll state.files (created_where given new stamp state.files)) made_is (by (doc_type new.contents) rows)
  where
    by : (doc : Option DocType) → first_row (typed_rows (held_files state) wanted stamp new doc) ≡ None → KeepsAll state.files (created doc new stamp state.files)
    by None rows = absurd cc
    by (Some doc) rows = record {
      filed = filed_added (made new stamp doc) state.files is filed;
      goes = continues_added (made new stamp doc) state.files is;
    }

-- ---- changes of attributes

pub not_taken : (state : State) (old name : List ℕ) → bytes_eq name old ≡ false → is_taken state.files old (Some name) ≡ false → file_named name state.files ≡ None
not_taken state old name other free = by (bytes_eq name old) (file_named name state.files) other free
  where
    by : (b : Bool) (found : Option File) → b ≡ false → (not b && not (is_none found)) ≡ false → found ≡ None
    by true found other free = absurd cc
    by false None other free = refl
    by false (Some file) other free = absurd cc

changed_next : (file : File) (stamp : Stamp) (change : AttributeChange) → IsNext file (after_change file stamp change)
changed_next file stamp change = record { rises = omega arith; same = λ is. refl; typed = refl }

change_effect : (state : State) (party : StandingParty) (stamp : Stamp) (name : Option (List ℕ)) (change : AttributeChange) → change.name ≡ name
    → IsDistinct bytes_eq (map name_of state.files) → is_taken state.files (name_in party.history) name ≡ false → rename_row (holders state (name_in party.history)) party.link (name_in party.history) name ≡ None
    → Effect state party (put_where (name_in party.history) (changed (selected_file state party.history) stamp change) state.files)
change_effect state party stamp name change named filed free alone_is = by (selected_file state party.history) refl
  where
    old : List ℕ
    old = name_in party.history

    by : (found : Option File) → file_named (name_in party.history) state.files ≡ found
        → Effect state party (put_where (name_in party.history) (changed found stamp change) state.files)
    by None is = keeps (kept_all state.files filed)
    by (Some file) is = of name named free alone_is
      where
        after : File
        after = after_change file stamp change

        same : (after_change file stamp change).name ≡ name_in party.history → Effect state party (in_place (name_in party.history) (after_change file stamp change) state.files)
        same here = keeps (record {
          filed = filed_in_place (name_in party.history) (after_change file stamp change) state.files (inl here) filed;
          goes = continues_in_place (name_in party.history) file (after_change file stamp change) state.files is here (changed_next file stamp change);
        })

        of : (name : Option (List ℕ)) → change.name ≡ name → is_taken state.files (name_in party.history) name ≡ false → rename_row (holders state (name_in party.history)) party.link (name_in party.history) name ≡ None
            → Effect state party (in_place (name_in party.history) (after_change file stamp change) state.files)
        of None named free alone_is = same (ap (λ name. unwrap_or name file.name) named ∙ sym (found_name (name_in party.history) state.files file is))
        of (Some new) named free alone_is = test (bytes_eq new (name_in party.history)) refl alone_is
          where
            now : (after_change file stamp change).name ≡ new
            now = ap (λ name. unwrap_or name file.name) named

            test : (b : Bool) → bytes_eq new (name_in party.history) ≡ b → cond b None (alone_row (holders state (name_in party.history)) party.link actions.ChangeAttribute) ≡ None
                → Effect state party (in_place (name_in party.history) (after_change file stamp change) state.files)
            test true e alone_is = same (now ∙ same_name new (name_in party.history) e)
            test false e alone_is =
                let none : file_named (after_change file stamp change).name state.files ≡ None = ap (λ name. file_named name state.files) now ∙ not_taken state (name_in party.history) new e free in
                parts (record {
                  filed = filed_in_place (name_in party.history) (after_change file stamp change) state.files (inr none) filed;
                  goes = continues_renamed (name_in party.history) (after_change file stamp change) state.files none;
                }) (alone state party.link (name_in party.history) actions.ChangeAttribute alone_is)

-- ---- requests

pub effect_of : (state : State) (party : StandingParty) (setting : Setting) (request : Pdu) (given : Given) → request_decision state party setting request ≡ Grants given
    → IsDistinct bytes_eq (map name_of state.files) → Effect state party (files_by state party setting.moment given request)
effect_of state party setting (CreateRequest over name contents permitted terms requested controls password) given is filed =
    let wanted = wanted_by party requested controls password in
    let new : NewFile = record { name = name; contents = contents; permitted = permitted; terms = terms } in
    let one = unit_row (units_of party) limited_management in
    let rows = create_rows (held_files state) wanted over (stamp_of party setting.moment) new in
    let passed = rows_passed (one ∷ rows) (made_unless (file_named name state.files)) given is in
    keeps (create_keeps state wanted over (stamp_of party setting.moment) new (file_named name state.files) given refl filed (later_passed one rows passed.passed) passed.is)
effect_of state party setting DeleteRequest given is filed =
    let name = name_in party.history in
    let one = unit_row (units_of party) limited_management in
    let permitted = row (not (has (requested_in (selection party.history)) actions.Delete)) not_permitted in
    let rows = delete_rows (held_files state) party.link (selection party.history) in
    let passed = rows_passed (one ∷ rows) Nothing given is in
    let last = later_passed permitted (alone_row (holders state name) party.link actions.Delete ∷ []) (later_passed one rows passed.passed) in
    parts (record { filed = filed_left name state.files filed; goes = continues_left name state.files })
    (alone state party.link name actions.Delete (first_passed (alone_row (holders state name) party.link actions.Delete) [] last))
effect_of state party setting (ChangeAttribRequest name permitted terms number) given is filed =
    let old = name_in party.history in
    let one = unit_row (units_of party) enhanced_management in
    let first = row (not (has (requested_in (selection party.history)) actions.ChangeAttribute)) not_permitted in
    let second = row (not (nat_eq number 0)) attribute_unsupported in
    let third = row (is_taken state.files old name) name_exists in
    let fourth = rename_row (holders state old) party.link old name in
    let passed = rows_passed (one ∷ first ∷ second ∷ third ∷ fourth ∷ []) Nothing given is in
    let left = later_passed second (third ∷ fourth ∷ []) (later_passed first (second ∷ third ∷ fourth ∷ []) (later_passed one (first ∷ second ∷ third ∷ fourth ∷ []) passed.passed)) in
    change_effect state party (stamp_of party setting.moment) name (record { name = name; permitted = permitted; terms = terms; others = number }) refl filed
    (row_passed (is_taken state.files old name) name_exists (first_passed third (fourth ∷ []) left))
    (first_passed fourth [] (later_passed third (fourth ∷ []) left))
effect_of state party setting (EraseRequest fadu) given is filed =
    keeps (put_keeps (name_in party.history) state.files (erased (selected_file state party.history) (stamp_of party setting.moment) (position party.history) fadu) filed
    (erased_next (selected_file state party.history) (stamp_of party setting.moment) (position party.history) fadu))
effect_of state party setting TransferEndRequest given is filed =
    keeps (put_keeps (name_in party.history) state.files (transfer_ending state party setting.moment).file filed (transfer_next state party setting.moment))
effect_of state party setting (CancelRequest diagnostic) given is filed =
    keeps (put_keeps (name_in party.history) state.files (cancel_ending state party setting.moment).file filed (cancel_next state party setting.moment))
effect_of state party setting request given is filed = keeps (kept_all state.files filed)
