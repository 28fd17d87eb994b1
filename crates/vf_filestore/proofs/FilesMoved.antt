-- What a granted request does to the files is one step: one file is more, is gone, or is changed in its place.
use Rattle.std.proofs.Common.{◌≡◌, ℕ, Bool, true, false, cond, not, unwrap_or, List, [], ◌∷◌, ◌++◌, map, option_map, Option, None, Some, refl, ap, sym, subst, ◌∙◌}
use Rattle.std.specs.Prelude.{IfSome, nat_eq}
use Rattle.std.specs.List.{AllByRecursion, IsDistinct}
use Rattle.std.specs.Str.{bytes_eq}
use Rattle.vf_attr.specs.Access.{has}
use Rattle.vf_attr.specs.Change.{after_change}
use Rattle.vf_attr.specs.declared.changes.AttributeChange.{AttributeChange}
use Rattle.vf_attr.specs.declared.file.File.{File}
use Rattle.vf_attr.specs.declared.stamp.Stamp.{Stamp}
use Rattle.vf_base.specs.declared.action.Action.TheVariants as actions
use Rattle.vf_base.specs.declared.contents.Contents.{Contents}
use Rattle.vf_doctype.specs.DocumentTypes.{constraint_of, doc_type}
use Rattle.vf_doctype.specs.declared.doc_type.DocType.{DocType}
use Rattle.vf_pdu.specs.declared.pdu.Pdu.{Pdu}
use Rattle.vf_pdu.specs.declared.pdu.Pdu.TheVariants.{CreateRequest, DeleteRequest, ChangeAttribRequest, EraseRequest, TransferEndRequest, CancelRequest}
use Rattle.vf_pdu_fields.proofs.Plain.{some_is}
use Rattle.vf_filestore.specs.Aborts.{Setting}
use Rattle.vf_filestore.specs.Decision.{Grants, made_unless, request_decision, wanted_by}
use Rattle.vf_filestore.specs.Diagnostics.{first_row, row, attribute_unsupported, name_exists, not_permitted}
use Rattle.vf_filestore.specs.Effects.{changed, created, created_where, erased, files_by, in_place, put_where, without_file}
use Rattle.vf_filestore.specs.Ending.{cancel_ending, stamp_of, transfer_ending}
use Rattle.vf_filestore.specs.Files.{file_named, made}
use Rattle.vf_filestore.specs.History.{Given, Nothing, position, selection}
use Rattle.vf_filestore.specs.Holders.{held_files, holders}
use Rattle.vf_filestore.specs.Selecting.{Wanted, create_by, create_rows, is_taken, rename_row, typed_rows}
use Rattle.vf_filestore.specs.Sound.{AreLimited, IsLimited, name_of}
use Rattle.vf_filestore.specs.State.{State, StandingParty, name_in, requested_in, selected_file, units_of}
use Rattle.vf_filestore.specs.Units.{enhanced_management, limited_management, unit_row}
use Rattle.vf_filestore.specs.declared.creation.NewFile.{NewFile}
use Rattle.vf_filestore.proofs.Decided.{first_passed, later_passed, row_passed, rows_passed}
use Rattle.vf_filestore.proofs.Effected.{IsNextIn, cancel_next, erased_next, not_taken, transfer_next}
use Rattle.vf_filestore.proofs.Filed.{found_name, names_flip, same_name, with_file-new}
use Rattle.vf_filestore.proofs.FileSteps.{FileStep, IsOtherFile}
use Rattle.vf_filestore.proofs.FileSteps as steps
use Rattle.vf_filestore.proofs.Lists.{all_right, all_unmap}

-- ---- where a file stands

pub record Located (name : List ℕ) (files : List File) (file : File) : Type 0 where
  pub first : List File
  pub later : List File
  pub is : files ≡ first ++ file ∷ later
  pub off : AllByRecursion (IsOtherFile name) first
  pub here : bytes_eq name file.name ≡ true

pub located : (name : List ℕ) (files : List File) (file : File) → file_named name files ≡ Some file → Located name files file
located name [] file found = absurd cc
located name (one ∷ files) file found = by (bytes_eq name one.name) refl found (located name files file)
  where
    by : (b : Bool) → bytes_eq name one.name ≡ b → cond b (Some one) (file_named name files) ≡ Some file → (file_named name files ≡ Some file → Located name files file) → Located name (one ∷ files) file
    by true is found rest =
        let same = some_is one file found in
        record { first = []; later = files; is = ap (λ (f : File). f ∷ files) same; off = tt; here = ap (λ (f : File). bytes_eq name f.name) (sym same) ∙ is }
    by false is found rest =
        let more = rest found in
        record { first = one ∷ more.first; later = more.later; is = ap (λ (fs : List File). one ∷ fs) more.is; off = (is, more.off); here = more.here }

pub none_named : (name : List ℕ) (files : List File) → file_named name files ≡ None → AllByRecursion (IsOtherFile name) files
none_named name [] none = tt
none_named name (one ∷ files) none = by (bytes_eq name one.name) refl none (none_named name files)
  where
    by : (b : Bool) → bytes_eq name one.name ≡ b → cond b (Some one) (file_named name files) ≡ None → (file_named name files ≡ None → AllByRecursion (IsOtherFile name) files) → AllByRecursion (IsOtherFile name) (one ∷ files)
    by true is none rest = absurd cc
    by false is none rest = (is, rest none)

pub in_place_at : (name : List ℕ) (new old : File) (first later : List File) → AllByRecursion (IsOtherFile name) first → bytes_eq name old.name ≡ true → in_place name new (first ++ old ∷ later) ≡ first ++ new ∷ later
in_place_at name new old [] later off here = λ i. cond ((names_flip old.name name ∙ here) i) (new ∷ later) (old ∷ in_place name new later)
in_place_at name new old (one ∷ first) later off here =
    (λ i. cond ((names_flip one.name name ∙ off.0) i) (new ∷ (first ++ old ∷ later)) (one ∷ in_place name new (first ++ old ∷ later)))
    ∙ ap (λ (files : List File). one ∷ files) (in_place_at name new old first later off.1 here)

pub all_stay : (name : List ℕ) (files : List File) → AllByRecursion (IsOtherFile name) files → without_file name files ≡ files
all_stay name [] off = refl
all_stay name (one ∷ files) off =
    (λ i. cond (not ((names_flip one.name name ∙ off.0) i)) (one ∷ without_file name files) (without_file name files)) ∙ ap (λ (files : List File). one ∷ files) (all_stay name files off.1)

pub without_at : (name : List ℕ) (old : File) (first later : List File) → AllByRecursion (IsOtherFile name) first → bytes_eq name old.name ≡ true → AllByRecursion (IsOtherFile name) later
    → without_file name (first ++ old ∷ later) ≡ first ++ later
without_at name old [] later off here off_later =
    (λ i. cond (not ((names_flip old.name name ∙ here) i)) (old ∷ without_file name later) (without_file name later)) ∙ all_stay name later off_later
without_at name old (one ∷ first) later off here off_later =
    (λ i. cond (not ((names_flip one.name name ∙ off.0) i)) (one ∷ without_file name (first ++ old ∷ later)) (without_file name (first ++ old ∷ later)))
    ∙ ap (λ (files : List File). one ∷ files) (without_at name old first later off.1 here off_later)

-- names after a file's differ from its own
pub later_off : (first later : List File) (file : File) → IsDistinct bytes_eq (map name_of (first ++ file ∷ later)) → AllByRecursion (IsOtherFile file.name) later
unfolding IsDistinct
later_off [] later file distinct = all_unmap name_of (λ name. bytes_eq file.name name ≡ false) later distinct.0
later_off (one ∷ first) later file distinct = later_off first later file distinct.1

-- ---- a file is gone

gone_step : (name : List ℕ) (files : List File) → IsDistinct bytes_eq (map name_of files) → FileStep files (without_file name files)
gone_step name files distinct = by (file_named name files) refl
  where
    by : (found : Option File) → file_named name files ≡ found → FileStep files (without_file name files)
    by None is = steps.same (all_stay name files (none_named name files is))
    by (Some file) is =
        let at = located name files file is in
        let own : name ≡ file.name = same_name name file.name at.here in
        let off = later_off at.first at.later file (subst (λ (all : List File). IsDistinct bytes_eq (map name_of all)) at.is distinct) in
        steps.gone at.first at.later file at.is
        (ap (without_file name) at.is ∙ without_at name file at.first at.later at.off at.here (subst (λ name. AllByRecursion (IsOtherFile name) at.later) (sym own) off))

-- ---- a file is changed in its place

-- a file is of the constraint set of its document type, so that two of one document type are of one
pub same_constraint : (one other : File) → IsLimited one → IsLimited other → other.contents ≡ one.contents → other.tree.constraint ≡ one.tree.constraint
same_constraint one other first second same =
    let is : Some other.tree.constraint ≡ Some one.tree.constraint
    = sym second.typed ∙ ap (λ (contents : Contents). option_map (λ (doc : DocType). constraint_of doc.kind) (doc_type contents)) same ∙ first.typed in
    some_is other.tree.constraint one.tree.constraint is

put_step : (name : List ℕ) (files : List File) (new : Option File) → AreLimited files → AreLimited (put_where name new files) → IfSome new (IsNextIn (file_named name files)) → FileStep files (put_where name new files)
put_step name files None limited later next = steps.same refl
put_step name files (Some new) limited later next = by (file_named name files) refl next
  where
    by : (found : Option File) → file_named name files ≡ found → IsNextIn found new → FileStep files (in_place name new files)
    by None is next = absurd next
    by (Some old) is next =
        let at = located name files old is in
        let now : in_place name new files ≡ at.first ++ new ∷ at.later = ap (in_place name new) at.is ∙ in_place_at name new old at.first at.later at.off at.here in
        let own : IsLimited old = (all_right IsLimited at.first (old ∷ at.later) (subst (λ (all : List File). AllByRecursion IsLimited all) at.is limited.each)).0 in
        let after : IsLimited new = (all_right IsLimited at.first (new ∷ at.later) (subst (λ (all : List File). AllByRecursion IsLimited all) now later.each)).0 in
        steps.changed at.first at.later old new at.is now next.0 (same_constraint old new own after next.1.typed)

-- ---- attributes

change_step : (state : State) (old : List ℕ) (stamp : Stamp) (name : Option (List ℕ)) (change : AttributeChange) → change.name ≡ name → is_taken state.files old name ≡ false
    → FileStep state.files (put_where old (changed (file_named old state.files) stamp change) state.files)
change_step state old stamp name change named free = by (file_named old state.files) refl
  where
    by : (found : Option File) → file_named old state.files ≡ found → FileStep state.files (put_where old (changed found stamp change) state.files)
    by None is = steps.same refl
    by (Some file) is = of name named free
      where
        at : Located old state.files file
        at = located old state.files file is

        now : in_place old (after_change file stamp change) state.files
            ≡ (located old state.files file is).first ++ after_change file stamp change ∷ (located old state.files file is).later
        now =
            let at = located old state.files file is in
            ap (in_place old (after_change file stamp change)) at.is ∙ in_place_at old (after_change file stamp change) file at.first at.later at.off at.here

        kept : (after_change file stamp change).name ≡ old → FileStep state.files (in_place old (after_change file stamp change) state.files)
        kept here =
            let at = located old state.files file is in
            steps.changed at.first at.later file (after_change file stamp change) at.is now (here ∙ same_name old file.name at.here) refl

        of : (name : Option (List ℕ)) → change.name ≡ name → is_taken state.files old name ≡ false → FileStep state.files (in_place old (after_change file stamp change) state.files)
        of None named free = kept (ap (λ name. unwrap_or name file.name) named ∙ sym (found_name old state.files file is))
        of (Some new) named free = test (bytes_eq new old) refl
          where
            is_new : (after_change file stamp change).name ≡ new
            is_new = ap (λ name. unwrap_or name file.name) named

            test : (b : Bool) → bytes_eq new old ≡ b → FileStep state.files (in_place old (after_change file stamp change) state.files)
            test true e = kept (is_new ∙ same_name new old e)
            test false e =
                let at = located old state.files file is in
                let none : file_named (after_change file stamp change).name state.files ≡ None = ap (λ name. file_named name state.files) is_new ∙ not_taken state old new e free in
                steps.named at.first at.later file (after_change file stamp change) at.is now refl (none_named (after_change file stamp change).name state.files none)

-- ---- creations

create_step : (state : State) (wanted : Wanted) (over : ℕ) (stamp : Stamp) (new : NewFile) (found : Option File) (given : Given) → file_named new.name state.files ≡ found
    → first_row (create_by (held_files state) wanted over stamp new found) ≡ None → made_unless found ≡ given → FileStep state.files (created_where given new stamp state.files)
create_step state wanted over stamp new (Some file) given is rows made_is =
    subst (λ given. FileStep state.files (created_where given new stamp state.files)) made_is (steps.same refl)
create_step state wanted over stamp new None given is rows made_is =
    subst (λ given. FileStep state.files (created_where given new stamp state.files)) made_is (by (doc_type new.contents) rows)
  where
    by : (doc : Option DocType) → first_row (typed_rows (held_files state) wanted stamp new doc) ≡ None → FileStep state.files (created doc new stamp state.files)
    by None rows = absurd cc
    by (Some doc) rows = steps.added (made new stamp doc) (with_file-new (made new stamp doc) state.files is) (none_named new.name state.files is)

-- ---- requests

pub request_files : (state : State) (party : StandingParty) (setting : Setting) (request : Pdu) (given : Given) → request_decision state party setting request ≡ Grants given
    → IsDistinct bytes_eq (map name_of state.files) → AreLimited state.files → AreLimited (files_by state party setting.moment given request)
    → FileStep state.files (files_by state party setting.moment given request)
request_files state party setting (CreateRequest over name contents permitted terms requested controls password) given is filed limited later =
    let wanted = wanted_by party requested controls password in
    let new : NewFile = record { name = name; contents = contents; permitted = permitted; terms = terms } in
    let one = unit_row (units_of party) limited_management in
    let rows = create_rows (held_files state) wanted over (stamp_of party setting.moment) new in
    let passed = rows_passed (one ∷ rows) (made_unless (file_named name state.files)) given is in
    create_step state wanted over (stamp_of party setting.moment) new (file_named name state.files) given refl (later_passed one rows passed.passed) passed.is
request_files state party setting DeleteRequest given is filed limited later = gone_step (name_in party.history) state.files filed
request_files state party setting (ChangeAttribRequest name permitted terms number) given is filed limited later =
    let old = name_in party.history in
    let one = unit_row (units_of party) enhanced_management in
    let first = row (not (has (requested_in (selection party.history)) actions.ChangeAttribute)) not_permitted in
    let second = row (not (nat_eq number 0)) attribute_unsupported in
    let third = row (is_taken state.files old name) name_exists in
    let fourth = rename_row (holders state old) party.link old name in
    let passed = rows_passed (one ∷ first ∷ second ∷ third ∷ fourth ∷ []) Nothing given is in
    let left = later_passed second (third ∷ fourth ∷ []) (later_passed first (second ∷ third ∷ fourth ∷ []) (later_passed one (first ∷ second ∷ third ∷ fourth ∷ []) passed.passed)) in
    change_step state old (stamp_of party setting.moment) name (record { name = name; permitted = permitted; terms = terms; others = number }) refl
    (row_passed (is_taken state.files old name) name_exists (first_passed third (fourth ∷ []) left))
request_files state party setting (EraseRequest fadu) given is filed limited later =
    put_step (name_in party.history) state.files (erased (selected_file state party.history) (stamp_of party setting.moment) (position party.history) fadu) limited later
    (erased_next (selected_file state party.history) (stamp_of party setting.moment) (position party.history) fadu)
request_files state party setting TransferEndRequest given is filed limited later =
    put_step (name_in party.history) state.files (transfer_ending state party setting.moment).file limited later (transfer_next state party setting.moment)
request_files state party setting (CancelRequest diagnostic) given is filed limited later =
    put_step (name_in party.history) state.files (cancel_ending state party setting.moment).file limited later (cancel_next state party setting.moment)
request_files state party setting request given is filed limited later = steps.same refl
