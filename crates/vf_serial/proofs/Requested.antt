-- Each request that is granted leads by its moves.
use Rattle.std.proofs.Common.{◌≡◌, ℕ, Bool, true, false, cond, not, List, [], ◌∷◌, nat_eq, option_map, Option, None, Some, inl, inr, refl, ap, sym, subst, ◌∙◌, arith}
use Rattle.std.specs.Prelude.{IfSome, IsSome, flat_map, unwrap_or}
use Rattle.std.specs.Str.{bytes_eq}
use Rattle.vf_attr.specs.Access.{has}
use Rattle.vf_attr.specs.declared.file.File.{File}
use Rattle.vf_base.specs.declared.action.Action.TheVariants as actions
use Rattle.vf_elements.specs.Stages.{takes}
use Rattle.vf_elements.specs.declared.message.Message.{Message}
use Rattle.vf_elements.specs.declared.message.Message.TheVariants as messages
use Rattle.vf_attr.specs.Change.{after_change}
use Rattle.vf_attr.specs.declared.changes.AttributeChange.{AttributeChange}
use Rattle.vf_attr.specs.declared.stamp.Stamp.{Stamp}
use Rattle.vf_doctype.specs.DocumentTypes.{doc_type}
use Rattle.vf_doctype.specs.declared.doc_type.DocType.{DocType}
use Rattle.vf_filestore.specs.Effects as effects
use Rattle.vf_filestore.specs.Effects.{changed, created_where, in_place, put_where, without_file}
use Rattle.vf_filestore.specs.Files.{file_named, with_file, made}
use Rattle.vf_filestore.specs.Keeping.{IsGivenTo}
use Rattle.vf_filestore.specs.declared.creation.NewFile.{NewFile}
use Rattle.vf_pdu.specs.declared.pdu.Pdu.{Pdu}
use Rattle.vf_pdu.specs.declared.pdu.Pdu.TheVariants.{SelectRequest, CreateRequest, DeselectRequest, DeleteRequest, ChangeAttribRequest, OpenRequest, CloseRequest, RecoverRequest}
use Rattle.vf_filestore.specs.Aborts.{Setting}
use Rattle.vf_filestore.specs.Conclusion.{concluding_entry, taken_up}
use Rattle.vf_filestore.specs.Controls.{content_controls}
use Rattle.vf_filestore.specs.Decision.{Grants, made_unless, request_decision, wanted_by}
use Rattle.vf_filestore.specs.Diagnostics.{attribute_unsupported, name_exists, not_permitted, row}
use Rattle.vf_filestore.specs.Ending.{stamp_of}
use Rattle.vf_filestore.specs.History.{Given, Nothing, Made, Refused, Showed, Placed, Resumed, Regime, Selection, regime, renamed, selection}
use Rattle.vf_filestore.specs.Holders.{alone_row, held_files, holders}
use Rattle.vf_filestore.specs.Performed.{operation}
use Rattle.vf_filestore.specs.Selecting.{create_rows, is_taken, rename_row}
use Rattle.vf_filestore.specs.Sound.{IsThere}
use Rattle.vf_filestore.specs.Stage.{regime_stage}
use Rattle.vf_filestore.specs.State.{State, StandingParty, file_in, mode_in, name_in, requested_in, units_of}
use Rattle.vf_filestore.specs.Units.{enhanced_management, limited_management, unit_row}
use Rattle.vf_filestore.proofs.Alone.{alone}
use Rattle.vf_filestore.proofs.Concluded.{after_entry}
use Rattle.vf_filestore.proofs.Decided.{first_passed, later_passed, row_passed, rows_passed}
use Rattle.vf_filestore.proofs.Effected.{not_taken}
use Rattle.vf_filestore.proofs.Filed as files_filed
use Rattle.vf_filestore.proofs.Filed.{found_here, found_other, named_added, names_flip, same_name}
use Rattle.vf_filestore.proofs.Nested.{placed}
use Rattle.vf_filestore.proofs.Owned.{placed_request}
use Rattle.vf_filestore.proofs.Views.{in_association_only, in_regime_only, in_selection_only}
use Rattle.vf_serial.specs.Moves.{Created, Deleted, Opened, Renamed, ceased, created, doc_of, moves_by, renamed as renames, works}
use Rattle.vf_serial.specs.Uses.{Standing}
use Rattle.vf_serial.proofs.Earned.{AllOfIts}
use Rattle.vf_serial.proofs.Ended.{none_stands, one_stands}
use Rattle.vf_serial.proofs.Granted.{IsNext, Stage, acted_leads, free_alone, free_none, named_leads, none_open, replaced_next, still_leads}
use Rattle.vf_serial.proofs.Acting.{placed_at, tree_at}
use Rattle.vf_serial.proofs.Among.{IsAmong}
use Rattle.vf_serial.proofs.Effected.{request_effect}
use Rattle.vf_serial.proofs.Effects.{trees_kept}
use Rattle.vf_serial.proofs.Working.{apart_of, none_works, of_none, rest_of, worker_by, workers, workers_in, working_at, working_stands}
use Rattle.vf_serial.proofs.Leading.{Leads, moves_on, replaced_ceased, replaced_opened, replaced_were}
use Rattle.vf_serial.proofs.Led.{IsFree, at}
use Rattle.vf_serial.proofs.Present.{Item, items, present, stand_by, stands_in, standing}

-- the party after it
abbrev next_of : State → StandingParty → Setting → Message → Given → List Message → StandingParty
next_of state party setting message given trace = record party { trace = trace; history = concluding_entry state party setting message given ∷ party.history }

-- ---- files by name

beside_added : (name : List ℕ) (file : File) (files : List File) → bytes_eq name file.name ≡ false → file_named name (with_file file files) ≡ file_named name files
beside_added name file [] other = λ i. cond (other i) (Some file) None
beside_added name file (first ∷ files) other = by (beside_added name file files other) (bytes_eq file.name first.name) refl
  where
    by : file_named name (with_file file files) ≡ file_named name files → (t : Bool) → bytes_eq file.name first.name ≡ t
        → file_named name (cond t (file ∷ files) (first ∷ with_file file files)) ≡ cond (bytes_eq name first.name) (Some first) (file_named name files)
    by rest true is =
        let off : bytes_eq name first.name ≡ false = ap (bytes_eq name) (sym (same_name file.name first.name is)) ∙ other in
        (λ i. cond (other i) (Some file) (file_named name files)) ∙ sym (λ i. cond (off i) (Some first) (file_named name files))
    by rest false is = λ i. cond (bytes_eq name first.name) (Some first) (rest i)

beside_deleted : (name old : List ℕ) (files : List File) → bytes_eq name old ≡ false → file_named name (without_file old files) ≡ file_named name files
beside_deleted name old [] other = refl
beside_deleted name old (first ∷ files) other = by (beside_deleted name old files other) (bytes_eq first.name old) refl
  where
    by : file_named name (without_file old files) ≡ file_named name files → (t : Bool) → bytes_eq first.name old ≡ t
        → file_named name (cond (not t) (first ∷ without_file old files) (without_file old files)) ≡ cond (bytes_eq name first.name) (Some first) (file_named name files)
    by rest true is =
        let off : bytes_eq name first.name ≡ false = ap (bytes_eq name) (same_name first.name old is) ∙ other in
        rest ∙ sym (λ i. cond (off i) (Some first) (file_named name files))
    by rest false is = λ i. cond (bytes_eq name first.name) (Some first) (rest i)

-- ---- renaming

renamed_leads : (state later : State) (party next : StandingParty) (before after : List StandingParty) (stamp : Stamp) (change : AttributeChange) (name : Option (List ℕ)) (found : Option File) → change.name ≡ name
    → Stage state party before after → IsNext state later party next before after → regime party.history ≡ None → regime next.history ≡ None → stands_in next.history ≡ stands_in party.history
    → is_taken state.files (name_in party.history) name ≡ false → rename_row (holders state (name_in party.history)) party.link (name_in party.history) name ≡ None
    → file_named (name_in party.history) state.files ≡ found → IsSome found → later.files ≡ put_where (name_in party.history) (changed found stamp change) state.files
    → Leads state (renames (name_in party.history) name) later
renamed_leads state later party next before after stamp change name None named stage is none none_next stands_same free row found some files = absurd cc
renamed_leads state later party next before after stamp change None (Some file) named stage is none none_next stands_same free row found some files =
    still_leads state later party next before after stage is stands_same (of_none (workers_in next.history) (workers_in party.history) (none_works next.history none_next))
    (λ other. ap (tree_at other) files ∙ trees_kept (name_in party.history) file (after_change file stamp change) state.files found (ap (λ one. unwrap_or one file.name) named) refl other)
renamed_leads state later party next before after stamp change (Some new) (Some file) named stage is none none_next stands_same free row_is found some files =
    named_leads state later party next before after (Renamed (name_in party.history) new) stage is stands_same (none_works next.history none_next)
    (λ same. record { free = λ differ. both (names_flip new (name_in party.history) ∙ differ); same = same })
    (λ were. record {
      were = were;
      free = λ differ.
          let other = names_flip new (name_in party.history) ∙ differ in (
            λ x there. (both other).1 (at x.file x.regime) (working_stands (items state.dockets state.parties) x (were x there)),
            ap (option_map (λ (one : File). one.tree)) (not_taken state (name_in party.history) new other free),
          );
      leaves =
          ap (tree_at new) files ∙ ap (λ one. tree_at one (in_place (name_in party.history) next_file state.files)) (sym own)
          ∙ ap (option_map (λ (one : File). one.tree)) (found_here (name_in party.history) file next_file state.files found (free_name (bytes_eq new (name_in party.history)) refl))
          ∙ sym (ap (option_map (λ (one : File). one.tree)) found);
      others = λ other off off_new.
          ap (tree_at other) files ∙ ap (option_map (λ (one : File). one.tree)) (found_other other (name_in party.history) next_file state.files off (ap (bytes_eq other) own ∙ off_new));
    })
  where
    next_file : File
    next_file = after_change file stamp change

    own : (after_change file stamp change).name ≡ new
    own = ap (λ one. unwrap_or one file.name) named

    both : bytes_eq new (name_in party.history) ≡ false → IsFree (name_in party.history) (present state) × IsFree new (present state)
    both other =
        let alone_is : alone_row (holders state (name_in party.history)) party.link actions.ChangeAttribute ≡ None
        = sym (ap (λ b. cond b None (alone_row (holders state (name_in party.history)) party.link actions.ChangeAttribute)) other) ∙ row_is in (
          free_alone state party before after (name_in party.history) stage.among_is (alone state party.link (name_in party.history) actions.ChangeAttribute alone_is) (none_stands party.history none),
          free_none state new stage.sound (not_taken state (name_in party.history) new other free),
        )

    free_name : (t : Bool) → bytes_eq new (name_in party.history) ≡ t → files_filed.IsFree (name_in party.history) (after_change file stamp change).name state.files
    free_name true equal = inl (own ∙ same_name new (name_in party.history) equal)
    free_name false other = inr (ap (λ one. file_named one state.files) own ∙ not_taken state (name_in party.history) new other free)

-- ---- creation

made_leads : (state later : State) (party next : StandingParty) (before after : List StandingParty) (new : NewFile) (stamp : Stamp) (doc : Option DocType) → Stage state party before after → IsNext state later party next before after
    → regime next.history ≡ None → stands_in next.history ≡ stands_in party.history → file_named new.name state.files ≡ None → later.files ≡ effects.created doc new stamp state.files
    → Leads state (created Made new.name (file_named new.name later.files)) later
made_leads state later party next before after new stamp None stage is none stands_same fresh files =
    subst (λ (one : Option File). Leads state (created Made new.name one) later) (sym (ap (file_named new.name) files ∙ fresh))
    (still_leads state later party next before after stage is stands_same (of_none (workers_in next.history) (workers_in party.history) (none_works next.history none)) (λ other. ap (tree_at other) files))
made_leads state later party next before after new stamp (Some doc) stage is none stands_same fresh files =
    let file = made new stamp doc in
    subst (λ (one : Option File). Leads state (created Made new.name one) later) (sym (ap (file_named new.name) files ∙ named_added file state.files))
    (named_leads state later party next before after (Created new.name file.tree) stage is stands_same (none_works next.history none) (λ same. record { free = free_none state new.name stage.sound fresh; same = same })
    (λ were. record {
      were = were;
      free = λ x there. free_none state new.name stage.sound fresh (at x.file x.regime) (working_stands (items state.dockets state.parties) x (were x there));
      none = ap (option_map (λ (one : File). one.tree)) fresh;
      leaves = ap (tree_at new.name) files ∙ ap (option_map (λ (one : File). one.tree)) (named_added file state.files);
      others = λ other off. ap (tree_at other) files ∙ ap (option_map (λ (one : File). one.tree)) (beside_added other file state.files off);
    }))

created_leads : (state later : State) (party next : StandingParty) (before after : List StandingParty) (new : NewFile) (stamp : Stamp) (given : Given) → Stage state party before after → IsNext state later party next before after
    → regime next.history ≡ None → stands_in next.history ≡ stands_in party.history → (given ≡ Made → file_named new.name state.files ≡ None) → later.files ≡ created_where given new stamp state.files
    → Leads state (created given new.name (file_named new.name later.files)) later
created_leads state later party next before after new stamp Made stage is none stands_same fresh files =
    made_leads state later party next before after new stamp (doc_type new.contents) stage is none stands_same (fresh refl) files
created_leads state later party next before after new stamp Nothing stage is none stands_same fresh files =
    still_leads state later party next before after stage is stands_same (of_none (workers_in next.history) (workers_in party.history) (none_works next.history none)) (λ other. ap (tree_at other) files)
created_leads state later party next before after new stamp (Refused version number) stage is none stands_same fresh files =
    still_leads state later party next before after stage is stands_same (of_none (workers_in next.history) (workers_in party.history) (none_works next.history none)) (λ other. ap (tree_at other) files)
created_leads state later party next before after new stamp (Showed version elements position) stage is none stands_same fresh files =
    still_leads state later party next before after stage is stands_same (of_none (workers_in next.history) (workers_in party.history) (none_works next.history none)) (λ other. ap (tree_at other) files)
created_leads state later party next before after new stamp (Placed position) stage is none stands_same fresh files =
    still_leads state later party next before after stage is stands_same (of_none (workers_in next.history) (workers_in party.history) (none_works next.history none)) (λ other. ap (tree_at other) files)
created_leads state later party next before after new stamp (Resumed goes_on check) stage is none stands_same fresh files =
    still_leads state later party next before after stage is stands_same (of_none (workers_in next.history) (workers_in party.history) (none_works next.history none)) (λ other. ap (tree_at other) files)

was_new : (found : Option File) (given : Given) → made_unless found ≡ given → given ≡ Made → found ≡ None
was_new None given is made = refl
was_new (Some file) given is made = absurd cc

-- ---- requests

only_worker : (x : Standing) (b : Bool) (file : List ℕ) (opened : Regime) (place : ℕ) → IsAmong x (working_at b file opened place) → x ≡ placed_at file opened place
only_worker x false file opened place there = absurd there
only_worker x true file opened place (inl same) = same
only_worker x true file opened place (inr none) = absurd none

abbrev pub LeadsBy : State → StandingParty → Setting → Message → Given → List Message → (before after : List StandingParty) → Type 0
LeadsBy state party setting message given trace before after =
    Leads state
    (moves_by state.files (after_entry state party setting message given trace before after).files (taken_up state party message) (concluding_entry state party setting message given))
    (after_entry state party setting message given trace before after)

pub request_leads : (state : State) (party : StandingParty) (setting : Setting) (request : Pdu) (given : Given) (trace : List Message) (before after : List StandingParty) → Stage state party before after
    → request_decision state party setting request ≡ Grants given → takes (regime_stage party.history) (messages.Pdu request) ≡ true
    → AllOfIts (mode_in (regime party.history)) (operation party.history (messages.Pdu request) given) → IsGivenTo request given → ((activity number point : ℕ) → request ≡ RecoverRequest activity number point → ⊥)
    → LeadsBy state party setting (messages.Pdu request) given trace before after
request_leads state party setting (SelectRequest name requested controls password) given trace before after stage is taken its was no_recovery =
    let request = SelectRequest name requested controls password in
    let message = messages.Pdu request in
    let there = in_association_only message (record { reading = refl; shown = refl; writing = refl; written = refl }) refl refl (placed message party.history (placed_request party.history request taken)) in
    let later = after_entry state party setting message given trace before after in
    still_leads state later party (next_of state party setting message given trace) before after stage (record { is = refl; same = refl; less = omega arith })
    (none_open party.history (selection party.history) (selection (concluding_entry state party setting message given ∷ party.history)) there.no_regime)
    (of_none (workers_in (concluding_entry state party setting message given ∷ party.history)) (workers_in party.history) (none_works (concluding_entry state party setting message given ∷ party.history) there.no_regime)) (λ other. refl)
request_leads state party setting (CreateRequest over name contents permitted terms requested controls password) given trace before after stage is taken its was no_recovery =
    let request = CreateRequest over name contents permitted terms requested controls password in
    let message = messages.Pdu request in
    let there = in_association_only message (record { reading = refl; shown = refl; writing = refl; written = refl }) refl refl (placed message party.history (placed_request party.history request taken)) in
    let later = after_entry state party setting message given trace before after in
    let new : NewFile = record { name = name; contents = contents; permitted = permitted; terms = terms } in
    let wanted = wanted_by party requested controls password in
    let passed = rows_passed (unit_row (units_of party) limited_management ∷ create_rows (held_files state) wanted over (stamp_of party setting.moment) new) (made_unless (file_named name state.files)) given is in
    created_leads state later party (next_of state party setting message given trace) before after new (stamp_of party setting.moment) given stage (record { is = refl; same = refl; less = omega arith }) there.no_regime
    (none_open party.history (selection party.history) (selection (concluding_entry state party setting message given ∷ party.history)) there.no_regime)
    (was_new (file_named name state.files) given passed.is) refl
request_leads state party setting DeselectRequest given trace before after stage is taken its was no_recovery =
    let message = messages.Pdu DeselectRequest in
    let there = in_selection_only message (record { reading = refl; shown = refl; writing = refl; written = refl }) refl refl (placed message party.history (placed_request party.history DeselectRequest taken)) in
    let later = after_entry state party setting message given trace before after in
    still_leads state later party (next_of state party setting message given trace) before after stage (record { is = refl; same = refl; less = omega arith })
    (none_open party.history (selection party.history) None there.no_regime)
    (of_none (workers_in (concluding_entry state party setting message given ∷ party.history)) (workers_in party.history) (none_works (concluding_entry state party setting message given ∷ party.history) there.no_regime)) (λ other. refl)
request_leads state party setting DeleteRequest given trace before after stage is taken its was no_recovery =
    let message = messages.Pdu DeleteRequest in
    let there = in_selection_only message (record { reading = refl; shown = refl; writing = refl; written = refl }) refl refl (placed message party.history (placed_request party.history DeleteRequest taken)) in
    let later = after_entry state party setting message given trace before after in
    named_leads state later party (next_of state party setting message given trace) before after (Deleted (name_in party.history)) stage (record { is = refl; same = refl; less = omega arith })
    (none_open party.history (selection party.history) None there.no_regime) (none_works (concluding_entry state party setting message given ∷ party.history) there.no_regime) (λ same. same)
    (λ were. record { were = were; others = λ other off. ap (option_map (λ (one : File). one.tree)) (beside_deleted other (name_in party.history) state.files off) })
request_leads state party setting (ChangeAttribRequest name permitted terms number) given trace before after stage is taken its was no_recovery =
    let request = ChangeAttribRequest name permitted terms number in
    let message = messages.Pdu request in
    let there = in_selection_only message (record { reading = refl; shown = refl; writing = refl; written = refl }) refl refl (placed message party.history (placed_request party.history request taken)) in
    let later = after_entry state party setting message given trace before after in
    let old = name_in party.history in
    let unit = unit_row (units_of party) enhanced_management in
    let first = row (not (has (requested_in (selection party.history)) actions.ChangeAttribute)) not_permitted in
    let second = row (not (nat_eq number 0)) attribute_unsupported in
    let third = row (is_taken state.files old name) name_exists in
    let fourth = rename_row (holders state old) party.link old name in
    let passed = rows_passed (unit ∷ first ∷ second ∷ third ∷ fourth ∷ []) Nothing given is in
    let left = later_passed second (third ∷ fourth ∷ []) (later_passed first (second ∷ third ∷ fourth ∷ []) (later_passed unit (first ∷ second ∷ third ∷ fourth ∷ []) passed.passed)) in
    let change : AttributeChange = record { name = name; permitted = permitted; terms = terms; others = number } in
    let some : IsSome (file_named old state.files)
    = subst (λ (one : Option Selection). IsSome (file_named (file_in one) state.files)) (sym there.is) (subst (λ (one : Option Selection). IfSome one (IsThere state.files)) there.is stage.there) in
    renamed_leads state later party (next_of state party setting message given trace) before after (stamp_of party setting.moment) change name (file_named old state.files) refl stage
    (record { is = refl; same = refl; less = omega arith }) there.no_regime there.no_regime
    (none_open party.history (selection party.history) (option_map (renamed name) (selection party.history)) there.no_regime)
    (row_passed (is_taken state.files old name) name_exists (first_passed third (fourth ∷ []) left))
    (first_passed fourth [] (later_passed third (fourth ∷ []) left)) refl some refl
request_leads state party setting (OpenRequest mode contents controls activity) given trace before after stage is taken its was no_recovery =
    let request = OpenRequest mode contents controls activity in
    let message = messages.Pdu request in
    let there = in_selection_only message (record { reading = refl; shown = refl; writing = refl; written = refl }) refl refl (placed message party.history (placed_request party.history request taken)) in
    let later = after_entry state party setting message given trace before after in
    let next = next_of state party setting message given trace in
    let opened : Regime = record { number = state.concluded; mode = record { value = mode }; controls = content_controls (record { value = mode }) controls; activity = activity } in
    let name : name_in party.history ≡ there.selected.file = ap file_in there.is in
    let replaced = replaced_next state later party next before after stage (record { is = refl; same = refl; less = omega arith }) in
    let worker : workers_in next.history ≡ working_at (works opened.mode) (name_in party.history) opened 0
    = ap (worker_by 0 (Some opened)) there.is ∙ ap (λ file. working_at (works opened.mode) file opened 0) (sym name) in
    moves_on state later (Opened (name_in party.history) opened) stage.sound (omega arith)
    (replaced_opened state later (standing party) (standing next) (name_in party.history) opened replaced (none_stands party.history there.no_regime)
    (ap (stand_by (Some opened)) there.is ∙ ap (λ file. at file opened ∷ []) (sym name)) (omega arith))
    (record {
      fresh = omega arith;
      were = λ x later_x.
          elim (apart_of (standing next) replaced.before replaced.after x (subst (λ (all : List Item). IsAmong x (flat_map workers all)) replaced.is later_x)) [
            | inl mine ↦ inr (only_worker x (works opened.mode) (name_in party.history) opened 0 (subst (IsAmong x) worker mine))
            | inr others ↦ inl (subst (λ (all : List Item). IsAmong x (flat_map workers all)) (sym replaced.was) (rest_of (standing party) replaced.before replaced.after x others))
          ];
      trees = λ other. refl;
    })
request_leads state party setting CloseRequest given trace before after stage is taken its was no_recovery =
    let message = messages.Pdu CloseRequest in
    let there = in_regime_only message (record { reading = refl; shown = refl; writing = refl; written = refl }) refl refl (placed message party.history (placed_request party.history CloseRequest taken)) in
    let later = after_entry state party setting message given trace before after in
    let next = next_of state party setting message given trace in
    subst (λ (one : Option Regime). Leads state (ceased (name_in party.history) one) later) (sym there.is)
    (moves_on state later _ stage.sound (omega arith)
    (replaced_ceased state later (standing party) (standing next) (name_in party.history) there.opened stage.sound
    (replaced_next state later party next before after stage (record { is = refl; same = refl; less = omega arith })) (one_stands party.history there.opened stage.nested there.is) refl)
    (record {
      were = replaced_were state later (standing party) (standing next) (replaced_next state later party next before after stage (record { is = refl; same = refl; less = omega arith }))
          (of_none (workers_in next.history) (workers_in party.history) refl);
      trees = λ other. refl;
    }))
request_leads state party setting (RecoverRequest activity number point) given trace before after stage is taken its was no_recovery = absurd (no_recovery activity number point refl)
request_leads state party setting request given trace before after stage is taken its was no_recovery =
    let message = messages.Pdu request in
    acted_leads state (after_entry state party setting message given trace before after) party (next_of state party setting message given trace) before after (concluding_entry state party setting message given)
    (doc_of (file_named (name_in party.history) state.files)) stage (record { is = refl; same = refl; less = omega arith }) (record { opens = refl; selects = refl }) its
    (request_effect state party setting request given is was tt)
