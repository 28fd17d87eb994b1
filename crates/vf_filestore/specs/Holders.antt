-- The holders of a file (ISO 8571-2, concurrency control; their order is profile): the parties whose selection of it
-- stands, and the dockets on it.
use Rattle.std.specs.Prelude.{ℕ, ℤ, pos, neg_ℤ, List, [], ◌∷◌, ◌++◌, Option, None, Some, if◌then◌else◌, option_map}
use Rattle.std.specs.List.{flat_map, fold}
use Rattle.std.specs.Str.{bytes_eq}
use Rattle.vf_attr.specs.Access.{number_of}
use Rattle.vf_attr.specs.declared.file.File.{File}
use Rattle.vf_base.specs.declared.action.Action.{Action}
use Rattle.vf_base.specs.declared.action.Controls.{Controls}
use Rattle.vf_base.specs.declared.diagnostic.Diagnostic.{Diagnostic}
use Rattle.vf_locks.specs.Clash.{conflict}
use Rattle.vf_locks.specs.Holders.{first_other, in_order}
use Rattle.vf_locks.specs.declared.conflict.Conflict.{Conflict}
use Rattle.vf_locks.specs.declared.held.Held.{Held}
use Rattle.vf_locks.specs.declared.holder.Holder.{Holder}
use Rattle.vf_locks.specs.declared.holder.Holder.TheVariants.{Party, Docket}
use Rattle.vf_pdu_fields.specs.declared.controls.ContentControls.{ContentControls}
use Rattle.vf_filestore.specs.Controls.{joined, not_opened}
use Rattle.vf_filestore.specs.Diagnostics.{Row, concurrency_conflict}
use Rattle.vf_filestore.specs.History.{History, Regime, Selection, regime, selection}
use Rattle.vf_filestore.specs.State as states
use Rattle.vf_filestore.specs.State.{State, StandingParty}

abbrev pub opened_controls : Option Regime → ContentControls
opened_controls None = not_opened
opened_controls (Some regime) = regime.controls

-- the controls of a selection and of the open in it
abbrev pub controls_by : Selection → Option Regime → Controls
controls_by selection regime = joined (opened_controls regime) selection.controls

abbrev pub held_by : (file : List ℕ) → Holder → Option Regime → Option Selection → List Held
held_by file holder regime None = []
held_by file holder regime (Some selection) =
    if bytes_eq selection.file file then record { holder = holder; controls = controls_by selection regime } ∷ [] else []

-- one who has the history holds the file where its selection of it stands
abbrev pub held_in : (file : List ℕ) → Holder → History → List Held
held_in file holder history = held_by file holder (regime history) (selection history)

abbrev pub held_by_party : (file : List ℕ) → StandingParty → List Held
held_by_party file party = held_in file (Party party.link) party.history

abbrev pub held_by_docket : (file : List ℕ) → states.Docket → List Held
held_by_docket file docket = held_in file (Docket docket.identity docket.activity) docket.history

abbrev pub put_in_order : List Held → List Held
put_in_order helds = fold (λ ordered held. in_order held ordered) [] helds

-- parties by rising link, then dockets by identity and activity
abbrev pub holders : State → (file : List ℕ) → List Held
holders state file =
    put_in_order (flat_map (held_by_party file) state.parties ++ flat_map (held_by_docket file) state.dockets)

-- what a request finds: the files, and who holds each
pub record HeldFiles : Type 0 where
  pub files : List File
  pub holders : (file : List ℕ) → List Held

abbrev pub held_files : State → HeldFiles
held_files state = record { files = state.files; holders = holders state }

-- a party's link, or a docket's activity with a minus sign
abbrev pub holder_number : Holder → ℤ
holder_number (Party link) = pos link
holder_number (Docket identity activity) = neg_ℤ (pos activity)

-- diagnostic 16 tells the action and the holder that stands against it
abbrev pub conflict_with : Action → Holder → Diagnostic
conflict_with action holder =
    record { number = concurrency_conflict; first = pos (number_of action); second = holder_number holder }

-- the first other of a file's holders whose controls clash with these, on the lowest such action
abbrev pub clash_row : List Held → (link : ℕ) → Controls → Row
clash_row helds link wanted =
    option_map (λ (found : Conflict). conflict_with found.action found.holder) (conflict (Party link) wanted helds)

-- any other of a file's holders
abbrev pub alone_row : List Held → (link : ℕ) → Action → Row
alone_row helds link action = option_map (conflict_with action) (first_other (Party link) helds)
