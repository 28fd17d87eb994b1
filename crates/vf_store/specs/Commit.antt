-- What a commit writes (profile): the record of its changes, after a move to an area of one record, which makes all
-- tables, where a switch is due and possible.
use Rattle.std.specs.Prelude.{◌≡◌, ℕ, ◌+◌, ◌≤◌, true, not, List, [], ◌∷◌, ◌++◌, length, Option, None, Some, IfSome}
use Rattle.std.specs.Option.{option_map}
use Rattle.vf_disk.specs.declared.step.Step.{Step}
use Rattle.vf_journal.specs.JournalState.{JournalState, after_append, after_switch, new_area, new_start, placing}
use Rattle.vf_journal.specs.Records.{IsArea, IsEntry, area_with, entry_of}
use Rattle.vf_journal.specs.Writes.{append_steps, prepare_steps, switch_steps}
use Rattle.vf_journal.specs.declared.placing.Placing.{Placing}
use Rattle.vf_store_record.specs.Records.{record_of}
use Rattle.vf_tables.specs.Changes.{after_all}
use Rattle.vf_tables.specs.Fitting.{all_fit}
use Rattle.vf_tables.specs.Snapshot.{snapshot}
use Rattle.vf_tables.specs.Validity.{is_valid}
use Rattle.vf_tables.specs.declared.change.Change.{Change}
use Rattle.vf_tables.specs.declared.tables.Tables.{Tables}
use Rattle.vf_store.specs.Represented.{after_record, made}

-- changes of which each fits the tables before it, where those after all are valid
pub record AreFitting (tables : Tables) (changes : List Change) : Type 0 where
  pub each : all_fit tables changes ≡ true
  pub valid : is_valid (after_all tables changes) ≡ true

-- where the record of changes is to stand
abbrev pub placed : JournalState → Tables → List Change → Placing
placed journal tables changes = placing journal (length (record_of changes)) (length (record_of (snapshot tables)))

-- the area of one record that makes the tables, where a switch is planned
abbrev pub area_planned : Tables → Option ℕ → Option (List ℕ)
area_planned tables switch = option_map (λ (start : ℕ). area_with (record_of (snapshot tables))) switch

-- the end of a record in its built form, after a move to an area, where there is one
abbrev pub end_of : JournalState → Option (List ℕ) → List ℕ → ℕ
end_of journal None entry = journal.area.end + length entry
end_of journal (Some area) entry = new_start journal (length area) + length area + length entry

-- the calls of the disk by which they are written: five for the area, and four for the record
abbrev pub written_steps : JournalState → Option (List ℕ) → List ℕ → List Step
written_steps journal None entry = append_steps journal.area.end entry
written_steps journal (Some area) entry =
    let start = new_start journal (length area) in
    prepare_steps start area (not journal.second) ++ switch_steps (not journal.second) ++ append_steps (start + length area) entry

-- those of a commit
abbrev pub commit_steps : JournalState → Tables → List Change → List Step
commit_steps journal tables changes = written_steps journal (area_planned tables (placed journal tables changes).switch) (entry_of (record_of changes))

-- the journal after a move to an area, where there is one
abbrev pub after_move : JournalState → Option (List ℕ) → JournalState
after_move journal None = journal
after_move journal (Some area) = after_switch journal (new_area journal (length area))

-- and after a commit
abbrev pub after_commit : JournalState → Tables → List Change → JournalState
after_commit journal tables changes =
    after_append (after_move journal (area_planned tables (placed journal tables changes).switch)) (length (record_of changes))

-- an area of one record that makes these tables
abbrev pub IsAreaOf : Tables → List ℕ → Type 0
IsAreaOf tables area = (item : List ℕ) × (area ≡ area_with item) × (made (item ∷ []) ≡ Some tables)

-- the built form of a record that leads from some tables to others
abbrev pub IsEntryOf : Tables → Tables → List ℕ → Type 0
IsEntryOf before after entry = (item : List ℕ) × (entry ≡ entry_of item) × (after_record before item ≡ Some after)

-- what is written leads from some tables to others, and the area, where there is one, makes those before
pub record Leads (area : Option (List ℕ)) (entry : List ℕ) (before after : Tables) : Type 0 where
  pub area_makes : IfSome area (IsAreaOf before)
  pub entry_leads : IsEntryOf before after entry

-- What is written is in its built forms, and ends within the limit.
pub record IsWritable (journal : JournalState) (area : Option (List ℕ)) (entry : List ℕ) : Type 0 where
  pub area_form : IfSome area IsArea
  pub entry_form : IsEntry entry
  pub within : end_of journal area entry ≤ journal.limit
