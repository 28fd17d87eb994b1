-- A creation is refused by the rows of the filestore, and else changes the files as it does there.
use Rattle.std.proofs.Common.{◌≡◌, ℕ, List, [], ◌∷◌, Option, None, Some, Result, Ok, Err, refl, ap, sym, ◌∙◌}
use Rattle.vf_attr.specs.declared.file.File.{File}
use Rattle.vf_attr.specs.declared.stamp.Stamp.{Stamp}
use Rattle.vf_base.specs.declared.diagnostic.Diagnostic.{Diagnostic}
use Rattle.vf_doctype.specs.DocumentTypes.{doc_type}
use Rattle.vf_doctype.specs.declared.doc_type.DocType.{DocType}
use Rattle.vf_filestore.specs.Changes.{file_changes}
use Rattle.vf_elements.specs.declared.message.Message.{Message}
use Rattle.vf_filestore.specs.Aborts.{Setting}
use Rattle.vf_filestore.specs.Decision.{granted_unless, made_unless, message_decision}
use Rattle.vf_filestore.specs.Diagnostics.{Row, row, first_row, name_exists}
use Rattle.vf_filestore.specs.Effects.{created, created_where}
use Rattle.vf_filestore.specs.Files.{file_named, made}
use Rattle.vf_filestore.specs.History.{Given}
use Rattle.vf_filestore.specs.Holders.{HeldFiles}
use Rattle.vf_filestore.specs.Selecting.{Wanted, create_by, create_rows, selection_rows, typed_rows}
use Rattle.vf_filestore.specs.State.{State, StandingParty}
use Rattle.vf_filestore.specs.Units.{limited_management, unit_row}
use Rattle.vf_filestore.specs.declared.creation.NewFile.{NewFile}
use Rattle.vf_filestore.proofs.FileSteps.{changes_added}
use Rattle.vf_filestore.proofs.Filed.{with_file-new}
use Rattle.vf_filestore.proofs.Unchanged.{files_themselves}
use Rattle.vf_regime_refusals.specs.Creating.{creation_by, creation_of, made_of, unless_refused}
use Rattle.vf_regime_refusals.specs.declared.creating.Creation.{Creation}
use Rattle.vf_regime_refusals.specs.declared.creating.Creation.TheVariants.{Selected}
use Rattle.vf_tables.specs.declared.change.Change.{Change}
use Rattle.vf_locks.specs.Table.{IsAsBefore}
use Rattle.vf_party_steps.specs.Creations.{IsRefusedBy, changes_of}
use Rattle.vf_party_steps.specs.Steps.{HoldersOfFiles, MeetsStep, Represents}
use Rattle.vf_party_steps.specs.declared.states.Associated.{Associated}
use Rattle.vf_party_steps.specs.declared.step.StepError.{StepError}
use Rattle.vf_party_steps.specs.declared.step.StepError.TheVariants as errors
use Rattle.vf_tables.specs.declared.tables.Tables.{Tables}
use Rattle.std.specs.Prelude.{nat_eq}

abbrev pub refusal_in : Result (List Change) Diagnostic → Row
refusal_in (Ok changes) = None
refusal_in (Err diagnostic) = Some diagnostic

abbrev pub made_in : Result (List Change) Diagnostic → List Change
made_in (Ok changes) = changes
made_in (Err diagnostic) = []

-- where its rows refuse, and else as it is
refused_unless : (one : Row) (creation : Creation) → refusal_in (changes_of creation) ≡ None → refusal_in (changes_of (unless_refused one creation)) ≡ one
refused_unless (Some diagnostic) creation free = refl
refused_unless None creation free = free

module _ (found : HeldFiles) (wanted : Wanted) (over : ℕ) (stamp : Stamp) (new : NewFile) where
  refused_by : (there : Option File) → refusal_in (changes_of (creation_by found wanted over stamp new there)) ≡ first_row (create_by found wanted over stamp new there)
  refused_by (Some file) = refused_unless (first_row (row (nat_eq over 0) name_exists ∷ selection_rows found wanted file)) Selected refl
  refused_by None = by (doc_type new.contents)
    where
      by : (doc : Option DocType) → refusal_in (changes_of (unless_refused (first_row (typed_rows found wanted stamp new doc)) (made_of new stamp doc))) ≡ first_row (typed_rows found wanted stamp new doc)
      by None = refl
      by (Some doc) = refused_unless (first_row (typed_rows found wanted stamp new (Some doc))) (made_of new stamp (Some doc)) refl

  pub refusal_is : (units : ℕ) → refusal_in (changes_of (creation_of found units wanted over stamp new)) ≡ first_row (unit_row units limited_management ∷ create_rows found wanted over stamp new)
  refusal_is units = by (unit_row units limited_management)
    where
      by : (one : Row) → refusal_in (changes_of (unless_refused one (creation_by found wanted over stamp new (file_named new.name found.files)))) ≡ first_row (one ∷ create_rows found wanted over stamp new)
      by (Some diagnostic) = refl
      by None = refused_by (file_named new.name found.files)

  made_by : (there : Option File) → file_named new.name found.files ≡ there → refusal_in (changes_of (creation_by found wanted over stamp new there)) ≡ None
      → made_in (changes_of (creation_by found wanted over stamp new there)) ≡ file_changes found.files (created_where (made_unless there) new stamp found.files)
  made_by (Some file) is free = of (first_row (row (nat_eq over 0) name_exists ∷ selection_rows found wanted file))
    where
      of : (one : Row) → made_in (changes_of (unless_refused one Selected)) ≡ file_changes found.files found.files
      of (Some diagnostic) = sym (files_themselves found.files)
      of None = sym (files_themselves found.files)
  made_by None is free = by (doc_type new.contents) free
    where
      of : (doc : DocType) (one : Row) → refusal_in (changes_of (unless_refused one (made_of new stamp (Some doc)))) ≡ None
          → made_in (changes_of (unless_refused one (made_of new stamp (Some doc)))) ≡ file_changes found.files (created (Some doc) new stamp found.files)
      of doc (Some diagnostic) free = absurd cc
      of doc None free = sym (changes_added found.files (made new stamp doc)) ∙ sym (ap (file_changes found.files) (with_file-new (made new stamp doc) found.files is))

      by : (doc : Option DocType) → refusal_in (changes_of (unless_refused (first_row (typed_rows found wanted stamp new doc)) (made_of new stamp doc))) ≡ None
          → made_in (changes_of (unless_refused (first_row (typed_rows found wanted stamp new doc)) (made_of new stamp doc))) ≡ file_changes found.files (created doc new stamp found.files)
      by None free = absurd cc
      by (Some doc) free = of doc (first_row (typed_rows found wanted stamp new (Some doc))) free

  pub changes_are : (units : ℕ) → refusal_in (changes_of (creation_of found units wanted over stamp new)) ≡ None
      → made_in (changes_of (creation_of found units wanted over stamp new)) ≡ file_changes found.files (created_where (made_unless (file_named new.name found.files)) new stamp found.files)
  changes_are units free = by (unit_row units limited_management) free
    where
      by : (one : Row) → refusal_in (changes_of (unless_refused one (creation_by found wanted over stamp new (file_named new.name found.files)))) ≡ None
          → made_in (changes_of (unless_refused one (creation_by found wanted over stamp new (file_named new.name found.files)))) ≡ file_changes found.files (created_where (made_unless (file_named new.name found.files)) new stamp found.files)
      by (Some diagnostic) free = absurd cc
      by None free = made_by (file_named new.name found.files) refl free

-- the party is given back with what refuses it
pub gives_back : {New : Type 0} (after : Represents New) (tables : Tables) (old new : HoldersOfFiles) (state : State) (party : StandingParty) (setting : Setting) (message : Message)
    (self : Associated) (made : Result (List Change) Diagnostic) (given : Given) (error : StepError)
    → message_decision state party setting message ≡ granted_unless (refusal_in made) given → IsRefusedBy made error → IsAsBefore old new
    → MeetsStep after tables old new state party setting message (Err (self, error))
gives_back after tables old new state party setting message self made given (errors.Refused diagnostic) decides refused same =
    (decides ∙ ap (λ (one : Row). granted_unless one given) (ap refusal_in refused), same)
gives_back after tables old new state party setting message self made given errors.NoMemory decides refused same = same
