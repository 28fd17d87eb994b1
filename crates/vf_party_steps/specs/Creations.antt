-- What changes in the tables where a creation isn't refused.
use Rattle.std.specs.Prelude.{◌≡◌, ℕ, List, [], ◌∷◌, Result, Ok, Err}
use Rattle.vf_base.specs.declared.diagnostic.Diagnostic.{Diagnostic}
use Rattle.vf_filestore.specs.declared.creation.NewFile.{NewFile}
use Rattle.vf_party_steps.specs.Steps.{HoldersOfFiles}
use Rattle.vf_party_steps.specs.declared.step.StepError.{StepError}
use Rattle.vf_party_steps.specs.declared.step.StepError.TheVariants as errors
use Rattle.vf_regime_refusals.specs.Asked.{found_in, stamp_by, wanted_of}
use Rattle.vf_regime_refusals.specs.Creating.{creation_of}
use Rattle.vf_regime_refusals.specs.declared.association.Association.{Association}
use Rattle.vf_regime_refusals.specs.declared.association.Selection.{Selection}
use Rattle.vf_regime_refusals.specs.declared.creating.Creation.{Creation}
use Rattle.vf_regime_refusals.specs.declared.creating.Creation.TheVariants.{Refused, Selected, Made}
use Rattle.vf_tables.specs.declared.change.Change.{Change}
use Rattle.vf_tables.specs.declared.change.Change.TheVariants.{PutFile}
use Rattle.vf_tables.specs.declared.tables.Tables.{Tables}

abbrev pub changes_of : Creation → Result (List Change) Diagnostic
changes_of (Refused diagnostic) = Err diagnostic
changes_of Selected = Ok []
changes_of (Made file) = Ok (PutFile file ∷ [])

-- what comes of a creation, by what code has of the state
abbrev pub creation_in : Tables → HoldersOfFiles → Association → Selection → (over moment : ℕ) → NewFile → Creation
creation_in tables locks association selection over moment new =
    creation_of (found_in tables.files locks) association.units (wanted_of association selection) over (stamp_by association moment) new

-- what refuses it, as an error; nothing is said of the want of memory
abbrev pub IsRefusedBy : Result (List Change) Diagnostic → StepError → Type 0
IsRefusedBy made (errors.Refused diagnostic) = made ≡ Err diagnostic
IsRefusedBy made errors.NoMemory = Unit {0}
