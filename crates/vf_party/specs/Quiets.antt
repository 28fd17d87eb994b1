-- The regimes of a party in which no transfer is under way, as one type (ISO 8571-4, file service regimes).
use Rattle.std.specs.Prelude.{ℕ, Result, Ok, Err}
use Rattle.vf_elements.specs.declared.stage.Stage.{Stage}
use Rattle.vf_elements.specs.declared.stage.Stage.TheVariants as stages
use Rattle.vf_filestore.specs.History.{History}
use Rattle.vf_party_steps.specs.Represents.{IsAssociated, IsOpen, IsSelected}
use Rattle.vf_party.specs.declared.quiet.Quiet.{Quiet}
use Rattle.vf_party.specs.declared.quiet.Quiet.TheVariants as quiets
use Rattle.vf_party_steps.specs.declared.step.Step.{Step}
use Rattle.vf_party_steps.specs.declared.step.StepError.{StepError}

abbrev pub IsQuiet : Quiet → (link : ℕ) → History → Type 0
IsQuiet (quiets.Associated associated) link history = IsAssociated associated link history
IsQuiet (quiets.Selected selected) link history = IsSelected selected link history
IsQuiet (quiets.Open regimes) link history = IsOpen regimes link history

abbrev pub stage_of : Quiet → Stage
stage_of (quiets.Associated associated) = stages.Associated
stage_of (quiets.Selected selected) = stages.Selected
stage_of (quiets.Open regimes) = stages.Opened

-- what a step answers, with other types of its states
abbrev pub taken_as : {Old New S T : Type 0} → (Old → S) → (New → T) → Result (Step New) (Old × StepError) → Result (Step T) (S × StepError)
taken_as back next (Ok step) = Ok (record { state = next step.state; said = step.said; changes = step.changes })
taken_as back next (Err (state, error)) = Err (back state, error)
