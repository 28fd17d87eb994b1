-- What a party in a group that isn't ended owes to a message (ISO 8571-3, grouping; profile).
use Rattle.std.specs.Prelude.{◌≡◌, ℕ, List, [], ◌∷◌, ◌++◌, Some, Result, Ok, Err}
use Rattle.vf_base.specs.declared.errors.NoMemory.{NoMemory}
use Rattle.vf_elements.specs.declared.message.Message.{Message}
use Rattle.vf_filestore.specs.Aborts.{Setting}
use Rattle.vf_filestore.specs.History.{History}
use Rattle.vf_filestore.specs.State.{State, StandingParty}
use Rattle.vf_party.specs.Quiets.{IsQuiet}
use Rattle.vf_party_steps.specs.Steps.{HoldersOfFiles, StandsIn}
use Rattle.vf_party.specs.Turns.{IsGrouped, IsTurnIn}
use Rattle.vf_party.specs.declared.party.Grouping.{Grouping}
use Rattle.vf_party.specs.declared.party.Outcome.{Outcome}
use Rattle.vf_party.specs.declared.party.Party.{Party}
use Rattle.vf_party.specs.declared.party.Party.TheVariants as parties
use Rattle.vf_party.specs.declared.quiet.Quiet.{Quiet}
use Rattle.vf_party_steps.specs.declared.step.Step.{Step}
use Rattle.vf_party_steps.specs.declared.step.StepError.{StepError}
use Rattle.vf_pdu.specs.declared.pdu.Pdu.{Pdu}
use Rattle.vf_tables.specs.declared.tables.Tables.{Tables}

-- which links and histories a group stands in
abbrev pub IsInGroup : Grouping → (link : ℕ) → History → Type 0
IsInGroup grouping link history = IsQuiet grouping.quiet link history

abbrev pub IsGroupTurn : Tables → (before after : HoldersOfFiles) → Grouping → Setting → Message → Result Outcome (Party × NoMemory) → Type 0
IsGroupTurn tables old new grouping setting message result =
    (state : State) (party : StandingParty) → StandsIn tables old state party → IsGrouped grouping party
    → IsTurnIn tables old new (parties.Grouping grouping) state party setting message result

-- a group has an item more: nothing is said
pub record HasItem (grouping : Grouping) (item : Pdu) (outcome : Outcome) : Type 0 where
  pub groups : outcome.party ≡ Some (parties.Grouping (record grouping { items = grouping.items ++ item ∷ [] }))
  pub says : outcome.said.items ≡ []
  pub differs : outcome.changes ≡ []

abbrev pub IsAdded : Grouping → (item : Pdu) → Result Outcome (Party × NoMemory) → Type 0
IsAdded grouping item (Ok outcome) = HasItem grouping item outcome
IsAdded grouping item (Err (back, error)) = back ≡ parties.Grouping grouping

-- the party goes on outside of the group
pub record GoesOnAs (step : Step Quiet) (outcome : Outcome) : Type 0 where
  pub goes_on : outcome.party ≡ Some (parties.Quiet step.state)
  pub says : outcome.said ≡ step.said
  pub differs : outcome.changes ≡ step.changes

-- what comes of the end of a group of these items, from what the end answers
abbrev pub EndsAs : (threshold : ℕ) → List Pdu → Result (Step Quiet) (Quiet × StepError) → Result Outcome (Party × NoMemory) → Type 0
EndsAs threshold items (Ok step) (Ok outcome) = GoesOnAs step outcome
EndsAs threshold items (Err (quiet, error)) (Err (back, memory)) = back ≡ parties.Grouping (record { quiet = quiet; threshold = threshold; items = items })
EndsAs threshold items _ _ = ⊥
