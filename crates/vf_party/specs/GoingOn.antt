-- What code keeps of a party that goes on from one message to the next.
use Rattle.std.specs.Prelude.{◌≡◌, ℕ}
use Rattle.vf_filestore.specs.Keeping.{AreHistoriesKept}
use Rattle.vf_filestore.specs.State.{State, StandingParty}
use Rattle.vf_party_steps.specs.Steps.{HoldersOfFiles, StandsIn}
use Rattle.vf_party.specs.Turns.{IsParty}
use Rattle.vf_party.specs.declared.party.Party.{Party}
use Rattle.vf_tables.specs.declared.tables.Tables.{Tables}

-- a sound state with kept histories, of which code has these tables and locks, in which a party stands on the link that
-- this one represents
pub record StandsAs (tables : Tables) (locks : HoldersOfFiles) (state : State) (link : ℕ) (party : Party) : Type 0 where
  pub standing : StandingParty
  pub linked : standing.link ≡ link
  pub represented : IsParty party standing
  pub stands : StandsIn tables locks state standing
  pub histories : AreHistoriesKept state
