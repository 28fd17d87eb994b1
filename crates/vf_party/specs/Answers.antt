-- What code owes to a message on a link (profile): it says what the filestore says, changes what differs in what is kept,
-- and keeps who holds each file; and the party of the link goes on, or is gone.
use Rattle.std.specs.Prelude.{◌≡◌, ℕ, List, None, Some}
use Rattle.vf_elements.specs.declared.message.Said.{Said}
use Rattle.vf_filestore.specs.Changes.{delta}
use Rattle.vf_filestore.specs.Conclusion.{Answered}
use Rattle.vf_filestore.specs.HoldersAfter.{Keeps}
use Rattle.vf_filestore.specs.Stage.{pending}
use Rattle.vf_filestore.specs.State.{State, StandingParty, party_of}
use Rattle.vf_filestore.specs.Tables.{tables_of}
use Rattle.vf_party_steps.specs.Steps.{HoldersOfFiles, Represents}
use Rattle.vf_tables.specs.declared.change.Change.{Change}
use Rattle.vf_tables.specs.declared.tables.Tables.{Tables}

pub record IsAnswered (tables : Tables) (locks : HoldersOfFiles) (said : List Said) (changes : List Change) (answered : Answered) : Type 0 where
  pub says : said ≡ answered.said
  pub differs : changes ≡ delta tables (tables_of answered.state)
  pub held : Keeps locks answered.state

-- the party of the link stands in the state, outside of a group, and the typed state represents it
pub record GoesOn {S : Type 0} (represents : Represents S) (next : S) (link : ℕ) (state : State) : Type 0 where
  pub party : StandingParty
  pub stands : party_of link state.parties ≡ Some party
  pub represented : represents next party.link party.history
  pub alone : pending party.trace ≡ None
