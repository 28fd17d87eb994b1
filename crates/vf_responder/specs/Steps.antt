-- What the parts of a responder owe, in the words of the run.
use Rattle.std.specs.Prelude.{◌≡◌, ℕ, Bool, List, [], ◌++◌, Option, None, Some}
use Rattle.vf_elements.specs.declared.message.Message.{Message}
use Rattle.vf_filestore.specs.Keeping.{AreHistoriesKept}
use Rattle.vf_filestore.specs.Ranges.{IsRead}
use Rattle.vf_filestore.specs.State.{State, StandingParty, party_of}
use Rattle.vf_party_steps.specs.Steps.{HoldersOfFiles, StandsIn}
use Rattle.vf_party.specs.Turns.{IsParty, IsTaken}
use Rattle.vf_party.specs.declared.party.Outcome.{Outcome}
use Rattle.vf_session.specs.declared.units.TokenSide.TheVariants.{Responder}
use Rattle.vf_stack.specs.Association.{Association}
use Rattle.vf_stack.specs.Represents as stack
use Rattle.vf_stack.specs.declared.indication.Indication.{Indication}
use Rattle.vf_tables.specs.declared.tables.Tables.{Tables}
use Rattle.vf_responder.specs.Answers.{Answer, answering, setting_at, speaking}
use Rattle.vf_responder.specs.Meanings as run
use Rattle.vf_responder.specs.Replies.{Outgoing, serial_of}
use Rattle.vf_responder.specs.Serving.{Serving}
use Rattle.vf_responder.specs.declared.event.Reply.{Reply}
use Rattle.vf_responder.specs.declared.link.Link.{Link}
use Rattle.vf_responder.specs.declared.meaning.Asked.{Asked}
use Rattle.vf_responder.specs.declared.meaning.Meaning.{Meaning}
use Rattle.vf_responder.specs.declared.meaning.Meaning.TheVariants as meanings

abbrev pub meant_by : Meaning → run.Meaning
meant_by (meanings.Takes message) = run.Takes message
meant_by (meanings.Faults number place) = run.Faults number place
meant_by meanings.Nothing = run.Nothing

-- what of an indication its answer needs
pub record IsAsked (asked : Asked) (indication : Indication) : Type 0 where
  pub sync : asked.sync ≡ run.sync_of indication
  pub serial : asked.serial ≡ serial_of indication

-- A message that an indication tells was read, whatever stands.
abbrev pub IsReadMeaning : run.Meaning → Type 0
IsReadMeaning (run.Takes message) = IsRead message
IsReadMeaning meant = Unit {0}

abbrev pub IsReadTold : Indication → Type 0
IsReadTold indication = (next : ℕ) (last : Option ℕ) → IsReadMeaning (run.meaning next last indication)

-- a called end of this association
pub record IsCalled (kept : stack.Kept) (association : Association) : Type 0 where
  pub called : stack.side_of kept ≡ Responder
  pub represents : stack.Represents kept association

-- what was sent was appended
pub record Sends (out : Outgoing) (old : List ℕ) (kept : stack.Kept) (new : List ℕ) : Type 0 where
  pub octets : new ≡ old ++ out.octets
  pub called : IsCalled kept out.association

-- so much is spoken on a link, which is shut after it or not
pub record IsSaid (number : ℕ) (out : Outgoing) (shut : Bool) (old : List Reply) (kept : stack.Kept) (new : List Reply) : Type 0 where
  pub spoken : new ≡ old ++ speaking number out.octets shut
  pub called : IsCalled kept out.association

-- a party of a link takes a message, in every state that may be kept so
abbrev pub TakesOn : Tables → (before after : HoldersOfFiles) → Link → (moment : ℕ) → Asked → Message → Outcome → Type 0
TakesOn tables old new link moment asked message outcome =
    (state : State) (party : StandingParty) (association : Association) (indication : Indication)
    → StandsIn tables old state party → AreHistoriesKept state → IsParty link.party party → IsCalled link.stack association → IsAsked asked indication
    → IsTaken tables new state party (setting_at moment association indication) message outcome

-- the answers to a message of a link's party that an indication brings
abbrev pub taking_by : (moment : ℕ) → Indication → Serving → Option StandingParty → Message → List Answer
taking_by moment indication serving None message = []
taking_by moment indication serving (Some party) message = answering moment indication serving party (run.Takes message)

abbrev pub taking : (moment link : ℕ) → Serving → Indication → Message → List Answer
taking moment link serving indication message = taking_by moment indication serving (party_of link serving.filestore.parties) message
