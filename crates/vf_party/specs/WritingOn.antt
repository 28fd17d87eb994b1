-- A write that goes on (ISO 8571-3, F-DATA).
use Rattle.std.specs.Prelude.{ℕ, Bool, false, ◌&&◌, is_none}
use Rattle.vf_elements.specs.Stages.{takes}
use Rattle.vf_elements.specs.declared.message.Message.{Message}
use Rattle.vf_elements.specs.declared.message.Message.TheVariants as messages
use Rattle.vf_filestore.specs.Aborts.{first_abort}
use Rattle.vf_party.specs.Aborting.{aborts_of_writing}
use Rattle.vf_party.specs.declared.party.Party.{Party}
use Rattle.vf_party.specs.declared.party.Party.TheVariants as parties
use Rattle.vf_party_steps.specs.Moving.{stage_of_writing}

-- a party that writes has sent an element, which its stage takes and which nothing aborts
abbrev pub writes_on : Party → (serial : ℕ) → Message → Bool
writes_on (parties.Writing writing) serial (messages.Element element) =
    takes (stage_of_writing writing) (messages.Element element) && is_none (first_abort (aborts_of_writing writing serial (messages.Element element)))
writes_on _ serial _ = false
