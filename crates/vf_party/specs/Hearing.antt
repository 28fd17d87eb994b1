-- What came of a message that a party took in its place: where a party is left, it stands there.
use Rattle.std.specs.Prelude.{None, Some, Result, Ok, Err, if◌then◌else◌}
use Rattle.vf_base.specs.declared.errors.NoMemory.{NoMemory}
use Rattle.vf_party.specs.declared.hearing.Answered.{Answered}
use Rattle.vf_party.specs.declared.party.Outcome.{Outcome}
use Rattle.vf_party.specs.declared.party.Party.{Party}

-- the party that stands in the place is the one after the message, if one is left
abbrev pub outcome_in : Party → Answered → Outcome
outcome_in party heard = record { party = if heard.goes then Some party else None; said = heard.said; changes = heard.changes }

abbrev pub turn_in : Party → Result Answered NoMemory → Result Outcome (Party × NoMemory)
turn_in party (Ok heard) = Ok (outcome_in party heard)
turn_in party (Err error) = Err (party, error)
