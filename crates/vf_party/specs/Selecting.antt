-- A selection and its end, where nothing else stands (ISO 8571-3, F-SELECT, F-DESELECT).
use Rattle.std.specs.Prelude.{Bool, true, false}
use Rattle.vf_elements.specs.declared.message.Message.{Message}
use Rattle.vf_elements.specs.declared.message.Message.TheVariants as messages
use Rattle.vf_party.specs.declared.party.Party.{Party}
use Rattle.vf_party.specs.declared.party.Party.TheVariants as parties
use Rattle.vf_party.specs.declared.quiet.Quiet.TheVariants as quiets
use Rattle.vf_pdu.specs.declared.pdu.Pdu.TheVariants.{SelectRequest, DeselectRequest}

-- a party with an association and no selected file is asked for a selection
abbrev pub selects : Party → Message → Bool
selects (parties.Quiet (quiets.Associated associated)) (messages.Pdu (SelectRequest name requested controls password)) = true
selects _ _ = false

-- a party with a selected file that isn't open is asked to end the selection
abbrev pub deselects : Party → Message → Bool
deselects (parties.Quiet (quiets.Selected selected)) (messages.Pdu DeselectRequest) = true
deselects _ _ = false
