-- What an indication of the lower layers is to a party (ISO 8571-4; numbers of checks and of aborts are profile).
use Rattle.std.specs.Option.{option_map}
use Rattle.std.specs.Prelude.{ℕ, ◌+◌, ◌-◌, Bool, true, false, ◌&&◌, Some, None, Option, nat_eq, nat_le, nat_lt, if◌then◌else◌}
use Rattle.vf_elements.specs.declared.message.Message.{Message}
use Rattle.vf_elements.specs.declared.message.Message.TheVariants as messages
use Rattle.vf_filestore.specs.Diagnostics.{wrong_state, too_long}
use Rattle.vf_filestore.specs.History.{History}
use Rattle.vf_filestore.specs.Transfers.{Transfer, last_check, under_way}
use Rattle.vf_pdu.specs.declared.pdu.Pdu.{Pdu}
use Rattle.vf_pdu.specs.declared.pdu.Pdu.TheVariants.{RestartRequest}
use Rattle.vf_stack.specs.declared.indication.FaultName.{FaultName}
use Rattle.vf_stack.specs.declared.indication.FaultName.TheVariants as names
use Rattle.vf_stack.specs.declared.indication.Indication.{Indication}
use Rattle.vf_stack.specs.declared.indication.Indication.TheVariants.{Associate, Release, Item, Check, Acknowledged, Restart, Cancel, Fault}
use Rattle.vf_stack.specs.declared.indication.Item.{Item as ItemOf}
use Rattle.vf_stack.specs.declared.indication.Item.TheVariants as items
use Rattle.vf_stack.specs.declared.indication.Layer.{Layer}
use Rattle.vf_stack.specs.declared.indication.Layer.TheVariants as layers

-- A message, a fault that this abort answers, or nothing for the party itself: where receiving has ended, its association
-- breaks.
pub data Meaning : Type 0 where
  Takes : Message → Meaning
  Faults : (number place : ℕ) → Meaning
  Nothing : Meaning

-- the aborts of octets outside the grammar, and of a context that isn't accepted
abbrev pub outside : ℕ
outside = 101

abbrev pub wrong_context : ℕ
wrong_context = 103

-- FAULTS. One of transport other than of size shuts the link without a word. A place in an FTAM value is told.
abbrev pub fault_of : Layer → FaultName → (place : ℕ) → Meaning
fault_of layers.Transport names.Size place = Faults too_long 0
fault_of layers.Transport name place = Nothing
fault_of layers.Session names.State place = Faults wrong_state 0
fault_of layers.Upper names.Context place = Faults wrong_context 0
fault_of layers.Ftam name place = Faults outside place
fault_of layer name place = Faults outside 0

-- CHECKS of a transfer are numbered from 1. The next one, after the last that stands, has in the session the number `next`.
abbrev pub transfer_check : History → Option ℕ
transfer_check history = option_map (λ (transfer : Transfer). last_check history) (under_way history)

-- An acknowledgement of a number names the check of it, of those that were before `next`. One of an earlier transfer is at or
-- below 0; below 0 it is none of this transfer.
abbrev pub acknowledged : (next : ℕ) (last : Option ℕ) → (serial : ℕ) → Meaning
acknowledged next None serial = Faults wrong_state 0
acknowledged next (Some last) serial =
    if nat_lt serial next && nat_le next (last + serial + 1) then Takes (messages.Acknowledge ((last + serial + 1) - next)) else Faults wrong_state 0

-- The number of a restart is that of the check after its point. Without a transfer no stage takes it.
abbrev pub is_numbered_so : (next : ℕ) (last : Option ℕ) → (serial point : ℕ) → Bool
is_numbered_so next None serial point = true
is_numbered_so next (Some last) serial point = nat_eq (last + serial) (next + point)

abbrev pub restarted : (next : ℕ) (last : Option ℕ) → (serial : ℕ) → Pdu → Meaning
restarted next last serial (RestartRequest point) =
    if is_numbered_so next last serial point then Takes (messages.Restart point) else Faults outside 0
restarted next last serial pdu = Nothing

-- INDICATIONS, of those that a called end is told. An abort says nothing but that receiving has ended.
abbrev pub item_of : ItemOf → Message
item_of (items.Pdu pdu) = messages.Pdu pdu
item_of (items.Element element) = messages.Element element

abbrev pub meaning : (next : ℕ) (last : Option ℕ) → Indication → Meaning
meaning next last (Associate sync pdu) = Takes (messages.Pdu pdu)
meaning next last (Release pdu) = Takes (messages.Pdu pdu)
meaning next last (Item item) = Takes (item_of item)
meaning next last (Check serial) = Takes messages.Check
meaning next last (Acknowledged serial) = acknowledged next last serial
meaning next last (Restart serial pdu) = restarted next last serial pdu
meaning next last (Cancel pdu) = Takes (messages.Pdu pdu)
meaning next last (Fault layer name place) = fault_of layer name place
meaning next last indication = Nothing

-- whether an association request proposes sync; no other message asks
abbrev pub sync_of : Indication → Bool
sync_of (Associate sync pdu) = sync
sync_of indication = false
