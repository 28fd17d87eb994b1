-- What octets tell was read: so was each message that it is to a party.
use Rattle.std.proofs.Common.{ℕ, Bool, true, false, ◌+◌, ◌-◌, ◌&&◌, nat_le, nat_lt, List, [], ◌∷◌, Option, None, Some}
use Rattle.std.specs.List.{AllByRecursion}
use Rattle.std.specs.Prelude.{if◌then◌else◌}
use Rattle.vf_elements.specs.declared.message.Message.TheVariants as messages
use Rattle.vf_filestore.specs.Diagnostics.{wrong_state}
use Rattle.vf_pdu.specs.declared.pdu.Pdu.{Pdu}
use Rattle.vf_pdu.specs.declared.pdu.Pdu.TheVariants.{RestartRequest}
use Rattle.vf_stack.specs.Ranges.{IsRead}
use Rattle.vf_stack.specs.declared.indication.FaultName.{FaultName}
use Rattle.vf_stack.specs.declared.indication.FaultName.TheVariants as names
use Rattle.vf_stack.specs.declared.indication.Indication.{Indication}
use Rattle.vf_stack.specs.declared.indication.Indication.TheVariants.{Associate, Accepted, Refused, Release, Released, Item, Check, Acknowledged, Restart, Restarted, Cancel, Cancelled, Abort, Fault}
use Rattle.vf_stack.specs.declared.indication.Item.TheVariants as items
use Rattle.vf_stack.specs.declared.indication.Layer.{Layer}
use Rattle.vf_stack.specs.declared.indication.Layer.TheVariants as layers
use Rattle.vf_responder.specs.Meanings as run
use Rattle.vf_responder.specs.Steps.{IsReadMeaning, IsReadTold}

read-acknowledged : (next : ℕ) (last : Option ℕ) (serial : ℕ) → IsReadMeaning (run.acknowledged next last serial)
read-acknowledged next None serial = tt
read-acknowledged next (Some last) serial = by (nat_lt serial next && nat_le next (last + serial + 1))
  where
    by : (b : Bool) → IsReadMeaning (if b then run.Takes (messages.Acknowledge ((last + serial + 1) - next)) else run.Faults wrong_state 0)
    by true = tt
    by false = tt

read-restarted : (next : ℕ) (last : Option ℕ) (serial : ℕ) (pdu : Pdu) → IsReadMeaning (run.restarted next last serial pdu)
read-restarted next last serial (RestartRequest point) = by (run.is_numbered_so next last serial point)
  where
    by : (b : Bool) → IsReadMeaning (if b then run.Takes (messages.Restart point) else run.Faults run.outside 0)
    by true = tt
    by false = tt
read-restarted next last serial pdu = tt

read-fault : (layer : Layer) (name : FaultName) (place : ℕ) → IsReadMeaning (run.fault_of layer name place)
read-fault layers.Transport names.Size place = tt
read-fault layers.Transport name place = tt
read-fault layers.Session names.State place = tt
read-fault layers.Session name place = tt
read-fault layers.Upper names.Context place = tt
read-fault layers.Upper name place = tt
read-fault layers.Ftam name place = tt

read-told : (indication : Indication) → IsRead indication → IsReadTold indication
read-told (Associate sync pdu) read next last = read
read-told (Accepted sync pdu) read next last = tt
read-told (Refused pdu) read next last = tt
read-told (Release pdu) read next last = read
read-told (Released pdu) read next last = tt
read-told (Item (items.Pdu pdu)) read next last = read
read-told (Item (items.Element element)) read next last = read
read-told (Check serial) read next last = tt
read-told (Acknowledged serial) read next last = read-acknowledged next last serial
read-told (Restart serial pdu) read next last = read-restarted next last serial pdu
read-told (Restarted serial pdu) read next last = tt
read-told (Cancel pdu) read next last = read
read-told (Cancelled pdu) read next last = tt
read-told (Abort pdu) read next last = tt
read-told (Fault layer name place) read next last = read-fault layer name place

pub all-read : (told : List Indication) → AllByRecursion IsRead told → AllByRecursion IsReadTold told
all-read [] read = tt
all-read (indication ∷ told) read = (read-told indication read.0, all-read told read.1)
