-- What was read of an indication that octets tell: its PDU and its element have each field in its range, so that they can be
-- written, and its serial number has six digits (ISO 8571-4; ISO 8327, 8.3).
use Rattle.std.specs.Prelude.{◌≤◌, ℕ, List, Option, None, Some}
use Rattle.std.specs.List.{AllByRecursion}
use Rattle.vf_elements.specs.ElementValue.{IsWritable}
use Rattle.vf_pdu.specs.PduMeaning.{IsInRange}
use Rattle.vf_pdu.specs.declared.pdu.Pdu.{Pdu}
use Rattle.vf_session.specs.declared.units.TokenSide.{TokenSide}
use Rattle.vf_session_spdu.specs.Numbers.{last_serial}
use Rattle.vf_stack.specs.Association.{Association}
use Rattle.vf_stack.specs.Receiving.{octets_received, piece_received}
use Rattle.vf_stack.specs.declared.indication.Indication.{Indication}
use Rattle.vf_stack.specs.declared.indication.Indication.TheVariants.{Associate, Accepted, Refused, Release, Released, Item, Check, Acknowledged, Restart, Restarted, Cancel, Cancelled, Abort, Fault}
use Rattle.vf_stack.specs.declared.indication.Item.{Item as ItemOf}
use Rattle.vf_stack.specs.declared.indication.Item.TheVariants as items

abbrev pub IsReadItem : ItemOf → Type 0
IsReadItem (items.Pdu pdu) = IsInRange pdu
IsReadItem (items.Element element) = IsWritable element

abbrev pub IsReadMaybe : Option Pdu → Type 0
IsReadMaybe None = Unit {0}
IsReadMaybe (Some pdu) = IsInRange pdu

abbrev pub IsSerial : ℕ → Type 0
IsSerial serial = serial ≤ last_serial

abbrev pub IsRead : Indication → Type 0
IsRead (Associate sync pdu) = IsInRange pdu
IsRead (Accepted sync pdu) = IsInRange pdu
IsRead (Refused pdu) = IsReadMaybe pdu
IsRead (Release pdu) = IsInRange pdu
IsRead (Released pdu) = IsInRange pdu
IsRead (Item item) = IsReadItem item
IsRead (Check serial) = IsSerial serial
IsRead (Acknowledged serial) = IsSerial serial
IsRead (Restart serial pdu) = IsSerial serial × IsInRange pdu
IsRead (Restarted serial pdu) = IsSerial serial × IsInRange pdu
IsRead (Cancel pdu) = IsInRange pdu
IsRead (Cancelled pdu) = IsInRange pdu
IsRead (Abort pdu) = IsReadMaybe pdu
IsRead (Fault layer name at) = Unit {0}

abbrev pub AreRead : List Indication → Type 0
AreRead = AllByRecursion IsRead

-- WHAT IS TOLD WAS READ, of octets one by one and of a piece.
abbrev pub TellsRead : TokenSide → Association → List ℕ → Type 0
TellsRead own a octets = AreRead (octets_received own a octets).indications × AreRead (piece_received own a octets).indications
