-- Which messages each stage takes from the initiator (ISO 8571-4, file service regimes; the stages are profile).
use Rattle.std.specs.Prelude.{ℕ, Bool, true, false, nat_eq, List, [], ◌∷◌}
use Rattle.std.specs.List.{list_any}
use Rattle.vf_pdu.specs.PduNumbers.{number_of}
use Rattle.vf_elements.specs.declared.message.Message.{Message}
use Rattle.vf_elements.specs.declared.message.Message.TheVariants as messages
use Rattle.vf_elements.specs.declared.stage.Stage.{Stage}
use Rattle.vf_elements.specs.declared.stage.Stage.TheVariants.{Idle, Associated, Selected, Opened, Writing, Written, Reading, Shown, Grouping}

-- what a message is: a PDU by the number of its tag (ISO 8571-4), or what isn't a PDU
pub data Kind : Type 0 where
  pdu : ℕ → Kind
  element : Kind
  check : Kind
  acknowledgement : Kind

abbrev pub is_same : Kind → Kind → Bool
is_same (pdu n) (pdu m) = nat_eq n m
is_same element element = true
is_same check check = true
is_same acknowledgement acknowledgement = true
is_same _ _ = false

abbrev pub initialize : Kind
initialize = pdu 0

abbrev pub terminate : Kind
terminate = pdu 2

abbrev pub select : Kind
select = pdu 6

abbrev pub deselect : Kind
deselect = pdu 8

abbrev pub create : Kind
create = pdu 10

abbrev pub delete : Kind
delete = pdu 12

abbrev pub read_attrib : Kind
read_attrib = pdu 14

abbrev pub change_attrib : Kind
change_attrib = pdu 16

abbrev pub open_file : Kind
open_file = pdu 18

abbrev pub close : Kind
close = pdu 20

abbrev pub begin_group : Kind
begin_group = pdu 22

abbrev pub end_group : Kind
end_group = pdu 24

abbrev pub recover : Kind
recover = pdu 26

abbrev pub locate : Kind
locate = pdu 28

abbrev pub erase : Kind
erase = pdu 30

abbrev pub read : Kind
read = pdu 32

abbrev pub write : Kind
write = pdu 33

abbrev pub data_end : Kind
data_end = pdu 34

abbrev pub transfer_end : Kind
transfer_end = pdu 35

abbrev pub cancel : Kind
cancel = pdu 37

abbrev pub restart : Kind
restart = pdu 39

-- the user's and the provider's abort
abbrev pub aborts : List Kind
aborts = pdu 4 ∷ pdu 5 ∷ []

-- what each stage takes; aborts at each but idle
abbrev pub listed : Stage → List Kind
listed Idle = initialize ∷ []
listed Associated = select ∷ create ∷ recover ∷ begin_group ∷ terminate ∷ aborts
listed Selected = deselect ∷ delete ∷ read_attrib ∷ change_attrib ∷ open_file ∷ begin_group ∷ aborts
listed Opened = close ∷ locate ∷ erase ∷ read ∷ write ∷ begin_group ∷ aborts
listed Writing = element ∷ check ∷ data_end ∷ cancel ∷ restart ∷ aborts
listed Written = transfer_end ∷ cancel ∷ restart ∷ aborts
listed Reading = acknowledgement ∷ cancel ∷ restart ∷ aborts
listed Shown = acknowledgement ∷ cancel ∷ restart ∷ transfer_end ∷ aborts
listed Grouping =
    select ∷ deselect ∷ create ∷ delete ∷ read_attrib ∷ change_attrib ∷ open_file ∷ close ∷ end_group ∷ aborts

abbrev pub lists : Stage → Kind → Bool
lists stage kind = list_any (is_same kind) (listed stage)

-- A restart counts as its request, also where the session carries it. A break comes at each stage.
abbrev pub takes : Stage → Message → Bool
takes stage (messages.Pdu p) = lists stage (pdu (number_of p))
takes stage (messages.Element e) = lists stage element
takes stage messages.Check = lists stage check
takes stage (messages.Acknowledge point) = lists stage acknowledgement
takes stage (messages.Restart point) = lists stage restart
takes stage messages.Break = true
