-- The lines that `replay` prints (profile).
use Rattle.std.specs.Prelude.{ℕ, nat_lt, List, [], ◌∷◌, ◌++◌, length, Option, None, Some, codes, decimal, if◌then◌else◌}
use Rattle.hex.specs.Hex.{encode_upper}
use Rattle.vf_base.specs.declared.element.Element.{Element}
use Rattle.vf_base.specs.declared.limits.TheConstants.{MOST_VALUE_OCTETS}
use Rattle.vf_ber.specs.Spelling.{spell}
use Rattle.vf_elements.specs.ElementValue.{value as element_value}
use Rattle.vf_pdu.specs.PduValue.{value}
use Rattle.vf_pdu.specs.declared.pdu.Pdu.{Pdu}
use Rattle.vf_stack.specs.declared.indication.Indication.{Indication}
use Rattle.vf_stack.specs.declared.indication.Indication.TheVariants.{Associate, Accepted, Refused, Release, Released, Item, Check, Acknowledged, Restart, Restarted, Cancel, Cancelled, Abort, Fault}
use Rattle.vf_stack.specs.declared.indication.Item.{Item as ItemOf}
use Rattle.vf_stack.specs.declared.indication.Item.TheVariants as items
use Rattle.vf_cli_printing.specs.Printed.{line_feed}
use Rattle.vf_cli_calling.specs.Bases.{check_of}
use Rattle.vf_cli_calling.specs.declared.base.Base.{Base}

-- a word and a link, and what stands after them
abbrev pub link_line : (word : List ℕ) → (link : ℕ) → List ℕ → List ℕ
link_line word link rest = word ++ (decimal link ++ (32 ∷ (rest ++ line_feed ∷ [])))

-- a message that a calling end hears, in its canonical spelling
abbrev pub reply_line : (link : ℕ) → List ℕ → List ℕ
reply_line link octets = link_line (codes "reply ") link (encode_upper octets)

-- octets on a link without a calling end; of none no line tells
abbrev pub octets_line : (link : ℕ) → List ℕ → List ℕ
octets_line link [] = []
octets_line link (octet ∷ octets) = link_line (codes "octets ") link (encode_upper (octet ∷ octets))

abbrev pub check_line : (link check : ℕ) → List ℕ
check_line link check = link_line (codes "check ") link (decimal check)

abbrev pub ack_line : (link check : ℕ) → List ℕ
ack_line link check = link_line (codes "ack ") link (decimal check)

abbrev pub shut_line : ℕ → List ℕ
shut_line link = codes "shut " ++ (decimal link ++ line_feed ∷ [])

-- how an incarnation ends before its last line
abbrev pub stopped_line : List ℕ
stopped_line = codes "stopped" ++ line_feed ∷ []

abbrev pub full_line : List ℕ
full_line = codes "full" ++ line_feed ∷ []

-- WHAT A CALLING END HEARS, in a transfer with this base. A message without a PDU has no line, and a fault has none.
abbrev pub pdu_line : ℕ → Pdu → List ℕ
pdu_line link pdu = reply_line link (spell (value pdu))

abbrev pub maybe_line : ℕ → Option Pdu → List ℕ
maybe_line link None = []
maybe_line link (Some pdu) = pdu_line link pdu

-- One that passes the limit of values has no line; none comes, since a TSDU has that limit.
abbrev pub element_line : ℕ → Element → List ℕ
element_line link element =
    let octets = spell (element_value element) in if nat_lt MOST_VALUE_OCTETS (length octets) then [] else reply_line link octets

abbrev pub item_line : ℕ → ItemOf → List ℕ
item_line link (items.Pdu pdu) = pdu_line link pdu
item_line link (items.Element element) = element_line link element

abbrev pub heard_line : ℕ → Base → Indication → List ℕ
heard_line link base (Item item) = item_line link item
heard_line link base (Check serial) = check_line link (check_of base serial)
heard_line link base (Acknowledged serial) = ack_line link (check_of base serial)
heard_line link base (Accepted sync pdu) = pdu_line link pdu
heard_line link base (Refused pdu) = maybe_line link pdu
heard_line link base (Released pdu) = pdu_line link pdu
heard_line link base (Restarted serial pdu) = pdu_line link pdu
heard_line link base (Cancelled pdu) = pdu_line link pdu
heard_line link base (Abort pdu) = maybe_line link pdu
heard_line link base (Associate sync pdu) = pdu_line link pdu
heard_line link base (Release pdu) = pdu_line link pdu
heard_line link base (Restart serial pdu) = pdu_line link pdu
heard_line link base (Cancel pdu) = pdu_line link pdu
heard_line link base (Fault layer name at) = []
