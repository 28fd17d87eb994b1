-- One TPDU of transport class 0 (ISO 8073, 13), as its octets from the length octet on: what is wrong with it,
-- and what it tells. A packet has one of at least three octets.
use Rattle.std.specs.Prelude.{ℕ, ◌+◌, ◌-◌, ◌/◌, ◌%◌, ◌^◌, Bool, true, false, ◌&&◌, ◌||◌, nat_eq, nat_lt, nat_le, min, List, [], ◌∷◌, length, drop, slice_index, Option, None, Some, is_some, if◌then◌else◌}
use Rattle.std.specs.List.{list_any}
use Rattle.vf_tpkt.specs.declared.kind.Kind.{Kind}
use Rattle.vf_tpkt.specs.declared.kind.Kind.TheVariants.{Cr, Cc, Dr, Er, Dt}
use Rattle.vf_tpkt.specs.declared.phase.Side.{Side}
use Rattle.vf_tpkt.specs.declared.phase.Side.TheVariants.{Calling, Called}
use Rattle.vf_tpkt.specs.declared.phase.Phase.{Phase}
use Rattle.vf_tpkt.specs.declared.phase.Phase.TheVariants.{First, Open, Over}
use Rattle.vf_tpkt.specs.Parameters.{sizes, last, is_small}

-- the kinds by their codes
abbrev pub kind_of : ℕ → Option Kind
kind_of code =
    if nat_eq code 224 then Some Cr
    else if nat_eq code 208 then Some Cc
    else if nat_eq code 128 then Some Dr
    else if nat_eq code 112 then Some Er
    else if nat_eq code 240 then Some Dt
    else None

-- Which kind may come: a CR first at the called end, a CC first at the calling end, and then DT, DR and ER
-- up to a DR or ER.
abbrev pub may_be_first : Side → Kind → Bool
may_be_first Called Cr = true
may_be_first Calling Cc = true
may_be_first side kind = false

abbrev pub may_follow : Kind → Bool
may_follow Dt = true
may_follow Dr = true
may_follow Er = true
may_follow kind = false

abbrev pub may_come : Side → Phase → Kind → Bool
may_come side First kind = may_be_first side kind
may_come side (Open most) kind = may_follow kind
may_come side Over kind = false

-- The length octet of a CR or CC counts the octets after it, at least six, and its parameters are whole.
abbrev pub is_counted : List ℕ → Bool
is_counted tpdu =
    nat_le 6 (slice_index tpdu 0) && nat_eq (slice_index tpdu 0) (length tpdu - 1) && is_some (sizes (drop 7 tpdu))

-- A DT has two octets after its length octet, and then data, which it may lack only at the end of a TSDU.
abbrev pub has_data_length : List ℕ → Bool
has_data_length tpdu = nat_eq (slice_index tpdu 0) 2 && (nat_lt 3 (length tpdu) || nat_eq (slice_index tpdu 2) 128)

-- its lengths are right; those of DR and ER aren't looked at
abbrev pub has_lengths : Kind → List ℕ → Bool
has_lengths Cr tpdu = is_counted tpdu
has_lengths Cc tpdu = is_counted tpdu
has_lengths Dt tpdu = has_data_length tpdu
has_lengths kind tpdu = true

-- the references of a CR or CC begin so, and its class octet is 00
abbrev pub has_reference : ℕ → List ℕ → Bool
has_reference low tpdu = nat_eq (slice_index tpdu 2) 0 && nat_eq (slice_index tpdu 3) low && nat_eq (slice_index tpdu 6) 0

-- no size that it proposes is below 128 octets
abbrev pub proposes_no_small : Option (List ℕ) → Bool
proposes_no_small None = true
proposes_no_small (Some sizes) = if list_any is_small sizes then false else true

-- its fixed octets are right: the first reference of a CR is 0, and of a CC this project's reference, 1
abbrev pub has_fixed : Kind → List ℕ → Bool
has_fixed Cr tpdu = has_reference 0 tpdu && proposes_no_small (sizes (drop 7 tpdu))
has_fixed Cc tpdu = has_reference 1 tpdu
has_fixed Dt tpdu = nat_eq (slice_index tpdu 2) 128 || nat_eq (slice_index tpdu 2) 0
has_fixed kind tpdu = true

-- the data of a DT, and whether it is the last of its TSDU
abbrev pub data_of : List ℕ → List ℕ
data_of tpdu = drop 3 tpdu

abbrev pub is_last : List ℕ → Bool
is_last tpdu = nat_eq (slice_index tpdu 2) 128

-- The exponent that a CR proposes, if any.
abbrev pub last_of : Option (List ℕ) → Option ℕ
last_of None = None
last_of (Some sizes) = last sizes

abbrev pub proposal : List ℕ → Option ℕ
proposal tpdu = last_of (sizes (drop 7 tpdu))

-- Class 0 has TPDUs of at most 2,048 octets by this parameter, and of at most 65,531 without it (ISO 8073,
-- 13.3.4; RFC 1006, 3). Three octets of a DT are no data.
abbrev pub answered : ℕ → ℕ
answered exponent = min exponent 11

abbrev pub data_size : Option ℕ → ℕ
data_size None = 65528
data_size (Some exponent) = 2 ^ answered exponent - 3

-- A TPDU in its packet (RFC 1006, 6): version 3, a reserved octet, and a length that counts itself.
abbrev pub packet : List ℕ → List ℕ
packet tpdu =
    let size = length tpdu + 4 in
    3 ∷ 0 ∷ (size / 256) ∷ (size % 256) ∷ tpdu

-- The CR that the calling end sends: references 0 and 1, class 0, no parameter.
abbrev pub request : List ℕ
request = 6 ∷ 224 ∷ 0 ∷ 0 ∷ 0 ∷ 1 ∷ 0 ∷ []

-- The CC that answers a CR: the reference that it gave, the reference 1, class 0, and the size where one was proposed.
abbrev pub confirm : ℕ → ℕ → Option ℕ → List ℕ
confirm high low None = 6 ∷ 208 ∷ high ∷ low ∷ 0 ∷ 1 ∷ 0 ∷ []
confirm high low (Some exponent) = 9 ∷ 208 ∷ high ∷ low ∷ 0 ∷ 1 ∷ 0 ∷ 192 ∷ 1 ∷ answered exponent ∷ []

abbrev pub answer_of : Kind → List ℕ → List ℕ
answer_of Cr tpdu = packet (confirm (slice_index tpdu 4) (slice_index tpdu 5) (proposal tpdu))
answer_of kind tpdu = []
