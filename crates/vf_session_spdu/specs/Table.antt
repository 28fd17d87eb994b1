-- The parameters of each SPDU (ISO 8327, 8.3) that this profile reads and writes. A row has the group that the
-- parameter stands in (5 is the connect/accept item, 0 is none), its identifier, its form, and whether it is
-- required. The rows of an SPDU stand in the order in which they are written. Any other parameter is skipped.
--
-- What an absent one means: 16, no token passes; 23, the number 1 in CN and that of CN in AC; 26, the token stays
-- where it is; 193 and 194, no user data; nothing is lost with 17, 19 and 22.
use Rattle.std.specs.Prelude.{ℕ, Bool, true, false, ◌&&◌, ◌||◌, nat_eq, nat_le, List, [], ◌∷◌, length, slice_index, find, Option}
use Rattle.std.specs.List.{list_all, list_any}
use Rattle.vf_base.specs.declared.spdu_kind.SpduKind.{SpduKind}
use Rattle.vf_base.specs.declared.spdu_kind.SpduKind.TheVariants.{CN, AC, RF, FN, DN, AB, AA, DT, GT, MIP, MIA, RS, RA}
use Rattle.vf_session_spdu.specs.declared.limits.TheConstants.{MOST_CONNECT_OCTETS}
use Rattle.vf_session_spdu.specs.declared.table.Form.{Form}
use Rattle.vf_session_spdu.specs.declared.table.Form.TheVariants.{Fixed, Either, Octet, Pair, Digits, Reasoned, AtMost, UserData}
use Rattle.vf_session_spdu.specs.declared.table.Row.{Row}

abbrev pub optional : ℕ → Form → Row
optional code form = record { group = 0; code = code; form = form; required = false }

abbrev pub required : ℕ → Form → Row
required code form = record { group = 0; code = code; form = form; required = true }

abbrev pub in_item : ℕ → Form → Row
in_item code form = record { group = 5; code = code; form = form; required = false }

-- 19 protocol options, 22 version number, 23 initial serial number, 26 token setting item; 20 session user
-- requirements; 193 user data, 194 extended user data; 50 reason code; 17 transport disconnect; 16 token item;
-- 42 serial number; 27 resync type
abbrev pub rows : SpduKind → List Row
rows CN = in_item 19 (Fixed 0) ∷ in_item 22 (Fixed 2) ∷ in_item 23 Digits ∷ in_item 26 (Fixed 0) ∷ required 20 Pair ∷ optional 193 (AtMost 512) ∷ optional 194 (AtMost MOST_CONNECT_OCTETS) ∷ []
rows AC = in_item 19 (Fixed 0) ∷ in_item 22 (Fixed 2) ∷ in_item 23 Digits ∷ in_item 26 (Fixed 0) ∷ required 20 Pair ∷ optional 193 UserData ∷ []
rows RF = required 50 Reasoned ∷ []
rows FN = optional 193 UserData ∷ []
rows DN = optional 193 UserData ∷ []
rows AB = optional 17 Octet ∷ optional 193 UserData ∷ []
rows AA = []
rows DT = []
rows GT = optional 16 (Fixed 4) ∷ []
rows MIP = required 42 Digits ∷ []
rows MIA = required 42 Digits ∷ []
rows RS = optional 26 (Either 0 4) ∷ required 27 (Either 0 1) ∷ required 42 Digits ∷ optional 193 UserData ∷ []
rows RA = optional 26 (Either 0 4) ∷ required 42 Digits ∷ optional 193 UserData ∷ []

abbrev pub is_digit : ℕ → Bool
is_digit octet = nat_le 48 octet && nat_le octet 57

-- the value is of this form
abbrev pub fits : Form → List ℕ → Bool
fits (Fixed octet) value = nat_eq (length value) 1 && nat_eq (slice_index value 0) octet
fits (Either first second) value = nat_eq (length value) 1 && (nat_eq (slice_index value 0) first || nat_eq (slice_index value 0) second)
fits Octet value = nat_eq (length value) 1
fits Pair value = nat_eq (length value) 2
fits Digits value = nat_le 1 (length value) && nat_le (length value) 6 && list_all is_digit value
fits Reasoned value = nat_le 1 (length value)
fits (AtMost most) value = nat_le (length value) most
fits UserData value = true

-- the row of a parameter, if the SPDU has one for it
abbrev pub row_at : SpduKind → ℕ → ℕ → Option Row
row_at kind group code = find (λ row. nat_eq row.code code && nat_eq row.group group) (rows kind)

-- A group is opened where the SPDU has rows within it; any other parameter of that identifier is skipped unseen.
abbrev pub opens : SpduKind → ℕ → Bool
opens kind code = nat_eq code 5 && list_any (λ row. nat_eq row.group 5) (rows kind)
