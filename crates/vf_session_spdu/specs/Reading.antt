-- The SPDUs of a TSDU (ISO 8327, 6.3.7 and 8.2): one alone, or a GT and what follows it.
use Rattle.std.specs.Prelude.{ℕ, ◌+◌, Bool, true, false, if◌then◌else◌, List, [], ◌∷◌, length, Option, None, Some, Result, Ok, Err}
use Rattle.vf_base.specs.declared.spdu_kind.SpduKind.{SpduKind}
use Rattle.vf_base.specs.declared.spdu_kind.SpduKind.TheVariants.{DT, GT}
use Rattle.vf_session_spdu.specs.declared.errors.SpduError.{SpduError}
use Rattle.vf_session_spdu.specs.declared.errors.SpduError.TheVariants.{Code, Length, Missing, Value, NoMemory}
use Rattle.vf_session_spdu.specs.declared.spdu.Spdu.{Spdu}
use Rattle.vf_session_spdu.specs.Fields.{◌>>=◌, bare, with_octets, with_parts, complete}
use Rattle.vf_session_spdu.specs.Kinds.{first_kind, second_kind}
use Rattle.vf_session_spdu.specs.Parts.{Measured, short, whole, measured, parts}

-- An SPDU, and the octets after it with the place of the first.
pub record Followed : Type 0 where
  pub spdu : Spdu
  pub place : ℕ
  pub more : List ℕ

-- an SPDU by its parameters, which begin at this place
abbrev pub assembled : SpduKind → ℕ → List ℕ → Result Spdu SpduError
assembled kind place value = with_parts (bare kind) (parts kind place value) >>= complete

abbrev pub is_dt : SpduKind → Bool
is_dt DT = true
is_dt kind = false

abbrev pub is_gt : SpduKind → Bool
is_gt GT = true
is_gt kind = false

-- The data of a DT is all that follows its parameters.
abbrev pub followed : SpduKind → Spdu → ℕ → List ℕ → Followed
followed kind spdu place more =
    if is_dt kind then record { spdu = with_octets spdu more; place = place; more = [] }
    else record { spdu = spdu; place = place; more = more }

abbrev pub one_by : SpduKind → ℕ → Measured → Result Followed SpduError
one_by kind place short = Err (Length (place + 1))
one_by kind place (whole spelled value more) =
    assembled kind (place + 1 + spelled) value >>= λ spdu. Ok (followed kind spdu (place + 1 + spelled + length value) more)

-- the SPDU whose identifier stands at this place, by the octets after it
abbrev pub one : SpduKind → ℕ → List ℕ → Result Followed SpduError
one kind place octets = one_by kind place (measured octets)

-- No octets may stand after the last SPDU.
abbrev pub nothing_after : ℕ → List ℕ → List Spdu → Result (List Spdu) SpduError
nothing_after place [] spdus = Ok spdus
nothing_after place (octet ∷ more) spdus = Err (Length place)

abbrev pub second_by : Spdu → ℕ → Option SpduKind → List ℕ → Result (List Spdu) SpduError
second_by gt place None octets = Err (Code place)
second_by gt place (Some kind) octets = one kind place octets >>= λ x. nothing_after x.place x.more (gt ∷ x.spdu ∷ [])

abbrev pub second : Spdu → ℕ → List ℕ → Result (List Spdu) SpduError
second gt place [] = Ok (gt ∷ [])
second gt place (code ∷ octets) = second_by gt place (second_kind code) octets

abbrev pub follows : SpduKind → Followed → Result (List Spdu) SpduError
follows kind x = if is_gt kind then second x.spdu x.place x.more else nothing_after x.place x.more (x.spdu ∷ [])

abbrev pub first_by : Option SpduKind → List ℕ → Result (List Spdu) SpduError
first_by None octets = Err (Code 0)
first_by (Some kind) octets = one kind 0 octets >>= follows kind

abbrev pub reading : List ℕ → Result (List Spdu) SpduError
reading [] = Err (Code 0)
reading (code ∷ octets) = first_by (first_kind code) octets

-- Where the second SPDU of a TSDU begins: after the GT.
abbrev pub place_after : Measured → ℕ
place_after short = 0
place_after (whole spelled value more) = 1 + spelled + length value

abbrev pub place_after_gt : List ℕ → ℕ
place_after_gt [] = 0
place_after_gt (code ∷ octets) = place_after (measured octets)

-- Where the fault of a TSDU stands: at its own place, or at the first octet of the SPDU that lacks a parameter or has a
-- wrong one, which is the second SPDU where the first has no fault.
abbrev pub is_good : {A : Type 0} → Result A SpduError → Bool
is_good (Ok x) = true
is_good (Err fault) = false

abbrev pub first_is_good : Option SpduKind → List ℕ → Bool
first_is_good None octets = false
first_is_good (Some kind) octets = is_good (one kind 0 octets)

abbrev pub faulty_place : List ℕ → ℕ
faulty_place [] = 0
faulty_place (code ∷ octets) = if first_is_good (first_kind code) octets then place_after_gt (code ∷ octets) else 0

abbrev pub fault_place : List ℕ → SpduError → ℕ
fault_place tsdu (Code at) = at
fault_place tsdu (Length at) = at
fault_place tsdu (Missing code) = faulty_place tsdu
fault_place tsdu (Value code) = faulty_place tsdu
fault_place tsdu NoMemory = 0
