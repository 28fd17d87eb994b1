-- How an SPDU is written: the parameters of its rows that it has, in their order, those of the connect/accept item
-- within it and before it.
use Rattle.std.specs.Prelude.{ℕ, ◌/◌, ◌%◌, ◌≤◌, ◌≡◌, ◌⊎◌, nat_eq, nat_lt, List, [], ◌∷◌, ◌++◌, length, filter, Option, None, Some, if◌then◌else◌, Ok}
use Rattle.std.specs.List.{flat_map}
use Rattle.std.specs.Option.{option_map}
use Rattle.vf_base.specs.declared.spdu_kind.SpduKind.{SpduKind}
use Rattle.vf_base.specs.declared.spdu_kind.SpduKind.TheVariants.{CN, AC, RF, FN, DN, AB, AA, DT, GT, MIP, MIA, RS, RA}
use Rattle.vf_session_spdu.specs.declared.spdu.Spdu.{Spdu}
use Rattle.vf_session_spdu.specs.declared.limits.TheConstants.{MOST_CONNECT_OCTETS, MOST_PARAMETER_OCTETS}
use Rattle.vf_session_spdu.specs.declared.spdu.SpduFields.{SpduFields}
use Rattle.vf_session_spdu.specs.declared.table.Row.{Row}
use Rattle.vf_session_spdu.specs.Fields.{no_fields}
use Rattle.vf_session_spdu.specs.Kinds.{code_of, first_kind, second_kind}
use Rattle.vf_session_spdu.specs.Numbers.{length_octets, digits, last_serial}
use Rattle.vf_session_spdu.specs.Reading.{reading}
use Rattle.vf_session_spdu.specs.Table.{rows, opens, fits}

-- a parameter, also a group: identifier, length, value
abbrev pub spelled : ℕ → List ℕ → List ℕ
spelled code value = code ∷ (length_octets (length value) ++ value)

abbrev pub octet : ℕ → List ℕ
octet n = n ∷ []

abbrev pub two_octets : ℕ → List ℕ
two_octets n = (n / 256) ∷ (n % 256) ∷ []

-- User data is written in the first row that has room for it, and not where there is none.
abbrev pub first_data : Row → List ℕ → Option (List ℕ)
first_data row octets = if nat_eq (length octets) 0 then None else (if fits row.form octets then Some octets else None)

abbrev pub second_data : List ℕ → Option (List ℕ)
second_data octets = if nat_lt 512 (length octets) then Some octets else None

abbrev pub reasoned : List ℕ → ℕ → List ℕ
reasoned octets reason = reason ∷ octets

-- what is written in a row
abbrev pub value_of : Spdu → Row → Option (List ℕ)
value_of spdu row =
    if nat_eq row.code 16 then option_map octet spdu.fields.given
    else if nat_eq row.code 17 then option_map octet spdu.fields.abort
    else if nat_eq row.code 19 then Some (0 ∷ [])
    else if nat_eq row.code 20 then option_map two_octets spdu.fields.units
    else if nat_eq row.code 22 then Some (2 ∷ [])
    else if nat_eq row.code 23 then option_map digits spdu.fields.first
    else if nat_eq row.code 26 then option_map octet spdu.fields.tokens
    else if nat_eq row.code 27 then option_map octet spdu.fields.resync
    else if nat_eq row.code 42 then option_map digits spdu.fields.serial
    else if nat_eq row.code 50 then option_map (reasoned spdu.octets) spdu.fields.reason
    else if nat_eq row.code 193 then first_data row spdu.octets
    else if nat_eq row.code 194 then second_data spdu.octets
    else None

abbrev pub spelled_if : ℕ → Option (List ℕ) → List ℕ
spelled_if code None = []
spelled_if code (Some value) = spelled code value

abbrev pub spelled_row : Spdu → Row → List ℕ
spelled_row spdu row = spelled_if row.code (value_of spdu row)

-- the rows of one group, 0 for those in none
abbrev pub spelled_group : Spdu → ℕ → List ℕ
spelled_group spdu group = flat_map (spelled_row spdu) (filter (λ row. nat_eq row.group group) (rows spdu.kind))

abbrev pub item : Spdu → List ℕ
item spdu = if opens spdu.kind 5 then spelled 5 (spelled_group spdu 5) else []

abbrev pub spelled_parameters : Spdu → List ℕ
spelled_parameters spdu = item spdu ++ spelled_group spdu 0

-- The data of a DT stands after its parameters.
abbrev pub octets_after : Spdu → SpduKind → List ℕ
octets_after spdu DT = spdu.octets
octets_after spdu kind = []

-- what stands before it: identifier, length and parameters
abbrev pub heading : Spdu → List ℕ
heading spdu = spelled (code_of spdu.kind) (spelled_parameters spdu)

abbrev pub spelling : Spdu → List ℕ
spelling spdu = heading spdu ++ octets_after spdu spdu.kind

-- The fields that an SPDU is written with. A proposal or an agreement of sync (0028, with duplex 002A) has the
-- first serial number, and a token setting; without sync there is duplex alone (0002).
abbrev pub HasUnits : SpduFields → Type 0
HasUnits fields =
    (fields ≡ record no_fields { units = Some 2 })
    ⊎ ((n : ℕ) × (n ≤ last_serial) × (fields ≡ record no_fields { units = Some 42; first = Some n; tokens = Some 0 }))

abbrev pub HasSerial : SpduFields → List ℕ → Type 0
HasSerial fields octets = (n : ℕ) × (n ≤ last_serial) × (fields ≡ record no_fields { serial = Some n }) × (octets ≡ [])

-- The reason 2 goes before user data, and 0 stands alone.
abbrev pub HasReason : SpduFields → List ℕ → Type 0
HasReason fields octets =
    ((fields ≡ record no_fields { reason = Some 2 }) × (1 ≤ length octets))
    ⊎ ((fields ≡ record no_fields { reason = Some 0 }) × (octets ≡ []))

-- An abort by the user goes with user data, and one by the provider without.
abbrev pub HasAbort : SpduFields → List ℕ → Type 0
HasAbort fields octets =
    ((fields ≡ record no_fields { abort = Some 3 }) × (1 ≤ length octets))
    ⊎ ((fields ≡ record no_fields { abort = Some 5 }) × (octets ≡ []))

abbrev pub HasToken : SpduFields → Type 0
HasToken fields = (fields ≡ no_fields) ⊎ (fields ≡ record no_fields { given = Some 4 })

abbrev pub IsSide : ℕ → Type 0
IsSide t = (t ≡ 0) ⊎ (t ≡ 4)

abbrev pub HasResync : SpduFields → Type 0
HasResync fields =
    (t r n : ℕ) × IsSide t × (r ≤ 1) × (n ≤ last_serial)
    × (fields ≡ record no_fields { tokens = Some t; resync = Some r; serial = Some n })

abbrev pub HasResynced : SpduFields → Type 0
HasResynced fields =
    (t n : ℕ) × IsSide t × (n ≤ last_serial) × (fields ≡ record no_fields { tokens = Some t; serial = Some n })

abbrev pub HasFields : SpduKind → SpduFields → List ℕ → Type 0
HasFields CN fields octets = HasUnits fields × (length octets ≤ MOST_CONNECT_OCTETS)
HasFields AC fields octets = HasUnits fields
HasFields RF fields octets = HasReason fields octets
HasFields FN fields octets = fields ≡ no_fields
HasFields DN fields octets = fields ≡ no_fields
HasFields AB fields octets = HasAbort fields octets
HasFields AA fields octets = (fields ≡ no_fields) × (octets ≡ [])
HasFields DT fields octets = fields ≡ no_fields
HasFields GT fields octets = HasToken fields × (octets ≡ [])
HasFields MIP fields octets = HasSerial fields octets
HasFields MIA fields octets = HasSerial fields octets
HasFields RS fields octets = HasResync fields
HasFields RA fields octets = HasResynced fields

-- an SPDU that has a spelling to write
pub record IsWritten (spdu : Spdu) : Type 0 where
  pub has_fields : HasFields spdu.kind spdu.fields spdu.octets
  pub room : length (spelled_parameters spdu) ≤ MOST_PARAMETER_OCTETS

-- Whoever reads what was written reads what is written, alone or after a GT.
abbrev pub ReadsAlone : Spdu → Type 0
ReadsAlone spdu = IsWritten spdu → first_kind (code_of spdu.kind) ≡ Some spdu.kind → reading (spelling spdu) ≡ Ok (spdu ∷ [])

abbrev pub ReadsAfter : Spdu → Spdu → Type 0
ReadsAfter gt spdu =
    IsWritten gt → gt.kind ≡ GT → IsWritten spdu → second_kind (code_of spdu.kind) ≡ Some spdu.kind
    → reading (spelling gt ++ spelling spdu) ≡ Ok (gt ∷ spdu ∷ [])
