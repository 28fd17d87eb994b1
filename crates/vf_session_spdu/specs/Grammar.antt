-- Which octets are the SPDUs of a TSDU (ISO 8327, 6.3.7 and 8.2): each is an identifier, a length indicator and its
-- parameters, one after the other, and after those of a DT stands its data. What the parameters mean goes by the table.
use Rattle.std.specs.Prelude.{ℕ, ◌+◌, ◌*◌, ◌<◌, ◌≡◌, ◌⊎◌, Bool, true, false, nat_eq, List, [], ◌∷◌, ◌++◌, length, slice_index, Option, Some, None, unwrap_or, if◌then◌else◌}
use Rattle.std.specs.List.{AllByRecursion, list_any, filter_map, flat_map, last_or}
use Rattle.vf_base.specs.declared.spdu_kind.SpduKind.{SpduKind}
use Rattle.vf_base.specs.declared.spdu_kind.SpduKind.TheVariants.{DT, GT, MIP, MIA, RS, RA}
use Rattle.vf_session_spdu.specs.declared.spdu.Spdu.{Spdu}
use Rattle.vf_session_spdu.specs.declared.spdu.SpduFields.{SpduFields}
use Rattle.vf_session_spdu.specs.declared.table.Row.{Row}
use Rattle.vf_session_spdu.specs.Fields.{data_after_reason}
use Rattle.vf_session_spdu.specs.Kinds.{code_of}
use Rattle.vf_session_spdu.specs.Numbers.{number}
use Rattle.vf_session_spdu.specs.Table.{rows, row_at, fits, opens}

-- ---- octets

abbrev pub AreOctets : List ℕ → Type 0
AreOctets octets = AllByRecursion (λ n. n < 256) octets

-- a length indicator: one octet up to 254, or FF and two octets, the higher first
abbrev pub IsLength : ℕ → List ℕ → Type 0
IsLength count octets =
    ((count < 255) × (octets ≡ count ∷ []))
    ⊎ ((high low : ℕ) × (high < 256) × (low < 256) × (count ≡ high * 256 + low) × (octets ≡ 255 ∷ high ∷ low ∷ []))

-- identifier, length indicator and contents: an SPDU without its data, a group, or a parameter
abbrev pub IsUnit : ℕ → List ℕ → List ℕ → Type 0
IsUnit code contents octets = (indicator : List ℕ) × IsLength (length contents) indicator × (octets ≡ code ∷ (indicator ++ contents))

-- the spellings of several, one after the other
abbrev pub AreConcatenated : {A : Type 0} → (A → List ℕ → Type 0) → List A → List ℕ → Type 0
AreConcatenated spells [] octets = octets ≡ []
AreConcatenated spells (x ∷ xs) octets = (head rest : List ℕ) × spells x head × AreConcatenated spells xs rest × (octets ≡ head ++ rest)

pub record Parameter : Type 0 where
  pub code : ℕ
  pub value : List ℕ

abbrev pub SpellsParameter : Parameter → List ℕ → Type 0
SpellsParameter p octets = IsUnit p.code p.value octets

-- What stands in an SPDU: a parameter, or a group with parameters in it.
pub data Element : Type 0 where
  single : Parameter → Element
  group : (code : ℕ) (inside : List Parameter) → Element

abbrev pub SpellsElement : Element → List ℕ → Type 0
SpellsElement (single p) octets = SpellsParameter p octets
SpellsElement (group code inside) octets = (contents : List ℕ) × AreConcatenated SpellsParameter inside contents × IsUnit code contents octets

-- The groups are those that the SPDU has rows for; whatever else bears the identifier of a group is a parameter.
abbrev pub StandsIn : SpduKind → Element → Type 0
StandsIn kind (single p) = opens kind p.code ≡ false
StandsIn kind (group code inside) = opens kind code ≡ true

-- ---- what the parameters mean

-- A parameter with its row; one that the SPDU has no row for is skipped.
pub record Filled : Type 0 where
  pub row : Row
  pub value : List ℕ

abbrev pub filled_with : List ℕ → Option Row → List Filled
filled_with value None = []
filled_with value (Some row) = record { row = row; value = value } ∷ []

abbrev pub filled_by : SpduKind → ℕ → Parameter → List Filled
filled_by kind holder p = filled_with p.value (row_at kind holder p.code)

abbrev pub filled_in : SpduKind → Element → List Filled
filled_in kind (single p) = filled_by kind 0 p
filled_in kind (group code inside) = flat_map (filled_by kind code) inside

abbrev pub filled : SpduKind → List Element → List Filled
filled kind elements = flat_map (filled_in kind) elements

-- each is of the form that its row asks for
abbrev pub IsOfForm : Filled → Type 0
IsOfForm x = fits x.row.form x.value ≡ true

-- each row that is required is filled
abbrev pub is_of : ℕ → Filled → Bool
is_of code x = nat_eq x.row.code code

abbrev pub IsThere : List Filled → Row → Type 0
IsThere xs row = row.required ≡ true → list_any (is_of row.code) xs ≡ true

-- Of a repeated parameter the last one counts.
abbrev pub last : {A : Type 0} → (Filled → Option A) → List Filled → Option A
last reads xs = last_or None (filter_map reads xs)

abbrev pub octet_in : ℕ → Filled → Option ℕ
octet_in code x = if is_of code x then Some (slice_index x.value 0) else None

abbrev pub pair_in : ℕ → Filled → Option ℕ
pair_in code x = if is_of code x then Some (slice_index x.value 0 * 256 + slice_index x.value 1) else None

abbrev pub number_in : ℕ → Filled → Option ℕ
number_in code x = if is_of code x then Some (number x.value) else None

abbrev pub fields_of : List Filled → SpduFields
fields_of xs =
    record { given = last (octet_in 16) xs; abort = last (octet_in 17) xs; units = last (pair_in 20) xs; first = last (number_in 23) xs; tokens = last (octet_in 26) xs; resync = last (octet_in 27) xs; serial = last (number_in 42) xs; reason = last (octet_in 50) xs }

-- User data stands in 193, in 194, or after the reason of 50.
abbrev pub data_in : Filled → Option (List ℕ)
data_in x =
    if is_of 193 x then Some x.value
    else if is_of 194 x then Some x.value
    else if is_of 50 x then Some (data_after_reason x.value)
    else None

abbrev pub data_of : List Filled → List ℕ
data_of xs = unwrap_or (last data_in xs) []

-- ---- SPDUs

-- The data of a DT stands after its parameters, the user data of any other SPDU in them.
abbrev pub HasData : SpduKind → List Filled → List ℕ → List ℕ → Type 0
HasData DT xs octets after = octets ≡ after
HasData kind xs octets after = (octets ≡ data_of xs) × (after ≡ [])

pub record Spells (spdu : Spdu) (octets : List ℕ) : Type 0 where
  pub elements : List Element
  pub parameters : List ℕ
  pub concatenated : AreConcatenated SpellsElement elements parameters
  pub stand : AllByRecursion (StandsIn spdu.kind) elements
  pub of_form : AllByRecursion IsOfForm (filled spdu.kind elements)
  pub complete : AllByRecursion (IsThere (filled spdu.kind elements)) (rows spdu.kind)
  pub fields_are : spdu.fields ≡ fields_of (filled spdu.kind elements)
  pub head : List ℕ
  pub after : List ℕ
  pub is_unit : IsUnit (code_of spdu.kind) parameters head
  pub has_data : HasData spdu.kind (filled spdu.kind elements) spdu.octets after
  pub octets_are : octets ≡ head ++ after

-- ---- TSDUs

-- These stand after a GT alone, and any other SPDU begins its TSDU (for MIA and RA, profile).
abbrev pub goes_after : SpduKind → Bool
goes_after DT = true
goes_after MIP = true
goes_after MIA = true
goes_after RS = true
goes_after RA = true
goes_after kind = false

-- A TSDU holds one SPDU, or a GT and one that goes after it.
abbrev pub Holds : List ℕ → List Spdu → Type 0
Holds tsdu [] = ⊥
Holds tsdu (one ∷ []) = (goes_after one.kind ≡ false) × Spells one tsdu
Holds tsdu (gt ∷ one ∷ []) =
    (gt.kind ≡ GT) × (goes_after one.kind ≡ true) × (head rest : List ℕ) × Spells gt head × Spells one rest × (tsdu ≡ head ++ rest)
Holds tsdu more = ⊥
