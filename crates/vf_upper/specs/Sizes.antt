-- How long the user data of a primitive are, by the lengths of the values that they carry: none where a limit of a
-- value is passed. Each tag that is written takes one octet.
use Rattle.std.specs.Prelude.{ℕ, ◌+◌, ℤ, Bool, nat_le, List, [], ◌∷◌, length, map, Option, None, Some, if◌then◌else◌}
use Rattle.vf_base.specs.declared.limits.TheConstants.{MOST_VALUE_OCTETS}
use Rattle.vf_ber.specs.Contents.{integer_octets, oid_octets}
use Rattle.vf_ber.specs.Limits.{measured}
use Rattle.vf_ber.specs.Spelling.{length_octets}
use Rattle.vf_upper.specs.declared.contexts.ContextEntry.{ContextEntry}
use Rattle.vf_upper.specs.declared.contexts.Offer.{Offer}
use Rattle.vf_upper.specs.declared.primitive.Primitive.{Primitive}
use Rattle.vf_upper.specs.declared.primitive.Primitive.TheVariants.{Associate, Accepted, Refused, Release, Released, Data, Abort}
use Rattle.vf_upper.specs.CarriedCode.{Carried}
use Rattle.vf_upper.specs.Written.{acse_id}

abbrev pub fitting : ℕ → Option ℕ
fitting n = if nat_le n MOST_VALUE_OCTETS then Some n else None

-- two values in turn
abbrev pub both : Option ℕ → Option ℕ → Option ℕ
both None other = None
both (Some a) None = None
both (Some a) (Some b) = fitting (a + b)

-- a value with parts of this length
abbrev pub wrapped : Option ℕ → Option ℕ
wrapped None = None
wrapped (Some n) = fitting (1 + length (length_octets n) + n)

-- values of these lengths in turn, after others
abbrev pub all : Option ℕ → List (Option ℕ) → Option ℕ
all total [] = total
all total (size ∷ sizes) = all (both total size) sizes

abbrev pub integer_size : ℤ → Option ℕ
integer_size n = wrapped (Some (length (integer_octets n)))

-- a context and a value in [0]: a PDV-list or an EXTERNAL
abbrev pub placed_size : ℤ → Option ℕ → Option ℕ
placed_size id size = wrapped (both (integer_size id) (wrapped size))

-- a value within this depth
abbrev pub carried_size : ℕ → Carried → Option ℕ
carried_size depth carried = placed_size carried.context (measured depth MOST_VALUE_OCTETS carried.tree)

abbrev pub information_size : ℕ → List Carried → Option ℕ
information_size depth values = wrapped (all (Some 0) (map (carried_size depth) values))

-- an ACSE value with fields of this length before its user information
abbrev pub apdu_size : ℕ → ℕ → List Carried → Option ℕ
apdu_size fields depth values = wrapped (both (Some fields) (information_size depth values))

-- user data with an ACSE value
abbrev pub acse_size : ℤ → Option ℕ → Option ℕ
acse_size id apdu = wrapped (placed_size id apdu)

-- the transfer syntaxes of a proposal take six octets
abbrev pub proposal_size : Offer → Option ℕ
proposal_size offer = wrapped (both (integer_size offer.id) (both (wrapped (Some (length (oid_octets offer.syntax)))) (Some 6)))

abbrev pub outcome_size : Bool → Option ℕ
outcome_size accepted = Some (if accepted then 9 else 5)

-- the mode selector, of five octets, a list and user data
abbrev pub in_mode_size : Option ℕ → Option ℕ → Option ℕ
in_mode_size list data_size = wrapped (both (Some 5) (wrapped (both list data_size)))

abbrev pub listed_size : List (Option ℕ) → Option ℕ
listed_size sizes = wrapped (all (Some 0) sizes)

-- The application context name takes nine octets, the result of an AARE five, its source seven, that of an ABRT three.
abbrev pub size_of : Primitive → List ContextEntry → Option ℕ
size_of (Associate offers values) contexts = in_mode_size (listed_size (map proposal_size offers)) (acse_size (acse_id contexts) (apdu_size 9 23 values))
size_of (Accepted results values) contexts = in_mode_size (listed_size (map outcome_size results)) (acse_size (acse_id contexts) (apdu_size 21 23 values))
size_of (Refused results values) contexts = wrapped (both (listed_size (map outcome_size results)) (acse_size (acse_id contexts) (apdu_size 21 24 values)))
size_of (Release values) contexts = acse_size (acse_id contexts) (apdu_size 0 25 values)
size_of (Released values) contexts = acse_size (acse_id contexts) (apdu_size 0 25 values)
size_of (Data values) contexts = wrapped (all (Some 0) (map (carried_size 29) values))
size_of (Abort values) contexts = wrapped (acse_size (acse_id contexts) (apdu_size 3 24 values))
