-- What is asked of a request by lengths.
use Rattle.std.specs.Prelude.{ℕ, ◌+◌, ◌-◌, ◌≡◌, ◌≤◌, ◌⊎◌, ℤ, pos, Bool, true, false, nat_le, List, length, Option, None, Some, if◌then◌else◌}
use Rattle.std.specs.Ordering.{int_eq}
use Rattle.vf_base.specs.declared.limits.TheConstants.{MOST_VALUE_OCTETS}
use Rattle.vf_base.specs.declared.diagnostic.Diagnostic.{Diagnostic}
use Rattle.vf_ber.specs.Contents.{integer_octets}
use Rattle.vf_session.specs.Units.{parameters, user_data}
use Rattle.vf_session.specs.declared.parameters.SayParameters.{SayParameters}
use Rattle.vf_session.specs.declared.parameters.SayParameters.TheVariants as head
use Rattle.vf_session_spdu.specs.declared.limits.TheConstants.{MOST_CONNECT_OCTETS}
use Rattle.vf_stack.specs.Represents.{standing_of}
use Rattle.vf_stack.specs.Requests.{contexts_of, primitive_of}
use Rattle.vf_stack.specs.Contexts.{Standing}
use Rattle.vf_stack.specs.Sending.{IsWritten}
use Rattle.vf_stack.specs.Sends.{unit_kept}
use Rattle.vf_stack.specs.declared.exchange.KeptExchange.{KeptExchange}
use Rattle.vf_stack.specs.declared.indication.Item.TheVariants as items
use Rattle.vf_stack.specs.declared.request.Request.{Request}
use Rattle.vf_stack.specs.declared.request.Request.TheVariants.{Accept, Refuse, Item}
use Rattle.vf_upper.specs.Written.{is_placed}
use Rattle.vf_upper.specs.declared.contexts.ContextEntry.{ContextEntry}
use Rattle.vf_upper.specs.declared.primitive.Primitive.{Primitive}

-- the octets of a field with a number, and of one that is left out where it has its default
unfoldable pub number_octets : ℤ → ℕ
number_octets n = 2 + length (integer_octets n)

abbrev pub default_octets : ℤ → ℤ → ℕ
default_octets n usual = if int_eq n usual then 0 else number_octets n

abbrev pub diagnostic_octets : Option Diagnostic → ℕ
diagnostic_octets None = 0
diagnostic_octets (Some d) = 2 + number_octets (pos d.number) + (default_octets d.first (pos 0) + default_octets d.second (pos 0))

-- The values of a request stand in contexts that suit them.
abbrev pub primitive_placed : List ContextEntry → Option Primitive → Bool
primitive_placed contexts None = true
primitive_placed contexts (Some primitive) = is_placed primitive contexts

abbrev pub placed : Standing → Request → Bool
placed s request = primitive_placed (contexts_of s request) (primitive_of s request)

-- A unit's octets of user data, as what is asked of their number takes it: 0 stands for a few, whatever their number.
abbrev pub Counts : SayParameters → ℕ → ℕ → Type 0
Counts (head.Data pass) count octets = (count ≡ octets) ⊎ ((count ≡ 0) × (octets ≤ 1000000))
Counts unit count octets = (count ≡ octets) ⊎ ((count ≡ 0) × (octets ≤ MOST_CONNECT_OCTETS))

-- The user data of the request's unit can be written and have so many octets, or can't.
abbrev pub CountsData : KeptExchange → Request → Option ℕ → Type 0
CountsData kept request None = IsWritten (contexts_of (standing_of kept) request) (primitive_of (standing_of kept) request) → ⊥
CountsData kept request (Some count) =
    IsWritten (contexts_of (standing_of kept) request) (primitive_of (standing_of kept) request)
    × Counts (parameters (unit_kept kept request)) count (length (user_data (unit_kept kept request)))

-- A request whose length matters: an answer to F-INITIALIZE, which has a result for each proposal, and an element.
abbrev pub needs_length : Request → Bool
needs_length (Accept sync pdu) = true
needs_length (Refuse (Some pdu)) = true
needs_length (Item (items.Element element)) = true
needs_length request = false

-- Whether the TSDU of a unit with so many octets of user data is within the limit: those of data stand after a GT, with the
-- token or without, and a header.
abbrev pub fits_by : SayParameters → ℕ → Bool
fits_by (head.Data true) octets = nat_le octets (MOST_VALUE_OCTETS - 7)
fits_by (head.Data false) octets = nat_le octets (MOST_VALUE_OCTETS - 4)
fits_by unit octets = true
