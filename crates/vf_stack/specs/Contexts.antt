-- The presentation contexts of an association, read off its trace (ISO 8823, 6.2).
use Rattle.std.specs.Prelude.{ℤ, Bool, true, false, ◌&&◌, not, List, [], ◌∷◌, ◌++◌, filter, map, Option, None, Some, Result, Ok, unwrap_or, if◌then◌else◌}
use Rattle.std.specs.List.{list_any}
use Rattle.std.specs.Ordering.{int_eq}
use Rattle.vf_base.specs.declared.spdu_kind.SpduKind.{SpduKind}
use Rattle.vf_base.specs.declared.spdu_kind.SpduKind.TheVariants.{CN, AC, RF}
use Rattle.vf_session.specs.Trace.{Trace, latest, state}
use Rattle.vf_session.specs.declared.parameters.SayParameters.{SayParameters}
use Rattle.vf_session.specs.declared.parameters.SayParameters.TheVariants as head
use Rattle.vf_session.specs.declared.state.SessionState.{SessionState}
use Rattle.vf_session.specs.declared.units.SessionSay.{SessionSay}
use Rattle.vf_session.specs.declared.units.SessionSay.TheVariants.{Connect, Accept}
use Rattle.vf_session.specs.declared.units.TokenSide.{TokenSide}
use Rattle.vf_session.specs.declared.units.TokenSide.TheVariants.{Initiator, Responder}
use Rattle.vf_upper.specs.Primitives.{reading}
use Rattle.vf_upper.specs.declared.contexts.ContextEntry.{ContextEntry}
use Rattle.vf_upper.specs.declared.contexts.Offer.{Offer}
use Rattle.vf_upper.specs.declared.errors.UpperError.{UpperError}
use Rattle.vf_upper.specs.declared.primitive.Primitive.{Primitive}
use Rattle.vf_upper.specs.declared.primitive.Primitive.TheVariants as primitives
use Rattle.vf_upper_grammar.specs.Syntaxes.{is_ours}

-- ---- what is proposed

-- Of proposals with one identifier the first counts, and a later one is refused like one that doesn't offer the basic
-- encoding rules (profile).
abbrev pub is_met : List ℤ → ℤ → Bool
is_met ids id = list_any (λ met. int_eq met id) ids

abbrev pub counted : Bool → Offer → Offer
counted is_first offer = record offer { ber = offer.ber && is_first }

-- the proposals as they count, after those with these identifiers
abbrev pub counted_after : List ℤ → List Offer → List Offer
counted_after ids [] = []
counted_after ids (offer ∷ offers) = counted (not (is_met ids offer.id)) offer ∷ counted_after (ids ++ offer.id ∷ []) offers

abbrev pub offers_in : Result Primitive UpperError → List Offer
offers_in (Ok (primitives.Associate offers values)) = counted_after [] offers
offers_in read = []

abbrev pub entry_of : Offer → ContextEntry
entry_of offer = record { id = offer.id; syntax = offer.syntax }

abbrev pub entries : List Offer → List ContextEntry
entries offers = map entry_of offers

-- the contexts that a unit proposes
abbrev pub proposes : SessionSay → Option (List Offer)
proposes (Connect sync serial octets) = Some (offers_in (reading CN [] octets))
proposes told = None

abbrev pub proposals : Trace → List Offer
proposals trace = latest (λ entry. proposes entry.told) [] trace

-- ---- what is accepted

-- A called end accepts its own syntaxes in the basic encoding rules, of the proposals as they count (profile).
abbrev pub is_accepted : Offer → Bool
is_accepted offer = offer.ber && is_ours offer.syntax

abbrev pub accepted_of : List Offer → List ContextEntry
accepted_of offers = entries (filter is_accepted offers)

-- of the proposals those that the results accept; those without a result aren't accepted
abbrev pub chosen : List ContextEntry → List Bool → List ContextEntry
chosen [] results = []
chosen (entry ∷ entries) [] = []
chosen (entry ∷ entries) (result ∷ results) = if result then entry ∷ chosen entries results else chosen entries results

abbrev pub results_in : Result Primitive UpperError → List Bool
results_in (Ok (primitives.Accepted results values)) = results
results_in read = []

-- The contexts that are accepted by a unit: at the called end by the proposals, at the calling end by their results.
abbrev pub accepts : TokenSide → List Offer → SessionSay → Option (List ContextEntry)
accepts Responder offers (Connect sync serial octets) = Some (accepted_of (offers_in (reading CN [] octets)))
accepts Initiator offers (Accept sync serial octets) = Some (chosen (entries offers) (results_in (reading AC (entries offers) octets)))
accepts own offers told = None

abbrev pub accepted : TokenSide → Trace → List ContextEntry
accepted own [] = []
accepted own (entry ∷ earlier) = unwrap_or (accepts own (proposals earlier) entry.told) (accepted own earlier)

-- ---- what units are read by

-- what was proposed, what is accepted, and where the session connection stands
pub record Standing : Type 0 where
  pub offers : List Offer
  pub accepted : List ContextEntry
  pub state : SessionState

abbrev pub standing : TokenSide → Trace → Standing
standing own trace = record { offers = proposals trace; accepted = accepted own trace; state = state own trace }

-- The contexts with which the user data of an SPDU are read, of those that were proposed and those that are accepted; a
-- CN has its own.
abbrev pub contexts_among : List Offer → List ContextEntry → SpduKind → List ContextEntry
contexts_among offers accepted CN = []
contexts_among offers accepted AC = entries offers
contexts_among offers accepted RF = entries offers
contexts_among offers accepted kind = accepted

abbrev pub contexts_for : Standing → SpduKind → List ContextEntry
contexts_for s kind = contexts_among s.offers s.accepted kind

-- ---- by the user data as they are read

abbrev pub is_connect : SayParameters → Bool
is_connect (head.Connect sync serial) = true
is_connect unit = false

abbrev pub is_accept : SayParameters → Bool
is_accept (head.Accept sync serial) = true
is_accept unit = false

-- the contexts that a unit proposes
abbrev pub offers_by : SayParameters → Result Primitive UpperError → Option (List Offer)
offers_by unit read = if is_connect unit then Some (offers_in read) else None

-- the contexts that a unit accepts: at the called end by its proposals, at the calling end by its results
abbrev pub accepted_by_proposals : SayParameters → Result Primitive UpperError → Option (List ContextEntry)
accepted_by_proposals unit read = if is_connect unit then Some (accepted_of (offers_in read)) else None

abbrev pub accepted_by : TokenSide → List Offer → SayParameters → Result Primitive UpperError → Option (List ContextEntry)
accepted_by Responder offers unit read = accepted_by_proposals unit read
accepted_by Initiator offers unit read = if is_accept unit then Some (chosen (entries offers) (results_in read)) else None
