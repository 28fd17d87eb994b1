-- What a request of this end sends, by what was proposed and accepted and where the session connection stands: values in
-- their contexts, a primitive, a unit of session (ISO 8571-4, ISO 8823, ISO 8650; which context a value stands in is profile).
use Rattle.std.specs.Prelude.{ℕ, ℤ, pos, Bool, true, false, ◌&&◌, nat_eq, not, List, [], ◌∷◌, map, Option, None, Some, if◌then◌else◌}
use Rattle.vf_base.specs.declared.element.Element.{Element}
use Rattle.vf_base.specs.declared.element.Element.TheVariants.{Text, Binary}
use Rattle.vf_ber.specs.Spelling.{spell}
use Rattle.vf_ber.specs.Tree.{Tree}
use Rattle.vf_elements.specs.ElementValue.{value as element_value}
use Rattle.vf_pdu.specs.PduNumbers.{number_of}
use Rattle.vf_pdu.specs.PduValue.{value as pdu_value}
use Rattle.vf_pdu.specs.declared.pdu.Pdu.{Pdu}
use Rattle.vf_pdu.specs.declared.pdu.Pdu.TheVariants as pdus
use Rattle.vf_session.specs.Sending.{answer_number, holds_token}
use Rattle.vf_session.specs.Trace.{other}
use Rattle.vf_session.specs.declared.resync.PendingResync.{PendingResync}
use Rattle.vf_session.specs.declared.units.ResyncKind.TheVariants as kinds
use Rattle.vf_session.specs.declared.units.SessionSay.{SessionSay}
use Rattle.vf_session.specs.declared.units.SessionSay.TheVariants as say
use Rattle.vf_session.specs.declared.units.TokenSide.{TokenSide}
use Rattle.vf_session.specs.declared.units.TokenSide.TheVariants.{Initiator, Responder}
use Rattle.vf_stack.specs.Contexts.{Standing, entries, is_accepted}
use Rattle.vf_stack.specs.declared.indication.Item.TheVariants as items
use Rattle.vf_stack.specs.declared.request.Request.{Request}
use Rattle.vf_stack.specs.declared.request.Request.TheVariants.{Associate, Accept, Refuse, Release, Released, Item, Check, Acknowledge, Restart, Restarted, Cancel, Cancelled, Abort, Pass}
use Rattle.vf_upper.specs.CarriedCode.{Carried}
use Rattle.vf_upper.specs.Written.{holding, id_of, or_zero, universal, user_octets, written}
use Rattle.vf_upper.specs.declared.contexts.ContextEntry.{ContextEntry}
use Rattle.vf_upper.specs.declared.contexts.Offer.{Offer}
use Rattle.vf_upper.specs.declared.primitive.Primitive.{Primitive}
use Rattle.vf_upper.specs.declared.primitive.Primitive.TheVariants as primitives
use Rattle.vf_upper_grammar.specs.Syntaxes as syntaxes

-- ---- values in their contexts

abbrev pub own_offer : ℤ → List ℕ → Offer
own_offer id syntax = record { id = id; syntax = syntax; ber = true }

-- what a calling end proposes
abbrev pub own_offers : List Offer
own_offers =
    own_offer (pos 1) syntaxes.acse ∷ own_offer (pos 3) syntaxes.pci ∷ own_offer (pos 5) syntaxes.fadu ∷ own_offer (pos 7) syntaxes.text
    ∷ own_offer (pos 9) syntaxes.binary ∷ []

-- A PDU stands in the first context of FTAM PCI, an element in the first one of its own syntax, or where there is none in
-- that of the PDUs.
abbrev pub in_pci : List ContextEntry → Tree → Carried
in_pci contexts tree = record { context = or_zero (id_of syntaxes.pci contexts); tree = tree }

abbrev pub in_first : Option ℤ → List ContextEntry → Tree → Carried
in_first None contexts tree = in_pci contexts tree
in_first (Some id) contexts tree = record { context = id; tree = tree }

abbrev pub syntax_for : Element → List ℕ
syntax_for (Text class octets) = syntaxes.text
syntax_for (Binary octets) = syntaxes.binary
syntax_for element = syntaxes.fadu

abbrev pub pdu_carried : List ContextEntry → Pdu → Carried
pdu_carried contexts pdu = in_pci contexts (pdu_value pdu)

abbrev pub element_carried : List ContextEntry → Element → Carried
element_carried contexts element = in_first (id_of (syntax_for element) contexts) contexts (element_value element)

abbrev pub maybe_carried : List ContextEntry → Option Pdu → List Carried
maybe_carried contexts None = []
maybe_carried contexts (Some pdu) = pdu_carried contexts pdu ∷ []

-- ---- the primitive of a request, and the contexts that it is written with

abbrev pub results_of : List Offer → List Bool
results_of offers = map is_accepted offers

abbrev pub data_of : List ContextEntry → Pdu → Option Primitive
data_of contexts pdu = Some (primitives.Data (pdu_carried contexts pdu ∷ []))

abbrev pub primitive_of : Standing → Request → Option Primitive
primitive_of s (Associate sync pdu) = Some (primitives.Associate own_offers (pdu_carried (entries own_offers) pdu ∷ []))
primitive_of s (Accept sync pdu) = Some (primitives.Accepted (results_of s.offers) (pdu_carried s.accepted pdu ∷ []))
primitive_of s (Refuse None) = Some (primitives.Refused [] [])
primitive_of s (Refuse (Some pdu)) = Some (primitives.Refused (results_of s.offers) (pdu_carried s.accepted pdu ∷ []))
primitive_of s (Release pdu) = Some (primitives.Release (pdu_carried s.accepted pdu ∷ []))
primitive_of s (Released pdu) = Some (primitives.Released (pdu_carried s.accepted pdu ∷ []))
primitive_of s (Item (items.Pdu pdu)) = data_of s.accepted pdu
primitive_of s (Item (items.Element element)) = Some (primitives.Data (element_carried s.accepted element ∷ []))
primitive_of s (Restart serial pdu) = data_of s.accepted pdu
primitive_of s (Restarted serial pdu) = data_of s.accepted pdu
primitive_of s (Cancel pdu) = data_of s.accepted pdu
primitive_of s (Cancelled pdu) = data_of s.accepted pdu
primitive_of s (Abort pdu) = Some (primitives.Abort (maybe_carried s.accepted pdu))
primitive_of s request = None

abbrev pub contexts_of : Standing → Request → List ContextEntry
contexts_of s (Associate sync pdu) = entries own_offers
contexts_of s request = s.accepted

abbrev pub octets_by : List ContextEntry → Option Primitive → List ℕ
octets_by contexts None = []
octets_by contexts (Some primitive) = user_octets primitive contexts

abbrev pub octets_of : Standing → Request → List ℕ
octets_of s request = octets_by (contexts_of s request) (primitive_of s request)

-- the SEQUENCE of a resynchronization, around data that are written bare
abbrev pub in_sequence : Standing → Pdu → List ℕ
in_sequence s pdu = spell (holding (universal 16) (written (primitives.Data (pdu_carried s.accepted pdu ∷ [])) s.accepted ∷ []))

-- ---- the unit of a request

-- F-READ passes the token from the calling end; a response to F-TRANSFER-END, and one to F-RECOVER that isn't moving, from the
-- called end; each where sync is agreed and this end has it.
abbrev pub returns_token : Pdu → Bool
returns_token (pdus.RecoverResponse diagnostic number point moving last) = not moving
returns_token pdu = nat_eq (number_of pdu) 36

abbrev pub passes_from : TokenSide → Pdu → Bool
passes_from Initiator pdu = nat_eq (number_of pdu) 32
passes_from Responder pdu = returns_token pdu

abbrev pub passes : TokenSide → Standing → Request → Bool
passes own s (Item (items.Pdu pdu)) = holds_token own s.state && passes_from own pdu
passes own s request = false

-- the number in the RA of an abandon
abbrev pub answer_to : Option PendingResync → ℕ → ℕ
answer_to None number = number
answer_to (Some r) number = answer_number r.kind r.serial number

-- F-CANCEL and its response are resynchronizations where sync is agreed, and else data.
abbrev pub unit_of : TokenSide → Standing → Request → SessionSay
unit_of own s (Associate sync pdu) = say.Connect sync 1 (octets_of s (Associate sync pdu))
unit_of own s (Accept sync pdu) = say.Accept sync s.state.first (octets_of s (Accept sync pdu))
unit_of own s (Refuse pdu) = say.Refuse (octets_of s (Refuse pdu))
unit_of own s (Release pdu) = say.Finish (octets_of s (Release pdu))
unit_of own s (Released pdu) = say.Finished (octets_of s (Released pdu))
unit_of own s (Item item) = say.Data (passes own s (Item item)) (octets_of s (Item item))
unit_of own s (Check serial) = say.Check serial
unit_of own s (Acknowledge serial) = say.Acknowledge serial
unit_of own s (Restart serial pdu) = say.Resync kinds.Restart serial (Some s.state.token) (in_sequence s pdu)
unit_of own s (Restarted serial pdu) = say.Resynced serial (Some s.state.token) (in_sequence s pdu)
unit_of own s (Cancel pdu) =
    if s.state.agreed then say.Resync kinds.Abandon s.state.next (Some Initiator) (in_sequence s pdu) else say.Data false (octets_of s (Cancel pdu))
unit_of own s (Cancelled pdu) =
    if s.state.agreed then say.Resynced (answer_to s.state.resync s.state.next) (Some Initiator) (in_sequence s pdu) else say.Data false (octets_of s (Cancelled pdu))
unit_of own s (Abort pdu) = say.Abort (octets_of s (Abort pdu))
unit_of own s Pass = say.Token (other own)
