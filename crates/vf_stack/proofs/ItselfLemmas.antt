-- A request that may be sent tells the other end itself.
use Rattle.std.proofs.Common.{◌≡◌, ℕ, ◌≤◌, Bool, true, false, ◌||◌, if◌then◌else◌, List, [], ◌∷◌, length, refl, ap, sym, ◌∙◌, subst, arith, inl, inr, All, Option, None, Some, Result, Ok, Err}
use Rattle.std.proofs.lemmas.Bool.{and_parts, or_left, or_right}
use Rattle.std.proofs.lemmas.List.Elements.{All-cons, All-head, All-map, All-nil, All-tail, All-weaker}
use Rattle.std.specs.Prelude.{ℤ, ◌&&◌, is_none, nat_eq, nat_le}
use Rattle.vf_base.specs.declared.element.Element.{Element}
use Rattle.vf_base.specs.declared.spdu_kind.SpduKind.TheVariants.{CN, AC, RF, FN, DN, AB, DT, RS, RA}
use Rattle.vf_ber.specs.Limits.{IsTooLarge}
use Rattle.vf_ber.specs.Spelling.{spell}
use Rattle.vf_ber.specs.Tags.{IsTree}
use Rattle.vf_ber.specs.Tree.{Tree, depth}
use Rattle.vf_elements.specs.ElementValue.{IsWritable as IsElement, value as element_value}
use Rattle.vf_elements.specs.Messages.{message_in}
use Rattle.vf_elements.specs.declared.message.Message.{Message}
use Rattle.vf_pdu.specs.PduMeaning.{IsInRange}
use Rattle.vf_pdu.specs.PduNumbers.{number_of}
use Rattle.vf_pdu.specs.PduValue.{value as pdu_value}
use Rattle.vf_pdu.specs.declared.pdu.Pdu.{Pdu}
use Rattle.vf_pdu_fields.specs.Fault.{Fault as FieldFault}
use Rattle.vf_session.specs.Receiving.{is_asked, is_leaving, is_left, is_open}
use Rattle.vf_session.specs.Sending.{answers_rightly, fits, is_allowed, is_free, is_written as is_serial, names_rightly, numbers_rightly}
use Rattle.vf_session.specs.Trace.{is_side, other, state}
use Rattle.vf_session.specs.declared.parameters.SayParameters.{SayParameters}
use Rattle.vf_session.specs.declared.parameters.SayParameters.TheVariants as head
use Rattle.vf_session.specs.declared.phase.Phase.{Phase}
use Rattle.vf_session.specs.declared.resync.PendingResync.{PendingResync}
use Rattle.vf_session.specs.declared.state.SessionState.{SessionState}
use Rattle.vf_session.specs.declared.units.ResyncKind.{ResyncKind}
use Rattle.vf_session.specs.declared.units.ResyncKind.TheVariants as kinds
use Rattle.vf_session.specs.declared.units.SessionSay.TheVariants as say
use Rattle.vf_session.specs.declared.units.TokenSide.{TokenSide}
use Rattle.vf_session.specs.declared.units.TokenSide.TheVariants.{Initiator, Responder}
use Rattle.vf_stack.specs.Association.{Association}
use Rattle.vf_stack.specs.Carriage.{Told, answer_told, before_others, due, goes_in_data, is_data, item_told, items_told, nothing_told, one_told, pdu_read, pdu_told, read_told, resync_told, resynced_told, single_told, unit_told, values_told}
use Rattle.vf_stack.specs.Contexts.{Standing, accepted, accepted_of, entries, entry_of, standing}
use Rattle.vf_stack.specs.Faults.{misplaced}
use Rattle.vf_stack.specs.Mutual.{TellsItself, told_of}
use Rattle.vf_stack.specs.Requests.{answer_to, element_carried, in_first, in_sequence, octets_of, own_offers, passes, pdu_carried, results_of, syntax_for, unit_of}
use Rattle.vf_stack.specs.Sending.{IsDue, IsSendable, is_associated, is_kind, permits, unit_sent, waits}
use Rattle.vf_stack.specs.declared.ending.Ending.{Ending}
use Rattle.vf_stack.specs.declared.indication.Indication.{Indication}
use Rattle.vf_stack.specs.declared.indication.Indication.TheVariants as indications
use Rattle.vf_stack.specs.declared.indication.Item.TheVariants as items
use Rattle.vf_stack.specs.declared.request.Request.{Request}
use Rattle.vf_stack.specs.declared.request.Request.TheVariants.{Associate, Accept, Refuse, Release, Released, Item, Check, Acknowledge, Restart, Restarted, Cancel, Cancelled, Abort, Pass}
use Rattle.vf_upper.specs.CarriedCode.{Carried}
use Rattle.vf_upper.specs.Laws.{AreContexts, AreHeard, IsCarried, IsIdentifier, IsOffer, SameContexts}
use Rattle.vf_upper.specs.Primitives.{answered, reading, syntax_of}
use Rattle.vf_upper.specs.Written.{IsWritable, accepted as in_force, has_syntax, holding, id_among, id_of, or_zero, universal, user_octets, written}
use Rattle.vf_upper.specs.declared.contexts.ContextEntry.{ContextEntry}
use Rattle.vf_upper.specs.declared.contexts.Offer.{Offer}
use Rattle.vf_upper.specs.declared.errors.UpperError.{UpperError}
use Rattle.vf_upper.specs.declared.primitive.Primitive.{Primitive}
use Rattle.vf_upper.specs.declared.primitive.Primitive.TheVariants as primitives
use Rattle.vf_upper.proofs.Recovered.{read_again, read_in_resynchronizations}
use Rattle.vf_upper_grammar.specs.Syntaxes as syntaxes
use Rattle.vf_stack.proofs.ContextLemmas.{AreCounted, answered-so, called-accepts, proposals-counted}
use Rattle.vf_stack.proofs.CountLemmas.{own-proposed, resync-written}
use Rattle.vf_stack.proofs.PduLemmas.{few-37, few-38, few-39, few-40, few-by, pdu-fits, same-by}
use Rattle.vf_stack.proofs.RequestLemmas.{request-received}
use Rattle.vf_stack.proofs.ValueLemmas.{element-message, element-tree, pdu-message, pdu-read, pdu-tree}

-- ---- values in their contexts

picked-fits : (b : Bool) (id : ℤ) (after : Option ℤ) → IsIdentifier id → IsIdentifier (or_zero after) → IsIdentifier (or_zero (if b then Some id else after))
picked-fits true id after here there = here
picked-fits false id after here there = there

among-fits : (contexts : List ContextEntry) (syntax : List ℕ) (entries : List ContextEntry) → AreContexts entries → IsIdentifier (or_zero (id_among contexts syntax entries))
among-fits contexts syntax [] are = record { sfits = omega arith }
among-fits contexts syntax (entry ∷ entries) are =
    let P : ContextEntry → Type 0 = λ e. IsIdentifier e.id in
    picked-fits (has_syntax syntax (syntax_of entry.id (in_force contexts))) entry.id (id_among contexts syntax entries) (All-head P entry entries are)
    (among-fits contexts syntax entries (All-tail P entry entries are))

pdu-is : (contexts : List ContextEntry) (pdu : Pdu) → AreContexts contexts → IsCarried (pdu_carried contexts pdu)
pdu-is contexts pdu are = (among-fits contexts syntaxes.pci contexts are, pdu-tree pdu)

first-is : (id : Option ℤ) (contexts : List ContextEntry) (tree : Tree) → IsIdentifier (or_zero id) → AreContexts contexts → IsTree tree → IsCarried (in_first id contexts tree)
first-is None contexts tree fits are is = (among-fits contexts syntaxes.pci contexts are, is)
first-is (Some id) contexts tree fits are is = (fits, is)

element-is : (contexts : List ContextEntry) (element : Element) → AreContexts contexts → IsElement element → IsCarried (element_carried contexts element)
element-is contexts element are w =
    first-is (id_of (syntax_for element) contexts) contexts (element_value element) (among-fits contexts (syntax_for element) contexts are) are (element-tree element w)

one-is : (v : Carried) → IsCarried v → All IsCarried (v ∷ [])
one-is v is = All-cons IsCarried v [] is (All-nil IsCarried)

own-contexts : AreContexts (entries own_offers)
own-contexts =
    All-map (λ (entry : ContextEntry). IsIdentifier entry.id) entry_of own_offers
    (All-weaker IsOffer (λ (offer : Offer). IsIdentifier offer.id) (λ offer is. is.0) own_offers own-proposed)

-- ---- what values tell

abbrev pub just : Indication → Told
just indication = record { indications = indication ∷ []; fault = None }

due-is : (is_due : Bool) (indication : Indication) → is_due ≡ true → due is_due indication ≡ Ok indication
due-is is_due indication e = ap (λ (b : Bool). due b indication) e

single-told : (state : SessionState) (unit : SayParameters) (contexts : List ContextEntry) (pdu : Pdu) (indication : Indication)
    → IsInRange pdu → is_data unit ≡ false → pdu_told state.resync unit pdu ≡ Ok indication → values_told state unit (pdu_carried contexts pdu ∷ []) ≡ just indication
single-told state unit contexts pdu indication range single told =
    let values = pdu_carried contexts pdu ∷ [] in
    ap (λ (b : Bool). if b then items_told state.agreed values else one_told (single_told state.resync unit values)) single
    ∙ ap (λ (r : Result Pdu FieldFault). one_told (pdu_read state.resync unit r)) (pdu-read pdu range)
    ∙ ap one_told told

pdu-told : (sync : Bool) (contexts : List ContextEntry) (pdu : Pdu) → IsInRange pdu → goes_in_data sync (number_of pdu) ≡ true
    → items_told sync (pdu_carried contexts pdu ∷ []) ≡ just (indications.Item (items.Pdu pdu))
pdu-told sync contexts pdu range goes =
    ap (λ (r : Result Message FieldFault). before_others (item_told sync r) nothing_told) (pdu-message pdu range)
    ∙ ap (λ (b : Bool). before_others (if b then Ok (indications.Item (items.Pdu pdu)) else Err misplaced) nothing_told) goes

first-tree : (id : Option ℤ) (contexts : List ContextEntry) (tree : Tree) → (in_first id contexts tree).tree ≡ tree
first-tree None contexts tree = refl
first-tree (Some id) contexts tree = refl

element-told : (sync : Bool) (contexts : List ContextEntry) (element : Element) → IsElement element
    → items_told sync (element_carried contexts element ∷ []) ≡ just (indications.Item (items.Element element))
element-told sync contexts element w =
    ap (λ (tree : Tree). before_others (item_told sync (message_in tree)) nothing_told) (first-tree (id_of (syntax_for element) contexts) contexts (element_value element))
    ∙ ap (λ (r : Result Message FieldFault). before_others (item_told sync r) nothing_told) (element-message element w)

-- ---- what the two ends have

record Shares (own : TokenSide) (s f : Standing) : Type 0 where
  pub offers_are : s.offers ≡ f.offers
  pub accepted_are : is_associated s.state.phase ≡ true → s.accepted ≡ f.accepted
  pub are_identifiers : AreContexts s.accepted
  pub are_counted : AreCounted s.offers
  pub called_accepts : own ≡ Responder → s.accepted ≡ accepted_of s.offers
  pub agreed_is : s.state.agreed ≡ f.state.agreed
  pub resync_is : s.state.resync ≡ f.state.resync

same-answered : (offers : List Offer) → AreCounted offers → SameContexts (answered (entries offers) (results_of offers)) (in_force (accepted_of offers))
same-answered offers are =
    let P : List Offer → Type 0 = λ offers. SameContexts (answered (entries offers) (results_of offers)) (in_force (accepted_of offers)) in
    subst P (sym are.1) (answered-so are.0)

-- the calling end reads an answer by the contexts that the called end accepts
heard-so : (own : TokenSide) (s f : Standing) → Shares own s f → own ≡ Responder → SameContexts (answered (entries f.offers) (results_of s.offers)) (in_force s.accepted)
heard-so own s f shares called =
    let P : List Offer → Type 0 = λ offers. SameContexts (answered (entries offers) (results_of s.offers)) (in_force s.accepted) in
    let Q : List ContextEntry → Type 0 = λ contexts. SameContexts (answered (entries s.offers) (results_of s.offers)) (in_force contexts) in
    subst P shares.offers_are (subst Q (sym (shares.called_accepts called)) (same-answered s.offers shares.are_counted))

called-side : (own : TokenSide) → is_side own Responder ≡ true → own ≡ Responder
called-side Initiator e = cc
called-side Responder e = refl

open-associated : (phase : Phase) → is_open phase ≡ true → is_associated phase ≡ true
open-associated phase e = or_left (is_open phase || is_leaving phase) (is_left phase) (or_left (is_open phase) (is_leaving phase) e)

left-associated : (phase : Phase) → is_left phase ≡ true → is_associated phase ≡ true
left-associated phase e = or_right (is_open phase || is_leaving phase) (is_left phase) e

-- ---- requests of associations, releases and aborts

associate-itself : (s f : Standing) (sync : Bool) (pdu : Pdu) → IsDue (nat_eq (number_of pdu) 0) pdu
    → IsWritable (primitives.Associate own_offers (pdu_carried (entries own_offers) pdu ∷ [])) (entries own_offers)
    → unit_told f (say.Connect sync 1 (octets_of s (Associate sync pdu))) ≡ just (indications.Associate sync pdu)
associate-itself s f sync pdu c w =
    let v = pdu_carried (entries own_offers) pdu in
    let unit = head.Connect sync 1 in
    let read : reading CN [] (user_octets (primitives.Associate own_offers (v ∷ [])) (entries own_offers)) ≡ Ok (primitives.Associate own_offers (v ∷ [])) =
    read_again (primitives.Associate own_offers (v ∷ [])) (entries own_offers) [] (own-proposed, one-is v (pdu-is (entries own_offers) pdu own-contexts)) own-contexts w tt in
    ap (λ (r : Result Primitive UpperError). read_told f.state unit r) read
    ∙ single-told f.state unit (entries own_offers) pdu (indications.Associate sync pdu) c.1 refl (due-is (nat_eq (number_of pdu) 0) (indications.Associate sync pdu) c.0)

accept-itself : (own : TokenSide) (s f : Standing) (sync : Bool) (serial : ℕ) (pdu : Pdu) → Shares own s f → own ≡ Responder → IsDue (nat_eq (number_of pdu) 1) pdu
    → IsWritable (primitives.Accepted (results_of s.offers) (pdu_carried s.accepted pdu ∷ [])) s.accepted
    → unit_told f (say.Accept sync serial (octets_of s (Accept sync pdu))) ≡ just (indications.Accepted sync pdu)
accept-itself own s f sync serial pdu shares called c w =
    let v = pdu_carried s.accepted pdu in
    let unit = head.Accept sync serial in
    let p = primitives.Accepted (results_of s.offers) (v ∷ []) in
    let read : reading AC (entries f.offers) (user_octets p s.accepted) ≡ Ok p =
    read_again p s.accepted (entries f.offers) (one-is v (pdu-is s.accepted pdu shares.are_identifiers)) shares.are_identifiers w (heard-so own s f shares called) in
    ap (λ (r : Result Primitive UpperError). read_told f.state unit r) read
    ∙ single-told f.state unit s.accepted pdu (indications.Accepted sync pdu) c.1 refl (due-is (nat_eq (number_of pdu) 1) (indications.Accepted sync pdu) c.0)

refusal-heard : (results : List Bool) (v : Carried) (contexts heard : List ContextEntry) → SameContexts (answered heard results) (in_force contexts) → AreHeard (primitives.Refused results (v ∷ [])) contexts heard
refusal-heard [] v contexts heard same = same
refusal-heard (result ∷ results) v contexts heard same = same

refuse-itself : (own : TokenSide) (s f : Standing) (pdu : Pdu) → Shares own s f → own ≡ Responder → IsDue (nat_eq (number_of pdu) 1) pdu
    → IsWritable (primitives.Refused (results_of s.offers) (pdu_carried s.accepted pdu ∷ [])) s.accepted
    → unit_told f (say.Refuse (octets_of s (Refuse (Some pdu)))) ≡ just (indications.Refused (Some pdu))
refuse-itself own s f pdu shares called c w =
    let v = pdu_carried s.accepted pdu in
    let p = primitives.Refused (results_of s.offers) (v ∷ []) in
    let heard = refusal-heard (results_of s.offers) v s.accepted (entries f.offers) (heard-so own s f shares called) in
    let read : reading RF (entries f.offers) (user_octets p s.accepted) ≡ Ok p =
    read_again p s.accepted (entries f.offers) (one-is v (pdu-is s.accepted pdu shares.are_identifiers)) shares.are_identifiers w heard in
    ap (λ (r : Result Primitive UpperError). read_told f.state head.Refuse r) read
    ∙ single-told f.state head.Refuse s.accepted pdu (indications.Refused (Some pdu)) c.1 refl (due-is (nat_eq (number_of pdu) 1) (indications.Refused (Some pdu)) c.0)

release-itself : (s f : Standing) (pdu : Pdu) → AreContexts s.accepted → s.accepted ≡ f.accepted → IsDue (nat_eq (number_of pdu) 2) pdu
    → IsWritable (primitives.Release (pdu_carried s.accepted pdu ∷ [])) s.accepted
    → unit_told f (say.Finish (octets_of s (Release pdu))) ≡ just (indications.Release pdu)
release-itself s f pdu are same c w =
    let v = pdu_carried s.accepted pdu in
    let p = primitives.Release (v ∷ []) in
    let read : reading FN f.accepted (user_octets p s.accepted) ≡ Ok p = read_again p s.accepted f.accepted (one-is v (pdu-is s.accepted pdu are)) are w (sym same) in
    ap (λ (r : Result Primitive UpperError). read_told f.state head.Finish r) read
    ∙ single-told f.state head.Finish s.accepted pdu (indications.Release pdu) c.1 refl (due-is (nat_eq (number_of pdu) 2) (indications.Release pdu) c.0)

released-itself : (s f : Standing) (pdu : Pdu) → AreContexts s.accepted → s.accepted ≡ f.accepted → IsDue (nat_eq (number_of pdu) 3) pdu
    → IsWritable (primitives.Released (pdu_carried s.accepted pdu ∷ [])) s.accepted
    → unit_told f (say.Finished (octets_of s (Released pdu))) ≡ just (indications.Released pdu)
released-itself s f pdu are same c w =
    let v = pdu_carried s.accepted pdu in
    let p = primitives.Released (v ∷ []) in
    let read : reading DN f.accepted (user_octets p s.accepted) ≡ Ok p = read_again p s.accepted f.accepted (one-is v (pdu-is s.accepted pdu are)) are w (sym same) in
    ap (λ (r : Result Primitive UpperError). read_told f.state head.Finished r) read
    ∙ single-told f.state head.Finished s.accepted pdu (indications.Released pdu) c.1 refl (due-is (nat_eq (number_of pdu) 3) (indications.Released pdu) c.0)

abort-itself : (s f : Standing) (pdu : Pdu) → AreContexts s.accepted → s.accepted ≡ f.accepted → IsDue (nat_eq (number_of pdu) 4 || nat_eq (number_of pdu) 5) pdu
    → IsWritable (primitives.Abort (pdu_carried s.accepted pdu ∷ [])) s.accepted
    → unit_told f (say.Abort (octets_of s (Abort (Some pdu)))) ≡ just (indications.Abort (Some pdu))
abort-itself s f pdu are same c w =
    let v = pdu_carried s.accepted pdu in
    let p = primitives.Abort (v ∷ []) in
    let read : reading AB f.accepted (user_octets p s.accepted) ≡ Ok p = read_again p s.accepted f.accepted (one-is v (pdu-is s.accepted pdu are)) are w (sym same) in
    ap (λ (r : Result Primitive UpperError). read_told f.state head.Abort r) read
    ∙ single-told f.state head.Abort s.accepted pdu (indications.Abort (Some pdu)) c.1 refl
    (due-is (nat_eq (number_of pdu) 4 || nat_eq (number_of pdu) 5) (indications.Abort (Some pdu)) c.0)

-- ---- data

data-told : (s f : Standing) (pass : Bool) (v : Carried) → IsCarried v → AreContexts s.accepted → s.accepted ≡ f.accepted → IsWritable (primitives.Data (v ∷ [])) s.accepted
    → unit_told f (say.Data pass (user_octets (primitives.Data (v ∷ [])) s.accepted)) ≡ items_told f.state.agreed (v ∷ [])
data-told s f pass v is are same w =
    let p = primitives.Data (v ∷ []) in
    let read : reading DT f.accepted (user_octets p s.accepted) ≡ Ok p = read_again p s.accepted f.accepted (one-is v is) are w (sym same) in
    ap (λ (r : Result Primitive UpperError). read_told f.state (head.Data pass) r) read

pdu-itself : (s f : Standing) (pass : Bool) (pdu : Pdu) → AreContexts s.accepted → s.accepted ≡ f.accepted → IsDue (goes_in_data f.state.agreed (number_of pdu)) pdu
    → IsWritable (primitives.Data (pdu_carried s.accepted pdu ∷ [])) s.accepted
    → unit_told f (say.Data pass (user_octets (primitives.Data (pdu_carried s.accepted pdu ∷ [])) s.accepted)) ≡ just (indications.Item (items.Pdu pdu))
pdu-itself s f pass pdu are same c w =
    data-told s f pass (pdu_carried s.accepted pdu) (pdu-is s.accepted pdu are) are same w ∙ pdu-told f.state.agreed s.accepted pdu c.1 c.0

element-itself : (s f : Standing) (pass : Bool) (element : Element) → AreContexts s.accepted → s.accepted ≡ f.accepted → IsElement element
    → IsWritable (primitives.Data (element_carried s.accepted element ∷ [])) s.accepted
    → unit_told f (say.Data pass (user_octets (primitives.Data (element_carried s.accepted element ∷ [])) s.accepted)) ≡ just (indications.Item (items.Element element))
element-itself s f pass element are same c w =
    data-told s f pass (element_carried s.accepted element) (element-is s.accepted element are c) are same w ∙ element-told f.state.agreed s.accepted element c

-- where sync isn't agreed, that is F-CANCEL and its response too
plain-goes : (sync : Bool) (pdu : Pdu) (n : ℕ) → sync ≡ false → nat_eq (number_of pdu) n ≡ true → nat_le 6 n ≡ true → goes_in_data sync (number_of pdu) ≡ true
plain-goes sync pdu n e is low =
    ap (λ (b : Bool). goes_in_data b (number_of pdu)) e ∙ ap (λ (k : ℕ). nat_le 6 k && true) (same-by (number_of pdu) n is) ∙ ap (λ (b : Bool). b && true) low

-- ---- resynchronizations

not-large : (tree : Tree) → depth tree ≤ 32 → length (spell tree) ≤ 3000 → IsTooLarge tree → ⊥
not-large tree low short (inl deep) = omega (arith, low, deep)
not-large tree low short (inr long) = omega (arith, short, long)

sequence-small : (contexts : List ContextEntry) (pdu : Pdu) → IsInRange pdu → length (spell (pdu_value pdu)) ≤ 2007 → IsWritable (primitives.Data (pdu_carried contexts pdu ∷ [])) contexts
    → IsTooLarge (holding (universal 16) (written (primitives.Data (pdu_carried contexts pdu ∷ [])) contexts ∷ [])) → ⊥
sequence-small contexts pdu range short w =
    let fit = pdu-fits pdu range in
    let low = fit.shallow in
    let written_is = resync-written contexts pdu short range w.placed in
    not-large (holding (universal 16) (written (primitives.Data (pdu_carried contexts pdu ∷ [])) contexts ∷ [])) (omega (arith, low)) written_is.2

-- it is in the SEQUENCE of an RS or an RA
resync-itself : (s f : Standing) (kind : ResyncKind) (serial : ℕ) (token : Option TokenSide) (pdu : Pdu) (indication : Indication) → AreContexts s.accepted → s.accepted ≡ f.accepted
    → IsInRange pdu → length (spell (pdu_value pdu)) ≤ 2007 → IsWritable (primitives.Data (pdu_carried s.accepted pdu ∷ [])) s.accepted → resync_told kind serial pdu ≡ Ok indication
    → unit_told f (say.Resync kind serial token (in_sequence s pdu)) ≡ just indication
resync-itself s f kind serial token pdu indication are same range short w told =
    let v = pdu_carried s.accepted pdu in
    let unit = head.Resync kind serial token in
    let read : reading RS f.accepted (in_sequence s pdu) ≡ Ok (primitives.Data (v ∷ [])) =
    ap (λ (contexts : List ContextEntry). reading RS contexts (in_sequence s pdu)) (sym same)
    ∙ read_in_resynchronizations.0 v s.accepted (pdu-is s.accepted pdu are) w (sequence-small s.accepted pdu range short w) in
    ap (λ (r : Result Primitive UpperError). read_told f.state unit r) read ∙ single-told f.state unit s.accepted pdu indication range refl told

resynced-itself : (s f : Standing) (serial : ℕ) (token : Option TokenSide) (pdu : Pdu) (indication : Indication) → AreContexts s.accepted → s.accepted ≡ f.accepted
    → IsInRange pdu → length (spell (pdu_value pdu)) ≤ 2007 → IsWritable (primitives.Data (pdu_carried s.accepted pdu ∷ [])) s.accepted → resynced_told f.state.resync serial pdu ≡ Ok indication
    → unit_told f (say.Resynced serial token (in_sequence s pdu)) ≡ just indication
resynced-itself s f serial token pdu indication are same range short w told =
    let v = pdu_carried s.accepted pdu in
    let unit = head.Resynced serial token in
    let read : reading RA f.accepted (in_sequence s pdu) ≡ Ok (primitives.Data (v ∷ [])) =
    ap (λ (contexts : List ContextEntry). reading RA contexts (in_sequence s pdu)) (sym same)
    ∙ read_in_resynchronizations.1 v s.accepted (pdu-is s.accepted pdu are) w (sequence-small s.accepted pdu range short w) in
    ap (λ (r : Result Primitive UpperError). read_told f.state unit r) read ∙ single-told f.state unit s.accepted pdu indication range refl told

-- an RA answers the RS that waits for it
restarted-by : (kind : ResyncKind) (serial : ℕ) (pdu : Pdu) → is_kind kinds.Restart kind ≡ true → nat_eq (number_of pdu) 40 ≡ true → answer_told kind serial pdu ≡ Ok (indications.Restarted serial pdu)
restarted-by kinds.Restart serial pdu k e = due-is (nat_eq (number_of pdu) 40) (indications.Restarted serial pdu) e
restarted-by kinds.Abandon serial pdu k e = cc

restarted-told : (resync : Option PendingResync) (serial : ℕ) (pdu : Pdu) → waits kinds.Restart resync ≡ true → nat_eq (number_of pdu) 40 ≡ true → resynced_told resync serial pdu ≡ Ok (indications.Restarted serial pdu)
restarted-told None serial pdu k e = cc
restarted-told (Some r) serial pdu k e = restarted-by r.kind serial pdu k e

cancelled-by : (kind : ResyncKind) (serial : ℕ) (pdu : Pdu) → is_kind kinds.Abandon kind ≡ true → nat_eq (number_of pdu) 38 ≡ true → answer_told kind serial pdu ≡ Ok (indications.Cancelled pdu)
cancelled-by kinds.Restart serial pdu k e = cc
cancelled-by kinds.Abandon serial pdu k e = due-is (nat_eq (number_of pdu) 38) (indications.Cancelled pdu) e

cancelled-told : (resync : Option PendingResync) (serial : ℕ) (pdu : Pdu) → waits kinds.Abandon resync ≡ true → nat_eq (number_of pdu) 38 ≡ true → resynced_told resync serial pdu ≡ Ok (indications.Cancelled pdu)
cancelled-told None serial pdu k e = cc
cancelled-told (Some r) serial pdu k e = cancelled-by r.kind serial pdu k e

-- ---- by where the connection stands

-- no resynchronization is without its answer
free-open : (s : SessionState) → is_free s ≡ true → is_associated s.phase ≡ true
free-open s e = open-associated s.phase (and_parts (is_open s.phase) (is_none s.resync) e).0

data-free : (own : TokenSide) (offer : Bool) (s : SessionState) (pass : Bool) (octets : List ℕ) → is_allowed own offer s (say.Data pass octets) ≡ true → is_associated s.phase ≡ true
data-free own offer s pass octets e = free-open s (and_parts (is_free s) (if pass then s.agreed && is_side s.token own else true) e).0

resync-free : (own : TokenSide) (offer : Bool) (s : SessionState) (kind : ResyncKind) (serial : ℕ) (token : Option TokenSide) (octets : List ℕ)
    → is_allowed own offer s (say.Resync kind serial token octets) ≡ true → is_associated s.phase ≡ true
resync-free own offer s kind serial token octets e =
    let a = and_parts (is_free s && s.agreed && numbers_rightly kind s serial && is_serial serial) (names_rightly kind s token) e in
    let b = and_parts (is_free s && s.agreed && numbers_rightly kind s serial) (is_serial serial) a.0 in
    let c = and_parts (is_free s && s.agreed) (numbers_rightly kind s serial) b.0 in
    free-open s (and_parts (is_free s) s.agreed c.0).0

resynced-open : (own : TokenSide) (offer : Bool) (s : SessionState) (serial : ℕ) (token : Option TokenSide) (octets : List ℕ)
    → is_allowed own offer s (say.Resynced serial token octets) ≡ true → is_associated s.phase ≡ true
resynced-open own offer s serial token octets e =
    let a = and_parts (is_open s.phase && is_serial serial) (answers_rightly own s s.resync serial token) e in
    open-associated s.phase (and_parts (is_open s.phase) (is_serial serial) a.0).0

accept-called : (own : TokenSide) (offer sync : Bool) (s : SessionState) (serial : ℕ) (octets : List ℕ) → is_allowed own offer s (say.Accept sync serial octets) ≡ true → own ≡ Responder
accept-called own offer sync s serial octets e =
    let a = and_parts (is_side own Responder && is_asked s.phase && (if sync then s.proposed else true)) (nat_eq serial s.first) e in
    let b = and_parts (is_side own Responder && is_asked s.phase) (if sync then s.proposed else true) a.0 in
    called-side own (and_parts (is_side own Responder) (is_asked s.phase) b.0).0

refuse-called : (own : TokenSide) (offer : Bool) (s : SessionState) (octets : List ℕ) → is_allowed own offer s (say.Refuse octets) ≡ true → own ≡ Responder
refuse-called own offer s octets e = called-side own (and_parts (is_side own Responder) (is_asked s.phase) e).0

cancel-itself : (own : TokenSide) (offer : Bool) (s f : Standing) (pdu : Pdu) (b : Bool) → Shares own s f → s.state.agreed ≡ b → IsDue (nat_eq (number_of pdu) 37) pdu
    → IsWritable (primitives.Data (pdu_carried s.accepted pdu ∷ [])) s.accepted
    → is_allowed own offer s.state (if b then say.Resync kinds.Abandon s.state.next (Some Initiator) (in_sequence s pdu) else say.Data false (octets_of s (Cancel pdu))) ≡ true
    → unit_told f (if b then say.Resync kinds.Abandon s.state.next (Some Initiator) (in_sequence s pdu) else say.Data false (octets_of s (Cancel pdu)))
    ≡ just (if b then indications.Cancel pdu else indications.Item (items.Pdu pdu))
cancel-itself own offer s f pdu true shares e c w may =
    let same = shares.accepted_are (resync-free own offer s.state kinds.Abandon s.state.next (Some Initiator) (in_sequence s pdu) may) in
    resync-itself s f kinds.Abandon s.state.next (Some Initiator) pdu (indications.Cancel pdu) shares.are_identifiers same c.1 (few-by 37 few-37 pdu c.0 c.1) w
    (due-is (nat_eq (number_of pdu) 37) (indications.Cancel pdu) c.0)
cancel-itself own offer s f pdu false shares e c w may =
    let same = shares.accepted_are (data-free own offer s.state false (octets_of s (Cancel pdu)) may) in
    pdu-itself s f false pdu shares.are_identifiers same (plain-goes f.state.agreed pdu 37 (sym shares.agreed_is ∙ e) c.0 refl, c.1) w

cancelled-itself : (own : TokenSide) (offer : Bool) (s f : Standing) (pdu : Pdu) (serial : ℕ) (b : Bool) → Shares own s f → s.state.agreed ≡ b → IsDue (nat_eq (number_of pdu) 38) pdu
    → IsWritable (primitives.Data (pdu_carried s.accepted pdu ∷ [])) s.accepted → (if b then waits kinds.Abandon s.state.resync else true) ≡ true
    → is_allowed own offer s.state (if b then say.Resynced serial (Some Initiator) (in_sequence s pdu) else say.Data false (octets_of s (Cancelled pdu))) ≡ true
    → unit_told f (if b then say.Resynced serial (Some Initiator) (in_sequence s pdu) else say.Data false (octets_of s (Cancelled pdu)))
    ≡ just (if b then indications.Cancelled pdu else indications.Item (items.Pdu pdu))
cancelled-itself own offer s f pdu serial true shares e c w suited may =
    let same = shares.accepted_are (resynced-open own offer s.state serial (Some Initiator) (in_sequence s pdu) may) in
    let waiting : waits kinds.Abandon f.state.resync ≡ true = ap (waits kinds.Abandon) (sym shares.resync_is) ∙ suited in
    resynced-itself s f serial (Some Initiator) pdu (indications.Cancelled pdu) shares.are_identifiers same c.1 (few-by 38 few-38 pdu c.0 c.1) w
    (cancelled-told f.state.resync serial pdu waiting c.0)
cancelled-itself own offer s f pdu serial false shares e c w suited may =
    let same = shares.accepted_are (data-free own offer s.state false (octets_of s (Cancelled pdu)) may) in
    pdu-itself s f false pdu shares.are_identifiers same (plain-goes f.state.agreed pdu 38 (sym shares.agreed_is ∙ e) c.0 refl, c.1) w

-- ---- each request

abbrev pub told_by : List Indication → Told
told_by told = record { indications = told; fault = None }

tells-itself : (own : TokenSide) (offer : Bool) (s f : Standing) (request : Request) → Shares own s f → is_allowed own offer s.state (unit_of own s request) ≡ true → IsSendable own s request
    → unit_told f (unit_of own s request) ≡ told_by (told_of s.state.agreed request)
tells-itself own offer s f (Associate sync pdu) shares may send = associate-itself s f sync pdu send.carried send.is_written
tells-itself own offer s f (Accept sync pdu) shares may send =
    accept-itself own s f sync s.state.first pdu shares (accept-called own offer sync s.state s.state.first (octets_of s (Accept sync pdu)) may) send.carried send.is_written
tells-itself own offer s f (Refuse None) shares may send = refl
tells-itself own offer s f (Refuse (Some pdu)) shares may send =
    refuse-itself own s f pdu shares (refuse-called own offer s.state (octets_of s (Refuse (Some pdu))) may) send.carried send.is_written
tells-itself own offer s f (Release pdu) shares may send =
    release-itself s f pdu shares.are_identifiers (shares.accepted_are (free-open s.state may)) send.carried send.is_written
tells-itself own offer s f (Released pdu) shares may send =
    released-itself s f pdu shares.are_identifiers (shares.accepted_are (left-associated s.state.phase may)) send.carried send.is_written
tells-itself own offer s f (Item (items.Pdu pdu)) shares may send =
    let pass = passes own s (Item (items.Pdu pdu)) in
    let c = send.carried in
    let same = shares.accepted_are (data-free own offer s.state pass (octets_of s (Item (items.Pdu pdu))) may) in
    let goes : goes_in_data f.state.agreed (number_of pdu) ≡ true = ap (λ (b : Bool). goes_in_data b (number_of pdu)) (sym shares.agreed_is) ∙ c.0 in
    pdu-itself s f pass pdu shares.are_identifiers same (goes, c.1) send.is_written
tells-itself own offer s f (Item (items.Element element)) shares may send =
    let pass = passes own s (Item (items.Element element)) in
    let same = shares.accepted_are (data-free own offer s.state pass (octets_of s (Item (items.Element element))) may) in
    element-itself s f pass element shares.are_identifiers same send.carried send.is_written
tells-itself own offer s f (Check serial) shares may send = refl
tells-itself own offer s f (Acknowledge serial) shares may send = refl
tells-itself own offer s f (Restart serial pdu) shares may send =
    let c = send.carried in
    let same = shares.accepted_are (resync-free own offer s.state kinds.Restart serial (Some s.state.token) (in_sequence s pdu) may) in
    resync-itself s f kinds.Restart serial (Some s.state.token) pdu (indications.Restart serial pdu) shares.are_identifiers same c.1 (few-by 39 few-39 pdu c.0 c.1) send.is_written
    (due-is (nat_eq (number_of pdu) 39) (indications.Restart serial pdu) c.0)
tells-itself own offer s f (Restarted serial pdu) shares may send =
    let c = send.carried in
    let same = shares.accepted_are (resynced-open own offer s.state serial (Some s.state.token) (in_sequence s pdu) may) in
    let waiting : waits kinds.Restart f.state.resync ≡ true = ap (waits kinds.Restart) (sym shares.resync_is) ∙ send.suited in
    resynced-itself s f serial (Some s.state.token) pdu (indications.Restarted serial pdu) shares.are_identifiers same c.1 (few-by 40 few-40 pdu c.0 c.1) send.is_written
    (restarted-told f.state.resync serial pdu waiting c.0)
tells-itself own offer s f (Cancel pdu) shares may send = cancel-itself own offer s f pdu s.state.agreed shares refl send.carried send.is_written may
tells-itself own offer s f (Cancelled pdu) shares may send =
    cancelled-itself own offer s f pdu (answer_to s.state.resync s.state.next) s.state.agreed shares refl send.carried send.is_written send.suited may
tells-itself own offer s f (Abort None) shares may send = refl
tells-itself own offer s f (Abort (Some pdu)) shares may send =
    abort-itself s f pdu shares.are_identifiers (shares.accepted_are send.suited) send.carried send.is_written
tells-itself own offer s f Pass shares may send = refl

-- ---- two ends

pub request-itself : (own : TokenSide) (offer far_offer : Bool) (a far : Association) (request : Request) → TellsItself own offer far_offer a far request
request-itself own offer far_offer a far request together goes may room share =
    let trace = a.exchange.trace in
    let s = standing own trace in
    let f = standing (other own) far.exchange.trace in
    let shares : Shares own s f = record {
      offers_are = share.proposed_are;
      accepted_are = share.accepted_are;
      are_identifiers = share.are_identifiers;
      are_counted = proposals-counted trace;
      called_accepts = λ called. ap (λ (side : TokenSide). accepted side trace) called ∙ called-accepts trace;
      agreed_is = together.agree.agreed_is;
      resync_is = together.agree.resync_is;
    } in
    let P : Ending → Type 0 = λ ending. permits own offer (state own trace) (unit_sent own a request) ending ≡ true in
    let allowed = (and_parts (is_allowed own offer (state own trace) (unit_sent own a request)) (fits own (unit_sent own a request)) (subst P goes may.permitted)).0 in
    request-received own offer far_offer a far request (told_of s.state.agreed request) together goes may room (tells-itself own offer s f request shares allowed may.sendable)
