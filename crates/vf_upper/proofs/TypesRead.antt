-- Each type of presentation and ACSE, as it is written, is read.
use Rattle.std.proofs.Common.{◌≡◌, ℕ, Bool, true, false, List, [], ◌∷◌, ◌++◌, All, flat_map, map, refl, ap, ◌∙◌}
use Rattle.std.specs.Prelude.{ℤ, pos, nat_eq, None, Some, Ok, if◌then◌else◌}
use Rattle.std.proofs.lemmas.List.Elements.{All-cons, All-nil}
use Rattle.vf_base.specs.Oid.{IsOid}
use Rattle.vf_ber.specs.Contents.{integer_octets, oid_octets}
use Rattle.vf_ber.specs.Tree.{Tree, plain, root}
use Rattle.vf_upper.specs.declared.contexts.ContextEntry.{ContextEntry}
use Rattle.vf_upper.specs.declared.contexts.Offer.{Offer}
use Rattle.vf_upper.specs.CarriedCode.{Carried}
use Rattle.vf_upper.specs.Laws.{AreCarried, IsCarried, IsIdentifier, IsOffer}
use Rattle.vf_upper.specs.Written.{aare, aarq, abrt, acse_data, acse_id, application_context_name, carried_list, context, external, holding, in_mode, integer, mode_selector, object_identifier, outcome, pdv_list, proposal, rlre, rlrq, source, universal, user_data, user_information}
use Rattle.vf_upper.proofs.Marked.{aare_marks, aarq_marks, acse_marks, carried_marks, offer_marks, outcome_marks, values_marks}
use Rattle.vf_upper.proofs.Parts.{AreParts, first_of, is_low, IsPart}
use Rattle.vf_upper.proofs.Readings.{are_low, AreSound, carried-reads, constructed-reads, exactly-reads, explicit-reads, integer-reads, IsSound, last_field, leading-first, oid-reads, one-reads, Orders, Reads, ReadsOctets, sequence-reads, sequence_of-reads, set-reads, then_field, typed-reads}
use Rattle.vf_upper.proofs.WrittenTrees.{one_fits, two_fits, zero_fits}
use Rattle.vf_upper_grammar.specs.declared.labels.NameLabel.TheVariants.{Abstract, Application, Stated, Transfer}
use Rattle.vf_upper_grammar.specs.declared.labels.NumberLabel.{NumberLabel}
use Rattle.vf_upper_grammar.specs.declared.labels.NumberLabel.TheVariants.{AcseContext, AnyContext, Fixed, Outcome, PciContext, Proposal}
use Rattle.vf_upper_grammar.specs.Forms.{Field, has_tag, in_order, Form, sequence_of, Tags}
use Rattle.vf_upper_grammar.specs.Marks.{Found, Mark, name, number, value}
use Rattle.vf_upper_grammar.specs.Parts.{ends, next, number_of, Part, Parts}
use Rattle.vf_upper_grammar.specs.Syntaxes as syntaxes
use Rattle.vf_upper_grammar.specs.Texts.{OctetForm, carried, carried_data, one, some, typed}
use Rattle.vf_upper_grammar.specs.Types as types

-- ---- values in contexts

pdv_list-reads : (label : NumberLabel) (read : Form) (id : ℤ) (tree : Tree) (marks : List Mark) → IsIdentifier id → Reads read (holding (context 0) (tree ∷ [])) marks
    → Reads (types.pdv_list label read) (pdv_list id tree) (number label id ∷ marks)
pdv_list-reads label read id tree marks fits reads = exactly-reads refl refl (then_field refl (integer-reads None label refl refl fits) (last_field refl refl reads))

carried_data-reads : (tree : Tree) → Reads carried_data (holding (context 0) (tree ∷ [])) (value tree ∷ [])
carried_data-reads tree = record { finds = data-found }
  where
    one_if : Bool → Part → List Mark → Found
    one_if b part found = if b then carried one part found else carried some part found

    data-found : (part : Part) (found : List Mark) → IsSound (holding (context 0) (tree ∷ [])) → IsPart (holding (context 0) (tree ∷ [])) part
        → carried_data part found ≡ Ok (found ++ value tree ∷ [])
    data-found part found sound is =
        let reads : Reads (carried one) (holding (context 0) (tree ∷ [])) (value tree ∷ []) = carried-reads one-reads in
        ap (λ first. one_if (nat_eq (number_of first) 0) part found) is.first ∙ reads.finds part found sound is

pub all_data-reads : (values : List Carried) → AreCarried values → Reads types.all_data (user_data (map carried_list values)) (values_marks AnyContext values)
all_data-reads values are =
    sequence_of-reads IsCarried (types.universal 16) (types.pdv_list AnyContext carried_data) carried_list (carried_marks AnyContext) values refl (λ v. refl) (λ v. refl)
    (λ v is. pdv_list-reads AnyContext carried_data v.context v.tree (value v.tree ∷ []) is.0 (carried_data-reads v.tree)) are

one_data-reads : (label : NumberLabel) (form : OctetForm) (id : ℤ) (tree : Tree) (marks : List Mark) → IsIdentifier id → ReadsOctets form tree marks
    → Reads (types.one_data label form) (user_data (pdv_list id tree ∷ [])) (number label id ∷ marks)
one_data-reads label form id tree marks fits reads = exactly-reads refl refl (last_field refl refl (pdv_list-reads label (carried form) id tree marks fits (carried-reads reads)))

external-reads : (label : NumberLabel) (v : Carried) → IsCarried v → Reads (types.external label) (external v) (carried_marks label v)
external-reads label v is = exactly-reads refl refl (then_field refl (integer-reads None label refl refl is.0) (last_field refl refl (carried-reads one-reads)))

user_information-reads : (label : NumberLabel) (v : Carried) → IsCarried v → Reads (types.user_information label) (user_information (v ∷ [])) (carried_marks label v)
user_information-reads label v is = exactly-reads refl refl (last_field refl refl (external-reads label v is))

-- ---- ACSE

name-reads : Reads types.application_context_name application_context_name (name Application syntaxes.ftam ∷ [])
name-reads = explicit-reads (types.universal 6) _ refl refl refl (oid-reads None Application refl refl refl)

fixed-reads : (n : ℕ) → nat_eq n n ≡ true → IsIdentifier (pos n) → Reads (types.explicit (types.universal 2) (types.fixed n)) (holding (context 2) (integer (pos n) ∷ [])) (number Fixed (pos n) ∷ [])
fixed-reads n same fits = explicit-reads (types.universal 2) _ refl refl refl (integer-reads (Some n) Fixed refl same fits)

source-reads : Reads (types.explicit (types.context 1) (types.explicit (types.universal 2) (types.fixed 0))) source (number Fixed (pos 0) ∷ [])
source-reads = explicit-reads (types.context 1) _ refl refl refl (explicit-reads (types.universal 2) _ refl refl refl (integer-reads (Some 0) Fixed refl refl zero_fits))

aarq-reads : (v : Carried) → IsCarried v → Reads types.aarq (aarq (v ∷ [])) (aarq_marks (v ∷ []))
aarq-reads v is = sequence-reads refl refl (then_field refl name-reads (last_field refl refl (user_information-reads PciContext v is)))

aare-reads : (n : ℕ) (v : Carried) → nat_eq n n ≡ true → IsIdentifier (pos n) → IsCarried v → Reads (types.aare n) (aare (pos n) (v ∷ [])) (aare_marks (pos n) (v ∷ []))
aare-reads n v same fits is =
    sequence-reads refl refl (then_field refl name-reads (then_field refl (fixed-reads n same fits) (then_field refl source-reads (last_field refl refl (user_information-reads PciContext v is)))))

pub rlrq-reads : (v : Carried) → IsCarried v → Reads types.release (rlrq (v ∷ [])) (values_marks AnyContext (v ∷ []))
rlrq-reads v is = sequence-reads refl refl (last_field refl refl (user_information-reads AnyContext v is))

pub rlre-reads : (v : Carried) → IsCarried v → Reads types.release (rlre (v ∷ [])) (values_marks AnyContext (v ∷ []))
rlre-reads v is = sequence-reads refl refl (last_field refl refl (user_information-reads AnyContext v is))

abrt-reads : (v : Carried) → IsCarried v → Reads types.abrt (abrt (v ∷ [])) (number Fixed (pos 0) ∷ values_marks AnyContext (v ∷ []))
abrt-reads v is = sequence-reads refl refl (then_field refl (integer-reads (Some 0) Fixed refl refl zero_fits) (last_field refl refl (user_information-reads AnyContext v is)))

pub acse_data-reads : (tags : Tags) (read : Form) (contexts : List ContextEntry) (tree : Tree) (marks : List Mark) → IsIdentifier (acse_id contexts)
    → has_tag tags (first_of tree) ≡ true → is_low (root tree) ≡ true → Reads read tree marks → Reads (types.acse_data tags read) (acse_data contexts tree) (acse_marks contexts marks)
acse_data-reads tags read contexts tree marks fits has low reads = one_data-reads AcseContext (typed tags read) (acse_id contexts) tree marks fits (typed-reads tags read has low reads)

-- ---- presentation

mode-reads : Reads types.mode_selector mode_selector (number Fixed (pos 1) ∷ [])
mode-reads = sequence-reads refl refl (last_field refl refl (integer-reads (Some 1) Fixed refl refl one_fits))

transfer-reads : Reads types.transfer_syntaxes (holding (universal 16) (object_identifier syntaxes.ber ∷ [])) (name Transfer syntaxes.ber ∷ [])
transfer-reads =
    sequence_of-reads IsOid (types.universal 6) _ object_identifier (λ arcs. name Transfer arcs ∷ []) (syntaxes.ber ∷ []) refl (λ arcs. refl) (λ arcs. refl)
    (λ arcs is. oid-reads None Transfer refl refl is) (All-cons IsOid syntaxes.ber [] refl (All-nil IsOid))

proposal-reads : (offer : Offer) → IsOffer offer → Reads types.proposal (proposal offer) (offer_marks offer)
proposal-reads offer is =
    exactly-reads refl refl (then_field refl (integer-reads None Proposal refl refl is.0) (then_field refl (oid-reads None Abstract refl refl is.1) (last_field refl refl transfer-reads)))

-- the fields by which an entry of the result list is read
abbrev fields_if : Bool → List Field
fields_if b = if b then types.refused_outcome else types.accepted_outcome

abbrev refuses_if : Bool → Part → Bool
refuses_if b part = if b then types.is_two part.contents.octets else false

-- its outcome is told by the first field's octets
outcome-by : (refused : Bool) (octets : List ℕ) (ts : List Tree) (marks : List Mark) → types.is_two octets ≡ refused → are_low ts ≡ true
    → Orders (fields_if refused) (plain (context 0) octets ∷ ts) marks → Reads types.outcome (holding (universal 16) (plain (context 0) octets ∷ ts)) marks
outcome-by refused octets ts marks two low orders = constructed-reads {ts = plain (context 0) octets ∷ ts} refl low (record { finds = outcome-found })
  where
    outcome-found : (parts : Parts) (found : List Mark) → AreSound (plain (context 0) octets ∷ ts) → AreParts (plain (context 0) octets ∷ ts) parts
        → in_order parts true (types.outcome_fields parts) (types.outcome_fields parts) found ≡ Ok (found ++ marks)
    outcome-found (ends place) found sound are = absurd are
    outcome-found (next part parts) found sound are =
        let first = leading-first types.accepted_outcome part parts (first_of (plain (context 0) octets)) are.0.first refl in
        let told : types.refuses (Some part) ≡ refused =
        ap (λ first. refuses_if (nat_eq first 128) part) are.0.first ∙ ap types.is_two are.0.octets ∙ two in
        let same : types.outcome_fields (next part parts) ≡ fields_if refused = ap (λ p. fields_if (types.refuses p)) first ∙ ap fields_if told in
        ap (λ o. in_order (next part parts) true o o found) same ∙ orders.finds true (fields_if refused) (next part parts) found sound are

outcome-reads : (accepted : Bool) → Reads types.outcome (outcome accepted) (outcome_marks accepted)
outcome-reads true =
    outcome-by false (integer_octets (pos 0)) (plain (context 1) (oid_octets syntaxes.ber) ∷ []) (outcome_marks true) refl refl
    (then_field refl (integer-reads (Some 0) Outcome refl refl zero_fits) (last_field refl refl (oid-reads (Some syntaxes.ber) Stated refl refl refl)))
outcome-reads false =
    outcome-by true (integer_octets (pos 2)) [] (outcome_marks false) refl refl (last_field refl refl (integer-reads (Some 2) Outcome refl refl two_fits))

outcomes-reads : (results : List Bool) → Reads (sequence_of (types.universal 16) types.outcome) (holding (context 5) (map outcome results)) (flat_map outcome_marks results)
outcomes-reads results =
    sequence_of-reads (λ b. Unit {0}) (types.universal 16) types.outcome outcome outcome_marks results refl outcome-low outcome-tag (λ b is. outcome-reads b) (λ k d lt. tt)
  where
    outcome-low : (b : Bool) → is_low (root (outcome b)) ≡ true
    outcome-low true = refl
    outcome-low false = refl

    outcome-tag : (b : Bool) → has_tag (types.universal 16) (first_of (outcome b)) ≡ true
    outcome-tag true = refl
    outcome-tag false = refl

proposals-reads : (offers : List Offer) → All IsOffer offers → Reads (sequence_of (types.universal 16) types.proposal) (holding (context 4) (map proposal offers)) (flat_map offer_marks offers)
proposals-reads offers are =
    sequence_of-reads IsOffer (types.universal 16) types.proposal proposal offer_marks offers refl (λ o. refl) (λ o. refl) proposal-reads are

-- ---- user data

pub cp-reads : (offers : List Offer) (contexts : List ContextEntry) (v : Carried) → All IsOffer offers → IsIdentifier (acse_id contexts) → IsCarried v
    → Reads types.cp (in_mode (holding (context 4) (map proposal offers) ∷ acse_data contexts (aarq (v ∷ [])) ∷ []))
    (number Fixed (pos 1) ∷ (flat_map offer_marks offers ++ acse_marks contexts (aarq_marks (v ∷ []))))
cp-reads offers contexts v are fits is =
    let apdu = acse_data-reads (types.application 0) types.aarq contexts (aarq (v ∷ [])) (aarq_marks (v ∷ [])) fits refl refl (aarq-reads v is) in
    set-reads refl refl refl refl (then_field refl mode-reads (last_field refl refl (sequence-reads refl refl (then_field refl (proposals-reads offers are) (last_field refl refl apdu)))))

response-orders : (n : ℕ) (results : List Bool) (contexts : List ContextEntry) (v : Carried) → nat_eq n n ≡ true → IsIdentifier (pos n) → IsIdentifier (acse_id contexts) → IsCarried v
    → Orders (types.response n) (holding (context 5) (map outcome results) ∷ acse_data contexts (aare (pos n) (v ∷ [])) ∷ [])
    (flat_map outcome_marks results ++ acse_marks contexts (aare_marks (pos n) (v ∷ [])))
response-orders n results contexts v same small fits is =
    let apdu = acse_data-reads (types.application 1) (types.aare n) contexts (aare (pos n) (v ∷ [])) (aare_marks (pos n) (v ∷ [])) fits refl refl (aare-reads n v same small is) in
    then_field refl (outcomes-reads results) (last_field refl refl apdu)

pub cpa-reads : (results : List Bool) (contexts : List ContextEntry) (v : Carried) → IsIdentifier (acse_id contexts) → IsCarried v
    → Reads types.cpa (in_mode (holding (context 5) (map outcome results) ∷ acse_data contexts (aare (pos 0) (v ∷ [])) ∷ []))
    (number Fixed (pos 1) ∷ (flat_map outcome_marks results ++ acse_marks contexts (aare_marks (pos 0) (v ∷ []))))
cpa-reads results contexts v fits is =
    set-reads refl refl refl refl
    (then_field refl mode-reads (last_field refl refl (sequence-reads refl refl (response-orders 0 results contexts v refl zero_fits fits is))))

pub cpr-reads : (results : List Bool) (contexts : List ContextEntry) (v : Carried) → IsIdentifier (acse_id contexts) → IsCarried v
    → Reads types.cpr (holding (universal 16) (holding (context 5) (map outcome results) ∷ acse_data contexts (aare (pos 1) (v ∷ [])) ∷ []))
    (flat_map outcome_marks results ++ acse_marks contexts (aare_marks (pos 1) (v ∷ [])))
cpr-reads results contexts v fits is = sequence-reads refl refl (response-orders 1 results contexts v refl one_fits fits is)

pub aru-reads : (contexts : List ContextEntry) (v : Carried) → IsIdentifier (acse_id contexts) → IsCarried v
    → Reads types.aru (holding (context 0) (acse_data contexts (abrt (v ∷ [])) ∷ [])) (acse_marks contexts (number Fixed (pos 0) ∷ values_marks AnyContext (v ∷ [])))
aru-reads contexts v fits is =
    sequence-reads refl refl
    (last_field refl refl (acse_data-reads (types.application 4) types.abrt contexts (abrt (v ∷ [])) (number Fixed (pos 0) ∷ values_marks AnyContext (v ∷ [])) fits refl refl (abrt-reads v is)))

pub resynchronization-reads : (v : Carried) → IsCarried v
    → Reads types.resynchronization (holding (universal 16) (user_data (carried_list v ∷ []) ∷ [])) (values_marks AnyContext (v ∷ []))
resynchronization-reads v is = sequence-reads refl refl (last_field refl refl (one_data-reads AnyContext one v.context v.tree (value v.tree ∷ []) is.0 one-reads))
