-- The primitive that was written is recovered from what is found.
use Rattle.std.proofs.Common.{◌≡◌, ℕ, ◌≤◌, Bool, true, false, List, [], ◌∷◌, ◌++◌, length, map, refl, ap, sym, subst, ◌∙◌, arith, length-append}
use Rattle.std.specs.Prelude.{ℤ, pos, None, Ok, if◌then◌else◌}
use Rattle.std.specs.List.{flat_map, list_all}
use Rattle.std.proofs.lemmas.Bool.{and_parts}
use Rattle.vf_base.specs.declared.spdu_kind.SpduKind.{SpduKind}
use Rattle.vf_base.specs.declared.spdu_kind.SpduKind.TheVariants.{CN, AC, RF, FN, DN, AB, DT, RS, RA}
use Rattle.vf_ber.specs.Spelling.{spell}
use Rattle.vf_ber.specs.Tree.{Tree, plain, built}
use Rattle.vf_ber.proofs.Names.{identifier_some}
use Rattle.vf_upper_grammar.specs.declared.labels.NumberLabel.{NumberLabel}
use Rattle.vf_upper_grammar.specs.declared.labels.NumberLabel.TheVariants.{AcseContext, PciContext, AnyContext}
use Rattle.vf_upper_grammar.specs.Marks.{Mark, number}
use Rattle.vf_upper_grammar.specs.Types.{user_data_of, found_in}
use Rattle.vf_upper.specs.declared.contexts.ContextEntry.{ContextEntry}
use Rattle.vf_upper.specs.declared.contexts.Offer.{Offer}
use Rattle.vf_upper.specs.declared.primitive.Primitive.{Primitive}
use Rattle.vf_upper.specs.declared.primitive.Primitive.TheVariants.{Associate, Accepted, Refused, Release, Released, Data, Abort}
use Rattle.vf_upper.specs.CarriedCode.{Carried}
use Rattle.vf_upper.specs.Laws.{AreContexts, AreHeard, carrier_of, IsPrimitive, IsReadAgain, IsReadInResynchronizations, IsReadInSequence, SameContexts}
use Rattle.vf_upper.specs.Primitives.{answered, is_bare, is_context, is_proposal, is_suited, offered, offers_from, offers_of, primitive_of, reading, refusal, results_of, Negotiated, negotiated_in, syntax_of, admitted, values_from, values_of}
use Rattle.vf_upper.specs.Written.{accepted, acse_id, has_pdu, holding, is_empty, is_placed, IsWritable, suits_in, universal, user_octets, written}
use Rattle.vf_upper.proofs.Grammar.{sequence_found, written_found}
use Rattle.vf_upper.proofs.Marked.{aare_marks, aarq_marks, acse_marks, marks_of, offer_marks, outcome_marks, values_marks}

-- ---- what is found gives back what was written

offers_found : (id : ℤ) (offers : List Offer) (marks : List Mark) → list_all (λ offer. offer.ber) offers ≡ true
    → ((last : ℤ) → offers_from last marks ≡ []) → offers_from id (flat_map offer_marks offers ++ marks) ≡ offers
offers_found id [] marks all none = none id
offers_found id (offer ∷ offers) marks all none =
    let both = and_parts offer.ber (list_all (λ offer. offer.ber) offers) all in
    let same : record { id = offer.id; syntax = offer.syntax; ber = true } ≡ offer = ap (λ ber. record offer { ber = ber }) (sym both.0) in
    ap (λ first. first ∷ offers_from offer.id (flat_map offer_marks offers ++ marks)) same ∙ ap (λ others. offer ∷ others) (offers_found offer.id offers marks both.1 none)

results_found : (results : List Bool) (marks : List Mark) → results_of marks ≡ [] → results_of (flat_map outcome_marks results ++ marks) ≡ results
results_found [] marks none = none
results_found (true ∷ results) marks none = ap (λ others. true ∷ others) (results_found results marks none)
results_found (false ∷ results) marks none = ap (λ others. false ∷ others) (results_found results marks none)

values_found : (context : ℤ) (label : NumberLabel) (values : List Carried) → is_context label ≡ true → values_from context (values_marks label values) ≡ values
values_found context label [] is = refl
values_found context label (carried ∷ values) is = rw is (ap (λ others. carried ∷ others) (values_found carried.context label values is))

-- values have no proposals and no results
no_offers : (id : ℤ) (label : NumberLabel) (values : List Carried) → offers_from id (values_marks label values) ≡ []
no_offers id label [] = refl
no_offers id label (carried ∷ values) = no_offers (if is_proposal label then carried.context else id) label values

no_results : (values : List Carried) → results_of (values_marks PciContext values) ≡ []
no_results [] = refl
no_results (carried ∷ values) = no_results values

-- proposals and results have no values, and none of them is a reason to take nothing
values_after_offers : (context : ℤ) (offers : List Offer) (marks : List Mark) → values_from context (flat_map offer_marks offers ++ marks) ≡ values_from context marks
values_after_offers context [] marks = refl
values_after_offers context (offer ∷ offers) marks = values_after_offers context offers marks

values_after_results : (context : ℤ) (results : List Bool) (marks : List Mark) → values_from context (flat_map outcome_marks results ++ marks) ≡ values_from context marks
values_after_results context [] marks = refl
values_after_results context (true ∷ results) marks = values_after_results context results marks
values_after_results context (false ∷ results) marks = values_after_results context results marks

refusal_after_offers : (negotiated : List Negotiated) (offers : List Offer) (marks : List Mark) → refusal negotiated (flat_map offer_marks offers ++ marks) ≡ refusal negotiated marks
refusal_after_offers negotiated [] marks = refl
refusal_after_offers negotiated (offer ∷ offers) marks = refusal_after_offers negotiated offers marks

refusal_after_results : (negotiated : List Negotiated) (results : List Bool) (marks : List Mark) → refusal negotiated (flat_map outcome_marks results ++ marks) ≡ refusal negotiated marks
refusal_after_results negotiated [] marks = refl
refusal_after_results negotiated (true ∷ results) marks = refusal_after_results negotiated results marks
refusal_after_results negotiated (false ∷ results) marks = refusal_after_results negotiated results marks

-- ---- nothing that is found is a reason to take nothing

suited_values : (negotiated others : List Negotiated) (label : NumberLabel) (values : List Carried) → is_context label ≡ true → SameContexts negotiated others
    → list_all (λ carried. suits_in others label carried.context) values ≡ true → refusal negotiated (values_marks label values) ≡ None
suited_values negotiated others label [] is same all = refl
suited_values negotiated others label (carried ∷ values) is same all =
    let both = and_parts (suits_in others label carried.context) (list_all (λ carried. suits_in others label carried.context) values) all in
    let suits : is_suited label (syntax_of carried.context negotiated) ≡ true = ap (is_suited label) (same carried.context) ∙ both.0 in
    rw (is, suits) (suited_values negotiated others label values is same both.1)

-- there is a PDU in a context that suits it, and the ACSE value that it stands in has one too
pdu_parts : (negotiated : List Negotiated) (contexts : List ContextEntry) (label : NumberLabel) (values : List Carried) → has_pdu negotiated contexts label values ≡ true
    → (suits_in negotiated AcseContext (acse_id contexts) ≡ true) × (list_all (λ carried. suits_in negotiated label carried.context) values ≡ true)
pdu_parts negotiated contexts label [] has = absurd (cc)
pdu_parts negotiated contexts label (carried ∷ []) has =
    let both = and_parts (suits_in negotiated AcseContext (acse_id contexts)) (suits_in negotiated label carried.context) has in
    (both.0, rw both.1)
pdu_parts negotiated contexts label (carried ∷ other ∷ values) has = absurd (cc)

suited_pdu : (negotiated others : List Negotiated) (contexts : List ContextEntry) (label : NumberLabel) (values : List Carried) → is_context label ≡ true → SameContexts negotiated others
    → has_pdu others contexts label values ≡ true → refusal negotiated (number AcseContext (acse_id contexts) ∷ values_marks label values) ≡ None
suited_pdu negotiated others contexts label values is same has =
    let parts = pdu_parts others contexts label values has in
    let suits : is_suited AcseContext (syntax_of (acse_id contexts) negotiated) ≡ true = ap (is_suited AcseContext) (same (acse_id contexts)) ∙ parts.0 in
    rw suits (suited_values negotiated others label values is same parts.1)

-- ---- so that the primitive is admitted

admitted_as : (kind : SpduKind) (negotiated : List Negotiated) (marks : List Mark) (primitive : Primitive) → refusal negotiated marks ≡ None → primitive_of kind marks ≡ primitive
    → admitted kind marks (refusal negotiated marks) ≡ Ok primitive
admitted_as kind negotiated marks primitive none is = ap (admitted kind marks) none ∙ ap (λ p. Ok p) is

-- what is admitted of this kind, with these contexts, of what is found
abbrev IsAdmittedWith : SpduKind → List ContextEntry → List Mark → Primitive → Type 0
IsAdmittedWith kind heard marks primitive = admitted kind marks (refusal (negotiated_in kind heard marks) marks) ≡ Ok primitive

associate_admitted : (offers : List Offer) (values : List Carried) (contexts heard : List ContextEntry) → is_placed (Associate offers values) contexts ≡ true
    → IsAdmittedWith CN heard (marks_of (Associate offers values) contexts) (Associate offers values)
associate_admitted offers values contexts heard placed =
    let marks = marks_of (Associate offers values) contexts in
    let pdu = acse_marks contexts (aarq_marks values) in
    let both = and_parts (list_all (λ offer. offer.ber) offers) (has_pdu (map offered offers) contexts PciContext values) placed in
    let again : offers_of marks ≡ offers = offers_found (pos 0) offers pdu both.0 (λ last. no_offers last PciContext values) in
    let same : SameContexts (map offered (offers_of marks)) (map offered offers) = λ id. ap (λ offers. syntax_of id (map offered offers)) again in
    let values_again : values_of marks ≡ values = values_after_offers (pos 0) offers pdu ∙ values_found (acse_id contexts) PciContext values refl in
    let none : refusal (map offered (offers_of marks)) marks ≡ None =
    refusal_after_offers (map offered (offers_of marks)) offers pdu ∙ suited_pdu (map offered (offers_of marks)) (map offered offers) contexts PciContext values refl same both.1 in
    admitted_as CN (map offered (offers_of marks)) marks (Associate offers values) none (cc)

-- what is found in an acceptance after its mode, and in a refusal
abbrev answer_marks : ℤ → List Bool → List Carried → List ContextEntry → List Mark
answer_marks result results values contexts = flat_map outcome_marks results ++ acse_marks contexts (aare_marks result values)

answer_results : (result : ℤ) (results : List Bool) (values : List Carried) (contexts : List ContextEntry) → results_of (answer_marks result results values contexts) ≡ results
answer_results result results values contexts = results_found results (acse_marks contexts (aare_marks result values)) (no_results values)

answer_values : (result : ℤ) (results : List Bool) (values : List Carried) (contexts : List ContextEntry) → values_of (answer_marks result results values contexts) ≡ values
answer_values result results values contexts =
    values_after_results (pos 0) results (acse_marks contexts (aare_marks result values)) ∙ values_found (acse_id contexts) PciContext values refl

answer_refusal : (result : ℤ) (results : List Bool) (values : List Carried) (contexts heard : List ContextEntry) → has_pdu (accepted contexts) contexts PciContext values ≡ true
    → SameContexts (answered heard results) (accepted contexts)
    → refusal (answered heard (results_of (answer_marks result results values contexts))) (answer_marks result results values contexts) ≡ None
answer_refusal result results values contexts heard has same =
    rw (answer_results result results values contexts)
    (refusal_after_results (answered heard results) results (acse_marks contexts (aare_marks result values))
    ∙ suited_pdu (answered heard results) (accepted contexts) contexts PciContext values refl same has)

accepted_admitted : (results : List Bool) (values : List Carried) (contexts heard : List ContextEntry) → has_pdu (accepted contexts) contexts PciContext values ≡ true
    → SameContexts (answered heard results) (accepted contexts) → IsAdmittedWith AC heard (marks_of (Accepted results values) contexts) (Accepted results values)
accepted_admitted results values contexts heard has same =
    let marks = marks_of (Accepted results values) contexts in
    let results_again : results_of marks ≡ results = answer_results (pos 0) results values contexts in
    let values_again : values_of marks ≡ values = answer_values (pos 0) results values contexts in
    admitted_as AC (answered heard (results_of marks)) marks (Accepted results values) (answer_refusal (pos 0) results values contexts heard has same) (cc)

refused_admitted : (results : List Bool) (values : List Carried) (contexts heard : List ContextEntry) → has_pdu (accepted contexts) contexts PciContext values ≡ true
    → SameContexts (answered heard results) (accepted contexts) → IsAdmittedWith RF heard (marks_of (Refused results values) contexts) (Refused results values)
refused_admitted results values contexts heard has same =
    let marks = marks_of (Refused results values) contexts in
    let results_again : results_of marks ≡ results = answer_results (pos 1) results values contexts in
    let values_again : values_of marks ≡ values = answer_values (pos 1) results values contexts in
    admitted_as RF (answered heard (results_of marks)) marks (Refused results values) (answer_refusal (pos 1) results values contexts heard has same) (cc)

-- a PDU after its ACSE context
pdu_refusal : (contexts : List ContextEntry) (values : List Carried) → has_pdu (accepted contexts) contexts AnyContext values ≡ true
    → refusal (accepted contexts) (number AcseContext (acse_id contexts) ∷ values_marks AnyContext values) ≡ None
pdu_refusal contexts values has = suited_pdu (accepted contexts) (accepted contexts) contexts AnyContext values refl (λ id. refl) has

release_admitted : (values : List Carried) (contexts : List ContextEntry) → has_pdu (accepted contexts) contexts AnyContext values ≡ true
    → IsAdmittedWith FN contexts (marks_of (Release values) contexts) (Release values)
release_admitted values contexts has =
    admitted_as FN (accepted contexts) (marks_of (Release values) contexts) (Release values) (pdu_refusal contexts values has) (ap Release (values_found (acse_id contexts) AnyContext values refl))

released_admitted : (values : List Carried) (contexts : List ContextEntry) → has_pdu (accepted contexts) contexts AnyContext values ≡ true
    → IsAdmittedWith DN contexts (marks_of (Released values) contexts) (Released values)
released_admitted values contexts has =
    admitted_as DN (accepted contexts) (marks_of (Released values) contexts) (Released values) (pdu_refusal contexts values has) (ap Released (values_found (acse_id contexts) AnyContext values refl))

abort_admitted : (values : List Carried) (contexts : List ContextEntry) → has_pdu (accepted contexts) contexts AnyContext values ≡ true
    → IsAdmittedWith AB contexts (marks_of (Abort values) contexts) (Abort values)
abort_admitted values contexts has =
    admitted_as AB (accepted contexts) (marks_of (Abort values) contexts) (Abort values) (pdu_refusal contexts values has) (ap Abort (values_found (acse_id contexts) AnyContext values refl))

-- data, of each kind of SPDU that has them
data_admitted : (kind : SpduKind) (values : List Carried) (contexts : List ContextEntry) → is_placed (Data values) contexts ≡ true
    → primitive_of kind (marks_of (Data values) contexts) ≡ Data (values_of (marks_of (Data values) contexts))
    → admitted kind (marks_of (Data values) contexts) (refusal (accepted contexts) (marks_of (Data values) contexts)) ≡ Ok (Data values)
data_admitted kind values contexts placed are_data =
    admitted_as kind (accepted contexts) (marks_of (Data values) contexts) (Data values)
    (suited_values (accepted contexts) (accepted contexts) AnyContext values refl (λ id. refl) placed) (are_data ∙ ap Data (values_found (pos 0) AnyContext values refl))

-- the same where equal contexts are handed in
as_heard : (kind : SpduKind) (p : Primitive) (contexts heard : List ContextEntry) → heard ≡ contexts → IsAdmittedWith kind contexts (marks_of p contexts) p
    → IsAdmittedWith kind heard (marks_of p contexts) p
as_heard kind p contexts heard e takes = subst (λ (h : List ContextEntry). IsAdmittedWith kind h (marks_of p contexts) p) (sym e) takes

-- what is found of a primitive with user data is admitted as this primitive
recovered : (p : Primitive) (contexts heard : List ContextEntry) → is_placed p contexts ≡ true → AreHeard p contexts heard → is_empty p ≡ false
    → IsAdmittedWith (carrier_of p) heard (marks_of p contexts) p
recovered (Associate offers values) contexts heard placed heard_so some = associate_admitted offers values contexts heard placed
recovered (Accepted results values) contexts heard placed heard_so some = accepted_admitted results values contexts heard placed heard_so
recovered (Refused [] []) contexts heard placed heard_so some = absurd (cc)
recovered (Refused [] (carried ∷ values)) contexts heard placed heard_so some = refused_admitted [] (carried ∷ values) contexts heard placed heard_so
recovered (Refused (result ∷ results) values) contexts heard placed heard_so some = refused_admitted (result ∷ results) values contexts heard placed heard_so
recovered (Release values) contexts heard placed heard_so some = as_heard FN (Release values) contexts heard heard_so (release_admitted values contexts placed)
recovered (Released values) contexts heard placed heard_so some = as_heard DN (Released values) contexts heard heard_so (released_admitted values contexts placed)
recovered (Data values) contexts heard placed heard_so some = as_heard DT (Data values) contexts heard heard_so (data_admitted DT values contexts placed refl)
recovered (Abort []) contexts heard placed heard_so some = absurd (cc)
recovered (Abort (carried ∷ values)) contexts heard placed heard_so some = as_heard AB (Abort (carried ∷ values)) contexts heard heard_so (abort_admitted (carried ∷ values) contexts placed)

-- ---- what is spelled isn't wanting, so that it is concluded from what is found

bare_none : (kind : SpduKind) (octets : List ℕ) → 1 ≤ length octets → is_bare kind octets ≡ false
bare_none kind [] some = absurd (omega arith)
bare_none kind (octet ∷ octets) some = refl

spell_some : (tree : Tree) → 1 ≤ length (spell tree)
spell_some (plain tag octets) =
    let some = identifier_some false tag in
    simp (length-append) (omega arith)
spell_some (built tag parts) =
    let some = identifier_some true tag in
    simp (length-append) (omega arith)

read_of : (kind : SpduKind) (heard : List ContextEntry) (tree : Tree) (marks : List Mark) (primitive : Primitive) → found_in (user_data_of kind) (spell tree) ≡ Ok marks
    → IsAdmittedWith kind heard marks primitive → reading kind heard (spell tree) ≡ Ok primitive
read_of kind heard tree marks primitive found takes = rw (bare_none kind (spell tree) (spell_some tree), found) takes

-- ---- the laws

read_some : (p : Primitive) (contexts heard : List ContextEntry) → IsPrimitive p → AreContexts contexts → IsWritable p contexts → AreHeard p contexts heard → is_empty p ≡ false
    → reading (carrier_of p) heard (user_octets p contexts) ≡ Ok p
read_some p contexts heard is are writable heard_so some =
    rw some (read_of (carrier_of p) heard (written p contexts) (marks_of p contexts) p (written_found p contexts is are writable some) (recovered p contexts heard writable.placed heard_so some))

pub read_again : IsReadAgain
read_again (Associate offers values) contexts heard is are writable heard_so = read_some (Associate offers values) contexts heard is are writable heard_so refl
read_again (Accepted results values) contexts heard is are writable heard_so = read_some (Accepted results values) contexts heard is are writable heard_so refl
read_again (Refused [] []) contexts heard is are writable heard_so = refl
read_again (Refused [] (carried ∷ values)) contexts heard is are writable heard_so = read_some (Refused [] (carried ∷ values)) contexts heard is are writable heard_so refl
read_again (Refused (result ∷ results) values) contexts heard is are writable heard_so = read_some (Refused (result ∷ results) values) contexts heard is are writable heard_so refl
read_again (Release values) contexts heard is are writable heard_so = read_some (Release values) contexts heard is are writable heard_so refl
read_again (Released values) contexts heard is are writable heard_so = read_some (Released values) contexts heard is are writable heard_so refl
read_again (Data values) contexts heard is are writable heard_so = read_some (Data values) contexts heard is are writable heard_so refl
read_again (Abort []) contexts heard is are writable heard_so = refl
read_again (Abort (carried ∷ values)) contexts heard is are writable heard_so = read_some (Abort (carried ∷ values)) contexts heard is are writable heard_so refl

-- an SPDU whose user data have the type of those of a resynchronization
in_sequence : (kind : SpduKind) → user_data_of kind ≡ user_data_of RS
    → ((values : List Carried) (contexts : List ContextEntry) → is_placed (Data values) contexts ≡ true → IsAdmittedWith kind contexts (marks_of (Data values) contexts) (Data values))
    → IsReadInSequence kind
in_sequence kind type takes carried contexts is writable small =
    let tree = holding (universal 16) (written (Data (carried ∷ [])) contexts ∷ []) in
    let found = ap (λ form. found_in form (spell tree)) type ∙ sequence_found carried contexts is writable small in
    read_of kind contexts tree (marks_of (Data (carried ∷ [])) contexts) (Data (carried ∷ [])) found (takes (carried ∷ []) contexts writable.placed)

pub read_in_resynchronizations : IsReadInResynchronizations
read_in_resynchronizations = (
  in_sequence RS refl (λ values contexts placed. data_admitted RS values contexts placed refl),
  in_sequence RA refl (λ values contexts placed. data_admitted RA values contexts placed refl),
)
