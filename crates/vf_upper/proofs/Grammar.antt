-- What is found in the octets that are written.
use Rattle.std.proofs.Common.{◌≡◌, Bool, true, false, List, [], ◌∷◌, map, refl, true≢false}
use Rattle.std.specs.Prelude.{Ok}
use Rattle.std.specs.List.{list_all}
use Rattle.std.proofs.lemmas.List.Elements.{All-cons, All-head, All-nil}
use Rattle.std.proofs.lemmas.Bool.{and_parts}
use Rattle.vf_base.specs.declared.spdu_kind.SpduKind.TheVariants.{DT, RS}
use Rattle.vf_ber.specs.Limits.{IsTooLarge}
use Rattle.vf_ber.specs.Spelling.{spell}
use Rattle.vf_ber.specs.Tree.{root, Tree}
use Rattle.vf_upper.specs.declared.contexts.ContextEntry.{ContextEntry}
use Rattle.vf_upper.specs.declared.primitive.Primitive.{Primitive}
use Rattle.vf_upper.specs.declared.primitive.Primitive.TheVariants.{Associate, Accepted, Refused, Release, Released, Data, Abort}
use Rattle.vf_upper.specs.CarriedCode.{Carried}
use Rattle.vf_upper.specs.Laws.{AreCarried, AreContexts, carrier_of, IsCarried, IsPrimitive}
use Rattle.vf_upper.specs.Primitives.{offered, Negotiated}
use Rattle.vf_upper.specs.Written.{accepted, has_pdu, holding, is_empty, IsWritable, universal, written}
use Rattle.vf_upper.proofs.Marked.{marks_of}
use Rattle.vf_upper.proofs.Parts.{first_of, is_low}
use Rattle.vf_upper.proofs.Readings.{IsSound, Reads, typed-reads}
use Rattle.vf_upper.proofs.TypesRead.{acse_data-reads, all_data-reads, aru-reads, cp-reads, cpa-reads, cpr-reads, resynchronization-reads, rlre-reads, rlrq-reads}
use Rattle.vf_upper.proofs.WrittenTrees.{acse_id-fits, sequence-tree, written-tree}
use Rattle.vf_upper_grammar.specs.declared.labels.NumberLabel.{NumberLabel}
use Rattle.vf_upper_grammar.specs.declared.labels.NumberLabel.TheVariants.{AnyContext, PciContext}
use Rattle.vf_upper_grammar.specs.Forms.{has_tag, Form, Tags}
use Rattle.vf_upper_grammar.specs.Marks.{Mark}
use Rattle.vf_upper_grammar.specs.Texts.{typed}
use Rattle.vf_upper_grammar.specs.Types as types
use Rattle.vf_upper_grammar.specs.Types.{user_data_of, found_in}

read-alone : (tags : Tags) (read : Form) (tree : Tree) (marks : List Mark) → has_tag tags (first_of tree) ≡ true → is_low (root tree) ≡ true → Reads read tree marks → IsSound tree
    → typed tags read (spell tree) [] ≡ Ok marks
read-alone tags read tree marks has low reads sound = let all = typed-reads tags read has low reads in all.finds [] sound

-- where values are one PDU, what is read of a list of one is read of them
pdu-reads : (read : Form) (tree : List Carried → Tree) (marks : List Carried → List Mark) → ((v : Carried) → IsCarried v → Reads read (tree (v ∷ [])) (marks (v ∷ [])))
    → (negotiated : List Negotiated) (contexts : List ContextEntry) (label : NumberLabel) (values : List Carried) → has_pdu negotiated contexts label values ≡ true → AreCarried values
    → Reads read (tree values) (marks values)
pdu-reads read tree marks reads negotiated contexts label [] has are = absurd (cc)
pdu-reads read tree marks reads negotiated contexts label (v ∷ []) has are = reads v (All-head IsCarried v [] are)
pdu-reads read tree marks reads negotiated contexts label (v ∷ other ∷ values) has are = absurd (cc)

-- the same of a primitive with these values
pdu-found : (tags : Tags) (read : Form) (primitive : List Carried → Primitive) (contexts : List ContextEntry)
    → ((v : Carried) → IsCarried v → Reads read (written (primitive (v ∷ [])) contexts) (marks_of (primitive (v ∷ [])) contexts))
    → (negotiated : List Negotiated) (label : NumberLabel) (values : List Carried) → has_pdu negotiated contexts label values ≡ true → AreCarried values
    → has_tag tags (first_of (written (primitive values) contexts)) ≡ true → is_low (root (written (primitive values) contexts)) ≡ true
    → IsPrimitive (primitive values) → ¬ IsTooLarge (written (primitive values) contexts)
    → typed tags read (spell (written (primitive values) contexts)) [] ≡ Ok (marks_of (primitive values) contexts)
pdu-found tags read primitive contexts reads negotiated label values has are tag low is small =
    read-alone tags read (written (primitive values) contexts) (marks_of (primitive values) contexts) tag low
    (pdu-reads read (λ vs. written (primitive vs) contexts) (λ vs. marks_of (primitive vs) contexts) reads negotiated contexts label values has are)
    (record { is_tree = written-tree (primitive values) contexts is; small = small })

refused-found : (results : List Bool) (values : List Carried) (contexts : List ContextEntry) → AreCarried values → AreContexts contexts
    → has_pdu (accepted contexts) contexts PciContext values ≡ true → ¬ IsTooLarge (written (Refused results values) contexts)
    → found_in (user_data_of (carrier_of (Refused results values))) (spell (written (Refused results values) contexts)) ≡ Ok (marks_of (Refused results values) contexts)
refused-found results values contexts is are has small =
    pdu-found (types.universal 16) types.cpr (Refused results) contexts (λ v is_v. cpr-reads results contexts v (acse_id-fits contexts are) is_v)
    (accepted contexts) PciContext values has is refl refl is small

-- of data nothing is asked but that they are within the limits of a value
pub data_found : (values : List Carried) (contexts : List ContextEntry) → AreCarried values → ¬ IsTooLarge (written (Data values) contexts)
    → found_in (user_data_of DT) (spell (written (Data values) contexts)) ≡ Ok (marks_of (Data values) contexts)
data_found values contexts is small =
    read-alone (types.application 1) types.all_data (written (Data values) contexts) (marks_of (Data values) contexts) refl refl (all_data-reads values is)
    (record { is_tree = written-tree (Data values) contexts is; small = small })

pub written_found : (p : Primitive) (contexts : List ContextEntry) → IsPrimitive p → AreContexts contexts → IsWritable p contexts → is_empty p ≡ false
    → found_in (user_data_of (carrier_of p)) (spell (written p contexts)) ≡ Ok (marks_of p contexts)
written_found (Associate offers values) contexts is are writable some =
    let placed = and_parts (list_all (λ offer. offer.ber) offers) (has_pdu (map offered offers) contexts PciContext values) writable.placed in
    pdu-found (types.universal 17) types.cp (Associate offers) contexts (λ v is_v. cp-reads offers contexts v is.0 (acse_id-fits contexts are) is_v)
    (map offered offers) PciContext values placed.1 is.1 refl refl is writable.small
written_found (Accepted results values) contexts is are writable some =
    pdu-found (types.universal 17) types.cpa (Accepted results) contexts (λ v is_v. cpa-reads results contexts v (acse_id-fits contexts are) is_v)
    (accepted contexts) PciContext values writable.placed is refl refl is writable.small
written_found (Refused [] []) contexts is are writable some = absurd (true≢false some)
written_found (Refused [] (v ∷ values)) contexts is are writable some = refused-found [] (v ∷ values) contexts is are writable.placed writable.small
written_found (Refused (result ∷ results) values) contexts is are writable some =
    refused-found (result ∷ results) values contexts is are writable.placed writable.small
written_found (Release values) contexts is are writable some =
    pdu-found (types.application 1) (types.acse_data (types.application 2) types.release) Release contexts
    (λ v is_v. acse_data-reads (types.application 2) types.release contexts _ _ (acse_id-fits contexts are) refl refl (rlrq-reads v is_v))
    (accepted contexts) AnyContext values writable.placed is refl refl is writable.small
written_found (Released values) contexts is are writable some =
    pdu-found (types.application 1) (types.acse_data (types.application 3) types.release) Released contexts
    (λ v is_v. acse_data-reads (types.application 3) types.release contexts _ _ (acse_id-fits contexts are) refl refl (rlre-reads v is_v))
    (accepted contexts) AnyContext values writable.placed is refl refl is writable.small
written_found (Data values) contexts is are writable some = data_found values contexts is writable.small
written_found (Abort []) contexts is are writable some = absurd (true≢false some)
written_found (Abort (v ∷ values)) contexts is are writable some =
    pdu-found (types.context 0) types.aru Abort contexts (λ w is_w. aru-reads contexts w (acse_id-fits contexts are) is_w)
    (accepted contexts) AnyContext (v ∷ values) writable.placed is refl refl is writable.small

-- the same of one value within the SEQUENCE of a resynchronization, whose response has the same type
pub sequence_found : (value : Carried) (contexts : List ContextEntry) → IsCarried value → IsWritable (Data (value ∷ [])) contexts
    → ¬ IsTooLarge (holding (universal 16) (written (Data (value ∷ [])) contexts ∷ []))
    → found_in (user_data_of RS) (spell (holding (universal 16) (written (Data (value ∷ [])) contexts ∷ []))) ≡ Ok (marks_of (Data (value ∷ [])) contexts)
sequence_found value contexts is writable small =
    read-alone (types.universal 16) types.resynchronization (holding (universal 16) (written (Data (value ∷ [])) contexts ∷ [])) (marks_of (Data (value ∷ [])) contexts) refl refl
    (resynchronization-reads value is)
    (record { is_tree = sequence-tree (written (Data (value ∷ [])) contexts) (written-tree (Data (value ∷ [])) contexts (All-cons IsCarried value [] is (All-nil IsCarried))); small = small })
