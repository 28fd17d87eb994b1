-- Contents back to the parameters that they are the contents of.
use Rattle.std.proofs.Common.{◌≡◌, List, [], ◌∷◌, map, refl, ap, ◌∙◌}
use Rattle.std.specs.Prelude.{ℕ, Option}
use Rattle.std.specs.Option.{option_map}
use Rattle.vf_base.specs.declared.contents.Contents.{Contents}
use Rattle.vf_base.specs.declared.diagnostic.Diagnostic.{Diagnostic}
use Rattle.vf_base.specs.declared.term.Term.{Term}
use Rattle.vf_pdu_fields.specs.Contained.{octets_in, slot_list}
use Rattle.vf_pdu_fields.specs.Content.{Slots}
use Rattle.vf_pdu_fields.specs.Slots.{maybe_octets, num}
use Rattle.vf_pdu_fields.proofs.Back.{integer_back, item_list-items, mapped, octets_back, slot_list-slots}
use Rattle.vf_pdu_parameters.specs.ContainedParameters.{attributes_at, attributes_in, contents_in, diagnostic_in, grant_at, grants_in, stamp_in, term_at, terms_in}
use Rattle.vf_pdu_parameters.specs.ParameterSlots.{attribute_slots, attributes_content, contents_content, diagnostic_content, grant_slots, grants_content, maybe_attributes, maybe_contents, maybe_diagnostic, maybe_grants, maybe_stamp, maybe_terms, stamp_content, term_slots, terms_content}
use Rattle.vf_pdu_parameters.specs.declared.file_attributes.Attributes.{Attributes}
use Rattle.vf_pdu_parameters.specs.declared.file_attributes.Grant.{Grant}
use Rattle.vf_pdu_parameters.specs.declared.file_attributes.Stamp.{Stamp}

pub diagnostic_back : (o : Option Diagnostic) → option_map diagnostic_in (maybe_diagnostic o) ≡ o
diagnostic_back o = mapped diagnostic_content diagnostic_in (λ x. refl) o

pub contents_back : (o : Option Contents) → option_map contents_in (maybe_contents o) ≡ o
contents_back o = mapped contents_content contents_in (λ x. refl) o

pub stamp_back : (o : Option Stamp) → option_map stamp_in (maybe_stamp o) ≡ o
stamp_back o = mapped stamp_content stamp_in (λ x. refl) o

term_same : (t : Term) → term_at (slot_list (term_slots t)) ≡ t
term_same t =
    ap term_at (slot_list-slots (maybe_octets t.identity ∷ num t.actions.value ∷ maybe_octets t.password ∷ []))
    ∙ ap (λ (o : Option (List ℕ)). let x : Term = record { identity = o; actions = t.actions; password = option_map octets_in (maybe_octets t.password) } in x) (octets_back t.identity)
    ∙ ap (λ (o : Option (List ℕ)). let x : Term = record { identity = t.identity; actions = t.actions; password = o } in x) (octets_back t.password)

grant_same : (g : Grant) → grant_at (slot_list (grant_slots g)) ≡ g
grant_same g =
    ap grant_at (slot_list-slots (maybe_octets g.identity ∷ num g.actions.value ∷ []))
    ∙ ap (λ (o : Option (List ℕ)). let x : Grant = record { identity = o; actions = g.actions } in x) (octets_back g.identity)

all_same : {X : Type 0} (to : X → Slots) (back : Slots → X) → ((x : X) → back (to x) ≡ x) → (xs : List X) → map back (map to xs) ≡ xs
all_same to back same [] = refl
all_same to back same (x ∷ xs) = ap (λ y. y ∷ map back (map to xs)) (same x) ∙ ap (λ ys. x ∷ ys) (all_same to back same xs)

pub terms_same : (ts : List Term) → terms_in (terms_content ts) ≡ ts
terms_same ts =
    ap (map (λ (s : Slots). term_at (slot_list s))) (item_list-items (map term_slots ts))
    ∙ all_same term_slots (λ (s : Slots). term_at (slot_list s)) term_same ts

grants_same : (gs : List Grant) → grants_in (grants_content gs) ≡ gs
grants_same gs =
    ap (map (λ (s : Slots). grant_at (slot_list s))) (item_list-items (map grant_slots gs))
    ∙ all_same grant_slots (λ (s : Slots). grant_at (slot_list s)) grant_same gs

pub terms_back : (o : Option (List Term)) → option_map terms_in (maybe_terms o) ≡ o
terms_back o = mapped terms_content terms_in terms_same o

grants_back : (o : Option (List Grant)) → option_map grants_in (maybe_grants o) ≡ o
grants_back o = mapped grants_content grants_in grants_same o

attributes_same : (x : Attributes) → attributes_in (attributes_content x) ≡ x
attributes_same x =
    ap attributes_at (slot_list-slots (attribute_slots x))
    ∙ rw (octets_back x.name, integer_back x.permitted, contents_back x.contents, grants_back x.terms, stamp_back x.created, stamp_back x.modified, stamp_back x.read, stamp_back x.changed, integer_back x.size) refl

pub attributes_back : (o : Option Attributes) → option_map attributes_in (maybe_attributes o) ≡ o
attributes_back o = mapped attributes_content attributes_in attributes_same o
