-- Parameters as the contents of their rows.
use Rattle.std.specs.Prelude.{List, [], ◌∷◌, map, Option, Some}
use Rattle.std.specs.Option.{option_map}
use Rattle.vf_base.specs.declared.contents.Contents.{Contents}
use Rattle.vf_base.specs.declared.diagnostic.Diagnostic.{Diagnostic}
use Rattle.vf_base.specs.declared.term.Term.{Term}
use Rattle.vf_pdu_fields.specs.Content.{Content, Number, Octets, Arcs, Fields, Listed, Slots, Slot, slots, items_of}
use Rattle.vf_pdu_fields.specs.Slots.{maybe_integer, maybe_octets, num}
use Rattle.vf_pdu_parameters.specs.declared.file_attributes.Attributes.{Attributes}
use Rattle.vf_pdu_parameters.specs.declared.file_attributes.Grant.{Grant}
use Rattle.vf_pdu_parameters.specs.declared.file_attributes.Stamp.{Stamp}

abbrev pub diagnostic_slots : Diagnostic → List Slot
diagnostic_slots d = num d.number ∷ Some (Number d.first) ∷ Some (Number d.second) ∷ []

abbrev pub diagnostic_content : Diagnostic → Content
diagnostic_content d = Fields (slots (diagnostic_slots d))

abbrev pub maybe_diagnostic : Option Diagnostic → Slot
maybe_diagnostic d = option_map diagnostic_content d

abbrev pub contents_slots : Contents → List Slot
contents_slots k = Some (Arcs k.kind) ∷ num k.class ∷ num k.longest ∷ num k.significance ∷ []

abbrev pub contents_content : Contents → Content
contents_content k = Fields (slots (contents_slots k))

abbrev pub maybe_contents : Option Contents → Slot
maybe_contents k = option_map contents_content k

abbrev pub term_slots : Term → Slots
term_slots t = slots (maybe_octets t.identity ∷ num t.actions.value ∷ maybe_octets t.password ∷ [])

abbrev pub terms_content : List Term → Content
terms_content ts = Listed (items_of (map term_slots ts))

abbrev pub maybe_terms : Option (List Term) → Slot
maybe_terms ts = option_map terms_content ts

abbrev pub grant_slots : Grant → Slots
grant_slots g = slots (maybe_octets g.identity ∷ num g.actions.value ∷ [])

abbrev pub grants_content : List Grant → Content
grants_content gs = Listed (items_of (map grant_slots gs))

abbrev pub maybe_grants : Option (List Grant) → Slot
maybe_grants gs = option_map grants_content gs

abbrev pub stamp_slots : Stamp → List Slot
stamp_slots s = Some (Octets s.date) ∷ Some (Octets s.identity) ∷ []

abbrev pub stamp_content : Stamp → Content
stamp_content s = Fields (slots (stamp_slots s))

abbrev pub maybe_stamp : Option Stamp → Slot
maybe_stamp s = option_map stamp_content s

abbrev pub attribute_slots : Attributes → List Slot
attribute_slots x =
    maybe_octets x.name ∷ maybe_integer x.permitted ∷ maybe_contents x.contents ∷ maybe_grants x.terms
    ∷ maybe_stamp x.created ∷ maybe_stamp x.modified ∷ maybe_stamp x.read ∷ maybe_stamp x.changed ∷ maybe_integer x.size ∷ []

abbrev pub attributes_content : Attributes → Content
attributes_content x = Fields (slots (attribute_slots x))

abbrev pub maybe_attributes : Option Attributes → Slot
maybe_attributes x = option_map attributes_content x
