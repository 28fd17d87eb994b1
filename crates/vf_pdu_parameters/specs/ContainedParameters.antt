-- What contents are the contents of: parameters from their slots.
use Rattle.std.specs.Prelude.{List, map}
use Rattle.std.specs.Option.{option_map}
use Rattle.vf_base.specs.declared.contents.Contents.{Contents}
use Rattle.vf_base.specs.declared.diagnostic.Diagnostic.{Diagnostic}
use Rattle.vf_base.specs.declared.term.Term.{Term}
use Rattle.vf_pdu_fields.specs.Contained.{actions_in, arcs_in, inside, integer_in, items_in, number_in, octets_in, slot_in, slot_list, there}
use Rattle.vf_pdu_fields.specs.Content.{Content, Slots, Slot}
use Rattle.vf_pdu_parameters.specs.declared.file_attributes.Attributes.{Attributes}
use Rattle.vf_pdu_parameters.specs.declared.file_attributes.Grant.{Grant}
use Rattle.vf_pdu_parameters.specs.declared.file_attributes.Stamp.{Stamp}

abbrev pub diagnostic_at : List Slot → Diagnostic
diagnostic_at all = record {
  number = number_in (there (slot_in 0 all));
  first = integer_in (there (slot_in 1 all));
  second = integer_in (there (slot_in 2 all));
}

abbrev pub diagnostic_in : Content → Diagnostic
diagnostic_in content = diagnostic_at (inside content)

abbrev pub contents_at : List Slot → Contents
contents_at all = record {
  kind = arcs_in (there (slot_in 0 all));
  class = number_in (there (slot_in 1 all));
  longest = number_in (there (slot_in 2 all));
  significance = number_in (there (slot_in 3 all));
}

abbrev pub contents_in : Content → Contents
contents_in content = contents_at (inside content)

abbrev pub stamp_at : List Slot → Stamp
stamp_at all = record {
  date = octets_in (there (slot_in 0 all));
  identity = octets_in (there (slot_in 1 all));
}

abbrev pub stamp_in : Content → Stamp
stamp_in content = stamp_at (inside content)

abbrev pub term_at : List Slot → Term
term_at all = record {
  identity = option_map octets_in (slot_in 0 all);
  actions = actions_in (there (slot_in 1 all));
  password = option_map octets_in (slot_in 2 all);
}

abbrev pub grant_at : List Slot → Grant
grant_at all = record {
  identity = option_map octets_in (slot_in 0 all);
  actions = actions_in (there (slot_in 1 all));
}

abbrev pub terms_in : Content → List Term
terms_in content = map (λ (s : Slots). term_at (slot_list s)) (items_in content)

abbrev pub grants_in : Content → List Grant
grants_in content = map (λ (s : Slots). grant_at (slot_list s)) (items_in content)

abbrev pub attributes_at : List Slot → Attributes
attributes_at all = record {
  name = option_map octets_in (slot_in 0 all);
  permitted = option_map integer_in (slot_in 1 all);
  contents = option_map contents_in (slot_in 2 all);
  terms = option_map grants_in (slot_in 3 all);
  created = option_map stamp_in (slot_in 4 all);
  modified = option_map stamp_in (slot_in 5 all);
  read = option_map stamp_in (slot_in 6 all);
  changed = option_map stamp_in (slot_in 7 all);
  size = option_map integer_in (slot_in 8 all);
}

abbrev pub attributes_in : Content → Attributes
attributes_in content = attributes_at (inside content)
