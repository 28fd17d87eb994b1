-- The contents of what has the form of a field, whatever its ranges.
use Rattle.std.specs.Prelude.{[], ◌∷◌, Some}
use Rattle.vf_pdu_fields.specs.Content.{Content, Number, Octets, Arcs, Fields, Slots, slots}
use Rattle.vf_pdu_fields.specs.Slots.{maybe_octets}
use Rattle.vf_pdu_parameters.specs.declared.contents_types.ContentsForm.{ContentsForm}
use Rattle.vf_pdu_parameters.specs.declared.items.TermForm.{TermForm}
use Rattle.vf_pdu_parameters.specs.declared.items.GrantForm.{GrantForm}
use Rattle.vf_pdu_parameters.specs.declared.stamps.StampForm.{StampForm}

abbrev pub contents_view : ContentsForm → Content
contents_view k = Fields (slots (Some (Arcs k.kind) ∷ Some (Number k.class) ∷ Some (Number k.longest) ∷ Some (Number k.significance) ∷ []))

abbrev pub term_view : TermForm → Slots
term_view t = slots (maybe_octets t.identity ∷ Some (Number t.actions) ∷ maybe_octets t.password ∷ [])

abbrev pub grant_view : GrantForm → Slots
grant_view g = slots (maybe_octets g.identity ∷ Some (Number g.actions) ∷ [])

abbrev pub stamp_view : StampForm → Content
stamp_view s = Fields (slots (Some (Octets s.date) ∷ Some (Octets s.identity) ∷ []))
