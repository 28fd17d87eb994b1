use Rattle.std.proofs.Common.{ap, sym, ◌∙◌, Some, ℤ, Option, rules}
use Rattle.std.specs.Option.{option_map}
use Rattle.vf_ber.specs.Views.{tree_of}
use Rattle.vf_pdu_fields.specs.Content.{Number, Slots, nil, present, slot}
use Rattle.vf_pdu_fields.specs.Reading.{rest}
use Rattle.vf_pdu_fields.specs.Rows.{Row, String, Text, end, field, int, one, optional, required}
use Rattle.vf_pdu_fields.specs.Slots.{maybe_octets}
use Rattle.vf_pdu_fields.proofs.Steps.{step, stored, whole_item}
use Rattle.vf_pdu_parameters.proofs.items.term_form.Goals as goal

abbrev last : Row
last = field 2 (one String) optional end

abbrev later : Row
later = field 1 (int 0 255) required last

pub returns : goal.returns
returns c =
    let p = c.as_slice-parts.result.now in
    let none_left = sym c.in-Some-close.ensures in
    let third = step 2 (one String) optional end (rest p c.integer.new.at) (rest p c.maybe_octets_in-2.new.at) (maybe_octets c.in-Some-3.password) nil (sym c.in_ok-password.ensures.value ∙ ap (option_map maybe_octets) c.in-Some-3.is) c.in_ok-password.ensures.others none_left in
    let second = step 1 (int 0 255) required last (rest p c.maybe_octets_in.new.at) (rest p c.integer.new.at) (Some (Number c.in-Some-integer.actions)) _ (sym c.in-Some-integer.ensures.value) c.in-Some-integer.ensures.others third in
    let first = step 0 (one Text) optional later (rest p 0) (rest p c.maybe_octets_in.new.at) (maybe_octets c.in-Some-2.identity) _ (sym c.in_ok-identity.ensures.value ∙ ap (option_map maybe_octets) c.in-Some-2.is) c.in_ok-identity.ensures.others second in
    ap (λ (n : ℤ). let o : Option Slots = Some (slot (maybe_octets c.in-Some-2.identity) (present (Number n) (slot (maybe_octets c.in-Some-3.password) nil))) in o) (stored c.in-Some-integer.actions (search rules))
    ∙ sym (whole_item (field 0 (one Text) optional later) (tree_of c.args.part.now) c.in-Some.fields.now (rest p 0) _ (sym c.in-Some.ensures) c.as_slice-parts.ensures.values first)
