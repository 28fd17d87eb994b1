use Rattle.std.proofs.Common.{◌≡◌, Bool, true, false, sym, ◌∙◌, arith}
use Rattle.std.specs.Prelude.{is_some}
use Rattle.vf_pdu_fields.specs.Reading.{rest, shapes}
use Rattle.vf_pdu_fields.proofs.Steps.{stopped, went_on}
use Rattle.vf_pdu_parameters.specs.AttributeTails.{size_field, two_stamps}
use Rattle.vf_pdu_parameters.specs.Parameters.{attribute_stamps}
use Rattle.vf_pdu_parameters.proofs.attributes_read.have_all_stamps.Goals as goal

pub returns-then-not-branch : goal.returns-then-not-branch
returns-then-not-branch c =
    let p = c.args.parts.now in
    let no : c.in_ok-have_stamps.field-0 ≡ false = grind (arith, c.if-not-branch.true) in
    stopped (is_some (shapes attribute_stamps (rest p c.args.from))) c.in_ok-have_stamps.field-0 (is_some (shapes (two_stamps 6 size_field) (rest p c.have_stamps.new.at))) no
    (c.in_ok-have_stamps.ensures (two_stamps 6 size_field))

pub returns-then-not-branch-2 : goal.returns-then-not-branch-2
returns-then-not-branch-2 c =
    let p = c.args.parts.now in
    let yes : c.in_ok-have_stamps.field-0 ≡ true = grind (arith, c.if-not-branch.false) in
    let no : c.in_ok-have_stamps-2.field-0 ≡ false = grind (arith, c.if-not-branch-2.true) in
    let later : Bool = is_some (shapes (two_stamps 6 size_field) (rest p c.have_stamps.new.at)) in
    stopped later c.in_ok-have_stamps-2.field-0 (is_some (shapes size_field (rest p c.have_stamps-2.new.at))) no (c.in_ok-have_stamps-2.ensures size_field)
    ∙ sym (went_on (is_some (shapes attribute_stamps (rest p c.args.from))) c.in_ok-have_stamps.field-0 later yes (c.in_ok-have_stamps.ensures (two_stamps 6 size_field)))

pub returns : goal.returns
returns c =
    let p = c.args.parts.now in
    let first : c.in_ok-have_stamps.field-0 ≡ true = grind (arith, c.if-not-branch.false) in
    let second : c.in_ok-have_stamps-2.field-0 ≡ true = grind (arith, c.if-not-branch-2.false) in
    let later : Bool = is_some (shapes (two_stamps 6 size_field) (rest p c.have_stamps.new.at)) in
    let last : Bool = is_some (shapes size_field (rest p c.have_stamps-2.new.at)) in
    c.has_size.ensures
    ∙ sym (went_on (is_some (shapes attribute_stamps (rest p c.args.from))) c.in_ok-have_stamps.field-0 later first (c.in_ok-have_stamps.ensures (two_stamps 6 size_field))
    ∙ went_on later c.in_ok-have_stamps-2.field-0 last second (c.in_ok-have_stamps-2.ensures size_field))
