use Rattle.std.proofs.Common.{sym, ◌∙◌}
use Rattle.vf_party.specs.Hearing.{turn_in}
use Rattle.vf_party.specs.Settings.{setting_of}
use Rattle.vf_party.proofs.WritingOn.{element_turn, sent_element, writing_party}
use Rattle.vf_party.proofs.writing_on.hear_element.Goals as goal

pub writing_in-writing-requires : goal.writing_in-writing-requires
writing_in-writing-requires c =
    let there = writing_party c.args.party.now c.args.setting.serial c.args.message c.requires in
    (there.0, c.replace.ensures.value ∙ there.1)

pub element_in-element-requires : goal.element_in-element-requires
element_in-element-requires c = sent_element c.args.party.now c.args.setting.serial c.args.message c.requires

pub returns : goal.returns
returns c =
    element_turn c.args.tables.now c.args.locks.now c.element-answer.new.locks c.conclude.new.locks (setting_of c.args.setting)
    c.args.party.now c.args.message c.writing_in-writing.result c.element_in-element.result
    (sym c.replace.ensures.value ∙ c.writing_in-writing.ensures) c.element_in-element.ensures c.requires
    c.element-answer.result (turn_in c.conclude.new.party c.conclude.result) c.element-answer.ensures.consequence c.element-answer.ensures.kept c.conclude.ensures
