use Rattle.std.proofs.Common.{sym, ◌∙◌}
use Rattle.vf_party.specs.Hearing.{turn_in}
use Rattle.vf_party.specs.Settings.{setting_of}
use Rattle.vf_party.proofs.Selections.{deselect_turn}
use Rattle.vf_party.proofs.selecting.hear_deselect.Goals as goal

pub selected_in-selected-requires : goal.selected_in-selected-requires
selected_in-selected-requires c = (c.requires.party.0, c.replace.ensures.value ∙ c.requires.party.1)

pub returns : goal.returns
returns c =
    deselect_turn c.args.tables.now c.args.locks.now c.deselect-answer.new.locks c.conclude.new.locks (setting_of c.args.setting)
    c.args.party.now c.args.message c.selected_in-selected.result
    (sym c.replace.ensures.value ∙ c.selected_in-selected.ensures) c.requires.message
    c.deselect-answer.result (turn_in c.conclude.new.party c.conclude.result) c.deselect-answer.ensures.consequence c.deselect-answer.ensures.kept c.conclude.ensures
