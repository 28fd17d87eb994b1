use Rattle.std.proofs.Common.{sym, ◌∙◌}
use Rattle.vf_party.proofs.Selections.{deselecting_message, deselecting_party, selecting_message, selecting_party}
use Rattle.vf_party.proofs.party.Party.hear.Goals as goal

pub hear_select-requires : goal.hear_select-requires
hear_select-requires c =
    let is = sym c.selects.ensures ∙ c.if-selects.true in
    record { party = selecting_party c.args.self.now c.args.message is; message = selecting_message c.args.self.now c.args.message is }

pub hear_deselect-requires : goal.hear_deselect-requires
hear_deselect-requires c =
    let is = sym c.deselects.ensures ∙ c.if-deselects.true in
    record { party = deselecting_party c.args.self.now c.args.message is; message = deselecting_message c.args.self.now c.args.message is }
