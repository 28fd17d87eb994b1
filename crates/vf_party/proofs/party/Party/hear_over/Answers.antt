use Rattle.std.proofs.Common.{None, refl, sym, subst, ◌∙◌}
use Rattle.vf_elements.specs.declared.message.Message.{Message}
use Rattle.vf_party.specs.Hearing.{turn_in}
use Rattle.vf_party.specs.Settings.{setting_of}
use Rattle.vf_party.specs.Turns.{IsTurn}
use Rattle.vf_party.proofs.Lent.{ending_message, ending_party, none_after}
use Rattle.vf_party.proofs.party.Party.hear_over.Goals as goal

pub hear_end-requires-clause-party : goal.hear_end-requires-clause-party
hear_end-requires-clause-party c = ending_party c.args.self.now c.args.message (sym c.ends_group.ensures ∙ c.if-ends_group.true)

pub returns-then-ends_group-clause-turn : goal.returns-then-ends_group-clause-turn
returns-then-ends_group-clause-turn c =
    subst (λ (message : Message). IsTurn c.args.tables.now c.args.locks.now c.hear_end.new.locks c.args.self.now (setting_of c.args.setting) message (turn_in c.hear_end.new.party c.hear_end.result))
    (sym (ending_message c.args.self.now c.args.message (sym c.ends_group.ensures ∙ c.if-ends_group.true))) c.hear_end.ensures.turn

pub returns-clause-ahead : goal.returns-clause-ahead
returns-clause-ahead c = none_after c.args.tables.now None c.hear.result refl
