use Rattle.std.proofs.Common.{Result, sym, subst, ◌∙◌}
use Rattle.vf_base.specs.declared.errors.NoMemory.{NoMemory}
use Rattle.vf_party.specs.GroupEnds.{end_message}
use Rattle.vf_party.specs.Hearing.{turn_in}
use Rattle.vf_party.specs.Settings.{setting_of}
use Rattle.vf_party.specs.Turns.{IsTurn}
use Rattle.vf_party.specs.declared.party.Outcome.{Outcome}
use Rattle.vf_party.specs.declared.party.Party.{Party}
use Rattle.vf_party.specs.declared.party.Party.TheVariants as parties
use Rattle.vf_party.proofs.Lent.{settled_after}
use Rattle.vf_party.proofs.taking_group.hear_end.Goals as goal

pub grouping_in-grouping-requires : goal.grouping_in-grouping-requires
grouping_in-grouping-requires c = (c.requires.party.0, c.replace.ensures.value ∙ c.requires.party.1)

pub returns-clause-turn : goal.returns-clause-turn
returns-clause-turn c =
    let tables = c.args.tables.now in
    let old = c.args.locks.now in
    let new = c.end_over-taken.new.locks in
    let setting = setting_of c.args.setting in
    subst (λ (self : Party). IsTurn tables old new self setting end_message (turn_in c.settled.new.party c.settled.result)) (sym c.grouping_in-grouping.ensures ∙ c.replace.ensures.value)
    (subst (λ (result : Result Outcome (Party × NoMemory)). IsTurn tables old new (parties.Grouping c.grouping_in-grouping.result) setting end_message result) (sym c.settled.ensures)
    (λ state standing stands histories is. c.end_over-taken.ensures.turn state standing stands is))

pub returns-clause-ahead : goal.returns-clause-ahead
returns-clause-ahead c =
    settled_after c.args.tables.now c.end_over-taken.new.spare c.settled.new.party c.settled.result c.end_over-taken.result c.settled.ensures c.end_over-taken.ensures.ahead
