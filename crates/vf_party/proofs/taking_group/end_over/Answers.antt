use Rattle.std.proofs.Common.{List, subst}
use Rattle.vf_party.specs.GroupEnds.{IsEnd}
use Rattle.vf_pdu.specs.declared.pdu.Pdu.{Pdu}
use Rattle.vf_party.specs.Settings.{setting_of}
use Rattle.vf_party.proofs.GroupTurns.{over_after, over_turn}
use Rattle.vf_party.proofs.taking_group.end_over.Goals as goal

pub returns-clause-turn : goal.returns-clause-turn
returns-clause-turn c =
    over_turn c.args.tables.now c.args.locks.now c.end_group-answer.new.locks c.args.grouping (setting_of c.args.setting) c.end_group-answer.result c.over.result
    (subst (λ (items : List Pdu). IsEnd c.args.grouping.quiet c.args.grouping.threshold items c.args.tables.now c.args.locks.now c.end_group-answer.new.locks (setting_of c.args.setting) c.end_group-answer.result) c.as_slice.ensures c.end_group-answer.ensures.consequence)
    c.end_group-answer.ensures.kept c.over.ensures

pub returns-clause-ahead : goal.returns-clause-ahead
returns-clause-ahead c =
    over_after c.args.tables.now c.end_group-answer.new.spare c.args.grouping.threshold c.args.grouping.items c.end_group-answer.result c.over.result
    c.over.ensures c.end_group-answer.ensures.ahead
