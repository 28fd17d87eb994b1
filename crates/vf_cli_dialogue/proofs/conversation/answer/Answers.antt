use Rattle.std.proofs.Common.{ap, refl}
use Rattle.vf_party.specs.Hearing.{outcome_in, turn_in}
use Rattle.vf_party.specs.Settings.{setting_of}
use Rattle.vf_cli_dialogue.specs.declared.conversation.Filestore.{Filestore}
use Rattle.vf_cli_dialogue.proofs.TurnLemmas.{answered_by, put_in_place}
use Rattle.vf_cli_dialogue.proofs.conversation.answer.Goals as goal

pub returns-clause-answers : goal.returns-clause-answers
returns-clause-answers c = λ state holds.
    let party = c.hear.new.self in
    let heard = c.in_ok-heard.heard in
    let filestore : Filestore = record { party = party; tables = c.args.filestore.now.tables; locks = c.hear.new.locks } in
    answered_by state c.args.filestore.now holds c.args.message filestore (outcome_in party heard) (turn_in party c.hear.result)
    c.tables.result.now c.args.filestore.now.party (setting_of c.setting.result) heard.goes (ap (turn_in party) c.in_ok-heard.was) c.tables.ensures refl
    c.setting.ensures c.hear.ensures (put_in_place party heard.goes)
