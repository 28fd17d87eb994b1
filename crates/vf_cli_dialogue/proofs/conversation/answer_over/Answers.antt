use Rattle.std.proofs.Common.{◌≡◌, ap, refl, subst, sym, ◌∙◌}
use Rattle.std.specs.Prelude.{IfSome}
use Rattle.vf_party.specs.Hearing.{outcome_in, turn_in}
use Rattle.vf_party.specs.Settings.{setting_of}
use Rattle.vf_tables.specs.Changes.{after_all}
use Rattle.vf_tables.specs.declared.tables.Tables.{Tables}
use Rattle.vf_cli_dialogue.specs.declared.conversation.Filestore.{Filestore}
use Rattle.vf_cli_dialogue.proofs.TurnLemmas.{answered_by, put_in_place}
use Rattle.vf_cli_dialogue.proofs.conversation.answer_over.Goals as goal

pub hear_over-requires : goal.hear_over-requires
hear_over-requires c =
    subst (λ (t : Tables). IfSome c.lend-spare.result (λ second. second ≡ t)) (sym (c.tables.ensures ∙ c.lend-spare.ensures.same)) c.lend-spare.ensures.lent

pub returns-clause-answers : goal.returns-clause-answers
returns-clause-answers c = λ state holds.
    let party = c.hear_over.new.self in
    let heard = c.in_ok-heard.heard in
    let filestore : Filestore = record { party = party; tables = c.lend-spare.new.self; locks = c.hear_over.new.locks } in
    answered_by state c.args.filestore.now holds c.args.message filestore (outcome_in party heard) (turn_in party c.hear_over.result)
    c.tables.result.now c.args.filestore.now.party (setting_of c.setting.result) heard.goes (ap (turn_in party) c.in_ok-heard.was) (c.tables.ensures ∙ c.lend-spare.ensures.same) refl
    c.setting.ensures c.hear_over.ensures.turn (put_in_place party heard.goes)

pub returns-clause-ahead : goal.returns-clause-ahead
returns-clause-ahead c =
    subst (λ (t : Tables). IfSome c.hear_over.new.spare (λ next. next ≡ after_all t c.in_ok-heard.heard.changes)) (c.tables.ensures ∙ c.lend-spare.ensures.same) c.in_ok-heard.ensures.ahead
