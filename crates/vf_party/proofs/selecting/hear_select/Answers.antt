use Rattle.std.proofs.Common.{ℕ, nat_eq, ap, sym, ◌∙◌}
use Rattle.vf_party.specs.Hearing.{turn_in}
use Rattle.vf_party.specs.Settings.{setting_of}
use Rattle.vf_party.proofs.Selections.{asked_number, select_turn}
use Rattle.vf_party.proofs.selecting.hear_select.Goals as goal

pub associated_in-associated-requires : goal.associated_in-associated-requires
associated_in-associated-requires c = (c.requires.party.0, c.replace.ensures.value ∙ c.requires.party.1)

pub request_in-request-requires : goal.request_in-request-requires
request_in-request-requires c = (c.requires.message.0, c.requires.message.2)

pub returns : goal.returns
returns c =
    select_turn c.args.tables.now c.args.locks.now c.select-answer.new.locks c.conclude.new.locks (setting_of c.args.setting)
    c.args.party.now c.args.message c.associated_in-associated.result c.request_in-request.result
    (sym c.replace.ensures.value ∙ c.associated_in-associated.ensures) c.request_in-request.ensures
    (ap (λ (n : ℕ). nat_eq n 6) (asked_number c.args.message c.request_in-request.result 6 c.requires.message c.request_in-request.ensures))
    c.select-answer.result (turn_in c.conclude.new.party c.conclude.result) c.select-answer.ensures.consequence c.select-answer.ensures.kept c.conclude.ensures

pub select-answer-requires : goal.select-answer-requires
select-answer-requires c = asked_number c.args.message c.request_in-request.result 6 c.requires.message c.request_in-request.ensures
