use Rattle.std.proofs.Common.{List, sym, subst, ◌∷◌}
use Rattle.vf_party.specs.Items.{AreItems}
use Rattle.vf_party.specs.Settings.{setting_of}
use Rattle.vf_party.specs.Trials.{AreTriedIn}
use Rattle.vf_party.proofs.Lent.{items_led, untried_led}
use Rattle.vf_party.proofs.Trials.{items_tried}
use Rattle.vf_party.proofs.trying.+try_items.Goals as goal
use Rattle.vf_pdu.specs.declared.pdu.Pdu.{Pdu}

pub returns-clause-trial : goal.returns-clause-trial
returns-clause-trial t c = λ state party stands represents are.
    let setting = setting_of c.args.setting.now in
    let all = c.in_ok-trial.trial in
    let new = c.try_items.new.locks in
    let parts = c.in-Some.ensures.cases in
    subst (λ (items : List Pdu). AreTriedIn new setting items state party all) (sym parts.0)
    (let each : AreItems (c.in-Some.item.now ∷ c.in-Some.others.now) = subst (λ (items : List Pdu). AreItems items) parts.0 are in
    items_tried state party setting c.in-Some.item.now c.in-Some.others.now c.try_item.new.locks new c.in_ok-first.first c.in_ok-later.later all
    (c.in_ok-first.ensures.trial state party stands represents (each.0, tt)) each.1 c.in_ok-later.ensures.trial c.in_ok-trial.ensures)

pub returns-in_default-clause-led : goal.returns-in_default-clause-led
returns-in_default-clause-led t c = untried_led c.args.quiet c.args.tables c.untried.result c.untried.ensures

pub returns-clause-led : goal.returns-clause-led
returns-clause-led t c =
    items_led c.args.tables c.in_ok-first.first c.in_ok-later.later c.in_ok-trial.trial c.in_ok-first.ensures.led c.in_ok-later.ensures.led c.in_ok-trial.ensures
