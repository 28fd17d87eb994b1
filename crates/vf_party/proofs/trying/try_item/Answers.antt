use Rattle.std.proofs.Common.{◌≡◌, ℕ, true, false, refl, ap, sym, subst, ◌∙◌}
use Rattle.vf_base.specs.declared.diagnostic.Diagnostic.{Diagnostic}
use Rattle.vf_elements.specs.Stages.{takes}
use Rattle.vf_elements.specs.declared.message.Message.TheVariants as messages
use Rattle.vf_elements.specs.declared.stage.Stage.{Stage}
use Rattle.vf_filestore.specs.Aborts.{Setting}
use Rattle.vf_filestore.specs.Decision.{Refuses}
use Rattle.vf_filestore.specs.Stage.{regime_stage}
use Rattle.vf_party.specs.Items.{is_item}
use Rattle.vf_party.specs.Quiets.{IsQuiet, stage_of}
use Rattle.vf_party.specs.Settings.{setting_of}
use Rattle.vf_party_steps.specs.Steps.{MeetsStep, StandsIn}
use Rattle.vf_party.specs.Trials.{ComesOf, IsBadItem}
use Rattle.vf_party.proofs.Lent.{bad_led, comes_led}
use Rattle.vf_party.proofs.Trials.{answered_item, left_decides, refused_item, stage_is, taken_none, taken_some}
use Rattle.vf_party.proofs.trying.try_item.Goals as goal
use Rattle.vf_pdu.specs.declared.pdu.Pdu.{Pdu}
use Rattle.vf_tables.specs.declared.tables.Tables.{Tables}

pub returns-in_default-clause-trial : goal.returns-in_default-clause-trial
returns-in_default-clause-trial c = λ state party stands represents are.
    let setting = setting_of c.args.setting.now in
    let item = c.args.item.now in
    let tables = c.args.tables in
    let locks = c.args.locks.now in
    let quiet = c.args.quiet in
    let left : takes (regime_stage party.history) (messages.Pdu item) ≡ false
    = ap (λ (stage : Stage). takes stage (messages.Pdu item)) (stage_is quiet party.link party.history represents)
    ∙ taken_none (stage_of quiet) item are.0 (λ request is. c.in_default.not-Some request (c.in_ok-request.ensures ∙ is)) in
    refused_item state party setting item tables locks locks quiet c.plain.result c.in_ok-trial.trial stands represents
    (left_decides state party setting item left ∙ ap (λ (diagnostic : Diagnostic). Refuses diagnostic) (sym c.plain.ensures)) (λ file. refl)
    (subst (λ (number : ℕ). IsBadItem quiet number c.plain.result tables c.in_ok-trial.trial) c.number.ensures c.in_ok-trial.ensures)

pub take_item-answer-requires-clause-item : goal.take_item-answer-requires-clause-item
take_item-answer-requires-clause-item c =
    let taken = taken_some (stage_of c.args.quiet) c.args.item.now c.in-Some.request (sym c.in_ok-request.ensures ∙ c.in-Some.is) in
    subst (λ (request : Pdu). is_item request ≡ true) taken.same taken.is

pub take_item-answer-requires-clause-taken : goal.take_item-answer-requires-clause-taken
take_item-answer-requires-clause-taken c =
    let taken = taken_some (stage_of c.args.quiet) c.args.item.now c.in-Some.request (sym c.in_ok-request.ensures ∙ c.in-Some.is) in
    subst (λ (request : Pdu). takes (stage_of c.args.quiet) (messages.Pdu request) ≡ true) taken.same taken.taken

pub returns-clause-trial : goal.returns-clause-trial
returns-clause-trial c = λ state party stands represents are.
    let setting = setting_of c.args.setting.now in
    let item = c.args.item.now in
    let tables = c.args.tables in
    let old = c.args.locks.now in
    let new = c.take_item-answer.new.locks in
    let quiet = c.args.quiet in
    let answer = c.take_item-answer.result in
    let tried = c.in_ok-trial-2.trial in
    let taken = taken_some (stage_of quiet) item c.in-Some.request (sym c.in_ok-request.ensures ∙ c.in-Some.is) in
    let here : takes (regime_stage party.history) (messages.Pdu item) ≡ true
    = ap (λ (stage : Stage). takes stage (messages.Pdu item)) (stage_is quiet party.link party.history represents) ∙ taken.taken in
    let looked : c.tables.result.now ≡ tables = c.tables.ensures in
    let stands_so = subst (λ (one : Tables). StandsIn one old state party) (sym looked) stands in
    let met = subst (λ (one : Tables). MeetsStep IsQuiet one old new state party (setting_of c.same.result) (messages.Pdu c.in-Some.request) answer) looked
    (c.take_item-answer.ensures.consequence state party stands_so represents (subst (λ (request : Pdu). takes (regime_stage party.history) (messages.Pdu request) ≡ true) taken.same here)) in
    let meets : MeetsStep IsQuiet tables old new state party setting (messages.Pdu item) answer
    = subst (λ (one : Setting). MeetsStep IsQuiet tables old new state party one (messages.Pdu item) answer) (ap setting_of c.same.ensures)
    (subst (λ (request : Pdu). MeetsStep IsQuiet tables old new state party (setting_of c.same.result) (messages.Pdu request) answer) (sym taken.same) met) in
    answered_item state party setting item tables old new answer quiet tried taken.is stands represents here meets c.take_item-answer.ensures.kept
    (subst (λ (number : ℕ). ComesOf number answer tables tried) c.number-2.ensures c.in_ok-trial-2.ensures)

pub returns-in_default-clause-led : goal.returns-in_default-clause-led
returns-in_default-clause-led c = bad_led c.args.quiet c.number.result c.plain.result c.args.tables c.in_ok-trial.trial c.in_ok-trial.ensures

pub returns-clause-led : goal.returns-clause-led
returns-clause-led c = comes_led c.number-2.result c.take_item-answer.result c.args.tables c.in_ok-trial-2.trial c.in_ok-trial-2.ensures
