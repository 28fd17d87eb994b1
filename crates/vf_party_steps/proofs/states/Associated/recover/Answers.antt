use Rattle.std.proofs.Common.{◌≡◌, true, Err, sym, subst}
use Rattle.vf_elements.specs.Stages.{takes}
use Rattle.vf_elements.specs.declared.message.Message.TheVariants as messages
use Rattle.vf_filestore.specs.Aborts.{Setting}
use Rattle.vf_filestore.specs.Stage.{regime_stage}
use Rattle.vf_pdu.specs.declared.pdu.Pdu.{Pdu}
use Rattle.vf_party_steps.specs.Recoveries.{IsRecovered}
use Rattle.vf_party_steps.specs.Steps.{MeetsStep}
use Rattle.vf_party_steps.proofs.Recovers.{gives_back}
use Rattle.vf_party_steps.proofs.states.Associated.recover.Goals as goal

pub returns-in-Ok-clause-consequence : goal.returns-in-Ok-clause-consequence
returns-in-Ok-clause-consequence c = λ state party stands kept represents.
    let setting : Setting = record { moment = c.args.moment; serial = c.args.serial; token = c.args.token; sync = c.args.sync } in
    let asks = c.in-RecoverRequest in
    let tables = c.args.tables.now in
    let old = c.args.locks.now in
    subst (λ (r : Pdu). takes (regime_stage party.history) (messages.Pdu r) ≡ true → MeetsStep IsRecovered tables old c.take_up.new.locks state party setting (messages.Pdu r) c.take_up.result) (sym asks.is)
    (λ taken. c.take_up.ensures.consequence state party stands kept represents taken c.in-Ok.ensures.found c.in-Ok.ensures.free)

pub returns-in-Err-clause-consequence : goal.returns-in-Err-clause-consequence
returns-in-Err-clause-consequence c = λ state party stands kept represents taken.
    let setting : Setting = record { moment = c.args.moment; serial = c.args.serial; token = c.args.token; sync = c.args.sync } in
    let asks = c.in-RecoverRequest in
    let tables = c.args.tables.now in
    let old = c.args.locks.now in
    subst (λ (r : Pdu). MeetsStep IsRecovered tables old old state party setting (messages.Pdu r) (Err (c.args.self, c.in-Err.error))) (sym asks.is)
    (gives_back tables old state party c.args.self stands represents setting asks.activity asks.number asks.point c.in-Err.error c.in-Err.ensures.refused)
