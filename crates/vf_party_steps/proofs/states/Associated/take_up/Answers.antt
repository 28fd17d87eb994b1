use Rattle.std.proofs.Common.{Result, sym, subst}
use Rattle.vf_elements.specs.declared.message.Message.TheVariants as messages
use Rattle.vf_filestore.specs.Aborts.{Setting}
use Rattle.vf_pdu.specs.declared.pdu.Pdu.TheVariants.{RecoverRequest}
use Rattle.vf_party_steps.specs.Reads.{IsReading}
use Rattle.vf_party_steps.specs.Recoveries.{IsRecovered}
use Rattle.vf_party_steps.specs.Represents.{IsOpen}
use Rattle.vf_party_steps.specs.Steps.{MeetsStep}
use Rattle.vf_party_steps.specs.Writes.{IsWriting}
use Rattle.vf_party_steps.specs.declared.recovering.Recovered.{Recovered}
use Rattle.vf_party_steps.specs.declared.recovering.Recovered.TheVariants as recovered
use Rattle.vf_party_steps.specs.declared.states.Associated.{Associated}
use Rattle.vf_party_steps.specs.declared.step.Step.{Step}
use Rattle.vf_party_steps.specs.declared.step.StepError.{StepError}
use Rattle.vf_party_steps.proofs.Recovers.{meets}
use Rattle.vf_party_steps.proofs.states.Associated.take_up.Goals as goal

pub returns-in-Idle-clause-consequence : goal.returns-in-Idle-clause-consequence
returns-in-Idle-clause-consequence c = λ state party stands kept represents taken asked free.
    let setting : Setting = record { moment = c.args.moment; serial = c.args.serial; token = c.args.token; sync = c.args.sync } in
    let message = messages.Pdu (RecoverRequest c.args.activity c.args.number c.args.point) in
    let tables = c.args.tables.now in
    let old = c.args.locks.now in
    let new = c.take_up_open-taken.new.locks in
    subst (λ (result : Result (Step Recovered) (Associated × StepError)). MeetsStep IsRecovered tables old new state party setting message result) (sym c.open_again.ensures)
    (meets IsOpen recovered.Open (λ state link history is. is) tables old new state party setting message c.take_up_open-taken.result
    (c.take_up_open-taken.ensures.consequence state party stands represents taken asked free))

pub returns-in-Read-clause-consequence : goal.returns-in-Read-clause-consequence
returns-in-Read-clause-consequence c = λ state party stands kept represents taken asked free.
    let setting : Setting = record { moment = c.args.moment; serial = c.args.serial; token = c.args.token; sync = c.args.sync } in
    let message = messages.Pdu (RecoverRequest c.args.activity c.args.number c.args.point) in
    let tables = c.args.tables.now in
    let old = c.args.locks.now in
    let new = c.take_up_read-taken.new.locks in
    subst (λ (result : Result (Step Recovered) (Associated × StepError)). MeetsStep IsRecovered tables old new state party setting message result) (sym c.reading_again.ensures)
    (meets IsReading recovered.Reading (λ state link history is. is) tables old new state party setting message c.take_up_read-taken.result
    (c.take_up_read-taken.ensures.consequence state party stands kept represents taken asked free))

pub returns-in-Write-clause-consequence : goal.returns-in-Write-clause-consequence
returns-in-Write-clause-consequence c = λ state party stands kept represents taken asked free.
    let setting : Setting = record { moment = c.args.moment; serial = c.args.serial; token = c.args.token; sync = c.args.sync } in
    let message = messages.Pdu (RecoverRequest c.args.activity c.args.number c.args.point) in
    let tables = c.args.tables.now in
    let old = c.args.locks.now in
    let new = c.take_up_write-taken.new.locks in
    subst (λ (result : Result (Step Recovered) (Associated × StepError)). MeetsStep IsRecovered tables old new state party setting message result) (sym c.writing_again.ensures)
    (meets IsWriting recovered.Writing (λ state link history is. is) tables old new state party setting message c.take_up_write-taken.result
    (c.take_up_write-taken.ensures.consequence state party stands kept represents taken asked free))
