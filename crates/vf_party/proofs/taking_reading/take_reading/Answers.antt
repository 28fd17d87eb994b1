use Rattle.std.proofs.Common.{ap, sym, ◌∙◌}
use Rattle.vf_elements.specs.Stages.{takes}
use Rattle.vf_filestore.specs.Aborts.{first_abort}
use Rattle.vf_party_steps.specs.Reads.{IsReading}
use Rattle.vf_party.specs.Settings.{setting_of}
use Rattle.vf_party.specs.declared.party.Party.TheVariants as parties
use Rattle.vf_party.proofs.Bars.{reading_bars}
use Rattle.vf_party_steps.proofs.ReadsOn.{reading_stage}
use Rattle.vf_party.proofs.Turning.{barred_turn, untaken_turn}
use Rattle.vf_party.proofs.taking_reading.take_reading.Goals as goal

pub returns-then-not-takes : goal.returns-then-not-takes
returns-then-not-takes c = λ state party stands histories alone.
    untaken_turn IsReading parties.Reading c.args.tables.now c.args.locks.now c.aborted_at.new.locks c.args.reading (setting_of c.args.setting) c.args.message state party stands alone c.aborted_at.result
    (ap (λ stage. takes stage c.args.message) (reading_stage c.args.reading party.link party.history alone.represented ∙ sym c.stage.ensures) ∙ sym c.takes.ensures ∙ c.if-not-takes.true) c.aborted_at.ensures

pub returns-in-Some : goal.returns-in-Some
returns-in-Some c = λ state party stands histories alone.
    let setting = setting_of c.args.setting in
    let taken = ap (λ stage. takes stage c.args.message) (sym c.stage.ensures) ∙ sym c.takes.ensures ∙ c.if-not-takes.false in
    barred_turn IsReading parties.Reading c.args.tables.now c.args.locks.now c.aborted_at-in-Some.new.locks c.args.reading setting c.args.message state party stands alone c.in-Some.number c.aborted_at-in-Some.result
    (ap (λ stage. takes stage c.args.message) (reading_stage c.args.reading party.link party.history alone.represented) ∙ taken)
    (ap first_abort (reading_bars party setting c.args.reading alone.represented c.args.message taken) ∙ sym c.aborted_in_reading-bar.ensures ∙ c.in-Some.is) c.aborted_at-in-Some.ensures

pub take_unbarred-requires-clause-taken : goal.take_unbarred-requires-clause-taken
take_unbarred-requires-clause-taken c = ap (λ stage. takes stage c.args.message) (sym c.stage.ensures) ∙ sym c.takes.ensures ∙ c.if-not-takes.false

pub take_unbarred-requires-clause-unbarred : goal.take_unbarred-requires-clause-unbarred
take_unbarred-requires-clause-unbarred c = sym c.aborted_in_reading-bar.ensures ∙ c.in_default.is

pub returns : goal.returns
returns c = c.take_unbarred.ensures
