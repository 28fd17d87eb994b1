use Rattle.std.proofs.Common.{◌∙◌, sym, subst, Result}
use Rattle.vf_base.specs.declared.errors.NoMemory.{NoMemory}
use Rattle.vf_party.specs.Hearing.{turn_in}
use Rattle.vf_party.specs.Settings.{setting_of}
use Rattle.vf_party.specs.Turns.{IsTurn}
use Rattle.vf_party.specs.declared.party.Outcome.{Outcome}
use Rattle.vf_party.specs.declared.party.Party.{Party}
use Rattle.vf_party.proofs.party.hear_any.Goals as goal

pub returns-in-Quiet : goal.returns-in-Quiet
returns-in-Quiet c =
    subst (λ (self : Party). IsTurn c.args.tables.now c.args.locks.now c.take_quiet.new.locks self (setting_of c.args.setting) c.args.message (turn_in c.take_quiet.new.party c.take_quiet.result))
    (sym c.in-Quiet.is ∙ c.replace.ensures.value) c.take_quiet.ensures

pub returns-in_default : goal.returns-in_default
returns-in_default c =
    subst (λ (self : Party). IsTurn c.args.tables.now c.args.locks.now c.take-taken.new.locks self (setting_of c.args.setting) c.args.message (turn_in c.settled.new.party c.settled.result))
    c.replace.ensures.value
    (subst (λ (result : Result Outcome (Party × NoMemory)). IsTurn c.args.tables.now c.args.locks.now c.take-taken.new.locks c.replace.result (setting_of c.args.setting) c.args.message result) (sym c.settled.ensures)
    c.take-taken.ensures)
