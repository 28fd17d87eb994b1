use Rattle.std.proofs.Common.{sym, subst, Result}
use Rattle.vf_base.specs.declared.errors.NoMemory.{NoMemory}
use Rattle.vf_party.specs.Settings.{setting_of}
use Rattle.vf_party.specs.Turns.{IsTurn}
use Rattle.vf_party.specs.declared.party.Outcome.{Outcome}
use Rattle.vf_party.specs.declared.party.Party.{Party}
use Rattle.vf_party.specs.declared.party.Party.TheVariants as parties
use Rattle.vf_party.proofs.party.Party.take.Goals as goal

pub returns-in-Quiet : goal.returns-in-Quiet
returns-in-Quiet c =
    subst (λ (self : Party). IsTurn c.args.tables.now c.args.locks.now c.take_quiet-heard.new.locks self (setting_of c.args.setting) c.args.message c.told.result) (sym c.in-Quiet.is)
    (subst (λ (result : Result Outcome (Party × NoMemory)). IsTurn c.args.tables.now c.args.locks.now c.take_quiet-heard.new.locks (parties.Quiet c.in-Quiet.quiet) (setting_of c.args.setting) c.args.message result) (sym c.told.ensures)
    c.take_quiet-heard.ensures)
