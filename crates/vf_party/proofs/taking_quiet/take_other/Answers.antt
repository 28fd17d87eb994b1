use Rattle.std.proofs.Common.{sym, subst}
use Rattle.vf_elements.specs.declared.message.Message.TheVariants as messages
use Rattle.vf_party.specs.Settings.{setting_of}
use Rattle.vf_party.specs.Turns.{IsTurnIn}
use Rattle.vf_party.specs.declared.party.Party.TheVariants as parties
use Rattle.vf_party.proofs.taking_quiet.take_other.Goals as goal

pub returns : goal.returns
returns c = λ state party stands histories alone.
    subst (IsTurnIn c.args.tables.now c.args.locks.now c.take_own-taken.new.locks (parties.Quiet c.args.quiet) state party (setting_of c.args.setting) (messages.Pdu c.args.request)) (sym c.settled.ensures)
    (c.take_own-taken.ensures state party stands histories alone)
