use Rattle.std.proofs.Common.{[], ◌∷◌, sym, subst}
use Rattle.vf_elements.specs.declared.message.Said.TheVariants as answers
use Rattle.vf_party.specs.Quiets.{IsQuiet}
use Rattle.vf_party.specs.Turns.{EndsSaying}
use Rattle.vf_party.specs.declared.party.Party.TheVariants as parties
use Rattle.vf_party.proofs.taking_quiet.abort_quiet.Goals as goal

pub returns : goal.returns
returns c =
    subst (EndsSaying IsQuiet parties.Quiet c.args.quiet (answers.Abort c.args.number 0 ∷ []) c.args.locks.now c.aborted_at-taken.new.locks) (sym c.settled.ensures) c.aborted_at-taken.ensures
