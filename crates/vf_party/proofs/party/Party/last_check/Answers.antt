use Rattle.std.proofs.Common.{subst, ◌∙◌}
use Rattle.vf_filestore.specs.Transfers.{happened}
use Rattle.vf_party.specs.Turns.{IsParty}
use Rattle.vf_party.specs.declared.party.Party.{Party}
use Rattle.vf_party_steps.proofs.Writes.{offered_is}
use Rattle.vf_party.proofs.AskedLemmas.{write-check}
use Rattle.vf_party.proofs.party.Party.last_check.Goals as goal

pub returns-in-Writing : goal.returns-in-Writing
returns-in-Writing c = λ standing is.
    let writing = (subst (λ (party : Party). IsParty party standing) c.in-Writing.is is).represented in
    write-check c.in-Writing.writing standing.link standing.history c.check_number-in-Writing.result writing
    (c.check_number-in-Writing.ensures ∙ offered_is c.in-Writing.writing.received.checks (happened standing.history) writing.counted writing.received.checks)
