use Rattle.std.proofs.Common.{subst}
use Rattle.vf_filestore.specs.HoldersAfter.{Keeps}
use Rattle.vf_filestore.specs.Sound.{Begins}
use Rattle.vf_filestore.specs.State.{State}
use Rattle.vf_tables.specs.declared.tables.Tables.{Tables}
use Rattle.vf_responder.proofs.BegunLemmas.{begun}
use Rattle.vf_responder.proofs.responder.Responder.open.Goals as goal

pub returns-clause-begins : goal.returns-clause-begins
returns-clause-begins g c = λ image tables serving shown represents is.
    let locks = c.in-Ok-holders_of.locks in
    begun (record { store = c.in-Ok.store; locks = locks; links = c.new-links.result.entries }) tables serving c.new-links.ensures.empty
    (c.in-Ok.ensures.represented image tables shown represents).0
    (subst (λ (t : Tables). (state : State) → Begins t state → Keeps locks state) c.tables.ensures c.in-Ok-holders_of.ensures) is
