use Rattle.std.proofs.Common.{subst}
use Rattle.vf_filestore.specs.Aborts.{Setting}
use Rattle.vf_party.specs.Hearing.{outcome_in}
use Rattle.vf_party.specs.Turns.{IsTaken}
use Rattle.vf_responder.proofs.link.Link.turn.Goals as goal

pub returns-clause-taken : goal.returns-clause-taken
returns-clause-taken c = λ state party association indication stands histories represents called asked.
    subst (λ (setting : Setting). IsTaken c.args.tables.now c.hear_over.new.locks state party setting c.args.message (outcome_in c.hear_over.new.self c.in_ok-heard.heard))
    (c.setting-setting.ensures association indication called asked)
    (c.in_ok-heard.ensures.turn state party stands histories represents)
