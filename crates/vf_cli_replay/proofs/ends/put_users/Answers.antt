use Rattle.std.proofs.Common.{◌∙◌, sym}
use Rattle.vf_cli_replay.proofs.Firsts.{none_made, some_users, users_made}
use Rattle.vf_cli_replay.proofs.ends.put_users.Goals as goal

pub returns-then-len-eq0 : goal.returns-then-len-eq0
returns-then-len-eq0 c = λ good empty stands begun. none_made c.args.users c.args.store.now (sym c.len.ensures ∙ c.if-len-eq0.true) empty stands begun

pub returns-in-Ok : goal.returns-in-Ok
returns-in-Ok c = λ good empty stands begun.
    users_made c.in_ok-changes.changes c.args.users c.args.store.now c.commit.new.self c.snapshot_makes.ensures good (some_users c.args.users c.len.result c.len.ensures c.if-len-eq0.false) empty
    c.in_ok-changes.ensures begun c.in-Ok.ensures.tables (λ fits. c.in-Ok.ensures.represented fits stands) c.in-Ok.ensures.answers.0 c.in-Ok.ensures.steps c.in-Ok.ensures.journal
