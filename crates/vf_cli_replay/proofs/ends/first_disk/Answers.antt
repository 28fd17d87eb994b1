use Rattle.vf_cli_replay.proofs.Firsts.{first_crashes}
use Rattle.vf_cli_replay.proofs.ends.first_disk.Goals as goal

pub returns : goal.returns
returns c = λ good.
    let made = c.in_ok-store.ensures in
    first_crashes c.args.users c.put_users.new.store c.close.result c.crash.result good (c.in_ok-put_users.ensures good made.0 made.1 made.2) c.close.ensures c.crash.ensures.left c.crash.ensures.image
    c.crash.ensures.synced
