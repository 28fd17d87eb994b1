use Rattle.vf_cli_replay.proofs.ends.opened.Goals as goal

pub returns-in-Ok : goal.returns-in-Ok
returns-in-Ok c = λ image tables shows represents.
    let has = c.in-Ok.ensures.represented image tables shows represents in
    (has.0, has.1, record { calls = c.in-Ok.ensures.looks.calls; made = c.in-Ok.ensures.looks.made; journal = c.in-Ok.ensures.journal image shows })
