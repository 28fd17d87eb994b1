use Rattle.vf_upper.proofs.reading.found_in.Goals as goal

pub returns-in-Some : goal.returns-in-Some
returns-in-Some c =
    let alone = rw c.in-Some.is at c.in_ok-carried.ensures in
    rw (c.in-DT.is, c.in_ok-put_carried.ensures, c.requires) alone
