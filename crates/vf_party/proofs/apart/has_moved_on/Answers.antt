use Rattle.std.proofs.Common.{nat_eq, sym}
use Rattle.vf_party.proofs.Differing.{not_true, pair_apart}
use Rattle.vf_party.proofs.apart.has_moved_on.Goals as goal

pub returns : goal.returns
returns c = λ moved.
    let file = c.in-Some-get.file.now in
    let other = c.in-Some-get-2.other.now in
    pair_apart c.args.before.now c.args.after.now c.in-Some.place file other (sym c.in-Some-get.ensures) (sym c.in-Some-get-2.ensures) (not_true (nat_eq file.version other.version) moved)
