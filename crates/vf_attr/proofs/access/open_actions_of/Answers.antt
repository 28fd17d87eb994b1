use Rattle.std.proofs.Common.{◌≡◌, [], drop, option_copied, arith}
use Rattle.std.proofs.lemmas.Grind.{common_steps}
use Rattle.vf_attr.proofs.Sets.{missing_joined}
use Rattle.vf_attr.specs.Access.{open_terms}
use Rattle.vf_attr.proofs.access.open_actions_of.Goals as goal

pub returns : goal.returns
returns c =
    let none_left : drop c.loop-term.term-index c.args.terms.now ≡ [] = grind (arith, common_steps) in
    missing_joined c.loop-term.value (open_terms c.args.who.now (option_copied c.args.password) c.args.terms.now)
    (rw none_left at c.loop-term.invariant)
