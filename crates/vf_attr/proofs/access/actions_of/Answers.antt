use Rattle.std.proofs.Common.{◌≡◌, [], drop, arith}
use Rattle.std.proofs.lemmas.Grind.{common_steps}
use Rattle.vf_attr.proofs.Sets.{missing_joined}
use Rattle.vf_attr.specs.Access.{terms_of}
use Rattle.vf_attr.proofs.access.actions_of.Goals as goal

pub returns : goal.returns
returns c =
    let none_left : drop c.loop-term.term-index c.args.terms.now ≡ [] = grind (arith, common_steps) in
    missing_joined c.loop-term.value (terms_of c.args.who.now c.args.terms.now) (rw none_left at c.loop-term.invariant)
