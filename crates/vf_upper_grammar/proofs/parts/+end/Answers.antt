use Rattle.vf_upper_grammar.proofs.Ends.{goes_on}
use Rattle.vf_upper_grammar.proofs.parts.+end.Goals as goal

pub after_end-loop-first-smaller : goal.after_end-loop-first-smaller
after_end-loop-first-smaller t c =
    (goes_on c.in-Some.first c.in-Some.after.now c.args.octets.now c.loop-first.rest.now c.in_ok-rest.rest.now c.in-Some.ensures c.if-first-eq0.false c.in_ok-rest.ensures c.loop-first.invariant.0 c.loop-first.invariant.1).shorter

pub after_end-loop-first-preserved : goal.after_end-loop-first-preserved
after_end-loop-first-preserved t c =
    let on = goes_on c.in-Some.first c.in-Some.after.now c.args.octets.now c.loop-first.rest.now c.in_ok-rest.rest.now c.in-Some.ensures c.if-first-eq0.false c.in_ok-rest.ensures c.loop-first.invariant.0 c.loop-first.invariant.1 in
    (on.same, on.within)
