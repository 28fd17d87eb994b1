use Rattle.std.proofs.Common.{◌+◌, ◌∙◌, ap, sym, arith, drop, length}
use Rattle.std.specs.Prelude.{nat_lt}
use Rattle.vf_upper_grammar.specs.HeldViews.{octets_of}
use Rattle.vf_upper_grammar.specs.MarkViews.{marks_of}
use Rattle.vf_upper_grammar.specs.Texts.{some as some_values}
use Rattle.vf_upper_grammar.proofs.InTurn.{left, left_next, left_stops, some-at}
use Rattle.vf_upper_grammar.proofs.Stopping.{stops}
use Rattle.vf_upper_grammar.proofs.values.some.Goals as goal

pub loop-more-init : goal.loop-more-init
loop-more-init c = (some-at (octets_of c.args.held.now) (marks_of c.args.found.now), omega arith)

pub returns-in_err-n : goal.returns-in_err-n
returns-in_err-n c =
    let octets = octets_of c.args.held.now in
    let old = marks_of c.loop-more.found in
    let all = some_values octets (marks_of c.args.found.now) in
    stops c.from_residual.result c.in_err-n.field-0.0 _ all c.from_residual.ensures.1
    (left_stops c.loop-more.at (drop c.loop-more.at octets) old (marks_of c.next_value.new.found) c.in_err-n.field-0.0 all
    (c.loop-more.invariant.0 ∙ ap (λ b. left b c.loop-more.at (drop c.loop-more.at octets) old) c.loop-more-test.true) c.in_err-n.ensures.next)

pub loop-more-preserved : goal.loop-more-preserved
loop-more-preserved c =
    let octets = octets_of c.args.held.now in
    let old = marks_of c.loop-more.found in
    let new = marks_of c.next_value.new.found in (
      c.loop-more.invariant.0 ∙ ap (λ b. left b c.loop-more.at (drop c.loop-more.at octets) old) c.loop-more-test.true
          ∙ left_next c.loop-more.at c.in_ok-n.n octets old new c.in_ok-n.ensures.next
          ∙ ap (λ os. left (nat_lt (c.loop-more.at + c.in_ok-n.n) (length os)) (c.loop-more.at + c.in_ok-n.n) (drop (c.loop-more.at + c.in_ok-n.n) octets) new) (sym c.octets.ensures),
      omega (arith, c.in_ok-n.ensures.within),
    )
