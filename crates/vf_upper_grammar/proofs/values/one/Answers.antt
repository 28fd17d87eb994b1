use Rattle.std.proofs.Common.{ap, length, arith}
use Rattle.vf_upper_grammar.specs.HeldViews.{octets_of}
use Rattle.vf_upper_grammar.specs.MarkViews.{marks_of}
use Rattle.vf_upper_grammar.specs.Texts.{one as one_value}
use Rattle.vf_upper_grammar.proofs.Readings.{one_ends, one_goes_on, one_stops}
use Rattle.vf_upper_grammar.proofs.Stopping.{stops}
use Rattle.vf_upper_grammar.proofs.values.one.Goals as goal

pub returns-in_err-n : goal.returns-in_err-n
returns-in_err-n c =
    stops c.from_residual.result c.in_err-n.field-0.0 _ (one_value (octets_of c.args.held.now) (marks_of c.args.found.now)) c.from_residual.ensures.1
    (one_stops (octets_of c.args.held.now) (marks_of c.args.found.now) (marks_of c.next_value.new.found) c.in_err-n.field-0.0 c.in_err-n.ensures.next)

pub returns-then-n-octets : goal.returns-then-n-octets
returns-then-n-octets c = one_goes_on (octets_of c.args.held.now) (marks_of c.args.found.now) (marks_of c.next_value.new.found) c.in_ok-n.n (omega (arith, ap length c.octets.ensures)) c.in_ok-n.ensures.next

pub returns : goal.returns
returns c = one_ends (octets_of c.args.held.now) (marks_of c.args.found.now) (marks_of c.next_value.new.found) c.in_ok-n.n (omega (arith, ap length c.octets.ensures)) c.in_ok-n.ensures.next
