use Rattle.std.proofs.Common.{sym, []}
use Rattle.vf_ber_scan.proofs.ReadingLemmas.{fault_unread, read_small, whole_read}
use Rattle.vf_ber_scan.proofs.whole.whole_in.Goals as goal

pub returns-then-end-clause-value : goal.returns-then-end-clause-value
returns-then-end-clause-value c = sym (whole_read c.args.octets.now c.in-Some.end (c.in-Some.ensures.ended [] c.new-scan.ensures) c.if-end.true c.in-Some.ensures.within.1)

pub returns-then-end-clause-small : goal.returns-then-end-clause-small
returns-then-end-clause-small c = read_small c.args.octets.now c.in-Some.end.len (whole_read c.args.octets.now c.in-Some.end (c.in-Some.ensures.ended [] c.new-scan.ensures) c.if-end.true c.in-Some.ensures.within.1)

pub returns-else-end-clause-value : goal.returns-else-end-clause-value
returns-else-end-clause-value c = sym (fault_unread c.args.octets.now c.in-Some.end (c.in-Some.ensures.ended [] c.new-scan.ensures) c.if-end.false)
