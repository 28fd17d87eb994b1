use Rattle.std.proofs.Common.{◌≡◌, ◌+◌, ◌<◌, drop, arith, ap, sym, ◌∙◌}
use Rattle.vf_journal.specs.Layout.{length_named}
use Rattle.vf_journal.proofs.Prefixes.{record_short, record_whole}
use Rattle.vf_journal.proofs.reading.record_length.Goals as goal

pub returns-then-left-from-clause-none : goal.returns-then-left-from-clause-none
returns-then-left-from-clause-none c = λ all begins.
    let count : c.named_length-count.result ≡ length_named (drop 1 c.args.octets.now) = c.named_length-count.ensures ∙ ap length_named c.split_at.ensures.back in
    let long = c.requires.octets in
    let short : c.args.left < length_named (drop 1 c.args.octets.now) + 6 = omega (arith, count) in
    record_short c.args.octets.now c.args.left all begins long short

pub returns-clause-some : goal.returns-clause-some
returns-clause-some c = λ all begins.
    let count : c.named_length-count.result ≡ length_named (drop 1 c.args.octets.now) = c.named_length-count.ensures ∙ ap length_named c.split_at.ensures.back in
    record_whole c.args.octets.now c.args.left all c.named_length-count.result begins c.requires.octets c.requires.left (sym count) c.if-octets-eq0.false (omega arith)
