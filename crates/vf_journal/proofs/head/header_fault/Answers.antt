use Rattle.std.proofs.Common.{◌<◌, ◌≤◌, length, sym, ◌∙◌, ap, arith}
use Rattle.std.specs.Prelude.{option_map}
use Rattle.vf_journal.specs.Answers.{not_a_store}
use Rattle.vf_journal.specs.Layout.{header}
use Rattle.vf_journal.proofs.Heads.{agrees_at, differs_at, ends_at}
use Rattle.vf_journal.proofs.head.header_fault.Goals as goal

pub returns-then-ends : goal.returns-then-ends
returns-then-ends c =
    let octets = c.args.octets.now in
    let less : c.loop-place.place < length header = omega arith in
    let ends : length octets ≤ c.loop-place.place = omega arith in
    ap (option_map not_a_store) (sym (c.loop-place.invariant ∙ ends_at header octets c.loop-place.place less ends))

pub returns-then-found-expected : goal.returns-then-found-expected
returns-then-found-expected c =
    let octets = c.args.octets.now in
    let less : c.loop-place.place < length header = omega arith in
    let within : c.loop-place.place < length octets = omega arith in
    ap (option_map not_a_store) (sym (c.loop-place.invariant ∙ differs_at header octets c.loop-place.place less within c.if-found-expected.true))

pub loop-place-preserved : goal.loop-place-preserved
loop-place-preserved c =
    let octets = c.args.octets.now in
    let less : c.loop-place.place < length header = omega arith in
    let within : c.loop-place.place < length octets = omega arith in
    c.loop-place.invariant ∙ agrees_at header octets c.loop-place.place less within c.if-found-expected.false
