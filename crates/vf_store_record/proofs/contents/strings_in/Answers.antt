use Rattle.std.proofs.lemmas.Result.{err_from_is_err_and}
use Rattle.vf_store_record.specs.Entries.{string_in}
use Rattle.vf_store_record.specs.Formats.{repeated_read}
use Rattle.vf_store_record.proofs.Loop.{goes_on, ends, is_done}
use Rattle.vf_store_record.proofs.contents.strings_in.Goals as goal

pub returns-in_err-element : goal.returns-in_err-element
returns-in_err-element c =
    let p = err_from_is_err_and c.from_residual.result c.from_residual.ensures.1 in
    rw (p.1, p.2) (ends (string_in c.args.contents.now) c.in_err-element.field-0.0 c.loop.unit c.args.count c.loop.counter c.loop.rest (repeated_read (string_in c.args.contents.now) c.args.count c.args.rest.now) c.loop-test.true c.in_err-element.ensures c.loop.invariant)

pub loop-preserved : goal.loop-preserved
loop-preserved c =
    rw c.in_ok-push.ensures.ok (goes_on (string_in c.args.contents.now) c.loop.unit c.args.count c.loop.counter c.loop.rest c.in_ok-element.element c.element_in.new.rest (repeated_read (string_in c.args.contents.now) c.args.count c.args.rest.now) c.loop-test.true c.in_ok-element.ensures c.loop.invariant)

pub returns : goal.returns
returns c = is_done (string_in c.args.contents.now) c.loop.unit c.args.count c.loop.counter c.loop.rest (repeated_read (string_in c.args.contents.now) c.args.count c.args.rest.now) c.loop-test.false c.loop.invariant
