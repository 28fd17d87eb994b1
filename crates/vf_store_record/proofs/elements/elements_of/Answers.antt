use Rattle.std.proofs.lemmas.Result.{err_from_is_err_and}
use Rattle.vf_store_record.specs.Entries.{element}
use Rattle.vf_store_record.specs.Formats.{repeated_read}
use Rattle.vf_store_record.proofs.Loop.{goes_on, ends, is_done}
use Rattle.vf_store_record.proofs.elements.elements_of.Goals as goal

pub returns-in_err-element : goal.returns-in_err-element
returns-in_err-element c =
    let p = err_from_is_err_and c.from_residual.result c.from_residual.ensures.1 in
    rw (p.1, p.2) (ends element c.in_err-element.field-0.0 c.loop.elements c.args.count c.loop.counter c.loop.rest (repeated_read element c.args.count c.args.rest.now) c.loop-test.true c.in_err-element.ensures c.loop.invariant)

pub loop-preserved : goal.loop-preserved
loop-preserved c =
    rw c.in_ok-push.ensures.ok (goes_on element c.loop.elements c.args.count c.loop.counter c.loop.rest c.in_ok-element.element c.element_at.new.rest (repeated_read element c.args.count c.args.rest.now) c.loop-test.true c.in_ok-element.ensures c.loop.invariant)

pub returns : goal.returns
returns c = is_done element c.loop.elements c.args.count c.loop.counter c.loop.rest (repeated_read element c.args.count c.args.rest.now) c.loop-test.false c.loop.invariant
