use Rattle.std.proofs.lemmas.Result.{err_from_is_err_and}
use Rattle.vf_store_record.specs.Records.{change}
use Rattle.vf_store_record.specs.Formats.{repeated_read}
use Rattle.vf_store_record.proofs.Loop.{goes_on, ends, is_done}
use Rattle.vf_store_record.proofs.changes.changes_in.Goals as goal

pub returns-in_err-change : goal.returns-in_err-change
returns-in_err-change c =
    let p = err_from_is_err_and c.from_residual.result c.from_residual.ensures.1 in
    rw (p.1, p.2) (ends change c.in_err-change.field-0.0 c.loop.changes c.args.count c.loop.counter c.loop.rest (repeated_read change c.args.count c.args.rest.now) c.loop-test.true c.in_err-change.ensures c.loop.invariant)

pub loop-preserved : goal.loop-preserved
loop-preserved c =
    rw c.in_ok-push.ensures.ok (goes_on change c.loop.changes c.args.count c.loop.counter c.loop.rest c.in_ok-change.change c.change_at.new.rest (repeated_read change c.args.count c.args.rest.now) c.loop-test.true c.in_ok-change.ensures c.loop.invariant)

pub returns : goal.returns
returns c = is_done change c.loop.changes c.args.count c.loop.counter c.loop.rest (repeated_read change c.args.count c.args.rest.now) c.loop-test.false c.loop.invariant
