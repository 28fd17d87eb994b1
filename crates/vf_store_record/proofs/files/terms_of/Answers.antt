use Rattle.std.proofs.lemmas.Result.{err_from_is_err_and}
use Rattle.vf_store_record.specs.Fields.{term}
use Rattle.vf_store_record.specs.Formats.{repeated_read}
use Rattle.vf_store_record.proofs.Loop.{goes_on, ends, is_done}
use Rattle.vf_store_record.proofs.files.terms_of.Goals as goal

pub returns-in_err-term : goal.returns-in_err-term
returns-in_err-term c =
    let p = err_from_is_err_and c.from_residual.result c.from_residual.ensures.1 in
    rw (p.1, p.2) (ends term c.in_err-term.field-0.0 c.loop.terms c.args.count c.loop.counter c.loop.rest (repeated_read term c.args.count c.args.rest.now) c.loop-test.true c.in_err-term.ensures c.loop.invariant)

pub loop-preserved : goal.loop-preserved
loop-preserved c =
    rw c.in_ok-push.ensures.ok (goes_on term c.loop.terms c.args.count c.loop.counter c.loop.rest c.in_ok-term.term c.term_at.new.rest (repeated_read term c.args.count c.args.rest.now) c.loop-test.true c.in_ok-term.ensures c.loop.invariant)

pub returns : goal.returns
returns c = is_done term c.loop.terms c.args.count c.loop.counter c.loop.rest (repeated_read term c.args.count c.args.rest.now) c.loop-test.false c.loop.invariant
