use Rattle.std.proofs.lemmas.Result.{err_from_is_err_and}
use Rattle.vf_store_record.specs.Entries.{unit_in}
use Rattle.vf_store_record.specs.Formats.{repeated_read}
use Rattle.vf_store_record.proofs.Loop.{goes_on, ends, is_done}
use Rattle.vf_store_record.proofs.contents.units_of.Goals as goal

pub returns-in_err-unit : goal.returns-in_err-unit
returns-in_err-unit c =
    let p = err_from_is_err_and c.from_residual.result c.from_residual.ensures.1 in
    rw (p.1, p.2) (ends (unit_in c.args.contents.now) c.in_err-unit.field-0.0 c.loop.units.items c.args.count c.loop.counter c.loop.rest (repeated_read (unit_in c.args.contents.now) c.args.count c.args.rest.now) c.loop-test.true c.in_err-unit.ensures c.loop.invariant)

pub loop-preserved : goal.loop-preserved
loop-preserved c =
    rw c.in_ok-push.ensures.items (goes_on (unit_in c.args.contents.now) c.loop.units.items c.args.count c.loop.counter c.loop.rest c.in_ok-unit.unit c.unit_at.new.rest (repeated_read (unit_in c.args.contents.now) c.args.count c.args.rest.now) c.loop-test.true c.in_ok-unit.ensures c.loop.invariant)

pub returns : goal.returns
returns c = is_done (unit_in c.args.contents.now) c.loop.units.items c.args.count c.loop.counter c.loop.rest (repeated_read (unit_in c.args.contents.now) c.args.count c.args.rest.now) c.loop-test.false c.loop.invariant
