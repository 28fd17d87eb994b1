use Rattle.vf_tables.specs.Making.{made_of}
use Rattle.vf_tables.proofs.Made.{made_valid, was_made}
use Rattle.vf_tables.proofs.doubled.Doubled.make.Goals as goal

pub take_up-requires-clause-valid : goal.take_up-requires-clause-valid
take_up-requires-clause-valid c = λ is.
    made_valid c.in_ok-next.next c.make_record.new.self c.args.changes.now
    (was_made (made_of c.in_ok-next.next c.args.changes.now) c.make_record.new.self c.in_ok-make_record.field-0 c.in_ok-make_record.ensures c.if-not-branch.false)
