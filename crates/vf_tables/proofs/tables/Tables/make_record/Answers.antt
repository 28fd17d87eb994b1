use Rattle.std.proofs.Common.{sym, ◌∙◌}
use Rattle.vf_tables.specs.Making.{fitted_by}
use Rattle.vf_tables.proofs.Made.{fitted_after, invalid_none, not_made, unfit_none, valid_some, was_made}
use Rattle.vf_tables.proofs.tables.Tables.make_record.Goals as goal

pub returns-then-not-branch : goal.returns-then-not-branch
returns-then-not-branch c =
    unfit_none c.args.self.now c.args.changes.now
    (not_made (fitted_by c.args.self.now c.args.changes.now) c.make_fitting.new.self c.in_ok-make_fitting.field-0 c.in_ok-make_fitting.ensures c.if-not-branch.true)

pub are_valid_after-requires : goal.are_valid_after-requires
are_valid_after-requires c = λ were. (
  c.args.self.now,
  c.requires were,
  fitted_after c.args.self.now c.make_fitting.new.self c.args.changes.now
      (was_made (fitted_by c.args.self.now c.args.changes.now) c.make_fitting.new.self c.in_ok-make_fitting.field-0 c.in_ok-make_fitting.ensures c.if-not-branch.false),
)

pub returns-then-not-are_valid_after : goal.returns-then-not-are_valid_after
returns-then-not-are_valid_after c =
    invalid_none c.args.self.now c.make_fitting.new.self c.args.changes.now
    (was_made (fitted_by c.args.self.now c.args.changes.now) c.make_fitting.new.self c.in_ok-make_fitting.field-0 c.in_ok-make_fitting.ensures c.if-not-branch.false)
    (sym c.are_valid_after.ensures ∙ c.if-not-are_valid_after.true)

pub returns : goal.returns
returns c =
    valid_some c.args.self.now c.make_fitting.new.self c.args.changes.now
    (was_made (fitted_by c.args.self.now c.args.changes.now) c.make_fitting.new.self c.in_ok-make_fitting.field-0 c.in_ok-make_fitting.ensures c.if-not-branch.false)
    (sym c.are_valid_after.ensures ∙ c.if-not-are_valid_after.false)
