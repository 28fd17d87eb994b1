use Rattle.vf_tables.specs.declared.user.User.{User}
use Rattle.vf_tables.proofs.Distinct.{distinct_differ}
use Rattle.vf_tables.proofs.validity.users_differ.Goals as goal

pub returns-then-are_distinct : goal.returns-then-are_distinct
returns-then-are_distinct c = distinct_differ (λ (user : User). user.identity) c.args.users.now (c.are_distinct.ensures c.if-are_distinct.true)
