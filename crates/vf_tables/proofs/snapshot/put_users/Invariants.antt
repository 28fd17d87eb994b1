use Rattle.std.proofs.Common.{◌≡◌, ◌++◌, map, take}
use Rattle.vf_tables.specs.declared.user.User.{User}
use Rattle.vf_tables.specs.declared.change.Change.TheVariants.{PutUser}
use Rattle.vf_tables.proofs.snapshot.put_users.Given as goal

abbrev pub invariant-loop-user : goal.invariant-loop-user
invariant-loop-user l = l.changes ≡ l.initial.changes ++ map (λ (user : User). PutUser user) (take l.user-index l.users)
