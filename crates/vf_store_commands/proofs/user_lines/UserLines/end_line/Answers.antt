use Rattle.std.proofs.Common.{◌≡◌, None, Some, true, false}
use Rattle.vf_store_commands.specs.UserLines.{may_join, user_told}
use Rattle.vf_store_commands.proofs.BadLines.{joined_ends, joined_last, none_ends, none_last, refused_ends, refused_last}
use Rattle.vf_store_commands.proofs.user_lines.UserLines.end_line.Goals as goal

pub returns-in_default-clause-takes : goal.returns-in_default-clause-takes
returns-in_default-clause-takes c =
    let none : user_told c.self.inside.line.items ≡ None = cc (c.as_slice.ensures.value, c.in_ok-user.ensures) in
    rw (← c.self.view_is) (none_ends c.self.inside.users c.self.inside.line.items c.self.invariant.line none)

pub returns-in_default-clause-last : goal.returns-in_default-clause-last
returns-in_default-clause-last c =
    let none : user_told c.self.inside.line.items ≡ None = cc (c.as_slice.ensures.value, c.in_ok-user.ensures) in
    rw (← c.self.view_is) (none_last c.self.inside.users c.self.inside.line.items c.self.invariant.line none)

pub returns-then-not-may_join-clause-takes : goal.returns-then-not-may_join-clause-takes
returns-then-not-may_join-clause-takes c =
    let some : user_told c.self.inside.line.items ≡ Some c.in-Some.user = cc (c.as_slice.ensures.value, c.in_ok-user.ensures) in
    let no : may_join c.self.inside.users c.in-Some.user ≡ false = cc (c.as_slice-2.ensures, c.may_join.ensures, c.if-not-may_join.true) in
    rw (← c.self.view_is) (refused_ends c.self.inside.users c.self.inside.line.items c.self.invariant.line c.in-Some.user some no)

pub returns-then-not-may_join-clause-last : goal.returns-then-not-may_join-clause-last
returns-then-not-may_join-clause-last c =
    let some : user_told c.self.inside.line.items ≡ Some c.in-Some.user = cc (c.as_slice.ensures.value, c.in_ok-user.ensures) in
    let no : may_join c.self.inside.users c.in-Some.user ≡ false = cc (c.as_slice-2.ensures, c.may_join.ensures, c.if-not-may_join.true) in
    rw (← c.self.view_is) (refused_last c.self.inside.users c.self.inside.line.items c.self.invariant.line c.in-Some.user some no)

pub returns-clause-takes : goal.returns-clause-takes
returns-clause-takes c =
    let some : user_told c.self.inside.line.items ≡ Some c.in-Some.user = cc (c.as_slice.ensures.value, c.in_ok-user.ensures) in
    let may : may_join c.self.inside.users c.in-Some.user ≡ true = cc (c.as_slice-2.ensures, c.may_join.ensures, c.if-not-may_join.false) in
    rw (← c.self.view_is, c.in_ok-push.ensures.ok, c.clear.ensures.items)
    (joined_ends c.self.inside.users c.self.inside.line.items c.self.invariant.line c.in-Some.user some may)

pub returns-clause-last : goal.returns-clause-last
returns-clause-last c =
    let some : user_told c.self.inside.line.items ≡ Some c.in-Some.user = cc (c.as_slice.ensures.value, c.in_ok-user.ensures) in
    let may : may_join c.self.inside.users c.in-Some.user ≡ true = cc (c.as_slice-2.ensures, c.may_join.ensures, c.if-not-may_join.false) in
    λ filled. (rw (← c.self.view_is, c.in_ok-push.ensures.ok) (joined_last c.self.inside.users c.self.inside.line.items c.self.invariant.line c.in-Some.user some may (λ none. filled (rw (← c.self.view_is) none))), c.clear.ensures.items)
