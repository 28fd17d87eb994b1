use Rattle.std.proofs.Common.{Some, sym, ap, ◌∙◌}
use Rattle.vf_tables.specs.declared.user.User.{User}
use Rattle.vf_tables.specs.Entries.{is_user, put}
use Rattle.vf_tables.proofs.Placed.{place_within, put_after, put_at_place}
use Rattle.vf_tables.proofs.changes.put_user.Goals as goal

pub replace-requires : goal.replace-requires
replace-requires c = place_within (is_user c.in_ok-user.user.identity) c.args.users.now (Some c.in-Some.place) (sym c.in-Some.is ∙ c.place_of.ensures)

pub returns-in_default : goal.returns-in_default
returns-in_default c =
    c.in_ok-push.ensures.ok ∙ put_after (is_user c.in_ok-user.user.identity) c.in_ok-user.user c.args.users.now (sym c.place_of.ensures ∙ c.in_default.is)
    ∙ ap (λ (entry : User). put (is_user entry.identity) entry c.args.users.now) c.in_ok-user.ensures

pub returns : goal.returns
returns c =
    c.in_ok-replace.ensures.ok ∙ put_at_place (is_user c.in_ok-user.user.identity) c.in_ok-user.user c.args.users.now c.in-Some.place (sym c.place_of.ensures ∙ c.in-Some.is)
    ∙ ap (λ (entry : User). put (is_user entry.identity) entry c.args.users.now) c.in_ok-user.ensures
