use Rattle.std.proofs.Common.{◌≡◌, ℕ, List, Option, ap, subst, sym, ◌∙◌}
use Rattle.vf_base.specs.declared.action.Controls.{Controls}
use Rattle.vf_filestore.specs.Controls.{joined, not_opened}
use Rattle.vf_locks.specs.Holders.{granted}
use Rattle.vf_locks.specs.Table.{IsWith, held}
use Rattle.vf_locks.specs.declared.holder.Holder.TheVariants.{Party}
use Rattle.vf_party_steps.specs.Renames.{IsRenamed}
use Rattle.vf_party_steps.proofs.Renames.{moved_to}
use Rattle.vf_party_steps.proofs.changing.hold_by.Goals as goal

pub returns-clause-ok : goal.returns-clause-ok
returns-clause-ok c =
    let link = c.args.state.now.associated.association.link in
    let old = c.args.state.now.selection.file in
    let new = c.in-Some.name in
    let before = c.args.locks.now in
    let between = c.grant.new.self in
    let after = c.release.new.self in
    let controls : Controls = joined not_opened c.args.state.now.selection.controls in
    let wanted : c.joined-wanted.result ≡ controls = c.joined-wanted.ensures ∙ ap (λ contents. joined contents c.args.state.now.selection.controls) c.not_opened.ensures in
    subst (λ (name : Option (List ℕ)). IsRenamed link old name controls before after) (sym c.in-Some.is)
    (moved_to link old new controls before after (sym c.eq.ensures ∙ c.if-eq.false)
    (record {
      between = between;
      granted = subst (λ (all : Controls). IsWith new (granted (Party link) all (held new before)) before between) wanted c.in-Ok.ensures.ok;
      released = c.release.ensures;
    }))
