use Rattle.std.proofs.Common.{◌≡◌, ℕ, List, None, ap, sym, subst, ◌∙◌}
use Rattle.vf_filestore.specs.Controls.{joined, not_opened}
use Rattle.vf_filestore.specs.Selecting.{create_rows}
use Rattle.vf_filestore.specs.Units.{limited_management, unit_row}
use Rattle.vf_filestore.proofs.Decided.{later_passed}
use Rattle.vf_locks.specs.Clash.{conflict}
use Rattle.vf_locks.specs.Table.{held}
use Rattle.vf_locks.specs.declared.holder.Holder.TheVariants.{Party}
use Rattle.vf_regime_refusals.specs.Asked.{found_in, stamp_by, wanted_of}
use Rattle.vf_party_steps.proofs.Creations.{refusal_in, refusal_is}
use Rattle.vf_party_steps.proofs.Unopposed.{creation_unopposed}
use Rattle.vf_party_steps.proofs.creating.created.Goals as goal

pub hold_selected-requires : goal.hold_selected-requires
hold_selected-requires c =
    let association = c.args.associated.now.association in
    let selection = c.args.selection.now in
    let wanted = wanted_of association selection in
    let old = c.args.locks.now in
    let found = found_in c.args.tables.now.files old in
    let stamp = stamp_by association c.args.moment in
    let rows = create_rows found wanted c.args.over stamp c.args.new in
    subst (λ (file : List ℕ). conflict (Party association.link) (joined not_opened selection.controls) (held file old) ≡ None) (sym c.requires)
    (creation_unopposed found wanted c.args.over stamp c.args.new
    (later_passed (unit_row association.units limited_management) rows (sym (refusal_is found wanted c.args.over stamp c.args.new association.units) ∙ ap refusal_in c.in_ok-changes.ensures.made)))
