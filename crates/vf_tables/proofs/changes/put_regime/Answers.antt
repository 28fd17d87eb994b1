use Rattle.std.proofs.Common.{List, refl, ap, ◌∙◌}
use Rattle.vf_base.specs.declared.element.Element.{Element}
use Rattle.vf_tables.specs.declared.docket.Docket.{Docket}
use Rattle.vf_tables.specs.Entries.{is_docket}
use Rattle.vf_tables.specs.Changes.{staged_in}
use Rattle.vf_tables.proofs.Placed.{put_in_place, put_last_in}
use Rattle.vf_tables.proofs.changes.put_regime.Goals as goal

pub returns-in_default : goal.returns-in_default
returns-in_default c =
    let entry : Docket = record { regime = c.in_ok-made.made; staged = c.new.result } in
    put_last_in (is_docket c.args.regime.now.identity c.args.regime.now.activity) (λ (pieces : List (List Element)). record { regime = c.args.regime.now; staged = pieces }) staged_in c.args.dockets.now c.as_slice.result.now c.push.new.self c.place_of_docket.result entry c.place_of_docket.ensures c.as_slice.ensures c.in_default.is c.in_ok-push.ensures.ok
    (rw (c.in_ok-made.ensures, c.new.ensures) refl)

pub returns : goal.returns
returns c =
    put_in_place (is_docket c.args.regime.now.identity c.args.regime.now.activity) (λ (pieces : List (List Element)). record { regime = c.args.regime.now; staged = pieces }) staged_in (λ (entry : Docket). entry.staged) c.dockets.inside.items.items c.args.dockets.now c.as_slice.result.now c.place_of_docket.result c.in-Some.place c.set_regime.new.docket c.index_mut.result.now
    c.place_of_docket.ensures c.as_slice.ensures c.dockets.view_is c.in-Some.is c.index_mut.ensures.value (c.set_regime.ensures ∙ rw c.in_ok-made.ensures refl) (λ entry. refl)
