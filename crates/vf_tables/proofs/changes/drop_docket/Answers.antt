use Rattle.std.proofs.Common.{ap, ◌∙◌}
use Rattle.std.specs.List.{position}
use Rattle.vf_tables.specs.Entries.{is_docket}
use Rattle.vf_tables.proofs.Placed.{dropped_by_place, place_within}
use Rattle.vf_tables.proofs.changes.drop_docket.Goals as goal

pub drop_at-requires : goal.drop_at-requires
drop_at-requires c = place_within (is_docket c.args.identity.now c.args.activity) c.args.dockets.now c.place_of_docket-place.result (c.place_of_docket-place.ensures ∙ ap (position (is_docket c.args.identity.now c.args.activity)) c.as_slice.ensures)

pub returns : goal.returns
returns c = c.drop_at.ensures ∙ dropped_by_place (is_docket c.args.identity.now c.args.activity) c.args.dockets.now c.place_of_docket-place.result (c.place_of_docket-place.ensures ∙ ap (position (is_docket c.args.identity.now c.args.activity)) c.as_slice.ensures)
