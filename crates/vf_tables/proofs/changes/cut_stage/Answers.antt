use Rattle.vf_tables.specs.Entries.{is_docket}
use Rattle.vf_tables.proofs.Placed.{changed_in_place, unchanged_in}
use Rattle.vf_tables.specs.Changes.{cut_to}
use Rattle.vf_tables.proofs.changes.cut_stage.Goals as goal

pub returns-in_default : goal.returns-in_default
returns-in_default c = unchanged_in (is_docket c.args.identity.now c.args.activity) (cut_to c.args.point) c.args.dockets.now c.as_slice.result.now c.place_of_docket.result c.place_of_docket.ensures c.as_slice.ensures c.in_default.is

pub returns : goal.returns
returns c =
    changed_in_place (is_docket c.args.identity.now c.args.activity) (cut_to c.args.point) c.dockets.inside.items.items c.args.dockets.now c.as_slice.result.now c.place_of_docket.result c.in-Some.place c.cut.new.docket c.index_mut.result.now
    c.place_of_docket.ensures c.as_slice.ensures c.dockets.view_is c.in-Some.is c.index_mut.ensures.value (c.cut.ensures)
