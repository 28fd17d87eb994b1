use Rattle.std.proofs.Common.{None, Some, sym, ◌∙◌}
use Rattle.vf_tables.specs.Entries.{is_file}
use Rattle.vf_tables.proofs.Placed.{dropped_by_place, place_within}
use Rattle.vf_tables.proofs.changes.drop_file.Goals as goal

pub remove-requires : goal.remove-requires
remove-requires c = place_within (is_file c.args.name.now) c.args.files.now (Some c.in-Some.place) (sym c.in-Some.is ∙ c.place_of.ensures)

pub returns-in_default : goal.returns-in_default
returns-in_default c = dropped_by_place (is_file c.args.name.now) c.args.files.now None (sym c.in_default.is ∙ c.place_of.ensures)

pub returns : goal.returns
returns c = c.remove.ensures ∙ dropped_by_place (is_file c.args.name.now) c.args.files.now (Some c.in-Some.place) (sym c.in-Some.is ∙ c.place_of.ensures)
