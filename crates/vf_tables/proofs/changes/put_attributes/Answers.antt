use Rattle.std.proofs.Common.{List, Some, get_or, refl, sym, ap, ◌∙◌}
use Rattle.vf_attr.specs.declared.file.File.{File}
use Rattle.vf_tables.specs.Entries.{is_file}
use Rattle.vf_tables.specs.Changes.{renamed}
use Rattle.vf_tables.proofs.Placed.{changed_in_place, place_within, unchanged}
use Rattle.vf_tables.proofs.changes.put_attributes.Goals as goal

pub returns-in_default : goal.returns-in_default
returns-in_default c = unchanged (is_file c.args.old.now) (renamed c.args.name.now c.args.attributes.now) c.args.files.now (sym c.place_of.ensures ∙ c.in_default.is)

pub replace-requires : goal.replace-requires
replace-requires c = place_within (is_file c.args.old.now) c.args.files.now (Some c.in-Some.place) (sym c.in-Some.is ∙ c.place_of.ensures)

pub returns : goal.returns
returns c =
    let file = c.index-as_slice-place.result in
    c.in_ok-replace.ensures.ok
    ∙ changed_in_place (is_file c.args.old.now) (renamed c.args.name.now c.args.attributes.now) c.args.files.now c.args.files.now c.args.files.now c.place_of.result c.in-Some.place c.in_ok-file.file file
    c.place_of.ensures refl refl c.in-Some.is (c.index-as_slice-place.is ∙ ap (λ (l : List File). get_or l c.in-Some.place file) c.as_slice.ensures) c.in_ok-file.ensures
