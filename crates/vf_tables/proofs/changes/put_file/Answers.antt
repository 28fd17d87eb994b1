use Rattle.std.proofs.Common.{Some, sym, ap, ◌∙◌}
use Rattle.vf_attr.specs.declared.file.File.{File}
use Rattle.vf_tables.specs.Entries.{is_file, put}
use Rattle.vf_tables.proofs.Placed.{place_within, put_after, put_at_place}
use Rattle.vf_tables.proofs.changes.put_file.Goals as goal

pub replace-requires : goal.replace-requires
replace-requires c = place_within (is_file c.in_ok-file.file.name) c.args.files.now (Some c.in-Some.place) (sym c.in-Some.is ∙ c.place_of.ensures)

pub returns-in_default : goal.returns-in_default
returns-in_default c =
    c.in_ok-push.ensures.ok ∙ put_after (is_file c.in_ok-file.file.name) c.in_ok-file.file c.args.files.now (sym c.place_of.ensures ∙ c.in_default.is)
    ∙ ap (λ (entry : File). put (is_file entry.name) entry c.args.files.now) c.in_ok-file.ensures

pub returns : goal.returns
returns c =
    c.in_ok-replace.ensures.ok ∙ put_at_place (is_file c.in_ok-file.file.name) c.in_ok-file.file c.args.files.now c.in-Some.place (sym c.place_of.ensures ∙ c.in-Some.is)
    ∙ ap (λ (entry : File). put (is_file entry.name) entry c.args.files.now) c.in_ok-file.ensures
