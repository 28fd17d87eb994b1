use Rattle.std.proofs.Common.{◌≡◌, ◌∙◌, ◌++◌, List, OnOk, ap, subst}
use Rattle.vf_attr.specs.declared.file.File.{File}
use Rattle.vf_filestore.specs.Tables.{tables_of}
use Rattle.vf_store_commands.specs.Listing.{IsInOrder}
use Rattle.vf_tables.specs.declared.tables.Tables.{Tables}
use Rattle.vf_cli_replay.specs.Disks.{shown}
use Rattle.vf_cli_replay.specs.Replayed.{files_lines}
use Rattle.vf_cli_replay.proofs.ends.append_files.Goals as goal

pub returns : goal.returns
returns c = λ image state keeps.
    let has = c.in_ok-store.ensures image (tables_of state) (ap shown keeps.disk_is) keeps.represents in
    let files : c.as_slice.result.now ≡ state.files = c.as_slice.ensures ∙ ap (λ (t : Tables). t.files) c.tables.ensures ∙ ap (λ (t : Tables). t.files) has.0 in
    subst (λ (l : List File). OnOk c.append_files_of.result ((sorted : List File) × (IsInOrder l sorted × (c.append_files_of.new.text.items ≡ c.args.text.now.items ++ files_lines l sorted))))
    files c.append_files_of.ensures
