use Rattle.std.proofs.Common.{◌∙◌, ℕ, List, ◌++◌, ap, subst}
use Rattle.vf_cli_script.specs.declared.script.Life.{Life}
use Rattle.vf_incarnations.proofs.Lives.{incarnations_are_one_run}
use Rattle.vf_incarnations.specs.Incarnations.{after_all}
use Rattle.vf_cli_replay.specs.Calls.{first_image}
use Rattle.vf_cli_replay.specs.Living.{episodes_of, lines_of}
use Rattle.vf_cli_replay.specs.Replayed.{begun_by, files_lines}
use Rattle.vf_cli_replay.specs.Standing.{HaveLived, image_after}
use Rattle.vf_cli_replay.proofs.replaying.replayed.Goals as goal

pub returns : goal.returns
returns c = λ good.
    let state = begun_by c.args.script in
    let image = first_image c.args.script.users in
    let keeps = c.in_ok-first.ensures good in
    let have : HaveLived image state c.args.script.lives c.new-text.result.items c.in_ok-last.last c.live_all.new.text.items =
    subst (λ (l : List Life). HaveLived image state l c.new-text.result.items c.in_ok-last.last c.live_all.new.text.items) c.as_slice.ensures (c.in_ok-last.ensures image state keeps) in
    let files = c.in_ok-append_files.ensures (image_after image have.all) (after_all (episodes_of have.all) state) have.keeps in
    record {
      all = have.all;
      live = have.live;
      one_run = incarnations_are_one_run (episodes_of have.all) state keeps.begins;
      sorted = files.0;
      order = files.1.0;
      lines = files.1.1 ∙ ap (λ (t : List ℕ). t ++ files_lines (after_all (episodes_of have.all) state).files files.0) (have.lines ∙ ap (λ (t : List ℕ). t ++ lines_of have.all) c.new-text.ensures.items);
    }
