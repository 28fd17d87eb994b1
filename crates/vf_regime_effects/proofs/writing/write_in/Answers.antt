use Rattle.std.proofs.Common.{◌∙◌, ap, sym}
use Rattle.vf_doctype.specs.Units.{units}
use Rattle.vf_filestore.specs.Ending.{written_in}
use Rattle.vf_regime_effects.proofs.Ends.{written_by}
use Rattle.vf_regime_effects.proofs.writing.write_in.Goals as goal

pub returns : goal.returns
returns c =
    let file = c.args.file.now in
    let write = c.args.write in
    c.in_ok-ending.ensures
    ∙ sym (written_by c.args.files.now c.args.stamp file write.position write.operation write.fadu (units c.in-Some.doc c.args.values.now))
    ∙ ap (written_in c.args.files.now c.args.stamp file write.position write.operation write.fadu c.args.values.now) c.in-Some.ensures
