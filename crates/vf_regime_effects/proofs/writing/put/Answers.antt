use Rattle.std.proofs.Common.{◌≡◌, ◌∙◌, ap, sym, true, arith}
use Rattle.std.proofs.lemmas.Bool.{lt-ltb}
use Rattle.vf_attr.specs.declared.file.File.{File}
use Rattle.vf_regime_effects.proofs.Ends.{put_there}
use Rattle.vf_regime_effects.proofs.writing.put.Goals as goal

pub has_room_for-requires-clause-named : goal.has_room_for-requires-clause-named
has_room_for-requires-clause-named c = ap (λ (file : File). file.name) c.in_ok-after.ensures

pub returns : goal.returns
returns c =
    let file = c.args.file.now in
    let has : c.has_room_for.result ≡ true = grind arith in
    c.placed.ensures
    ∙ put_there c.args.files.now c.args.stamp file c.args.acted c.in_ok-after.after c.in_ok-after.ensures
    (lt-ltb file.version 4294967295 (omega arith)) (sym c.has_room_for.ensures ∙ has)
