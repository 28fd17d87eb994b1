use Rattle.std.proofs.Common.{◌∙◌, ap, sym}
use Rattle.vf_filestore.specs.Files.{file_named}
use Rattle.vf_regime_effects.proofs.Rooms.{room, octets_of_option}
use Rattle.vf_regime_effects.proofs.room.has_room_for.Goals as goal

pub returns : goal.returns
returns c =
    let old = c.octets_of-old in
    let new = c.octets_of-new in
    room c.args.after.now c.args.files.now c.octets.result old.result new.result c.octets.ensures
    (old.ensures.octets
    ∙ sym (ap octets_of_option (ap (λ name. file_named name c.args.files.now) c.requires.named ∙ c.requires.stands)))
    new.ensures.octets old.ensures.within new.ensures.within
