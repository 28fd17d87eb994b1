use Rattle.std.proofs.Common.{ap, ◌∙◌}
use Rattle.vf_elements.specs.declared.message.Message.{Message}
use Rattle.vf_filestore.specs.Decision.{grouped_decision}
use Rattle.vf_filestore.specs.Stage.{Group}
use Rattle.vf_party.specs.Settings.{setting_of}
use Rattle.vf_party.proofs.GroupTurns.{grouped_decides, leaving_turn}
use Rattle.vf_party.proofs.taking_group.take_taken.Goals as goal

pub returns : goal.returns
returns c = λ state party stands is.
    let self = c.args.grouping in
    let setting = setting_of c.args.setting in
    let tables = c.args.tables.now in
    let group : Group = record { threshold = self.threshold; items = self.items } in
    leaving_turn tables c.args.locks.now c.ended.new.locks self setting c.args.message state party stands is c.ended.result
    (grouped_decides tables c.args.locks.now c.ended.new.locks self setting c.args.message state party stands is c.requires ∙ ap (λ (message : Message). grouped_decision group message) c.in-Break.is)
    (record { gone = c.ended.ensures.gone; says = c.ended.ensures.says ∙ c.new.ensures.items; differs = c.ended.ensures.differs; leaves = c.ended.ensures.leaves })
