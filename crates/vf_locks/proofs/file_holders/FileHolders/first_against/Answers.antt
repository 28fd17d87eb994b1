use Rattle.std.proofs.Common.{◌∙◌, ap, sym}
use Rattle.vf_locks.proofs.Unshown.{unshown}
use Rattle.vf_locks.specs.Clash.{conflict}
use Rattle.vf_locks.proofs.file_holders.FileHolders.first_against.Goals as goal

pub returns-then-not-show_clash : goal.returns-then-not-show_clash
returns-then-not-show_clash c =
    let none = unshown c.args.holder.now c.args.wanted.now c.self.inside.counts.numbers c.self.inside.standing.items c.self.invariant.1
    (sym c.show_clash.ensures ∙ c.if-not-show_clash.true) in
    sym none ∙ ap (conflict c.args.holder.now c.args.wanted.now) c.self.view_is
