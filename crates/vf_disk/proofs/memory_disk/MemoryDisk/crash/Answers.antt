use Rattle.std.proofs.Common.{◌≡◌, List, ℕ, sym, subst, rules}
use Rattle.vf_disk.specs.Memory.{state}
use Rattle.vf_disk.specs.State.{IsImage, left_by}
use Rattle.vf_disk.proofs.Images.{is_sound, form_image}
use Rattle.vf_disk.proofs.memory_disk.MemoryDisk.crash.Goals as goal

pub returns-clause-image : goal.returns-clause-image
returns-clause-image c =
    let first : c.in_ok-disk.disk.first ≡ left_by c.args.form (state c.args.self) = search rules in
    subst (λ (l : List ℕ). IsImage (state c.args.self) l) (sym first) (form_image c.args.form (state c.args.self) (is_sound c.args.self.first c.args.self.steps))
