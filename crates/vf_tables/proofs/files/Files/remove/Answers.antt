use Rattle.std.proofs.Common.{ℕ, ◌<◌, List, length, get_or, sym, subst, ap, ◌∙◌}
use Rattle.vf_attr.specs.declared.file.File.{File}
use Rattle.vf_tables.specs.Sums.{octets_of_file}
use Rattle.vf_tables.proofs.Sizes.{removed_sum}
use Rattle.vf_tables.proofs.files.Files.remove.Goals as goal

pub counted-self-inside-requires : goal.counted-self-inside-requires
counted-self-inside-requires c = (
  c.self.inside.named,
  c.self.invariant,
  removed_sum octets_of_file c.self.inside.named c.as_slice-2.result.now c.args.place c.octets_at-less.result
      (λ file. c.octets_at-less.ensures file ∙ ap (λ (l : List File). octets_of_file (get_or l c.args.place file)) c.as_slice.ensures)
      (subst (λ (l : List File). c.args.place < length l) (sym c.self.view_is) c.requires) (c.as_slice-2.ensures ∙ c.remove.ensures),
)
