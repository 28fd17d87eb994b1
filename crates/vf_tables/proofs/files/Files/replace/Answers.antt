use Rattle.std.proofs.Common.{ℕ, ◌<◌, List, length, get_or, sym, subst, ap, ◌∙◌}
use Rattle.vf_attr.specs.declared.file.File.{File}
use Rattle.vf_tables.specs.Sums.{octets_of_file}
use Rattle.vf_tables.proofs.Sizes.{replaced_sum}
use Rattle.vf_tables.proofs.files.Files.replace.Goals as goal

pub counted-self-inside-requires : goal.counted-self-inside-requires
counted-self-inside-requires c = (
  c.self.inside.named,
  c.self.invariant,
  replaced_sum octets_of_file c.self.inside.named c.as_slice-2.result.now c.args.place c.args.file c.octets_at-less.result c.size-more.result
      (c.octets_at-less.ensures c.args.file ∙ ap (λ (l : List File). octets_of_file (get_or l c.args.place c.args.file)) c.as_slice.ensures) c.size-more.ensures
      (subst (λ (l : List File). c.args.place < length l) (sym c.self.view_is) c.requires) (c.as_slice-2.ensures ∙ c.in_ok-replace.ensures.ok),
)
