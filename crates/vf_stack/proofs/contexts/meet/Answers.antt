use Rattle.std.proofs.Common.{FitsSigned, w64, ap, ◌∙◌}
use Rattle.std.proofs.lemmas.Int.{to_z-of_z}
use Rattle.std.specs.Prelude.{not}
use Rattle.vf_stack.proofs.ContextLemmas.{met-more}
use Rattle.vf_stack.proofs.contexts.meet.Goals as goal

pub returns : goal.returns
returns c met are =
    let fits : FitsSigned w64 c.args.id = c.ranges.id in
    let added = simp to_z-of_z at c.in_ok-is_new.ensures.added in
    let updates = simp to_z-of_z at c.in_ok-is_new.ensures.updates in (
      added ∙ ap not (are c.args.id),
      met-more c.args.ids.now c.insert.new.self met c.args.id updates are,
    )
