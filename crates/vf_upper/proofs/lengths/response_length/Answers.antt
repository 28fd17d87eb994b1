use Rattle.std.proofs.Common.{ap, ◌∙◌}
use Rattle.std.specs.Prelude.{Some}
use Rattle.vf_upper.specs.Sizes.{acse_size, both, fitting, placed_size, wrapped}
use Rattle.vf_upper.specs.Written.{acse_id}
use Rattle.vf_upper.proofs.OneValue.{passed}
use Rattle.vf_upper.proofs.lengths.response_length.Goals as goal

pub returns : goal.returns
returns c =
    let placed = passed (λ id. both (Some 0) (placed_size id (fitting c.args.octets))) c.args.context c.placed_length.result c.ranges.context c.placed_length.ensures in
    let information = c.wrapped-information.ensures ∙ ap wrapped placed in
    let fields = c.both.ensures ∙ ap (both (Some 21)) information in
    c.acse_size.ensures ∙ ap (acse_size (acse_id c.args.contexts.now)) (c.wrapped.ensures ∙ ap wrapped fields)
