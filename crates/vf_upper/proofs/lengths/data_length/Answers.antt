use Rattle.std.proofs.Common.{ap, ◌∙◌, [], ◌∷◌, arith}
use Rattle.std.specs.Prelude.{Some}
use Rattle.vf_upper.specs.Laws.{in_context}
use Rattle.vf_upper.specs.Sizes.{both, fitting, placed_size, wrapped}
use Rattle.vf_upper.specs.declared.primitive.Primitive.TheVariants.{Data}
use Rattle.vf_upper.proofs.OneValue.{measured-so, passed, value-sized}
use Rattle.vf_upper.proofs.lengths.data_length.Goals as goal

pub returns : goal.returns
returns c tree contexts shallow len =
    let placed = passed (λ id. both (Some 0) (placed_size id (fitting c.args.octets))) c.args.context c.placed_length.result c.ranges.context c.placed_length.ensures in
    let context = c.args.context in
    measured-so (Data (in_context context tree ∷ [])) contexts c.wrapped.result
    (c.wrapped.ensures ∙ ap wrapped (placed ∙ value-sized 29 context tree c.args.octets shallow (omega arith) len))
