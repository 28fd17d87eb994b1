use Rattle.std.proofs.Common.{ap, ◌∙◌, ℕ, [], ◌∷◌, map, arith}
use Rattle.std.specs.Prelude.{◌&&◌, Option, Some}
use Rattle.vf_upper.specs.Laws.{in_context}
use Rattle.vf_upper.specs.Sizes.{acse_size, both, fitting, placed_size, wrapped}
use Rattle.vf_upper.specs.Written.{acse_id}
use Rattle.vf_upper.specs.declared.primitive.Primitive.TheVariants.{Refused}
use Rattle.vf_upper_grammar.specs.Syntaxes.{is_ours}
use Rattle.vf_upper.proofs.OneValue.{measured-so, passed, value-sized}
use Rattle.vf_upper.proofs.lengths.refusal_length.Goals as goal

pub returns : goal.returns
returns c tree shallow len =
    let context = c.args.context in
    let contexts = c.args.contexts.now in
    let results = map (λ offer. offer.ber && is_ours offer.syntax) c.args.offers.now in
    let value = value-sized 24 context tree c.args.octets shallow (omega arith) len in
    let passed_response = passed (λ id. acse_size (acse_id contexts) (wrapped (both (Some 21) (wrapped (both (Some 0) (placed_size id (fitting c.args.octets))))))) context c.response_length.result c.ranges.context c.response_length.ensures in
    let response = passed_response ∙ ap (λ (size : Option ℕ). acse_size (acse_id contexts) (wrapped (both (Some 21) (wrapped size)))) value in
    measured-so (Refused results (in_context context tree ∷ [])) contexts c.wrapped.result
    (c.wrapped.ensures ∙ ap wrapped (c.both.ensures ∙ ap (λ (list : Option ℕ). both list c.response_length.result) c.results_length-list.ensures ∙ ap (both _) response))
