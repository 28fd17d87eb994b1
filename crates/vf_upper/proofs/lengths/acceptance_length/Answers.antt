use Rattle.std.proofs.Common.{ap, ◌∙◌, ℕ, [], ◌∷◌, map, arith}
use Rattle.std.specs.Prelude.{◌&&◌, Option, Some}
use Rattle.vf_upper.specs.Laws.{in_context}
use Rattle.vf_upper.specs.Sizes.{acse_size, both, fitting, in_mode_size, placed_size, wrapped}
use Rattle.vf_upper.specs.Written.{acse_id}
use Rattle.vf_upper.specs.declared.primitive.Primitive.TheVariants.{Accepted}
use Rattle.vf_upper_grammar.specs.Syntaxes.{is_ours}
use Rattle.vf_upper.proofs.OneValue.{measured-so, passed, value-sized}
use Rattle.vf_upper.proofs.lengths.acceptance_length.Goals as goal

pub returns : goal.returns
returns c tree shallow len =
    let context = c.args.context in
    let contexts = c.args.contexts.now in
    let results = map (λ offer. offer.ber && is_ours offer.syntax) c.args.offers.now in
    let value = value-sized 23 context tree c.args.octets shallow (omega arith) len in
    let passed_response = passed (λ id. acse_size (acse_id contexts) (wrapped (both (Some 21) (wrapped (both (Some 0) (placed_size id (fitting c.args.octets))))))) context c.response_length.result c.ranges.context c.response_length.ensures in
    let response = passed_response ∙ ap (λ (size : Option ℕ). acse_size (acse_id contexts) (wrapped (both (Some 21) (wrapped size)))) value in
    measured-so (Accepted results (in_context context tree ∷ [])) contexts c.in_mode_size.result
    (c.in_mode_size.ensures ∙ ap (λ (list : Option ℕ). in_mode_size list c.response_length.result) c.results_length.ensures ∙ ap (in_mode_size _) response)
