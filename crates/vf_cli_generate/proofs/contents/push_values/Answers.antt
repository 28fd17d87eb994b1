use Rattle.std.proofs.Common.{◌∙◌, ◌++◌, ℕ, List, [], ◌∷◌, append_assoc, ap, map, sym}
use Rattle.vf_cli_generate.proofs.Drawn.{rest_more, values_more}
use Rattle.vf_cli_generate.specs.Drawing.{strings}
use Rattle.vf_cli_generate.specs.Requests.{value}
use Rattle.vf_stack.specs.declared.request.Request.{Request}
use Rattle.vf_cli_generate.proofs.contents.push_values.Goals as goal

pub loop-preserved : goal.loop-preserved
loop-preserved c =
    let place : ℕ = c.loop.counter in
    let octets : List ℕ = c.args.octets.now in
    let rest : List ℕ = c.loop.rest.now in
    let string : List ℕ = c.split_at.result.0.now in
    let first : List Request = c.args.requests.now.items in (
      c.in_ok-push.ensures.items
          ∙ ap (λ (requests : List Request). requests ++ c.in_ok-value.field-0 ∷ []) c.loop.invariant.0
          ∙ append_assoc first (map value (strings place octets)) (c.in_ok-value.field-0 ∷ [])
          ∙ ap (λ (request : Request). first ++ (map value (strings place octets) ++ request ∷ [])) c.in_ok-value.ensures
          ∙ ap (λ (values : List Request). first ++ values) (sym (values_more place c.min.result octets rest string c.loop.invariant.1 c.min.ensures c.split_at.ensures.front)),
      c.split_at.ensures.back ∙ rest_more place c.min.result octets rest c.loop.invariant.1 c.min.ensures,
    )
