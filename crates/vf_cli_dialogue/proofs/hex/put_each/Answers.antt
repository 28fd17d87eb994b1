use Rattle.std.proofs.Common.{◌<◌, ◌++◌, ◌∷◌, [], List, ℕ, ap, arith, length, ◌∙◌}
use Rattle.vf_cli_dialogue.proofs.HexLineLemmas.{put_next}
use Rattle.vf_cli_dialogue.proofs.hex.put_each.Goals as goal

pub loop-octet-preserved : goal.loop-octet-preserved
loop-octet-preserved c =
    let octets = c.args.octets.now in
    let text : List ℕ = c.loop-octet.text.items in
    let below : c.loop-octet.octet-index < length octets = omega arith in
    let len = c.loop-octet.invariant.1 in
    let capacity = c.loop-octet.invariant.2 in (
      c.push_reserved-in-loop-octet.ensures.items
          ∙ ap (λ l. l ++ c.digit-in-loop-octet.result ∷ []) c.push_reserved.ensures.items
          ∙ (λ i. (text ++ c.digit.ensures i ∷ []) ++ c.digit-in-loop-octet.ensures i ∷ [])
          ∙ put_next octets c.args.text.now.items text c.loop-octet.octet-index below c.loop-octet.invariant.0,
      omega (arith, len, c.push_reserved.ensures.len, c.push_reserved-in-loop-octet.ensures.len),
      omega (arith, capacity, c.push_reserved.ensures.capacity, c.push_reserved-in-loop-octet.ensures.capacity),
    )
