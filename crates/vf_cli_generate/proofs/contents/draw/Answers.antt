use Rattle.std.proofs.Common.{◌≡◌, ◌∙◌, ◌%◌, ◌++◌, ℕ, List, [], ◌∷◌, ap, arith, length, sym}
use Rattle.vf_cli_generate.proofs.Drawn.{last_more, octets_length, octets_more}
use Rattle.vf_cli_generate.specs.Drawing.{next, octets_after}
use Rattle.vf_cli_generate.proofs.contents.draw.Goals as goal

pub loop-preserved : goal.loop-preserved
loop-preserved c =
    let first : ℕ = c.next-size.new.self.last in
    let count : ℕ = c.loop.counter in (
      c.in_ok-push.ensures.items
          ∙ ap (λ (octets : List ℕ). octets ++ c.next.result ∷ []) c.loop.invariant.0
          ∙ ap (λ (octet : ℕ). octets_after first count ++ octet ∷ []) (c.next.ensures.number ∙ ap (λ (last : ℕ). next last % 256) c.loop.invariant.1)
          ∙ sym (octets_more first count),
      c.next.ensures.last ∙ ap next c.loop.invariant.1 ∙ sym (last_more first count),
    )

pub returns-clause-size : goal.returns-clause-size
returns-clause-size c =
    let count : length c.loop.octets.items ≡ c.loop.counter = ap length c.loop.invariant.0 ∙ octets_length c.next-size.new.self.last c.loop.counter in
    omega (arith, count, c.loop.auto.counter-end, c.next-size.ensures.number)
