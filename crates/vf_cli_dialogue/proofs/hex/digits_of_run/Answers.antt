use Rattle.std.proofs.Common.{◌≡◌, ◌+◌, ◌*◌, ◌<◌, List, ℕ, arith, length, ◌∙◌}
use Rattle.std.proofs.lemmas.List.{length-set}
use Rattle.vf_cli_dialogue.proofs.RunLemmas.{digits_all, digits_next}
use Rattle.vf_cli_dialogue.proofs.hex.digits_of_run.Goals as goal

pub loop-place-preserved : goal.loop-place-preserved
loop-place-preserved c =
    let octets = c.args.octets.now in
    let digits : List ℕ = c.loop-place.digits in
    let place = c.loop-place.place in
    let len = c.loop-place.invariant.0 in
    let fits : 2 * place + 1 < length digits = omega arith in
    let below : place < length octets = omega arith in (
      length-set _ _ _ ∙ length-set _ _ _ ∙ len,
      digits_next octets digits place c.digit.result c.digit-in-loop-place.result below fits c.digit.ensures c.digit-in-loop-place.ensures c.loop-place.invariant.1,
    )

pub returns-clause-value : goal.returns-clause-value
returns-clause-value c =
    let all : c.loop-place.place ≡ 32 = omega arith in
    digits_all c.args.octets.now c.loop-place.digits c.loop-place.place all c.requires c.loop-place.invariant.0 c.loop-place.invariant.1
