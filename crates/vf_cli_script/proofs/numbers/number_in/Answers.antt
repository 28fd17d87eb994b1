use Rattle.std.proofs.Common.{◌+◌, ℕ, arith, get_or, refl, sym}
use Rattle.vf_cli_script.proofs.Digits.{none_past, number_more}
use Rattle.vf_cli_script.proofs.numbers.number_in.Goals as goal

pub returns-then-number-most-clause-value : goal.returns-then-number-most-clause-value
returns-then-number-most-clause-value c =
    let digits = c.args.word.now in
    let digit : ℕ = get_or digits c.loop-digit.digit-index 0 in
    sym (none_past digits (c.loop-digit.digit-index + 1) c.args.most
    (omega (arith, number_more digits c.loop-digit.digit-index digit c.loop-digit-test.true refl, c.loop-digit.invariant.number, c.if-number-most.true)))
