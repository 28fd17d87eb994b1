use Rattle.std.proofs.Common.{◌+◌, ◌-◌, ◌*◌, true, false, arith}
use Rattle.vf_ber.proofs.Digits.{grown_le, grown_less}
use Rattle.vf_ber_scan.proofs.StepLemmas.{digit_none, digit_last, digit_next, digit_small, reaches_around}
use Rattle.vf_ber_scan.proofs.step.after_digit.Goals as goal

pub overflow_mul-high : goal.overflow_mul-high
overflow_mul-high c =
    let small = digit_small c.args.more c.args.high c.args.digit c.requires.2 (omega arith) c.requires.3 in
    omega (arith, small, grown_le (c.args.more - 1) (256 * c.args.high + c.args.digit + 1))

pub overflow_add-high : goal.overflow_add-high
overflow_add-high c =
    let small = digit_small c.args.more c.args.high c.args.digit c.requires.2 (omega arith) c.requires.3 in
    omega (arith, small, grown_le (c.args.more - 1) (256 * c.args.high + c.args.digit + 1))

pub is_reached-requires-clause-small : goal.is_reached-requires-clause-small
is_reached-requires-clause-small c =
    let small = digit_small c.args.more c.args.high c.args.digit c.requires.2 (omega arith) c.requires.3 in
    omega (arith, small, grown_less (c.args.more - 1) (256 * c.args.high + c.args.digit))

pub returns-then-not-is_reached : goal.returns-then-not-is_reached
returns-then-not-is_reached c =
    digit_none c.args.frames.now c.args.constructed c.args.prefix c.args.more c.args.high c.args.digit c.requires.2
    (reaches_around c.args.frames.now c.around.result c.args.constructed c.args.prefix (c.args.more - 1) (256 * c.args.high + c.args.digit) c.is_reached.result false c.around.ensures c.is_reached.ensures c.if-not-is_reached.true)

pub returns-then-more-eq0 : goal.returns-then-more-eq0
returns-then-more-eq0 c =
    digit_last c.args.frames.now c.after_header.new.frames c.args.constructed c.args.prefix c.args.more c.args.high c.args.digit c.after_header.result
    c.requires.2 (omega arith) c.if-more-eq0.true
    (reaches_around c.args.frames.now c.around.result c.args.constructed c.args.prefix (c.args.more - 1) (256 * c.args.high + c.args.digit) c.is_reached.result true c.around.ensures c.is_reached.ensures c.if-not-is_reached.false)
    c.after_header.ensures

pub returns : goal.returns
returns c =
    digit_next c.args.frames.now c.args.constructed c.args.prefix c.args.more c.args.high c.args.digit c.requires (omega arith) c.if-more-eq0.false
    (reaches_around c.args.frames.now c.around.result c.args.constructed c.args.prefix (c.args.more - 1) (256 * c.args.high + c.args.digit) c.is_reached.result true c.around.ensures c.is_reached.ensures c.if-not-is_reached.false)
