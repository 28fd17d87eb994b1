use Rattle.std.proofs.Common.{ℕ, ◌+◌, ◌-◌, ◌*◌, List, [], ◌∷◌, length, refl, ap, sym, subst, arith, inl}
use Rattle.std.proofs.lemmas.Result.{IfOk-weaker, IfErr-weaker}
use Rattle.vf_ber.specs.declared.fault.Fault.TheVariants as faults
use Rattle.vf_ber.specs.Steps.{Digits, Failed, Got, reaches}
use Rattle.vf_ber.proofs.Chains.{test_failed, through, tail_got, tail_failed}
use Rattle.vf_ber.proofs.Digits.{grown_step, grown_le, grown_less, grown_more}
use Rattle.vf_ber.proofs.SizeSteps.{digit_chain, digit_tells, digits_short}
use Rattle.vf_ber.proofs.header.+digits_of.Goals as goal

pub returns-in_default-clause-failed : goal.returns-in_default-clause-failed
returns-in_default-clause-failed t c =
    let a = c.args.around in
    subst (λ (o : List ℕ). Failed (Digits a.depth a.room a.prefix a.constructed c.args.more c.args.high) o faults.Short) (sym c.in_default.ensures.parts)
    (digits_short a.depth a.room a.prefix a.constructed c.args.more c.args.high (omega arith) c.requires.begun)

pub overflow_mul-high : goal.overflow_mul-high
overflow_mul-high t c =
    let step = grown_step c.args.more (c.args.high + 1) (omega arith) in
    omega (arith, step, grown_le (c.args.more - 1) (256 * (c.args.high + 1)), c.requires.small)

pub overflow_add-high : goal.overflow_add-high
overflow_add-high t c =
    let step = grown_step c.args.more (c.args.high + 1) (omega arith) in
    omega (arith, step, grown_le (c.args.more - 1) (256 * (c.args.high + 1)), c.requires.small)

pub check_digit-requires-clause-small : goal.check_digit-requires-clause-small
check_digit-requires-clause-small t c =
    let step = grown_step c.args.more (c.args.high + 1) (omega arith) in
    let high = 256 * c.args.high + c.in-Some.digit in
    omega (arith, step, grown_less (c.args.more - 1) high, grown_more (c.args.more - 1) (high + 1) (256 * (c.args.high + 1)) (omega arith), c.requires.small)

pub returns-in_err-check_digit-clause-failed : goal.returns-in_err-check_digit-clause-failed
returns-in_err-check_digit-clause-failed t c =
    let a = c.args.around in
    through c.from_residual.result _ _ c.from_residual.ensures.1
    (test_failed (Digits a.depth a.room a.prefix a.constructed c.args.more c.args.high) c.args.octets.now [] c.in-Some.tail.now c.in-Some.digit (length c.args.octets.now)
    (λ l. reaches l a.depth a.room a.prefix a.constructed (c.args.more - 1) (256 * c.args.high + c.in-Some.digit)) _ c.in-Some.ensures.parts (ap length c.in-Some.ensures.parts) (inl refl)
    (digit_tells a.depth a.room a.prefix a.constructed c.args.more c.args.high c.in-Some.digit (omega arith) (omega arith)) c.in_err-check_digit.ensures.err)

pub digits_of-requires : goal.digits_of-requires
digits_of-requires t c =
    let step = grown_step c.args.more (c.args.high + 1) (omega arith) in
    let high = 256 * c.args.high + c.in-Some.digit in
    let more = grown_more (c.args.more - 1) (high + 1) (256 * (c.args.high + 1)) (omega arith) in
    (omega arith, (omega arith, (omega (arith, step, more, c.requires.small), c.in_ok-check_digit.ensures.ok)))

pub returns-clause-got : goal.returns-clause-got
returns-clause-got t c =
    let a = c.args.around in
    let chain = digit_chain a.depth a.room a.prefix a.constructed c.args.more c.args.high (omega arith) in
    let digit = c.in-Some.digit in
    IfOk-weaker c.digits_of.result _ _
    (λ x g. subst (λ (o : List ℕ). Got (Digits a.depth a.room a.prefix a.constructed c.args.more c.args.high) o x.0 x.1.now) (sym c.in-Some.ensures.parts)
    (tail_got _ _ _ _ chain (digit ∷ c.in-Some.tail.now) c.in-Some.tail.now x.1.now (digit ∷ []) digit x.0 refl (refl, omega arith, c.in_ok-check_digit.ensures.ok) g))
    c.digits_of.ensures.got

pub returns-clause-failed : goal.returns-clause-failed
returns-clause-failed t c =
    let a = c.args.around in
    let chain = digit_chain a.depth a.room a.prefix a.constructed c.args.more c.args.high (omega arith) in
    let digit = c.in-Some.digit in
    IfErr-weaker c.digits_of.result _ _
    (λ e f. subst (λ (o : List ℕ). Failed (Digits a.depth a.room a.prefix a.constructed c.args.more c.args.high) o e) (sym c.in-Some.ensures.parts)
    (tail_failed _ _ _ _ chain (digit ∷ c.in-Some.tail.now) c.in-Some.tail.now (digit ∷ []) digit e refl (refl, omega arith, c.in_ok-check_digit.ensures.ok) f))
    c.digits_of.ensures.failed
