use Rattle.std.proofs.Common.{ℕ, ◌-◌, List, [], length, refl, ap, sym, subst, arith, inl}
use Rattle.std.specs.Prelude.{Some}
use Rattle.vf_ber.specs.declared.fault.Fault.TheVariants as faults
use Rattle.vf_ber.specs.Steps.{Sizes, Failed, Got, length_fits}
use Rattle.vf_ber.specs.Reading.{bounded}
use Rattle.vf_ber.proofs.Chains.{test_failed, through}
use Rattle.vf_ber.proofs.Digits.{grown_few}
use Rattle.vf_ber.proofs.SizeSteps.{length_tells, sizes_some, got_short, got_long, long_failed, long_parts}
use Rattle.vf_ber.proofs.header.size_of.Goals as goal

pub returns-in_default-clause-failed : goal.returns-in_default-clause-failed
returns-in_default-clause-failed c =
    let a = c.args.around in
    let s = sizes_some bounded a.depth a.room a.prefix a.constructed c.requires.roomy in
    subst (λ (o : List ℕ). Failed (Sizes a.depth a.room a.prefix a.constructed) o faults.Short) (sym c.in_default.ensures.parts) (s.0, s.1, Some 0, s.2)

pub returns-in_err-check_length-clause-failed : goal.returns-in_err-check_length-clause-failed
returns-in_err-check_length-clause-failed c =
    let a = c.args.around in
    through c.from_residual.result _ _ c.from_residual.ensures.1
    (test_failed (Sizes a.depth a.room a.prefix a.constructed) c.args.octets.now [] c.in-Some.tail.now c.in-Some.first (length c.args.octets.now)
    (λ l. length_fits l a.depth a.room a.prefix a.constructed c.in-Some.first) _ c.in-Some.ensures.parts (ap length c.in-Some.ensures.parts) (inl refl)
    (length_tells a.depth a.room a.prefix a.constructed c.in-Some.first) c.in_err-check_length.ensures.err)

pub returns-then-first-lt128-clause-got : goal.returns-then-first-lt128-clause-got
returns-then-first-lt128-clause-got c =
    let a = c.args.around in
    subst (λ (o : List ℕ). Got (Sizes a.depth a.room a.prefix a.constructed) o (Some c.in-Some.first) c.in-Some.tail.now) (sym c.in-Some.ensures.parts)
    (got_short a.depth a.room a.prefix a.constructed c.in-Some.first c.in-Some.tail.now c.in_ok-check_length.ensures.ok (omega arith))

pub digits_of-requires-clause-small : goal.digits_of-requires-clause-small
digits_of-requires-clause-small c =
    let a = c.args.around in
    let few = (long_parts bounded a.depth a.room a.prefix a.constructed c.in-Some.first (omega arith) c.in_ok-check_length.ensures.ok).0 in
    omega (arith, grown_few (c.in-Some.first - 128) (omega arith))

pub returns-in_err-n-clause-failed : goal.returns-in_err-n-clause-failed
returns-in_err-n-clause-failed c =
    let a = c.args.around in
    through c.from_residual-in_err-n.result _ _ c.from_residual-in_err-n.ensures.1
    (subst (λ (o : List ℕ). Failed (Sizes a.depth a.room a.prefix a.constructed) o c.in_err-n.field-0.0) (sym c.in-Some.ensures.parts)
    (long_failed a.depth a.room a.prefix a.constructed c.in-Some.first c.in-Some.tail.now c.in_err-n.field-0.0 c.in_ok-check_length.ensures.ok (omega arith) c.in_err-n.ensures.failed))

pub returns-clause-got : goal.returns-clause-got
returns-clause-got c =
    let a = c.args.around in
    subst (λ (o : List ℕ). Got (Sizes a.depth a.room a.prefix a.constructed) o (Some c.in_ok-n.n) c.in_ok-n.rest.now) (sym c.in-Some.ensures.parts)
    (got_long a.depth a.room a.prefix a.constructed c.in-Some.first c.in_ok-n.n c.in-Some.tail.now c.in_ok-n.rest.now c.in_ok-check_length.ensures.ok (omega arith) c.in_ok-n.ensures.got)
