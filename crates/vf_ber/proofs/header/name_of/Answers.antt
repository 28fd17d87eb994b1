use Rattle.std.proofs.Common.{◌≡◌, ℕ, ◌+◌, ◌<◌, ◌%◌, List, [], ◌∷◌, length, refl, ap, sym, subst, ◌∙◌, arith, inl, inr}
use Rattle.vf_ber.specs.declared.fault.Fault.TheVariants as faults
use Rattle.vf_ber.specs.Steps.{Names, Failed, first_fits, second_fits}
use Rattle.vf_ber.specs.Reading.{free, bounded}
use Rattle.vf_ber.proofs.Chains.{test_failed, through}
use Rattle.vf_ber.proofs.NameSteps.{first_parts, first_tells, second_tells, third_rules, first_short, second_short}
use Rattle.vf_ber.proofs.header.name_of.Goals as goal

pub returns-in_err-check_first-clause-failed : goal.returns-in_err-check_first-clause-failed
returns-in_err-check_first-clause-failed c =
    let small : c.args.first < 256 = omega arith in
    through c.from_residual.result _ _ c.from_residual.ensures.1
    (test_failed (Names c.args.depth c.args.room) (c.args.first ∷ c.args.tail.now) [] c.args.tail.now c.args.first (length c.args.tail.now + 1)
    (λ l. first_fits l c.args.depth c.args.room c.args.first) _ refl (omega arith) (inl refl) (first_tells c.args.depth c.args.room c.args.first small) c.in_err-check_first.ensures.err)

pub returns-in_default-clause-failed : goal.returns-in_default-clause-failed
returns-in_default-clause-failed c =
    let small : c.args.first < 256 = omega arith in
    let long : c.args.first % 32 ≡ 31 = omega arith in
    subst (λ (o : List ℕ). Failed (Names c.args.depth c.args.room) (c.args.first ∷ o) faults.Short) (sym c.in_default.ensures.parts)
    (first_short c.args.depth c.args.room c.args.first small c.in_ok-check_first.ensures.ok long)

pub returns-in_err-check_second-clause-failed : goal.returns-in_err-check_second-clause-failed
returns-in_err-check_second-clause-failed c =
    let small : c.args.first < 256 = omega arith in
    let below : c.in-Some.second < 256 = c.in-Some.ensures.small in
    let long : c.args.first % 32 ≡ 31 = omega arith in
    let first = c.in_ok-check_first.ensures.ok in
    through c.from_residual-in_err-check_second.result _ _ c.from_residual-in_err-check_second.ensures.1
    (test_failed (Names c.args.depth c.args.room) (c.args.first ∷ c.args.tail.now) (c.args.first ∷ []) c.in-Some.tail.now c.in-Some.second (length c.in-Some.tail.now + 1)
    (λ l. second_fits l c.args.room c.in-Some.second) _ (ap (λ o. c.args.first ∷ o) c.in-Some.ensures.parts) (omega arith)
    (inr ((first_tells c.args.depth c.args.room c.args.first small).opens bounded first))
    (second_tells c.args.depth c.args.room c.args.first c.in-Some.second small below long (first_parts bounded c.args.depth c.args.room c.args.first first).deep)
    c.in_err-check_second.ensures.err)

pub returns-in_default-first_of-clause-failed : goal.returns-in_default-first_of-clause-failed
returns-in_default-first_of-clause-failed c =
    let small : c.args.first < 256 = omega arith in
    let below : c.in-Some.second < 256 = c.in-Some.ensures.small in
    let long : c.args.first % 32 ≡ 31 = omega arith in
    let is : c.args.first ∷ c.args.tail.now ≡ c.args.first ∷ c.in-Some.second ∷ [] =
    ap (λ o. c.args.first ∷ o) (c.in-Some.ensures.parts ∙ ap (λ o. c.in-Some.second ∷ o) c.in_default-first_of.ensures.parts) in
    subst (λ (o : List ℕ). Failed (Names c.args.depth c.args.room) o faults.Short) (sym is)
    (second_short c.args.depth c.args.room c.args.first c.in-Some.second small below c.in_ok-check_first.ensures.ok long c.in_ok-check_second.ensures.ok (omega arith))

pub returns-then-third-ge128-clause-failed : goal.returns-then-third-ge128-clause-failed
returns-then-third-ge128-clause-failed c =
    let small : c.args.first < 256 = omega arith in
    let below : c.in-Some.second < 256 = c.in-Some.ensures.small in
    let long : c.args.first % 32 ≡ 31 = omega arith in
    let first = c.in_ok-check_first.ensures.ok in
    record {
      prefix = c.args.first ∷ c.in-Some.second ∷ [];
      octet = c.in-Some-first_of.third;
      rest = c.in-Some-first_of.rest.now;
      parts = ap (λ o. c.args.first ∷ o) (c.in-Some.ensures.parts ∙ ap (λ o. c.in-Some.second ∷ o) c.in-Some-first_of.ensures.parts);
      left_is = ap length c.in-Some-first_of.ensures.parts;
      before = inr ((second_tells c.args.depth c.args.room c.args.first c.in-Some.second small below long (first_parts bounded c.args.depth c.args.room c.args.first first).deep).opens bounded c.in_ok-check_second.ensures.ok);
      after = third_rules c.args.depth c.args.room c.args.first c.in-Some.second c.in-Some-first_of.third free long (omega arith) (omega arith);
    }
