use Rattle.std.proofs.Common.{◌≡◌, ◌∷◌, ◌+◌, get_or, arith, ◌∙◌}
use Rattle.std.proofs.lemmas.Bool.Decides.{nat_tests}
use Rattle.std.proofs.lemmas.Result.{err_from_is_err_and}
use Rattle.vf_session_spdu.specs.Parts.{inner, parameter}
use Rattle.vf_session_spdu.proofs.PartLemmas.{left-cut_fails, left-fails, left-goes_on, left-end, rest-split, with_parts-one}
use Rattle.vf_session_spdu.proofs.StandLemmas.{stands-after, stands-more, stands-value}
use Rattle.vf_session_spdu.proofs.parts.take_item.Goals as goal
use Rattle.vf_session_spdu.proofs.parts.take_item.Goals.{After-value_at}

-- the first octet is the identifier
abbrev IsSplit : After-value_at → Type 0
IsSplit c = c.loop-rest.rest.now ≡ get_or c.split_at.result.0.now 0 0 ∷ c.split_at.result.1.now

is_split : (c : After-value_at) → IsSplit c
is_split c = rest-split c.loop-rest.rest.now c.split_at.result.0.now c.split_at.result.1.now (grind (arith, nat_tests)) c.split_at.ensures.front c.split_at.ensures.back

pub returns-in_err-spelled-clause-with_part : goal.returns-in_err-spelled-clause-with_part
returns-in_err-spelled-clause-with_part c =
    let p = err_from_is_err_and c.from_residual.result c.from_residual.ensures.1 in
    rw (p.1, p.2) (left-cut_fails inner c.args.place c.args.octets.now c.args.spdu.now c.loop-rest.at c.loop-rest.rest.now c.loop-rest.spdu (get_or c.split_at.result.0.now 0 0) c.split_at.result.1.now c.in_err-spelled.field-0.0 c.loop-rest.invariant.0 (is_split (goal.at.returns-in_err-spelled-clause-with_part c).After-value_at) c.in_err-spelled.ensures.0 c.in_err-spelled.ensures.1)

pub returns-in_err-take_parameter-clause-with_part : goal.returns-in_err-take_parameter-clause-with_part
returns-in_err-take_parameter-clause-with_part c =
    let p = err_from_is_err_and c.from_residual-in_err-take_parameter.result c.from_residual-in_err-take_parameter.ensures.1 in
    rw (p.1, p.2) (left-fails inner c.args.place c.args.octets.now c.args.spdu.now c.loop-rest.at c.loop-rest.rest.now c.loop-rest.spdu (get_or c.split_at.result.0.now 0 0) c.in_ok-spelled.spelled c.split_at.result.1.now c.in_ok-spelled.value.now c.in_ok-spelled.more.now c.in_err-take_parameter.field-0.0 c.loop-rest.invariant.0 (is_split (goal.at.returns-in_err-take_parameter-clause-with_part c).After-value_at) c.in_ok-spelled.ensures.0 (rw (with_parts-one c.loop-rest.spdu (parameter 5 (get_or c.split_at.result.0.now 0 0) c.in_ok-spelled.value.now)) c.in_err-take_parameter.ensures.with_part))

pub loop-rest-preserved : goal.loop-rest-preserved
loop-rest-preserved c = (
  left-goes_on inner c.args.place c.args.octets.now c.args.spdu.now c.loop-rest.at c.loop-rest.rest.now c.loop-rest.spdu c.take_parameter.new.spdu (get_or c.split_at.result.0.now 0 0) c.in_ok-spelled.spelled c.split_at.result.1.now c.in_ok-spelled.value.now c.in_ok-spelled.more.now c.loop-rest.invariant.0 (is_split (goal.at.loop-rest-preserved c).After-value_at) c.in_ok-spelled.ensures.0 c.in_ok-spelled.ensures.3 (with_parts-one c.loop-rest.spdu (parameter 5 (get_or c.split_at.result.0.now 0 0) c.in_ok-spelled.value.now) ∙ c.in_ok-take_parameter.ensures.with_part) c.take_parameter.ensures.kind,
  stands-more c.args.kept.now (c.loop-rest.at + 1) c.split_at.result.1.now c.in_ok-spelled.spelled c.in_ok-spelled.value.now c.in_ok-spelled.more.now
      (stands-after c.args.kept.now c.loop-rest.at c.loop-rest.rest.now c.split_at.result.1.now c.loop-rest.invariant.1 (grind (arith, nat_tests)) c.split_at.ensures.back)
      c.in_ok-spelled.ensures.0 c.in_ok-spelled.ensures.3,
)

pub returns-clause-with_part : goal.returns-clause-with_part
returns-clause-with_part c = left-end inner c.args.place c.args.octets.now c.args.spdu.now c.loop-rest.at c.loop-rest.rest.now c.loop-rest.spdu c.loop-rest.invariant.0 (grind (arith, nat_tests))

pub take_parameter-requires-clause-kept : goal.take_parameter-requires-clause-kept
take_parameter-requires-clause-kept c =
    stands-value c.args.kept.now (c.loop-rest.at + 1) c.split_at.result.1.now c.in_ok-spelled.spelled c.in_ok-spelled.value.now c.in_ok-spelled.more.now
    (stands-after c.args.kept.now c.loop-rest.at c.loop-rest.rest.now c.split_at.result.1.now c.loop-rest.invariant.1 (grind (arith, nat_tests)) c.split_at.ensures.back)
    c.in_ok-spelled.ensures.0 c.in_ok-spelled.ensures.3
