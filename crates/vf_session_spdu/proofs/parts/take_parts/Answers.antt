use Rattle.std.proofs.Common.{◌≡◌, ◌∷◌, ◌+◌, get_or, arith, sym, ◌∙◌, ap}
use Rattle.std.proofs.lemmas.Bool.Decides.{nat_tests}
use Rattle.std.proofs.lemmas.Result.{err_from_is_err_and}
use Rattle.vf_base.specs.declared.spdu_kind.SpduKind.{SpduKind}
use Rattle.vf_session_spdu.specs.Parts.{outer}
use Rattle.vf_session_spdu.specs.Fields.{with_parts}
use Rattle.vf_session_spdu.proofs.PartLemmas.{left-cut_fails, left-fails, left-goes_on, left-end, rest-split}
use Rattle.vf_session_spdu.proofs.StandLemmas.{stands-after, stands-more, stands-value}
use Rattle.vf_session_spdu.proofs.parts.take_parts.Goals as goal
use Rattle.vf_session_spdu.proofs.parts.take_parts.Goals.{After-value_at}

-- the first octet is the identifier
abbrev IsSplit : After-value_at → Type 0
IsSplit c = c.loop-rest.rest.now ≡ get_or c.split_at.result.0.now 0 0 ∷ c.split_at.result.1.now

is_split : (c : After-value_at) → IsSplit c
is_split c = rest-split c.loop-rest.rest.now c.split_at.result.0.now c.split_at.result.1.now (grind (arith, nat_tests)) c.split_at.ensures.front c.split_at.ensures.back

pub returns-in_err-spelled-clause-with_part : goal.returns-in_err-spelled-clause-with_part
returns-in_err-spelled-clause-with_part c =
    let p = err_from_is_err_and c.from_residual.result c.from_residual.ensures.1 in
    rw (p.1, p.2) (left-cut_fails (outer c.args.spdu.now.kind) c.args.place c.args.octets.now c.args.spdu.now c.loop-rest.at c.loop-rest.rest.now c.loop-rest.spdu (get_or c.split_at.result.0.now 0 0) c.split_at.result.1.now c.in_err-spelled.field-0.0 c.loop-rest.invariant.0 (is_split (goal.at.returns-in_err-spelled-clause-with_part c).After-value_at) c.in_err-spelled.ensures.0 c.in_err-spelled.ensures.1)

pub returns-in_err-take_part-clause-with_part : goal.returns-in_err-take_part-clause-with_part
returns-in_err-take_part-clause-with_part c =
    let p = err_from_is_err_and c.from_residual-in_err-take_part.result c.from_residual-in_err-take_part.ensures.1 in
    rw (p.1, p.2) (left-fails (outer c.args.spdu.now.kind) c.args.place c.args.octets.now c.args.spdu.now c.loop-rest.at c.loop-rest.rest.now c.loop-rest.spdu (get_or c.split_at.result.0.now 0 0) c.in_ok-spelled.spelled c.split_at.result.1.now c.in_ok-spelled.value.now c.in_ok-spelled.more.now c.in_err-take_part.field-0.0 c.loop-rest.invariant.0 (is_split (goal.at.returns-in_err-take_part-clause-with_part c).After-value_at) c.in_ok-spelled.ensures.0 (rw (← c.loop-rest.invariant.0.kind) c.in_err-take_part.ensures.with_part))

pub loop-rest-preserved : goal.loop-rest-preserved
loop-rest-preserved c = (
  left-goes_on (outer c.args.spdu.now.kind) c.args.place c.args.octets.now c.args.spdu.now c.loop-rest.at c.loop-rest.rest.now c.loop-rest.spdu c.take_part.new.spdu (get_or c.split_at.result.0.now 0 0) c.in_ok-spelled.spelled c.split_at.result.1.now c.in_ok-spelled.value.now c.in_ok-spelled.more.now c.loop-rest.invariant.0 (is_split (goal.at.loop-rest-preserved c).After-value_at) c.in_ok-spelled.ensures.0 c.in_ok-spelled.ensures.3 (ap (λ (k : SpduKind). with_parts c.loop-rest.spdu (outer k (c.loop-rest.at + 1 + c.in_ok-spelled.spelled) (get_or c.split_at.result.0.now 0 0) c.in_ok-spelled.value.now)) (sym c.loop-rest.invariant.0.kind) ∙ c.in_ok-take_part.ensures.with_part) c.take_part.ensures.kind,
  stands-more c.args.kept.now (c.loop-rest.at + 1) c.split_at.result.1.now c.in_ok-spelled.spelled c.in_ok-spelled.value.now c.in_ok-spelled.more.now
      (stands-after c.args.kept.now c.loop-rest.at c.loop-rest.rest.now c.split_at.result.1.now c.loop-rest.invariant.1 (grind (arith, nat_tests)) c.split_at.ensures.back)
      c.in_ok-spelled.ensures.0 c.in_ok-spelled.ensures.3,
)

pub returns-clause-with_part : goal.returns-clause-with_part
returns-clause-with_part c = left-end (outer c.args.spdu.now.kind) c.args.place c.args.octets.now c.args.spdu.now c.loop-rest.at c.loop-rest.rest.now c.loop-rest.spdu c.loop-rest.invariant.0 (grind (arith, nat_tests))

pub take_part-requires-clause-kept : goal.take_part-requires-clause-kept
take_part-requires-clause-kept c =
    stands-value c.args.kept.now (c.loop-rest.at + 1) c.split_at.result.1.now c.in_ok-spelled.spelled c.in_ok-spelled.value.now c.in_ok-spelled.more.now
    (stands-after c.args.kept.now c.loop-rest.at c.loop-rest.rest.now c.split_at.result.1.now c.loop-rest.invariant.1 (grind (arith, nat_tests)) c.split_at.ensures.back)
    c.in_ok-spelled.ensures.0 c.in_ok-spelled.ensures.3
