use Rattle.std.proofs.Common.{arith, ◌≡◌, ◌≤◌, ◌≢◌, ◌<◌, refl, length, drop, get_or, sym, ◌∙◌, None, Some}
use Rattle.std.proofs.lemmas.Bool.Decides.{nat_tests}
use Rattle.std.specs.Option.{option_map}
use Rattle.vf_tpkt.specs.Parameters.{sizes as sizes_of, summary}
use Rattle.vf_tpkt.proofs.ParameterLemmas.{after, first-octet, sizes_none, sizes_one, sizes_two, proposed-long, proposed-wrong, proposed-skipped, proposed-size, summary-none, summary-skipped, summary-size}
use Rattle.vf_tpkt.proofs.parameters.+sizes.Goals as goal

pub returns-in-empty : goal.returns-in-empty
returns-in-empty t c = rw (sizes_none c.args.octets.now (omega arith)) refl

pub returns-in-len1 : goal.returns-in-len1
returns-in-len1 t c = rw (sizes_one c.args.octets.now (omega arith) (omega arith)) refl

pub returns-then-more-size : goal.returns-then-more-size
returns-then-more-size t c =
    let o = c.args.octets.now in
    let long : length (after o) < get_or o 1 0 = omega arith in
    rw (sizes_two o (omega arith), proposed-long (get_or o 0 0) (get_or o 1 0) (after o) (sizes_of (drop (get_or o 1 0) (after o))) long) refl

pub returns-in_err-others : goal.returns-in_err-others
returns-in_err-others t c =
    let o = c.args.octets.now in
    let rest : drop (get_or o 1 0) (after o) ≡ c.split_at.result.1.now = cc in
    let none : option_map summary (sizes_of c.split_at.result.1.now) ≡ None = sym c.sizes.ensures ∙ c.in_err-others.was in
    rw (c.from_residual.ensures, sizes_two o (omega arith), rest) (sym (summary-none _ _ none))

pub returns-then-code : goal.returns-then-code
returns-then-code t c =
    let o = c.args.octets.now in
    let fits : get_or o 1 0 ≤ length (after o) = omega arith in
    let rest : drop (get_or o 1 0) (after o) ≡ c.split_at.result.1.now = cc in
    rw (sizes_two o (omega arith), proposed-skipped (get_or o 0 0) (get_or o 1 0) (after o) (sizes_of (drop (get_or o 1 0) (after o))) fits (omega arith), summary-skipped, rest) (sym (c.in_ok-others.was) ∙ c.sizes.ensures)

pub returns-in_default : goal.returns-in_default
returns-in_default t c =
    let o = c.args.octets.now in
    let other : get_or o 1 0 ≢ 1 = omega arith in
    rw (sizes_two o (omega arith), proposed-wrong (get_or o 0 0) (get_or o 1 0) (after o) (sizes_of (drop (get_or o 1 0) (after o))) (omega arith) other) refl

pub returns-in_default-2 : goal.returns-in_default-2
returns-in_default-2 t c =
    let o = c.args.octets.now in
    let other : get_or o 1 0 ≢ 1 = omega arith in
    rw (sizes_two o (omega arith), proposed-wrong (get_or o 0 0) (get_or o 1 0) (after o) (sizes_of (drop (get_or o 1 0) (after o))) (omega arith) other) refl

pub returns-then-exponent-lt-LEAST : goal.returns-then-exponent-lt-LEAST
returns-then-exponent-lt-LEAST t c =
    let o = c.args.octets.now in
    let rest : drop (get_or o 1 0) (after o) ≡ c.split_at.result.1.now = cc in
    let fits : get_or o 1 0 ≤ length (after o) = omega arith in
    let some : option_map summary (sizes_of c.split_at.result.1.now) ≡ Some c.in_ok-others.others = sym c.sizes.ensures ∙ c.in_ok-others.was in
    rw (sizes_two o (omega arith), proposed-size (get_or o 0 0) (get_or o 1 0) (after o) (sizes_of (drop (get_or o 1 0) (after o))) fits (omega arith) (omega arith), rest)
    (rw (summary-size (after o) _ _ (omega arith) some, first-octet c.from.result (after o) c.split_at.result.0.now (omega arith) c.split_at.ensures.front, c.unwrap_or.ensures) (grind (arith, nat_tests)))

pub returns-else-exponent-lt-LEAST : goal.returns-else-exponent-lt-LEAST
returns-else-exponent-lt-LEAST t c =
    let o = c.args.octets.now in
    let rest : drop (get_or o 1 0) (after o) ≡ c.split_at.result.1.now = cc in
    let fits : get_or o 1 0 ≤ length (after o) = omega arith in
    let some : option_map summary (sizes_of c.split_at.result.1.now) ≡ Some c.in_ok-others.others = sym c.sizes.ensures ∙ c.in_ok-others.was in
    rw (sizes_two o (omega arith), proposed-size (get_or o 0 0) (get_or o 1 0) (after o) (sizes_of (drop (get_or o 1 0) (after o))) fits (omega arith) (omega arith), rest)
    (rw (summary-size (after o) _ _ (omega arith) some, first-octet c.from.result (after o) c.split_at.result.0.now (omega arith) c.split_at.ensures.front, c.unwrap_or.ensures) (grind (arith, nat_tests)))
