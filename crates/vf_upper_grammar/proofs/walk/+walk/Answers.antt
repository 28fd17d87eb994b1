use Rattle.std.proofs.Common.{ap, subst, sym, ◌∙◌, arith, take, false}
use Rattle.std.specs.Prelude.{ℕ, List, [], ◌∷◌}
use Rattle.vf_upper_grammar.specs.ValueViews.{prefix_of}
use Rattle.vf_upper_grammar.specs.Forms.{in_order}
use Rattle.vf_upper_grammar.specs.HeldViews.{Stands}
use Rattle.vf_upper_grammar.specs.Marks.{Found}
use Rattle.vf_upper_grammar.specs.MarkViews.{marks_of}
use Rattle.vf_upper_grammar.specs.Parts.{parts_of}
use Rattle.vf_upper_grammar.specs.Rows.{values_rank, read_of, skips, tags_of}
use Rattle.vf_upper_grammar.specs.Texts.{unless}
use Rattle.vf_upper_grammar.specs.Views.{part_of, first_part_of, text_of}
use Rattle.vf_upper_grammar.specs.WalkViews.{fields_of}
use Rattle.vf_upper_grammar.proofs.Standing.{first_part-in, stands-all, stands-front}
use Rattle.vf_upper_grammar.proofs.Turns.{first_part-shorter}
use Rattle.vf_upper_grammar.proofs.Walks.{constructed-good, each-ends, each-next, each-stops, each-wrong, fields-by, gives_along, most-below, order-ends, order-next, order-stops, stops_along, then_ok, then_stops, typed-order}
use Rattle.vf_upper_grammar.proofs.walk.+walk.Goals as goal

pub each-returns-then-not-has_tag : goal.each-returns-then-not-has_tag
each-returns-then-not-has_tag t c =
    c.loop-part.invariant.0
    ∙ each-wrong (tags_of c.args.element) (read_of c.args.carrier c.args.element.form) (text_of c.loop-part.rest) (first_part_of (c.in-Some.part, c.in-Some.after)) (marks_of c.loop-part.found) c.in-Some.ensures
    (sym c.has_tag.ensures ∙ c.if-not-has_tag.true)

pub each-loop-part-smaller : goal.each-loop-part-smaller
each-loop-part-smaller t c = let short = first_part-shorter (text_of c.loop-part.rest) (first_part_of (c.in-Some.part, c.in-Some.after)) c.in-Some.ensures in omega arith

pub each-loop-part-preserved : goal.each-loop-part-preserved
each-loop-part-preserved t c = (
  c.loop-part.invariant.0
      ∙ each-next (tags_of c.args.element) (read_of c.args.carrier c.args.element.form) (text_of c.loop-part.rest) (first_part_of (c.in-Some.part, c.in-Some.after)) (marks_of c.loop-part.found)
      (marks_of c.read_part.new.found) c.in-Some.ensures (sym c.has_tag.ensures ∙ c.if-not-has_tag.false) c.in-Ok.ensures,
  (first_part-in c.args.all.now (text_of c.loop-part.rest) (first_part_of (c.in-Some.part, c.in-Some.after)) c.loop-part.invariant.1 c.in-Some.ensures).rest,
)

pub each-read_part-requires : goal.each-read_part-requires
each-read_part-requires t c = (omega arith, (first_part-in c.args.all.now (text_of c.loop-part.rest) (first_part_of (c.in-Some.part, c.in-Some.after)) c.loop-part.invariant.1 c.in-Some.ensures).part)

pub each-returns-in-Err : goal.each-returns-in-Err
each-returns-in-Err t c =
    stops_along _ _ c.in-Err.stop c.loop-part.invariant.0
    (each-stops (tags_of c.args.element) (read_of c.args.carrier c.args.element.form) (text_of c.loop-part.rest) (first_part_of (c.in-Some.part, c.in-Some.after)) (marks_of c.loop-part.found)
    c.in-Err.stop c.in-Some.ensures (sym c.has_tag.ensures ∙ c.if-not-has_tag.false) c.in-Err.ensures)

pub each-returns : goal.each-returns
each-returns t c =
    c.loop-part.invariant.0
    ∙ each-ends (tags_of c.args.element) (read_of c.args.carrier c.args.element.form) (text_of c.loop-part.rest) (marks_of c.loop-part.found) c.in_default.ensures

pub in_order-returns-in-Err : goal.in_order-returns-in-Err
in_order-returns-in-Err t c =
    stops_along _ _ c.in-Err.stop c.loop-part.invariant.0
    (order-stops c.args.carrier c.args.skips c.args.fields.now c.loop-part.left.now (text_of c.loop-part.rest) (first_part_of (c.in-Some.part, c.in-Some.after)) (marks_of c.loop-part.found)
    c.in-Err.stop c.in-Some.ensures c.in-Err.ensures.err)

pub in_order-loop-part-smaller : goal.in_order-loop-part-smaller
in_order-loop-part-smaller t c = let short = first_part-shorter (text_of c.loop-part.rest) (first_part_of (c.in-Some.part, c.in-Some.after)) c.in-Some.ensures in omega arith

pub in_order-loop-part-preserved : goal.in_order-loop-part-preserved
in_order-loop-part-preserved t c =
    let most = c.in-Ok.ensures.most in (
      c.loop-part.invariant.0
          ∙ order-next c.args.carrier c.args.skips c.args.fields.now c.loop-part.left.now c.in-Ok.next.now (text_of c.loop-part.rest) (first_part_of (c.in-Some.part, c.in-Some.after))
          (marks_of c.loop-part.found) (marks_of c.step.new.found) c.in-Some.ensures c.in-Ok.ensures.ok,
      omega arith,
      (first_part-in c.args.all.now (text_of c.loop-part.rest) (first_part_of (c.in-Some.part, c.in-Some.after)) c.loop-part.invariant.2 c.in-Some.ensures).rest,
    )

pub in_order-step-requires : goal.in_order-step-requires
in_order-step-requires t c =
    let le = c.loop-part.invariant.1 in (omega arith, (first_part-in c.args.all.now (text_of c.loop-part.rest) (first_part_of (c.in-Some.part, c.in-Some.after)) c.loop-part.invariant.2 c.in-Some.ensures).part)

pub in_order-returns : goal.in_order-returns
in_order-returns t c =
    gives_along c.lacking.result (marks_of c.loop-part.found) _ _ c.loop-part.invariant.0
    (order-ends c.args.carrier c.args.skips c.args.fields.now c.loop-part.left.now (text_of c.loop-part.rest) (marks_of c.loop-part.found) c.lacking.result c.in_default.ensures
    c.lacking.ensures)

pub outcome-in_order-requires : goal.outcome-in_order-requires
outcome-in_order-requires t c = let low = most-below 1 c.refused_outcome.result.now c.refused_outcome.ensures.below in (omega arith, c.requires)

pub outcome-in_order-requires-else-refuses : goal.outcome-in_order-requires-else-refuses
outcome-in_order-requires-else-refuses t c = let low = most-below 1 c.accepted_outcome-accepted.result.now c.accepted_outcome-accepted.ensures.below in (omega arith, c.requires)

pub sequence-in_order-requires : goal.sequence-in_order-requires
sequence-in_order-requires t c = let low = most-below _ c.fields-rows.result.now c.fields-rows.ensures.below in (omega arith, c.requires)

pub sequence-returns : goal.sequence-returns
sequence-returns t c =
    let part = part_of c.args.part.now in
    let old = marks_of c.args.found.now in
    let all = fields_of c.args.carrier c.fields-rows.result.now in
    gives_along c.in_order.result (marks_of c.in_order.new.found) _ _
    (ap (λ read. read part old) c.fields-rows.ensures.fields ∙ fields-by (skips c.args.name) all part old
    ∙ constructed-good (λ parts. in_order parts (skips c.args.name) all all) part old (sym c.is_constructed.ensures ∙ c.if-not-is_constructed.false)
    ∙ ap (λ b. in_order (parts_of part.contents) b all all old) (sym c.skips_others-skips.ensures))
    c.in_order.ensures

pub typed-returns-in-Some : goal.typed-returns-in-Some
typed-returns-in-Some t c =
    let prefix = c.in_ok-prefix.prefix in
    let octets = c.args.octets.now in
    let fields = fields_of c.args.carrier (c.args.field ∷ []) in
    let old = marks_of c.args.found.now in
    let walk : List ℕ → Found = λ o. in_order (parts_of (record { octets = o; at = 0; whole = prefix.whole })) false fields fields old in
    typed-order c.args.carrier c.args.field octets old (prefix_of octets prefix) c.requires.required c.in_ok-prefix.ensures.prefix
    ∙ then_ok (walk (take prefix.len octets)) (unless prefix.fault) (marks_of c.in_order.new.found) (ap walk (sym c.split_at.ensures.front) ∙ c.in-Ok.ensures)
    ∙ ap (λ fault. unless fault (marks_of c.in_order.new.found)) c.in-Some.is

pub typed-returns-in-None : goal.typed-returns-in-None
typed-returns-in-None t c =
    let prefix = c.in_ok-prefix.prefix in
    let octets = c.args.octets.now in
    let fields = fields_of c.args.carrier (c.args.field ∷ []) in
    let old = marks_of c.args.found.now in
    let walk : List ℕ → Found = λ o. in_order (parts_of (record { octets = o; at = 0; whole = prefix.whole })) false fields fields old in
    typed-order c.args.carrier c.args.field octets old (prefix_of octets prefix) c.requires.required c.in_ok-prefix.ensures.prefix
    ∙ then_ok (walk (take prefix.len octets)) (unless prefix.fault) (marks_of c.in_order.new.found) (ap walk (sym c.split_at.ensures.front) ∙ c.in-Ok.ensures)
    ∙ ap (λ fault. unless fault (marks_of c.in_order.new.found)) c.in-None.is

pub typed-returns-in-Err : goal.typed-returns-in-Err
typed-returns-in-Err t c =
    let prefix = c.in_ok-prefix.prefix in
    let octets = c.args.octets.now in
    let fields = fields_of c.args.carrier (c.args.field ∷ []) in
    let old = marks_of c.args.found.now in
    let walk : List ℕ → Found = λ o. in_order (parts_of (record { octets = o; at = 0; whole = prefix.whole })) false fields fields old in
    stops_along _ _ c.in-Err.stop (typed-order c.args.carrier c.args.field octets old (prefix_of octets prefix) c.requires.required c.in_ok-prefix.ensures.prefix)
    (then_stops (walk (take prefix.len octets)) (unless prefix.fault) c.in-Err.stop (stops_along _ _ c.in-Err.stop (ap walk (sym c.split_at.ensures.front)) c.in-Err.ensures))

pub within-typed-requires : goal.within-typed-requires
within-typed-requires t c = let rank = ap values_rank c.in-Apdu.is in let below = c.apdu.ensures.below in (omega arith, (c.apdu.ensures.required, c.in_ok-kept-in-Apdu.ensures ∙ sym c.octets.ensures))

pub typed-in_order-requires : goal.typed-in_order-requires
typed-in_order-requires t c = (
  omega arith,
  subst (λ (o : List ℕ). Stands c.args.all.now 0 o) (sym c.split_at.ensures.front)
      (stands-front c.args.all.now 0 c.args.octets.now c.in_ok-prefix.prefix.len (stands-all c.args.all.now c.args.octets.now c.requires.all)),
)
