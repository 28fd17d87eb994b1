-- What the elements give is written or waits, one after another.
use Rattle.std.specs.Prelude.{◌||◌}
use Rattle.std.proofs.Common.{ℕ, ◌+◌, Bool, false, List, drop, ap, sym, subst, ◌∙◌}
use Rattle.std.proofs.lemmas.Result.{on_err_weaker, on_ok_weaker}
use Rattle.std.proofs.Math.ListN.{drop_of_length-le}
use Rattle.vf_transact.specs.Writing.{PassesAll, PassesFront, begins, given_by, line_ended, records_from}
use Rattle.vf_transact.proofs.Passing.{at_place, front, last_all, last_front, on_err, step, step_front, Written}
use Rattle.vf_transact.proofs.Records.{from_none}
use Rattle.vf_transact.proofs.writing.write_records.Goals as goal

pub returns-in_err-has_begun-clause-front : goal.returns-in_err-has_begun-clause-front
returns-in_err-has_begun-clause-front g c =
    on_err c.from_residual.result
    (subst (λ (l : List ℕ). PassesFront l (g.O.Sink.taken c.args.out.now) (g.O.Sink.taken c.loop-element.out)) (from_none c.args.elements.now) (front c.loop-element.invariant.written))

pub returns-in_err-write_if_large-clause-front : goal.returns-in_err-write_if_large-clause-front
returns-in_err-write_if_large-clause-front g c =
    let has_begun = c.loop-element.has_begun in
    let rest = records_from (has_begun || begins c.element-item.result) (drop (c.loop-element.element-index + 1) c.args.elements.now) in
    on_err c.from_residual-in_err-write_if_large.result
    (subst (λ (l : List ℕ). PassesFront l (g.O.Sink.taken c.args.out.now) (g.O.Sink.taken c.write_if_large.new.out)) (from_none c.args.elements.now)
    (step_front (given_by has_begun c.element-item.result) rest (g.O.Sink.taken c.write_if_large.new.out) c.loop-element.invariant.written
    (ap (records_from has_begun) (at_place c.args.elements.now c.loop-element.element-index c.element-item.result c.loop-element-test.true c.element-item.is))
    c.in_ok-has_begun.ensures.octets c.in_err-write_if_large.ensures.front))

pub loop-element-preserved : goal.loop-element-preserved
loop-element-preserved g c =
    let has_begun = c.loop-element.has_begun in
    let later = drop (c.loop-element.element-index + 1) c.args.elements.now in
    record {
      written = subst (λ (b : Bool). Written (records_from false c.args.elements.now) (records_from b later) c.write_if_large.new.block.items (g.O.Sink.taken c.args.out.now) (g.O.Sink.taken c.write_if_large.new.out)) (sym c.in_ok-has_begun.ensures.begun)
          (step (given_by has_begun c.element-item.result) (records_from (has_begun || begins c.element-item.result) later) c.write_if_large.new.block.items (g.O.Sink.taken c.write_if_large.new.out) c.loop-element.invariant.written
          (ap (records_from has_begun) (at_place c.args.elements.now c.loop-element.element-index c.element-item.result c.loop-element-test.true c.element-item.is))
          c.in_ok-has_begun.ensures.octets c.in_ok-write_if_large.ensures.passes);
      count = c.in_ok-write_if_large.ensures.cause ∙ c.loop-element.invariant.count;
    }

pub returns-in_err-end_record-clause-front : goal.returns-in_err-end_record-clause-front
returns-in_err-end_record-clause-front g c =
    on_err c.from_residual-in_err-end_record.result
    (subst (λ (l : List ℕ). PassesFront l (g.O.Sink.taken c.args.out.now) (g.O.Sink.taken c.loop-element.out)) (from_none c.args.elements.now) (front c.loop-element.invariant.written))

pub returns-clause-passes : goal.returns-clause-passes
returns-clause-passes g c =
    let none = ap (records_from c.loop-element.has_begun) (drop_of_length-le c.args.elements.now c.loop-element-test.false) in
    on_ok_weaker c.write_block.result
    (λ passes. subst (λ (l : List ℕ). PassesAll l (g.O.Sink.taken c.args.out.now) (g.O.Sink.taken c.write_block.new.out)) (from_none c.args.elements.now)
    (last_all (line_ended c.loop-element.has_begun) (g.O.Sink.taken c.write_block.new.out) c.loop-element.invariant.written none c.in_ok-end_record.ensures passes))
    c.write_block.ensures.passes

pub returns-clause-front : goal.returns-clause-front
returns-clause-front g c =
    let none = ap (records_from c.loop-element.has_begun) (drop_of_length-le c.args.elements.now c.loop-element-test.false) in
    on_err_weaker c.write_block.result
    (λ passes. subst (λ (l : List ℕ). PassesFront l (g.O.Sink.taken c.args.out.now) (g.O.Sink.taken c.write_block.new.out)) (from_none c.args.elements.now)
    (last_front (line_ended c.loop-element.has_begun) (g.O.Sink.taken c.write_block.new.out) c.loop-element.invariant.written none c.in_ok-end_record.ensures passes))
    c.write_block.ensures.front
