-- What the elements give is written or waits, one after another.
use Rattle.std.proofs.Common.{◌+◌, [], drop, ap, sym, ◌∙◌}
use Rattle.std.proofs.lemmas.List.{append-nil}
use Rattle.std.proofs.lemmas.Result.{on_err_weaker}
use Rattle.std.proofs.Math.ListN.{drop_of_length-le}
use Rattle.std.specs.List.{flat_map}
use Rattle.vf_transact.specs.Writing.{string_given}
use Rattle.vf_transact.proofs.Passing.{at_place, front, last_front, on_err, step, step_front}
use Rattle.vf_transact.proofs.writing.write_strings.Goals as goal

pub returns-in_err-append_string-clause-front : goal.returns-in_err-append_string-clause-front
returns-in_err-append_string-clause-front g c = on_err c.from_residual.result (front c.loop-element.invariant.written)

pub returns-in_err-write_if_large-clause-front : goal.returns-in_err-write_if_large-clause-front
returns-in_err-write_if_large-clause-front g c =
    let given = flat_map (string_given c.args.is_text) in
    let rest = given (drop (c.loop-element.element-index + 1) c.args.elements.now) in
    on_err c.from_residual-in_err-write_if_large.result
    (step_front (string_given c.args.is_text c.element-item.result) rest (g.O.Sink.taken c.write_if_large.new.out) c.loop-element.invariant.written
    (ap given (at_place c.args.elements.now c.loop-element.element-index c.element-item.result c.loop-element-test.true c.element-item.is))
    c.in_ok-append_string.ensures (c.in_err-write_if_large.ensures.front))

pub loop-element-preserved : goal.loop-element-preserved
loop-element-preserved g c =
    let given = flat_map (string_given c.args.is_text) in
    let rest = given (drop (c.loop-element.element-index + 1) c.args.elements.now) in
    record {
      written = step (string_given c.args.is_text c.element-item.result) rest c.write_if_large.new.block.items (g.O.Sink.taken c.write_if_large.new.out) c.loop-element.invariant.written
          (ap given (at_place c.args.elements.now c.loop-element.element-index c.element-item.result c.loop-element-test.true c.element-item.is))
          c.in_ok-append_string.ensures c.in_ok-write_if_large.ensures.passes;
      count = c.in_ok-write_if_large.ensures.cause ∙ c.loop-element.invariant.count;
    }

pub returns-clause-front : goal.returns-clause-front
returns-clause-front g c =
    let none = ap (flat_map (string_given c.args.is_text)) (drop_of_length-le c.args.elements.now c.loop-element-test.false) in
    on_err_weaker c.write_block.result
    (last_front [] (g.O.Sink.taken c.write_block.new.out) c.loop-element.invariant.written none (sym (append-nil c.loop-element.block.items)))
    c.write_block.ensures.front
