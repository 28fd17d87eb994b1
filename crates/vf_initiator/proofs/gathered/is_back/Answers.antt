use Rattle.std.proofs.Common.{arith}
use Rattle.std.proofs.lemmas.Bool.Decides.{nat_tests}
use Rattle.vf_initiator.specs.Gathering.{after_marks, by_marks}
use Rattle.vf_initiator.proofs.Kept.{after_there, back_there, other_early, other_none, other_there, there_by}
use Rattle.vf_initiator.proofs.Marks.{pieces_are_marks}
use Rattle.vf_initiator.proofs.gathered.is_back.Goals as goal

pub returns-then-standing-marks-clause-other : goal.returns-then-standing-marks-clause-other
returns-then-standing-marks-clause-other c = λ no.
    let marks = c.args.marks.now in
    let pieces = by_marks 0 marks c.args.elements.now in
    let count = pieces_are_marks 0 marks c.args.elements.now in
    other_early c.args.aside.now c.args.standing pieces (after_marks 0 marks c.args.elements.now) (grind (arith, nat_tests, count, c.requires.within, c.if-standing-marks.true)) c.requires.same

pub returns-in_default-clause-other : goal.returns-in_default-clause-other
returns-in_default-clause-other c = λ no.
    let marks = c.args.marks.now in
    let pieces = by_marks 0 marks c.args.elements.now in
    let count = pieces_are_marks 0 marks c.args.elements.now in
    other_none c.args.aside.now c.args.standing pieces (after_marks 0 marks c.args.elements.now) (grind (arith, nat_tests, count, c.if-standing-marks.false)) (grind (arith, nat_tests, c.in_default.ensures.lookup)) c.requires.same

pub returns-clause-back : goal.returns-clause-back
returns-clause-back c = λ yes.
    let marks = c.args.marks.now in
    let pieces = by_marks 0 marks c.args.elements.now in
    let count = pieces_are_marks 0 marks c.args.elements.now in
    back_there c.args.aside.now c.args.standing pieces (after_marks 0 marks c.args.elements.now) c.in-Some.piece.now (grind (arith, nat_tests, count, c.if-standing-marks.false))
    (there_by c.args.standing c.args.aside.now c.in-Some.piece.now c.in-Some.ensures.lookup.0 c.in-Some.ensures.lookup.1) c.requires.same (grind (arith, yes, c.is_same_unit.ensures, c.as_slice.ensures, c.split_at.ensures.back, c.before-2.ensures, after_there marks c.args.elements.now c.requires.marks))

pub returns-clause-other : goal.returns-clause-other
returns-clause-other c = λ no.
    let marks = c.args.marks.now in
    let pieces = by_marks 0 marks c.args.elements.now in
    let count = pieces_are_marks 0 marks c.args.elements.now in
    other_there c.args.aside.now c.args.standing pieces (after_marks 0 marks c.args.elements.now) c.in-Some.piece.now (grind (arith, nat_tests, count, c.if-standing-marks.false))
    (there_by c.args.standing c.args.aside.now c.in-Some.piece.now c.in-Some.ensures.lookup.0 c.in-Some.ensures.lookup.1) c.requires.same (grind (arith, no, c.is_same_unit.ensures, c.as_slice.ensures, c.split_at.ensures.back, c.before-2.ensures, after_there marks c.args.elements.now c.requires.marks))
