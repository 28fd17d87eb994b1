use Rattle.std.proofs.Common.{arith, sym, ◌∙◌}
use Rattle.vf_upper_grammar.specs.Views.{first_part_of, text_of}
use Rattle.vf_upper_grammar.specs.WalkViews.{fields_of}
use Rattle.vf_upper_grammar.proofs.Turns.{first_part-shorter}
use Rattle.vf_upper_grammar.proofs.Walks.{leading-found, leading-next, leading-none}
use Rattle.vf_upper_grammar.proofs.fields.leading.Goals as goal

pub returns-then-is_known : goal.returns-then-is_known
returns-then-is_known c =
    sym (c.loop-part.invariant
    ∙ leading-found (fields_of c.args.carrier c.args.fields.now) (text_of c.loop-part.rest) (first_part_of (c.in-Some.part, c.in-Some.after)) c.in-Some.ensures (sym c.is_known.ensures ∙ c.if-is_known.true))

pub loop-part-smaller : goal.loop-part-smaller
loop-part-smaller c = let short = first_part-shorter (text_of c.loop-part.rest) (first_part_of (c.in-Some.part, c.in-Some.after)) c.in-Some.ensures in omega arith

pub loop-part-preserved : goal.loop-part-preserved
loop-part-preserved c =
    c.loop-part.invariant
    ∙ leading-next (fields_of c.args.carrier c.args.fields.now) (text_of c.loop-part.rest) (first_part_of (c.in-Some.part, c.in-Some.after)) c.in-Some.ensures (sym c.is_known.ensures ∙ c.if-is_known.false)

pub returns : goal.returns
returns c =
    sym (c.loop-part.invariant ∙ leading-none (fields_of c.args.carrier c.args.fields.now) (text_of c.loop-part.rest) c.in_default.ensures)
