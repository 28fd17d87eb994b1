use Rattle.vf_upper_grammar.specs.Views.{first_part_of, text_of}
use Rattle.vf_upper_grammar.proofs.Standing.{first_part-in}
use Rattle.vf_upper_grammar.proofs.Turns.{first_part-shorter}
use Rattle.vf_upper_grammar.proofs.segments.primitive.Goals as goal

pub returns-in-Some-clause-shorter : goal.returns-in-Some-clause-shorter
returns-in-Some-clause-shorter c = first_part-shorter (text_of c.args.text) (first_part_of (c.in-Some.part, c.in-Some.rest)) c.in-Some.ensures

pub returns-in-Some-clause-stands : goal.returns-in-Some-clause-stands
returns-in-Some-clause-stands c all s =
    let p = first_part-in all (text_of c.args.text) (first_part_of (c.in-Some.part, c.in-Some.rest)) s c.in-Some.ensures in (p.part, p.rest)
