use Rattle.std.proofs.Common.{arith}
use Rattle.vf_upper_grammar.specs.Parts.{after_end}
use Rattle.vf_upper_grammar.proofs.Ends.{end-shortens, shorter_by}
use Rattle.vf_upper_grammar.proofs.parts.ended_piece.Goals as goal

pub returns-clause-after : goal.returns-clause-after
returns-clause-after c =
    let octets = c.args.octets.now in
    omega (arith, shorter_by after_end (after_end octets) _ c.in-Some.rest.now c.in-Some.ensures (end-shortens octets))
