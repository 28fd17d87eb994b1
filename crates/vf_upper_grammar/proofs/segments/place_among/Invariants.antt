use Rattle.std.proofs.Common.{◌≡◌, length}
use Rattle.vf_upper_grammar.specs.Texts.{place_of, segments}
use Rattle.vf_upper_grammar.specs.Views.{text_of}
use Rattle.vf_upper_grammar.proofs.segments.place_among.Given as goal

abbrev pub invariant-loop-contents : goal.invariant-loop-contents
invariant-loop-contents l = place_of (segments l.end (text_of l.fn.text)) l.fn.offset ≡ place_of (segments l.end (text_of l.rest)) l.left

abbrev pub decreases-loop-contents : goal.decreases-loop-contents
decreases-loop-contents l = length l.rest.octets.now
