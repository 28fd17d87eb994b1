use Rattle.std.proofs.Common.{◌≡◌, ℕ, length}
use Rattle.vf_upper_grammar.specs.HeldViews.{broken_at}
use Rattle.vf_upper_grammar.specs.Texts.{segments}
use Rattle.vf_upper_grammar.specs.Views.{text_of}
use Rattle.vf_upper_grammar.proofs.segments.wrong_among.Given as goal

abbrev pub invariant-loop-contents : goal.invariant-loop-contents
invariant-loop-contents l = (end : ℕ) → broken_at (segments end (text_of l.fn.text)) ≡ broken_at (segments end (text_of l.rest))

abbrev pub decreases-loop-contents : goal.decreases-loop-contents
decreases-loop-contents l = length l.rest.octets.now
