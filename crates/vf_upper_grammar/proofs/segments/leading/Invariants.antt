use Rattle.std.proofs.Common.{◌≡◌, ℕ, List, length}
use Rattle.vf_upper_grammar.specs.HeldViews.{IsIn}
use Rattle.vf_upper_grammar.specs.Texts.{segments}
use Rattle.vf_upper_grammar.specs.Views.{text_of}
use Rattle.vf_upper_grammar.proofs.segments.leading.Given as goal

abbrev pub invariant-loop-contents : goal.invariant-loop-contents
invariant-loop-contents l =
    ((end : ℕ) → (segments end (text_of l.fn.text)).octets ≡ (segments end (text_of l.rest)).octets)
    × ((all : List ℕ) → IsIn all (text_of l.fn.text) → IsIn all (text_of l.rest))

abbrev pub decreases-loop-contents : goal.decreases-loop-contents
decreases-loop-contents l = length l.rest.octets.now
