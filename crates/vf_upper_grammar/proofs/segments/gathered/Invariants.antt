use Rattle.std.proofs.Common.{◌≡◌, ℕ, ◌+◌, ◌++◌, ◌≤◌, length}
use Rattle.vf_upper_grammar.specs.Texts.{segments}
use Rattle.vf_upper_grammar.specs.Views.{text_of}
use Rattle.vf_upper_grammar.proofs.segments.gathered.Given as goal

abbrev pub invariant-loop-contents : goal.invariant-loop-contents
invariant-loop-contents l =
    ((end : ℕ) → (segments end (text_of l.fn.text)).octets ≡ l.octets.items ++ (segments end (text_of l.rest)).octets)
    × (length l.octets.items + length l.rest.octets.now ≤ length l.fn.text.octets.now)

abbrev pub decreases-loop-contents : goal.decreases-loop-contents
decreases-loop-contents l = length l.rest.octets.now
