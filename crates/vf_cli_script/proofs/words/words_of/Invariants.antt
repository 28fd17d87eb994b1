use Rattle.std.proofs.Common.{◌≡◌, ◌++◌, length, map}
use Rattle.vf_cli_script.specs.Words.{words_of}
use Rattle.vf_cli_script.proofs.words.words_of.Given as goal

abbrev pub invariant-loop-place : goal.invariant-loop-place
invariant-loop-place l = words_of l.fn.line ≡ map (λ word. word.now) l.words.items ++ words_of l.rest

abbrev pub decreases-loop-place : goal.decreases-loop-place
decreases-loop-place l = length l.rest
