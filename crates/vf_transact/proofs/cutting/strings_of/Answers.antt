-- The next string is put after the others.
use Rattle.std.proofs.Common.{◌≡◌, ℕ, ◌+◌, ◌-◌, ◌<◌, List, [], ◌∷◌, ◌++◌, drop, length, map, min, ap, sym, ◌∙◌, append_assoc, arith}
use Rattle.vf_base.specs.declared.element.Element.{Element}
use Rattle.vf_initiator.specs.Cutting.{binary_of, strings_of}
use Rattle.vf_transact.proofs.Strings.{next_string}
use Rattle.vf_transact.proofs.cutting.strings_of.Goals as goal

pub loop-start-preserved : goal.loop-start-preserved
loop-start-preserved c =
    let start = c.loop-start.start in
    let count = c.min-length.result in
    let input = c.args.input.now in
    let whole = c.len.ensures in
    let there : start < length input = omega (arith, c.loop-start-test.true, whole) in
    let most : count ≡ min 4096 (length input - start) = c.min-length.ensures ∙ ap (λ (n : ℕ). min 4096 (n - start)) c.len-in-loop-start.ensures in
    let next = next_string input start count there most in
    let later = map binary_of (strings_of 4096 (drop (start + count) input)) in (
      ap (λ (l : List Element). l ++ later) c.in_ok-push.ensures.ok
          ∙ append_assoc c.loop-start.elements (binary_of c.in_ok-octets.octets ∷ []) later
          ∙ ap (λ (o : List ℕ). c.loop-start.elements ++ (binary_of o ∷ later)) c.in_ok-octets.ensures
          ∙ ap (λ (s : List (List ℕ)). c.loop-start.elements ++ map binary_of s) (sym next)
          ∙ c.loop-start.invariant.0,
      omega (arith, most, c.loop-start.invariant.1),
    )
