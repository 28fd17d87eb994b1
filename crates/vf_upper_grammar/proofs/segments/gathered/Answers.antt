use Rattle.std.proofs.Common.{◌≡◌, ◌++◌, length, ap, sym, ◌∙◌, arith, append_assoc, append-nil, length-append}
use Rattle.vf_upper_grammar.specs.Texts.{segments, then_held}
use Rattle.vf_upper_grammar.specs.Views.{text_of}
use Rattle.vf_upper_grammar.proofs.SegmentTurns.{none_held-octets, segments-next, segments-none}
use Rattle.vf_upper_grammar.proofs.segments.gathered.Goals as goal

pub loop-contents-preserved : goal.loop-contents-preserved
loop-contents-preserved c =
    let rest = text_of c.loop-contents.rest in
    let contents = text_of c.in-Some.contents in
    let after = text_of c.in-Some.after in
    let old = c.loop-contents.octets.items in
    let put = c.in_ok-append.ensures in (
      (λ end.
          let step : segments end rest ≡ then_held contents (segments end after) = segments-next end rest contents after c.in-Some.ensures.piece in
          c.loop-contents.invariant.0 end ∙ ap (λ h. old ++ h.octets) step ∙ sym (append_assoc old contents.octets (segments end after).octets)
          ∙ ap (λ o. o ++ (segments end after).octets) (sym put)),
      omega (arith, ap length put, length-append old contents.octets, c.in-Some.ensures.shorter),
    )

pub returns-clause-all : goal.returns-clause-all
returns-clause-all c =
    let rest = text_of c.loop-contents.rest in
    λ end. c.loop-contents.invariant.0 end ∙ ap (λ h. c.loop-contents.octets.items ++ h.octets) (segments-none end rest c.in_default.ensures.piece)
    ∙ ap (λ o. c.loop-contents.octets.items ++ o) (none_held-octets rest end) ∙ append-nil c.loop-contents.octets.items
