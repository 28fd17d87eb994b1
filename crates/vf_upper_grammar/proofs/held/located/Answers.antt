use Rattle.std.proofs.Common.{subst}
use Rattle.std.specs.Prelude.{Result}
use Rattle.vf_upper_grammar.specs.declared.marks.Stop.{Stop}
use Rattle.vf_upper_grammar.specs.MarkViews.{Gives}
use Rattle.vf_upper_grammar.proofs.Locations.{located-broken, located-whole}
use Rattle.vf_upper_grammar.proofs.held.located.Goals as goal

pub returns-in-Some : goal.returns-in-Some
returns-in-Some c h e len marks found good =
    let P : Result Unit Stop → Type 0 = λ r. Gives r marks found in
    located-broken h found marks c.in-Some.place (c.in-Some.ensures h e) (subst P c.in-Ok.is good)

pub returns-in-None : goal.returns-in-None
returns-in-None c h e len marks found good =
    let P : Result Unit Stop → Type 0 = λ r. Gives r marks found in
    located-whole h found marks (c.in-None.ensures h e) (subst P c.in-Ok.is good)
