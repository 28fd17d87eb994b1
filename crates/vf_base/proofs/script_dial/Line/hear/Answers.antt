use Rattle.std.proofs.Common.{◌∙◌, sym, ap, take, drop}
use Rattle.vf_base.proofs.ListLemmas.{heard_is}
use Rattle.vf_base.proofs.script_dial.Line.hear.Goals as goal

pub returns-clause-heard : goal.returns-clause-heard
returns-clause-heard c =
    let line = c.self.inside in
    let count = c.fill-count.result in
    let rest = c.split_at.ensures.back ∙ ap (drop line.heard) c.as_slice.ensures in
    rw (← c.self.view_is) (heard_is line.said.items line.octets c.fill-count.new.into line.heard count (c.fill-count.ensures.prefix ∙ ap (take count) rest) (λ none. sym rest ∙ c.fill-count.ensures.last none))
