use Rattle.std.proofs.Common.{refl, ◌≡◌, ◌∙◌, ap, ◌++◌, rules, slice_get, option_to_list, None, Some}
use Rattle.vf_base.specs.Dial.{Call}
use Rattle.vf_base.proofs.ListLemmas.{said_at}
use Rattle.vf_base.proofs.script_dial.ScriptDial.said.Goals as goal

pub returns-in-None : goal.returns-in-None
returns-in-None c =
    let dial = c.self.inside in
    let line : slice_get (dial.earlier.items ++ option_to_list dial.last) c.args.connection ≡ None = search rules in
    rw (← c.self.view_is, said_at dial.earlier.items dial.last c.args.connection, line) refl

pub returns-in-Some : goal.returns-in-Some
returns-in-Some c =
    let dial = c.self.inside in
    let line : slice_get (dial.earlier.items ++ option_to_list dial.last) c.args.connection ≡ Some c.in-Some.line.now = search rules in
    rw (← c.self.view_is, said_at dial.earlier.items dial.last c.args.connection, line) (ap (λ octets. Some octets) (c.as_slice-in-Some.ensures.value ∙ ap (λ (call : Call). call.said) c.line.view_is))
