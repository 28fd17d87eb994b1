use Rattle.std.proofs.Common.{refl}
use Rattle.vf_base.proofs.script_dial.ScriptDial.hear.Goals as goal

pub returns-clause-heard : goal.returns-clause-heard
returns-clause-heard c = rw (← c.self.view_is, c.in-Some.is) (c.hear.new.self, c.hear.ensures.heard, refl)
