use Rattle.std.proofs.Common.{◌≤◌, length, ap, subst, sym, ◌∙◌}
use Rattle.vf_base.specs.declared.limits.TheConstants.{MOST_VALUE_OCTETS}
use Rattle.vf_session.specs.declared.units.SessionSay.{SessionSay}
use Rattle.vf_stack.specs.Represents.{Kept, side_of}
use Rattle.vf_stack.specs.Sending.{tsdu_of}
use Rattle.vf_stack.specs.Sends.{IsPermitted, Sends, unit_kept}
use Rattle.vf_stack.proofs.OutcomeLemmas.{on-ok}
use Rattle.vf_stack.proofs.SendLemmas.{sends-all}
use Rattle.vf_stack.proofs.stack.Stack.send_unit.Goals as goal

pub put_unit-sent-requires : goal.put_unit-sent-requires
put_unit-sent-requires c =
    let kept : Kept = c.args.self.now in
    let unit = c.in_ok-unit.ensures ∙ ap (λ (k : Kept). unit_kept k.exchange c.args.request.now) c.self.view_is in
    let P : SessionSay → Type 0 = λ unit. IsPermitted kept.exchange unit in
    let L : SessionSay → Type 0 = λ unit. length (tsdu_of (side_of kept) unit) ≤ MOST_VALUE_OCTETS in
    record { connected = c.requires.connected; permitted = subst P (sym unit) c.requires.permitted; fits = subst L (sym unit) c.requires.sendable.fits }

pub returns-clause-sent : goal.returns-clause-sent
returns-clause-sent c a rep =
    let kept : Kept = c.args.self.now in
    let unit = c.in_ok-unit.ensures ∙ ap (λ (k : Kept). unit_kept k.exchange c.args.request.now) c.self.view_is in
    on-ok c.put_unit-sent.result _ (Sends (side_of kept) a c.args.request.now c.args.out.now.items c.put_unit-sent.new.self c.put_unit-sent.new.out.items) c.put_unit-sent.ensures.ok
    (λ ok. sends-all kept c.put_unit-sent.new.self a c.args.request.now c.in_ok-unit.unit c.args.out.now.items c.put_unit-sent.new.out.items rep unit ok.0
    c.put_unit-sent.ensures.transport ok.1 c.put_unit-sent.ensures.end)
