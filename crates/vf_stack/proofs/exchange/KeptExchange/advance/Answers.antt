use Rattle.std.proofs.Common.{◌≡◌, true, None, ap, refl, subst, sym, ◌∙◌}
use Rattle.vf_session.specs.Trace.{state, with_sent}
use Rattle.vf_session.specs.declared.phase.Phase.TheVariants.{Aborted}
use Rattle.vf_session.specs.declared.state.SessionState.{SessionState}
use Rattle.vf_session.specs.declared.units.TokenSide.{TokenSide}
use Rattle.vf_stack.specs.Association.{Exchange}
use Rattle.vf_stack.specs.Represents.{Stands}
use Rattle.vf_stack.specs.Sending.{permits}
use Rattle.vf_stack.specs.declared.ending.Ending.{Ending}
use Rattle.vf_stack.specs.declared.ending.Ending.TheVariants.{Refused}
use Rattle.vf_stack.proofs.SendLemmas.{abort-state, ended-after, in-after, keeps-permitted}
use Rattle.vf_stack.proofs.exchange.KeptExchange.advance.Goals as goal

pub returns-in-Refused : goal.returns-in-Refused
returns-in-Refused c =
    let kept = c.args.self.now in
    let unit = c.args.unit.now in
    let own = kept.session.side in
    let offer = kept.session.offer in
    let P : Ending → Type 0 = λ ending. permits own offer kept.session.state unit ending ≡ true in
    let p : P Refused = subst P c.in-Refused.is c.requires in
    let kept' = record kept { state = record kept.state { phase = Aborted; resync = None } } in
    record {
      rest_is = refl;
      same = (refl, refl);
      state_is = λ (x : Exchange) (s : Stands kept x).
          ap (λ (before : SessionState). record before { phase = Aborted; resync = None }) s.traced.state_is ∙ abort-state own x.trace unit offer kept.session.state p;
      in_session = λ (x : Exchange) (s : Stands kept x). ended-after kept' (with_sent own unit x.trace) unit own offer kept.session.state x.ending p;
    }

pub returns : goal.returns
returns c =
    let kept = c.args.self.now in
    let unit = c.args.unit.now in
    let own = kept.session.side in
    let joined = c.join.new.self in
    let kept' = record kept { session = joined; state = c.state-self.result } in
    record {
      rest_is = refl;
      same = c.join.ensures.end;
      state_is = λ (x : Exchange) (s : Stands kept x).
          let r = c.join.ensures.trace x.trace (keeps-permitted kept x unit s c.in_default.not-Refused c.requires) in
          let S : TokenSide → Type 0 = λ side. state side (with_sent own unit x.trace) ≡ joined.state in
          c.state-self.ensures.state ∙ sym (subst S c.join.ensures.end.0 r.state_is);
      in_session = λ (x : Exchange) (s : Stands kept x).
          in-after kept' (with_sent own unit x.trace) unit x.ending (c.join.ensures.trace x.trace (keeps-permitted kept x unit s c.in_default.not-Refused c.requires));
    }
