use Rattle.std.proofs.Common.{None, false, refl}
use Rattle.vf_session.specs.Trace.{with_sent}
use Rattle.vf_session.specs.declared.units.SessionSay.TheVariants.{Data}
use Rattle.vf_stack.specs.Association.{Exchange}
use Rattle.vf_stack.specs.Represents.{Stands}
use Rattle.vf_stack.specs.Sends.{Advances}
use Rattle.vf_stack.proofs.SendLemmas.{in-after, joins-sent}
use Rattle.vf_stack.proofs.StringLemmas.{keeps-data, may-data}
use Rattle.vf_stack.proofs.exchange.KeptExchange.join_data.Goals as goal

pub returns-clause-joined : goal.returns-clause-joined
returns-clause-joined c = λ octets p x stands.
    let kept = c.args.self.now in
    let unit = Data false octets in
    let own = kept.session.side in
    let joined = c.join_data.new.self in
    let kept' = record kept { session = joined } in
    let advances : Advances kept unit kept' = record {
      rest_is = refl;
      same = c.join_data.ensures.end;
      state_is = λ (x : Exchange) (s : Stands kept x). s.traced.state_is;
      in_session = λ (x : Exchange) (s : Stands kept x).
          in-after kept' (with_sent own unit x.trace) unit x.ending (c.join_data.ensures.trace octets x.trace (may-data kept octets p) (keeps-data kept x octets s p));
    } in
    joins-sent kept kept' unit None kept.ending x p advances refl refl stands
