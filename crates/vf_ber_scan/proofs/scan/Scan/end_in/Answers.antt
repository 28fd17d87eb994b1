use Rattle.std.proofs.Common.{arith, subst, take, ◌++◌}
use Rattle.vf_ber_scan.specs.declared.place.Next.{Next}
use Rattle.vf_ber_scan.specs.Continuation.{progress_at, Leads}
use Rattle.vf_ber_scan.specs.Tells.{tells}
use Rattle.vf_ber_scan.proofs.ReadingLemmas.{fed_ended, fed_more, new_ahead, new_short}
use Rattle.vf_ber_scan.proofs.scan.Scan.end_in.Goals as goal

pub returns-in-Ended-clause-ended : goal.returns-in-Ended-clause-ended
returns-in-Ended-clause-ended c = λ octets has.
    let self = c.loop-taken.self in
    let leads = subst (λ (p : Next). Leads (λ more. progress_at self.place self.frames (take c.advance-n.result.0 c.split_at.result.1.now ++ more)) p c.advance-n.new.frames) c.in-Ended.is c.advance-n.ensures.leads in
    fed_ended c.args.self.now self.place self.frames c.advance-n.new.frames octets c.args.piece.now c.split_at.result.1.now c.loop-taken.taken c.advance-n.result.0
    c.in-Ended.whole c.loop-taken.invariant.fed c.split_at.ensures.back c.advance-n.ensures.short leads has

pub loop-taken-preserved : goal.loop-taken-preserved
loop-taken-preserved c =
    let self = c.loop-taken.self in
    let leads = subst (λ (p : Next). Leads (λ more. progress_at self.place self.frames (take c.advance-n.result.0 c.split_at.result.1.now ++ more)) p c.advance-n.new.frames) c.in-At.is c.advance-n.ensures.leads in
    record {
      within = omega (arith, c.advance-n.ensures.within, c.split_at.ensures.back_len);
      fed =
          fed_more c.args.self.now self.place c.in-At.place self.frames c.advance-n.new.frames c.args.piece.now c.split_at.result.1.now c.loop-taken.taken c.advance-n.result.0
          c.loop-taken.invariant.fed c.split_at.ensures.back c.advance-n.ensures.short leads;
    }

pub returns-in-Ended-clause-anew : goal.returns-in-Ended-clause-anew
unfolding tells
returns-in-Ended-clause-anew c = record { short = new_short c.clear.new.self c.clear.ensures; ahead = new_ahead c.clear.new.self c.clear.ensures }
