use Rattle.std.proofs.Common.{ℕ, List, subst, sym, take, ◌∙◌}
use Rattle.vf_session.specs.declared.units.TokenSide.TheVariants.{Initiator}
use Rattle.vf_stack.specs.Association.{Association}
use Rattle.vf_stack.specs.Receiving.{octets_received}
use Rattle.vf_cli_generate.proofs.Hearing.{hears_more, hears_octets}
use Rattle.vf_cli_generate.specs.Generating.{IsCalling, hears}
use Rattle.vf_cli_generate.proofs.peer.Peer.hear_all.Goals as goal

pub loop-reply-preserved : goal.loop-reply-preserved
loop-reply-preserved c =
    let place : ℕ = c.loop-reply.reply-index in
    let replies = c.args.replies.now in
    let reply = c.reply-item.result in
    record {
      hears = λ calling is.
          let before : Association = hears calling (take place replies) in
          let stands : IsCalling c.loop-reply.self.stack before = c.loop-reply.invariant.hears calling is in
          let heard : IsCalling c.feed.new.self (octets_received Initiator before c.as_slice.result.now).association =
          hears_octets c.loop-reply.self.stack c.feed.new.self before c.as_slice.result.now _ _ _ _ stands c.in_ok-feed.ensures.end (c.in_ok-feed.ensures.received before stands.represents) in
          subst (λ (a : Association). IsCalling c.feed.new.self a) (sym (hears_more calling replies place reply c.loop-reply-test.true c.reply-item.is))
          (subst (λ (octets : List ℕ). IsCalling c.feed.new.self (octets_received Initiator before octets).association) (c.as_slice.ensures.value ∙ c.in_ok-octets.ensures) heard);
      link = c.loop-reply.invariant.link;
    }
