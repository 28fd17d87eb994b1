-- What a calling end has heard, reply by reply.
use Rattle.std.proofs.Common.{◌≡◌, ◌∙◌, ℕ, ◌+◌, ◌<◌, List, [], ◌∷◌, ◌++◌, ap, get_or, length, refl, subst, sym, take}
use Rattle.std.proofs.lemmas.List.{take_more}
use Rattle.vf_responder.specs.declared.event.Reply.{Reply}
use Rattle.vf_session.specs.declared.units.TokenSide.{TokenSide}
use Rattle.vf_session.specs.declared.units.TokenSide.TheVariants.{Initiator}
use Rattle.vf_stack.specs.Association.{Association}
use Rattle.vf_stack.specs.Receiving.{octets_received}
use Rattle.vf_stack.specs.Represents.{Feeds, IsSame, Kept, Represents, side_of}
use Rattle.vf_stack.specs.declared.indication.Indication.{Indication}
use Rattle.vf_cli_generate.specs.Generating.{IsCalling, hears}

hears_one_more : (calling : Association) (replies : List Reply) (reply : Reply) → hears calling (replies ++ reply ∷ []) ≡ (octets_received Initiator (hears calling replies) reply.octets).association
hears_one_more calling [] reply = refl
hears_one_more calling (first ∷ replies) reply = hears_one_more (octets_received Initiator calling first.octets).association replies reply

pub hears_more : (calling : Association) (replies : List Reply) (place : ℕ) (reply : Reply) → place < length replies → reply ≡ get_or replies place reply
    → hears calling (take (place + 1) replies) ≡ (octets_received Initiator (hears calling (take place replies)) reply.octets).association
hears_more calling replies place reply within is =
    ap (hears calling) (take_more replies place reply within) ∙ hears_one_more calling (take place replies) (get_or replies place reply)
    ∙ ap (λ (r : Reply). (octets_received Initiator (hears calling (take place replies)) r.octets).association) (sym is)

-- the octets of one reply
pub hears_octets : (old new : Kept) (calling : Association) (piece : List ℕ) (out out' : List Indication) (answers answers' : List ℕ) → IsCalling old calling → IsSame old.exchange new.exchange
    → Feeds (octets_received (side_of old) calling piece) out answers new out' answers' → IsCalling new (octets_received Initiator calling piece).association
hears_octets old new calling piece out out' answers answers' is same feeds = record {
  side = same.0 ∙ is.side;
  offer = same.1 ∙ is.offer;
  represents = subst (λ (side : TokenSide). Represents new (octets_received side calling piece).association) is.side feeds.represents;
}
