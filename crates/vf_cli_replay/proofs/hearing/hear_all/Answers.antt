use Rattle.std.proofs.Common.{◌≡◌, ◌∙◌, ◌+◌, ◌-◌, ◌++◌, [], ◌∷◌, List, ℕ, drop, take, length, length-drop, ap, subst, sym, refl, arith}
use Rattle.std.proofs.lemmas.List.{take_all}
use Rattle.vf_cli_replay.specs.Hearing.{HasHeard}
use Rattle.vf_cli_replay.specs.Running.{behind, goes_on, heard_on}
use Rattle.vf_cli_replay.proofs.Replies.{hears_by, hears_first, hears_it, hears_last, hears_on, none_at, reply_at}
use Rattle.vf_cli_replay.proofs.hearing.hear_all.Goals as goal
use Rattle.vf_cli_replay.proofs.hearing.hear_all.Goals.{then-not-goes_on+in_ok-hear_on, else-not-goes_on}

pub loop-place-init : goal.loop-place-init
loop-place-init c = λ ends are.
    hears_by c.args.replies.now ends c.args.text.now.items 0 [] c.new-octets.result.items c.args.callers.now.entries c.args.callers.now.entries c.args.text.now.items c.args.text.now.items
    (sym c.new-octets.ensures.items) refl refl (hears_first c.args.replies.now ends c.args.text.now.items c.args.callers.now.entries are)

pub loop-place-preserved : goal.loop-place-preserved
loop-place-preserved c = λ ends are.
    let replies = c.args.replies.now in
    let reply = c.index-replies-place.result in
    let place = c.loop-place.place in
    let at : drop place replies ≡ reply ∷ drop (place + 1) replies = reply_at replies place reply (omega (arith, c.loop-place-test.true)) c.index-replies-place.is in
    let octets : c.append_to.new.out.items ≡ c.loop-place.octets.items ++ reply.octets = c.in_ok-append_to.ensures in
    let rest : take (length replies - (place + 1)) (drop (place + 1) replies) ≡ drop (place + 1) replies =
    take_all (length replies - (place + 1)) (drop (place + 1) replies) (omega (arith, length-drop (place + 1) replies)) in
    let goes : c.goes_on.result ≡ goes_on reply (drop (place + 1) replies) = c.goes_on.ensures ∙ ap (goes_on reply) rest in
    let hears = c.loop-place.invariant ends are in
    elim c.if-not-goes_on.branch [
      | then-not-goes_on+in_ok-hear_on w ↦
          (let heard = w.in_ok-hear_on.ensures hears.now hears.are in
          let all : w.as_slice.result.now ≡ c.loop-place.octets.items ++ reply.octets = w.as_slice.ensures.value ∙ octets in
          let it : HasHeard (heard_on (behind c.loop-place.octets.items reply) hears.now) c.loop-place.text.items w.hear_on.new.callers.entries w.hear_on.new.text.items =
          subst (λ (l : List ℕ). HasHeard (heard_on (record { link = reply.link; octets = l; shut = reply.shut }) hears.now) c.loop-place.text.items w.hear_on.new.callers.entries w.hear_on.new.text.items) all heard in
          hears_by replies ends c.args.text.now.items (place + 1) [] c.if-not-goes_on.octets.items w.hear_on.new.callers.entries c.if-not-goes_on.callers.entries w.hear_on.new.text.items c.if-not-goes_on.text.items
          (sym w.clear.ensures.items ∙ ap (λ v. v.items) (sym w.octets-is)) (ap (λ m. m.entries) (sym w.callers-is)) (ap (λ v. v.items) (sym w.text-is))
          (hears_it replies ends c.args.text.now.items place c.loop-place.octets.items c.loop-place.callers.entries c.loop-place.text.items reply w.hear_on.new.callers.entries w.hear_on.new.text.items
          at (sym goes ∙ w.if-not-goes_on.true) hears it))
      | else-not-goes_on w ↦
          (hears_by replies ends c.args.text.now.items (place + 1) (c.loop-place.octets.items ++ reply.octets) c.if-not-goes_on.octets.items c.loop-place.callers.entries c.if-not-goes_on.callers.entries
          c.loop-place.text.items c.if-not-goes_on.text.items
          (sym octets ∙ ap (λ v. v.items) (sym w.octets-is)) (ap (λ m. m.entries) (sym w.callers-is)) (ap (λ v. v.items) (sym w.text-is))
          (hears_on replies ends c.args.text.now.items place c.loop-place.octets.items c.loop-place.callers.entries c.loop-place.text.items reply at (sym goes ∙ w.if-not-goes_on.false) hears))
    ]

pub returns : goal.returns
returns c = λ ends are.
    hears_last c.args.replies.now ends c.args.text.now.items c.loop-place.place c.loop-place.octets.items c.loop-place.callers.entries c.loop-place.text.items
    (none_at c.args.replies.now c.loop-place.place c.loop-place-test.false) (c.loop-place.invariant ends are)
