use Rattle.std.proofs.Common.{◌≡◌, ◌+◌, true, Option, Some, length, refl, ap, sym, subst, ◌∙◌}
use Rattle.std.specs.Prelude.{is_some, if◌then◌else◌}
use Rattle.vf_responder.specs.Represents.{IsWith, kept_of}
use Rattle.vf_responder.specs.declared.link.Link.{Link}
use Rattle.vf_responder.proofs.MoveLemmas.{out-by}
use Rattle.vf_responder.proofs.WayLemmas.{asks-nobody, asks-none, gives-way, nobody-at}
use Rattle.vf_responder.proofs.keeping.Keeping.give_way.Goals as goal

pub returns-in_default-clause-way : goal.returns-in_default-clause-way
returns-in_default-clause-way g c = asks-none c.args.link.now c.args.message.now (kept_of c.args.self.now) c.args.replies.now.items c.in_default.ensures

pub returns-in_default-identity-clause-way : goal.returns-in_default-identity-clause-way
returns-in_default-identity-clause-way g c =
    asks-nobody c.args.link.now c.args.message.now (kept_of c.args.self.now) c.args.replies.now.items c.in-Some.activity c.in-Some.ensures c.in_default-identity.ensures

pub returns-in_default-link_with-clause-way : goal.returns-in_default-link_with-clause-way
returns-in_default-link_with-clause-way g c =
    nobody-at c.args.link.now c.args.message.now (kept_of c.args.self.now) c.args.replies.now.items c.in-Some-identity.identity.now c.in-Some.activity
    (record { recovers = c.in-Some.ensures; whose = c.in-Some-identity.ensures }) c.in_default-link_with.ensures.none

pub returns-clause-way : goal.returns-clause-way
returns-clause-way g c =
    let number = c.in-Some-link_with.number in
    let other = c.in-Some-swap_remove.other in
    let name = c.in-Some-identity.identity.now in
    let kept = kept_of c.args.self.now in
    let rest = record (kept_of c.args.self.now) { links = c.swap_remove.new.self.entries } in
    let found = c.in-Some-link_with.ensures.found in
    let taken = sym c.swap_remove.ensures.value ∙ c.in-Some-swap_remove.is in
    let both : Some found.0 ≡ Some other = sym found.1 ∙ taken in
    let same : found.0 ≡ other = cc in
    let count : length c.swap_remove.new.self.entries + 1 ≡ length c.args.self.now.links.entries =
    sym (ap (λ (o : Option Link). length c.swap_remove.new.self.entries + (if is_some o then 1 else 0)) c.in-Some-swap_remove.is) ∙ c.swap_remove.ensures.len in
    gives-way number c.args.link.now other c.args.message.now kept rest (record rest { locks = c.leave-left.new.locks }) name c.in-Some.activity c.args.replies.now.items c.leave-left.new.replies.items c.in_ok-said.said.items
    (record { recovers = c.in-Some.ensures; whose = c.in-Some-identity.ensures })
    (subst (λ (one : Link). IsWith name c.in-Some.activity true one) same found.2)
    (out-by number other kept rest refl refl taken c.swap_remove.ensures.updates.0 count c.swap_remove.ensures.unique)
    c.in_ok-said.ensures c.leave-left.ensures.leaves refl refl (λ a called. (c.in_ok-left.ensures.said a called).spoken)
