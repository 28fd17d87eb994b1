use Rattle.std.proofs.Common.{◌≡◌, ℕ, ◌≤◌, ◌<◌, List, ◌++◌, None, length, true, refl, ap, sym, subst, ◌∙◌, arith}
use Rattle.vf_responder.specs.Answers.{speaking}
use Rattle.vf_responder.specs.Represents.{kept_of, link_of}
use Rattle.vf_responder.proofs.ArriveLemmas.{arrived-again, arrived-full, arrived-new, is-none}
use Rattle.vf_responder.proofs.keeping.Keeping.arrive.Goals as goal

pub returns-then-contains_key-clause-answers : goal.returns-then-contains_key-clause-answers
returns-then-contains_key-clause-answers g c = λ serving represents.
    arrived-again c.args.number (kept_of c.args.self.now) serving c.args.replies.now.items represents (sym c.contains_key.ensures ∙ c.if-contains_key.true)

pub returns-then-len-ge-MOST_LINKS-clause-answers : goal.returns-then-len-ge-MOST_LINKS-clause-answers
returns-then-len-ge-MOST_LINKS-clause-answers g c = λ serving represents.
    let full : 64 ≤ length c.args.self.now.links.entries = omega (arith, c.len.ensures.len) in
    arrived-full c.args.number (kept_of c.args.self.now) serving c.args.replies.now.items represents c.speak.new.replies.items (sym c.contains_key.ensures ∙ c.if-contains_key.false) full
    (c.in_ok-speak.ensures.said ∙ ap (λ (o : List ℕ). c.args.replies.now.items ++ speaking c.args.number o true) c.new.ensures)

pub returns-clause-answers : goal.returns-clause-answers
returns-clause-answers g c = λ serving represents.
    let few : length c.args.self.now.links.entries < 64 = omega (arith, c.len.ensures.len) in
    let free : link_of c.in_ok-link.link.number c.args.self.now.links.entries ≡ None =
    subst (λ (n : ℕ). link_of n c.args.self.now.links.entries ≡ None) (sym c.in_ok-link.ensures.numbered)
    (is-none (link_of c.args.number c.args.self.now.links.entries) (sym c.contains_key.ensures ∙ c.if-contains_key.false)) in
    arrived-new c.args.number c.in_ok-link.link (kept_of c.args.self.now) (record (kept_of c.args.self.now) { links = c.put.new.links.entries }) serving c.args.replies.now.items represents
    (sym c.contains_key.ensures ∙ c.if-contains_key.false) few c.in_ok-link.ensures.numbered c.in_ok-link.ensures (c.in_ok-put.ensures.entries free) refl refl
