use Rattle.std.proofs.Common.{◌≡◌, ◌++◌, List, ℕ, [], ap, sym, subst, ◌∙◌}
use Rattle.vf_ber.specs.Reader.{reading}
use Rattle.vf_ber.specs.Reading.{Short}
use Rattle.vf_ber_scan.specs.Scanned.{IsFed}
use Rattle.vf_cli_dialogue.specs.Conversation.{left_in}
use Rattle.vf_cli_dialogue.proofs.ScanLemmas.{scanned}
use Rattle.vf_cli_dialogue.proofs.conversation.rest_after.Goals as goal

pub returns-clause-takes : goal.returns-clause-takes
returns-clause-takes c =
    let items = c.extend_from_slice.new.self.items in
    let waits : items ≡ c.in-Some.octets = c.in_ok-extend_from_slice.ensures.items ∙ ap (λ (l : List ℕ). l ++ c.as_slice.result.now) c.new-pending.ensures.items ∙ c.as_slice.ensures in
    let fed = subst (λ (l : List ℕ). IsFed [] l c.feed.result c.feed.new.self) (c.as_slice-2.ensures ∙ sym waits) (c.feed.ensures.fed [] c.clear.ensures) in
    let short = subst (λ (l : List ℕ). reading l ≡ Short) (ap left_in c.in-Some.is ∙ sym waits) (c.requires c.if-more.false) in
    scanned items c.feed.result c.feed.new.self short fed
