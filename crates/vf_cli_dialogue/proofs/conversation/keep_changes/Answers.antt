use Rattle.std.proofs.Common.{◌≡◌, List, length, ap, subst, sym, ◌∙◌}
use Rattle.std.specs.Prelude.{IfSome, OnOk, nat_eq}
use Rattle.vf_tables.specs.Changes.{after_all}
use Rattle.vf_tables.specs.declared.change.Change.{Change}
use Rattle.vf_cli_dialogue.proofs.ChangeLemmas.{still_second, unchanged}
use Rattle.vf_cli_dialogue.proofs.conversation.keep_changes.Goals as goal

pub give_back-requires : goal.give_back-requires
give_back-requires c =
    still_second c.args.changes.now c.args.tables.now c.args.ahead
    (ap (λ (items : List Change). nat_eq (length items) 0) (sym c.as_slice-changes.ensures) ∙ sym c.is_empty.ensures ∙ c.if-is_empty.true) c.requires

pub returns-then-is_empty : goal.returns-then-is_empty
returns-then-is_empty c =
    c.give_back.ensures ∙ unchanged c.args.changes.now c.args.tables.now
    (ap (λ (items : List Change). nat_eq (length items) 0) (sym c.as_slice-changes.ensures) ∙ sym c.is_empty.ensures ∙ c.if-is_empty.true)

pub apply_over-requires : goal.apply_over-requires
apply_over-requires c = subst (λ (l : List Change). IfSome c.args.ahead (λ next. next ≡ after_all c.args.tables.now l)) (sym c.as_slice-changes.ensures) c.requires

pub returns : goal.returns
returns c = subst (λ (l : List Change). OnOk c.apply_over.result (c.apply_over.new.self ≡ after_all c.args.tables.now l)) c.as_slice-changes.ensures c.apply_over.ensures.ok
