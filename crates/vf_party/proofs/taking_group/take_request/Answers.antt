use Rattle.std.proofs.Common.{◌≤◌, ◌<◌, ℕ, nat_eq, length, ap, sym, subst, ◌∙◌}
use Rattle.vf_elements.specs.declared.message.Message.TheVariants as messages
use Rattle.vf_party.specs.Settings.{setting_of}
use Rattle.vf_party.proofs.GroupEnds.{le_true, lt_false}
use Rattle.vf_party.specs.GroupTurns.{IsGroupTurn}
use Rattle.vf_pdu.specs.declared.pdu.Pdu.{Pdu}
use Rattle.vf_party.proofs.GroupTurns.{added_turn, aborted_turn, end_request, full_decides, gone_decides, leaving_turn}
use Rattle.vf_party.proofs.taking_group.take_request.Goals as goal

pub returns-then-len-ge-MOST_ITEMS : goal.returns-then-len-ge-MOST_ITEMS
returns-then-len-ge-MOST_ITEMS c = λ state party stands is.
    let grouping = c.args.grouping in
    let setting = setting_of c.args.setting in
    let full = le_true 16 (length grouping.items) (subst (λ (n : ℕ). 16 ≤ n) c.len.ensures c.if-len-ge-MOST_ITEMS.true) in
    aborted_turn c.args.tables.now c.args.locks.now c.aborted_at.new.locks grouping setting (messages.Pdu c.args.request) state party stands is c.aborted_at.result
    (full_decides c.args.tables.now c.args.locks.now grouping setting c.args.request state party stands is c.requires (sym c.is_item-is_item.ensures ∙ c.if-is_item.true) full) c.aborted_at.ensures

pub returns-then-is_item : goal.returns-then-is_item
returns-then-is_item c = λ state party stands is.
    let grouping = c.args.grouping in
    let fits = lt_false 16 (length grouping.items) (subst (λ (n : ℕ). n < 16) c.len.ensures c.if-len-ge-MOST_ITEMS.false) in
    added_turn c.args.tables.now c.args.locks.now grouping (setting_of c.args.setting) c.args.request state party stands is c.requires c.added.result
    (sym c.is_item-is_item.ensures ∙ c.if-is_item.true) fits c.added.ensures

pub returns-then-number-eq24 : goal.returns-then-number-eq24
returns-then-number-eq24 c =
    subst (λ (one : Pdu). IsGroupTurn c.args.tables.now c.args.locks.now c.take_end.new.locks c.args.grouping (setting_of c.args.setting) (messages.Pdu one) c.take_end.result)
    (sym (end_request c.args.request (ap (λ (n : ℕ). nat_eq n 24) (sym c.number-number.ensures ∙ c.if-number-eq24.true)))) c.take_end.ensures

pub returns : goal.returns
returns c = λ state party stands is.
    let grouping = c.args.grouping in
    let setting = setting_of c.args.setting in
    leaving_turn c.args.tables.now c.args.locks.now c.ended.new.locks grouping setting (messages.Pdu c.args.request) state party stands is c.ended.result
    (gone_decides c.args.tables.now c.args.locks.now grouping setting c.args.request state party stands is c.requires (sym c.is_item-is_item.ensures ∙ c.if-is_item.false) (λ e. c.if-number-eq24.false (c.number-number.ensures ∙ e)))
    (record { gone = c.ended.ensures.gone; says = c.ended.ensures.says ∙ c.new.ensures.items; differs = c.ended.ensures.differs; leaves = c.ended.ensures.leaves })
