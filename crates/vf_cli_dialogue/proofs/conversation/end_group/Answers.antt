use Rattle.std.proofs.Common.{◌≡◌, ap, sym, subst, ◌∙◌}
use Rattle.std.specs.Prelude.{IfSome}
use Rattle.vf_filestore.specs.Transition.{transition}
use Rattle.vf_tables.specs.Changes.{after_all}
use Rattle.vf_tables.specs.declared.tables.Tables.{Tables}
use Rattle.vf_cli_dialogue.specs.declared.conversation.After.{After}
use Rattle.vf_cli_dialogue.specs.Conversation.{Makes}
use Rattle.vf_cli_dialogue.specs.Dialogue.{link, setting}
use Rattle.vf_cli_dialogue.proofs.TurnLemmas.{all_told, makes_abort, makes_rest}
use Rattle.vf_cli_dialogue.proofs.conversation.end_group.Goals as goal

pub keep_changes-requires : goal.keep_changes-requires
keep_changes-requires c =
    subst (λ (t : Tables). IfSome c.in_ok-answered.ahead (λ next. next ≡ after_all t c.in_ok-answered.answered.changes)) (sym c.in_ok-answered.ensures.tables) c.in_ok-answered.ensures.ahead

pub returns-then-branch : goal.returns-then-branch
returns-then-branch c = λ state holds.
    let filestore = c.answer_over.new.filestore in
    let answered = c.in_ok-answered.answered in
    makes_abort state c.args.filestore.now holds c.args.message c.requires.read filestore answered.goes answered.said.items c.as_slice.result.now answered.changes
    (c.in_ok-answered.ensures.answers state holds) c.as_slice.ensures.value c.args.replies.now.lines.items c.append_replies.new.replies.lines.items c.in_ok-append_replies.ensures.lines
    (record { party = filestore.party; tables = c.keep_changes.new.tables; locks = filestore.locks })
    c.in_ok-append_replies.field-0 c.in_ok-append_replies.ensures.abort c.if-branch.true

pub returns : goal.returns
returns c = λ state holds.
    let filestore = c.answer_over.new.filestore in
    let answered = c.in_ok-answered.answered in
    let old = c.args.replies.now.lines.items in
    let new = c.append_replies.new.replies.lines.items in
    let made = c.in_ok-keep_changes.ensures ∙ ap (λ (tables : Tables). after_all tables answered.changes) c.in_ok-answered.ensures.tables in
    subst (λ (rest : After). Makes (transition state link setting c.args.message) old new (record { party = filestore.party; tables = c.keep_changes.new.tables; locks = filestore.locks }) rest)
    (sym c.after_replies.ensures)
    (makes_rest state c.args.filestore.now holds c.args.message c.requires.read filestore answered.goes answered.said.items c.as_slice.result.now answered.changes
    (c.in_ok-answered.ensures.answers state holds) c.as_slice.ensures.value old new c.in_ok-append_replies.ensures.lines
    c.keep_changes.new.tables c.in_ok-append_replies.field-0 c.in_ok-append_replies.ensures.abort c.if-branch.false made)

pub append_replies-requires : goal.append_replies-requires
append_replies-requires c =
    let state = c.requires.stands.0 in
    let holds = c.requires.stands.1 in
    let filestore = c.answer_over.new.filestore in
    let answered = c.in_ok-answered.ensures.answers state holds in
    all_told state c.args.filestore.now holds c.args.message c.requires.read filestore.locks answered.outcome answered.taken c.as_slice.result.now (c.as_slice.ensures.value ∙ answered.says)
