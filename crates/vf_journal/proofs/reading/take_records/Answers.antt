use Rattle.std.proofs.Common.{List, ℕ, drop, ap, ◌∙◌}
use Rattle.std.proofs.lemmas.List.{drop-take}
use Rattle.vf_journal.proofs.Takings.{taking_ends, taking_inside, taking_more}
use Rattle.vf_journal.proofs.reading.take_records.Goals as goal

pub returns-in-End-clause-taken : goal.returns-in-End-clause-taken
returns-in-End-clause-taken c =
    taking_ends c.args.block.now c.args.left c.args.area c.args.records.now.items c.loop-count.rest.now c.loop-count.left c.loop-count.area c.loop-count.records.items c.loop-count.invariant c.in-End.ensures.beginning

pub loop-count-preserved : goal.loop-count-preserved
loop-count-preserved c =
    let size = c.in-Record.count in
    let cut = c.split_at-in-Record.ensures.back ∙ ap (λ (l : List ℕ). drop 5 l) c.split_at.ensures.front ∙ drop-take 5 size c.loop-count.rest.now in
    taking_more c.args.block.now c.args.left c.args.area c.args.records.now.items c.loop-count.rest.now c.loop-count.left c.loop-count.area c.loop-count.records.items c.loop-count.invariant size c.in_ok-octets-in-Record.octets c.push.new.self.items c.with-area.result c.split_at.result.1.now
    c.in-Record.ensures.whole (c.in_ok-octets-in-Record.ensures ∙ cut) c.in_ok-push-in-Record.ensures.items c.with-area.ensures c.split_at.ensures.back c.in-Record.ensures.beginning

pub returns-in-End-clause-inside : goal.returns-in-End-clause-inside
returns-in-End-clause-inside c =
    taking_inside c.args.block.now c.args.left c.args.area c.args.records.now.items c.loop-count.rest.now c.loop-count.left c.loop-count.area c.loop-count.records.items c.loop-count.invariant

pub returns-in-Cut-clause-inside : goal.returns-in-Cut-clause-inside
returns-in-Cut-clause-inside c =
    taking_inside c.args.block.now c.args.left c.args.area c.args.records.now.items c.loop-count.rest.now c.loop-count.left c.loop-count.area c.loop-count.records.items c.loop-count.invariant
