use Rattle.std.proofs.Common.{◌-◌, arith, ap, sym, ◌∙◌}
use Rattle.vf_journal.specs.JournalState.{with_record}
use Rattle.vf_journal.proofs.Takings.{alone_none, alone_some}
use Rattle.vf_journal.proofs.reading.take_cut.Goals as goal

pub returns-in_default-clause-taken : goal.returns-in_default-clause-taken
returns-in_default-clause-taken g c =
    alone_none (g.D.Disk.shown c.args.disk.now) (c.args.area.end - 1) (c.args.length - (c.args.area.end - 1)) c.args.area c.args.records.now.items (omega arith)
    (λ image shows. sym c.in_default.is ∙ c.in_ok-record.ensures.found image shows)

pub returns-clause-taken : goal.returns-clause-taken
returns-clause-taken g c =
    let bound = rw c.in-Some.is at c.in_ok-record.ensures.bound in
    alone_some (g.D.Disk.shown c.args.disk.now) (c.args.area.end - 1) (c.args.length - (c.args.area.end - 1)) c.args.area c.args.records.now.items c.in-Some.record c.push.new.self.items c.with.result
    (omega (arith, bound)) c.in_ok-push.ensures.items (c.with.ensures ∙ ap (λ n. with_record c.args.area n) c.len-count.ensures)
    (λ image shows. sym c.in-Some.is ∙ c.in_ok-record.ensures.found image shows)
