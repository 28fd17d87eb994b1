use Rattle.std.proofs.Common.{◌-◌, [], ◌++◌, drop, length-append, length-drop, true, false, Err, length, arith, ◌∙◌}
use Rattle.std.proofs.lemmas.List.{length-take}
use Rattle.std.proofs.lemmas.Result.{err_from_is_err_and}
use Rattle.vf_journal.specs.Answers.{is_fault}
use Rattle.vf_journal.specs.Reading.{StandsFrom}
use Rattle.vf_journal.specs.JournalState.{area_of}
use Rattle.vf_journal.proofs.Looks.{looked_then}
use Rattle.vf_journal.proofs.Takings.{area_more, falls, prefix_kept, takes_grow, takes_placed, when_more}
use Rattle.vf_journal.proofs.reading.read_area.Goals as goal

pub returns-in_err-found-clause-kept : goal.returns-in_err-found-clause-kept
returns-in_err-found-clause-kept g c =
    let p = err_from_is_err_and c.from_residual-in_err-found.result c.from_residual-in_err-found.ensures.1 in
    let taken = c.loop-more.invariant.taken in
    rw p.1 (prefix_kept c.args.records.now.items c.loop-more.records.items c.take_more.new.records.items taken.taken taken.records c.in_err-found.ensures.kept)

pub returns-in_err-found-clause-looks : goal.returns-in_err-found-clause-looks
returns-in_err-found-clause-looks g c =
    let p = err_from_is_err_and c.from_residual-in_err-found.result c.from_residual-in_err-found.ensures.1 in
    rw (p.1, p.2) (looked_then g.D.Disk.shown g.D.Disk.size g.D.Disk.may_leave g.D.Disk.moment g.D.Disk.left_since g.D.Disk.plan g.D.Disk.state g.D.Disk.lack_count c.args.disk.now c.loop-more.disk c.take_more.new.disk (is_fault {T = Unit {0}} (Err c.in_err-found.field-0.0)) c.loop-more.invariant.looked c.in_err-found.ensures.looks)

pub loop-more-smaller : goal.loop-more-smaller
loop-more-smaller g c =
    let grow = takes_grow (StandsFrom (g.D.Disk.shown c.loop-more.disk) (c.loop-more.area.end - 1)) (c.args.length - (c.loop-more.area.end - 1)) c.loop-more.records.items c.take_more.new.records.items c.loop-more.area c.in_ok-found.found c.in_ok-found.goes_on c.in_ok-found.ensures.taken in
    falls c.args.length c.loop-more.area.end c.in_ok-found.found.end c.loop-more.more c.in_ok-found.goes_on c.loop-more-test.true c.loop-more.invariant.end (omega (arith, grow, c.in_ok-found.ensures.taken.bound)) (omega (arith, grow)) c.in_ok-found.ensures.goes_on

pub loop-more-preserved : goal.loop-more-preserved
loop-more-preserved g c =
    let taken = c.in_ok-found.ensures.taken in
    let inv = c.loop-more.invariant in
    let grow = takes_grow (StandsFrom (g.D.Disk.shown c.loop-more.disk) (c.loop-more.area.end - 1)) (c.args.length - (c.loop-more.area.end - 1)) c.loop-more.records.items c.take_more.new.records.items c.loop-more.area c.in_ok-found.found c.in_ok-found.goes_on taken in
    record {
      taken = area_more (g.D.Disk.shown c.args.disk.now) (g.D.Disk.shown c.loop-more.disk) inv.looked.same c.args.start c.args.length c.requires.within c.args.records.now.items c.loop-more.records.items c.take_more.new.records.items c.loop-more.area c.in_ok-found.found c.in_ok-found.goes_on
          (when_more (StandsFrom (g.D.Disk.shown c.args.disk.now) c.args.start) (c.args.length - c.args.start) c.args.records.now.items c.loop-more.records.items (area_of c.args.start []) c.loop-more.area c.loop-more.more true c.loop-more-test.true inv.taken) taken;
      placed = takes_placed (StandsFrom (g.D.Disk.shown c.loop-more.disk) (c.loop-more.area.end - 1)) (c.args.length - (c.loop-more.area.end - 1)) c.loop-more.records.items c.take_more.new.records.items c.loop-more.area c.in_ok-found.found c.in_ok-found.goes_on taken inv.placed (omega arith);
      end = omega (arith, grow, taken.bound);
      looked = looked_then g.D.Disk.shown g.D.Disk.size g.D.Disk.may_leave g.D.Disk.moment g.D.Disk.left_since g.D.Disk.plan g.D.Disk.state g.D.Disk.lack_count c.args.disk.now c.loop-more.disk c.take_more.new.disk false inv.looked c.in_ok-found.ensures.looks;
      faults = c.in_ok-found.ensures.causes ∙ inv.faults;
      block = omega (arith, inv.block, length-take c.loop-more.block.len (c.take_more.new.block ++ drop (length c.take_more.new.block) c.loop-more.block.items), length-append c.take_more.new.block (drop (length c.take_more.new.block) c.loop-more.block.items), length-drop (length c.take_more.new.block) c.loop-more.block.items);
    }
