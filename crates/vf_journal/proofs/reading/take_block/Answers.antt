use Rattle.std.proofs.Common.{◌-◌, true, arith, refl, sym, ◌∙◌}
use Rattle.std.proofs.lemmas.Result.{err_from_is_err_and}
use Rattle.vf_journal.specs.Reading.{BeginsWith, StandsFrom}
use Rattle.vf_journal.proofs.Parts.{begins_on}
use Rattle.vf_journal.proofs.Takings.{block_more, prefix_kept, takes_grow, takes_placed, takes_stands, when_more}
use Rattle.vf_journal.proofs.reading.take_block.Goals as goal

pub overflow_sub-from : goal.overflow_sub-from
overflow_sub-from g c =
    let place = c.args.area.end - 1 in
    let grow = takes_grow (BeginsWith c.args.block.now (c.args.length - place)) (c.args.length - place) c.args.records.now.items c.take_records.new.records.items c.args.area c.in_ok-found.found c.in_ok-found.more c.in_ok-found.ensures.taken in
    omega (arith, grow)

pub take_cut-requires-clause-begins : goal.take_cut-requires-clause-begins
take_cut-requires-clause-begins g c = λ image shows.
    let place = c.args.area.end - 1 in
    let grow = takes_grow (BeginsWith c.args.block.now (c.args.length - place)) (c.args.length - place) c.args.records.now.items c.take_records.new.records.items c.args.area c.in_ok-found.found c.in_ok-found.more c.in_ok-found.ensures.taken in
    begins_on image c.args.block.now place (c.in_ok-found.found.end - c.args.area.end) (c.in_ok-found.found.end - 1) (c.requires.begins image shows) (omega (arith, grow, c.in_ok-found.ensures.inside)) (omega (arith, grow, c.requires.placed.order))

pub take_cut-requires-clause-placed : goal.take_cut-requires-clause-placed
take_cut-requires-clause-placed g c =
    let place = c.args.area.end - 1 in
    takes_placed (BeginsWith c.args.block.now (c.args.length - place)) (c.args.length - place) c.args.records.now.items c.take_records.new.records.items c.args.area c.in_ok-found.found c.in_ok-found.more c.in_ok-found.ensures.taken c.requires.placed (omega arith)

pub returns-clause-taken : goal.returns-clause-taken
returns-clause-taken g c =
    let place = c.args.area.end - 1 in
    let first = takes_stands (g.D.Disk.shown c.args.disk.now) c.args.length place c.args.block.now (λ image shows. g.met.D.Disk.measured c.args.disk.now image shows ∙ sym c.requires.length) c.requires.begins c.args.records.now.items c.take_records.new.records.items c.args.area c.in_ok-found.found c.in_ok-found.more c.in_ok-found.ensures.taken in
    block_more (g.D.Disk.shown c.args.disk.now) (g.D.Disk.shown c.args.disk.now) refl c.args.length c.args.records.now.items c.take_records.new.records.items c.take_cut.new.records.items c.args.area c.in_ok-found.found c.in_ok-found-2.found c.in_ok-found-2.more (omega (arith, c.requires.placed.order))
    (when_more (StandsFrom (g.D.Disk.shown c.args.disk.now) place) (c.args.length - place) c.args.records.now.items c.take_records.new.records.items c.args.area c.in_ok-found.found c.in_ok-found.more true c.if-not-more.false first) c.in_ok-found-2.ensures.taken

pub returns-clause-goes_on : goal.returns-clause-goes_on
returns-clause-goes_on g c = λ more.
    let place = c.args.area.end - 1 in
    let grow = takes_grow (BeginsWith c.args.block.now (c.args.length - place)) (c.args.length - place) c.args.records.now.items c.take_records.new.records.items c.args.area c.in_ok-found.found c.in_ok-found.more c.in_ok-found.ensures.taken in
    omega (arith, grow, c.in_ok-found-2.ensures.goes_on more)

pub returns-in_err-found-2-clause-kept : goal.returns-in_err-found-2-clause-kept
returns-in_err-found-2-clause-kept g c =
    let p = err_from_is_err_and c.from_residual-in_err-found-2.result c.from_residual-in_err-found-2.ensures.1 in
    let taken = c.in_ok-found.ensures.taken in
    rw p.1 (prefix_kept c.args.records.now.items c.take_records.new.records.items c.take_cut.new.records.items taken.taken taken.records c.in_err-found-2.ensures.kept)
