use Rattle.std.proofs.Common.{List, subst}
use Rattle.std.proofs.lemmas.List.{take_all}
use Rattle.vf_filestore.specs.HoldersOfRows.{HoldsRows}
use Rattle.vf_tables.specs.declared.docket.Docket.{Docket}
use Rattle.vf_responder.proofs.OpeningLemmas.{row-held, rows-hold}
use Rattle.vf_responder.proofs.opening.holders_of.Goals as goal

pub loop-docket-preserved : goal.loop-docket-preserved
loop-docket-preserved c = λ state begins.
    row-held c.args.tables.now state c.as_slice-docket-items.result.now c.loop-docket.docket-index c.docket-item.result c.loop-docket.locks c.hold.new.locks
    c.as_slice-docket-items.ensures c.loop-docket-test.true c.docket-item.is begins (c.loop-docket.invariant state begins) c.in_ok-hold.ensures

pub returns : goal.returns
returns c = λ state begins.
    let rows = c.as_slice-docket-items.result.now in
    rows-hold c.args.tables.now state rows c.loop-docket.locks c.as_slice-docket-items.ensures begins
    (subst (λ (all : List Docket). HoldsRows c.loop-docket.locks all) (take_all c.loop-docket.docket-index rows c.loop-docket-test.false) (c.loop-docket.invariant state begins))
