use Rattle.vf_store.specs.Built.{area_in}
use Rattle.vf_store.specs.declared.commit.Built.{Built}
use Rattle.vf_store.proofs.Committing.{leads, some_mapped}
use Rattle.vf_store.proofs.Kept.{fit_in_range, kept_in_range, made_kept}
use Rattle.vf_store.proofs.commit.build.Goals as goal

pub returns-clause-leads : goal.returns-clause-leads
returns-clause-leads c = λ records making fitting.
    let tables = c.args.tables.now in
    let changes = c.args.changes.now in
    let kept = made_kept c.kept_stay.ensures records tables making in
    let built : Built = record { area = c.in_ok-area.area; entry = c.in_ok-entry.entry; end = c.in_ok-area.end } in
    leads c.snapshot_makes.ensures tables changes _ (area_in built) c.in_ok-entry.entry.items kept fitting
    c.in_ok-area.ensures.area c.in_ok-entry.ensures.octets
    (some_mapped _ c.in_ok-area.area _ (c.in_ok-area.ensures.read (kept_in_range tables kept))) (c.in_ok-entry.ensures.read (fit_in_range changes tables fitting.each))
