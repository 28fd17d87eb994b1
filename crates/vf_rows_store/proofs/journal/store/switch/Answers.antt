use Rattle.std.proofs.Common.{◌≡◌, ◌+◌, ◌≤◌, ℕ, Some, length, sym, ◌∙◌, ap, subst, arith}
use Rattle.vf_journal.specs.declared.placing.Placing.{Placing}
use Rattle.vf_journal.specs.JournalState.{new_start, placing}
use Rattle.vf_journal.proofs.Lengths.{length-area_with}
use Rattle.vf_journal.proofs.Planned.{planned}
use Rattle.vf_rows_store.proofs.journal.store.switch.Goals as goal

pub prepare-requires-clause-planned : goal.prepare-requires-clause-planned
prepare-requires-clause-planned g c =
    let journal = c.args.journal.now in
    let count = length c.args.item.now in
    let size : length c.in_ok-area.area.items ≡ count + 6 = ap length c.in_ok-area.ensures.octets ∙ length-area_with c.args.item.now in
    let chosen : (placing journal 10 count).switch ≡ Some c.in-Some._start = ap (λ (p : Placing). p.switch) (sym c.plan-placing.ensures) ∙ c.in-Some.is in
    let fitting = planned journal 10 count c.in-Some._start chosen in
    let within : new_start journal (count + 6) + (count + 6) ≤ journal.limit = omega (arith, fitting.fits, fitting.place) in
    subst (λ (n : ℕ). new_start journal n + n ≤ journal.limit) (sym size) within
