use Rattle.std.proofs.Common.{◌≡◌, Err, length, sym, subst, ℕ, ◌∙◌, arith}
use Rattle.std.proofs.lemmas.Result.{err_from_is_err_and}
use Rattle.std.proofs.lemmas.Grind.{common_steps}
use Rattle.vf_journal.specs.Answers.{HeadCauses, is_fault}
use Rattle.vf_journal.proofs.Heads.{prefix_begins, not_fault}
use Rattle.vf_journal.proofs.head.read_head.Goals as goal

pub returns-in_err-head-clause-found : goal.returns-in_err-head-clause-found
returns-in_err-head-clause-found g c = λ image shows.
    let p = err_from_is_err_and c.from_residual-in_err-head.result c.from_residual-in_err-head.ensures.1 in
    let size : length c.read_at.new.into ≡ c.min-count.result = grind (arith, common_steps) in
    rw (p.1, p.2) (c.in_err-head.ensures.found image (prefix_begins image c.read_at.new.into _ _ c.min-count.result (c.in_ok-read_at.ensures.octets image shows) size, g.met.D.Disk.measured c.args.disk.now image shows ∙ sym c.requires))

pub returns-in_err-head-clause-looks : goal.returns-in_err-head-clause-looks
returns-in_err-head-clause-looks g c =
    let p = err_from_is_err_and c.from_residual-in_err-head.result c.from_residual-in_err-head.ensures.1 in
    let fault : is_fault {T = Unit {0}} (Err c.in_err-head.field-0.0) ≡ _ = not_fault c.in_err-head.field-0.0 c.in_err-head.ensures.causes in
    rw (p.1, p.2) (rw fault c.in_ok-read_at.ensures.looks)

pub returns-in_err-head-clause-causes : goal.returns-in_err-head-clause-causes
returns-in_err-head-clause-causes g c =
    let p = err_from_is_err_and c.from_residual-in_err-head.result c.from_residual-in_err-head.ensures.1 in
    rw (p.1, p.2) (subst (λ (n : ℕ). HeadCauses {T = Unit {0}} (g.D.Disk.fault_count c.args.disk.now) n (Err c.in_err-head.field-0.0)) (sym c.in_ok-read_at.ensures.ok) (c.in_err-head.ensures.causes (g.D.Disk.fault_count c.args.disk.now)))
