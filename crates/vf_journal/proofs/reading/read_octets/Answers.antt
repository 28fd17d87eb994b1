use Rattle.std.proofs.Common.{Err, false, ◌∙◌, arith}
use Rattle.std.proofs.lemmas.Result.{err_from_is_err_and}
use Rattle.vf_journal.specs.Answers.{is_fault}
use Rattle.vf_journal.proofs.Looks.{looked_then}
use Rattle.vf_journal.proofs.Parts.{part_goes_on}
use Rattle.vf_journal.proofs.reading.read_octets.Goals as goal

pub returns-in_err-append_part-clause-looks : goal.returns-in_err-append_part-clause-looks
returns-in_err-append_part-clause-looks g c =
    let p = err_from_is_err_and c.from_residual.result c.from_residual.ensures.1 in
    rw (p.1, p.2) (looked_then g.D.Disk.shown g.D.Disk.size g.D.Disk.may_leave g.D.Disk.moment g.D.Disk.left_since g.D.Disk.plan g.D.Disk.state g.D.Disk.lack_count c.args.disk.now c.loop-disk.disk c.append_part.new.disk (is_fault {T = Unit {0}} (Err c.in_err-append_part.field-0.0)) c.loop-disk.invariant.looked c.in_err-append_part.ensures.looks)

pub loop-disk-preserved : goal.loop-disk-preserved
loop-disk-preserved g c =
    let inv = c.loop-disk.invariant in
    record {
      octets = λ image shows. part_goes_on image c.args.at c.loop-disk.octets.items c.append_part.new.octets.items (inv.octets image shows) (c.in_ok-append_part.ensures.octets image (inv.looked.same ∙ shows));
      bound = c.in_ok-append_part.ensures.bound;
      looked = looked_then g.D.Disk.shown g.D.Disk.size g.D.Disk.may_leave g.D.Disk.moment g.D.Disk.left_since g.D.Disk.plan g.D.Disk.state g.D.Disk.lack_count c.args.disk.now c.loop-disk.disk c.append_part.new.disk false inv.looked c.in_ok-append_part.ensures.looks;
      faults = c.in_ok-append_part.ensures.causes ∙ inv.faults;
      block = omega (arith, inv.block, c.append_part.auto.block);
    }
