use Rattle.vf_store_record.specs.Entries.{phase, phase_number, phase_of}
use Rattle.vf_store_record.proofs.Again.{made_writes, same_value}
use Rattle.vf_store_record.proofs.Codes.{phase_known}
use Rattle.vf_store_record.proofs.writing.plans.put_phase.Goals as goal

pub returns : goal.returns
unfolding phase
returns c = made_writes phase_of phase_number c.args.phase (λ q. q) (λ q. phase_known c.args.phase) (same_value c.phase_number.ensures c.in_ok-put_octet.ensures)
