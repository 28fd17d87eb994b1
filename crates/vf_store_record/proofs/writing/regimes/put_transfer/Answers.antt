use Rattle.vf_store_record.specs.Entries.{transfer, transfer_of, transfer_parts}
use Rattle.vf_store_record.proofs.Again.{both_writes, made_writes, same_value}
use Rattle.vf_store_record.proofs.Codes.{transfer_known}
use Rattle.vf_store_record.specs.declared.regimes.Transfer.{Transfer}
use Rattle.vf_store_record.proofs.writing.regimes.put_transfer.Goals as goal

pub returns : goal.returns
unfolding transfer
returns c =
    let value : Transfer = record { direction = c.args.regime.now.direction; fadu = c.args.regime.now.fadu } in
    made_writes transfer_of transfer_parts value (λ q. (tt, (q, tt))) (λ q. transfer_known value)
    (both_writes (same_value c.direction_number.ensures c.in_ok-put_octet.ensures) (both_writes c.in_ok-put_fadu.ensures (same_value c.method_number.ensures c.in_ok-put_octet-2.ensures)))
