use Rattle.vf_store_record.proofs.Again.{moved}
use Rattle.vf_store_record.specs.Writing.{AreUnits}
use Rattle.vf_store_record.proofs.Contained.{file_writes}
use Rattle.vf_store_record.proofs.writing.contents.put_file.Goals as goal

pub returns : goal.returns
returns c =
    file_writes c.args.file.now c.units.ensures.within c.in_ok-put_name.ensures c.in_ok-put_attributes_of.ensures
    (moved (AreUnits c.args.file.now.contents) c.units.ensures.units c.in_ok-put_units.ensures)
