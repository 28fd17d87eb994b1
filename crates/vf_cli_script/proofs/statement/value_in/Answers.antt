use Rattle.std.proofs.Common.{Err, subst}
use Rattle.vf_ber.specs.Reading.{IsReading, Read, Short}
use Rattle.vf_ber.specs.Results.{IsAnswer}
use Rattle.vf_ber.specs.Views.{tree_of}
use Rattle.vf_ber.specs.declared.errors.BerError.{BerError}
use Rattle.vf_cli_script.proofs.Messages.{is_reading, no_value}
use Rattle.vf_cli_script.proofs.statement.value_in.Goals as goal

pub returns-in-Ok-clause-value : goal.returns-in-Ok-clause-value
returns-in-Ok-clause-value c =
    is_reading c.octets_have_a_reading.ensures c.octets_have_one_reading.ensures c.args.octets.now (Read (tree_of c.in-Ok.read.0) c.in-Ok.read.1) c.in-Ok.ensures

pub returns-in-Err-Short-clause-value : goal.returns-in-Err-Short-clause-value
returns-in-Err-Short-clause-value c =
    let octets = c.args.octets.now in
    let short : IsReading octets Short = subst (λ (error : BerError). IsAnswer (Err error) octets) c.in-Err-Short.field-0-is c.in-Err-Short.ensures in
    no_value octets Short (is_reading c.octets_have_a_reading.ensures c.octets_have_one_reading.ensures octets Short short) tt
