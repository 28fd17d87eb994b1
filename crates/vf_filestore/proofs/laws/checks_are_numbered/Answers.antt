use Rattle.vf_filestore.proofs.CheckNumbers.{answers_numbered, checks_numbered}
use Rattle.vf_filestore.proofs.laws.checks_are_numbered.Goals as goal

pub returns : goal.returns
returns c = record { checks = checks_numbered; answers = answers_numbered }
