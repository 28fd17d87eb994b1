use Rattle.std.proofs.Common.{refl}
use Rattle.vf_journal.specs.Image.{refusal}
use Rattle.vf_cli.proofs.Completes.{generate_nine}
use Rattle.vf_cli.proofs.top.draw.Goals as goal

pub returns-in-None-clause-completes : goal.returns-in-None-clause-completes
returns-in-None-clause-completes g c = λ octets shows out disk. generate_nine (refusal octets) 9 refl
