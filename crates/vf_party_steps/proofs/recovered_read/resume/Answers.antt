use Rattle.std.proofs.Common.{refl}
use Rattle.vf_party_steps.specs.declared.due.Due.{Due}
use Rattle.vf_party_steps.proofs.recovered_read.resume.Goals as goal

pub returns-clause-says : goal.returns-clause-says
returns-clause-says c =
    let first : Due = record { said = c.in_ok-said.said; check = c.args.check; unacknowledged = 0; serial = c.from.result } in
    record {
      first = first;
      said = c.in_ok-said.ensures;
      checked = refl;
      unanswered = refl;
      numbered = c.from.ensures;
      says = c.in_ok-shown.ensures;
    }
