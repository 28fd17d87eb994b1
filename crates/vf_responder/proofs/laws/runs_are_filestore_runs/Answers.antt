use Rattle.vf_responder.proofs.FilestoreLemmas.{runs-lead}
use Rattle.vf_responder.proofs.laws.runs_are_filestore_runs.Goals as goal

pub returns : goal.returns
returns c = λ events serving sound. (runs-lead events serving sound).is
