use Rattle.std.proofs.Common.{refl}
use Rattle.vf_tpkt.specs.Receiving.{receiving_in}
use Rattle.vf_tpkt.specs.Parameters.{sizes_in}
use Rattle.vf_tpkt.proofs.laws.ends_connect.Goals as goal

pub returns-clause-called : goal.returns-clause-called
unfolding receiving_in sizes_in
returns-clause-called c = refl

pub returns-clause-calling : goal.returns-clause-calling
unfolding receiving_in sizes_in
returns-clause-calling c = refl
