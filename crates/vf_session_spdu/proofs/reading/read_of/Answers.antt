use Rattle.std.proofs.Common.{sym, ◌∙◌}
use Rattle.vf_session_spdu.proofs.FaultLemmas.{none-shown, fault-shown}
use Rattle.vf_session_spdu.proofs.HoldsLemmas.{octets-are, reading-held, held-reading, fails-held}
use Rattle.vf_session_spdu.proofs.ReadableLemmas.{reading-readable}
use Rattle.vf_session_spdu.proofs.reading.read_of.Goals as goal

pub returns-in-Ok-clause-held : goal.returns-in-Ok-clause-held
returns-in-Ok-clause-held c = reading-held c.args.tsdu.now c.in-Ok.spdus.items (octets-are c.args.tsdu.now c.type_inv.tsdu) c.in-Ok.ensures

pub returns-in-Ok-clause-told : goal.returns-in-Ok-clause-told
returns-in-Ok-clause-told c held h = sym (held-reading c.args.tsdu.now held h) ∙ c.in-Ok.ensures

pub returns-in-Ok-clause-readable : goal.returns-in-Ok-clause-readable
returns-in-Ok-clause-readable c = reading-readable c.args.tsdu.now c.in-Ok.spdus.items c.in-Ok.ensures

pub returns-in-Err-clause-told : goal.returns-in-Err-clause-told
returns-in-Err-clause-told c held h = fails-held c.args.tsdu.now held c.in-Err.fault h c.in-Err.ensures

pub returns-in-Ok-clause-faulty : goal.returns-in-Ok-clause-faulty
returns-in-Ok-clause-faulty c = none-shown c.args.tsdu.now c.in-Ok.spdus.items c.in-Ok.ensures

pub returns-in-Err-clause-faulty : goal.returns-in-Err-clause-faulty
returns-in-Err-clause-faulty c = fault-shown c.args.tsdu.now c.in-Err.fault c.in-Err.ensures
