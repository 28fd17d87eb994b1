use Rattle.vf_filestore.proofs.Counts.{answers_count, breaks_count}
use Rattle.vf_filestore.proofs.Others.{arrivals_count, arrivals_stand, breaks_leave_none}
use Rattle.vf_filestore.proofs.laws.parties_count.Goals as goal

pub returns : goal.returns
returns c = record { gone = breaks_leave_none; arrived = arrivals_stand; answers = answers_count; breaks = breaks_count; arrivals = arrivals_count }
