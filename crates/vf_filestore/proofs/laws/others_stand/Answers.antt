use Rattle.vf_filestore.proofs.Others.{answers_leave_others, arrivals_leave_others, breaks_leave_others}
use Rattle.vf_filestore.proofs.laws.others_stand.Goals as goal

pub returns : goal.returns
returns c = record { answers = answers_leave_others; breaks = breaks_leave_others; arrivals = arrivals_leave_others }
