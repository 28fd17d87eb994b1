use Rattle.std.proofs.Common.{◌≡◌, ◌++◌, take}
use Rattle.vf_session_spdu.proofs.WriteLemmas.{written}
use Rattle.vf_session_spdu.proofs.writing.put_rows.Given as goal

abbrev pub invariant-loop-row : goal.invariant-loop-row
invariant-loop-row l = l.out.items ≡ l.fn.out.items ++ written l.spdu l.group (take l.row-index l.rows)
