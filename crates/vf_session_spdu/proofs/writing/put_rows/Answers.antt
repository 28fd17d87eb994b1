use Rattle.std.proofs.Common.{◌≡◌, nat_eq, true, false, get_or, arith}
use Rattle.std.proofs.lemmas.Bool.Decides.{nat_tests}
use Rattle.vf_session_spdu.specs.declared.table.Form.TheVariants.{Fixed}
use Rattle.vf_session_spdu.specs.declared.table.Row.{Row}
use Rattle.vf_session_spdu.proofs.WriteLemmas.{row-short}
use Rattle.vf_session_spdu.proofs.writing.put_rows.Goals as goal

pub put_row-requires : goal.put_row-requires
put_row-requires c =
    let d : Row = record { group = 0; code = 0; form = Fixed 0; required = false } in
    let test : nat_eq (get_or c.args.rows.now c.loop-row.row-index d).group c.args.group ≡ true = grind (arith, nat_tests) in
    let short = row-short c.args.spdu.now c.args.group c.args.rows.now c.loop-row.row-index d c.loop-row-test.true test in
    omega (arith, c.requires)
