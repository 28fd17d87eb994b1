use Rattle.std.proofs.Common.{◌≡◌, ◌++◌, take}
use Rattle.std.specs.List.{flat_map}
use Rattle.vf_store_commands.specs.Dockets.{docket_line}
use Rattle.vf_store_commands.proofs.docket_lines.append_dockets.Given as goal

abbrev pub invariant-loop-docket : goal.invariant-loop-docket
invariant-loop-docket l = l.text.items ≡ l.initial.text.items ++ flat_map docket_line (take l.docket-index l.dockets)
