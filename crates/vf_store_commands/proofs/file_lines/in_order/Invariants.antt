use Rattle.std.proofs.Common.{◌≡◌, map, take}
use Rattle.vf_store_commands.proofs.file_lines.in_order.Given as goal

abbrev pub invariant-loop-file : goal.invariant-loop-file
invariant-loop-file l = map (λ file. file.now) l.sorted.items ≡ take l.file-index l.files
