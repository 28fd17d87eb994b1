use Rattle.std.proofs.Common.{◌≡◌, take}
use Rattle.vf_store_commands.specs.Listing.{file_lines}
use Rattle.vf_store_commands.proofs.Ordered.{behind}
use Rattle.vf_store_commands.proofs.file_lines.text_of_files.Given as goal

abbrev pub invariant-loop-file : goal.invariant-loop-file
invariant-loop-file l = l.text.items ≡ file_lines (behind (take l.file-index l.file-items))
