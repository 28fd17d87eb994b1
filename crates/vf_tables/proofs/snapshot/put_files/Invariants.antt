use Rattle.std.proofs.Common.{◌≡◌, ◌++◌, map, take}
use Rattle.vf_attr.specs.declared.file.File.{File}
use Rattle.vf_tables.specs.declared.change.Change.TheVariants.{PutFile}
use Rattle.vf_tables.proofs.snapshot.put_files.Given as goal

abbrev pub invariant-loop-file : goal.invariant-loop-file
invariant-loop-file l = l.changes ≡ l.initial.changes ++ map (λ (file : File). PutFile file) (take l.file-index l.files)
