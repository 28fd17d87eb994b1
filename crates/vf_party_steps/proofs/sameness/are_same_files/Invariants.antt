use Rattle.std.proofs.Common.{◌≡◌, drop}
use Rattle.std.specs.Cmp.Lexicographic.{pointwise}
use Rattle.vf_filestore.specs.Changes.{is_same_file}
use Rattle.vf_party_steps.proofs.sameness.are_same_files.Given as goal

-- the files so far are equal
abbrev pub invariant-loop-place : goal.invariant-loop-place
invariant-loop-place l = pointwise is_same_file l.files l.others ≡ pointwise is_same_file (drop l.place l.files) (drop l.place l.others)
