-- How much a filestore keeps (profile).
use Rattle.std.specs.Prelude.{length, min}
use Rattle.vf_tables.specs.Sums.{octets_of_files}
use Rattle.vf_tables.specs.declared.tables.Tables.{Tables}
use Rattle.vf_store.specs.declared.counts.Counts.{Counts}

-- the lengths of the four lists, and the octets of all files, which stand still at their type's end
abbrev pub counts_of : Tables → Counts
counts_of tables = record {
  files = length tables.files;
  octets = min (octets_of_files tables.files) 18446744073709551615;
  dockets = length tables.dockets;
  tasks = length tables.tasks;
  users = length tables.users;
}
