use Rattle.std.proofs.Common.{◌≡◌, drop}
use Rattle.vf_tables.specs.Entries.{no_tables}
use Rattle.vf_store.specs.Represented.{read_from}
use Rattle.vf_store.proofs.reading.tables_of.Given as goal

abbrev pub invariant-loop-record : goal.invariant-loop-record
invariant-loop-record l = read_from (drop l.record-index l.records) l.tables ≡ read_from l.records no_tables
