-- Laws of tables that are kept.
use Rattle.std.specs.Prelude.{◌≡◌, true, List}
use Rattle.vf_tables.specs.declared.change.Change.{Change}
use Rattle.vf_tables.specs.declared.tables.Tables.{Tables}
use Rattle.vf_tables.specs.Changes.{after_all}
use Rattle.vf_tables.specs.Entries.{no_tables}
use Rattle.vf_tables.specs.Fitting.{all_fit}
use Rattle.vf_tables.specs.Snapshot.{is_kept, snapshot}
use Rattle.vf_tables.specs.Validity.{is_valid}

-- tables that are kept lead to such ones, by changes that fit and leave valid tables
abbrev pub KeptStay : Type 0
KeptStay =
    (tables : Tables) (changes : List Change) → is_kept tables ≡ true → all_fit tables changes ≡ true → is_valid (after_all tables changes) ≡ true
    → is_kept (after_all tables changes) ≡ true

-- a snapshot makes its tables of those of a filestore that is just made, and each of its changes fits
abbrev pub SnapshotMakes : Type 0
SnapshotMakes = (tables : Tables) → is_kept tables ≡ true → (all_fit no_tables (snapshot tables) ≡ true) × (after_all no_tables (snapshot tables) ≡ tables)
