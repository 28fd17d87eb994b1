-- Which tables an image of a disk represents (profile): it is a journal, each of its records is of the grammar, and the
-- changes of the records, made one after another, lead to the tables from those of a filestore that is just made.
use Rattle.std.specs.Prelude.{◌≡◌, ◌⊎◌, ℕ, List, [], ◌∷◌, fold, Option, None, Some, IsSome, option_and_then, unwrap_or}
use Rattle.std.specs.Option.{option_map}
use Rattle.vf_journal.specs.Image.{Holds, refusal}
use Rattle.vf_store_record.specs.Records.{changes_of}
use Rattle.vf_tables.specs.Entries.{no_tables}
use Rattle.vf_tables.specs.Making.{made_of}
use Rattle.vf_tables.specs.declared.tables.Tables.{Tables}

-- The tables after a record, where it is of the grammar: the octets are the record of changes that fit the tables before
-- it and leave valid ones.
unfoldable pub after_record : Tables → List ℕ → Option Tables
after_record tables octets = option_and_then (made_of tables) (changes_of octets)

abbrev pub with_record : Option Tables → List ℕ → Option Tables
with_record None octets = None
with_record (Some tables) octets = after_record tables octets

-- the tables to which records lead, where each of them is of the grammar
abbrev pub made : List (List ℕ) → Option Tables
made records = fold with_record (Some no_tables) records

-- the tables to which records lead from some tables, before the first record that isn't of the grammar
abbrev pub read_from : List (List ℕ) → Tables → Tables
read_from [] tables = tables
read_from (octets ∷ records) tables = unwrap_or (option_map (read_from records) (after_record tables octets)) tables

pub record Represents (image : List ℕ) (tables : Tables) : Type 0 where
  pub records : List (List ℕ)
  pub holds : Holds image records
  pub making : made records ≡ Some tables

-- the one tables or the other
abbrev pub RepresentsEither : Tables → Tables → List ℕ → Type 0
RepresentsEither before after image = Represents image before ⊎ Represents image after

-- no store, or one of a filestore that is just made
abbrev pub IsNoneOrNew : List ℕ → Type 0
IsNoneOrNew image = IsSome (refusal image) ⊎ Represents image no_tables
