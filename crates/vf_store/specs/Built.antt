-- What a commit makes before its first call of the disk, as the code keeps it.
use Rattle.std.specs.Prelude.{◌≡◌, ℕ, List, Option}
use Rattle.std.specs.Option.{option_map}
use Rattle.vf_journal.specs.JournalState.{JournalState}
use Rattle.vf_journal.specs.Records.{entry_of}
use Rattle.vf_store_record.specs.Records.{record_of}
use Rattle.vf_tables.specs.declared.change.Change.{Change}
use Rattle.vf_tables.specs.declared.tables.Tables.{Tables}
use Rattle.vf_store.specs.declared.commit.Built.{Built}
use Rattle.vf_store.specs.Commit.{Leads, area_planned, placed}

abbrev pub area_in : Built → Option (List ℕ)
area_in built = option_map (λ octets. octets.items) built.area

-- it is what the changes of the tables are to write
pub record IsBuilt (journal : JournalState) (tables : Tables) (changes : List Change) (built : Built) : Type 0 where
  pub area : area_in built ≡ area_planned tables (placed journal tables changes).switch
  pub entry : built.entry.items ≡ entry_of (record_of changes)
  pub end : built.end ≡ (placed journal tables changes).end

abbrev pub LeadsOn : Built → Tables → Tables → Type 0
LeadsOn built before after = Leads (area_in built) built.entry.items before after
