-- What is built for a commit can be written, leads to the tables after it, and ends where it was planned.
use Rattle.std.proofs.Common.{◌≡◌, ℕ, ◌+◌, ◌≤◌, true, false, List, [], ◌∷◌, ◌++◌, length, take, drop, Option, None, Some, refl, sym, ◌∙◌, ap, arith}
use Rattle.std.specs.Prelude.{IfSome}
use Rattle.std.specs.Option.{option_map}
use Rattle.vf_journal.proofs.Lengths.{length-area_with, length-entry_of}
use Rattle.vf_journal.proofs.Planned.{planned, unplanned}
use Rattle.vf_journal.specs.JournalState.{JournalState, is_due, new_start, placing}
use Rattle.vf_journal.specs.Records.{IsArea, area_with, entry_of, longest}
use Rattle.vf_store_record.specs.Records.{changes_of, record_of}
use Rattle.vf_tables.specs.Changes.{after_all}
use Rattle.vf_tables.specs.Laws.{SnapshotMakes}
use Rattle.vf_tables.specs.Snapshot.{is_kept, snapshot}
use Rattle.vf_tables.specs.declared.change.Change.{Change}
use Rattle.vf_tables.specs.declared.tables.Tables.{Tables}
use Rattle.vf_store.specs.Commit.{AreFitting, IsAreaOf, IsWritable, Leads, area_planned, end_of, placed}
use Rattle.vf_store.proofs.Kept.{record_leads, snapshot_leads}

-- where no switch is due none is planned
pub stays : (journal : JournalState) (count other snapshot : ℕ) → is_due journal count ≡ false → placing journal count other ≡ placing journal count snapshot
stays journal count other snapshot due = rw due refl

pub none_due : (journal : JournalState) (count snapshot : ℕ) → is_due journal count ≡ false → (placing journal count snapshot).switch ≡ None
none_due journal count snapshot due = rw due refl

area_leads : SnapshotMakes → (tables : Tables) → is_kept tables ≡ true → (area : Option (List ℕ)) (switch : Option ℕ) → area ≡ area_planned tables switch
    → IfSome area (λ octets. changes_of (record_of (snapshot tables)) ≡ Some (snapshot tables)) → IfSome area (IsAreaOf tables)
area_leads makes tables kept None switch is reads = tt
area_leads makes tables kept (Some octets) None is reads = cc
area_leads makes tables kept (Some octets) (Some start) is reads =
    let same : octets ≡ area_with (record_of (snapshot tables)) = cc in
    (record_of (snapshot tables), same, snapshot_leads makes tables kept reads)

-- what is built leads from the tables to those after the changes
pub leads : SnapshotMakes → (tables : Tables) (changes : List Change) (switch : Option ℕ) (area : Option (List ℕ)) (entry : List ℕ) → is_kept tables ≡ true → AreFitting tables changes
    → area ≡ area_planned tables switch → entry ≡ entry_of (record_of changes) → IfSome area (λ octets. changes_of (record_of (snapshot tables)) ≡ Some (snapshot tables))
    → changes_of (record_of changes) ≡ Some changes → Leads area entry tables (after_all tables changes)
leads makes tables changes switch area entry kept fitting area_is entry_is snapshot_reads reads = record {
  area_makes = area_leads makes tables kept area switch area_is snapshot_reads;
  entry_leads = (record_of changes, entry_is, record_leads tables changes (record_of changes) reads fitting);
}

area_form : (journal : JournalState) (count : ℕ) (tables : Tables) (area : Option (List ℕ)) (switch : Option ℕ) → (placing journal count (length (record_of (snapshot tables)))).switch ≡ switch
    → area ≡ area_planned tables switch → IfSome area IsArea
area_form journal count tables None switch plan is = tt
area_form journal count tables (Some octets) None plan is = cc
area_form journal count tables (Some octets) (Some start) plan is =
    let same : octets ≡ area_with (record_of (snapshot tables)) = cc in
    (record_of (snapshot tables), (planned journal count (length (record_of (snapshot tables))) start plan).short, same)

ends_at : (journal : JournalState) (count : ℕ) (tables : Tables) (entry : List ℕ) (switch : Option ℕ) → (placing journal count (length (record_of (snapshot tables)))).switch ≡ switch
    → length entry ≡ count + 5 → end_of journal (area_planned tables switch) entry ≡ (placing journal count (length (record_of (snapshot tables)))).end
ends_at journal count tables entry None plan long = omega (arith, unplanned journal count (length (record_of (snapshot tables))) plan, long)
ends_at journal count tables entry (Some start) plan long =
    let item = record_of (snapshot tables) in
    let fits = planned journal count (length item) start plan in
    let size : length (area_with item) ≡ length item + 6 = length-area_with item in
    let place : new_start journal (length (area_with item)) ≡ start = ap (λ (n : ℕ). new_start journal n) size ∙ sym fits.place in
    omega (arith, fits.ends, size, place, long)

-- it ends where it was planned
pub end_built : (journal : JournalState) (tables : Tables) (changes : List Change) (area : Option (List ℕ)) (entry : List ℕ) → area ≡ area_planned tables (placed journal tables changes).switch
    → entry ≡ entry_of (record_of changes) → end_of journal area entry ≡ (placed journal tables changes).end
end_built journal tables changes area entry area_is entry_is =
    ap (λ (o : Option (List ℕ)). end_of journal o entry) area_is
    ∙ ends_at journal (length (record_of changes)) tables entry (placed journal tables changes).switch refl (ap length entry_is ∙ length-entry_of (record_of changes))

pub writable : (journal : JournalState) (tables : Tables) (changes : List Change) (area : Option (List ℕ)) (entry : List ℕ) → length (record_of changes) ≤ longest
    → area ≡ area_planned tables (placed journal tables changes).switch → entry ≡ entry_of (record_of changes) → (placed journal tables changes).end ≤ journal.limit → IsWritable journal area entry
writable journal tables changes area entry short area_is entry_is within = record {
  area_form = area_form journal (length (record_of changes)) tables area (placed journal tables changes).switch refl area_is;
  entry_form = (record_of changes, short, entry_is);
  within = omega (arith, end_built journal tables changes area entry area_is entry_is, within);
}

-- a record that was put after the octets of its length, and in an area, is built when it is ended
pub entry_ended : (old new item : List ℕ) → old ≡ (0 ∷ 0 ∷ 0 ∷ 0 ∷ []) ++ item → new ≡ take 0 old ++ entry_of (drop 4 old) → new ≡ entry_of item
entry_ended old new item is ended = ended ∙ ap (λ (octets : List ℕ). take 0 octets ++ entry_of (drop 4 octets)) is

pub area_ended : (old new item : List ℕ) → old ≡ (1 ∷ 0 ∷ 0 ∷ 0 ∷ 0 ∷ []) ++ item → new ≡ take 1 old ++ entry_of (drop 5 old) → new ≡ area_with item
area_ended old new item is ended = ended ∙ ap (λ (octets : List ℕ). take 1 octets ++ entry_of (drop 5 octets)) is

-- what is said of an area that is there holds of its octets
pub some_mapped : {A B : Type 0} (f : A → B) (given : Option A) (P : Type 0) → IfSome given (λ x. P) → IfSome (option_map f given) (λ y. P)
some_mapped f None P holds = tt
some_mapped f (Some x) P holds = holds
