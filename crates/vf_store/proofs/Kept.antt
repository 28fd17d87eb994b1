-- What records make is kept: it is valid, and each field is in its range.
use Rattle.std.proofs.Common.{◌≡◌, ℕ, Bool, true, false, ◌&&◌, if◌then◌else◌, List, [], ◌∷◌, Option, None, Some, refl, sym, ◌∙◌, ap, subst}
use Rattle.std.specs.List.{list_all}
use Rattle.std.specs.Prelude.{IfSome, fold, option_and_then}
use Rattle.vf_store_record.specs.Records.{changes_of, record_of}
use Rattle.vf_tables.specs.Changes.{after, after_all}
use Rattle.vf_tables.specs.Entries.{no_tables}
use Rattle.vf_tables.specs.Fitting.{all_fit, fits, is_in_range, stands_in}
use Rattle.vf_tables.specs.Snapshot.{is_kept, snapshot}
use Rattle.vf_tables.specs.Validity.{is_valid}
use Rattle.vf_tables.specs.declared.change.Change.{Change}
use Rattle.vf_tables.specs.declared.tables.Tables.{Tables}
use Rattle.vf_store.specs.Commit.{AreFitting}
use Rattle.vf_tables.specs.Laws.{KeptStay, SnapshotMakes}
use Rattle.vf_tables.specs.Making.{made_of}
use Rattle.vf_store.specs.Represented.{after_record, made, with_record}

first_of : (a b : Bool) → (a && b) ≡ true → a ≡ true
first_of true b is = refl
first_of false b is = is

second_of : (a b : Bool) → (a && b) ≡ true → b ≡ true
second_of true b is = is
second_of false b is = cc

both_true : (a b : Bool) → a ≡ true → b ≡ true → (a && b) ≡ true
both_true true b first second = second
both_true false b first second = cc

-- changes that fit are in their ranges, and so are those that make tables that are kept
pub fit_in_range : (changes : List Change) (tables : Tables) → all_fit tables changes ≡ true → list_all is_in_range changes ≡ true
fit_in_range [] tables fit = refl
fit_in_range (change ∷ changes) tables fit =
    let rest = all_fit (after tables change) changes in
    both_true (is_in_range change) (list_all is_in_range changes) (first_of (is_in_range change) (stands_in tables change) (first_of (fits tables change) rest fit))
    (fit_in_range changes (after tables change) (second_of (fits tables change) rest fit))

pub kept_in_range : (tables : Tables) → is_kept tables ≡ true → list_all is_in_range (snapshot tables) ≡ true
kept_in_range tables kept = second_of (is_valid tables) (list_all is_in_range (snapshot tables)) kept

fitting_kept : KeptStay → (from : Tables) (changes : List Change) → is_kept from ≡ true → (each valid : Bool) → all_fit from changes ≡ each → is_valid (after_all from changes) ≡ valid
    → IfSome (if each && valid then Some (after_all from changes) else None) (λ t. is_kept t ≡ true)
fitting_kept stay from changes kept true true fit good = stay from changes kept fit good
fitting_kept stay from changes kept true false fit good = tt
fitting_kept stay from changes kept false valid fit good = tt

read_kept : KeptStay → (from : Tables) (changes : Option (List Change)) → is_kept from ≡ true → IfSome (option_and_then (made_of from) changes) (λ t. is_kept t ≡ true)
read_kept stay from None kept = tt
read_kept stay from (Some changes) kept = fitting_kept stay from changes kept (all_fit from changes) (is_valid (after_all from changes)) refl refl

record_kept : KeptStay → (from : Tables) (octets : List ℕ) → is_kept from ≡ true → IfSome (after_record from octets) (λ t. is_kept t ≡ true)
unfolding after_record
record_kept stay from octets kept = read_kept stay from (changes_of octets) kept

none_stays : (records : List (List ℕ)) → fold with_record None records ≡ None
none_stays [] = refl
none_stays (octets ∷ records) = none_stays records

kept_step : (records : List (List ℕ)) (next : Option Tables) (tables : Tables) → IfSome next (λ t. is_kept t ≡ true)
    → ((t : Tables) → is_kept t ≡ true → fold with_record (Some t) records ≡ Some tables → is_kept tables ≡ true) → fold with_record next records ≡ Some tables → is_kept tables ≡ true
kept_step records None tables kept on is = let none = none_stays records in cc
kept_step records (Some next) tables kept on is = on next kept is

kept_from : KeptStay → (records : List (List ℕ)) (from tables : Tables) → is_kept from ≡ true → fold with_record (Some from) records ≡ Some tables → is_kept tables ≡ true
kept_from stay [] from tables kept is = let same : from ≡ tables = cc in subst (λ (t : Tables). is_kept t ≡ true) same kept
kept_from stay (octets ∷ records) from tables kept is =
    kept_step records (after_record from octets) tables (record_kept stay from octets kept) (λ t next e. kept_from stay records t tables next e) is

pub made_kept : KeptStay → (records : List (List ℕ)) (tables : Tables) → made records ≡ Some tables → is_kept tables ≡ true
made_kept stay records tables is = kept_from stay records no_tables tables refl is

all_fitting : (each valid : Bool) (tables : Tables) → each ≡ true → valid ≡ true → (let next : Option Tables = if each && valid then Some tables else None in next) ≡ Some tables
all_fitting true true tables fit good = refl
all_fitting true false tables fit good = cc
all_fitting false valid tables fit good = cc

-- the record of changes that fit leads to the tables after them
pub record_leads : (before : Tables) (changes : List Change) (octets : List ℕ) → changes_of octets ≡ Some changes → AreFitting before changes → after_record before octets ≡ Some (after_all before changes)
unfolding after_record
record_leads before changes octets reads fitting =
    ap (λ (o : Option (List Change)). option_and_then (made_of before) o) reads
    ∙ all_fitting (all_fit before changes) (is_valid (after_all before changes)) (after_all before changes) fitting.each fitting.valid

-- the record of a snapshot makes the tables alone
pub snapshot_leads : SnapshotMakes → (tables : Tables) → is_kept tables ≡ true → changes_of (record_of (snapshot tables)) ≡ Some (snapshot tables) → made (record_of (snapshot tables) ∷ []) ≡ Some tables
snapshot_leads makes tables kept reads =
    let law = makes tables kept in
    let valid : is_valid (after_all no_tables (snapshot tables)) ≡ true = subst (λ (t : Tables). is_valid t ≡ true) (sym law.1) (first_of (is_valid tables) (list_all is_in_range (snapshot tables)) kept) in
    record_leads no_tables (snapshot tables) (record_of (snapshot tables)) reads (record { each = law.0; valid = valid }) ∙ ap (λ (t : Tables). Some t) law.1
