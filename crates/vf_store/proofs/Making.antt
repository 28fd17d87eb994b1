-- The tables to which records lead.
use Rattle.std.proofs.Common.{◌≡◌, ℕ, Bool, true, false, List, [], ◌∷◌, ◌++◌, Option, None, Some, refl, ◌∙◌, ap}
use Rattle.std.specs.Prelude.{fold, unwrap_or}
use Rattle.std.specs.Option.{option_map}
use Rattle.std.proofs.lemmas.List.Sums.{fold-append}
use Rattle.vf_tables.specs.Entries.{no_tables}
use Rattle.vf_tables.specs.Making.{IsMade}
use Rattle.vf_tables.specs.declared.tables.Tables.{Tables}
use Rattle.vf_store.specs.Represented.{after_record, made, read_from, with_record}

-- a record more
pub made_push : (records : List (List ℕ)) (item : List ℕ) (before after : Tables) → made records ≡ Some before → after_record before item ≡ Some after → made (records ++ item ∷ []) ≡ Some after
made_push records item before after first second =
    fold-append with_record (Some no_tables) records (item ∷ []) ∙ ap (λ (t : Option Tables). with_record t item) first ∙ second

-- records after one that isn't of the grammar lead nowhere
none_stays : (records : List (List ℕ)) → fold with_record None records ≡ None
none_stays [] = refl
none_stays (item ∷ records) = none_stays records

read_step : (records : List (List ℕ)) (next : Option Tables) (from tables : Tables) → ((t : Tables) → fold with_record (Some t) records ≡ Some tables → read_from records t ≡ tables)
    → fold with_record next records ≡ Some tables → unwrap_or (option_map (read_from records) next) from ≡ tables
read_step records None from tables on is = let none = none_stays records in cc
read_step records (Some next) from tables on is = on next is

-- what records make that are all of the grammar is what is read of them
pub read_back : (records : List (List ℕ)) (from tables : Tables) → fold with_record (Some from) records ≡ Some tables → read_from records from ≡ tables
read_back [] from tables is = cc
read_back (item ∷ records) from tables is = read_step records (after_record from item) from tables (λ t e. read_back records t tables e) is

-- what was made of a record, or that nothing was
pub was_made : (made : Option Tables) (old new : Tables) (is_made : Bool) → IsMade made old new is_made → is_made ≡ true → made ≡ Some new
was_made made old new true is so = is
was_made made old new false is so = absurd cc

pub not_made : (made : Option Tables) (old new : Tables) (is_made : Bool) → IsMade made old new is_made → is_made ≡ false → (made ≡ None) × (new ≡ old)
not_made made old new true is so = absurd cc
not_made made old new false is so = is

-- what is read goes on from what is made of the first record, and ends where nothing is
pub read_on : (item : List ℕ) (records : List (List ℕ)) (old new : Tables) → after_record old item ≡ Some new → read_from (item ∷ records) old ≡ read_from records new
read_on item records old new is = ap (λ (t : Option Tables). unwrap_or (option_map (read_from records) t) old) is

pub read_end : (item : List ℕ) (records : List (List ℕ)) (old : Tables) → after_record old item ≡ None → read_from (item ∷ records) old ≡ old
read_end item records old is = ap (λ (t : Option Tables). unwrap_or (option_map (read_from records) t) old) is
