-- What holds of each entry of the table: the tags of its row rise, and each default is in range.
use Rattle.std.proofs.Common.{◌≡◌, ℕ, zero, suc, Bool, true, List, [], ◌∷◌, refl, get_or}
use Rattle.std.specs.List.{list_all}
use Rattle.std.proofs.lemmas.Bool.{and_parts}
use Rattle.vf_pdu_fields.proofs.Tables.{is_table}
use Rattle.vf_pdu.specs.PduEntry.{Entry}
use Rattle.vf_pdu.specs.PduRows.{entries, no_entry, row_of}

-- a test that each passes
pub at_each : (test : Entry → Bool) → test no_entry ≡ true → (all : List Entry) → list_all test all ≡ true → (n : ℕ) → test (get_or all n no_entry) ≡ true
at_each test none [] e n = none
at_each test none (first ∷ all) e zero = (and_parts (test first) (list_all test all) e).0
at_each test none (first ∷ all) e (suc n) = at_each test none all (and_parts (test first) (list_all test all) e).1 n

abbrev is_entry : Entry → Bool
is_entry entry = is_table 0 entry.its_row

pub row_is_table : (n : ℕ) → is_table 0 (row_of n) ≡ true
unfolding row_of
row_is_table n = at_each is_entry refl entries refl n
