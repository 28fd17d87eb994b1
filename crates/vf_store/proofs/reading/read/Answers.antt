use Rattle.std.proofs.Common.{◌≡◌, List, ℕ, ◌++◌, ◌∙◌, ap}
use Rattle.vf_journal.specs.Image.{records_of}
use Rattle.vf_tables.specs.Entries.{no_tables}
use Rattle.vf_store.specs.Represented.{read_from}
use Rattle.vf_store.proofs.Making.{read_back}
use Rattle.vf_store.proofs.reading.read.Goals as goal

pub returns-clause-tables : goal.returns-clause-tables
returns-clause-tables g c = λ image shows.
    let records : c.as_slice.result.now ≡ records_of image =
    c.as_slice.ensures.value ∙ c.in_ok-journal.ensures.records image shows ∙ ap (λ (l : List (List ℕ)). l ++ records_of image) c.new-records.ensures.items in
    c.in_ok-tables.ensures ∙ ap (λ (l : List (List ℕ)). read_from l no_tables) records

pub returns-clause-stands : goal.returns-clause-stands
returns-clause-stands g c = λ image tables shows represents.
    let records : c.as_slice.result.now ≡ represents.records =
    c.as_slice.ensures.value ∙ c.in_ok-journal.ensures.records image shows ∙ ap (λ (l : List (List ℕ)). l ++ records_of image) c.new-records.ensures.items
    ∙ (c.held_is_read.ensures image represents.records represents.holds).1 in (
      c.in_ok-tables.ensures ∙ ap (λ (l : List (List ℕ)). read_from l no_tables) records ∙ read_back represents.records no_tables tables represents.making,
      record { records = represents.records; on = c.in_ok-journal.ensures.stands image represents.records shows represents.holds; making = represents.making },
    )
