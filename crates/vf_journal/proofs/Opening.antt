-- A journal that is opened: its records, and where it stands.
use Rattle.std.proofs.Common.{◌≡◌, ℕ, Bool, false, List, [], ◌∷◌, ◌++◌, drop, Option, None, Some, refl, sym, ◌∙◌, ap, append_assoc}
use Rattle.std.proofs.lemmas.List.{append-nil}
use Rattle.vf_disk.specs.Disk.{LeavesShown}
use Rattle.vf_journal.specs.declared.area.Area.{Area}
use Rattle.vf_journal.specs.Image.{Holds, records_of}
use Rattle.vf_journal.specs.Layout.{selects_second, selected_start}
use Rattle.vf_journal.specs.Reading.{StandsFrom, Takes, with_records}
use Rattle.vf_journal.specs.Records.{records_in}
use Rattle.vf_journal.specs.JournalState.{JournalState, StandsOn, area_of, when_opened}
use Rattle.vf_journal.proofs.Counts.{counts_push}
use Rattle.vf_journal.proofs.Held.{read_as_held}

-- an area with records more, as the area of all of them
area_taken : (start : ℕ) (records taken : List (List ℕ)) → with_records (area_of start records) taken ≡ area_of start (records ++ taken)
area_taken start records [] = ap (λ (l : List (List ℕ)). area_of start l) (sym (append-nil records))
area_taken start records (item ∷ taken) =
    ap (λ (area : Area). with_records area taken) (counts_push start records item)
    ∙ area_taken start (records ++ item ∷ []) taken
    ∙ ap (λ (l : List (List ℕ)). area_of start l) (append_assoc records (item ∷ []) taken)

module _ (shown : Option (List ℕ)) (start count : ℕ) (old new : List (List ℕ)) (found : Area) (takes : Takes (StandsFrom shown start) old new count (area_of start []) found false)
    (image : List ℕ) (shows : shown ≡ Some image) where
  taken_is : takes.taken ≡ records_in (drop start image)
  taken_is = sym (append-nil takes.taken) ∙ sym (takes.reads (drop start image) (image, shows, refl))

  pub all_taken : new ≡ old ++ records_in (drop start image)
  all_taken = takes.records ∙ ap (λ (l : List (List ℕ)). old ++ l) taken_is

  pub area_found : found ≡ area_of start (records_in (drop start image))
  area_found = takes.counts ∙ area_taken start [] takes.taken ∙ ap (λ (l : List (List ℕ)). area_of start l) taken_is

  module _ (at : start ≡ selected_start image) where
    pub area_opened : found ≡ area_of (selected_start image) (records_of image)
    area_opened = area_found ∙ ap (λ (n : ℕ). area_of n (records_in (drop n image))) at

-- where a journal stands that was opened
stands_at : Bool → Area → ℕ → JournalState
stands_at second area limit = record { second = second; area = area; limit = limit; prepared = None }

pub opened_is : (second : Bool) (area : Area) (image : List ℕ) (limit : ℕ) → second ≡ selects_second image → area ≡ area_of (selected_start image) (records_of image)
    → (let journal : JournalState = record { second = second; area = area; limit = limit; prepared = None } in journal) ≡ when_opened image limit
unfolding stands_at
opened_is second area image limit same_second same_area =
    ap (λ (b : Bool). stands_at b area limit) same_second ∙ ap (λ (a : Area). stands_at (selects_second image) a limit) same_area

-- what is opened on an image that holds records stands on it
pub opened_stands : {D : Type 0} (shown : D → Option (List ℕ)) (may_leave : D → List ℕ → Type 0) (journal : JournalState) (disk : D) (image : List ℕ) (limit : ℕ) (records : List (List ℕ))
    → shown disk ≡ Some image → LeavesShown (shown disk) (may_leave disk) → Holds image records → journal ≡ when_opened image limit → StandsOn shown may_leave journal disk records
opened_stands shown may_leave journal disk image limit records shows synced holds is = record {
  image = image;
  shows = shows;
  synced = synced;
  holds = holds;
  second = ap (λ (j : JournalState). j.second) is;
  area = ap (λ (j : JournalState). j.area) is ∙ ap (λ (l : List (List ℕ)). area_of (selected_start image) l) (read_as_held image records holds);
}
