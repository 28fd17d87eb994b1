-- An append, from the disk on which a journal stands to that with one record more.
use Rattle.std.proofs.Common.{◌≡◌, inl, ℕ, ◌+◌, ◌-◌, ◌≤◌, List, [], ◌∷◌, ◌++◌, length, get_or, drop, Option, Some, sym, ◌∙◌, ap, subst, arith}
use Rattle.std.proofs.lemmas.List.{get_or-drop}
use Rattle.vf_disk.specs.Disk.{LeavesOnly, LeavesShown, Torn, overwritten}
use Rattle.vf_disk.proofs.Runs.{joined, leaves_octets, weaker}
use Rattle.vf_journal.specs.declared.area.Area.{Area}
use Rattle.vf_journal.specs.Layout.{selected_start}
use Rattle.vf_journal.specs.Records.{IsEntry, entry_of, longest}
use Rattle.vf_journal.specs.Image.{Holds, HoldsEither}
use Rattle.vf_journal.specs.JournalState.{JournalState, StandsOn, after_append, area_of, with_record}
use Rattle.vf_journal.specs.Writes.{MadeBy, Shows}
use Rattle.vf_journal.proofs.Lengths.{entry_short, length-entry_of}
use Rattle.vf_journal.proofs.Counts.{counts_push}
use Rattle.vf_journal.proofs.Images.{SameHead, gate_head, gate_of, gate_open, gate_torn, gate_within, written_after}
use Rattle.vf_journal.proofs.Parts.{overwritten_from, torn_whole}

module _ {D : Type 0} (shown : D → Option (List ℕ)) (may_leave : D → List ℕ → Type 0) (moment : D → ℕ) (left_since : D → ℕ → List ℕ → Type 0)
    (only_now : (disk : D) (image : List ℕ) → left_since disk (moment disk) image → may_leave disk image)
    (journal : JournalState) (old : D) (item : List ℕ) (records : List (List ℕ)) (entry : List ℕ) (built : IsEntry entry) (is : entry ≡ entry_of item)
    (on : StandsOn shown may_leave journal old records) where
  abbrev Allowed : List ℕ → Type 0
  Allowed = HoldsEither records (records ++ item ∷ [])

  short : length item ≤ longest
  short = entry_short entry item built is

  -- where the entry is written, after the closed gate
  abbrev end : ℕ
  end = journal.area.end

  end_is : end ≡ gate_of on.image records + 1
  end_is = let same = ap (λ (area : Area). area.end) on.area in omega arith

  end_within : end ≤ length on.image
  end_within = omega (arith, end_is, gate_within on.image records on.holds)

  from_image : (from : List ℕ) → may_leave old from → from ≡ on.image
  from_image from left = leaves_octets (shown old) (may_leave old) on.image from on.synced on.shows left

  -- the first write, whole or cut short
  after : (new : List ℕ) → Torn end (length entry) on.image new → SameHead on.image new × Holds new records
  after new torn = written_after records end (length entry) on.image new on.holds (omega (arith, end_is)) torn

  pub append_staged : (mid : D) → LeavesOnly moment left_since old mid (MadeBy (Torn end (length entry)) (may_leave old)) → LeavesOnly moment left_since old mid Allowed
  append_staged mid run = weaker moment left_since old mid (MadeBy (Torn end (length entry)) (may_leave old)) Allowed run (λ image left.
      inl (after image (subst (λ (l : List ℕ). Torn end (length entry) l image) (from_image left.0 left.1) left.2)).1)

  -- the image between the two writes
  abbrev staged : List ℕ
  staged = overwritten on.image end entry

  staged_kept : SameHead on.image staged × Holds staged records
  staged_kept = after staged (torn_whole on.image end entry end_within)

  gate_is : gate_of staged records ≡ end - 1
  gate_is = omega (arith, end_is, staged_kept.0.start)

  entry_after : drop (gate_of staged records + 1) staged ≡ entry_of item ++ drop (end + length entry) on.image
  entry_after =
      let place : gate_of staged records + 1 ≡ end = omega (arith, gate_is, end_is) in
      ap (λ (n : ℕ). drop n staged) place ∙ overwritten_from on.image end entry end_within ∙ ap (λ (l : List ℕ). l ++ drop (end + length entry) on.image) is

  gate_left : (new : List ℕ) → Torn (end - 1) 1 staged new → Torn (gate_of staged records) 1 staged new
  gate_left new torn = subst (λ (n : ℕ). Torn n 1 staged new) (sym gate_is) torn

  pub append_opened : (mid new : D) → shown mid ≡ Some staged → LeavesShown (shown mid) (may_leave mid) → LeavesOnly moment left_since old mid (MadeBy (Torn end (length entry)) (may_leave old))
      → LeavesOnly moment left_since mid new (MadeBy (Torn (end - 1) 1) (may_leave mid)) → LeavesOnly moment left_since old new Allowed
  append_opened mid new shows synced first second = joined moment left_since old mid new Allowed (MadeBy (Torn (end - 1) 1) (may_leave mid)) Allowed (append_staged mid first) second (λ image allowed. allowed) (λ image left.
      let from : left.0 ≡ staged = leaves_octets (shown mid) (may_leave mid) staged left.0 synced shows left.1 in
      gate_torn records item (drop (end + length entry) on.image) staged image staged_kept.1 short entry_after (gate_left image (subst (λ (l : List ℕ). Torn (end - 1) 1 l image) from left.2)))

  pub append_seen_first : (new : Option (List ℕ)) → Shows new (Torn end (length entry) on.image) → Shows new Allowed
  append_seen_first new seen = (seen.0, seen.1, inl (after seen.0 seen.2).1)

  pub append_seen : (new : Option (List ℕ)) → Shows new (Torn (end - 1) 1 staged) → Shows new Allowed
  append_seen new seen = (seen.0, seen.1, gate_torn records item (drop (end + length entry) on.image) staged seen.0 staged_kept.1 short entry_after (gate_left seen.0 seen.2))

  abbrev last : List ℕ
  last = overwritten staged (end - 1) (1 ∷ [])

  gate_place : end - 1 ≤ length staged
  gate_place = omega (arith, gate_is, gate_within staged records staged_kept.1)

  last_torn : Torn (gate_of staged records) 1 staged last
  last_torn = gate_left last (torn_whole staged (end - 1) (1 ∷ []) gate_place)

  gate_octet : get_or last (gate_of staged records) 0 ≡ 1
  gate_octet =
      ap (λ (n : ℕ). get_or last n 0) gate_is
      ∙ ap (λ (n : ℕ). get_or last n 0) (omega arith)
      ∙ sym (get_or-drop (end - 1) last 0 0)
      ∙ ap (λ (l : List ℕ). get_or l 0 0) (overwritten_from staged (end - 1) (1 ∷ []) gate_place)

  pub append_done : (new : D) → shown new ≡ Some last → LeavesShown (shown new) (may_leave new) → StandsOn shown may_leave (after_append journal (length entry - 5)) new (records ++ item ∷ [])
  append_done new shows synced =
      let rest = drop (end + length entry) on.image in
      let same = gate_head records item rest staged last staged_kept.1 short entry_after last_torn in
      let start : selected_start last ≡ selected_start on.image = same.start ∙ staged_kept.0.start in
      let count : length entry - 5 ≡ length item = omega (arith, ap length is, length-entry_of item) in
      record {
        image = last;
        shows = shows;
        synced = synced;
        holds = gate_open records item rest staged last staged_kept.1 short entry_after last_torn gate_octet;
        second = on.second ∙ sym (same.second ∙ staged_kept.0.second);
        area = ap (λ (n : ℕ). with_record journal.area n) count ∙ ap (λ (area : Area). with_record area (length item)) on.area ∙ counts_push (selected_start on.image) records item
            ∙ ap (λ (n : ℕ). area_of n (records ++ item ∷ [])) (sym start);
      }
