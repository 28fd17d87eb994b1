-- Records that are taken one after another from the start of a block.
use Rattle.std.proofs.Common.{◌≡◌, ℕ, ◌+◌, ◌-◌, ◌<◌, ◌≤◌, Bool, true, false, if◌then◌else◌, List, [], ◌∷◌, ◌++◌, length, take, drop, Option, None, Some, IsTrue, refl, sym, ◌∙◌, ap, subst, arith, append_assoc, length-append, length-drop}
use Rattle.std.proofs.lemmas.List.{append-nil, drop-drop, drop-take, length-take-le, take-take, take_at}
use Rattle.vf_disk.specs.Disk.{greatest_length}
use Rattle.vf_journal.specs.declared.area.Area.{Area}
use Rattle.vf_journal.specs.Records.{first_record, octets_of, records_in}
use Rattle.std.specs.Prelude.{option_map}
use Rattle.vf_journal.specs.Reading.{BeginsWith, StandsFrom, Takes, with_records}
use Rattle.vf_journal.specs.JournalState.{IsPlaced, area_of, with_record}
use Rattle.vf_journal.specs.Layout.{part}
use Rattle.vf_journal.proofs.Counts.{octets_push, placed_more}
use Rattle.vf_journal.proofs.Gates.{first_rest, reads_none, reads_some}

-- where a block, and what stands after it, was taken from so far
pub record Taking (block : List ℕ) (count : ℕ) (area : Area) (old : List (List ℕ)) (rest : List ℕ) (left : ℕ) (now : Area) (new : List (List ℕ)) : Type 0 where
  pub taken : List (List ℕ)
  pub records : new ≡ old ++ taken
  pub counts : now ≡ with_records area taken
  pub rest_is : rest ≡ drop (octets_of taken) block
  pub left_is : left + octets_of taken ≡ count
  pub some : 0 < length rest
  pub within : length rest ≤ left
  pub placed : IsPlaced now
  pub bound : now.end + left ≤ greatest_length + 1
  pub reads : (all : List ℕ) → BeginsWith block count all → (records_in all ≡ taken ++ records_in (drop (octets_of taken) all)) × BeginsWith rest left (drop (octets_of taken) all)

with_records_push : (area : Area) (taken : List (List ℕ)) (item : List ℕ) → with_records area (taken ++ item ∷ []) ≡ with_record (with_records area taken) (length item)
with_records_push area [] item = refl
with_records_push area (first ∷ taken) item = with_records_push (with_record area (length first)) taken item

-- octets that begin a list, further on
pub begins_more : (octets : List ℕ) (count : ℕ) (all : List ℕ) (n : ℕ) → BeginsWith octets count all → n ≤ length octets → BeginsWith (drop n octets) (count - n) (drop n all)
begins_more octets count all n begins le =
    let back : n + (length octets - n) ≡ length octets = omega arith in
    let size : length (drop n octets) ≡ length octets - n = length-drop n octets in (
      ap (λ (l : List ℕ). drop n l) (begins.0 ∙ ap (λ (k : ℕ). take k all) (sym back)) ∙ drop-take n (length octets - n) all ∙ ap (λ (k : ℕ). take k (drop n all)) (sym size),
      length-drop n all ∙ ap (λ (k : ℕ). k - n) begins.1,
    )

module _ (block : List ℕ) (count : ℕ) (area : Area) (old : List (List ℕ)) (rest : List ℕ) (left : ℕ) (now : Area) (new : List (List ℕ)) (taking : Taking block count area old rest left now new) where
  taken_less : octets_of taking.taken < count
  taken_less = omega (arith, taking.left_is, taking.some, taking.within)

  -- the last record was taken
  pub taking_ends : ((all : List ℕ) → BeginsWith rest left all → first_record all ≡ None) → Takes (BeginsWith block count) old new count area now false
  taking_ends none = record {
    taken = taking.taken;
    records = taking.records;
    counts = taking.counts;
    bound = taken_less;
    reads = λ all begins.
        let so_far = taking.reads all begins in
        so_far.0 ∙ ap (λ (l : List (List ℕ)). taking.taken ++ l) (reads_none (drop (octets_of taking.taken) all) (none (drop (octets_of taking.taken) all) so_far.1));
  }

  -- one record more
  pub taking_more : (size : ℕ) (item : List ℕ) (next : List (List ℕ)) (further : Area) (after : List ℕ) → size + 6 ≤ length rest → item ≡ take size (drop 5 rest) → next ≡ new ++ item ∷ [] → further ≡ with_record now size → after ≡ drop (5 + size) rest
      → ((all : List ℕ) → BeginsWith rest left all → first_record all ≡ Some (take size (drop 5 rest), drop (size + 5) all)) → Taking block count area old after (left - (5 + size)) further next
  taking_more size item next further after long item_is next_is further_is after_is found =
      let item_size : length item ≡ size = ap length item_is ∙ length-take-le size (drop 5 rest) (omega (arith, length-drop 5 rest)) in
      let octets : octets_of (taking.taken ++ item ∷ []) ≡ octets_of taking.taken + (5 + size) = omega (arith, octets_push taking.taken item, item_size) in
      let rest_size = ap length after_is ∙ length-drop (5 + size) rest in
      let end_is = ap (λ (a : Area). a.end) further_is in
      let less = taking.within in
      record {
        taken = taking.taken ++ item ∷ [];
        records = next_is ∙ ap (λ (l : List (List ℕ)). l ++ item ∷ []) taking.records ∙ append_assoc old taking.taken (item ∷ []);
        counts = further_is ∙ ap (λ (n : ℕ). with_record now n) (sym item_size) ∙ ap (λ (a : Area). with_record a (length item)) taking.counts ∙ sym (with_records_push area taking.taken item);
        rest_is = after_is ∙ ap (λ (l : List ℕ). drop (5 + size) l) taking.rest_is ∙ drop-drop (5 + size) (octets_of taking.taken) block ∙ ap (λ (n : ℕ). drop n block) (sym octets);
        left_is = omega (arith, octets, taking.left_is);
        some = omega (arith, rest_size);
        within = omega (arith, rest_size);
        placed = subst IsPlaced (sym further_is) (placed_more now size taking.placed (omega (arith, taking.bound)));
        bound = omega (arith, end_is, taking.bound);
        reads = λ all begins.
            let so_far = taking.reads all begins in
            let here = drop (octets_of taking.taken) all in
            let on : drop (size + 5) here ≡ drop (octets_of (taking.taken ++ item ∷ [])) all = drop-drop (size + 5) (octets_of taking.taken) all ∙ ap (λ (n : ℕ). drop n all) (let same : octets_of taking.taken + (size + 5) ≡ octets_of (taking.taken ++ item ∷ []) = omega (arith, octets) in same) in
            let next_record : records_in here ≡ item ∷ records_in (drop (octets_of (taking.taken ++ item ∷ [])) all) =
            reads_some here (take size (drop 5 rest), drop (size + 5) here) (found here so_far.1)
            ∙ ap (λ (l : List ℕ). l ∷ records_in (drop (size + 5) here)) (sym item_is) ∙ ap (λ (l : List ℕ). item ∷ records_in l) on in
            let begins_here = begins_more rest left here (5 + size) so_far.1 (omega arith) in
            let step : 5 + size ≡ size + 5 = omega arith in (
              so_far.0 ∙ ap (λ (l : List (List ℕ)). taking.taken ++ l) next_record ∙ sym (append_assoc taking.taken (item ∷ []) (records_in (drop (octets_of (taking.taken ++ item ∷ [])) all))),
              subst (λ (l : List ℕ). BeginsWith l (left - (5 + size)) (drop (octets_of (taking.taken ++ item ∷ [])) all)) (sym after_is)
                  (subst (λ (l : List ℕ). BeginsWith (drop (5 + size) rest) (left - (5 + size)) l) (ap (λ (n : ℕ). drop n here) step ∙ on) begins_here),
            );
      }

-- what was there stays first
pub prefix_stays : (old new taken : List (List ℕ)) → new ≡ old ++ taken → take (length old) new ≡ old
prefix_stays old new taken is = ap (λ (l : List (List ℕ)). take (length old) l) is ∙ take_at old taken (length old) refl

-- what the first record is, from what a read of it found
none_first : (found : Option (List ℕ × List ℕ)) → None ≡ option_map (λ (x : List ℕ × List ℕ). x.0) found → found ≡ None
none_first None is = refl
none_first (Some x) is = cc

some_first : (found : Option (List ℕ × List ℕ)) (item : List ℕ) → Some item ≡ option_map (λ (x : List ℕ × List ℕ). x.0) found → (rest : List ℕ) × (found ≡ Some (item, rest))
some_first None item is = cc
some_first (Some x) item is = let same : x.0 ≡ item = cc in (x.1, ap (λ (l : List ℕ). Some (l, x.1)) same)

module _ (shown : Option (List ℕ)) (place count : ℕ) (area : Area) (old : List (List ℕ)) where
  -- no record stands there
  pub alone_none : 0 < count → ((image : List ℕ) → shown ≡ Some image → None ≡ option_map (λ (x : List ℕ × List ℕ). x.0) (first_record (drop place image))) → Takes (StandsFrom shown place) old old count area area false
  alone_none some found = record {
    taken = [];
    records = sym (append-nil old);
    counts = refl;
    bound = some;
    reads = λ all (image, shows, is). ap records_in is ∙ reads_none (drop place image) (none_first (first_record (drop place image)) (found image shows));
  }

  -- one does
  pub alone_some : (item : List ℕ) (new : List (List ℕ)) (further : Area) → length item + 5 < count → new ≡ old ++ item ∷ [] → further ≡ with_record area (length item)
      → ((image : List ℕ) → shown ≡ Some image → Some item ≡ option_map (λ (x : List ℕ × List ℕ). x.0) (first_record (drop place image))) → Takes (StandsFrom shown place) old new count area further true
  alone_some item new further less new_is further_is found = record {
    taken = item ∷ [];
    records = new_is;
    counts = further_is;
    bound = omega arith;
    reads = λ all (image, shows, is).
        let first = some_first (first_record (drop place image)) item (found image shows) in
        let rest = first_rest (drop place image) (item, first.0) first.1 in
        let count_is : length item + 5 ≡ octets_of (item ∷ []) = omega arith in
        ap records_in is ∙ reads_some (drop place image) (item, first.0) first.1
        ∙ ap (λ (l : List ℕ). item ∷ records_in l) (rest ∙ ap (λ (n : ℕ). drop n (drop place image)) count_is ∙ ap (λ (l : List ℕ). drop (octets_of (item ∷ [])) l) (sym is));
  }

octets_append : (first second : List (List ℕ)) → octets_of (first ++ second) ≡ octets_of first + octets_of second
octets_append [] second = omega arith
octets_append (item ∷ first) second = omega (arith, octets_append first second)

with_records_append : (area : Area) (first second : List (List ℕ)) → with_records area (first ++ second) ≡ with_records (with_records area first) second
with_records_append area [] second = refl
with_records_append area (item ∷ first) second = with_records_append (with_record area (length item)) first second

pub with_records_end : (area : Area) (taken : List (List ℕ)) → (with_records area taken).end ≡ area.end + octets_of taken
with_records_end area [] = omega arith
with_records_end area (item ∷ taken) = omega (arith, with_records_end (with_record area (length item)) taken)

pub with_records_placed : (area : Area) (taken : List (List ℕ)) → IsPlaced area → area.end + octets_of taken ≤ greatest_length → IsPlaced (with_records area taken)
with_records_placed area [] placed bound = placed
with_records_placed area (item ∷ taken) placed bound = with_records_placed (with_record area (length item)) taken (placed_more area (length item) placed (omega arith)) (omega arith)

-- the block wasn't at its end
pub taking_inside : (block : List ℕ) (count : ℕ) (area : Area) (old : List (List ℕ)) (rest : List ℕ) (left : ℕ) (now : Area) (new : List (List ℕ)) → Taking block count area old rest left now new → now.end < area.end + length block
taking_inside block count area old rest left now new taking =
    let size = ap length taking.rest_is ∙ length-drop (octets_of taking.taken) block in
    let end = ap (λ (a : Area). a.end) taking.counts in
    omega (arith, size, end, taking.some, with_records_end area taking.taken)

-- records that are taken from a block, of those that stand from a place on
pub takes_stands : (shown : Option (List ℕ)) (total place : ℕ) (block : List ℕ) → ((image : List ℕ) → shown ≡ Some image → length image ≡ total) → ((image : List ℕ) → shown ≡ Some image → block ≡ part image place (length block))
    → (old new : List (List ℕ)) (area found : Area) (more : Bool) → Takes (BeginsWith block (total - place)) old new (total - place) area found more → Takes (StandsFrom shown place) old new (total - place) area found more
takes_stands shown total place block size begins old new area found more takes = record {
  taken = takes.taken;
  records = takes.records;
  counts = takes.counts;
  bound = takes.bound;
  reads = λ all (image, shows, is).
      takes.reads all (begins image shows ∙ ap (λ (l : List ℕ). take (length block) l) (sym is), ap length is ∙ length-drop place image ∙ ap (λ (n : ℕ). n - place) (size image shows));
}

none_octets : (taken : List (List ℕ)) → octets_of taken ≡ 0 → taken ≡ []
none_octets [] is = refl
none_octets (item ∷ taken) is = absurd (omega arith)

-- an area that didn't grow has no record more
pub takes_none : (IsAll : List ℕ → Type 0) (old new : List (List ℕ)) (count : ℕ) (area found : Area) (more : Bool) → Takes IsAll old new count area found more → found.end ≤ area.end → new ≡ old
takes_none IsAll old new count area found more takes le =
    let end = ap (λ (a : Area). a.end) takes.counts in
    let none : takes.taken ≡ [] = none_octets takes.taken (omega (arith, end, with_records_end area takes.taken)) in
    takes.records ∙ ap (λ (l : List (List ℕ)). old ++ l) none ∙ append-nil old

-- records that are taken where others were
pub takes_joined : (IsAll IsRest : List ℕ → Type 0) (old mid new : List (List ℕ)) (count left : ℕ) (area found further : Area) (more : Bool) → (first : Takes IsAll old mid count area found true)
    → ((all : List ℕ) → IsAll all → IsRest (drop (octets_of first.taken) all)) → left + octets_of first.taken ≡ count → Takes IsRest mid new left found further more → Takes IsAll old new count area further more
takes_joined IsAll IsRest old mid new count left area found further more first rests size second = record {
  taken = first.taken ++ second.taken;
  records = second.records ∙ ap (λ (l : List (List ℕ)). l ++ second.taken) first.records ∙ append_assoc old first.taken second.taken;
  counts = second.counts ∙ ap (λ (a : Area). with_records a second.taken) first.counts ∙ sym (with_records_append area first.taken second.taken);
  bound = omega (arith, octets_append first.taken second.taken, second.bound);
  reads = λ all is.
      let k = octets_of first.taken in
      let after : drop (octets_of second.taken) (drop k all) ≡ drop (octets_of (first.taken ++ second.taken)) all =
      drop-drop (octets_of second.taken) k all ∙ ap (λ (n : ℕ). drop n all) (sym (octets_append first.taken second.taken)) in
      first.reads all is
      ∙ ap (λ (l : List (List ℕ)). first.taken ++ l) (second.reads (drop k all) (rests all is))
      ∙ sym (append_assoc first.taken second.taken (if more then records_in (drop (octets_of second.taken) (drop k all)) else []))
      ∙ ap (λ (l : List ℕ). (first.taken ++ second.taken) ++ (if more then records_in l else [])) after;
}

pub area_end : (IsAll : List ℕ → Type 0) (start count : ℕ) (old new : List (List ℕ)) (found : Area) (more : Bool) → (takes : Takes IsAll old new count (area_of start []) found more) → found.end ≡ start + 1 + octets_of takes.taken
area_end IsAll start count old new found more takes = let end = ap (λ (a : Area). a.end) takes.counts in omega (arith, end, with_records_end (area_of start []) takes.taken)

pub takes_grow : (IsAll : List ℕ → Type 0) (count : ℕ) (old new : List (List ℕ)) (area found : Area) (more : Bool) → (takes : Takes IsAll old new count area found more) → found.end ≡ area.end + octets_of takes.taken
takes_grow IsAll count old new area found more takes = let end = ap (λ (a : Area). a.end) takes.counts in omega (arith, end, with_records_end area takes.taken)

pub takes_placed : (IsAll : List ℕ → Type 0) (count : ℕ) (old new : List (List ℕ)) (area found : Area) (more : Bool) → (takes : Takes IsAll old new count area found more) → IsPlaced area → area.end + count ≤ greatest_length + 1 → IsPlaced found
takes_placed IsAll count old new area found more takes placed bound =
    subst IsPlaced (sym takes.counts) (with_records_placed area takes.taken placed (omega (arith, takes.bound)))

-- the records of a block, and those after them
pub block_more : (shown told : Option (List ℕ)) → told ≡ shown → (size : ℕ) (old mid new : List (List ℕ)) (area found further : Area) (more : Bool) → 0 < area.end
    → Takes (StandsFrom shown (area.end - 1)) old mid (size - (area.end - 1)) area found true → Takes (StandsFrom told (found.end - 1)) mid new (size - (found.end - 1)) found further more
    → Takes (StandsFrom shown (area.end - 1)) old new (size - (area.end - 1)) area further more
block_more shown told same size old mid new area found further more some first second =
    let end = takes_grow (StandsFrom shown (area.end - 1)) (size - (area.end - 1)) old mid area found true first in
    takes_joined (StandsFrom shown (area.end - 1)) (StandsFrom told (found.end - 1)) old mid new (size - (area.end - 1)) (size - (found.end - 1)) area found further more first
    (λ all (image, shows, is).
    let place : area.end - 1 + octets_of first.taken ≡ found.end - 1 = omega (arith, end) in
    (image, same ∙ shows, ap (λ (l : List ℕ). drop (octets_of first.taken) l) is ∙ drop-drop (octets_of first.taken) (area.end - 1) image ∙ ap (λ (n : ℕ). drop n image) place))
    (omega (arith, end, first.bound)) second

-- the records of an area, some more of them
pub area_more : (shown told : Option (List ℕ)) → told ≡ shown → (start size : ℕ) → start < size → (old mid new : List (List ℕ)) (area found : Area) (more : Bool)
    → Takes (StandsFrom shown start) old mid (size - start) (area_of start []) area true → Takes (StandsFrom told (area.end - 1)) mid new (size - (area.end - 1)) area found more
    → Takes (StandsFrom shown start) old new (size - start) (area_of start []) found more
area_more shown told same start size within old mid new area found more first second =
    let end = area_end (StandsFrom shown start) start (size - start) old mid area true first in
    takes_joined (StandsFrom shown start) (StandsFrom told (area.end - 1)) old mid new (size - start) (size - (area.end - 1)) (area_of start []) area found more first
    (λ all (image, shows, is).
    let place : start + octets_of first.taken ≡ area.end - 1 = omega (arith, end) in
    (image, same ∙ shows, ap (λ (l : List ℕ). drop (octets_of first.taken) l) is ∙ drop-drop (octets_of first.taken) start image ∙ ap (λ (n : ℕ). drop n image) place))
    (omega (arith, end, first.bound)) second

pub when_more : (IsAll : List ℕ → Type 0) (count : ℕ) (old new : List (List ℕ)) (area found : Area) (more now : Bool) → more ≡ now → Takes IsAll old new count area found more → Takes IsAll old new count area found now
when_more IsAll count old new area found more now is takes = subst (λ (b : Bool). Takes IsAll old new count area found b) is takes

-- a prefix that stays while another stays
pub prefix_kept : (old mid new taken : List (List ℕ)) → mid ≡ old ++ taken → take (length mid) new ≡ mid → take (length old) new ≡ old
prefix_kept old mid new taken is kept =
    let le : length old ≤ length mid = omega (arith, ap length is, length-append old taken) in
    sym (take-take (length old) (length mid) new le) ∙ ap (λ (l : List (List ℕ)). take (length old) l) kept ∙ prefix_stays old mid taken is

-- the measure of reading an area falls
pub falls : (size old new : ℕ) (now more : Bool) → now ≡ true → old ≤ size → new ≤ size → old ≤ new → (IsTrue more → old < new)
    → size - new + (if more then 1 else 0) < size - old + (if now then 1 else 0)
falls size old new false more is in_old in_new le further = cc
falls size old new true true is in_old in_new le further = let less : old < new = further refl in omega arith
falls size old new true false is in_old in_new le further = omega arith
