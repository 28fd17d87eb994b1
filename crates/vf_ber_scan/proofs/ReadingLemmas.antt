-- What a scan says of the octets so far.
use Rattle.std.proofs.Common.{◌≡◌, ◌≢◌, ℕ, ◌+◌, ◌-◌, ◌<◌, ◌≤◌, Bool, true, false, List, [], ◌++◌, length, take, drop, refl, ap, sym, subst, ◌∙◌, arith, append_assoc, inl, inr}
use Rattle.std.specs.Prelude.{Some, None}
use Rattle.std.proofs.Math.Seq.{take-add}
use Rattle.std.proofs.lemmas.Bool.{cases_lt}
use Rattle.std.proofs.lemmas.List.{append-nil, length-take-le, take-append-drop, take-take}
use Rattle.vf_ber.specs.declared.room.Room.TheVariants.{Within}
use Rattle.vf_ber.specs.Reader.{value_at, reading}
use Rattle.vf_ber.specs.Tree.{Tree}
use Rattle.vf_ber.specs.Reading.{bounded, Reading, IsReading, IsSpelling, Read, Short, Bad, Deep, Long}
use Rattle.vf_ber.proofs.Plain.{reading_found}
use Rattle.vf_ber.proofs.Readings.{one_reading}
use Rattle.vf_ber_scan.specs.declared.frames.Frame.{Frame}
use Rattle.vf_ber_scan.specs.declared.place.Next.{Next}
use Rattle.vf_ber_scan.specs.declared.place.Next.TheVariants as nexts
use Rattle.vf_ber_scan.specs.declared.place.Place.{Place}
use Rattle.vf_ber_scan.specs.declared.place.Place.TheVariants.{Start}
use Rattle.vf_ber_scan.specs.declared.scan.End.{End}
use Rattle.vf_ber_scan.specs.declared.scan.Scan.{Scan}
use Rattle.vf_ber_scan.specs.Places.{IsOpen}
use Rattle.vf_ber_scan.specs.Ends.{IsEnd}
use Rattle.vf_ber_scan.specs.Scanned.{HasTaken, length_read}
use Rattle.vf_ber_scan.specs.Continuation.{goes_on, left_progress, progress_at, Leads}
use Rattle.vf_ber_scan.specs.Progress.{Wanting, Whole, Faulty, ended, progress_of}
use Rattle.vf_ber_scan.proofs.ReadLemmas.{progress_reading}
use Rattle.vf_ber_scan.proofs.StepLemmas.{none_wants}

short_is : (v : Reading) → progress_of v ≡ Wanting → v ≡ Short
short_is (Read tree n) e = absurd cc
short_is Short e = refl
short_is (Bad at) e = absurd cc
short_is (Deep at) e = absurd cc
short_is (Long at) e = absurd cc

not_short : (v : Reading) (whole : Bool) → progress_of v ≡ ended whole → v ≢ Short
not_short v true e short = let same : Wanting ≡ Whole = ap progress_of (sym short) ∙ e in absurd cc
not_short v false e short = let same : Wanting ≡ Faulty = ap progress_of (sym short) ∙ e in absurd cc

-- what a place says of all octets that may follow
abbrev pub Ahead : Place → List Frame → List ℕ → Type 0
Ahead place frames octets = (more : List ℕ) → progress_of (reading (octets ++ more)) ≡ progress_at place frames more

ahead_short : (place : Place) (frames : List Frame) (octets more : List ℕ) → Ahead place frames octets → progress_at place frames more ≡ Wanting → reading (octets ++ more) ≡ Short
ahead_short place frames octets more ahead wants = short_is (reading (octets ++ more)) (ahead more ∙ wants)

open_short : (place : Place) (frames : List Frame) (octets : List ℕ) → IsOpen place frames → Ahead place frames octets → reading octets ≡ Short
open_short place frames octets is_open ahead = ap reading (sym (append-nil octets)) ∙ ahead_short place frames octets [] ahead (none_wants place frames is_open)

pub new_ahead : (frames : List Frame) → frames ≡ [] → Ahead Start frames []
unfolding reading left_progress
new_ahead frames none more = progress_reading more (value_at 32 (Within 1048576) more) ∙ ap (λ fs. progress_at Start fs more) (sym none)

pub new_short : (frames : List Frame) → frames ≡ [] → reading [] ≡ Short
new_short frames none = open_short Start [] [] tt (new_ahead [] refl)

-- ---- more octets

-- so many octets of the piece are taken, and with none of them nor with fewer is a value whole or faulty
pub record Fed (old : Scan) (place : Place) (frames : List Frame) (piece : List ℕ) (taken : ℕ) : Type 0 where
  pub ahead : (octets : List ℕ) → HasTaken old octets → Ahead place frames (octets ++ take taken piece)
  pub short : (octets : List ℕ) → HasTaken old octets → (m : ℕ) → m ≤ taken → reading (octets ++ take m piece) ≡ Short

-- the octets after those that are taken
taken_then : (octets piece : List ℕ) (taken n : ℕ) → (octets ++ take taken piece) ++ take n (drop taken piece) ≡ octets ++ take (taken + n) piece
taken_then octets piece taken n = append_assoc octets (take taken piece) (take n (drop taken piece)) ∙ ap (λ o. octets ++ o) (sym (take-add taken n piece))

-- with some of the octets after them
short_after : (old : Scan) (place : Place) (frames : List Frame) (octets piece : List ℕ) (taken n m : ℕ) → Fed old place frames piece taken → HasTaken old octets
    → ((m : ℕ) → m < n → progress_at place frames (take m (drop taken piece)) ≡ Wanting) → m < taken + n → reading (octets ++ take m piece) ≡ Short
short_after old place frames octets piece taken n m fed has short lt =
    elim (cases_lt m taken) [
      | inl few ↦ fed.short octets has m (omega arith)
      | inr le ↦
          let same : taken + (m - taken) ≡ m = omega arith in
          ap (λ k. reading (octets ++ take k piece)) (sym same) ∙ ap reading (sym (taken_then octets piece taken (m - taken)))
          ∙ ahead_short place frames (octets ++ take taken piece) (take (m - taken) (drop taken piece)) (fed.ahead octets has) (short (m - taken) (omega arith))
    ]

ahead_after : (old : Scan) (place : Place) (frames new : List Frame) (next : Next) (octets piece : List ℕ) (taken n : ℕ) → Fed old place frames piece taken → HasTaken old octets
    → Leads (λ more. progress_at place frames (take n (drop taken piece) ++ more)) next new
    → (more : List ℕ) → progress_of (reading ((octets ++ take (taken + n) piece) ++ more)) ≡ goes_on next new more
ahead_after old place frames new next octets piece taken n fed has leads more =
    ap (λ (o : List ℕ). progress_of (reading (o ++ more))) (sym (taken_then octets piece taken n))
    ∙ ap (λ o. progress_of (reading o)) (append_assoc (octets ++ take taken piece) (take n (drop taken piece)) more)
    ∙ fed.ahead octets has (take n (drop taken piece) ++ more) ∙ leads.goes more

pub fed_more : (old : Scan) (place next : Place) (frames new : List Frame) (piece rest : List ℕ) (taken n : ℕ) → Fed old place frames piece taken → rest ≡ drop taken piece
    → ((m : ℕ) → m < n → progress_at place frames (take m rest) ≡ Wanting) → Leads (λ more. progress_at place frames (take n rest ++ more)) (nexts.At next) new → Fed old next new piece (taken + n)
fed_more old place next frames new piece rest taken n fed is short leads =
    let leads_on : Leads (λ more. progress_at place frames (take n (drop taken piece) ++ more)) (nexts.At next) new =
    subst (λ (r : List ℕ). Leads (λ more. progress_at place frames (take n r ++ more)) (nexts.At next) new) is leads in
    let short_on : (m : ℕ) → m < n → progress_at place frames (take m (drop taken piece)) ≡ Wanting =
    λ m lt. ap (λ (r : List ℕ). progress_at place frames (take m r)) (sym is) ∙ short m lt in
    record {
      ahead = λ octets has more. ahead_after old place frames new (nexts.At next) octets piece taken n fed has leads_on more;
      short = λ octets has m le. elim (cases_lt m (taken + n)) [
        | inl lt ↦ short_after old place frames octets piece taken n m fed has short_on lt
        | inr all ↦
            let same : m ≡ taken + n = omega arith in
            ap (λ k. reading (octets ++ take k piece)) same
            ∙ open_short next new (octets ++ take (taken + n) piece) leads.is_open (λ more. ahead_after old place frames new (nexts.At next) octets piece taken n fed has leads_on more)
      ];
    }

pub fed_ended : (old : Scan) (place : Place) (frames new : List Frame) (octets piece rest : List ℕ) (taken n : ℕ) (whole : Bool) → Fed old place frames piece taken → rest ≡ drop taken piece
    → ((m : ℕ) → m < n → progress_at place frames (take m rest) ≡ Wanting) → Leads (λ more. progress_at place frames (take n rest ++ more)) (nexts.Ended whole) new
    → HasTaken old octets → IsEnd octets piece (record { len = taken + n; whole = whole })
fed_ended old place frames new octets piece rest taken n whole fed is short leads has =
    let leads_on : Leads (λ more. progress_at place frames (take n (drop taken piece) ++ more)) (nexts.Ended whole) new =
    subst (λ (r : List ℕ). Leads (λ more. progress_at place frames (take n r ++ more)) (nexts.Ended whole) new) is leads in
    let short_on : (m : ℕ) → m < n → progress_at place frames (take m (drop taken piece)) ≡ Wanting =
    λ m lt. ap (λ (r : List ℕ). progress_at place frames (take m r)) (sym is) ∙ short m lt in
    let ends : (more : List ℕ) → progress_of (reading ((octets ++ take (taken + n) piece) ++ more)) ≡ ended whole =
    λ more. ahead_after old place frames new (nexts.Ended whole) octets piece taken n fed has leads_on more in
    record {
      first = record {
        ended = not_short (reading (octets ++ take (taken + n) piece)) whole (ap (λ o. progress_of (reading o)) (sym (append-nil (octets ++ take (taken + n) piece))) ∙ ends []);
        before = λ m lt. short_after old place frames octets piece taken n m fed has short_on lt;
      };
      ends = ends;
    }

-- ---- octets of one value

read_of : (v : Reading) → progress_of v ≡ Whole → (tree : Tree) × (n : ℕ) × (v ≡ Read tree n)
read_of (Read tree n) e = (tree, n, refl)
read_of Short e = absurd cc
read_of (Bad at) e = absurd cc
read_of (Deep at) e = absurd cc
read_of (Long at) e = absurd cc

fault_of : (v : Reading) → progress_of v ≡ Faulty → length_read v ≡ None
fault_of (Read tree n) e = absurd cc
fault_of Short e = absurd cc
fault_of (Bad at) e = refl
fault_of (Deep at) e = refl
fault_of (Long at) e = refl

-- a spelling before the first octets is one before all
spelled_in : (octets : List ℕ) (tree : Tree) (m n : ℕ) → m ≤ n → IsSpelling bounded (take m (take n octets)) tree → IsSpelling bounded (take m octets) tree
spelled_in octets tree m n le spelled = subst (λ (l : List ℕ). IsSpelling bounded l tree) (take-take m n octets le) spelled

-- The value that is read of the first octets is that of all; it takes them all, since with fewer some are wanting.
pub whole_read : (octets : List ℕ) (end : End) → IsEnd [] octets end → end.whole ≡ true → end.len ≤ length octets → length_read (reading octets) ≡ Some end.len
whole_read octets end is whole within =
    let prefix : progress_of (reading (take end.len octets)) ≡ Whole =
    ap (λ (o : List ℕ). progress_of (reading o)) (sym (append-nil (take end.len octets))) ∙ is.ends [] ∙ ap ended whole in
    let read = read_of (reading (take end.len octets)) prefix in
    let tree : Tree = read.0 in
    let n : ℕ = read.1 in
    let found : IsReading (take end.len octets) (Read tree n) =
    subst (λ v. IsReading (take end.len octets) v) read.2 (reading_found (take end.len octets)) in
    let few : n ≤ end.len = omega (arith, found.0, length-take-le end.len octets within) in
    let spelled : IsSpelling bounded (take n octets) tree = spelled_in octets tree n end.len few found.1 in
    let all : reading octets ≡ Read tree n = one_reading octets (reading octets) (Read tree n) (reading_found octets) (omega arith, spelled) in
    ap length_read all ∙ ap Some (elim (cases_lt n end.len) [
      | inl lt ↦
          let own : IsReading (take n octets) (Read tree n) =
          (omega (arith, length-take-le n octets (omega arith)), subst (λ (l : List ℕ). IsSpelling bounded l tree) (sym (take-take n n octets (omega arith))) spelled) in
          let same : reading (take n octets) ≡ Read tree n = one_reading (take n octets) (reading (take n octets)) (Read tree n) (reading_found (take n octets)) own in
          absurd (read_not_short tree n (sym same ∙ is.first.before n lt))
      | inr le ↦ omega arith
    ])
  where
    read_not_short : (tree : Tree) (n : ℕ) → Read tree n ≢ Short
    read_not_short tree n e = absurd cc

pub fault_unread : (octets : List ℕ) (end : End) → IsEnd [] octets end → end.whole ≡ false → length_read (reading octets) ≡ None
fault_unread octets end is whole =
    fault_of (reading octets)
    (ap (λ (o : List ℕ). progress_of (reading o)) (sym (take-append-drop end.len octets)) ∙ is.ends (drop end.len octets) ∙ ap ended whole)

pub read_small : (octets : List ℕ) (n : ℕ) → length_read (reading octets) ≡ Some n → n ≤ 1048576
read_small octets n read = by (reading octets) (reading_found octets) read
  where
    by : (v : Reading) → IsReading octets v → length_read v ≡ Some n → n ≤ 1048576
    by (Read tree m) (le, (spells, within)) e =
        let same : m ≡ n = cc in
        let few = within.1 in
        omega (arith, length-take-le m octets le)
    by Short found e = absurd cc
    by (Bad at) found e = absurd cc
    by (Deep at) found e = absurd cc
    by (Long at) found e = absurd cc
