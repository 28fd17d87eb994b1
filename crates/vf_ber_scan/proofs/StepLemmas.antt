-- What an octet leads to at each place.
use Rattle.std.proofs.Common.{◌≡◌, ◌≢◌, ℕ, zero, suc, ◌+◌, ◌-◌, ◌*◌, ◌/◌, ◌%◌, ◌<◌, ◌≤◌, ◌^◌, Bool, true, false, cond, List, [], ◌∷◌, ◌++◌, length, take, drop, get_or, refl, ap, sym, ◌∙◌, arith, length-append, nat_eq, nat_lt, inl, inr, ◌⊎◌}
use Rattle.std.specs.Prelude.{Some, None, ◌&&◌, slice_get}
use Rattle.std.proofs.Math.Seq.{drop-append-add}
use Rattle.std.proofs.lemmas.Bool.{and_from, cond-true, cond-false, lt-ltb, le-ltb, ltb-true, ltb-false, ne_eqb}
use Rattle.std.proofs.lemmas.List.{take_all}
use Rattle.vf_ber.specs.declared.fitting.Around.{Around}
use Rattle.vf_ber.specs.declared.room.Room.{Room}
use Rattle.vf_ber.specs.Reader.{digits_at, end_at, ended_at, parts_at, value_at}
use Rattle.vf_ber.specs.Steps.{first_fits, length_fits, reaches, grown}
use Rattle.vf_ber.specs.Reading.{bounded}
use Rattle.vf_ber.proofs.Digits.{grown_step, grown_few, grown_more}
use Rattle.vf_ber.proofs.NameSteps.{first_parts}
use Rattle.vf_ber.proofs.SizeSteps.{long_parts}
use Rattle.vf_ber_scan.specs.declared.frames.Frame.{Frame}
use Rattle.vf_ber_scan.specs.declared.frames.Frame.TheVariants.{Definite, Indefinite}
use Rattle.vf_ber_scan.specs.declared.place.Next.{Next}
use Rattle.vf_ber_scan.specs.declared.place.Next.TheVariants as nexts
use Rattle.vf_ber_scan.specs.declared.place.Place.{Place}
use Rattle.vf_ber_scan.specs.declared.place.Place.TheVariants.{Start, Second, Third, Length, Digits, Contents, End}
use Rattle.vf_ber_scan.specs.Frames.{depth_in, end_room_in, ended_in, room_in}
use Rattle.vf_ber_scan.specs.Places.{IsGoing, IsOpen}
use Rattle.vf_ber_scan.specs.Continuation.{left_progress, after, then_progress, value_progress, contents_progress, progress_at, Leads}
use Rattle.vf_ber_scan.specs.Progress.{Wanting, Whole}
use Rattle.vf_ber_scan.proofs.ValueLemmas.{definite_goes_on, definite_ends, indefinite_goes_on, indefinite_ends, value_none, value_some, length_first, digit_first}

-- ---- where a value begins

pub first_none : (frames : List Frame) (first : ℕ) → first_fits bounded (depth_in frames) (room_in frames) first ≡ false → Leads (λ more. value_progress frames (first ∷ more)) (nexts.Ended false) frames
first_none frames first fails = record { goes = λ more. value_none frames first more fails; is_open = tt }

room_left : (frames : List Frame) (first : ℕ) → first_fits bounded (depth_in frames) (room_in frames) first ≡ true → length frames < 32
room_left frames first fits =
    let deep : 0 < depth_in frames = ltb-true 0 (depth_in frames) (first_parts bounded (depth_in frames) (room_in frames) first fits).deep in omega arith

pub first_short : (frames : List Frame) (first : ℕ) → first < 256 → first_fits bounded (depth_in frames) (room_in frames) first ≡ true → first % 32 < 31
    → Leads (λ more. value_progress frames (first ∷ more)) (nexts.At (Length (nat_eq (first / 32 % 2) 1) 1)) frames
first_short frames first small fits low =
    record { goes = λ more. value_some frames first more small fits ∙ cond-true _ _ _ (lt-ltb (first % 32) 31 low); is_open = (room_left frames first fits, omega arith) }

pub first_long : (frames : List Frame) (first : ℕ) → first < 256 → first_fits bounded (depth_in frames) (room_in frames) first ≡ true → 31 ≤ first % 32
    → Leads (λ more. value_progress frames (first ∷ more)) (nexts.At (Second (nat_eq (first / 32 % 2) 1))) frames
first_long frames first small fits high =
    record { goes = λ more. value_some frames first more small fits ∙ cond-false _ _ _ (le-ltb (first % 32) 31 high); is_open = room_left frames first fits }

-- at the beginning of the end of contents
pub start_ends : (room : Room) (frames rest : List Frame) (octet : ℕ) → end_room_in frames ≡ Some room → octet ≡ 0 → rest ≡ drop 1 frames
    → Leads (λ more. progress_at Start frames (octet ∷ more)) (nexts.At (End room)) rest
start_ends room [] rest octet ends is rest_is = absurd cc
start_ends room (Definite left ∷ frames) rest octet ends is rest_is = absurd cc
start_ends room (Indefinite around ∷ frames) rest octet ends is rest_is =
    let same : around ≡ room = cc in
    record {
      goes = λ more.
          ap (λ o. after (Indefinite around ∷ frames) (o ∷ more)) is ∙ indefinite_ends around frames more
          ∙ ap (λ r. then_progress (end_at more) (λ parts tail. after (ended_in frames r) tail)) same
          ∙ ap (λ fs. then_progress (end_at more) (λ parts tail. after (ended_in fs room) tail)) (sym rest_is);
      is_open = tt;
    }

-- at the beginning of a value
start_is : (frames : List Frame) (octet : ℕ) (more : List ℕ) → IsGoing frames → (end_room_in frames ≡ None) ⊎ (octet ≢ 0) → progress_at Start frames (octet ∷ more) ≡ value_progress frames (octet ∷ more)
start_is [] octet more going other = refl
start_is (Definite left ∷ frames) octet more going other = definite_goes_on left octet frames more going
start_is (Indefinite room ∷ frames) octet more going (inl none) = absurd cc
start_is (Indefinite room ∷ frames) octet more going (inr other) = indefinite_goes_on room octet frames more other

pub start_begins : (frames new : List Frame) (octet : ℕ) (next : Next) → IsGoing frames → (end_room_in frames ≡ None) ⊎ (octet ≢ 0) → Leads (λ more. value_progress frames (octet ∷ more)) next new
    → Leads (λ more. progress_at Start frames (octet ∷ more)) next new
start_begins frames new octet next going other leads = record { goes = λ more. start_is frames octet more going other ∙ leads.goes more; is_open = leads.is_open }

-- ---- lengths

pub length_short : (frames new : List Frame) (constructed : Bool) (prefix octet : ℕ) (next : Next) → length_fits bounded (depth_in frames) (room_in frames) prefix constructed octet ≡ true
    → octet < 128 → Leads (λ more. contents_progress frames (prefix + 1) constructed (Some octet) more) next new
    → Leads (λ more. progress_at (Length constructed prefix) frames (octet ∷ more)) next new
length_short frames new constructed prefix octet next fits short leads =
    record {
      goes = λ more. length_first frames constructed prefix octet more ∙ cond-true _ _ _ fits ∙ cond-true _ _ _ (lt-ltb octet 128 short) ∙ leads.goes more;
      is_open = leads.is_open;
    }

pub length_long : (frames : List Frame) (constructed : Bool) (prefix octet : ℕ) → length_fits bounded (depth_in frames) (room_in frames) prefix constructed octet ≡ true
    → IsOpen (Length constructed prefix) frames → 128 ≤ octet → octet ≢ 128
    → Leads (λ more. progress_at (Length constructed prefix) frames (octet ∷ more)) (nexts.At (Digits constructed (prefix + 1 + (octet - 128)) (octet - 128) 0)) frames
length_long frames constructed prefix octet fits (room, near) high other =
    let few : octet ≤ 136 = (long_parts bounded (depth_in frames) (room_in frames) prefix constructed octet (omega arith) fits).0 in
    let most : grown (octet - 128) (0 + 1) ≤ 2 ^ 64 = grown_few (octet - 128) (omega arith) in
    record {
      goes = λ more.
          length_first frames constructed prefix octet more ∙ cond-true _ _ _ fits ∙ cond-false _ _ _ (le-ltb octet 128 high) ∙ cond-false _ _ _ (ne_eqb octet 128 other);
      is_open = (room, omega arith, omega arith, most);
    }

pub digit_none : (frames : List Frame) (constructed : Bool) (prefix others high digit : ℕ) → 0 < others
    → reaches bounded (depth_in frames) (room_in frames) prefix constructed (others - 1) (256 * high + digit) ≡ false
    → Leads (λ more. progress_at (Digits constructed prefix others high) frames (digit ∷ more)) (nexts.Ended false) frames
digit_none frames constructed prefix others high digit some fails =
    record {
      goes = λ more. digit_first frames constructed prefix others high digit more _ some ∙ cond-false _ _ _ (right_false (nat_lt digit 256) _ fails);
      is_open = tt;
    }
  where
    right_false : (a b : Bool) → b ≡ false → (a && b) ≡ false
    right_false true b e = e
    right_false false b e = refl

digit_goes : (frames : List Frame) (constructed : Bool) (prefix others high digit : ℕ) (more : List ℕ) → 0 < others → digit < 256
    → reaches bounded (depth_in frames) (room_in frames) prefix constructed (others - 1) (256 * high + digit) ≡ true
    → progress_at (Digits constructed prefix others high) frames (digit ∷ more) ≡ progress_at (Digits constructed prefix (others - 1) (256 * high + digit)) frames more
digit_goes frames constructed prefix others high digit more some small fits =
    digit_first frames constructed prefix others high digit more _ some ∙ cond-true _ _ _ (and_from (nat_lt digit 256) _ (lt-ltb digit 256 small) fits)

pub digit_last : (frames new : List Frame) (constructed : Bool) (prefix others high digit : ℕ) (next : Next) → 0 < others → digit < 256 → others - 1 ≡ 0
    → reaches bounded (depth_in frames) (room_in frames) prefix constructed (others - 1) (256 * high + digit) ≡ true
    → Leads (λ more. contents_progress frames prefix constructed (Some (256 * high + digit)) more) next new
    → Leads (λ more. progress_at (Digits constructed prefix others high) frames (digit ∷ more)) next new
unfolding digits_at
digit_last frames new constructed prefix others high digit next some small last fits leads =
    record {
      goes = λ more.
          digit_goes frames constructed prefix others high digit more some small fits
          ∙ ap (λ k. progress_at (Digits constructed prefix k (256 * high + digit)) frames more) last ∙ leads.goes more;
      is_open = leads.is_open;
    }

-- the number that the octets of a length make stays within 64 bits
pub digit_small : (others high digit : ℕ) → 0 < others → digit < 256 → grown others (high + 1) ≤ 2 ^ 64 → grown (others - 1) (256 * high + digit + 1) ≤ 2 ^ 64
digit_small others high digit some small le =
    omega (arith, le, grown_step others (high + 1) some, grown_more (others - 1) (256 * high + digit + 1) (256 * (high + 1)) (omega arith))

pub digit_next : (frames : List Frame) (constructed : Bool) (prefix others high digit : ℕ) → IsOpen (Digits constructed prefix others high) frames → digit < 256 → others - 1 ≢ 0
    → reaches bounded (depth_in frames) (room_in frames) prefix constructed (others - 1) (256 * high + digit) ≡ true
    → Leads (λ more. progress_at (Digits constructed prefix others high) frames (digit ∷ more)) (nexts.At (Digits constructed prefix (others - 1) (256 * high + digit))) frames
digit_next frames constructed prefix others high digit (room, near, some, le) small last fits =
    record {
      goes = λ more. digit_goes frames constructed prefix others high digit more some small fits;
      is_open = (room, near, omega arith, digit_small others high digit some small le);
    }

-- ---- contents

-- ---- after a value

-- an innermost value of which nothing is left
pub none_left : (frames rest : List Frame) (frame : Frame) (left : ℕ) (more : List ℕ) → slice_get frames 0 ≡ Some frame → frame ≡ Definite left → left ≤ 0 → rest ≡ drop 1 frames
    → after frames more ≡ after rest more
none_left [] rest frame left more top is none rest_is = absurd cc
none_left (first ∷ frames) rest frame left more top is none rest_is =
    let zero_left : left ≡ 0 = omega arith in
    let same : first ≡ Definite 0 = cc in
    ap (λ f. after (f ∷ frames) more) same ∙ definite_ends frames more ∙ ap (λ fs. after fs more) (sym rest_is)

-- the outermost value is whole
pub all_ended : (frames : List Frame) (more : List ℕ) → slice_get frames 0 ≡ None → after frames more ≡ Whole
unfolding left_progress
all_ended [] more top = refl
all_ended (first ∷ frames) more top = absurd cc

-- ---- octets of the contents

pub one_octet : (place : Place) (old new : List Frame) (rest : List ℕ) (next : Next) → 0 < length rest → Leads (λ more. progress_at place old (get_or rest 0 0 ∷ more)) next new
    → Leads (λ more. progress_at place old (take 1 rest ++ more)) next new
one_octet place old new [] next some leads = absurd (omega arith)
one_octet place old new (octet ∷ rest) next some leads = leads

pub contents_go_on : (place : Place) (left : ℕ) (frames : List Frame) (rest : List ℕ) → place ≡ Contents left → length rest < left
    → Leads (λ more. progress_at place frames (take (length rest) rest ++ more)) (nexts.At (Contents (left - length rest))) frames
contents_go_on place left frames rest is few =
    record {
      goes = λ more.
          ap (λ p. progress_at p frames (take (length rest) rest ++ more)) is
          ∙ ap (λ o. progress_at (Contents left) frames (o ++ more)) (take_all (length rest) rest (omega arith))
          ∙ by more (nat_lt (length more) (left - length rest)) refl;
      is_open = omega arith;
    }
  where
    by : (more : List ℕ) (b : Bool) → nat_lt (length more) (left - length rest) ≡ b
        → progress_at (Contents left) frames (rest ++ more) ≡ cond (nat_lt (length more) (left - length rest)) Wanting (after frames (drop (left - length rest) more))
    by more true e =
        let lt = ltb-true (length more) (left - length rest) e in
        cond-true (nat_lt (length (rest ++ more)) left) Wanting _ (lt-ltb (length (rest ++ more)) left (omega (arith, length-append rest more)))
        ∙ sym (cond-true (nat_lt (length more) (left - length rest)) Wanting _ e)
    by more false e =
        let le = ltb-false (length more) (left - length rest) e in
        let total : left ≡ length rest + (left - length rest) = omega arith in
        cond-false (nat_lt (length (rest ++ more)) left) Wanting _ (le-ltb (length (rest ++ more)) left (omega (arith, length-append rest more)))
        ∙ ap (after frames) (ap (λ k. drop k (rest ++ more)) total ∙ drop-append-add rest more (left - length rest))
        ∙ sym (cond-false (nat_lt (length more) (left - length rest)) Wanting _ e)

-- ---- no octets

pub none_wants : (place : Place) (frames : List Frame) → IsOpen place frames → progress_at place frames [] ≡ Wanting
unfolding left_progress value_at parts_at ended_at digits_at
none_wants Start [] is_open = refl
none_wants Start (Definite zero ∷ frames) is_open = absurd (omega arith)
none_wants Start (Definite (suc left) ∷ frames) is_open = refl
none_wants Start (Indefinite room ∷ frames) is_open = refl
none_wants (Second constructed) frames is_open = refl
none_wants (Third constructed) frames is_open = refl
none_wants (Length constructed prefix) frames is_open = refl
none_wants (Digits constructed prefix zero high) frames is_open = let some = is_open.2 in absurd (omega arith)
none_wants (Digits constructed prefix (suc others) high) frames is_open = refl
none_wants (Contents left) frames is_open = cond-true (nat_lt 0 left) Wanting _ (lt-ltb 0 left is_open)
none_wants (End room) frames is_open = refl

-- ---- tests

pub length_around : (frames : List Frame) (around : Around) (constructed : Bool) (prefix octet : ℕ) (answer b : Bool)
    → around ≡ record { depth = depth_in frames; room = room_in frames; prefix = prefix; constructed = constructed }
    → answer ≡ length_fits bounded around.depth around.room around.prefix around.constructed octet → answer ≡ b
    → length_fits bounded (depth_in frames) (room_in frames) prefix constructed octet ≡ b
length_around frames around constructed prefix octet answer b is says e =
    ap (λ (a : Around). length_fits bounded a.depth a.room a.prefix a.constructed octet) (sym is) ∙ sym says ∙ e

pub reaches_around : (frames : List Frame) (around : Around) (constructed : Bool) (prefix others high : ℕ) (answer b : Bool)
    → around ≡ record { depth = depth_in frames; room = room_in frames; prefix = prefix; constructed = constructed }
    → answer ≡ reaches bounded around.depth around.room around.prefix around.constructed others high → answer ≡ b
    → reaches bounded (depth_in frames) (room_in frames) prefix constructed others high ≡ b
reaches_around frames around constructed prefix others high answer b is says e =
    ap (λ (a : Around). reaches bounded a.depth a.room a.prefix a.constructed others high) (sym is) ∙ sym says ∙ e
