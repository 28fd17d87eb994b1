-- Values that octets begin with, by their reading.
use Rattle.std.proofs.Common.{◌≡◌, ℕ, ◌+◌, ◌<◌, ◌≤◌, List, ◌∷◌, length, drop, take, refl, ap, sym, subst, ◌∙◌, arith, length-append, zero-add, drop-cons}
use Rattle.std.specs.Prelude.{Result, Ok, Err}
use Rattle.std.proofs.lemmas.List.{drop_all, length-take-le}
use Rattle.vf_ber.specs.declared.errors.BerError.{BerError}
use Rattle.vf_ber.specs.declared.value.Value.{Value}
use Rattle.vf_ber.specs.Reader.{reading}
use Rattle.vf_ber.specs.Results.{IsAnswer}
use Rattle.vf_ber.specs.Reading.{IsFirstFault, IsReading, Reading, Read, Short, Bad, Deep, Long}
use Rattle.vf_ber.specs.Views.{tree_of}
use Rattle.vf_ber.proofs.OneTree.{spelling_long}
use Rattle.vf_ber.proofs.Plain.{reading_found}
use Rattle.vf_ber.proofs.Readings.{one_reading}
use Rattle.vf_upper_grammar.specs.declared.marks.Stop.{Stop}
use Rattle.vf_upper_grammar.specs.declared.marks.Stop.TheVariants.{At, NoMemory}
use Rattle.vf_upper_grammar.specs.ValueViews.{IsMisread, IsNext, IsSmall, IsValueIn}
use Rattle.vf_upper_grammar.specs.MarkViews.{Stops}
use Rattle.vf_upper_grammar.specs.Marks.{Mark, Found}
use Rattle.vf_upper_grammar.specs.Texts.{nothing, one, then_read}

pub reading_is : (octets : List ℕ) (v : Reading) → IsReading octets v → reading octets ≡ v
reading_is octets v is = one_reading octets (reading octets) v (reading_found octets) is

-- a fault stands within the limit of a value, since some value begins before it
fault_small : (octets : List ℕ) (at : ℕ) → IsFirstFault octets at → IsSmall at (length octets)
fault_small octets at f =
    let there = f.there in
    let b = f.before in
    let within = b.2.1.1 in
    (omega arith, omega (arith, length-append (take at octets) b.0, length-take-le at octets (omega arith)))

pub read_value : (octets : List ℕ) (read : Value) (n : ℕ) → IsAnswer (Ok (read, n)) octets → IsValueIn octets (Ok (read, n))
read_value octets read n (le, (spells, within)) =
    let long = spelling_long (take n octets) (tree_of read) spells in
    let len = length-take-le n octets le in
    let deep = within.1 in
    (reading_is octets (Read (tree_of read) n) (le, (spells, within)), (le, omega arith), omega arith)

abbrev pub IsFaultIn : List ℕ → ℕ → Type 0
IsFaultIn octets place = IsMisread (reading octets) (length octets) place × IsSmall place (length octets)

misread : (octets : List ℕ) (v : Reading) (place : ℕ) → IsReading octets v → IsMisread v (length octets) place → IsMisread (reading octets) (length octets) place
misread octets v place is m = let P : Reading → Type 0 = λ w. IsMisread w (length octets) place in subst P (sym (reading_is octets v is)) m

pub read_short : (octets : List ℕ) → IsReading octets Short → IsFaultIn octets (length octets)
read_short octets (next, rest, tree, (spells, within)) =
    let small = within.1 in
    (misread octets Short (length octets) (next, rest, tree, (spells, within)) refl, (omega arith, omega (arith, length-append octets (next ∷ rest))))

pub read_bad : (octets : List ℕ) (at : ℕ) → IsReading octets (Bad at) → IsFaultIn octets at
read_bad octets at is = (misread octets (Bad at) at is refl, fault_small octets at is.0)

pub read_deep : (octets : List ℕ) (at : ℕ) → IsReading octets (Deep at) → IsFaultIn octets at
read_deep octets at is = (misread octets (Deep at) at is refl, fault_small octets at is.0)

pub read_long : (octets : List ℕ) (at : ℕ) → IsReading octets (Long at) → IsFaultIn octets at
read_long octets at is = (misread octets (Long at) at is refl, fault_small octets at is.0)

pub answered : (octets : List ℕ) (read other : Result (Value × ℕ) BerError) → read ≡ other → IsAnswer read octets → IsAnswer other octets
answered octets read other same is = let P : Result (Value × ℕ) BerError → Type 0 = λ r. IsAnswer r octets in subst P same is

-- ---- values in turn

abbrev pub Others : Type 0
Others = ℕ → List ℕ → List Mark → Found

-- ---- one value

pub one_ends : (octets : List ℕ) (old new : List Mark) (n : ℕ) → length octets ≤ n
    → ((others : Others) → then_read 0 octets others old (reading octets) ≡ others (0 + n) (drop n octets) new) → one octets old ≡ Ok new
unfolding one
one_ends octets old new n le next = next nothing ∙ ap (λ rest. nothing (0 + n) rest new) (drop_all n octets le)

pub one_goes_on : (octets : List ℕ) (old new : List Mark) (n : ℕ) → n < length octets
    → ((others : Others) → then_read 0 octets others old (reading octets) ≡ others (0 + n) (drop n octets) new) → one octets old ≡ Err n
unfolding one
one_goes_on octets old new n lt next = next nothing ∙ ap (λ rest. nothing (0 + n) rest new) (drop-cons octets n 0 lt) ∙ ap {B = Found} Err (zero-add n)

pub one_stops : (octets : List ℕ) (old new : List Mark) (stop : Stop) → IsNext 0 octets old (Err stop) new → Stops stop (one octets old)
unfolding one
one_stops octets old new (At place) next = next nothing
one_stops octets old new NoMemory next = tt
