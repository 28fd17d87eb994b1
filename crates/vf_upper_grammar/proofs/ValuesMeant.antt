-- Octets that are read as values mean those values.
use Rattle.std.proofs.Common.{◌≡◌, ℕ, zero, suc, ◌+◌, ◌<◌, ◌≤◌, Bool, true, false, List, [], ◌∷◌, ◌++◌, length, drop, take, refl, ap, sym, subst, ◌∙◌, append-nil, arith, length-append}
use Rattle.std.specs.Prelude.{nat_eq, Option, None, Some, Ok, Err, if◌then◌else◌}
use Rattle.std.specs.Option.{option_and_then, option_map}
use Rattle.std.proofs.lemmas.Bool.Decides.{nat_tests}
use Rattle.std.proofs.lemmas.List.{drop_at, length-drop, take_at}
use Rattle.vf_ber.proofs.OneTree.{spelling_begins}
use Rattle.vf_ber.proofs.Plain.{reading_found}
use Rattle.vf_ber.proofs.Readings.{none_short}
use Rattle.vf_ber.specs.Reader.{reading}
use Rattle.vf_ber.specs.Reading.{IsReading, Reading, Read, Short, Bad, Deep, Long}
use Rattle.vf_ber.specs.Spellings.{SpellInTurn, Spells}
use Rattle.vf_ber.specs.Tree.{depth, depth_in, more, none, Tree, Trees}
use Rattle.vf_upper_grammar.specs.Forms.{◌>>=◌, Form, in_order, Tags}
use Rattle.vf_upper_grammar.specs.Marks.{Found, Mark, value}
use Rattle.vf_upper_grammar.specs.Meanings as meanings
use Rattle.vf_upper_grammar.specs.Meanings.{alone, any, in_turn, is_tagged, list_of, Meaning, tagged, values, values_by, values_in}
use Rattle.vf_upper_grammar.specs.Meant.{Agrees, IsFault}
use Rattle.vf_upper_grammar.specs.Modules as modules
use Rattle.vf_upper_grammar.specs.Parts.{parts_of, Text}
use Rattle.vf_upper_grammar.specs.Texts.{after, go_on, nothing, OctetForm, one, prefix, some, then_read, typed, typed_by, unless}
use Rattle.vf_upper_grammar.specs.Types.{required}
use Rattle.vf_upper_grammar.proofs.Agreeing.{agrees-along, agrees-meant, fault-along, is_low, regroup, Right, then-fault}
use Rattle.vf_upper_grammar.proofs.InTurn.{some_at, some-at, some-step, Takes, takes}
use Rattle.vf_upper_grammar.proofs.Ordered.{order-agrees, RightFields}
use Rattle.vf_upper_grammar.proofs.Readings.{reading_is}
use Rattle.vf_upper_grammar.proofs.Spelled.{parts-spelled}

-- ---- values in turn, one by one

by-same : (octets : List ℕ) (f g : List ℕ → Option (List Tree)) (v : Reading) → Takes octets v → ((other : List ℕ) → length other < length octets → f other ≡ g other)
    → values_by f octets v ≡ values_by g octets v
by-same octets f g (Read tree n) t agree = let first = t.0 in let within = t.1 in ap (option_map (λ trees. tree ∷ trees)) (agree (drop n octets) (omega (arith, length-drop n octets)))
by-same octets f g Short t agree = refl
by-same octets f g (Bad at) t agree = refl
by-same octets f g (Deep at) t agree = refl
by-same octets f g (Long at) t agree = refl

values-same : (t u : ℕ) (octets : List ℕ) → length octets ≤ t → length octets ≤ u → values_in t octets ≡ values_in u octets
unfolding values_in
values-same zero zero [] a b = refl
values-same zero (suc u) [] a b = refl
values-same (suc t) zero [] a b = refl
values-same (suc t) (suc u) [] a b = refl
values-same zero u (octet ∷ octets) a b = absurd (omega arith)
values-same (suc t) zero (octet ∷ octets) a b = absurd (omega arith)
values-same (suc t) (suc u) (octet ∷ octets) a b =
    by-same (octet ∷ octets) (values_in t) (values_in u) (reading (octet ∷ octets)) (takes (octet ∷ octets)) (λ other lt. values-same t u other (omega arith) (omega arith))

pub values-none : values [] ≡ Some []
unfolding values values_in
values-none = refl

pub values-next : (octet : ℕ) (octets : List ℕ) → values (octet ∷ octets) ≡ values_by values (octet ∷ octets) (reading (octet ∷ octets))
unfolding values values_in
values-next octet octets =
    by-same (octet ∷ octets) (values_in (length octets)) values (reading (octet ∷ octets)) (takes (octet ∷ octets))
    (λ other lt. values-same (length octets) (length other) other (omega arith) (omega arith))

-- the same of octets that begin so
values-begin : (octets : List ℕ) (octet : ℕ) (others : List ℕ) → octets ≡ octet ∷ others → values octets ≡ values_by values octets (reading octets)
values-begin octets octet others e = let P : List ℕ → Type 0 = λ o. values o ≡ values_by values o (reading o) in subst P (sym e) (values-next octet others)

-- ---- octets that spell values are those values

pub reading-first : (first rest : List ℕ) (tree : Tree) → Spells first tree → depth tree ≤ 32 → length first ≤ 1048576 → reading (first ++ rest) ≡ Read tree (length first)
reading-first first rest tree spelled shallow few =
    let same = take_at first rest (length first) refl in
    let le : length first ≤ length (first ++ rest) = omega (arith, length-append first rest) in
    reading_is (first ++ rest) (Read tree (length first))
    (le, (subst (λ (o : List ℕ). Spells o tree) (sym same) spelled, (shallow, omega (arith, ap length same))))

pub values-spelled : (trees : Trees) (octets : List ℕ) → SpellInTurn octets trees → depth_in trees ≤ 32 → length octets ≤ 1048576 → values octets ≡ Some (list_of trees)
values-spelled none octets same shallow few = ap values same ∙ values-none
values-spelled (more tree trees) octets (first, rest, one, spelled, same) shallow few =
    let all = first ++ rest in
    let long = length-append first rest in
    let few_all : length all ≤ 1048576 = omega (arith, ap length same) in
    let begins = spelling_begins first tree one in
    ap values same
    ∙ values-begin all begins.0 (begins.1 ++ rest) (ap (λ o. o ++ rest) begins.3)
    ∙ ap (values_by values all) (reading-first first rest tree one (omega arith) (omega arith))
    ∙ ap (λ o. option_map (λ ts. tree ∷ ts) (values o)) (drop_at first rest (length first) refl)
    ∙ ap (option_map (λ ts. tree ∷ ts)) (values-spelled trees rest spelled (omega arith) (omega arith))

-- ---- some values where there are octets

-- none, or a first one and others
abbrev pub SomeOrNone : Option (List Tree) → Type 0
SomeOrNone None = Unit {0}
SomeOrNone (Some []) = ⊥
SomeOrNone (Some (tree ∷ trees)) = Unit {0}

mapped : (tree : Tree) (o : Option (List Tree)) → SomeOrNone (option_map (λ ts. tree ∷ ts) o)
mapped tree None = tt
mapped tree (Some trees) = tt

by-some : (octets : List ℕ) (v : Reading) → SomeOrNone (values_by values octets v)
by-some octets (Read tree n) = mapped tree (values (drop n octets))
by-some octets Short = tt
by-some octets (Bad at) = tt
by-some octets (Deep at) = tt
by-some octets (Long at) = tt

pub values-some : (octet : ℕ) (octets : List ℕ) → SomeOrNone (values (octet ∷ octets))
values-some octet octets = subst SomeOrNone (sym (values-next octet octets)) (by-some (octet ∷ octets) (reading (octet ∷ octets)))

pub more-than-one : (meaning : Meaning) (tree : Tree) (o : Option (List Tree)) → SomeOrNone o → option_and_then (alone meaning) (option_map (λ ts. tree ∷ ts) o) ≡ None
more-than-one meaning tree None some = refl
more-than-one meaning tree (Some []) some = absurd some
more-than-one meaning tree (Some (other ∷ trees)) some = refl

-- ---- forms of octets

pub record RightOctets (form : OctetForm) (meaning : List Tree → Option (List Mark)) : Type 0 where
  pub agrees : (octets : List ℕ) (found : List Mark) → Agrees (form octets found) found (option_and_then meaning (values octets))

pub reading-none : reading [] ≡ Short
reading-none = reading_is [] Short none_short

-- where nothing is read, nothing is meant
abbrev Misread : Reading → Type 0
Misread (Read tree n) = ⊥
Misread other = Unit {0}

misread-none : (octets : List ℕ) (v : Reading) → Misread v → values_by values octets v ≡ None
misread-none octets (Read tree n) m = absurd m
misread-none octets Short m = refl
misread-none octets (Bad at) m = refl
misread-none octets (Deep at) m = refl
misread-none octets (Long at) m = refl

misread-fault : (at : ℕ) (octets : List ℕ) (others : ℕ → List ℕ → List Mark → Found) (found : List Mark) (v : Reading) → Misread v → IsFault (then_read at octets others found v)
misread-fault at octets others found (Read tree n) m = absurd m
misread-fault at octets others found Short m = tt
misread-fault at octets others found (Bad p) m = tt
misread-fault at octets others found (Deep p) m = tt
misread-fault at octets others found (Long p) m = tt

-- one value, and what stands after it
one-rest : (at : ℕ) (tree : Tree) (rest : List ℕ) (found : List Mark) → Agrees (nothing at rest (found ++ value tree ∷ [])) found (option_and_then (alone any) (option_map (λ ts. tree ∷ ts) (values rest)))
one-rest at tree [] found = agrees-meant (nothing at [] (found ++ value tree ∷ [])) found _ (Some (value tree ∷ [])) (ap (λ o. option_and_then (alone any) (option_map (λ ts. tree ∷ ts) o)) values-none) refl
one-rest at tree (octet ∷ octets) found = agrees-meant (Err at) found _ None (more-than-one any tree (values (octet ∷ octets)) (values-some octet octets)) tt

one-by : (octets : List ℕ) (v : Reading) (found : List Mark) → Agrees (then_read 0 octets nothing found v) found (option_and_then (alone any) (values_by values octets v))
one-by octets (Read tree n) found = one-rest (0 + n) tree (drop n octets) found
one-by octets Short found = tt
one-by octets (Bad at) found = tt
one-by octets (Deep at) found = tt
one-by octets (Long at) found = tt

pub one-right : RightOctets one (alone any)
unfolding one
one-right = record { agrees = by }
  where
    by : (octets : List ℕ) (found : List Mark) → Agrees (one octets found) found (option_and_then (alone any) (values octets))
    by [] found =
        agrees-meant (one [] found) found _ None (ap (option_and_then (alone any)) values-none)
        (fault-along (one [] found) _ (ap (then_read 0 [] nothing found) reading-none) tt)
    by (octet ∷ octets) found =
        agrees-meant (one (octet ∷ octets) found) found _ _ (ap (option_and_then (alone any)) (values-next octet octets)) (one-by (octet ∷ octets) (reading (octet ∷ octets)) found)

-- ---- one value or more

first-of-some : (tree : Tree) (o : Option (List Tree)) → SomeOrNone o
    → option_and_then meanings.some (option_map (λ ts. tree ∷ ts) o) ≡ in_turn (Some (value tree ∷ [])) (option_and_then meanings.some o)
first-of-some tree None some = refl
first-of-some tree (Some []) some = absurd some
first-of-some tree (Some (other ∷ trees)) some = refl

some-rest : (at : ℕ) (tree : Tree) (rest : List ℕ) (found : List Mark)
    → ((octet : ℕ) (octets : List ℕ) → rest ≡ octet ∷ octets → Agrees (some_at at rest (found ++ value tree ∷ [])) (found ++ value tree ∷ []) (option_and_then meanings.some (values rest)))
    → Agrees (go_on some_at at rest (found ++ value tree ∷ [])) found (option_and_then meanings.some (option_map (λ ts. tree ∷ ts) (values rest)))
some-rest at tree [] found others =
    agrees-meant (Ok (found ++ value tree ∷ [])) found _ (Some (value tree ∷ [])) (ap (λ o. option_and_then meanings.some (option_map (λ ts. tree ∷ ts) o)) values-none) refl
some-rest at tree (octet ∷ octets) found others =
    agrees-meant _ found _ _ (first-of-some tree (values (octet ∷ octets)) (values-some octet octets))
    (regroup _ found (value tree ∷ []) (option_and_then meanings.some (values (octet ∷ octets))) (others octet octets refl))

some-by : (at : ℕ) (octets : List ℕ) (v : Reading) (found : List Mark)
    → ((tree : Tree) (n : ℕ) → v ≡ Read tree n → (octet : ℕ) (others : List ℕ) → drop n octets ≡ octet ∷ others
    → Agrees (some_at (at + n) (drop n octets) (found ++ value tree ∷ [])) (found ++ value tree ∷ []) (option_and_then meanings.some (values (drop n octets))))
    → Agrees (then_read at octets (go_on some_at) found v) found (option_and_then meanings.some (values_by values octets v))
some-by at octets (Read tree n) found others = some-rest (at + n) tree (drop n octets) found (others tree n refl)
some-by at octets Short found others = tt
some-by at octets (Bad p) found others = tt
some-by at octets (Deep p) found others = tt
some-by at octets (Long p) found others = tt

takes_read : (octets : List ℕ) (v : Reading) (tree : Tree) (n : ℕ) → v ≡ Read tree n → Takes octets v → (0 < n) × (n ≤ length octets)
takes_read octets v tree n e t = let P : Reading → Type 0 = λ w. Takes octets w in subst P e t

some-agrees : (turns at : ℕ) (octets : List ℕ) (octet : ℕ) (others : List ℕ) (found : List Mark) → octets ≡ octet ∷ others → length octets ≤ turns
    → Agrees (some_at at octets found) found (option_and_then meanings.some (values octets))
some-agrees zero at octets octet others found e le = absurd (omega (arith, ap length e))
some-agrees (suc turns) at octets octet others found e le =
    agrees-meant _ found _ _ (ap (option_and_then meanings.some) (values-begin octets octet others e))
    (agrees-along _ _ found _ (some-step at octets found)
    (some-by at octets (reading octets) found
    (λ tree n is first rest same.
    let t = takes_read octets (reading octets) tree n is (takes octets) in
    let some = t.0 in let within = t.1 in
    some-agrees turns (at + n) (drop n octets) first rest (found ++ value tree ∷ []) same (omega (arith, length-drop n octets)))))

pub some-right : RightOctets some meanings.some
some-right = record { agrees = by }
  where
    by : (octets : List ℕ) (found : List Mark) → Agrees (some octets found) found (option_and_then meanings.some (values octets))
    by [] found =
        agrees-meant (some [] found) found _ None (ap (option_and_then meanings.some) values-none)
        (fault-along (some [] found) _ (some-at [] found ∙ some-step 0 [] found ∙ ap (then_read 0 [] (go_on some_at) found) reading-none) tt)
    by (octet ∷ octets) found =
        agrees-along _ _ found _ (some-at (octet ∷ octets) found) (some-agrees (suc (length octets)) 0 (octet ∷ octets) octet octets found refl (omega arith))

-- ---- a value with a tag

abbrev meant_if : Bool → Option (List Mark) → Option (List Mark) → Option (List Mark)
meant_if b x y = if b then x else y

turn-nil : (o : Option (List Mark)) → in_turn o (Some []) ≡ o
turn-nil None = refl
turn-nil (Some marks) = ap Some (append-nil marks)

one-field : (tags : Tags) (meaning : Meaning) (tree : Tree) → meanings.in_order (modules.required tags meaning ∷ []) (tree ∷ []) ≡ tagged tags meaning tree
one-field tags meaning tree = ap (λ o. meant_if (is_tagged tags tree) o None) (turn-nil (meaning tree))

unless-fault : (x : Found) (place : ℕ) → IsFault (x >>= unless (Some place))
unless-fault x place = then-fault x (unless (Some place)) (λ marks. tt)

unless-none : (x : Found) → (x >>= unless None) ≡ x
unless-none (Ok marks) = refl
unless-none (Err place) = refl

text_in : List ℕ → Text
text_in octets = record { octets = octets; at = 0; whole = true }

-- the parts of octets that are one value
abbrev read_field : Tags → Form → List ℕ → List Mark → Found
read_field tags read octets found =
    in_order (parts_of (record { octets = octets; at = 0; whole = true })) false (required tags read ∷ []) (required tags read ∷ []) found

field-agrees : (tags : Tags) (read : Form) (meaning : Meaning) → is_low tags ≡ true → Right read meaning → (tree : Tree) (octets : List ℕ) (found : List Mark)
    → Spells octets tree → depth tree ≤ 32 → length octets ≤ 1048576 → Agrees (read_field tags read octets found) found (tagged tags meaning tree)
field-agrees tags read meaning small right tree octets found spelled shallow few =
    let rights : RightFields (required tags read ∷ []) (modules.required tags meaning ∷ []) = (record { tags = refl; required = refl; small = small; right = right }, tt) in
    let parts = parts-spelled (more tree none) (record { octets = octets; at = 0; whole = true }) refl (octets, [], spelled, refl, sym (append-nil octets)) (omega arith) few in
    agrees-meant _ found _ _ (sym (one-field tags meaning tree))
    (order-agrees false (required tags read ∷ []) (modules.required tags meaning ∷ []) rights (required tags read ∷ []) (modules.required tags meaning ∷ []) rights (λ t k. k) (tree ∷ []) _ found parts)

-- what stands after the value is a fault
typed-rest : (n : ℕ) (octets : List ℕ) (x : Found) (found : List Mark) (tree : Tree) (meaning : Meaning) → n ≤ length octets → Agrees x found (meaning tree)
    → Agrees (x >>= unless (after n (length octets))) found (option_and_then (alone meaning) (option_map (λ ts. tree ∷ ts) (values (drop n octets))))
typed-rest n octets x found tree meaning le agrees = by (drop n octets) refl
  where
    ends_here : length (drop n octets) ≡ 0 → after n (length octets) ≡ None
    ends_here e = let long = length-drop n octets in let same : nat_eq n (length octets) ≡ true = grind (arith, nat_tests) in ap (λ b. if b then None else Some n) same

    goes_on : (k : ℕ) → length (drop n octets) ≡ suc k → after n (length octets) ≡ Some n
    goes_on k e = let long = length-drop n octets in let other : nat_eq n (length octets) ≡ false = grind (arith, nat_tests) in ap (λ b. if b then None else Some n) other

    by : (rest : List ℕ) → drop n octets ≡ rest → Agrees (x >>= unless (after n (length octets))) found (option_and_then (alone meaning) (option_map (λ ts. tree ∷ ts) (values (drop n octets))))
    by [] e =
        agrees-meant _ found _ (meaning tree) (ap (λ o. option_and_then (alone meaning) (option_map (λ ts. tree ∷ ts) (values o))) e ∙ ap (λ o. option_and_then (alone meaning) (option_map (λ ts. tree ∷ ts) o)) values-none)
        (agrees-along _ x found _ (ap (λ f. x >>= unless f) (ends_here (ap length e)) ∙ unless-none x) agrees)
    by (octet ∷ others) e =
        agrees-meant _ found _ None
        (ap (λ o. option_and_then (alone meaning) (option_map (λ ts. tree ∷ ts) (values o))) e ∙ more-than-one meaning tree (values (octet ∷ others)) (values-some octet others))
        (fault-along _ (x >>= unless (Some n)) (ap (λ f. x >>= unless f) (goes_on (length others) (ap length e))) (unless-fault x n))

typed-agrees : (tags : Tags) (read : Form) (meaning : Meaning) → is_low tags ≡ true → Right read meaning → (octets : List ℕ) (found : List Mark) (v : Reading) → IsReading octets v
    → Agrees (typed_by tags read (prefix octets v) found) found (option_and_then (alone (tagged tags meaning)) (values_by values octets v))
typed-agrees tags read meaning small right octets found (Read tree n) (le, spelled) =
    typed-rest n octets (read_field tags read (take n octets) found) found tree (tagged tags meaning) le
    (field-agrees tags read meaning small right tree (take n octets) found spelled.0 spelled.1.0 spelled.1.1)
typed-agrees tags read meaning small right octets found Short is = unless-fault _ (length octets)
typed-agrees tags read meaning small right octets found (Bad at) is = unless-fault _ at
typed-agrees tags read meaning small right octets found (Deep at) is = unless-fault _ at
typed-agrees tags read meaning small right octets found (Long at) is = unless-fault _ at

pub typed-right : (tags : Tags) (read : Form) (meaning : Meaning) → is_low tags ≡ true → Right read meaning → RightOctets (typed tags read) (alone (tagged tags meaning))
unfolding typed
typed-right tags read meaning small right = record { agrees = by }
  where
    by : (octets : List ℕ) (found : List Mark) → Agrees (typed tags read octets found) found (option_and_then (alone (tagged tags meaning)) (values octets))
    by [] found =
        agrees-meant (typed tags read [] found) found _ None (ap (option_and_then (alone (tagged tags meaning))) values-none)
        (fault-along (typed tags read [] found) _ (ap (λ v. typed_by tags read (prefix [] v) found) reading-none) (unless-fault _ 0))
    by (octet ∷ octets) found =
        agrees-meant (typed tags read (octet ∷ octets) found) found _ _ (ap (option_and_then (alone (tagged tags meaning))) (values-next octet octets))
        (typed-agrees tags read meaning small right (octet ∷ octets) found (reading (octet ∷ octets)) (reading_found (octet ∷ octets)))
