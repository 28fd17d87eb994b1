-- A stop and a break change nothing that a store keeps.
use Rattle.std.proofs.Common.{◌≡◌, ℕ, ◌≤◌, Bool, true, false, cond, List, [], ◌∷◌, ◌++◌, nat_eq, Option, None, Some, refl, ap, sym, subst, ◌∙◌, arith}
use Rattle.std.specs.Prelude.{IsSome, flat_map, nat_le, is_some}
use Rattle.std.specs.List.{AllByRecursion, IsDistinct, fold}
use Rattle.std.proofs.lemmas.Bool.{eqb-false, le-leb, leb-false, leb-true, lt-leb}
use Rattle.std.proofs.lemmas.List.{append_assoc, append-nil}
use Rattle.vf_attr.specs.declared.file.File.{File}
use Rattle.vf_filestore.specs.Dockets.{broken, docket_by, docket_left_by, dockets_left, retained, stopped}
use Rattle.vf_filestore.specs.History.{Regime, regime}
use Rattle.vf_filestore.specs.Laws.{BreaksKeep, StopsBegin, StopsKeep}
use Rattle.vf_filestore.specs.Sound.{IsSound, IsSoundParty, Standing, is_same_number, standing_by, standing_of_docket, standing_of_party, IsNested}
use Rattle.vf_filestore.specs.State as states
use Rattle.vf_filestore.specs.State.{State, StandingParty, activity_in, activity_of, identity_of, party_of, without_party}
use Rattle.vf_filestore.specs.Tables.{all_dockets, in_order, number_in, number_of_open, row_of, tables_of}
use Rattle.vf_filestore.proofs.Broken.{broken_is, none_kept, stopped_sound}
use Rattle.vf_filestore.proofs.Lists.{all_left, all_right, distinct_less, flat_map-append, all_append}
use Rattle.vf_filestore.proofs.Parties.{located}
use Rattle.vf_filestore.proofs.Soundness.{retains}

-- ---- rows in the order of opens

abbrev pub ordered : List states.Docket → List states.Docket → List states.Docket
ordered first dockets = fold (λ (ordered : List states.Docket) (docket : states.Docket). in_order docket ordered) first dockets

pub ordered_append : (first dockets others : List states.Docket) → ordered first (dockets ++ others) ≡ ordered (ordered first dockets) others
ordered_append first [] others = refl
ordered_append first (docket ∷ dockets) others = ordered_append (in_order docket first) dockets others

-- numbers that differ are in one order
pub data Order (one other : ℕ) : Type 0 where
  comes_first : nat_le one other ≡ true → nat_le other one ≡ false → Order one other
  comes_later : nat_le one other ≡ false → nat_le other one ≡ true → Order one other

order : (one other : ℕ) → nat_eq one other ≡ false → Order one other
order one other off = by (nat_le one other) refl
  where
    by : (b : Bool) → nat_le one other ≡ b → Order one other
    by true is =
        let differ : one ≡ other → ⊥ = eqb-false one other off in
        let less : one ≤ other = leb-true one other is in
        comes_first is (lt-leb other one (omega (arith, less, differ)))
    by false is = comes_later is (le-leb other one (omega (arith, leb-false one other is)))

-- two dockets whose numbers differ may be put in either order
swap : (one other : states.Docket) (list : List states.Docket) → nat_eq (number_of_open one) (number_of_open other) ≡ false
    → in_order one (in_order other list) ≡ in_order other (in_order one list)
swap one other [] off = by (order (number_of_open one) (number_of_open other) off)
  where
    by : Order (number_of_open one) (number_of_open other) → in_order one (other ∷ []) ≡ in_order other (one ∷ [])
    by (comes_first a b) = (λ i. cond (b i) (other ∷ one ∷ []) (one ∷ other ∷ [])) ∙ sym (λ i. cond (a i) (one ∷ other ∷ []) (other ∷ one ∷ []))
    by (comes_later a b) = (λ i. cond (b i) (other ∷ one ∷ []) (one ∷ other ∷ [])) ∙ sym (λ i. cond (a i) (one ∷ other ∷ []) (other ∷ one ∷ []))
swap one other (first ∷ list) off =
    by (nat_le (number_of_open first) (number_of_open one)) refl (nat_le (number_of_open first) (number_of_open other)) refl (order (number_of_open one) (number_of_open other) off) (swap one other list off)
  where
    f : ℕ
    f = number_of_open first

    by : (t : Bool) → nat_le (number_of_open first) (number_of_open one) ≡ t → (u : Bool) → nat_le (number_of_open first) (number_of_open other) ≡ u → Order (number_of_open one) (number_of_open other)
        → in_order one (in_order other list) ≡ in_order other (in_order one list)
        → in_order one (cond u (first ∷ in_order other list) (other ∷ first ∷ list)) ≡ in_order other (cond t (first ∷ in_order one list) (one ∷ first ∷ list))
    by true e true g which rest =
        (λ i. cond (e i) (first ∷ in_order one (in_order other list)) (one ∷ first ∷ in_order other list))
        ∙ ap (λ (later : List states.Docket). first ∷ later) rest
        ∙ sym (λ i. cond (g i) (first ∷ in_order other (in_order one list)) (other ∷ first ∷ in_order one list))
    by true e false g which rest =
        let less : nat_le (number_of_open other) (number_of_open one) ≡ true = le-leb (number_of_open other) (number_of_open one) (omega (arith, leb-true (number_of_open first) (number_of_open one) e, leb-false (number_of_open first) (number_of_open other) g)) in
        (λ i. cond (less i) (other ∷ in_order one (first ∷ list)) (one ∷ other ∷ first ∷ list))
        ∙ (λ i. other ∷ cond (e i) (first ∷ in_order one list) (one ∷ first ∷ list))
        ∙ sym (λ i. cond (g i) (first ∷ in_order other (in_order one list)) (other ∷ first ∷ in_order one list))
    by false e true g which rest =
        let less : nat_le (number_of_open one) (number_of_open other) ≡ true = le-leb (number_of_open one) (number_of_open other) (omega (arith, leb-true (number_of_open first) (number_of_open other) g, leb-false (number_of_open first) (number_of_open one) e)) in
        (λ i. cond (e i) (first ∷ in_order one (in_order other list)) (one ∷ first ∷ in_order other list))
        ∙ sym ((λ i. cond (less i) (one ∷ in_order other (first ∷ list)) (other ∷ one ∷ first ∷ list))
        ∙ (λ i. one ∷ cond (g i) (first ∷ in_order other list) (other ∷ first ∷ list)))
    by false e false g (comes_first a b) rest =
        (λ i. cond (b i) (other ∷ in_order one (first ∷ list)) (one ∷ other ∷ first ∷ list))
        ∙ sym ((λ i. cond (a i) (one ∷ in_order other (first ∷ list)) (other ∷ one ∷ first ∷ list))
        ∙ (λ i. one ∷ cond (g i) (first ∷ in_order other list) (other ∷ first ∷ list)))
    by false e false g (comes_later a b) rest =
        (λ i. cond (b i) (other ∷ in_order one (first ∷ list)) (one ∷ other ∷ first ∷ list))
        ∙ (λ i. other ∷ cond (e i) (first ∷ in_order one list) (one ∷ first ∷ list))
        ∙ sym (λ i. cond (a i) (one ∷ in_order other (first ∷ list)) (other ∷ one ∷ first ∷ list))

-- a docket that is put before or after others
abbrev pub IsOtherNumber : states.Docket → states.Docket → Type 0
IsOtherNumber docket other = nat_eq (number_of_open other) (number_of_open docket) ≡ false

pub ordered_past : (docket : states.Docket) (others later first : List states.Docket) → AllByRecursion (IsOtherNumber docket) others
    → ordered first (docket ∷ (others ++ later)) ≡ ordered first (others ++ docket ∷ later)
ordered_past docket [] later first off = refl
ordered_past docket (other ∷ others) later first off =
    ap (λ (start : List states.Docket). ordered start (others ++ later)) (swap other docket first off.0)
    ∙ ordered_past docket others later (in_order other first) off.1

-- ---- stops

pub same_tables : (state other : State) → other.users ≡ state.users → other.files ≡ state.files → other.tasks ≡ state.tasks → all_dockets other ≡ all_dockets state → tables_of other ≡ tables_of state
same_tables state other users files tasks dockets =
    λ i. record { users = users i; files = files i; dockets = flat_map row_of (dockets i); tasks = tasks i }

pub stops_keep : StopsKeep
stops_keep state =
    same_tables state (stopped state) refl refl refl (ap (ordered []) (append-nil (state.dockets ++ flat_map docket_left_by state.parties)))

pub stops_begin : StopsBegin
stops_begin state sound = record { kept = stops_keep state; alone = refl; sound = stopped_sound state sound }

-- ---- breaks

distinct_middle : {A : Type 0} (e : A → A → Bool) (xs : List A) (y : A) (ys : List A) → IsDistinct e (xs ++ y ∷ ys) → AllByRecursion (λ x. e x y ≡ false) xs
unfolding IsDistinct
distinct_middle e [] y ys distinct = tt
distinct_middle e (x ∷ xs) y ys distinct = ((all_right (λ z. e x z ≡ false) xs (y ∷ ys) distinct.0).0, distinct_middle e xs y ys distinct.1)

-- the docket that a party leaves has the number of its open
pub left_number : (party : StandingParty) (activity : ℕ) → IsNested party.history
    → number_in (regime (retained party.history)) ≡ number_in (regime party.history)
left_number party activity nested = ap number_in (retains party.history nested).opens

left_other : (files : List File) (docket : states.Docket) (one : Standing) (party : StandingParty) → one.number ≡ number_of_open docket → IsSoundParty files party
    → AllByRecursion (λ (other : Standing). is_same_number other one ≡ false) (standing_of_party party) → AllByRecursion (IsOtherNumber docket) (docket_left_by party)
left_other files docket one party is sound off = by (activity_of party) refl
  where
    number : (regime_one : Option Regime) → regime party.history ≡ regime_one → IsSome (activity_in regime_one) → AllByRecursion (λ (other : Standing). is_same_number other one ≡ false) (standing_by (identity_of party) regime_one)
        → nat_eq (number_in regime_one) (number_of_open docket) ≡ false
    number None same some off = absurd cc
    number (Some opened) same some off = ap (nat_eq opened.number) (sym is) ∙ off.0

    by : (activity : Option ℕ) → activity_in (regime party.history) ≡ activity → AllByRecursion (IsOtherNumber docket) (docket_by activity party)
    by None e = tt
    by (Some activity) e = (
      ap (λ n. nat_eq n (number_of_open docket)) (ap number_in (retains party.history sound.sound.nested).opens)
          ∙ number (regime party.history) refl (ap is_some e) off,
      tt,
    )

all_left_other : (files : List File) (docket : states.Docket) (one : Standing) (parties : List StandingParty) → one.number ≡ number_of_open docket → AllByRecursion (IsSoundParty files) parties
    → AllByRecursion (λ (other : Standing). is_same_number other one ≡ false) (flat_map standing_of_party parties) → AllByRecursion (IsOtherNumber docket) (flat_map docket_left_by parties)
all_left_other files docket one [] is sound off = tt
all_left_other files docket one (party ∷ parties) is sound off =
    all_append (IsOtherNumber docket) (docket_left_by party) (flat_map docket_left_by parties)
    (left_other files docket one party is sound.0 (all_left (λ (other : Standing). is_same_number other one ≡ false) (standing_of_party party) (flat_map standing_of_party parties) off))
    (all_left_other files docket one parties is sound.1 (all_right (λ (other : Standing). is_same_number other one ≡ false) (standing_of_party party) (flat_map standing_of_party parties) off))

broken_ordered : (state : State) (party : StandingParty) (before after : List StandingParty) → IsSound state → state.parties ≡ before ++ party ∷ after
    → ordered [] ((state.dockets ++ docket_left_by party) ++ flat_map docket_left_by (before ++ after)) ≡ ordered [] (state.dockets ++ flat_map docket_left_by (before ++ party ∷ after))
broken_ordered state party before after sound is =
    ap (λ (all : List states.Docket). ordered [] ((state.dockets ++ docket_left_by party) ++ all)) (flat_map-append docket_left_by before after)
    ∙ ap (ordered []) (append_assoc state.dockets (docket_left_by party) (flat_map docket_left_by before ++ flat_map docket_left_by after))
    ∙ ordered_append [] state.dockets (docket_left_by party ++ (flat_map docket_left_by before ++ flat_map docket_left_by after))
    ∙ by (activity_of party) refl
    ∙ sym (ordered_append [] state.dockets (flat_map docket_left_by before ++ (docket_left_by party ++ flat_map docket_left_by after)))
    ∙ sym (ap (λ (all : List states.Docket). ordered [] (state.dockets ++ all)) (flat_map-append docket_left_by before (party ∷ after)))
  where
    parties : AllByRecursion (IsSoundParty state.files) (before ++ party ∷ after)
    parties = subst (λ (all : List StandingParty). AllByRecursion (IsSoundParty state.files) all) is sound.parties

    apart : IsDistinct is_same_number (flat_map standing_of_party before ++ (standing_of_party party ++ flat_map standing_of_party after))
    apart =
        subst (λ (all : List Standing). IsDistinct is_same_number all) (flat_map-append standing_of_party before (party ∷ after))
        (subst (λ (all : List StandingParty). IsDistinct is_same_number (flat_map standing_of_party all)) is
        (distinct_less is_same_number (flat_map standing_of_docket state.dockets) (flat_map standing_of_party state.parties) sound.numbered.apart))

    off : (one : Option Regime) → regime party.history ≡ one → (activity : ℕ) → activity_in one ≡ Some activity → IsDistinct is_same_number (flat_map standing_of_party before ++ (standing_by (identity_of party) one ++ flat_map standing_of_party after))
        → AllByRecursion (IsOtherNumber (record { identity = identity_of party; activity = activity; history = retained party.history })) (flat_map docket_left_by before)
    off None same activity is distinct = absurd cc
    off (Some opened) same activity is distinct =
        let one : Standing = record { identity = identity_of party; activity = opened.activity; number = opened.number } in
        let own = (all_right (IsSoundParty state.files) before (party ∷ after) parties).0 in
        all_left_other state.files (record { identity = identity_of party; activity = activity; history = retained party.history }) one before
        (sym (ap number_in ((retains party.history own.sound.nested).opens ∙ same)))
        (all_left (IsSoundParty state.files) before (party ∷ after) parties)
        (distinct_middle is_same_number (flat_map standing_of_party before) one (flat_map standing_of_party after) distinct)

    by : (activity : Option ℕ) → activity_in (regime party.history) ≡ activity
        → ordered (ordered [] state.dockets) (docket_by activity party ++ (flat_map docket_left_by before ++ flat_map docket_left_by after))
        ≡ ordered (ordered [] state.dockets) (flat_map docket_left_by before ++ (docket_by activity party ++ flat_map docket_left_by after))
    by None e = refl
    by (Some activity) e =
        ordered_past (record { identity = identity_of party; activity = activity; history = retained party.history }) (flat_map docket_left_by before) (flat_map docket_left_by after) (ordered [] state.dockets)
        (off (regime party.history) refl activity e apart)

pub breaks_keep : BreaksKeep
breaks_keep state link sound = by (party_of link state.parties) refl
  where
    by : (found : Option StandingParty) → party_of link state.parties ≡ found → tables_of (broken link state) ≡ tables_of state
    by None none =
        same_tables state (broken link state) refl refl refl
        ((λ i. ordered [] ((state.dockets ++ dockets_left (none i)) ++ flat_map docket_left_by (none_kept link state.parties none i)))
        ∙ ap (λ (all : List states.Docket). ordered [] (all ++ flat_map docket_left_by state.parties)) (append-nil state.dockets))
    by (Some party) found =
        let at = located link state.parties party found in
        ap tables_of (broken_is state link party at sound.linked)
        ∙ same_tables state (record state { parties = at.before ++ at.after; dockets = state.dockets ++ docket_left_by party }) refl refl refl
        (broken_ordered state party at.before at.after sound at.is ∙ ap (λ (all : List StandingParty). ordered [] (state.dockets ++ flat_map docket_left_by all)) (sym at.is))
