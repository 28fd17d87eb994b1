-- Lists of what parties and dockets have, where an association ends, all end, and a docket is dropped or taken up again.
use Rattle.std.proofs.Common.{◌≡◌, ℕ, Bool, true, false, cond, not, List, [], ◌∷◌, ◌++◌, Option, None, Some, ap, sym, subst, ◌∙◌}
use Rattle.std.specs.Prelude.{flat_map}
use Rattle.std.specs.List.{AllByRecursion}
use Rattle.std.specs.List.Sorted.{IsPermutation}
use Rattle.std.proofs.lemmas.List.{append_assoc, append-nil}
use Rattle.vf_attr.specs.declared.file.File.{File}
use Rattle.vf_pdu_fields.proofs.Plain.{some_is}
use Rattle.vf_filestore.specs.Dockets.{docket_by, docket_left_by, retained}
use Rattle.vf_filestore.specs.Sound.{IsSoundParty}
use Rattle.vf_filestore.specs.State.{Docket, StandingParty, activity_of, docket_of, identity_of, is_docket_of, without_docket}
use Rattle.vf_filestore.proofs.Lists.{flat_map-append, to_front, to_middle}

-- what holds of a list holds where it is put in another order, or has fewer
pub record Stays {A : Type 0} (Q : List A → Type 0) : Type 0 where
  pub moves : (xs ys : List A) → IsPermutation xs ys → Q xs → Q ys
  pub shrinks : (gone xs : List A) → Q (gone ++ xs) → Q xs

-- what each party and each docket has
pub record Has (A : Type 0) : Type 0 where
  pub of_party : StandingParty → List A
  pub of_docket : Docket → List A

abbrev pub all_of : {A : Type 0} → Has A → List Docket → List StandingParty → List A
all_of has dockets parties = flat_map has.of_docket dockets ++ flat_map has.of_party parties

-- a docket has what its party had
abbrev pub Leaves : {A : Type 0} → Has A → Type 0
Leaves has =
    (files : List File) (party : StandingParty) (activity : ℕ) → IsSoundParty files party
    → has.of_docket (record { identity = identity_of party; activity = activity; history = retained party.history }) ≡ has.of_party party

-- ---- a part elsewhere, or gone

pub moved : {A : Type 0} (Q : List A → Type 0) → Stays Q → (d b x a : List A) → Q (d ++ (b ++ (x ++ a))) → Q ((d ++ x) ++ (b ++ a))
moved {A} Q stays d b x a all =
    let first = stays.moves (d ++ (b ++ (x ++ a))) (x ++ (d ++ (b ++ a))) (to_front d b x a) all in
    let next = stays.moves (x ++ (d ++ (b ++ a))) (d ++ (x ++ (b ++ a))) (to_middle d [] x (b ++ a)) first in
    subst Q (sym (append_assoc d x (b ++ a))) next

pub gone : {A : Type 0} (Q : List A → Type 0) → Stays Q → (d b x a : List A) → Q (d ++ (b ++ (x ++ a))) → Q (d ++ (b ++ a))
gone Q stays d b x a all = stays.shrinks x (d ++ (b ++ a)) (stays.moves (d ++ (b ++ (x ++ a))) (x ++ (d ++ (b ++ a))) (to_front d b x a) all)

-- ---- an association ends

left : {A : Type 0} (Q : List A → Type 0) → Stays Q → (has : Has A) → Leaves has → (files : List File) (party : StandingParty) (d b a : List A) → IsSoundParty files party
    → Q (d ++ (b ++ (has.of_party party ++ a))) → Q ((d ++ flat_map has.of_docket (docket_left_by party)) ++ (b ++ a))
left {A} Q stays has leaves files party d b a sound all = by (activity_of party)
  where
    by : (activity : Option ℕ) → Q ((d ++ flat_map has.of_docket (docket_by activity party)) ++ (b ++ a))
    by None = subst (λ (one : List A). Q (one ++ (b ++ a))) (sym (append-nil d)) (gone Q stays d b (has.of_party party) a all)
    by (Some activity) =
        let docket : Docket = record { identity = identity_of party; activity = activity; history = retained party.history } in
        subst (λ (one : List A). Q ((d ++ one) ++ (b ++ a))) (sym (append-nil (has.of_docket docket) ∙ leaves files party activity sound)) (moved Q stays d b (has.of_party party) a all)

pub all_left_by : {A : Type 0} (Q : List A → Type 0) → Stays Q → (has : Has A) → Leaves has → (files : List File) (party : StandingParty) (dockets : List Docket) (before after : List StandingParty) → IsSoundParty files party
    → Q (all_of has dockets (before ++ party ∷ after)) → Q (all_of has (dockets ++ docket_left_by party) (before ++ after))
all_left_by {A} Q stays has leaves files party dockets before after sound all =
    let d = flat_map has.of_docket dockets in
    let b = flat_map has.of_party before in
    let a = flat_map has.of_party after in
    let parted : Q (d ++ (b ++ (has.of_party party ++ a))) = subst (λ (one : List A). Q (d ++ one)) (flat_map-append has.of_party before (party ∷ after)) all in
    subst (λ (one : List A). Q (one ++ flat_map has.of_party (before ++ after))) (sym (flat_map-append has.of_docket dockets (docket_left_by party)))
    (subst (λ (one : List A). Q ((d ++ flat_map has.of_docket (docket_left_by party)) ++ one)) (sym (flat_map-append has.of_party before after)) (left Q stays has leaves files party d b a sound parted))

-- ---- all end

all_left : {A : Type 0} (Q : List A → Type 0) → Stays Q → (has : Has A) → Leaves has → (files : List File) (parties : List StandingParty) (d : List A) → AllByRecursion (IsSoundParty files) parties
    → Q (d ++ flat_map has.of_party parties) → Q (d ++ flat_map has.of_docket (flat_map docket_left_by parties))
all_left Q stays has leaves files [] d sound all = all
all_left {A} Q stays has leaves files (party ∷ parties) d sound all =
    let own = flat_map has.of_docket (docket_left_by party) in
    let others = flat_map has.of_docket (flat_map docket_left_by parties) in
    let first = left Q stays has leaves files party d [] (flat_map has.of_party parties) sound.0 all in
    let rest = all_left Q stays has leaves files parties (d ++ own) sound.1 first in
    subst (λ (one : List A). Q (d ++ one)) (sym (flat_map-append has.of_docket (docket_left_by party) (flat_map docket_left_by parties))) (subst Q (append_assoc d own others) rest)

pub all_stopped : {A : Type 0} (Q : List A → Type 0) → Stays Q → (has : Has A) → Leaves has → (files : List File) (dockets : List Docket) (parties : List StandingParty) → AllByRecursion (IsSoundParty files) parties
    → Q (all_of has dockets parties) → Q (all_of has (dockets ++ flat_map docket_left_by parties) [])
all_stopped Q stays has leaves files dockets parties sound all =
    subst Q (sym (append-nil (flat_map has.of_docket (dockets ++ flat_map docket_left_by parties)) ∙ flat_map-append has.of_docket dockets (flat_map docket_left_by parties)))
    (all_left Q stays has leaves files parties (flat_map has.of_docket dockets) sound all)

-- ---- a docket is dropped

dropped_from : {A : Type 0} (Q : List A → Type 0) → Stays Q → (of_docket : Docket → List A) (identity : List ℕ) (activity : ℕ) (dockets : List Docket) (d p : List A) → Q (d ++ (flat_map of_docket dockets ++ p))
    → Q (d ++ (flat_map of_docket (without_docket identity activity dockets) ++ p))
dropped_from Q stays of_docket identity activity [] d p all = all
dropped_from {A} Q stays of_docket identity activity (docket ∷ dockets) d p all =
    by (is_docket_of identity activity docket) (dropped_from Q stays of_docket identity activity dockets)
  where
    by : (b : Bool) → ((d p : List A) → Q (d ++ (flat_map of_docket dockets ++ p)) → Q (d ++ (flat_map of_docket (without_docket identity activity dockets) ++ p)))
        → Q (d ++ (flat_map of_docket (cond (not b) (docket ∷ without_docket identity activity dockets) (without_docket identity activity dockets)) ++ p))
    by true rest =
        rest d p (gone Q stays d [] (of_docket docket) (flat_map of_docket dockets ++ p) (subst (λ (one : List A). Q (d ++ one)) (append_assoc (of_docket docket) (flat_map of_docket dockets) p) all))
    by false rest =
        let own = of_docket docket in
        let others = flat_map of_docket dockets in
        let left = flat_map of_docket (without_docket identity activity dockets) in
        let parted : Q ((d ++ own) ++ (others ++ p)) = subst Q (ap (λ (one : List A). d ++ one) (append_assoc own others p) ∙ sym (append_assoc d own (others ++ p))) all in
        subst Q (append_assoc d own (left ++ p) ∙ sym (ap (λ (one : List A). d ++ one) (append_assoc own left p))) (rest (d ++ own) p parted)

pub all_dropped : {A : Type 0} (Q : List A → Type 0) → Stays Q → (has : Has A) → (identity : List ℕ) (activity : ℕ) (dockets : List Docket) (parties : List StandingParty)
    → Q (all_of has dockets parties) → Q (all_of has (without_docket identity activity dockets) parties)
all_dropped Q stays has identity activity dockets parties all = dropped_from Q stays has.of_docket identity activity dockets [] (flat_map has.of_party parties) all

-- ---- a docket is taken up again

-- what a docket has comes first, and it is a docket no more
recovered_first : {A : Type 0} (Q : List A → Type 0) → Stays Q → (of_docket : Docket → List A) (identity : List ℕ) (activity : ℕ) (dockets : List Docket) (docket : Docket) (pre post : List A)
    → docket_of identity activity dockets ≡ Some docket → Q (pre ++ (flat_map of_docket dockets ++ post)) → Q (of_docket docket ++ (pre ++ (flat_map of_docket (without_docket identity activity dockets) ++ post)))
recovered_first Q stays of_docket identity activity [] docket pre post found all = absurd cc
recovered_first {A} Q stays of_docket identity activity (first ∷ dockets) docket pre post found all =
    by (is_docket_of identity activity first) found (recovered_first Q stays of_docket identity activity dockets docket (pre ++ of_docket first) post)
  where
    parted : (r : List A) → pre ++ ((of_docket first ++ r) ++ post) ≡ (pre ++ of_docket first) ++ (r ++ post)
    parted r = ap (λ (list : List A). pre ++ list) (append_assoc (of_docket first) r post) ∙ sym (append_assoc pre (of_docket first) (r ++ post))

    by : (b : Bool) → cond b (Some first) (docket_of identity activity dockets) ≡ Some docket
        → (docket_of identity activity dockets ≡ Some docket → Q ((pre ++ of_docket first) ++ (flat_map of_docket dockets ++ post))
        → Q (of_docket docket ++ ((pre ++ of_docket first) ++ (flat_map of_docket (without_docket identity activity dockets) ++ post))))
        → Q (of_docket docket ++ (pre ++ (flat_map of_docket (cond (not b) (first ∷ without_docket identity activity dockets) (without_docket identity activity dockets)) ++ post)))
    by true found rest =
        let own = of_docket first in
        let others = flat_map of_docket dockets in
        let left = flat_map of_docket (without_docket identity activity dockets) in
        let flat : Q (pre ++ (own ++ (others ++ post))) = subst (λ (list : List A). Q (pre ++ list)) (append_assoc own others post) all in
        let fronted : Q ((own ++ pre) ++ (others ++ post))
        = subst Q (sym (append_assoc own pre (others ++ post))) (stays.moves (pre ++ (own ++ (others ++ post))) (own ++ (pre ++ (others ++ post))) (to_front pre [] own (others ++ post)) flat) in
        let dropped : Q (own ++ (pre ++ (left ++ post))) = subst Q (append_assoc own pre (left ++ post)) (dropped_from Q stays of_docket identity activity dockets (own ++ pre) post fronted) in
        subst (λ (one : Docket). Q (of_docket one ++ (pre ++ (flat_map of_docket (without_docket identity activity dockets) ++ post)))) (some_is first docket found) dropped
    by false found rest =
        let later = rest found (subst Q (parted (flat_map of_docket dockets)) all) in
        subst (λ (list : List A). Q (of_docket docket ++ list)) (sym (parted (flat_map of_docket (without_docket identity activity dockets)))) later

-- where the party had nothing, it has what its docket had
pub recovered : {A : Type 0} (Q : List A → Type 0) → Stays Q → (has : Has A) (identity : List ℕ) (activity : ℕ) (dockets : List Docket) (docket : Docket) (b a : List A)
    → docket_of identity activity dockets ≡ Some docket → Q (flat_map has.of_docket dockets ++ (b ++ a))
    → Q (flat_map has.of_docket (without_docket identity activity dockets) ++ (b ++ (has.of_docket docket ++ a)))
recovered Q stays has identity activity dockets docket b a found all =
    let d = flat_map has.of_docket (without_docket identity activity dockets) in
    stays.moves (has.of_docket docket ++ (d ++ (b ++ a))) (d ++ (b ++ (has.of_docket docket ++ a))) (to_middle d b (has.of_docket docket) a)
    (recovered_first Q stays has.of_docket identity activity dockets docket [] (b ++ a) found all)
