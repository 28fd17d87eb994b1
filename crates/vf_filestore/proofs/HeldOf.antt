-- The holders of a state's files, with one party or one docket among the others.
use Rattle.std.proofs.Common.{◌≡◌, ℕ, Bool, true, false, cond, List, [], ◌∷◌, ◌++◌, nat_eq, Option, None, Some, refl, ap, sym, ◌∙◌}
use Rattle.std.specs.Prelude.{IfSome, flat_map, nat_lt}
use Rattle.std.specs.List.{AllByRecursion}
use Rattle.std.specs.Ordering.{is_eq}
use Rattle.std.specs.Str.{bytes_eq}
use Rattle.std.specs.declared.cmp.Ordering.TheVariants.{Less, Equal, Greater}
use Rattle.std.proofs.lemmas.List.{append_assoc}
use Rattle.vf_base.specs.declared.action.Controls.{Controls}
use Rattle.vf_locks.specs.Holders.{is_same}
use Rattle.vf_locks.specs.declared.held.Held.{Held}
use Rattle.vf_locks.specs.declared.holder.Holder.{Holder}
use Rattle.vf_locks.specs.declared.holder.Holder.TheVariants.{Party, Docket}
use Rattle.vf_filestore.specs.History.{History, Regime, Selection, regime, selection}
use Rattle.vf_filestore.specs.Holders.{controls_by, held_by, held_by_docket, held_by_party, held_in, holders, put_in_order}
use Rattle.vf_filestore.specs.HoldersAfter.{IsWith}
use Rattle.vf_filestore.specs.State as states
use Rattle.vf_filestore.specs.State.{State, StandingParty, file_in, is_docket_of}
use Rattle.vf_filestore.proofs.Alone.{IsNotOn}
use Rattle.vf_filestore.proofs.Filed.{name_itself}
use Rattle.vf_filestore.proofs.HeldLists.{Around, Becomes, IsOther, among, own}
use Rattle.vf_filestore.proofs.HolderOrder.{same_dockets}
use Rattle.vf_filestore.proofs.Lists.{all-flat_map, all_append, all_weaker, flat_map-append}
use Rattle.vf_filestore.proofs.Parties.{IsOff}

-- ---- what one history holds

-- the controls on the file of one in whose history these stand
abbrev pub controls_on : (file : List ℕ) → Option Regime → Option Selection → Option Controls
controls_on file opened None = None
controls_on file opened (Some one) = cond (bytes_eq one.file file) (Some (controls_by one opened)) None

abbrev pub controls_in : History → (file : List ℕ) → Option Controls
controls_in history file = controls_on file (regime history) (selection history)

pub held_own : (file : List ℕ) (holder : Holder) (opened : Option Regime) (one : Option Selection) → held_by file holder opened one ≡ own holder (controls_on file opened one)
held_own file holder opened None = refl
held_own file holder opened (Some one) = by (bytes_eq one.file file)
  where
    by : (b : Bool) → cond b (record { holder = holder; controls = controls_by one opened } ∷ []) [] ≡ own holder (cond b (Some (controls_by one opened)) None)
    by true = refl
    by false = refl

-- of the selected file it has the controls of the selection and of the open in it, of others none
pub on_own : (opened : Option Regime) (one : Selection) → controls_on one.file opened (Some one) ≡ Some (controls_by one opened)
on_own opened one = λ i. cond (name_itself one.file i) (Some (controls_by one opened)) None

pub on_other : (opened : Option Regime) (one : Selection) (file : List ℕ) → bytes_eq one.file file ≡ false → controls_on file opened (Some one) ≡ None
on_other opened one file off = λ i. cond (off i) (Some (controls_by one opened)) None

-- what holds of a holder with any controls holds of what it holds
all_held : (P : Held → Type 0) (file : List ℕ) (holder : Holder) (history : History) → ((controls : Controls) → P (record { holder = holder; controls = controls })) → AllByRecursion P (held_in file holder history)
all_held P file holder history all = by (selection history)
  where
    by : (one : Option Selection) → AllByRecursion P (held_by file holder (regime history) one)
    by None = tt
    by (Some one) = on (bytes_eq one.file file)
      where
        on : (b : Bool) → AllByRecursion P (cond b (record { holder = holder; controls = controls_by one (regime history) } ∷ []) [])
        on true = (all (controls_by one (regime history)), tt)
        on false = tt

-- who has selected another file holds none of this one
pub none_held : (file : List ℕ) (holder : Holder) (history : History) → IsNotOn file history → held_in file holder history ≡ []
none_held file holder history off = by (selection history) off
  where
    by : (one : Option Selection) → IfSome one (λ one. bytes_eq one.file file ≡ false) → held_by file holder (regime history) one ≡ []
    by None off = refl
    by (Some one) off = λ i. cond (off i) (record { holder = holder; controls = controls_by one (regime history) } ∷ []) []

pub no_parties : (file : List ℕ) (parties : List StandingParty) → AllByRecursion (λ (party : StandingParty). IsNotOn file party.history) parties → flat_map (held_by_party file) parties ≡ []
no_parties file [] off = refl
no_parties file (party ∷ parties) off = λ i. none_held file (Party party.link) party.history off.0 i ++ no_parties file parties off.1 i

pub no_dockets : (file : List ℕ) (dockets : List states.Docket) → AllByRecursion (λ (docket : states.Docket). IsNotOn file docket.history) dockets → flat_map (held_by_docket file) dockets ≡ []
no_dockets file [] off = refl
no_dockets file (docket ∷ dockets) off = λ i. none_held file (Docket docket.identity docket.activity) docket.history off.0 i ++ no_dockets file dockets off.1 i

-- ---- others

other_link : (one link : ℕ) → nat_eq one link ≡ false → is_same (Party one) (Party link) ≡ false
other_link one link off = by (nat_lt one link)
  where
    by : (b : Bool) → is_eq (cond b Less (cond (nat_eq one link) Equal Greater)) ≡ false
    by true = refl
    by false = λ i. is_eq (cond (off i) Equal Greater)

pub parties_off : (file : List ℕ) (link : ℕ) (parties : List StandingParty) → AllByRecursion (IsOff link) parties → AllByRecursion (IsOther (Party link)) (flat_map (held_by_party file) parties)
parties_off file link parties off =
    all-flat_map (held_by_party file) (IsOther (Party link)) parties
    (all_weaker (IsOff link) (λ (party : StandingParty). AllByRecursion (IsOther (Party link)) (held_by_party file party)) parties
    (λ party is. all_held (IsOther (Party link)) file (Party party.link) party.history (λ controls. other_link party.link link is)) off)

pub dockets_no_party : (file : List ℕ) (link : ℕ) (dockets : List states.Docket) → AllByRecursion (IsOther (Party link)) (flat_map (held_by_docket file) dockets)
dockets_no_party file link [] = tt
dockets_no_party file link (docket ∷ dockets) =
    all_append (IsOther (Party link)) (held_by_docket file docket) (flat_map (held_by_docket file) dockets)
    (all_held (IsOther (Party link)) file (Docket docket.identity docket.activity) docket.history (λ controls. refl)) (dockets_no_party file link dockets)

pub parties_no_docket : (file : List ℕ) (identity : List ℕ) (activity : ℕ) (parties : List StandingParty) → AllByRecursion (IsOther (Docket identity activity)) (flat_map (held_by_party file) parties)
parties_no_docket file identity activity [] = tt
parties_no_docket file identity activity (party ∷ parties) =
    all_append (IsOther (Docket identity activity)) (held_by_party file party) (flat_map (held_by_party file) parties)
    (all_held (IsOther (Docket identity activity)) file (Party party.link) party.history (λ controls. refl)) (parties_no_docket file identity activity parties)

pub dockets_off : (file : List ℕ) (identity : List ℕ) (activity : ℕ) (dockets : List states.Docket) → AllByRecursion (λ (docket : states.Docket). is_docket_of identity activity docket ≡ false) dockets
    → AllByRecursion (IsOther (Docket identity activity)) (flat_map (held_by_docket file) dockets)
dockets_off file identity activity dockets off =
    all-flat_map (held_by_docket file) (IsOther (Docket identity activity)) dockets
    (all_weaker (λ (docket : states.Docket). is_docket_of identity activity docket ≡ false) (λ (docket : states.Docket). AllByRecursion (IsOther (Docket identity activity)) (held_by_docket file docket)) dockets
    (λ docket is.
    all_held (IsOther (Docket identity activity)) file (Docket docket.identity docket.activity) docket.history
    (λ controls. same_dockets docket.identity identity docket.activity activity ∙ is)) off)

-- ---- all holders

abbrev pub holders_of : List StandingParty → List states.Docket → (file : List ℕ) → List Held
holders_of parties dockets file = put_in_order (flat_map (held_by_party file) parties ++ flat_map (held_by_docket file) dockets)

-- those around the party of a link
abbrev pub around_party : (link : ℕ) (before after : List StandingParty) (dockets : List states.Docket) → AllByRecursion (IsOff link) before → AllByRecursion (IsOff link) after → Around (Party link)
around_party link before after dockets off_before off_after = record {
  before = λ file. flat_map (held_by_party file) before;
  after = λ file. flat_map (held_by_party file) after ++ flat_map (held_by_docket file) dockets;
  are = λ file. record {
    first = parties_off file link before off_before;
    later = all_append (IsOther (Party link)) (flat_map (held_by_party file) after) (flat_map (held_by_docket file) dockets) (parties_off file link after off_after) (dockets_no_party file link dockets);
  };
}

pub with_party_among : (before after : List StandingParty) (party : StandingParty) (dockets : List states.Docket) (file : List ℕ)
    → holders_of (before ++ party ∷ after) dockets file
    ≡ among (Party party.link) (flat_map (held_by_party file) before) (flat_map (held_by_party file) after ++ flat_map (held_by_docket file) dockets) (controls_in party.history file)
with_party_among before after party dockets file =
    let b = flat_map (held_by_party file) before in
    let a = flat_map (held_by_party file) after in
    let d = flat_map (held_by_docket file) dockets in
    let mine = held_by_party file party in
    ap put_in_order
    (ap (λ (all : List Held). all ++ d) (flat_map-append (held_by_party file) before (party ∷ after))
    ∙ append_assoc b (mine ++ a) d ∙ ap (λ (all : List Held). b ++ all) (append_assoc mine a d)
    ∙ ap (λ (one : List Held). b ++ (one ++ (a ++ d))) (held_own file (Party party.link) (regime party.history) (selection party.history)))

pub without_party_among : (before after : List StandingParty) (dockets : List states.Docket) (file : List ℕ)
    → holders_of (before ++ after) dockets file ≡ put_in_order (flat_map (held_by_party file) before ++ (flat_map (held_by_party file) after ++ flat_map (held_by_docket file) dockets))
without_party_among before after dockets file =
    let b = flat_map (held_by_party file) before in
    let a = flat_map (held_by_party file) after in
    let d = flat_map (held_by_docket file) dockets in
    ap put_in_order (ap (λ (all : List Held). all ++ d) (flat_map-append (held_by_party file) before after) ∙ append_assoc b a d)

-- those around a docket
abbrev pub around_docket : (identity : List ℕ) (activity : ℕ) (parties : List StandingParty) (before after : List states.Docket)
    → AllByRecursion (λ (docket : states.Docket). is_docket_of identity activity docket ≡ false) before → AllByRecursion (λ (docket : states.Docket). is_docket_of identity activity docket ≡ false) after
    → Around (Docket identity activity)
around_docket identity activity parties before after off_before off_after = record {
  before = λ file. flat_map (held_by_party file) parties ++ flat_map (held_by_docket file) before;
  after = λ file. flat_map (held_by_docket file) after;
  are = λ file. record {
    first = all_append (IsOther (Docket identity activity)) (flat_map (held_by_party file) parties) (flat_map (held_by_docket file) before)
        (parties_no_docket file identity activity parties) (dockets_off file identity activity before off_before);
    later = dockets_off file identity activity after off_after;
  };
}

pub with_docket_among : (parties : List StandingParty) (before after : List states.Docket) (docket : states.Docket) (file : List ℕ)
    → holders_of parties (before ++ docket ∷ after) file
    ≡ among (Docket docket.identity docket.activity) (flat_map (held_by_party file) parties ++ flat_map (held_by_docket file) before) (flat_map (held_by_docket file) after) (controls_in docket.history file)
with_docket_among parties before after docket file =
    let p = flat_map (held_by_party file) parties in
    let b = flat_map (held_by_docket file) before in
    let a = flat_map (held_by_docket file) after in
    let mine = held_by_docket file docket in
    ap put_in_order
    (ap (λ (all : List Held). p ++ all) (flat_map-append (held_by_docket file) before (docket ∷ after))
    ∙ sym (append_assoc p b (mine ++ a))
    ∙ ap (λ (one : List Held). (p ++ b) ++ (one ++ a)) (held_own file (Docket docket.identity docket.activity) (regime docket.history) (selection docket.history)))

pub without_docket_among : (parties : List StandingParty) (before after : List states.Docket) (file : List ℕ)
    → holders_of parties (before ++ after) file ≡ put_in_order ((flat_map (held_by_party file) parties ++ flat_map (held_by_docket file) before) ++ flat_map (held_by_docket file) after)
without_docket_among parties before after file =
    let p = flat_map (held_by_party file) parties in
    let b = flat_map (held_by_docket file) before in
    let a = flat_map (held_by_docket file) after in
    ap put_in_order (ap (λ (all : List Held). p ++ all) (flat_map-append (held_by_docket file) before after) ∙ sym (append_assoc p b a))

-- ---- of states

-- what becomes of the holders in a state's lists is what becomes of them in the state
pub in_states : (before after : State) (file : List ℕ) (change : List Held → List Held) (was next : (file : List ℕ) → List Held) → ((one : List ℕ) → holders before one ≡ was one) → ((one : List ℕ) → holders after one ≡ next one)
    → Becomes file (change (was file)) was next → IsWith file (change (holders before file)) before after
in_states before after file change was next is_before is_after becomes other =
    is_after other ∙ becomes other ∙ sym (λ i. cond (bytes_eq file other) (change (is_before file i)) (is_before other i))
