-- Where no other holder of a file stands, no other selection is of it.
use Rattle.std.proofs.Common.{◌≡◌, ℕ, Bool, true, false, cond, not, List, [], ◌∷◌, ◌++◌, find, nat_eq, Option, None, Some, refl}
use Rattle.std.specs.Prelude.{IfSome, flat_map, nat_lt}
use Rattle.std.specs.List.{AllByRecursion, fold}
use Rattle.std.specs.Option.{option_map}
use Rattle.std.specs.Ordering.{is_eq}
use Rattle.std.specs.declared.cmp.Ordering.TheVariants.{Less, Equal, Greater}
use Rattle.std.specs.Str.{bytes_eq}
use Rattle.vf_base.specs.declared.action.Action.{Action}
use Rattle.vf_locks.specs.Holders.{first_other, in_order, is_same, stands_before}
use Rattle.vf_locks.specs.declared.held.Held.{Held}
use Rattle.vf_locks.specs.declared.holder.Holder.{Holder}
use Rattle.vf_locks.specs.declared.holder.Holder.TheVariants.{Party, Docket}
use Rattle.vf_filestore.specs.History.{History, Selection, regime, selection}
use Rattle.vf_filestore.specs.Holders.{alone_row, conflict_with, controls_by, held_by, held_by_docket, held_by_party, held_in, holders}
use Rattle.vf_filestore.specs.State as states
use Rattle.vf_filestore.specs.State.{State, StandingParty}
use Rattle.vf_filestore.proofs.Lists.{all-from_flat_map, all_left, all_right, all_weaker}
use Rattle.vf_filestore.proofs.Parties.{IsOff}

-- the selection of a history isn't of this file
abbrev pub IsNotOn : List ℕ → History → Type 0
IsNotOn file history = IfSome (selection history) (λ one. bytes_eq one.file file ≡ false)

-- ---- holders in their order

all_in_order : (P : Held → Type 0) (held : Held) (helds : List Held) → AllByRecursion P (in_order held helds) → P held × AllByRecursion P helds
all_in_order P held [] all = (all.0, tt)
all_in_order P held (other ∷ later) all = by (stands_before other.holder held.holder) (all_in_order P held later) all
  where
    by : (b : Bool) → (AllByRecursion P (in_order held later) → P held × AllByRecursion P later)
        → AllByRecursion P (cond b (other ∷ in_order held later) (held ∷ other ∷ later)) → P held × AllByRecursion P (other ∷ later)
    by true rest all = let parts = rest all.1 in (parts.0, (all.0, parts.1))
    by false rest all = (all.0, all.1)

pub all_folded : (P : Held → Type 0) (helds ordered : List Held) → AllByRecursion P (fold (λ ordered held. in_order held ordered) ordered helds) → AllByRecursion P ordered × AllByRecursion P helds
all_folded P [] ordered all = (all, tt)
all_folded P (held ∷ helds) ordered all =
    let rest = all_folded P helds (in_order held ordered) all in
    let parts = all_in_order P held ordered rest.0 in
    (parts.1, (parts.0, rest.1))

-- ---- nobody else

pub none_mapped : {A B : Type 0} (f : A → B) (one : Option A) → option_map f one ≡ None → one ≡ None
none_mapped f None is = refl
none_mapped f (Some x) is = absurd cc

none_found : {A : Type 0} (test : A → Bool) (xs : List A) → find test xs ≡ None → AllByRecursion (λ x. test x ≡ false) xs
none_found test [] is = tt
none_found {A} test (x ∷ xs) is = by (test x) refl is (none_found test xs)
  where
    by : (b : Bool) → test x ≡ b → cond b (Some x) (find test xs) ≡ None → (find test xs ≡ None → AllByRecursion (λ x. test x ≡ false) xs) → AllByRecursion (λ x. test x ≡ false) (x ∷ xs)
    by true e never rest = absurd cc
    by false e none rest = (e, rest none)

-- each holder is the party of this link
abbrev IsOwn : ℕ → Held → Type 0
IsOwn link held = not (is_same held.holder (Party link)) ≡ false

own_holders : (state : State) (link : ℕ) (file : List ℕ) (action : Action) → alone_row (holders state file) link action ≡ None → AllByRecursion (IsOwn link) (holders state file)
own_holders state link file action alone =
    let first = none_mapped (conflict_with action) (first_other (Party link) (holders state file)) alone in
    none_found (λ (held : Held). not (is_same held.holder (Party link))) (holders state file)
    (none_mapped (λ (held : Held). held.holder) (find (λ (held : Held). not (is_same held.holder (Party link))) (holders state file)) first)

pub other_party : (one link : ℕ) → nat_eq one link ≡ false → not (is_same (Party one) (Party link)) ≡ true
other_party one link off = by (nat_lt one link)
  where
    by : (b : Bool) → not (is_eq (cond b Less (cond (nat_eq one link) Equal Greater))) ≡ true
    by true = refl
    by false = λ i. not (is_eq (cond (off i) Equal Greater))

-- who holds none of a file has no selection of it
not_held : (file : List ℕ) (holder : Holder) (link : ℕ) (history : History) → not (is_same holder (Party link)) ≡ true
    → AllByRecursion (IsOwn link) (held_in file holder history) → IsNotOn file history
not_held file holder link history other own = by (selection history) own
  where
    by : (one : Option Selection) → AllByRecursion (IsOwn link) (held_by file holder (regime history) one) → IfSome one (λ one. bytes_eq one.file file ≡ false)
    by None own = tt
    by (Some one) own = on (bytes_eq one.file file) own
      where
        on : (b : Bool) → AllByRecursion (IsOwn link) (cond b (record { holder = holder; controls = controls_by one (regime history) } ∷ []) []) → b ≡ false
        on true own = let mine = own.0 in absurd cc
        on false own = refl

pub record IsAlone (state : State) (link : ℕ) (file : List ℕ) : Type 0 where
  pub parties : AllByRecursion (λ (party : StandingParty). IsOff link party → IsNotOn file party.history) state.parties
  pub dockets : AllByRecursion (λ (docket : states.Docket). IsNotOn file docket.history) state.dockets

pub alone : (state : State) (link : ℕ) (file : List ℕ) (action : Action) → alone_row (holders state file) link action ≡ None → IsAlone state link file
alone state link file action row =
    let all = all_folded (IsOwn link) (flat_map (held_by_party file) state.parties ++ flat_map (held_by_docket file) state.dockets) [] (own_holders state link file action row) in
    let parties = all_left (IsOwn link) (flat_map (held_by_party file) state.parties) (flat_map (held_by_docket file) state.dockets) all.1 in
    let dockets = all_right (IsOwn link) (flat_map (held_by_party file) state.parties) (flat_map (held_by_docket file) state.dockets) all.1 in
    record {
      parties =
          all_weaker (λ (party : StandingParty). AllByRecursion (IsOwn link) (held_by_party file party)) (λ (party : StandingParty). IsOff link party → IsNotOn file party.history) state.parties
          (λ party own off. not_held file (Party party.link) link party.history (other_party party.link link off) own)
          (all-from_flat_map (held_by_party file) (IsOwn link) state.parties parties);
      dockets =
          all_weaker (λ (docket : states.Docket). AllByRecursion (IsOwn link) (held_by_docket file docket)) (λ (docket : states.Docket). IsNotOn file docket.history) state.dockets
          (λ docket own. not_held file (Docket docket.identity docket.activity) link docket.history refl own)
          (all-from_flat_map (held_by_docket file) (IsOwn link) state.dockets dockets);
    }
