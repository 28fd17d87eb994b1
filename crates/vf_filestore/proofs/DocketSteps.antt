-- What the changes of dockets and of their pieces lead to, where one docket is more, is gone, or is changed in its place.
use Rattle.std.proofs.Common.{◌≡◌, ℕ, ◌+◌, ◌≤◌, Bool, suc, true, false, cond, nat_eq, List, [], ◌∷◌, ◌++◌, length, take, drop, is_some, Option, None, Some, refl, ap, sym, subst, ◌∙◌, arith, append_assoc, length-append}
use Rattle.std.specs.Prelude.{find, nat_lt}
use Rattle.std.specs.List.{AllByRecursion, IsDistinct}
use Rattle.std.specs.Option.{option_map_or}
use Rattle.std.proofs.lemmas.Bool.{eq-eqb, ltb-false}
use Rattle.std.proofs.lemmas.List.{append-nil, length-take-le, take_all}
use Rattle.vf_base.specs.declared.element.Element.{Element}
use Rattle.vf_tables.specs.Changes.{cut_to, staged_in, with_piece}
use Rattle.vf_tables.specs.Entries.{is_docket, put}
use Rattle.vf_tables.specs.Fitting.{takes_piece}
use Rattle.vf_tables.specs.Snapshot.{stages_after}
use Rattle.vf_tables.specs.declared.change.Change.{Change}
use Rattle.vf_tables.specs.declared.change.Change.TheVariants.{CutStage, DropDocket, PutDocket, Stage}
use Rattle.vf_tables.specs.declared.docket.Docket.{Docket}
use Rattle.vf_tables.specs.declared.docket.Regime.{Regime}
use Rattle.vf_tables.specs.declared.tables.Tables.{Tables}
use Rattle.vf_tree.specs.Same.{is_same_unit}
use Rattle.vf_filestore.specs.Changes.{all_piece_changes, common, docket_changes, is_same_open, is_same_regime, piece_changes}
use Rattle.vf_filestore.specs.Laws.{Lead}
use Rattle.vf_filestore.proofs.Equal.{regime_true, unit_true}
use Rattle.vf_filestore.proofs.Leading.{both, leads_nowhere, leads_on, leads_once}
use Rattle.vf_filestore.proofs.Lists.{all_append, all_left, all_right, all_weaker, flat_map-append}
use Rattle.vf_filestore.proofs.Meant.{changed_at, dropped_at, find_at, find_none, put_at, put_new}
use Rattle.vf_filestore.proofs.Unchanged.{IsFoundIn, all_found, dockets_themselves, no_pieces, open_flips, open_itself, regime_itself}

abbrev pub IsOtherDocket : Docket → Docket → Type 0
IsOtherDocket docket other = is_same_open docket other ≡ false

abbrev pub with_dockets : Tables → List Docket → Tables
with_dockets tables dockets = record tables { dockets = dockets }

abbrev holding : Regime → List (List Element) → Docket
holding regime pieces = record { regime = regime; staged = pieces }

pub data DocketStep (before after : List Docket) : Type 0 where
  same : after ≡ before → DocketStep before after
  added : (docket : Docket) → after ≡ before ++ docket ∷ [] → AllByRecursion (IsOtherDocket docket) before → DocketStep before after
  gone : (first later : List Docket) (docket : Docket) → before ≡ first ++ docket ∷ later → after ≡ first ++ later → DocketStep before after
  changed : (first later : List Docket) (old new : Docket) → before ≡ first ++ old ∷ later → after ≡ first ++ new ∷ later
      → new.regime.identity ≡ old.regime.identity → new.regime.activity ≡ old.regime.activity → DocketStep before after

-- ---- opens differ

pub others : (first later : List Docket) (docket : Docket) → IsDistinct is_same_open (first ++ docket ∷ later) → AllByRecursion (IsOtherDocket docket) first
unfolding IsDistinct
others [] later docket distinct = tt
others (one ∷ first) later docket distinct =
    (open_flips docket one ∙ (all_right (λ (other : Docket). is_same_open one other ≡ false) first (docket ∷ later) distinct.0).0, others first later docket distinct.1)

pub later_others : (first later : List Docket) (docket : Docket) → IsDistinct is_same_open (first ++ docket ∷ later) → AllByRecursion (IsOtherDocket docket) later
unfolding IsDistinct
later_others [] later docket distinct = distinct.0
later_others (one ∷ first) later docket distinct = later_others first later docket distinct.1

-- ---- pieces

pub common_within : (pieces others : List (List Element)) → common pieces others ≤ length pieces
common_within [] others = omega arith
common_within (piece ∷ pieces) [] = omega arith
common_within (piece ∷ pieces) (other ∷ others) = by (is_same_unit piece other) (common_within pieces others)
  where
    by : (b : Bool) → common pieces others ≤ length pieces → cond b (1 + common pieces others) 0 ≤ length (piece ∷ pieces)
    by true rest = omega arith
    by false rest = omega arith

-- what both begin with, and the rest of the others
pub common_joined : (pieces others : List (List Element)) → take (common pieces others) pieces ++ drop (common pieces others) others ≡ others
common_joined [] others = refl
common_joined (piece ∷ pieces) [] = refl
common_joined (piece ∷ pieces) (other ∷ others) = by (is_same_unit piece other) refl (common_joined pieces others)
  where
    by : (b : Bool) → is_same_unit piece other ≡ b → take (common pieces others) pieces ++ drop (common pieces others) others ≡ others
        → take (cond b (1 + common pieces others) 0) (piece ∷ pieces) ++ drop (cond b (1 + common pieces others) 0) (other ∷ others) ≡ other ∷ others
    by true is rest = ap (λ n. take n (piece ∷ pieces) ++ drop n (other ∷ others)) one ∙ (λ i. unit_true piece other is i ∷ rest i)
      where
        one : 1 + common pieces others ≡ suc (common pieces others)
        one = omega arith
    by false is rest = refl

module _ (tables : Tables) (first later : List Docket) (regime : Regime) (off : AllByRecursion (λ (other : Docket). is_docket regime.identity regime.activity other ≡ false) first) where
  stages_lead : (more pieces : List (List Element)) (n : ℕ) → n ≡ length pieces
      → Lead (with_dockets tables (first ++ holding regime pieces ∷ later)) (stages_after regime.identity regime.activity n more) (with_dockets tables (first ++ holding regime (pieces ++ more) ∷ later))
  stages_lead [] pieces n is =
      subst (λ (all : List (List Element)). Lead (with_dockets tables (first ++ holding regime pieces ∷ later)) [] (with_dockets tables (first ++ holding regime all ∷ later))) (sym (append-nil pieces))
      (leads_nowhere (with_dockets tables (first ++ holding regime pieces ∷ later)))
  stages_lead (piece ∷ more) pieces n is =
      let found = find_at (is_docket regime.identity regime.activity) first (holding regime pieces) later off (open_itself (holding regime pieces)) in
      let fits : takes_piece n (n + 1) (holding regime pieces) ≡ true = both (nat_eq n (length pieces)) (nat_eq (n + 1) (n + 1)) (eq-eqb n (length pieces) is) (eq-eqb (n + 1) (n + 1) refl) in
      let one : Lead (with_dockets tables (first ++ holding regime pieces ∷ later)) (Stage regime.identity regime.activity n (n + 1) piece ∷ []) (with_dockets tables (first ++ holding regime (pieces ++ piece ∷ []) ∷ later))
      = leads_once _ _ (Stage regime.identity regime.activity n (n + 1) piece)
      (ap (λ (one : Option Docket). option_map_or (takes_piece n (n + 1)) one false) found ∙ fits)
      (ap (with_dockets tables) (changed_at (is_docket regime.identity regime.activity) (with_piece piece) first (holding regime pieces) later off (open_itself (holding regime pieces)))) in
      let rest = stages_lead more (pieces ++ piece ∷ []) (n + 1) (omega (arith, is, length-append pieces (piece ∷ []))) in
      leads_on (with_dockets tables (first ++ holding regime pieces ∷ later)) (with_dockets tables (first ++ holding regime (pieces ++ piece ∷ []) ∷ later)) (with_dockets tables (first ++ holding regime (pieces ++ piece ∷ more) ∷ later))
      (Stage regime.identity regime.activity n (n + 1) piece ∷ []) (stages_after regime.identity regime.activity (n + 1) more) one
      (subst (λ (all : List (List Element)). Lead (with_dockets tables (first ++ holding regime (pieces ++ piece ∷ []) ∷ later)) (stages_after regime.identity regime.activity (n + 1) more) (with_dockets tables (first ++ holding regime all ∷ later)))
      (append_assoc pieces (piece ∷ []) more) rest)

  cut_leads : (pieces : List (List Element)) (n : ℕ) → n ≤ length pieces
      → Lead (with_dockets tables (first ++ holding regime pieces ∷ later)) (cond (nat_lt n (length pieces)) (CutStage regime.identity regime.activity n ∷ []) []) (with_dockets tables (first ++ holding regime (take n pieces) ∷ later))
  cut_leads pieces n within = by (nat_lt n (length pieces)) refl
    where
      by : (b : Bool) → nat_lt n (length pieces) ≡ b
          → Lead (with_dockets tables (first ++ holding regime pieces ∷ later)) (cond b (CutStage regime.identity regime.activity n ∷ []) []) (with_dockets tables (first ++ holding regime (take n pieces) ∷ later))
      by true is =
          leads_once _ _ (CutStage regime.identity regime.activity n)
          (ap is_some (find_at (is_docket regime.identity regime.activity) first (holding regime pieces) later off (open_itself (holding regime pieces))))
          (ap (with_dockets tables) (changed_at (is_docket regime.identity regime.activity) (cut_to n) first (holding regime pieces) later off (open_itself (holding regime pieces))))
      by false is =
          let all : n ≡ length pieces = omega (arith, within, ltb-false n (length pieces) is) in
          subst (λ (kept : List (List Element)). Lead (with_dockets tables (first ++ holding regime pieces ∷ later)) [] (with_dockets tables (first ++ holding regime kept ∷ later)))
          (sym (ap (λ m. take m pieces) all ∙ take_all (length pieces) pieces (omega arith))) (leads_nowhere (with_dockets tables (first ++ holding regime pieces ∷ later)))

  pieces_lead : (pieces others : List (List Element))
      → Lead (with_dockets tables (first ++ holding regime pieces ∷ later)) (piece_changes regime pieces others) (with_dockets tables (first ++ holding regime others ∷ later))
  pieces_lead pieces others =
      let n = common pieces others in
      let within = common_within pieces others in
      leads_on (with_dockets tables (first ++ holding regime pieces ∷ later)) (with_dockets tables (first ++ holding regime (take n pieces) ∷ later)) (with_dockets tables (first ++ holding regime others ∷ later))
      (cond (nat_lt n (length pieces)) (CutStage regime.identity regime.activity n ∷ []) []) (stages_after regime.identity regime.activity n (drop n others))
      (cut_leads pieces n within)
      (subst (λ (all : List (List Element)). Lead (with_dockets tables (first ++ holding regime (take n pieces) ∷ later)) (stages_after regime.identity regime.activity n (drop n others)) (with_dockets tables (first ++ holding regime all ∷ later)))
      (common_joined pieces others) (stages_lead (drop n others) (take n pieces) n (sym (length-take-le n pieces within))))

-- ---- what the changes are

pub skip : (first dockets later : List Docket) → docket_changes (first ++ dockets) (first ++ later) ≡ docket_changes dockets later
skip [] dockets later = refl
skip (docket ∷ first) dockets later =
    (λ i. cond (regime_itself docket.regime i) (docket_changes (first ++ dockets) (first ++ later))
    (cond (is_same_open docket docket) (PutDocket docket.regime ∷ docket_changes (first ++ dockets) (first ++ later)) (DropDocket docket.regime.identity docket.regime.activity ∷ docket_changes (first ++ dockets) (docket ∷ (first ++ later)))))
    ∙ skip first dockets later

pub changes_added : (dockets : List Docket) (docket : Docket) → docket_changes dockets (dockets ++ docket ∷ []) ≡ PutDocket docket.regime ∷ []
changes_added dockets docket = ap (λ (all : List Docket). docket_changes all (dockets ++ docket ∷ [])) (sym (append-nil dockets)) ∙ skip dockets [] (docket ∷ [])

-- what isn't of one open isn't the same
pub differing : (one other : Docket) → is_same_open one other ≡ false → is_same_regime one.regime other.regime ≡ false
differing one other off = by (is_same_regime one.regime other.regime) refl
  where
    by : (b : Bool) → is_same_regime one.regime other.regime ≡ b → b ≡ false
    by true is =
        let here : is_same_open one one ≡ false = ap (λ (regime : Regime). is_docket one.regime.identity one.regime.activity (holding regime other.staged)) (regime_true one.regime other.regime is) ∙ off in
        let there = open_itself one in
        absurd cc
    by false is = refl

pub changes_gone : (docket : Docket) (later : List Docket) → AllByRecursion (IsOtherDocket docket) later → docket_changes (docket ∷ later) later ≡ DropDocket docket.regime.identity docket.regime.activity ∷ []
changes_gone docket [] off = refl
changes_gone docket (next ∷ later) off =
    (λ i. cond (differing docket next off.0 i) (docket_changes (next ∷ later) later)
    (cond (off.0 i) (PutDocket next.regime ∷ docket_changes (next ∷ later) later) (DropDocket docket.regime.identity docket.regime.activity ∷ docket_changes (next ∷ later) (next ∷ later))))
    ∙ ap (λ (changes : List Change). DropDocket docket.regime.identity docket.regime.activity ∷ changes) (dockets_themselves (next ∷ later))

abbrev pub change_unless : Bool → Change → List Change
change_unless is change = cond is [] (change ∷ [])

pub changes_changed : (old new : Docket) (later : List Docket) → is_same_open old new ≡ true
    → docket_changes (old ∷ later) (new ∷ later) ≡ change_unless (is_same_regime old.regime new.regime) (PutDocket new.regime)
changes_changed old new later here = by (is_same_regime old.regime new.regime)
  where
    by : (b : Bool)
        → cond b (docket_changes later later)
        (cond (is_same_open old new) (PutDocket new.regime ∷ docket_changes later later) (DropDocket old.regime.identity old.regime.activity ∷ docket_changes later (new ∷ later))) ≡ change_unless b (PutDocket new.regime)
    by true = dockets_themselves later
    by false =
        (λ i. cond (here i) (PutDocket new.regime ∷ docket_changes later later) (DropDocket old.regime.identity old.regime.activity ∷ docket_changes later (new ∷ later)))
        ∙ ap (λ (changes : List Change). PutDocket new.regime ∷ changes) (dockets_themselves later)

-- the changes of the pieces of one docket among others, each of which is found as it is
pub all_pieces : (dockets first later : List Docket) (docket : Docket) (found : Option Docket) → AllByRecursion (IsFoundIn dockets) first → AllByRecursion (IsFoundIn dockets) later
    → find (is_same_open docket) dockets ≡ found → all_piece_changes dockets (first ++ docket ∷ later) ≡ piece_changes docket.regime (staged_in found) docket.staged
all_pieces dockets first later docket found before after is =
    flat_map-append (λ (one : Docket). piece_changes one.regime (staged_in (find (is_same_open one) dockets)) one.staged) first (docket ∷ later)
    ∙ (λ i. no_pieces dockets first before i ++ (piece_changes docket.regime (staged_in (is i)) docket.staged ++ no_pieces dockets later after i))
    ∙ append-nil (piece_changes docket.regime (staged_in found) docket.staged)

-- ---- what they lead to

module _ (tables : Tables) where
  moved : (before after one other : List Docket) → before ≡ one → after ≡ other → Lead (with_dockets tables one) (docket_changes one other ++ all_piece_changes one other) (with_dockets tables other)
      → Lead (with_dockets tables before) (docket_changes before after ++ all_piece_changes before after) (with_dockets tables after)
  moved before after one other was is leads =
      subst (λ (dockets : List Docket). Lead (with_dockets tables dockets) (docket_changes dockets after ++ all_piece_changes dockets after) (with_dockets tables after)) (sym was)
      (subst (λ (dockets : List Docket). Lead (with_dockets tables one) (docket_changes one dockets ++ all_piece_changes one dockets) (with_dockets tables dockets)) (sym is) leads)

  lead_same : (dockets : List Docket) → IsDistinct is_same_open dockets → Lead (with_dockets tables dockets) (docket_changes dockets dockets ++ all_piece_changes dockets dockets) (with_dockets tables dockets)
  lead_same dockets distinct =
      subst (λ (changes : List Change). Lead (with_dockets tables dockets) changes (with_dockets tables dockets))
      (sym (λ i. dockets_themselves dockets i ++ no_pieces dockets dockets (all_found dockets distinct) i)) (leads_nowhere (with_dockets tables dockets))

  lead_added : (dockets : List Docket) (docket : Docket) → IsDistinct is_same_open dockets → AllByRecursion (IsOtherDocket docket) dockets
      → Lead (with_dockets tables dockets) (docket_changes dockets (dockets ++ docket ∷ []) ++ all_piece_changes dockets (dockets ++ docket ∷ [])) (with_dockets tables (dockets ++ docket ∷ []))
  lead_added dockets docket distinct off =
      let none = find_none (is_same_open docket) dockets off in
      subst (λ (changes : List Change). Lead (with_dockets tables dockets) changes (with_dockets tables (dockets ++ docket ∷ [])))
      (sym (λ i. changes_added dockets docket i ++ all_pieces dockets dockets [] docket None (all_found dockets distinct) tt none i))
      (leads_on (with_dockets tables dockets) (with_dockets tables (dockets ++ holding docket.regime [] ∷ [])) (with_dockets tables (dockets ++ docket ∷ []))
      (PutDocket docket.regime ∷ []) (piece_changes docket.regime [] docket.staged)
      (leads_once _ _ (PutDocket docket.regime) refl
      (ap (λ (found : Option Docket). with_dockets tables (put (is_same_open docket) (holding docket.regime (staged_in found)) dockets)) none
      ∙ ap (with_dockets tables) (put_new (is_same_open docket) (holding docket.regime []) dockets off)))
      (pieces_lead tables dockets [] docket.regime off [] docket.staged))

  lead_gone : (first later : List Docket) (docket : Docket) → IsDistinct is_same_open (first ++ docket ∷ later)
      → Lead (with_dockets tables (first ++ docket ∷ later)) (docket_changes (first ++ docket ∷ later) (first ++ later) ++ all_piece_changes (first ++ docket ∷ later) (first ++ later)) (with_dockets tables (first ++ later))
  lead_gone first later docket distinct =
      let off = others first later docket distinct in
      let found = all_found (first ++ docket ∷ later) distinct in
      let left = all_append (IsFoundIn (first ++ docket ∷ later)) first later (all_left (IsFoundIn (first ++ docket ∷ later)) first (docket ∷ later) found) (all_right (IsFoundIn (first ++ docket ∷ later)) first (docket ∷ later) found).1 in
      subst (λ (changes : List Change). Lead (with_dockets tables (first ++ docket ∷ later)) changes (with_dockets tables (first ++ later)))
      (sym (λ i. (skip first (docket ∷ later) later ∙ changes_gone docket later (later_others first later docket distinct)) i ++ no_pieces (first ++ docket ∷ later) (first ++ later) left i))
      (leads_once _ _ (DropDocket docket.regime.identity docket.regime.activity)
      (ap is_some (find_at (is_same_open docket) first docket later off (open_itself docket)))
      (ap (with_dockets tables) (dropped_at (is_same_open docket) first docket later off (open_itself docket))))

  -- the fields are put where they differ, and the pieces stay
  lead_fields : (first later : List Docket) (old new : Docket) → AllByRecursion (IsOtherDocket new) first → is_same_open new old ≡ true
      → Lead (with_dockets tables (first ++ old ∷ later)) (change_unless (is_same_regime old.regime new.regime) (PutDocket new.regime)) (with_dockets tables (first ++ holding new.regime old.staged ∷ later))
  lead_fields first later old new off here = by (is_same_regime old.regime new.regime) refl
    where
      by : (b : Bool) → is_same_regime old.regime new.regime ≡ b
          → Lead (with_dockets tables (first ++ old ∷ later)) (change_unless b (PutDocket new.regime)) (with_dockets tables (first ++ holding new.regime old.staged ∷ later))
      by true is =
          subst (λ (regime : Regime). Lead (with_dockets tables (first ++ old ∷ later)) [] (with_dockets tables (first ++ holding regime old.staged ∷ later))) (regime_true old.regime new.regime is)
          (leads_nowhere (with_dockets tables (first ++ old ∷ later)))
      by false is =
          leads_once _ _ (PutDocket new.regime) refl
          (ap (λ (found : Option Docket). with_dockets tables (put (is_same_open new) (holding new.regime (staged_in found)) (first ++ old ∷ later))) (find_at (is_same_open new) first old later off here)
          ∙ ap (with_dockets tables) (put_at (is_same_open new) (holding new.regime old.staged) first old later off here))

  lead_changed : (first later : List Docket) (old new : Docket) → IsDistinct is_same_open (first ++ old ∷ later) → is_same_open new old ≡ true
      → AllByRecursion (IsOtherDocket new) first
      → Lead (with_dockets tables (first ++ old ∷ later)) (docket_changes (first ++ old ∷ later) (first ++ new ∷ later) ++ all_piece_changes (first ++ old ∷ later) (first ++ new ∷ later)) (with_dockets tables (first ++ new ∷ later))
  lead_changed first later old new distinct here off =
      let found = all_found (first ++ old ∷ later) distinct in
      let own = find_at (is_same_open new) first old later off here in
      subst (λ (changes : List Change). Lead (with_dockets tables (first ++ old ∷ later)) changes (with_dockets tables (first ++ new ∷ later)))
      (sym (λ i. (skip first (old ∷ later) (new ∷ later) ∙ changes_changed old new later (open_flips old new ∙ here)) i
      ++ all_pieces (first ++ old ∷ later) first later new (Some old) (all_left (IsFoundIn (first ++ old ∷ later)) first (old ∷ later) found) (all_right (IsFoundIn (first ++ old ∷ later)) first (old ∷ later) found).1 own i))
      (leads_on (with_dockets tables (first ++ old ∷ later)) (with_dockets tables (first ++ holding new.regime old.staged ∷ later)) (with_dockets tables (first ++ new ∷ later))
      (change_unless (is_same_regime old.regime new.regime) (PutDocket new.regime)) (piece_changes new.regime old.staged new.staged)
      (lead_fields first later old new off here) (pieces_lead tables first later new.regime off old.staged new.staged))

  pub dockets_lead : (before after : List Docket) → IsDistinct is_same_open before → DocketStep before after
      → Lead (with_dockets tables before) (docket_changes before after ++ all_piece_changes before after) (with_dockets tables after)
  dockets_lead before after distinct (same is) = moved before after before before refl is (lead_same before distinct)
  dockets_lead before after distinct (added docket is off) = moved before after before (before ++ docket ∷ []) refl is (lead_added before docket distinct off)
  dockets_lead before after distinct (gone first later docket was is) =
      moved before after (first ++ docket ∷ later) (first ++ later) was is (lead_gone first later docket (subst (λ (dockets : List Docket). IsDistinct is_same_open dockets) was distinct))
  dockets_lead before after distinct (changed first later old new was is identity activity) =
      let apart = subst (λ (dockets : List Docket). IsDistinct is_same_open dockets) was distinct in
      let like : (other : Docket) → is_same_open new other ≡ is_same_open old other = λ other i. is_docket (identity i) (activity i) other in
      moved before after (first ++ old ∷ later) (first ++ new ∷ later) was is
      (lead_changed first later old new apart (like old ∙ open_itself old)
      (all_weaker (IsOtherDocket old) (IsOtherDocket new) first (λ other off. like other ∙ off) (others first later old apart)))
