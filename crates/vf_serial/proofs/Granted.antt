-- What leads from a state where a request is granted.
use Rattle.std.proofs.Common.{◌≡◌, ◌≢◌, ℕ, ◌<◌, ◌≤◌, Bool, true, false, cond, List, [], ◌∷◌, ◌++◌, map, is_some, option_map, Option, None, Some, inl, inr, refl, ap, sym, subst, ◌∙◌}
use Rattle.std.proofs.lemmas.Bool.{or_parts}
use Rattle.std.specs.Prelude.{IfSome, IsSome, flat_map}
use Rattle.std.specs.List.{AllByRecursion}
use Rattle.std.specs.Str.{bytes_eq}
use Rattle.vf_doctype.specs.declared.doc_type.DocType.{DocType}
use Rattle.vf_filestore.specs.Files.{file_named}
use Rattle.vf_pdu_fields.proofs.Plain.{some_is}
use Rattle.vf_filestore.specs.History.{Entry, History, Regime, Selection, position, regime, selection}
use Rattle.vf_filestore.specs.Performed as performances
use Rattle.vf_filestore.specs.Performed.{Performed, number_in, operation, performed, performed_in}
use Rattle.vf_filestore.specs.Sound.{IsNested, IsSound, IsSoundDocket, IsSoundIn, IsSoundParty, IsThere}
use Rattle.vf_filestore.specs.State.{Docket, State, StandingParty, mode_in, name_in}
use Rattle.vf_filestore.proofs.Agreed as agreed
use Rattle.vf_filestore.proofs.Alone.{IsAlone, IsNotOn, alone}
use Rattle.vf_filestore.proofs.Lists.{all_append, all_both, all_left, all_map, all_right, all_weaker}
use Rattle.vf_filestore.proofs.Parties.{IsOff}
use Rattle.vf_serial.specs.FileModel.{is_reading}
use Rattle.vf_serial.specs.Isolating.{may_change, may_read}
use Rattle.vf_serial.specs.Moves.{Move, Acted, acted, operation_in, works}
use Rattle.vf_serial.proofs.Among.{IsAmong}
use Rattle.vf_serial.proofs.Earned.{AllOfIts, its_mode}
use Rattle.vf_serial.proofs.Ended.{items_at, one_stands}
use Rattle.vf_serial.proofs.Leading.{IsReplaced, Leads, Splits, found_in, moves_on, others_differ, replaced_same, replaced_were, split_was, stays}
use Rattle.vf_serial.proofs.Working.{apart_of, of_equal, of_none, none_works, own_of, rest_of, same_works, worker_by, workers, workers_in, working, working_at, working_stands, works_at}
use Rattle.vf_serial.proofs.Effects.{IsEffect, IsEffectOf, effect_reads}
use Rattle.vf_serial.proofs.Acting.{AreAsBefore, AreOf, DoesAt, placed_at, tree_at}
use Rattle.vf_serial.specs.Uses.{Standing}
use Rattle.vf_serial.proofs.Led.{AreSame, Does, IsFree, Stand, at, differ}
use Rattle.vf_serial.proofs.Pairs.{all_in}
use Rattle.vf_serial.proofs.Present.{Item, coherent, docked, history_of, items, present, stand_by, stand_is, stands, stands_in, standing}

-- ---- what performs

record IsPerformedIn (earlier : History) (entry : Entry) (done : Performed) : Type 0 where
  file : done.file ≡ name_in earlier
  regime : done.regime ≡ number_in (regime earlier)
  operation : operation earlier entry.message entry.given ≡ Some done.operation

performed_by : (earlier : History) (entry : Entry) (done : Performed) → performed earlier entry ≡ Some done → IsPerformedIn earlier entry done
performed_by earlier entry done is = by (operation earlier entry.message entry.given) refl is
  where
    by : (one : Option performances.Operation) → operation earlier entry.message entry.given ≡ one → option_map (performed_in earlier) one ≡ Some done → IsPerformedIn earlier entry done
    by None none is = absurd cc
    by (Some one) some is =
        let same : performed_in earlier one ≡ done = some_is (performed_in earlier one) done is in
        record {
          file = sym (ap (λ (d : Performed). d.file) same);
          regime = sym (ap (λ (d : Performed). d.regime) same);
          operation = some ∙ ap (λ (d : Performed). Some d.operation) same;
        }

-- ---- the files of those who stand

items_sound : (state : State) → IsSound state → AllByRecursion (λ (item : Item). IsSoundIn state.files (history_of item)) (items state.dockets state.parties)
items_sound state sound =
    all_append (λ (item : Item). IsSoundIn state.files (history_of item)) (map docked state.dockets) (map standing state.parties)
    (all_map docked (λ (item : Item). IsSoundIn state.files (history_of item)) state.dockets
    (all_weaker (IsSoundDocket state.files) (λ (docket : Docket). IsSoundIn state.files docket.history) state.dockets (λ docket is. is.sound) sound.dockets))
    (all_map standing (λ (item : Item). IsSoundIn state.files (history_of item)) state.parties
    (all_weaker (IsSoundParty state.files) (λ (party : StandingParty). IsSoundIn state.files party.history) state.parties (λ party is. is.sound) sound.parties))

file_there : (state : State) (x : Stand) → IsSound state → IsAmong x (present state) → IsSome (file_named x.file state.files)
file_there state x sound there =
    let found = found_in x (items state.dockets state.parties) there in
    let own = all_in (λ (item : Item). IsSoundIn state.files (history_of item)) found.0 (items state.dockets state.parties) (items_sound state sound) found.1 in
    let is = stand_is (history_of found.0) x found.2 in
    subst (λ file. IsSome (file_named file state.files)) is.on (subst (λ (one : Option Selection). IfSome one (IsThere state.files)) is.chosen own.there)

pub free_none : (state : State) (name : List ℕ) → IsSound state → file_named name state.files ≡ None → IsFree name (present state)
free_none state name sound none x there same =
    let some : is_some (file_named x.file state.files) ≡ true = file_there state x sound there in
    let gone : is_some (file_named x.file state.files) ≡ false = ap (λ file. is_some (file_named file state.files)) same ∙ ap is_some none in
    absurd cc

not_on : (file : List ℕ) (history : History) (x : Stand) → IsNotOn file history → IsAmong x (stands_in history) → x.file ≢ file
not_on file history x off there same =
    let is = stand_is history x there in
    differ is.selected.file file (subst (λ (one : Option Selection). IfSome one (λ one. bytes_eq one.file file ≡ false)) is.chosen off) (is.on ∙ same)

pub free_alone : (state : State) (party : StandingParty) (before after : List StandingParty) (file : List ℕ) → agreed.IsAmong state party before after → IsAlone state party.link file → stands (standing party) ≡ []
    → IsFree file (present state)
free_alone state party before after file among_is alone none x there =
    elim (was.parts x there) [
      | inl own ↦ absurd (subst (IsAmong x) none own)
      | inr rest ↦
          let found = found_in x ((map docked state.dockets ++ map standing before) ++ map standing after) rest in
          not_on file (history_of found.0) x (all_in (λ (item : Item). IsNotOn file (history_of item)) found.0 ((map docked state.dockets ++ map standing before) ++ map standing after) all found.1) found.2
    ]
  where
    was : Splits (present state) (stands (standing party)) (flat_map stands ((map docked state.dockets ++ map standing before) ++ map standing after))
    was =
        split_was state (standing party) (map docked state.dockets ++ map standing before) (map standing after)
        (ap (items state.dockets) among_is.is ∙ items_at state.dockets before after party)

    each : AllByRecursion (λ (one : StandingParty). IsOff party.link one → IsNotOn file one.history) (before ++ party ∷ after)
    each = subst (λ (all : List StandingParty). AllByRecursion (λ (one : StandingParty). IsOff party.link one → IsNotOn file one.history) all) among_is.is alone.parties

    those : (list : List StandingParty) → AllByRecursion (IsOff party.link) list → AllByRecursion (λ (one : StandingParty). IsOff party.link one → IsNotOn file one.history) list
        → AllByRecursion (λ (item : Item). IsNotOn file (history_of item)) (map standing list)
    those list off some =
        all_map standing (λ (item : Item). IsNotOn file (history_of item)) list
        (all_both (IsOff party.link) (λ (one : StandingParty). IsOff party.link one → IsNotOn file one.history) (λ (one : StandingParty). IsNotOn file one.history) list (λ one is off_file. off_file is) off some)

    all : AllByRecursion (λ (item : Item). IsNotOn file (history_of item)) ((map docked state.dockets ++ map standing before) ++ map standing after)
    all =
        all_append (λ (item : Item). IsNotOn file (history_of item)) (map docked state.dockets ++ map standing before) (map standing after)
        (all_append (λ (item : Item). IsNotOn file (history_of item)) (map docked state.dockets) (map standing before)
        (all_map docked (λ (item : Item). IsNotOn file (history_of item)) state.dockets alone.dockets)
        (those before among_is.absent (all_left (λ (one : StandingParty). IsOff party.link one → IsNotOn file one.history) before (party ∷ after) each)))
        (those after among_is.off (all_right (λ (one : StandingParty). IsOff party.link one → IsNotOn file one.history) before (party ∷ after) each).1)

-- ---- the party has another history

pub replaced_at : (state later : State) (party next : StandingParty) (before after : List StandingParty) → state.parties ≡ before ++ party ∷ after → later.parties ≡ before ++ next ∷ after → later.dockets ≡ state.dockets
    → IsReplaced state later (standing party) (standing next)
replaced_at state later party next before after was is same = record {
  before = map docked state.dockets ++ map standing before;
  after = map standing after;
  was = ap (items state.dockets) was ∙ items_at state.dockets before after party;
  is = (λ i. items (same i) (is i)) ∙ items_at state.dockets before after next;
}

-- where nothing is open before and after it
pub none_open : (history : History) (one other : Option Selection) → regime history ≡ None → stand_by (regime history) other ≡ stand_by (regime history) one
none_open history one other none =
    ap (λ (opened : Option Regime). stand_by opened other) none ∙ sym (ap (λ (opened : Option Regime). stand_by opened one) none)

-- what a request is about that keeps no docket
pub record Stage (state : State) (party : StandingParty) (before after : List StandingParty) : Type 0 where
  pub sound : IsSound state
  pub among_is : agreed.IsAmong state party before after
  pub nested : IsNested party.history
  pub there : IfSome (selection party.history) (IsThere state.files)

pub own_in : (state : State) (party : StandingParty) (before after : List StandingParty) → Stage state party before after → (x : Stand) → IsAmong x (stands (standing party)) → IsAmong x (present state)
own_in state party before after stage x there =
    (split_was state (standing party) (map docked state.dockets ++ map standing before) (map standing after) (ap (items state.dockets) stage.among_is.is ∙ items_at state.dockets before after party)).own_in x there

-- the state in which the party has this history
pub record IsNext (state later : State) (party next : StandingParty) (before after : List StandingParty) : Type 0 where
  pub is : later.parties ≡ before ++ next ∷ after
  pub same : later.dockets ≡ state.dockets
  pub less : state.concluded ≤ later.concluded

pub replaced_next : (state later : State) (party next : StandingParty) (before after : List StandingParty) → Stage state party before after → IsNext state later party next before after → IsReplaced state later (standing party) (standing next)
replaced_next state later party next before after stage is = replaced_at state later party next before after stage.among_is.is is.is is.same

none_performed : (earlier : History) (entry : Entry) → performed earlier entry ≡ None → operation earlier entry.message entry.given ≡ None
none_performed earlier entry is = by (operation earlier entry.message entry.given) is
  where
    by : (one : Option performances.Operation) → option_map (performed_in earlier) one ≡ None → one ≡ None
    by None none = refl
    by (Some one) none = absurd cc

-- what the party has after a request after which the same stands
pub record IsSameOpen (party next : StandingParty) : Type 0 where
  pub opens : regime next.history ≡ regime party.history
  pub selects : selection next.history ≡ selection party.history

stands_same : (party next : StandingParty) → IsSameOpen party next → stands_in next.history ≡ stands_in party.history
stands_same party next same = λ i. stand_by (same.opens i) (same.selects i)

-- a request by which an open regime may perform something
pub acted_leads : (state later : State) (party next : StandingParty) (before after : List StandingParty) (entry : Entry) (doc : Option DocType) → Stage state party before after → IsNext state later party next before after
    → IsSameOpen party next → AllOfIts (mode_in (regime party.history)) (operation party.history entry.message entry.given)
    → IsEffect state.files later.files (name_in party.history) (position party.history) (position next.history) doc (operation party.history entry.message entry.given)
    → Leads state (acted doc (mode_in (regime party.history)) (performed party.history entry)) later
acted_leads state later party next before after entry doc stage is open_same its effect = by (performed party.history entry) refl
  where
    replaced : IsReplaced state later (standing party) (standing next)
    replaced = replaced_next state later party next before after stage is

    same : AreSame (present state) (present later)
    same = replaced_same state later (standing party) (standing next) replaced (stands_same party next open_same)

    by : (done : Option Performed) → performed party.history entry ≡ done → Leads state (acted doc (mode_in (regime party.history)) done) later
    by None none =
        let nothing = subst (IsEffect state.files later.files (name_in party.history) (position party.history) (position next.history) doc) (none_performed party.history entry none) effect in
        stays state later stage.sound (record {
          same = same;
          were = replaced_were state later (standing party) (standing next) replaced (of_equal (workers_in next.history) (workers_in party.history) (same_works party.history next.history open_same.opens open_same.selects (λ some. nothing.1)));
          trees = nothing.0;
          less = is.less;
        })
    by (Some done) some = opened (regime party.history) refl
      where
        facts : IsPerformedIn party.history entry done
        facts = performed_by party.history entry done some

        done_it : IsEffectOf state.files later.files (name_in party.history) (position party.history) (position next.history) doc done.operation
        done_it = subst (IsEffect state.files later.files (name_in party.history) (position party.history) (position next.history) doc) facts.operation effect

        changes : is_reading (operation_in doc done.operation).act ≡ false → may_change (mode_in (regime party.history)) ≡ true
        changes = its_mode (mode_in (regime party.history)) doc done.operation (subst (AllOfIts (mode_in (regime party.history))) facts.operation its)

        -- where the mode doesn't work on contents
        idle : workers_in next.history ≡ [] → works (mode_in (regime party.history)) ≡ false → Leads state [] later
        idle none rests =
            stays state later stage.sound (record {
              same = same;
              were = replaced_were state later (standing party) (standing next) replaced (of_none (workers_in next.history) (workers_in party.history) none);
              trees = effect_reads state.files later.files (name_in party.history) (position party.history) (position next.history) doc done.operation done_it (reads (is_reading (operation_in doc done.operation).act) refl);
              less = is.less;
            })
          where
            reads : (b : Bool) → is_reading (operation_in doc done.operation).act ≡ b → b ≡ true
            reads true reading = refl
            reads false reading =
                let may = changes reading in
                let never = (or_parts (may_read (mode_in (regime party.history))) (may_change (mode_in (regime party.history))) rests).1 in
                absurd cc

        opened : (one : Option Regime) → regime party.history ≡ one → Leads state (acted doc (mode_in one) (Some done)) later
        opened None none = idle (none_works next.history (open_same.opens ∙ none)) (ap (λ (one : Option Regime). works (mode_in one)) none)
        opened (Some r) opened_is = which (works r.mode) refl
          where
            own : stands (standing party) ≡ at (name_in party.history) r ∷ []
            own = one_stands party.history r stage.nested opened_is

            workers_now : workers (standing party) ≡ working_at (works r.mode) (name_in party.history) r (position party.history)
            workers_now = works_at party.history r (position party.history) stage.nested opened_is

            workers_next : workers (standing next) ≡ working_at (works r.mode) (name_in party.history) r (position next.history)
            workers_next = (λ i. worker_by (position next.history) (open_same.opens i) (open_same.selects i)) ∙ works_at party.history r (position next.history) stage.nested opened_is

            there : IsAmong (at (name_in party.history) r) (present state)
            there = own_in state party before after stage (at (name_in party.history) r) (subst (IsAmong (at (name_in party.history) r)) (sym own) (inl refl))

            name : name_in party.history ≡ done.file
            name = sym facts.file

            number : r.number ≡ done.regime
            number = sym (facts.regime ∙ ap number_in opened_is)

            which : (b : Bool) → works r.mode ≡ b → Leads state (cond b (Acted done.file done.regime (operation_in doc done.operation) ∷ []) []) later
            which false rests =
                idle (workers_next ∙ ap (λ b. working_at b (name_in party.history) r (position next.history)) rests) (ap (λ (one : Option Regime). works (mode_in one)) opened_is ∙ rests)
            which true working_is =
                moves_on state later (Acted done.file done.regime (operation_in doc done.operation)) stage.sound is.less
                (record {
                  regime = r;
                  is = number;
                  stands = subst (λ file. IsAmong (at file r) (present state)) name there;
                  allowed = record { works = working_is; changes = λ reading. sym (ap (λ (one : Option Regime). may_change (mode_in one)) opened_is) ∙ changes reading };
                  same = same;
                })
                (record {
                  regime = r;
                  position = position party.history;
                  tree = done_it.tree;
                  outcome = done_it.outcome;
                  is = number;
                  below = subst (λ n. n < state.concluded) number ((coherent state stage.sound).below (at (name_in party.history) r) there);
                  stands =
                      subst (λ file. IsAmong (placed_at file r (position party.history)) (working state)) name
                      (subst (λ (all : List Item). IsAmong (placed_at (name_in party.history) r (position party.history)) (flat_map workers all)) (sym replaced.was)
                      (own_of (standing party) replaced.before replaced.after (placed_at (name_in party.history) r (position party.history))
                      (subst (IsAmong (placed_at (name_in party.history) r (position party.history))) (sym (workers_now ∙ ap (λ b. working_at b (name_in party.history) r (position party.history)) working_is)) (inl refl))));
                  there = ap (λ file. tree_at file state.files) (sym name) ∙ done_it.there;
                  done = done_it.done;
                  shown = done_it.shown;
                  leaves = ap (λ file. tree_at file later.files) (sym name) ∙ done_it.leaves;
                  others = λ other off. done_it.others other (ap (bytes_eq other) name ∙ off);
                  were = λ x later_x.
                      elim (apart_of (standing next) replaced.before replaced.after x (subst (λ (all : List Item). IsAmong x (flat_map workers all)) replaced.is later_x)) [
                        | inl mine ↦ inr (only x (subst (IsAmong x) (workers_next ∙ ap (λ b. working_at b (name_in party.history) r (position next.history)) working_is) mine))
                        | inr others ↦ inl (
                          subst (λ (all : List Item). IsAmong x (flat_map workers all)) (sym replaced.was) (rest_of (standing party) replaced.before replaced.after x others),
                          λ same_number.
                              others_differ state (standing party) replaced.before replaced.after stage.sound replaced.was (at (name_in party.history) r) (subst (IsAmong (at (name_in party.history) r)) (sym own) (inl refl))
                              (at x.file x.regime) (working_stands (replaced.before ++ replaced.after) x others) (same_number ∙ sym number),
                        )
                      ];
                })
              where
                only : (x : Standing) → IsAmong x (placed_at (name_in party.history) r (position next.history) ∷ []) → x ≡ placed_at done.file r done_it.outcome.position
                only x (inl same_x) = same_x ∙ (λ i. placed_at (name i) r (done_it.moves i))
                only x (inr none) = absurd none

-- a request that does no more than to a name, where nothing is open
pub named_leads : (state later : State) (party next : StandingParty) (before after : List StandingParty) (move : Move) → Stage state party before after → IsNext state later party next before after
    → stands_in next.history ≡ stands_in party.history → workers_in next.history ≡ [] → (AreSame (present state) (present later) → Does (present state) state.concluded move (present later))
    → (AreOf (working later) (working state) → DoesAt (working state) state.files state.concluded move (working later) later.files) → Leads state (move ∷ []) later
named_leads state later party next before after move stage is same none does acts =
    let replaced = replaced_next state later party next before after stage is in
    moves_on state later move stage.sound is.less (does (replaced_same state later (standing party) (standing next) replaced same))
    (acts (replaced_were state later (standing party) (standing next) replaced (of_none (workers_in next.history) (workers_in party.history) none)))

pub still_leads : (state later : State) (party next : StandingParty) (before after : List StandingParty) → Stage state party before after → IsNext state later party next before after
    → stands_in next.history ≡ stands_in party.history → AreOf (workers_in next.history) (workers_in party.history) → AreAsBefore state.files later.files → Leads state [] later
still_leads state later party next before after stage is same were trees =
    let replaced = replaced_next state later party next before after stage is in
    stays state later stage.sound (record {
      same = replaced_same state later (standing party) (standing next) replaced same;
      were = replaced_were state later (standing party) (standing next) replaced were;
      trees = trees;
      less = is.less;
    })
