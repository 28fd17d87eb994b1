-- What the end of a group comes to in the filestore.
use Rattle.std.proofs.Common.{◌≡◌, ◌≤◌, ◌<◌, ℕ, true, false, cond, List, [], ◌∷◌, flat_map, is_some, Some, refl, ap, sym, subst, ◌∙◌, nat_le, arith}
use Rattle.std.specs.Prelude.{count_by}
use Rattle.vf_elements.specs.Stages.{takes}
use Rattle.vf_elements.specs.declared.stage.Stage.TheVariants as stages
use Rattle.vf_filestore.specs.Aborts.{Setting}
use Rattle.vf_filestore.specs.Changes.{delta}
use Rattle.vf_filestore.specs.Conclusion.{Answered}
use Rattle.vf_filestore.specs.Decision.{Aborts, decision_in}
use Rattle.vf_filestore.specs.Diagnostics.{wrong_state}
use Rattle.vf_filestore.specs.Groups as groups
use Rattle.vf_filestore.specs.Groups.{between, group_answer, is_good, said_in_vain, said_of, trial}
use Rattle.vf_filestore.specs.HoldersAfter.{hearing}
use Rattle.vf_filestore.specs.Records.{changes_between, changes_by_items, where_any}
use Rattle.vf_filestore.specs.Stage.{Group, pending, regime_stage, stage}
use Rattle.vf_filestore.specs.State.{State, StandingParty, party_of, with_party}
use Rattle.vf_filestore.specs.Tables.{tables_of}
use Rattle.vf_filestore.specs.Transition.{answered, met, with_message}
use Rattle.vf_filestore.proofs.Decisions.{heard_sound, party_sound, traced}
use Rattle.vf_filestore.proofs.HeldGone.{traces_hold}
use Rattle.vf_filestore.proofs.Parties.{found_at, located, with_at}
use Rattle.vf_party.specs.GroupEnds.{HasEnded, IsPerformed, changes_at_end, end_message}
use Rattle.vf_party.specs.Items.{AreItems}
use Rattle.vf_party.specs.Quiets.{IsQuiet}
use Rattle.vf_party_steps.specs.Steps.{HoldersOfFiles, StandsIn}
use Rattle.vf_party.specs.Trials.{AreTried, AreTriedIn}
use Rattle.vf_party.specs.declared.quiet.Quiet.{Quiet}
use Rattle.vf_party_steps.specs.declared.step.Step.{Step}
use Rattle.vf_party.specs.declared.trying.Trial.{Trial}
use Rattle.vf_party.proofs.Heard.{tables_heard}
use Rattle.vf_party_steps.proofs.Kept.{no_change}
use Rattle.vf_party.proofs.NoChanges.{any_unless_same}
use Rattle.vf_tables.specs.declared.change.Change.{Change}
use Rattle.vf_tables.specs.declared.tables.Tables.{Tables}

pub le_true : (a b : ℕ) → a ≤ b → nat_le a b ≡ true
le_true a b is = grind (arith, is)

pub lt_false : (a b : ℕ) → b < a → nat_le a b ≡ false
lt_false a b is = grind (arith, is)

module _ (state : State) (party : StandingParty) (setting : Setting) (group : Group) where
  abbrev heard : State
  heard = hearing state party end_message

  abbrev hearer : StandingParty
  hearer = with_message end_message party

  abbrev whole : groups.Trial
  whole = trial party.link setting group.items heard

  -- the stage is that of a group, which takes its end
  end_taken : pending party.trace ≡ Some group → takes (stage party) end_message ≡ true
  end_taken alone = λ i. takes (cond (is_some (alone i)) stages.Grouping (regime_stage party.history)) end_message

  answered_is : pending party.trace ≡ Some group → answered state party setting end_message ≡ group_answer heard group.threshold whole
  answered_is alone =
      ap (met heard hearer setting end_message)
      ((λ i. cond (end_taken alone i) (decision_in (pending party.trace) state party setting end_message) (Aborts wrong_state))
      ∙ (λ i. decision_in (alone i) state party setting end_message))

  found_heard : party_of party.link state.parties ≡ Some party → party_of party.link heard.parties ≡ Some hearer
  found_heard found =
      let at = located party.link state.parties party found in
      ap (party_of party.link) (ap (with_party hearer) at.is ∙ with_at party.link at.before at.after party hearer at.absent refl refl)
      ∙ found_at party.link at.before at.after hearer at.absent refl

  module _ (tables : Tables) (old : HoldersOfFiles) (quiet : Quiet) (stands : StandsIn tables old state party) (alone : pending party.trace ≡ Some group) (items : AreItems group.items) where
    heard_stands : StandsIn tables old heard hearer
    heard_stands = record {
      sound = heard_sound state party.link party (end_message ∷ party.trace) stands.sound stands.stands
          (traced party end_message (party_sound state party.link party stands.sound stands.stands).grouped (end_taken alone));
      kept = tables_heard state party end_message stands.stands ∙ stands.kept;
      held = λ file. stands.held file ∙ sym (traces_hold state party end_message stands.stands file);
      stands = found_heard stands.stands;
    }

    -- the items, tried once the end has joined the trace
    tried_heard : (tried : Trial) (new : HoldersOfFiles) → AreTried quiet tables old new setting group.items tried → IsQuiet quiet party.link party.history
        → AreTriedIn new setting group.items heard hearer tried
    tried_heard tried new are represents = are heard hearer heard_stands represents items

    pub performed_ends : (new : HoldersOfFiles) (tried : Trial) (step : Step Quiet) → AreTried quiet tables old new setting group.items tried → IsQuiet quiet party.link party.history
        → group.threshold ≤ tried.good → IsPerformed tables tried step
        → HasEnded new party.link (changes_at_end state party setting group) (answered state party setting end_message) step
    performed_ends new tried step are represents enough performed =
        let all = tried_heard tried new are represents in
        let reached : nat_le group.threshold (count_by is_good whole.tried) ≡ true = ap (nat_le group.threshold) (sym all.counts) ∙ le_true group.threshold tried.good enough in
        let answer : Answered = record { said = between (flat_map said_of whole.tried); state = whole.state } in
        let vain : Answered = record { said = between (flat_map said_in_vain whole.tried); state = heard } in
        let ends : group_answer heard group.threshold whole ≡ answer = λ i. cond {A = Answered} (reached i) answer vain in
        let owed : HasEnded new party.link (where_any (changes_between heard whole.state) (changes_by_items party.link setting group.items heard)) answer step = record {
          says = performed.says ∙ ap between all.says;
          differs = performed.differs ∙ sym (any_unless_same tables tried.tables tried.changes) ∙ (λ i. where_any (delta (sym heard_stands.kept i) (sym all.stands.kept i)) (all.changed i));
          held = all.stands.held;
          goes_on = record {
            party = all.party;
            stands = ap (λ (link : ℕ). party_of link whole.state.parties) (sym all.linked) ∙ all.stands.stands;
            represented = subst (λ (one : Quiet). IsQuiet one all.party.link all.party.history) (sym performed.next) all.represented;
            alone = ap pending all.traced;
          };
        } in
        subst (λ (one : Answered). HasEnded new party.link (where_any (changes_between heard (group_answer heard group.threshold whole).state) (changes_by_items party.link setting group.items heard)) one step)
        (sym (answered_is alone))
        (subst (λ (one : Answered). HasEnded new party.link (where_any (changes_between heard one.state) (changes_by_items party.link setting group.items heard)) one step) (sym ends) owed)

    pub unperformed_ends : (new : HoldersOfFiles) (tried : Trial) (step : Step Quiet) → AreTried quiet tables old new setting group.items tried → IsQuiet quiet party.link party.history
        → tried.good < group.threshold → step.state ≡ quiet → step.said.items ≡ between tried.vain.items → step.changes ≡ []
        → HasEnded old party.link (changes_at_end state party setting group) (answered state party setting end_message) step
    unperformed_ends new tried step are represents fewer same says none =
        let all = tried_heard tried new are represents in
        let missed : nat_le group.threshold (count_by is_good whole.tried) ≡ false = ap (nat_le group.threshold) (sym all.counts) ∙ lt_false group.threshold tried.good fewer in
        let answer : Answered = record { said = between (flat_map said_of whole.tried); state = whole.state } in
        let vain : Answered = record { said = between (flat_map said_in_vain whole.tried); state = heard } in
        let ends : group_answer heard group.threshold whole ≡ vain = λ i. cond {A = Answered} (missed i) answer vain in
        let changes = changes_by_items party.link setting group.items heard in
        let owed : HasEnded old party.link (where_any (changes_between heard heard) changes) vain step = record {
          says = says ∙ ap between all.warns;
          differs = none ∙ ap (λ (any : List Change). where_any any changes) (sym (no_change (tables_of heard) heard heard heard_stands.sound refl refl));
          held = heard_stands.held;
          goes_on = record {
            party = hearer;
            stands = heard_stands.stands;
            represented = subst (λ (one : Quiet). IsQuiet one party.link party.history) (sym same) represents;
            alone = refl;
          };
        } in
        subst (λ (one : Answered). HasEnded old party.link (where_any (changes_between heard (group_answer heard group.threshold whole).state) changes) one step) (sym (answered_is alone))
        (subst (λ (one : Answered). HasEnded old party.link (where_any (changes_between heard one.state) changes) one step) (sym ends) owed)
