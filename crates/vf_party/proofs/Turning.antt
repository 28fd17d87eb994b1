-- What a party owes to a message outside of a group, from what a typed step owes.
use Rattle.std.proofs.Common.{◌≡◌, ℕ, Bool, true, false, cond, List, [], ◌∷◌, is_some, Option, None, Some, Result, Ok, Err, refl, ap, sym, subst, ◌∙◌}
use Rattle.std.specs.Prelude.{IfErr}
use Rattle.vf_base.specs.declared.diagnostic.Diagnostic.{Diagnostic}
use Rattle.vf_base.specs.declared.errors.NoMemory.{NoMemory}
use Rattle.vf_elements.specs.Stages.{takes}
use Rattle.vf_elements.specs.declared.message.Message.{Message}
use Rattle.vf_elements.specs.declared.message.Said.{Said}
use Rattle.vf_elements.specs.declared.message.Said.TheVariants as answers
use Rattle.vf_elements.specs.declared.stage.Stage.{Stage}
use Rattle.vf_elements.specs.declared.stage.Stage.TheVariants as stages
use Rattle.vf_filestore.specs.Aborts.{Setting, first_abort}
use Rattle.vf_filestore.specs.Aborts.{aborts as all_aborts}
use Rattle.vf_filestore.specs.Changes.{delta}
use Rattle.vf_filestore.specs.Conclusion.{Answered, has_abort}
use Rattle.vf_filestore.specs.Decision.{Decision, Aborts, Refuses, Grants, Waits, Ends, Leaves, decision, decision_in, message_decision, unless_aborted}
use Rattle.vf_filestore.specs.Diagnostics.{wrong_state}
use Rattle.vf_filestore.specs.History.{Given}
use Rattle.vf_filestore.specs.HoldersAfter.{Keeps, hearing}
use Rattle.vf_filestore.specs.Records.{changes_where}
use Rattle.vf_filestore.specs.Replies.{refusal}
use Rattle.vf_filestore.specs.Stage.{pending, regime_stage, stage}
use Rattle.vf_filestore.specs.State.{State, StandingParty, party_of}
use Rattle.vf_filestore.specs.Tables.{tables_of}
use Rattle.vf_filestore.specs.Transition.{answered, associates, met, with_message}
use Rattle.vf_filestore.specs.Transition.{leaves as leaves_with}
use Rattle.vf_locks.specs.Table.{IsAsBefore}
use Rattle.vf_party.specs.Answers.{IsAnswered}
use Rattle.vf_party_steps.specs.Recoveries.{IsKeptStep, IsRecovered}
use Rattle.vf_party.specs.Refusals.{refusal_numbered}
use Rattle.vf_party_steps.specs.Steps.{Concludes, HoldersOfFiles, IsStep, MeetsStep, Represents, StandsIn}
use Rattle.vf_party.specs.Turns.{ComesOn, ComesTo, EndsSaying, IsAlone, IsEnded, IsNext, IsOutcomeOf, IsParty, IsRefused, IsTaken, IsTurnIn, IsTurnOf, party_of_recovered}
use Rattle.vf_party.specs.declared.party.Outcome.{Outcome}
use Rattle.vf_party.specs.declared.party.Party.{Party}
use Rattle.vf_party.specs.declared.party.Party.TheVariants as parties
use Rattle.vf_party.specs.declared.quiet.Quiet.TheVariants as quiets
use Rattle.vf_party_steps.specs.declared.recovering.Recovered.TheVariants as recovered
use Rattle.vf_party_steps.specs.declared.states.Associated.{Associated}
use Rattle.vf_party_steps.specs.declared.states.Selected.{Selected}
use Rattle.vf_party_steps.specs.declared.states.Open.{Open}
use Rattle.vf_party.specs.Quiets.{IsQuiet}
use Rattle.vf_party_steps.specs.Represents.{IsAssociated, IsOpen, IsSelected}
use Rattle.vf_party_steps.specs.declared.step.Step.{Step}
use Rattle.vf_party_steps.specs.declared.step.StepError.{StepError}
use Rattle.vf_party_steps.specs.declared.step.StepError.TheVariants as errors
use Rattle.vf_party.proofs.Answering.{IsAsked, asked_decides, end_answers, found_heard, refusal_answers, step_answers, step_ends, waits_answers}
use Rattle.vf_tables.specs.declared.tables.Tables.{Tables}

-- a decision that is no end of a group
pub data IsSingle : Decision → Type 0 where
  aborts : (number : ℕ) → IsSingle (Aborts number)
  refuses : (diagnostic : Diagnostic) → IsSingle (Refuses diagnostic)
  grants : (given : Given) → IsSingle (Grants given)
  waits : IsSingle Waits
  ends : IsSingle Ends
  leaves : IsSingle Leaves

-- a party outside of a group is one
abbrev pub Enters : {S : Type 0} → Represents S → (S → Party) → Type 0
Enters {S} represents party = (self : S) (standing : StandingParty) → IsAlone represents self standing → IsParty (party self) standing

module _ (tables : Tables) (state : State) (party : StandingParty) (setting : Setting) (message : Message) (kept : tables_of state ≡ tables) where
  single_changes : (one : Decision) → IsSingle one → delta tables (tables_of (answered state party setting message).state) ≡ changes_where state party setting message one
  single_changes one (aborts number) = ap (λ (t : Tables). delta t (tables_of (answered state party setting message).state)) (sym kept)
  single_changes one (refuses diagnostic) = ap (λ (t : Tables). delta t (tables_of (answered state party setting message).state)) (sym kept)
  single_changes one (grants given) = ap (λ (t : Tables). delta t (tables_of (answered state party setting message).state)) (sym kept)
  single_changes one waits = ap (λ (t : Tables). delta t (tables_of (answered state party setting message).state)) (sym kept)
  single_changes one ends = ap (λ (t : Tables). delta t (tables_of (answered state party setting message).state)) (sym kept)
  single_changes one leaves = ap (λ (t : Tables). delta t (tables_of (answered state party setting message).state)) (sym kept)

  pub taken_of : (new : HoldersOfFiles) (outcome : Outcome) (one : Decision) → IsSingle one → decision state party setting message ≡ one
      → IsAnswered tables new outcome.said.items outcome.changes (answered state party setting message)
      → IsNext outcome.party (party_of party.link (answered state party setting message).state.parties)
      → IsTaken tables new state party setting message outcome
  taken_of new outcome one single decides answers next = record {
    says = answers.says;
    differs = answers.differs ∙ single_changes one single ∙ sym (ap (changes_where state party setting message) decides);
    held = answers.held;
    next = next;
  }

module _ {New : Type 0} (after : Represents New) (next : New → Party) (enters : Enters after next) (tables : Tables) (old mid new : HoldersOfFiles) (setting : Setting) (message : Message)
    (state : State) (party : StandingParty) (stands : StandsIn tables old state party) (asked : IsAsked state party setting message) where
  pub good_turn : (step : Step New) (outcome : Outcome) → Concludes after tables mid state party setting message step → IsOutcomeOf after next mid new step outcome
      → IsTaken tables new state party setting message outcome
  good_turn step outcome concludes is = by (has_abort step.said.items) refl is.comes
    where
      decides : decision state party setting message ≡ Grants concludes.given
      decides = asked_decides state party setting message asked ∙ concludes.granted

      moved : (locks : HoldersOfFiles) → IsAnswered tables locks step.said.items step.changes (answered state party setting message) → IsAnswered tables locks outcome.said.items outcome.changes (answered state party setting message)
      moved locks answers = record {
        says = (λ i. (is.says i).items) ∙ answers.says;
        differs = is.differs ∙ answers.differs;
        held = answers.held;
      }

      by : (b : Bool) → has_abort step.said.items ≡ b → ComesOn after next b mid new step outcome → IsTaken tables new state party setting message outcome
      by true aborted comes =
          let end = step_ends state party setting message after tables old mid new step stands asked concludes aborted comes.1 in
          taken_of tables state party setting message stands.kept new outcome (Grants concludes.given) (grants concludes.given) decides (moved new end.0)
          (subst (λ (one : Option Party). IsNext one (party_of party.link (answered state party setting message).state.parties)) (sym comes.0) end.1)
      by false goes comes =
          let on = step_answers state party setting message after tables old mid step stands asked concludes goes in
          taken_of tables state party setting message stands.kept new outcome (Grants concludes.given) (grants concludes.given) decides
          (moved new (subst (λ (locks : HoldersOfFiles). IsAnswered tables locks step.said.items step.changes (answered state party setting message)) (sym comes.1) on.0))
          (subst (λ (one : Option Party). IsNext one (party_of party.link (answered state party setting message).state.parties)) (sym comes.0)
          (on.1.party, on.1.stands, enters step.state on.1.party (record { represented = on.1.represented; alone = on.1.alone })))

module _ {Old New : Type 0} (represents : Represents Old) (after : Represents New) (back : Old → Party) (next : New → Party) (enters_back : Enters represents back) (enters : Enters after next)
    (tables : Tables) (old mid new : HoldersOfFiles) (self : Old) (setting : Setting) (message : Message) (number : ℕ)
    (refusal_is : (diagnostic : Diagnostic) → refusal diagnostic message ≡ refusal_numbered number diagnostic) (stays : associates message ≡ false)
    (state : State) (party : StandingParty) (stands : StandsIn tables old state party) (alone : IsAlone represents self party) (asked : IsAsked state party setting message) where
  refused_turn : (diagnostic : Diagnostic) (outcome : Outcome) → (message_decision state party setting message ≡ Refuses diagnostic) × IsAsBefore old mid
      → IsRefused (back self) (refusal_numbered number diagnostic) mid new outcome → IsTaken tables new state party setting message outcome
  refused_turn diagnostic outcome refused is =
      let stay = refusal_answers state party setting message represents self tables old mid diagnostic stands asked alone.represented refused stays in
      taken_of tables state party setting message stands.kept new outcome (Refuses diagnostic) (refuses diagnostic) (asked_decides state party setting message asked ∙ refused.0)
      (record {
        says = is.says ∙ sym (refusal_is diagnostic) ∙ stay.0.says;
        differs = is.differs ∙ stay.0.differs;
        held = subst (λ (locks : HoldersOfFiles). Keeps locks (answered state party setting message).state) (sym is.kept) stay.0.held;
      })
      (subst (λ (one : Option Party). IsNext one (party_of party.link (answered state party setting message).state.parties)) (sym is.stays)
      (stay.1.party, stay.1.stands, enters_back self stay.1.party (record { represented = stay.1.represented; alone = stay.1.alone })))

  pub turn_of : (answer : Result (Step New) (Old × StepError)) (result : Result Outcome (Party × NoMemory)) → MeetsStep after tables old mid state party setting message answer
      → IfErr answer (λ back. back.0 ≡ self) → ComesTo after back next number mid new answer result → IsTurnIn tables old new (back self) state party setting message result
  turn_of (Ok step) (Ok outcome) meets kept comes = good_turn after next enters tables old mid new setting message state party stands asked step outcome meets comes
  turn_of (Ok step) (Err (party, error)) meets kept comes = absurd comes
  turn_of (Err (was, errors.Refused diagnostic)) (Ok outcome) meets kept comes =
      refused_turn diagnostic outcome meets (subst (λ (one : Old). IsRefused (back one) (refusal_numbered number diagnostic) mid new outcome) kept comes)
  turn_of (Err (was, errors.NoMemory)) (Ok outcome) meets kept comes = absurd comes
  turn_of (Err (was, errors.Refused diagnostic)) (Err (given, error)) meets kept comes =
      (comes.0 ∙ ap back kept, subst (λ (locks : HoldersOfFiles). IsAsBefore old locks) (sym comes.1) meets.1)
  turn_of (Err (was, errors.NoMemory)) (Err (given, error)) meets kept comes =
      (comes.0 ∙ ap back kept, subst (λ (locks : HoldersOfFiles). IsAsBefore old locks) (sym comes.1) meets)

-- ---- ends

module _ {S : Type 0} (represents : Represents S) (back : S → Party) (tables : Tables) (old new : HoldersOfFiles) (self : S) (setting : Setting) (message : Message)
    (state : State) (party : StandingParty) (stands : StandsIn tables old state party) (represented : represents self party.link party.history) where
  pub ended_turn : (said : List Said) (outcome : Outcome) (one : Decision) → IsSingle one → decision state party setting message ≡ one
      → answered state party setting message ≡ leaves_with (hearing state party message) (with_message message party) said
      → IsEnded represents self said old new outcome → IsTaken tables new state party setting message outcome
  ended_turn said outcome one single decides comes is =
      let ends = end_answers state party setting message tables old new said stands comes (is.leaves tables state party stands represented) in
      taken_of tables state party setting message stands.kept new outcome one single decides
      (record { says = is.says ∙ ends.0.says; differs = is.differs ∙ ends.0.differs; held = ends.0.held })
      (subst (λ (one : Option Party). IsNext one (party_of party.link (answered state party setting message).state.parties)) (sym is.gone) ends.1)

  pub saying_turn : (said : List Said) (result : Result Outcome (Party × NoMemory)) (one : Decision) → IsSingle one → decision state party setting message ≡ one
      → answered state party setting message ≡ leaves_with (hearing state party message) (with_message message party) said
      → EndsSaying represents back self said old new result → IsTurnIn tables old new (back self) state party setting message result
  saying_turn said (Ok outcome) one single decides comes is = ended_turn said outcome one single decides comes is
  saying_turn said (Err (given, error)) one single decides comes is = (is.0, subst (λ (locks : HoldersOfFiles). IsAsBefore old locks) (sym is.1) (λ file. refl))

  -- an abort
  pub aborted_turn : (number : ℕ) (result : Result Outcome (Party × NoMemory)) → decision state party setting message ≡ Aborts number
      → EndsSaying represents back self (answers.Abort number 0 ∷ []) old new result → IsTurnIn tables old new (back self) state party setting message result
  aborted_turn number result decides is =
      saying_turn (answers.Abort number 0 ∷ []) result (Aborts number) (aborts number) decides
      (ap (met (hearing state party message) (with_message message party) setting message) decides) is

module _ {S : Type 0} (represents : Represents S) (back : S → Party) (tables : Tables) (old new : HoldersOfFiles) (self : S) (setting : Setting) (message : Message)
    (state : State) (party : StandingParty) (stands : StandsIn tables old state party) (alone : IsAlone represents self party) where
  -- of a message that the stage doesn't take
  pub untaken_turn : (result : Result Outcome (Party × NoMemory)) → takes (regime_stage party.history) message ≡ false
      → EndsSaying represents back self (answers.Abort wrong_state 0 ∷ []) old new result → IsTurnIn tables old new (back self) state party setting message result
  untaken_turn result untaken is = aborted_turn represents back tables old new self setting message state party stands alone.represented wrong_state result untaken_decides is
    where
      here : takes (stage party) message ≡ false
      here = (λ i. takes (cond (is_some (alone.alone i)) stages.Grouping (regime_stage party.history)) message) ∙ untaken

      untaken_decides : decision state party setting message ≡ Aborts wrong_state
      untaken_decides = λ i. cond (here i) (decision_in (pending party.trace) state party setting message) (Aborts wrong_state)

  -- what nothing bars comes to what its rows say
  pub unbarred_decides : takes (regime_stage party.history) message ≡ true → first_abort (all_aborts party setting message) ≡ None → decision state party setting message ≡ message_decision state party setting message
  unbarred_decides taken unbarred =
      (λ i. cond (here i) (decision_in (alone.alone i) state party setting message) (Aborts wrong_state))
      ∙ (λ i. unless_aborted (unbarred i) (message_decision state party setting message))
    where
      here : takes (stage party) message ≡ true
      here = (λ i. takes (cond (is_some (alone.alone i)) stages.Grouping (regime_stage party.history)) message) ∙ taken

  -- of one that an abort's row refuses
  pub barred_turn : (number : ℕ) (result : Result Outcome (Party × NoMemory)) → takes (regime_stage party.history) message ≡ true → first_abort (all_aborts party setting message) ≡ Some number
      → EndsSaying represents back self (answers.Abort number 0 ∷ []) old new result → IsTurnIn tables old new (back self) state party setting message result
  barred_turn number result taken barred is = aborted_turn represents back tables old new self setting message state party stands alone.represented number result barred_decides is
    where
      here : takes (stage party) message ≡ true
      here = (λ i. takes (cond (is_some (alone.alone i)) stages.Grouping (regime_stage party.history)) message) ∙ taken

      barred_decides : decision state party setting message ≡ Aborts number
      barred_decides =
          (λ i. cond (here i) (decision_in (alone.alone i) state party setting message) (Aborts wrong_state))
          ∙ (λ i. unless_aborted (barred i) (message_decision state party setting message))

-- ---- what waits

module _ (tables : Tables) (locks : HoldersOfFiles) (setting : Setting) (message : Message) (state : State) (party : StandingParty) (stands : StandsIn tables locks state party) where
  pub waits_turn : (outcome : Outcome) (next : Party) → decision state party setting message ≡ Waits → outcome.party ≡ Some next → outcome.said.items ≡ [] → outcome.changes ≡ []
      → IsParty next (with_message message party) → IsTaken tables locks state party setting message outcome
  waits_turn outcome next decides goes says differs represents =
      let answer : Answered = record { said = []; state = hearing state party message } in
      let is : answered state party setting message ≡ answer = ap (met (hearing state party message) (with_message message party) setting message) decides in
      let owed = waits_answers state party setting message tables locks stands in
      taken_of tables state party setting message stands.kept locks outcome Waits waits decides
      (subst (λ (one : Answered). IsAnswered tables locks outcome.said.items outcome.changes one) (sym is)
      (record { says = says; differs = differs ∙ owed.differs; held = owed.held }))
      (subst (λ (one : Answered). IsNext outcome.party (party_of party.link one.state.parties)) (sym is)
      (subst (λ (one : Option Party). IsNext one (party_of party.link (hearing state party message).parties)) (sym goes)
      (with_message message party, found_heard state party message stands.stands, represents)))

-- ---- typed states

-- a step of a typed state, by the stage that it is in and by what aborts its message
module _ {Old New : Type 0} (represents : Represents Old) (after : Represents New) (back : Old → Party) (next : New → Party) (enters_back : Enters represents back) (enters : Enters after next)
    (tables : Tables) (old mid new : HoldersOfFiles) (self : Old) (setting : Setting) (message : Message) (here : Stage)
    (staged : (party : StandingParty) → represents self party.link party.history → regime_stage party.history ≡ here) (taken : takes here message ≡ true)
    (unbarred : (party : StandingParty) → represents self party.link party.history → first_abort (all_aborts party setting message) ≡ None)
    (ungrouped : (trace : List Message) → pending trace ≡ None → pending (message ∷ trace) ≡ None) (stays : associates message ≡ false)
    (number : ℕ) (refusal_is : (diagnostic : Diagnostic) → refusal diagnostic message ≡ refusal_numbered number diagnostic) where
  pub kept_step_turn : (answer : Result (Step New) (Old × StepError)) (result : Result Outcome (Party × NoMemory)) → IsKeptStep represents after tables old mid self setting message answer
      → IfErr answer (λ back. back.0 ≡ self) → ComesTo after back next number mid new answer result → IsTurnOf represents back tables old new self setting message result
  kept_step_turn answer result step kept comes state party stands histories alone =
      let takes_it = ap (λ stage. takes stage message) (staged party alone.represented) ∙ taken in
      let asked : IsAsked state party setting message = record {
        alone = alone.alone;
        stays = ungrouped party.trace alone.alone;
        taken = takes_it;
        unaborted = unbarred party alone.represented;
      } in
      turn_of represents after back next enters_back enters tables old mid new self setting message number refusal_is stays state party stands alone asked answer result
      (step state party stands histories alone.represented takes_it) kept comes

  pub step_turn : (answer : Result (Step New) (Old × StepError)) (result : Result Outcome (Party × NoMemory)) → IsStep represents after tables old mid self setting message answer
      → IfErr answer (λ back. back.0 ≡ self) → ComesTo after back next number mid new answer result → IsTurnOf represents back tables old new self setting message result
  step_turn answer result step kept comes =
      kept_step_turn answer result (λ state party stands histories represents taken. step state party stands represents taken) kept comes

-- what a party with an association is, one with a selected file, and one with an open one
abbrev pub associated_party : Associated → Party
associated_party associated = parties.Quiet (quiets.Associated associated)

abbrev pub selected_party : Selected → Party
selected_party selected = parties.Quiet (quiets.Selected selected)

abbrev pub opened_party : Open → Party
opened_party regimes = parties.Quiet (quiets.Open regimes)

pub associated_enters : Enters IsAssociated associated_party
associated_enters self standing is = record { represented = is.represented; alone = is.alone }

pub selected_enters : Enters IsSelected selected_party
selected_enters self standing is = record { represented = is.represented; alone = is.alone }

pub opened_enters : Enters IsOpen opened_party
opened_enters self standing is = record { represented = is.represented; alone = is.alone }

-- and back
pub associated_alone : (associated : Associated) (standing : StandingParty) → IsAlone IsQuiet (quiets.Associated associated) standing → IsAlone IsAssociated associated standing
associated_alone associated standing is = record { represented = is.represented; alone = is.alone }

pub selected_alone : (selected : Selected) (standing : StandingParty) → IsAlone IsQuiet (quiets.Selected selected) standing → IsAlone IsSelected selected standing
selected_alone selected standing is = record { represented = is.represented; alone = is.alone }

pub opened_alone : (regimes : Open) (standing : StandingParty) → IsAlone IsQuiet (quiets.Open regimes) standing → IsAlone IsOpen regimes standing
opened_alone regimes standing is = record { represented = is.represented; alone = is.alone }

-- what a recovery leaves is a party
pub recovered_enters : Enters IsRecovered party_of_recovered
recovered_enters (recovered.Open regimes) standing is = record { represented = is.represented; alone = is.alone }
recovered_enters (recovered.Reading reading) standing is = record { represented = is.represented; alone = is.alone }
recovered_enters (recovered.Writing writing) standing is = record { represented = is.represented; alone = is.alone }
