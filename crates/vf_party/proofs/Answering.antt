-- What a step, a refusal and an end come to in the filestore, of a message outside of a group.
use Rattle.std.proofs.Common.{◌≡◌, ℕ, Bool, true, false, cond, not, List, [], ◌∷◌, ◌++◌, is_some, None, Some, refl, ap, sym, subst, ◌∙◌}
use Rattle.vf_base.specs.declared.diagnostic.Diagnostic.{Diagnostic}
use Rattle.vf_elements.specs.Stages.{takes}
use Rattle.vf_elements.specs.declared.message.Message.{Message}
use Rattle.vf_elements.specs.declared.message.Said.{Said}
use Rattle.vf_elements.specs.declared.stage.Stage.TheVariants as stages
use Rattle.vf_filestore.specs.Aborts.{Setting, aborts, first_abort}
use Rattle.vf_filestore.specs.Changes.{delta}
use Rattle.vf_filestore.specs.Conclusion.{Answered, concluding_entry, grants, has_abort}
use Rattle.vf_filestore.specs.Decision.{Aborts, Refuses, Grants, decision, decision_in, message_decision, unless_aborted}
use Rattle.vf_filestore.specs.Diagnostics.{wrong_state}
use Rattle.vf_filestore.specs.Dockets.{broken}
use Rattle.vf_filestore.specs.History.{Given, History}
use Rattle.vf_filestore.specs.HoldersAfter.{Keeps, concluded_by, hearing}
use Rattle.vf_filestore.specs.Sound.{IsSound}
use Rattle.vf_filestore.specs.Stage.{pending, regime_stage, stage}
use Rattle.vf_filestore.specs.Replies.{refusal}
use Rattle.vf_filestore.specs.State.{State, StandingParty, is_of_link, party_of, with_party, without_party}
use Rattle.vf_filestore.specs.Tables.{tables_of}
use Rattle.vf_filestore.specs.Transition.{answered, associates, leaves, met, with_message}
use Rattle.vf_filestore.proofs.Concluded.{after_entry, concluded_is, concluded_sound}
use Rattle.vf_filestore.proofs.Decisions.{broken_same, granting, party_sound, put_again}
use Rattle.vf_filestore.proofs.HeldGone.{traces_hold}
use Rattle.vf_filestore.proofs.Kept.{breaks_keep}
use Rattle.vf_locks.specs.Table.{IsAsBefore}
use Rattle.vf_filestore.proofs.Parties.{found_at, located, with_at}
use Rattle.vf_filestore.proofs.Same.{entry_same, taken_same, with_parties, with_trace}
use Rattle.vf_party_steps.specs.declared.step.Step.{Step}
use Rattle.vf_party.specs.Answers.{GoesOn, IsAnswered}
use Rattle.vf_party_steps.specs.Leaving.{LeavesHolders}
use Rattle.vf_party_steps.specs.Steps.{Concludes, HoldersOfFiles, Represents, StandsIn, history_by}
use Rattle.vf_party.proofs.Heard.{heard_alike, tables_heard}
use Rattle.vf_party_steps.proofs.Kept.{no_change}
use Rattle.vf_tables.specs.declared.tables.Tables.{Tables}

-- ---- parties

pub found_heard : (state : State) (party : StandingParty) (message : Message) → party_of party.link state.parties ≡ Some party
    → party_of party.link (hearing state party message).parties ≡ Some (with_message message party)
found_heard state party message found =
    let at = located party.link state.parties party found in
    let next = with_message message party in
    ap (party_of party.link) (ap (with_party next) at.is ∙ with_at party.link at.before at.after party next at.absent refl refl)
    ∙ found_at party.link at.before at.after next at.absent refl

none_left_of : (link : ℕ) (parties : List StandingParty) → party_of link (without_party link parties) ≡ None
none_left_of link [] = refl
none_left_of link (party ∷ parties) = by (is_of_link link party) refl (none_left_of link parties)
  where
    by : (b : Bool) → is_of_link link party ≡ b → party_of link (without_party link parties) ≡ None → party_of link (cond (not b) (party ∷ without_party link parties) (without_party link parties)) ≡ None
    by true is rest = rest
    by false is rest = (λ i. cond (is i) (Some party) (party_of link (without_party link parties))) ∙ rest

-- ---- messages

-- a message that comes outside of a group, and that its stage takes and nothing aborts
pub record IsAsked (state : State) (party : StandingParty) (setting : Setting) (message : Message) : Type 0 where
  pub alone : pending party.trace ≡ None
  pub stays : pending (message ∷ party.trace) ≡ None
  pub taken : takes (regime_stage party.history) message ≡ true
  pub unaborted : first_abort (aborts party setting message) ≡ None

module _ (state : State) (party : StandingParty) (setting : Setting) (message : Message) where
  -- comes to what its rows say
  pub asked_decides : IsAsked state party setting message → decision state party setting message ≡ message_decision state party setting message
  asked_decides asked =
      (λ i. cond (here i) (decision_in (asked.alone i) state party setting message) (Aborts wrong_state))
      ∙ (λ i. unless_aborted (asked.unaborted i) (message_decision state party setting message))
    where
      here : takes (stage party) message ≡ true
      here = (λ i. takes (cond (is_some (asked.alone i)) stages.Grouping (regime_stage party.history)) message) ∙ asked.taken

  abbrev heard : State
  heard = hearing state party message

  abbrev hearer : StandingParty
  hearer = with_message message party

  -- what is granted
  granted_is : (given : Given) → IsAsked state party setting message → message_decision state party setting message ≡ Grants given
      → answered state party setting message ≡ grants heard hearer setting message given
  granted_is given asked granted = ap (met heard hearer setting message) (asked_decides asked ∙ granted)

  entry_is : (given : Given) → (concluding_entry heard hearer setting message given).said ≡ (concluding_entry state party setting message given).said
  entry_is given = λ i. (entry_same state party (with_party hearer state.parties) (message ∷ party.trace) setting message given i).said

  -- the party after it
  found_then : (history : History) → party_of party.link state.parties ≡ Some party
      → party_of party.link (with_party (record hearer { history = history }) (with_party hearer state.parties)) ≡ Some (record hearer { history = history })
  found_then history found =
      let at = located party.link state.parties party found in
      let next : StandingParty = record hearer { history = history } in
      let first : with_party hearer state.parties ≡ at.before ++ hearer ∷ at.after = ap (with_party hearer) at.is ∙ with_at party.link at.before at.after party hearer at.absent refl refl in
      let now : with_party next (with_party hearer state.parties) ≡ at.before ++ next ∷ at.after = ap (with_party next) first ∙ with_at party.link at.before at.after hearer next at.absent refl refl in
      ap (party_of party.link) now ∙ found_at party.link at.before at.after next at.absent refl

  module _ {New : Type 0} (after : Represents New) (tables : Tables) (old new : HoldersOfFiles) (step : Step New) where
    pub step_answers : StandsIn tables old state party → IsAsked state party setting message → Concludes after tables new state party setting message step
        → has_abort step.said.items ≡ false
        → IsAnswered tables new step.said.items step.changes (answered state party setting message) × GoesOn after step.state party.link (answered state party setting message).state
    step_answers stands asked concludes goes_on =
        let given = concludes.given in
        let alike = heard_alike state party setting message given stands.stands in
        let says : step.said.items ≡ (concluding_entry heard hearer setting message given).said = concludes.said ∙ sym (entry_is given) in
        let later = concluded_by heard hearer setting message given in
        let answer : Answered = record { said = (concluding_entry heard hearer setting message given).said; state = later } in
        let is : answered state party setting message ≡ answer
        = granted_is given asked concludes.granted
        ∙ (λ i. record { said = (concluding_entry heard hearer setting message given).said; state = cond ((ap has_abort (sym says) ∙ goes_on) i) (broken party.link later) later }) in
        let owed : IsAnswered tables new step.said.items step.changes answer = record {
          says = says;
          differs = concludes.changes ∙ ap (delta tables) (sym alike.tables);
          held = λ file. concludes.held file ∙ sym (alike.holders file);
        } in
        let next : GoesOn after step.state party.link later = record {
          party = record hearer { history = history_by heard hearer setting message given };
          stands = found_then (history_by heard hearer setting message given) stands.stands;
          represented = subst (λ (history : History). after step.state party.link history) (sym same_history) concludes.next;
          alone = asked.stays;
        } in
        subst (λ (one : Answered). IsAnswered tables new step.said.items step.changes one × GoesOn after step.state party.link one.state) (sym is) (owed, next)
      where
        same_history : history_by heard hearer setting message concludes.given ≡ history_by state party setting message concludes.given
        same_history = λ i. entry_same state party (with_party hearer state.parties) (message ∷ party.trace) setting message concludes.given i ∷ taken_same state party (with_party hearer state.parties) (message ∷ party.trace) message i

  -- ---- what ends with an abort in the place of a check

  abbrev trace : List Message
  trace = message ∷ party.trace

  -- the party with this trace, once the message is concluded
  abbrev concluder : (given : Given) → List Message → StandingParty
  concluder given trace = record party { trace = trace; history = history_by state party setting message given }

  -- the party is gone from both alike
  both_broken : (given : Given) → party_of party.link state.parties ≡ Some party → IsSound (concluded_by state party setting message given)
      → broken party.link (concluded_by heard hearer setting message given) ≡ broken party.link (concluded_by state party setting message given)
  both_broken given found sound =
      let at = located party.link state.parties party found in
      let plain : concluded_by state party setting message given ≡ after_entry state party setting message given party.trace at.before at.after
      = concluded_is state party.link party setting message given state.parties party.trace at (put_again party.link state.parties party found) in
      let other : concluded_by heard hearer setting message given ≡ after_entry state party setting message given trace at.before at.after
      = concluded_is state party.link party setting message given (with_party hearer state.parties) trace at refl in
      let first = after_entry state party setting message given party.trace at.before at.after in
      let own = concluder given party.trace in
      let stands : party_of party.link first.parties ≡ Some own = found_at party.link at.before at.after own at.absent refl in
      let moved : with_parties first (with_party (with_trace own trace) first.parties) ≡ after_entry state party setting message given trace at.before at.after
      = ap (with_parties first) (with_at party.link at.before at.after own (with_trace own trace) at.absent refl refl) in
      ap (broken party.link) (other ∙ sym moved)
      ∙ broken_same first party.link own trace (subst (λ (one : State). IsSound one) plain sound).linked stands
      ∙ sym (ap (broken party.link) plain)

  sound_then : (given : Given) → IsSound state → party_of party.link state.parties ≡ Some party → IsAsked state party setting message → message_decision state party setting message ≡ Grants given
      → IsSound (concluded_by state party setting message given)
  sound_then given sound found asked granted =
      let own = party_sound state party.link party sound found in
      concluded_sound state party.link party setting message given state.parties party.trace sound found (put_again party.link state.parties party found) own.grouped
      (granting state party setting message given sound own (record { taken = asked.taken; unaborted = asked.unaborted; decided = granted }))

  found_plain : (given : Given) → party_of party.link state.parties ≡ Some party → party_of party.link (concluded_by state party setting message given).parties ≡ Some (concluder given party.trace)
  found_plain given found =
      let at = located party.link state.parties party found in
      let own = concluder given party.trace in
      ap (party_of party.link) (ap (with_party own) at.is ∙ with_at party.link at.before at.after party own at.absent refl refl) ∙ found_at party.link at.before at.after own at.absent refl

  module _ {New : Type 0} (after : Represents New) (tables : Tables) (old mid new : HoldersOfFiles) (step : Step New) where
    pub step_ends : StandsIn tables old state party → IsAsked state party setting message → Concludes after tables mid state party setting message step
        → has_abort step.said.items ≡ true → LeavesHolders after step.state mid new
        → IsAnswered tables new step.said.items step.changes (answered state party setting message) × (party_of party.link (answered state party setting message).state.parties ≡ None)
    step_ends stands asked concludes ends leaves =
        let given = concludes.given in
        let later = concluded_by state party setting message given in
        let sound = sound_then given stands.sound stands.stands asked concludes.granted in
        let says : step.said.items ≡ (concluding_entry heard hearer setting message given).said = concludes.said ∙ sym (entry_is given) in
        let answer : Answered = record { said = (concluding_entry heard hearer setting message given).said; state = broken party.link later } in
        let is : answered state party setting message ≡ answer
        = granted_is given asked concludes.granted
        ∙ (λ i. record { said = (concluding_entry heard hearer setting message given).said; state = cond ((ap has_abort (sym says) ∙ ends) i) (broken party.link (concluded_by heard hearer setting message given)) (concluded_by heard hearer setting message given) })
        ∙ (λ i. record { said = (concluding_entry heard hearer setting message given).said; state = both_broken given stands.stands sound i }) in
        let owed : IsAnswered tables new step.said.items step.changes answer = record {
          says = says;
          differs = concludes.changes ∙ ap (delta tables) (sym (breaks_keep later party.link sound));
          held = leaves (tables_of later) later (concluder given party.trace) (record { sound = sound; kept = refl; held = concludes.held; stands = found_plain given stands.stands }) concludes.next;
        } in
        subst (λ (one : Answered). IsAnswered tables new step.said.items step.changes one × (party_of party.link one.state.parties ≡ None)) (sym is) (owed, none_left_of party.link later.parties)

  -- ---- refusals

  -- a refusal leaves all as it was, but for the trace
  pub refusal_answers : {Old : Type 0} (before : Represents Old) (self : Old) (tables : Tables) (old new : HoldersOfFiles) (diagnostic : Diagnostic) → StandsIn tables old state party
      → IsAsked state party setting message → before self party.link party.history → (message_decision state party setting message ≡ Refuses diagnostic) × IsAsBefore old new
      → associates message ≡ false
      → IsAnswered tables new (refusal diagnostic message) [] (answered state party setting message) × GoesOn before self party.link (answered state party setting message).state
  refusal_answers before self tables old new diagnostic stands asked represents refused stays =
      let answer : Answered = record { said = refusal diagnostic message; state = heard } in
      let is : answered state party setting message ≡ answer
      = ap (met heard hearer setting message) (asked_decides asked ∙ refused.0)
      ∙ (λ i. cond (stays i) (leaves heard hearer (refusal diagnostic message)) answer) in
      let owed : IsAnswered tables new (refusal diagnostic message) [] answer = record {
        says = refl;
        differs = sym (no_change tables state heard stands.sound stands.kept (tables_heard state party message stands.stands));
        held = λ file. refused.1 file ∙ stands.held file ∙ sym (traces_hold state party message stands.stands file);
      } in
      let next : GoesOn before self party.link heard = record {
        party = hearer;
        stands = found_heard state party message stands.stands;
        represented = represents;
        alone = asked.stays;
      } in
      subst (λ (one : Answered). IsAnswered tables new (refusal diagnostic message) [] one × GoesOn before self party.link one.state) (sym is) (owed, next)

  -- ---- ends

  -- the party is gone, once this is said
  pub end_answers : (tables : Tables) (old new : HoldersOfFiles) (said : List Said) → StandsIn tables old state party → answered state party setting message ≡ leaves heard hearer said
      → Keeps new (broken party.link state)
      → IsAnswered tables new said [] (answered state party setting message) × (party_of party.link (answered state party setting message).state.parties ≡ None)
  end_answers tables old new said stands ends keeps =
      let answer : Answered = record { said = said; state = broken party.link state } in
      let is : answered state party setting message ≡ answer
      = ends ∙ (λ i. record { said = said; state = broken_same state party.link party (message ∷ party.trace) stands.sound.linked stands.stands i }) in
      let owed : IsAnswered tables new said [] answer = record {
        says = refl;
        differs = sym (no_change tables state (broken party.link state) stands.sound stands.kept (breaks_keep state party.link stands.sound));
        held = keeps;
      } in
      subst (λ (one : Answered). IsAnswered tables new said [] one × (party_of party.link one.state.parties ≡ None)) (sym is) (owed, none_left_of party.link state.parties)

  -- ---- what waits

  -- nothing is said, and all is as it was, but for the trace
  pub waits_answers : (tables : Tables) (locks : HoldersOfFiles) → StandsIn tables locks state party → IsAnswered tables locks [] [] (record { said = []; state = heard })
  waits_answers tables locks stands = record {
    says = refl;
    differs = sym (no_change tables state heard stands.sound stands.kept (tables_heard state party message stands.stands));
    held = λ file. stands.held file ∙ sym (traces_hold state party message stands.stands file);
  }
