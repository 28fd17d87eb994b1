-- What a party in a group that isn't ended owes to a message.
use Rattle.std.proofs.Common.{◌≡◌, ℕ, Bool, true, false, cond, not, ◌&&◌, List, [], ◌∷◌, ◌++◌, is_some, length, Option, option_map, Result, Ok, Err, refl, ap, sym, subst, ◌∙◌, nat_eq, nat_le}
use Rattle.std.specs.Prelude.{IfErr, IfOk, IfSome}
use borrow.Author.Tests.{clash}
use Rattle.vf_base.specs.declared.errors.NoMemory.{NoMemory}
use Rattle.vf_elements.specs.Stages.{takes}
use Rattle.vf_elements.specs.declared.message.Message.{Message}
use Rattle.vf_elements.specs.declared.message.Message.TheVariants as messages
use Rattle.vf_elements.specs.declared.message.Said.{Said}
use Rattle.vf_elements.specs.declared.message.Said.TheVariants as answers
use Rattle.vf_elements.specs.declared.stage.Stage.TheVariants as stages
use Rattle.vf_filestore.specs.Aborts.{Setting}
use Rattle.vf_filestore.specs.Decision.{Decision, Aborts, Waits, Leaves, decision, decision_in, grouped_decision, grouped_request, item_decision}
use Rattle.vf_filestore.specs.Diagnostics.{wrong_state}
use Rattle.vf_filestore.specs.HoldersAfter.{hearing}
use Rattle.vf_filestore.specs.Limits.{most_items}
use Rattle.vf_filestore.specs.Stage.{Group, grouping, pending, regime_stage, stage, with_item}
use Rattle.vf_filestore.specs.State.{State, StandingParty, party_of}
use Rattle.vf_filestore.specs.Transition.{answered, met, with_message}
use Rattle.vf_filestore.specs.Transition.{leaves as leaves_with}
use Rattle.vf_filestore.proofs.Lists.{all_append}
use Rattle.vf_locks.specs.Table.{IsAsBefore}
use Rattle.vf_filestore.specs.Records.{changes_where}
use Rattle.vf_party.specs.GroupEnds.{IsEnd, end_message}
use Rattle.vf_party.specs.GroupTurns.{EndsAs, IsAdded, IsGroupTurn, IsInGroup}
use Rattle.vf_party.specs.Items.{is_item}
use Rattle.vf_party_steps.specs.Steps.{HoldersOfFiles, StandsIn}
use Rattle.vf_party.specs.Turns.{EndsSaying, IsEnded, IsGrouped, IsNext, IsTaken, IsTurnIn}
use Rattle.vf_party.specs.declared.party.Grouping.{Grouping}
use Rattle.vf_party.specs.declared.party.Outcome.{Outcome}
use Rattle.vf_party.specs.declared.party.Party.{Party}
use Rattle.vf_party.specs.declared.party.Party.TheVariants as parties
use Rattle.vf_party.specs.declared.quiet.Quiet.{Quiet}
use Rattle.vf_party_steps.specs.declared.step.Step.{Step}
use Rattle.vf_party_steps.specs.declared.step.StepError.{StepError}
use Rattle.vf_party.proofs.Answering.{end_answers}
use Rattle.vf_party.proofs.Turning.{IsSingle, aborts, leaves, taken_of, waits_turn}
use Rattle.vf_pdu.specs.PduNumbers.{number_of}
use Rattle.vf_pdu.specs.declared.pdu.Pdu.{Pdu}
use Rattle.vf_pdu.specs.declared.pdu.Pdu.TheVariants.{UserAbort, ProviderAbort, SelectRequest, DeselectRequest, CreateRequest, DeleteRequest, ReadAttribRequest, ChangeAttribRequest, OpenRequest, CloseRequest, EndGroupRequest}
use Rattle.vf_tables.specs.Changes.{after_all}
use Rattle.vf_tables.specs.declared.change.Change.{Change}
use Rattle.vf_tables.specs.declared.tables.Tables.{Tables}

-- ---- requests

-- an item joins the group
record IsJoining (item : Pdu) : Type 0 where
  decides : (group : Group) → grouped_request group item ≡ item_decision group
  joins : (before : Option Group) → grouping item before ≡ option_map (with_item item) before

joining : (item : Pdu) → is_item item ≡ true → IsJoining item
joining (SelectRequest name requested controls password) is = record { decides = λ group. refl; joins = λ before. refl }
joining DeselectRequest is = record { decides = λ group. refl; joins = λ before. refl }
joining (CreateRequest over name contents permitted terms requested controls password) is = record { decides = λ group. refl; joins = λ before. refl }
joining DeleteRequest is = record { decides = λ group. refl; joins = λ before. refl }
joining (ReadAttribRequest names) is = record { decides = λ group. refl; joins = λ before. refl }
joining (ChangeAttribRequest name permitted terms others) is = record { decides = λ group. refl; joins = λ before. refl }
joining (OpenRequest mode contents controls activity) is = record { decides = λ group. refl; joins = λ before. refl }
joining CloseRequest is = record { decides = λ group. refl; joins = λ before. refl }
joining request is = absurd (clash is)

-- what else a group takes ends the association
leaves_group : (request : Pdu) (group : Group) → takes stages.Grouping (messages.Pdu request) ≡ true → is_item request ≡ false → (number_of request ≡ 24 → ⊥)
    → grouped_request group request ≡ Leaves
leaves_group (UserAbort number) group taken item stays = refl
leaves_group (ProviderAbort number place) group taken item stays = refl
leaves_group EndGroupRequest group taken item stays = absurd (stays refl)
leaves_group request group taken item stays = absurd (clash (λ i. taken i && not (item i)))

-- ---- turns

module _ (tables : Tables) (old new : HoldersOfFiles) (self : Grouping) (setting : Setting) (message : Message) (state : State) (party : StandingParty) (stands : StandsIn tables old state party) (is : IsGrouped self party) where
  abbrev group : Group
  group = record { threshold = self.threshold; items = self.items }

  stage_is : takes (stage party) message ≡ takes stages.Grouping message
  stage_is = λ i. takes (cond (is_some (is.grouped i)) stages.Grouping (regime_stage party.history)) message

  pub grouped_decides : takes stages.Grouping message ≡ true → decision state party setting message ≡ grouped_decision group message
  grouped_decides taken = λ i. cond ((stage_is ∙ taken) i) (decision_in (is.grouped i) state party setting message) (Aborts wrong_state)

  -- the party is gone, once this is said
  ended_turn : (said : List Said) (outcome : Outcome) (one : Decision) → IsSingle one → decision state party setting message ≡ one
      → answered state party setting message ≡ leaves_with (hearing state party message) (with_message message party) said
      → IsEnded IsInGroup self said old new outcome → IsTaken tables new state party setting message outcome
  ended_turn said outcome one single decides comes ended =
      let ends = end_answers state party setting message tables old new said stands comes (ended.leaves tables state party stands is.represented) in
      taken_of tables state party setting message stands.kept new outcome one single decides
      (record { says = ended.says ∙ ends.0.says; differs = ended.differs ∙ ends.0.differs; held = ends.0.held })
      (subst (λ (one : Option Party). IsNext one (party_of party.link (answered state party setting message).state.parties)) (sym ended.gone) ends.1)

  pub leaving_turn : (outcome : Outcome) → decision state party setting message ≡ Leaves → IsEnded IsInGroup self [] old new outcome
      → IsTaken tables new state party setting message outcome
  leaving_turn outcome decides ended =
      ended_turn [] outcome Leaves leaves decides (ap (met (hearing state party message) (with_message message party) setting message) decides) ended

  pub aborted_turn : (result : Result Outcome (Party × NoMemory)) → decision state party setting message ≡ Aborts wrong_state
      → EndsSaying IsInGroup parties.Grouping self (answers.Abort wrong_state 0 ∷ []) old new result
      → IsTurnIn tables old new (parties.Grouping self) state party setting message result
  aborted_turn (Ok outcome) decides ends =
      ended_turn (answers.Abort wrong_state 0 ∷ []) outcome (Aborts wrong_state) (aborts wrong_state) decides (ap (met (hearing state party message) (with_message message party) setting message) decides) ends
  aborted_turn (Err (back, error)) decides ends = (ends.0, subst (λ (locks : HoldersOfFiles). IsAsBefore old locks) (sym ends.1) (λ file. refl))

  pub untaken_turn : (result : Result Outcome (Party × NoMemory)) → takes stages.Grouping message ≡ false
      → EndsSaying IsInGroup parties.Grouping self (answers.Abort wrong_state 0 ∷ []) old new result
      → IsTurnIn tables old new (parties.Grouping self) state party setting message result
  untaken_turn result left ends =
      aborted_turn result (λ i. cond ((stage_is ∙ left) i) (decision_in (pending party.trace) state party setting message) (Aborts wrong_state)) ends

-- ---- requests of a group

module _ (tables : Tables) (old : HoldersOfFiles) (self : Grouping) (setting : Setting) (request : Pdu) (state : State) (party : StandingParty) (stands : StandsIn tables old state party) (is : IsGrouped self party)
    (taken : takes stages.Grouping (messages.Pdu request) ≡ true) where
  abbrev group_of : Group
  group_of = record { threshold = self.threshold; items = self.items }

  request_decides : decision state party setting (messages.Pdu request) ≡ grouped_request group_of request
  request_decides = grouped_decides tables old old self setting (messages.Pdu request) state party stands is taken

  item_decides : is_item request ≡ true → (full : Bool) → nat_le most_items (length self.items) ≡ full → decision state party setting (messages.Pdu request) ≡ cond full (Aborts wrong_state) Waits
  item_decides item full counted = request_decides ∙ (joining request item).decides group_of ∙ (λ i. cond (counted i) (Aborts wrong_state) Waits)

  pub gone_decides : is_item request ≡ false → (number_of request ≡ 24 → ⊥) → decision state party setting (messages.Pdu request) ≡ Leaves
  gone_decides item stays = request_decides ∙ leaves_group request group_of taken item stays

  pub full_decides : is_item request ≡ true → nat_le most_items (length self.items) ≡ true → decision state party setting (messages.Pdu request) ≡ Aborts wrong_state
  full_decides item counted = item_decides item true counted

  pub added_turn : (result : Result Outcome (Party × NoMemory)) → is_item request ≡ true → nat_le most_items (length self.items) ≡ false → IsAdded self request result
      → IsTurnIn tables old old (parties.Grouping self) state party setting (messages.Pdu request) result
  added_turn (Ok outcome) item counted added =
      waits_turn tables old setting (messages.Pdu request) state party stands outcome (parties.Grouping (record self { items = self.items ++ request ∷ [] }))
      (item_decides item false counted) added.groups added.says added.differs
      (record {
        represented = is.represented;
        grouped = (joining request item).joins (pending party.trace) ∙ ap (option_map (with_item request)) is.grouped;
        items = all_append (λ (one : Pdu). is_item one ≡ true) self.items (request ∷ []) is.items (item, tt);
      })
  added_turn (Err (back, error)) item counted added = (added, λ file. refl)

-- ---- the end of a group

pub end_request : (request : Pdu) → nat_eq (number_of request) 24 ≡ true → request ≡ EndGroupRequest
end_request EndGroupRequest is = refl
end_request request is = absurd (clash is)

pub over_turn : (tables : Tables) (old new : HoldersOfFiles) (self : Grouping) (setting : Setting) (answer : Result (Step Quiet) (Quiet × StepError)) (result : Result Outcome (Party × NoMemory))
    → IsEnd self.quiet self.threshold self.items tables old new setting answer → IfErr answer (λ back. back.0 ≡ self.quiet) → EndsAs self.threshold self.items answer result
    → IsGroupTurn tables old new self setting end_message result
over_turn tables old new self setting (Ok step) (Ok outcome) ends kept comes = λ state party stands is.
    let ended = ends state party stands is.represented is.grouped is.items in
    record {
      says = (λ i. (comes.says i).items) ∙ ended.says;
      differs = comes.differs ∙ ended.differs ∙ sym (ap (changes_where state party setting end_message) (grouped_decides tables old new self setting end_message state party stands is refl));
      held = ended.held;
      next = subst (λ (one : Option Party). IsNext one (party_of party.link (answered state party setting end_message).state.parties)) (sym comes.goes_on)
          (ended.goes_on.party, ended.goes_on.stands, record { represented = ended.goes_on.represented; alone = ended.goes_on.alone });
    }
over_turn tables old new self setting (Ok step) (Err back) ends kept comes = absurd comes
over_turn tables old new self setting (Err back) (Ok outcome) ends kept comes = absurd comes
over_turn tables old new self setting (Err (quiet, error)) (Err (back, memory)) ends kept comes = λ state party stands is.
    (comes ∙ (λ i. parties.Grouping (record { quiet = kept i; threshold = self.threshold; items = self.items })), ends)

-- and a second of the tables after its changes
pub over_after : (tables : Tables) (second : Option Tables) (threshold : ℕ) (items : List Pdu) (answer : Result (Step Quiet) (Quiet × StepError)) (result : Result Outcome (Party × NoMemory))
    → EndsAs threshold items answer result → IfOk answer (λ step. IfSome second (λ one. one ≡ after_all tables step.changes))
    → IfOk result (λ outcome. IfSome second (λ one. one ≡ after_all tables outcome.changes))
over_after tables second threshold items (Ok step) (Ok outcome) comes ahead =
    subst (λ (changes : List Change). IfSome second (λ one. one ≡ after_all tables changes)) (sym comes.differs) ahead
over_after tables second threshold items (Err back) (Ok outcome) comes ahead = absurd comes
over_after tables second threshold items answer (Err back) comes ahead = tt
