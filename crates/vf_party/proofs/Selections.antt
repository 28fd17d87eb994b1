-- A selection or its end comes to a party in the regime in which it begins or ends: what its typed step answers is what the
-- party owes to the message.
use Rattle.std.proofs.Common.{◌≡◌, ℕ, true, nat_eq, Result, refl, ap, subst, sym, ◌∙◌}
use Rattle.std.specs.Prelude.{IfErr}
use borrow.Author.Tests.{clash}
use Rattle.vf_base.specs.declared.errors.NoMemory.{NoMemory}
use Rattle.vf_elements.specs.declared.message.Message.{Message}
use Rattle.vf_elements.specs.declared.message.Message.TheVariants as messages
use Rattle.vf_elements.specs.declared.stage.Stage.TheVariants as stages
use Rattle.vf_filestore.specs.Aborts.{Setting, first_abort}
use Rattle.vf_filestore.specs.Stage.{grouping}
use Rattle.vf_party.proofs.Bars.{quiet_bars, quiet_stage}
use Rattle.vf_party.proofs.Turning.{associated_alone, associated_enters, associated_party, selected_alone, selected_enters, selected_party, step_turn}
use Rattle.vf_party.specs.Selecting.{deselects, selects}
use Rattle.vf_party.specs.Turns.{ComesTo, IsTurn}
use Rattle.vf_party.specs.declared.party.Outcome.{Outcome}
use Rattle.vf_party.specs.declared.party.Party.{Party}
use Rattle.vf_party.specs.declared.party.Party.TheVariants as parties
use Rattle.vf_party.specs.declared.quiet.Quiet.TheVariants as quiets
use Rattle.vf_party_steps.specs.Represents.{IsAssociated, IsSelected}
use Rattle.vf_party_steps.specs.Steps.{HoldersOfFiles, IsStep}
use Rattle.vf_party_steps.specs.declared.states.Associated.{Associated}
use Rattle.vf_party_steps.specs.declared.states.Selected.{Selected}
use Rattle.vf_party_steps.specs.declared.step.Step.{Step}
use Rattle.vf_party_steps.specs.declared.step.StepError.{StepError}
use Rattle.vf_pdu.specs.PduNumbers.{number_of}
use Rattle.vf_pdu.specs.declared.pdu.Pdu.{Pdu}
use Rattle.vf_pdu.specs.declared.pdu.Pdu.TheVariants.{SelectRequest, DeselectRequest}
use Rattle.vf_tables.specs.declared.tables.Tables.{Tables}

pub selecting_party : (party : Party) (message : Message) → selects party message ≡ true → (associated : Associated) × (party ≡ parties.Quiet (quiets.Associated associated))
selecting_party (parties.Quiet (quiets.Associated associated)) message is = (associated, refl)
selecting_party party message is = absurd (clash is)

pub selecting_message : (party : Party) (message : Message) → selects party message ≡ true → (request : Pdu) × (number_of request ≡ 6) × (message ≡ messages.Pdu request)
selecting_message (parties.Quiet (quiets.Associated associated)) (messages.Pdu (SelectRequest name requested controls password)) is = (SelectRequest name requested controls password, refl, refl)
selecting_message party message is = absurd (clash is)

pub deselecting_party : (party : Party) (message : Message) → deselects party message ≡ true → (selected : Selected) × (party ≡ parties.Quiet (quiets.Selected selected))
deselecting_party (parties.Quiet (quiets.Selected selected)) message is = (selected, refl)
deselecting_party party message is = absurd (clash is)

pub deselecting_message : (party : Party) (message : Message) → deselects party message ≡ true → message ≡ messages.Pdu DeselectRequest
deselecting_message (parties.Quiet (quiets.Selected selected)) (messages.Pdu DeselectRequest) is = refl
deselecting_message party message is = absurd (clash is)

-- the number of the request that a message is
abbrev number_in : Message → ℕ
number_in (messages.Pdu request) = number_of request
number_in message = 0

pub asked_number : (message : Message) (request : Pdu) (number : ℕ) → ((asked : Pdu) × (number_of asked ≡ number) × (message ≡ messages.Pdu asked)) → message ≡ messages.Pdu request → number_of request ≡ number
asked_number message request number (asked, numbered, is) same = ap number_in (sym same ∙ is) ∙ numbered

module _ (tables : Tables) (old mid new : HoldersOfFiles) (setting : Setting) where
  pub select_turn : (party : Party) (message : Message) (associated : Associated) (request : Pdu) → party ≡ associated_party associated → message ≡ messages.Pdu request → nat_eq (number_of request) 6 ≡ true
      → (answer : Result (Step Selected) (Associated × StepError)) (result : Result Outcome (Party × NoMemory))
      → IsStep IsAssociated IsSelected tables old mid associated setting (messages.Pdu request) answer → IfErr answer (λ back. back.0 ≡ associated)
      → ComesTo IsSelected associated_party selected_party 6 mid new answer result → IsTurn tables old new party setting message result
  select_turn party message associated (SelectRequest name requested controls password) is comes six answer result step kept ends =
      let request : Pdu = SelectRequest name requested controls password in
      let turn : IsTurn tables old new (associated_party associated) setting (messages.Pdu request) result =
      λ state standing stands histories alone. step_turn IsAssociated IsSelected associated_party selected_party associated_enters selected_enters tables old mid new associated setting (messages.Pdu request) stages.Associated
      (λ standing is. quiet_stage (quiets.Associated associated) standing is) refl
      (λ standing is. ap first_abort (quiet_bars standing setting (quiets.Associated associated) request is refl))
      (λ trace alone. ap (grouping request) alone) refl
      6 (λ diagnostic. refl) answer result step kept ends state standing stands histories (associated_alone associated standing alone) in
      subst (λ (one : Message). IsTurn tables old new party setting one result) (sym comes)
      (subst (λ (one : Party). IsTurn tables old new one setting (messages.Pdu request) result) (sym is) turn)
  select_turn party message associated request is comes six answer result step kept ends = absurd (clash six)

  pub deselect_turn : (party : Party) (message : Message) (selected : Selected) → party ≡ selected_party selected → message ≡ messages.Pdu DeselectRequest
      → (answer : Result (Step Associated) (Selected × StepError)) (result : Result Outcome (Party × NoMemory))
      → IsStep IsSelected IsAssociated tables old mid selected setting (messages.Pdu DeselectRequest) answer → IfErr answer (λ back. back.0 ≡ selected)
      → ComesTo IsAssociated selected_party associated_party 8 mid new answer result → IsTurn tables old new party setting message result
  deselect_turn party message selected is comes answer result step kept ends =
      let turn : IsTurn tables old new (selected_party selected) setting (messages.Pdu DeselectRequest) result =
      λ state standing stands histories alone. step_turn IsSelected IsAssociated selected_party associated_party selected_enters associated_enters tables old mid new selected setting (messages.Pdu DeselectRequest) stages.Selected
      (λ standing is. quiet_stage (quiets.Selected selected) standing is) refl
      (λ standing is. ap first_abort (quiet_bars standing setting (quiets.Selected selected) DeselectRequest is refl))
      (λ trace alone. ap (grouping DeselectRequest) alone) refl
      8 (λ diagnostic. refl) answer result step kept ends state standing stands histories (selected_alone selected standing alone) in
      subst (λ (one : Message). IsTurn tables old new party setting one result) (sym comes)
      (subst (λ (one : Party). IsTurn tables old new one setting (messages.Pdu DeselectRequest) result) (sym is) turn)
