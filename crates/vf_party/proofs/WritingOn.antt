-- An element comes to a party that writes on: what its typed step answers is what the party owes to the message.
use Rattle.std.proofs.Common.{◌≡◌, ℕ, true, ◌&&◌, Option, None, Some, is_none, Result, refl, ap, subst, sym, ◌∙◌}
use Rattle.std.proofs.lemmas.Bool.{and_parts}
use Rattle.std.specs.Prelude.{IfErr}
use borrow.Author.Tests.{clash}
use Rattle.vf_base.specs.declared.element.Element.{Element}
use Rattle.vf_base.specs.declared.errors.NoMemory.{NoMemory}
use Rattle.vf_elements.specs.Stages.{takes}
use Rattle.vf_elements.specs.declared.message.Message.{Message}
use Rattle.vf_elements.specs.declared.message.Message.TheVariants as messages
use Rattle.vf_filestore.specs.Aborts.{Setting, first_abort}
use Rattle.vf_party.proofs.Bars.{writing_bars, writing_stage}
use Rattle.vf_party.proofs.Turning.{step_turn}
use Rattle.vf_party.specs.Aborting.{aborts_of_writing}
use Rattle.vf_party.specs.Turns.{ComesTo, IsTurn}
use Rattle.vf_party.specs.WritingOn.{writes_on}
use Rattle.vf_party.specs.declared.party.Outcome.{Outcome}
use Rattle.vf_party.specs.declared.party.Party.{Party}
use Rattle.vf_party.specs.declared.party.Party.TheVariants as parties
use Rattle.vf_party_steps.specs.Moving.{stage_of_writing}
use Rattle.vf_party_steps.specs.Steps.{HoldersOfFiles, IsStep}
use Rattle.vf_party_steps.specs.Writes.{IsWriting}
use Rattle.vf_party_steps.specs.declared.step.Step.{Step}
use Rattle.vf_party_steps.specs.declared.step.StepError.{StepError}
use Rattle.vf_party_steps.specs.declared.writing.Writing.{Writing}
use Rattle.vf_tables.specs.declared.tables.Tables.{Tables}

pub writing_party : (party : Party) (serial : ℕ) (message : Message) → writes_on party serial message ≡ true → (writing : Writing) × (party ≡ parties.Writing writing)
writing_party (parties.Writing writing) serial message goes = (writing, refl)
writing_party party serial message goes = absurd (clash goes)

pub sent_element : (party : Party) (serial : ℕ) (message : Message) → writes_on party serial message ≡ true → (element : Element) × (message ≡ messages.Element element)
sent_element (parties.Writing writing) serial (messages.Element element) goes = (element, refl)
sent_element party serial message goes = absurd (clash goes)

none_is : (one : Option ℕ) → is_none one ≡ true → one ≡ None
none_is None is = refl
none_is (Some number) is = absurd cc

module _ (tables : Tables) (old mid new : HoldersOfFiles) (setting : Setting) where
  pub element_turn : (party : Party) (message : Message) (writing : Writing) (element : Element) → party ≡ parties.Writing writing → message ≡ messages.Element element
      → writes_on party setting.serial message ≡ true
      → (answer : Result (Step Writing) (Writing × StepError)) (result : Result Outcome (Party × NoMemory))
      → IsStep IsWriting IsWriting tables old mid writing setting (messages.Element element) answer → IfErr answer (λ back. back.0 ≡ writing)
      → ComesTo IsWriting parties.Writing parties.Writing 33 mid new answer result → IsTurn tables old new party setting message result
  element_turn party message writing element is comes goes answer result step kept ends =
      let sent : Message = messages.Element element in
      let both : (takes (stage_of_writing writing) sent && is_none (first_abort (aborts_of_writing writing setting.serial sent))) ≡ true =
      ap (λ (one : Party). writes_on one setting.serial sent) (sym is) ∙ ap (λ (one : Message). writes_on party setting.serial one) (sym comes) ∙ goes in
      let parts = and_parts (takes (stage_of_writing writing) sent) (is_none (first_abort (aborts_of_writing writing setting.serial sent))) both in
      let unbarred : first_abort (aborts_of_writing writing setting.serial sent) ≡ None = none_is (first_abort (aborts_of_writing writing setting.serial sent)) parts.1 in
      let turn : IsTurn tables old new (parties.Writing writing) setting sent result =
      λ state standing stands histories alone. step_turn IsWriting IsWriting parties.Writing parties.Writing (λ self standing is. is) (λ self standing is. is) tables old mid new writing setting sent (stage_of_writing writing)
      (λ standing is. writing_stage writing standing.link standing.history is) parts.0
      (λ standing is. ap first_abort (writing_bars standing setting writing is sent parts.0) ∙ unbarred)
      (λ trace alone. alone) refl
      33 (λ diagnostic. refl) answer result step kept ends state standing stands histories alone in
      subst (λ (one : Message). IsTurn tables old new party setting one result) (sym comes)
      (subst (λ (one : Party). IsTurn tables old new one setting sent result) (sym is) turn)
