use Rattle.std.proofs.Common.{◌≡◌, ℕ, Ok, refl, sym, subst}
use Rattle.vf_ber.specs.Tree.{built, none}
use Rattle.vf_elements.specs.Messages.{message_in}
use Rattle.vf_elements.specs.declared.message.Message.TheVariants as messages
use Rattle.vf_pdu.specs.PduRows.{row_of}
use Rattle.vf_pdu.specs.declared.pdu.Pdu.TheVariants.{DeselectRequest, DeleteRequest, CloseRequest, EndGroupRequest}
use Rattle.vf_pdu_fields.specs.Reading.{end_at}
use Rattle.vf_cli_dialogue.proofs.conversation.request_numbered.Goals as goal

pub returns-in-8 : goal.returns-in-8
unfolding message_in row_of end_at
returns-in-8 c = subst (λ (n : ℕ). message_in (built (record { class = 2; number = n }) none) ≡ Ok (messages.Pdu DeselectRequest)) (sym c.in-8.is) refl

pub returns-in-12 : goal.returns-in-12
unfolding message_in row_of end_at
returns-in-12 c = subst (λ (n : ℕ). message_in (built (record { class = 2; number = n }) none) ≡ Ok (messages.Pdu DeleteRequest)) (sym c.in-12.is) refl

pub returns-in-20 : goal.returns-in-20
unfolding message_in row_of end_at
returns-in-20 c = subst (λ (n : ℕ). message_in (built (record { class = 2; number = n }) none) ≡ Ok (messages.Pdu CloseRequest)) (sym c.in-20.is) refl

pub returns-in-24 : goal.returns-in-24
unfolding message_in row_of end_at
returns-in-24 c = subst (λ (n : ℕ). message_in (built (record { class = 2; number = n }) none) ≡ Ok (messages.Pdu EndGroupRequest)) (sym c.in-24.is) refl
