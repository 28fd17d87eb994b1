-- Which requests are left of those that a regime takes and that may be items of a group.
use Rattle.std.proofs.Common.{◌≡◌, ◌==◌, ℕ, true, false, not, ◌&&◌, ◌||◌, List, Option, refl}
use borrow.Author.Tests.{clash}
use Rattle.vf_base.specs.declared.action.Actions.{Actions}
use Rattle.vf_base.specs.declared.contents.Contents.{Contents}
use Rattle.vf_base.specs.declared.term.Term.{Term}
use Rattle.vf_elements.specs.Stages.{takes}
use Rattle.vf_elements.specs.declared.message.Message.TheVariants as messages
use Rattle.vf_elements.specs.declared.stage.Stage.TheVariants as stages
use Rattle.vf_party.specs.Items.{is_item}
use Rattle.vf_pdu.specs.PduNumbers.{number_of}
use Rattle.vf_pdu.specs.declared.pdu.Pdu.{Pdu}
use Rattle.vf_pdu.specs.declared.pdu.Pdu.TheVariants.{TerminateRequest, RecoverRequest, SelectRequest, CreateRequest, DeselectRequest, DeleteRequest, ReadAttribRequest, ChangeAttribRequest, OpenRequest, CloseRequest}
use Rattle.vf_pdu_fields.specs.declared.controls.AttributeControls.{AttributeControls}
use Rattle.vf_pdu_fields.specs.declared.controls.ContentControls.{ContentControls}

pub left_associated : (request : Pdu) → is_item request ≡ true → takes stages.Associated (messages.Pdu request) ≡ true
    → ((name : List ℕ) (requested : Actions) (controls : Option AttributeControls) (password : Option (List ℕ)) → request ≡ SelectRequest name requested controls password → ⊥)
    → ((over : ℕ) (name : List ℕ) (contents : Contents) (permitted : Actions) (terms : List Term) (requested : Actions) (controls : Option AttributeControls) (password : Option (List ℕ)) → request ≡ CreateRequest over name contents permitted terms requested controls password → ⊥)
    → ⊥
left_associated (SelectRequest name requested controls password) item taken no_select no_create = no_select name requested controls password refl
left_associated (CreateRequest over name contents permitted terms requested controls password) item taken no_select no_create = no_create over name contents permitted terms requested controls password refl
left_associated request item taken no_select no_create = clash (λ i. item i && taken i)

pub left_selected : (request : Pdu) → is_item request ≡ true → takes stages.Selected (messages.Pdu request) ≡ true
    → (request ≡ DeselectRequest → ⊥) → (request ≡ DeleteRequest → ⊥) → ((names : ℕ) → request ≡ ReadAttribRequest names → ⊥)
    → ((name : Option (List ℕ)) (permitted : Option Actions) (terms : Option (List Term)) (others : ℕ) → request ≡ ChangeAttribRequest name permitted terms others → ⊥)
    → ((mode : ℕ) (contents : Option Contents) (controls : Option ContentControls) (activity : Option ℕ) → request ≡ OpenRequest mode contents controls activity → ⊥)
    → ⊥
left_selected DeselectRequest item taken no_deselect no_delete no_read no_change no_open = no_deselect refl
left_selected DeleteRequest item taken no_deselect no_delete no_read no_change no_open = no_delete refl
left_selected (ReadAttribRequest names) item taken no_deselect no_delete no_read no_change no_open = no_read names refl
left_selected (ChangeAttribRequest name permitted terms others) item taken no_deselect no_delete no_read no_change no_open = no_change name permitted terms others refl
left_selected (OpenRequest mode contents controls activity) item taken no_deselect no_delete no_read no_change no_open = no_open mode contents controls activity refl
left_selected request item taken no_deselect no_delete no_read no_change no_open = clash (λ i. item i && taken i)

pub left_opened : (request : Pdu) → is_item request ≡ true → takes stages.Opened (messages.Pdu request) ≡ true → (request ≡ CloseRequest → ⊥) → ⊥
left_opened CloseRequest item taken no_close = no_close refl
left_opened request item taken no_close = clash (λ i. item i && taken i)

-- what else an association takes, beside items, aborts and the begin of a group
pub left_with_association : (request : Pdu) → takes stages.Associated (messages.Pdu request) ≡ true → is_item request ≡ false → (number_of request == 4 || number_of request == 5) ≡ false
    → (number_of request == 22) ≡ false → (request ≡ TerminateRequest → ⊥) → ((activity number point : ℕ) → request ≡ RecoverRequest activity number point → ⊥) → ⊥
left_with_association TerminateRequest taken item stays single no_terminate no_recover = no_terminate refl
left_with_association (RecoverRequest activity number point) taken item stays single no_terminate no_recover = no_recover activity number point refl
left_with_association request taken item stays single no_terminate no_recover = clash (λ i. taken i && not (item i) && not (stays i) && not (single i))
