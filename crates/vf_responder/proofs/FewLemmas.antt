-- Octets of a packet: what they tell is told by the last of them, or by one that ends receiving.
use Rattle.std.proofs.Common.{◌≡◌, ℕ, Bool, true, false, nat_eq, List, [], ◌∷◌, refl, ap, sym, subst, eqb-true}
use Rattle.std.specs.Prelude.{if◌then◌else◌}
use Rattle.vf_elements.specs.declared.message.Said.{Said}
use Rattle.vf_filestore.specs.Conclusion.{Answered}
use Rattle.vf_session.specs.declared.units.TokenSide.TheVariants.{Responder}
use Rattle.vf_stack.specs.Association.{Association, is_ended}
use Rattle.vf_stack.specs.Receiving.{ending_by}
use Rattle.vf_stack.specs.Sending.{octets_sent, unit_sent, with_request}
use Rattle.vf_stack.specs.declared.ending.Ending.{Ending}
use Rattle.vf_stack.specs.declared.indication.Indication.{Indication}
use Rattle.vf_stack.specs.declared.request.Request.{Request}
use Rattle.vf_responder.specs.Answers.{says}
use Rattle.vf_responder.specs.Replies.{Outgoing, is_left_out, request_of, sending, sending_all}
use Rattle.vf_responder.specs.Serving.{Serving}

abbrev pub IsOver : Association → Type 0
IsOver a = is_ended a.exchange.ending ≡ true

-- What is sent begins nothing again.
after-over : (b : Bool) (first ending : Ending) → is_ended first ≡ b → is_ended ending ≡ true → is_ended (if b then first else ending) ≡ true
after-over true first ending e over = e
after-over false first ending e over = over

abbrev sending_by : Bool → Association → Request → Outgoing
sending_by left a request =
    if left then record { octets = []; association = a } else record { octets = octets_sent Responder a request; association = with_request Responder a request }

left-over : (b : Bool) (a : Association) (request : Request) → IsOver a → is_left_out a request ≡ b → IsOver (sending a request).association
left-over true a request over e = subst (λ (o : Outgoing). IsOver o.association) (sym (ap (λ (b : Bool). sending_by b a request) e)) over
left-over false a request over e =
    subst (λ (o : Outgoing). IsOver o.association) (sym (ap (λ (b : Bool). sending_by b a request) e))
    (after-over (is_ended (ending_by (unit_sent Responder a request))) (ending_by (unit_sent Responder a request)) a.exchange.ending refl over)

pub all-over : (indication : Indication) (said : List Said) (a : Association) → IsOver a → IsOver (sending_all indication a said).association
all-over indication [] a over = over
all-over indication (one ∷ said) a over =
    let request = request_of a indication one in
    all-over indication said (sending a request).association (left-over (is_left_out a request) a request over refl)

says-by : (b : Bool) (number link : ℕ) (indication : Indication) (serving : Serving) (given : Answered) → nat_eq number link ≡ b → IsOver (serving.associations number)
    → IsOver ((says link indication serving given).state.associations number)
says-by true number link indication serving given e over =
    let a = serving.associations link in
    let out = (sending_all indication a given.said).association in
    let mine : IsOver a = subst (λ (n : ℕ). IsOver (serving.associations n)) (eqb-true number link e) over in
    subst IsOver (sym (ap (λ (b : Bool). if b then out else serving.associations number) e)) (all-over indication given.said a mine)
says-by false number link indication serving given e over =
    let out = (sending_all indication (serving.associations link) given.said).association in
    subst IsOver (sym (ap (λ (b : Bool). if b then out else serving.associations number) e)) over

-- Whatever is said, on its link or another, an association that is over stays so.
pub says-over : (number link : ℕ) (indication : Indication) (serving : Serving) (given : Answered) → IsOver (serving.associations number)
    → IsOver ((says link indication serving given).state.associations number)
says-over number link indication serving given over = says-by (nat_eq number link) number link indication serving given refl over
