-- What stays as an initiator sends: the stream, and that receiving has ended. And a task on a connection that has ended is over.
use Rattle.std.proofs.Common.{◌≡◌, ℕ, Bool, true, false, cond, not, ◌&&◌, List, [], ◌∷◌, ◌++◌, length, refl, sym, ap, subst, ◌∙◌, append-nil, append_assoc, Option, None, Some, inl, inr}
use Rattle.vf_initiator.specs.Few.{TakesFed}
use Rattle.vf_initiator.specs.Owed.{unless_ended, unless_spent}
use Rattle.vf_initiator.specs.Rows.{is_over, out_of_place}
use Rattle.vf_initiator.specs.Talking.{AnswersAll, AreSent, Greets, IsSent, Takes, TakesOctet, Talk, released, within_budget}
use Rattle.vf_initiator.specs.declared.conduct.Conduct.{Conduct}
use Rattle.vf_initiator.specs.declared.given.Given.{Given}
use Rattle.vf_session.specs.declared.units.TokenSide.{TokenSide}
use Rattle.vf_stack.specs.Association.{Association, end_of, is_ended}
use Rattle.vf_stack.specs.Receiving.{Fed, fed_by, nothing_fed, octets_received, piece_received, reading_received}
use Rattle.vf_tpkt.specs.Receiving.{onward}
use Rattle.vf_tpkt.specs.Stream.{reading as stream_reading}
use Rattle.vf_stack.specs.declared.ending.Ending.{Ending}
use Rattle.vf_stack.specs.declared.ending.Ending.TheVariants.{Open, Closed, Broken, Refused, Partly}
use Rattle.vf_stack.specs.declared.indication.Indication.{Indication}
use Rattle.vf_stack.specs.declared.request.Request.{Request}

-- ---- what sending leaves

pub record Stays (a a' : Association) : Type 0 where
  pub stream : a'.stream ≡ a.stream
  pub ended : is_ended a.exchange.ending ≡ true → is_ended a'.exchange.ending ≡ true

stays : (a : Association) → Stays a a
stays a = record { stream = refl; ended = λ e. e }

stays_so : (a a' : Association) → a' ≡ a → Stays a a'
stays_so a a' same = subst (λ (b : Association). Stays a b) (sym same) (stays a)

stays_then : (a b d : Association) → Stays a b → Stays b d → Stays a d
stays_then a b d one other = record { stream = other.stream ∙ one.stream; ended = λ e. other.ended (one.ended e) }

ends_on : (by now : Ending) → is_ended now ≡ true → is_ended (cond (is_ended by) by now) ≡ true
ends_on Open now e = e
ends_on Closed now e = refl
ends_on Broken now e = refl
ends_on Refused now e = refl
ends_on Partly now e = refl

sent_stays : (offer : Bool) (a : Association) (request : Request) (octets : List ℕ) (a' : Association) → IsSent offer a request octets a' → Stays a a'
sent_stays offer a request octets a' (inl sent) =
    record { stream = ap (λ (b : Association). b.stream) sent.2; ended = λ e. subst (λ (b : Association). is_ended b.exchange.ending ≡ true) (sym sent.2) (ends_on _ a.exchange.ending e) }
sent_stays offer a request octets a' (inr left) = stays_so a a' left.2

all_stay : (offer : Bool) (a : Association) (requests : List Request) (octets : List ℕ) (a' : Association) → AreSent offer a requests octets a' → Stays a a'
all_stay offer a [] octets a' are = stays_so a a' are.1
all_stay offer a (request ∷ requests) octets a' are =
    stays_then a are.2 a' (sent_stays offer a request are.0 are.2 are.3.0) (all_stay offer are.2 requests are.1 a' are.3.1)

pub answers_stay : (given : Given) (offer : Bool) (talk : Talk) (told : List Indication) (octets : List ℕ) (talk' : Talk) → AnswersAll given offer talk told octets talk' → Stays talk.association talk'.association
answers_stay given offer talk [] octets talk' are = stays_so talk.association talk'.association (ap (λ (t : Talk). t.association) are.1)
answers_stay given offer talk (indication ∷ told) octets talk' are =
    let one : Stays talk.association are.2.association =
    subst (λ (t : Talk). Stays talk.association t.association) (sym are.3.0.1.1) (all_stay offer talk.association _ are.0 are.3.0.0 are.3.0.1.0) in
    stays_then talk.association are.2.association talk'.association one (answers_stay given offer are.2 told are.1 talk' are.3.1)

pub greets_stay : (offer : Bool) (talk : Talk) (greeting : Option Request) (octets : List ℕ) (talk' : Talk) → Greets offer talk greeting octets talk' → Stays talk.association talk'.association
greets_stay offer talk None octets talk' is = stays_so talk.association talk'.association (ap (λ (t : Talk). t.association) is.1)
greets_stay offer talk (Some request) octets talk' (inl sent) =
    subst (λ (t : Talk). Stays talk.association t.association) (sym sent.2) (sent_stays offer talk.association request octets _ (inl (sent.0, sent.1, refl)))
greets_stay offer talk (Some request) octets talk' (inr left) = stays_so talk.association talk'.association (ap (λ (t : Talk). t.association) left.2)

pub fed_stays : (given : Given) (offer : Bool) (now : Talk) (fed : Fed) (octets : List ℕ) (talk' : Talk) → (takes : TakesFed given offer now fed octets talk') → Stays now.association takes.answered.association
fed_stays given offer now fed octets talk' takes =
    stays_then now.association takes.greeted.association takes.answered.association (greets_stay offer now now.greeting takes.greeting_octets takes.greeted takes.greets)
    (answers_stay given offer takes.greeted fed.indications takes.answer_octets takes.answered takes.answers)

-- ---- a task is over once receiving has ended

over_ended : (over : Bool) (is_ended : Bool) (c : Conduct) → is_over c.stage ≡ over → is_ended ≡ true → is_over (cond (not over && is_ended) (out_of_place c) c).stage ≡ true
over_ended true is_ended c is e = is
over_ended false is_ended c is e = subst (λ (t : Bool). is_over (cond t (out_of_place c) c).stage ≡ true) (sym e) refl

pub ended_over : (is_ended : Bool) (c : Conduct) → is_ended ≡ true → is_over (unless_ended is_ended c).stage ≡ true
ended_over is_ended c e = over_ended (is_over c.stage) is_ended c refl e

over_stays : (over spent : Bool) (c d : Conduct) → over ≡ true → cond (not over && spent) d c ≡ c
over_stays over spent c d is = subst (λ (t : Bool). cond (not t && spent) d c ≡ c) (sym is) refl

pub over_spent : (octets : ℕ) (c : Conduct) → is_over c.stage ≡ true → unless_spent octets c ≡ c
over_spent octets c over = over_stays (is_over c.stage) _ c _ over

-- the two in a talk
talk_cond : (t : Bool) (talk : Talk) (c : Conduct) → cond t (record talk { conduct = c }) talk ≡ record talk { conduct = cond t c talk.conduct }
talk_cond true talk c = refl
talk_cond false talk c = refl

pub looked : (talk : Talk)
    → within_budget (released talk) ≡ record talk { conduct = unless_spent (length talk.association.stream) (unless_ended (is_ended talk.association.exchange.ending) talk.conduct) }
looked talk =
    let ended = is_ended talk.association.exchange.ending in
    ap within_budget (talk_cond (not (is_over talk.conduct.stage) && ended) talk (out_of_place talk.conduct))
    ∙ talk_cond _ (record talk { conduct = unless_ended ended talk.conduct }) _

-- ---- a task that is over takes nothing

pub over_takes : (given : Given) (offer : Bool) (talk : Talk) (piece : List ℕ) → is_over talk.conduct.stage ≡ true → Takes given offer talk piece [] talk
over_takes given offer talk [] over = (refl, refl)
over_takes given offer talk (octet ∷ piece) over =
    ([], [], talk, (subst (λ (t : Bool). TakesOctet given offer talk octet [] talk t) (sym over) (refl, refl), over_takes given offer talk piece over, refl))

pub takes_more : (given : Given) (offer : Bool) (talk : Talk) (first octets : List ℕ) (middle : Talk) (second others : List ℕ) (talk' : Talk)
    → Takes given offer talk first octets middle → Takes given offer middle second others talk' → Takes given offer talk (first ++ second) (octets ++ others) talk'
takes_more given offer talk [] octets middle second others talk' one other =
    let here : Takes given offer talk second others talk' = subst (λ (t : Talk). Takes given offer t second others talk') one.1 other in
    subst (λ (o : List ℕ). Takes given offer talk second (o ++ others) talk') (sym one.0) here
takes_more given offer talk (octet ∷ first) octets middle second others talk' one other = (
  one.0,
  one.1 ++ others,
  one.2,
  (one.3.0, takes_more given offer one.2 first one.1 middle second others talk' one.3.1 other, ap (λ (o : List ℕ). o ++ others) one.3.2 ∙ append_assoc one.0 one.1 others),
)

-- ---- what octets leave of the stream

-- what an octet gives where receiving goes on
abbrev open_fed : TokenSide → Association → ℕ → Fed
open_fed own a octet =
    let r = onward (stream_reading (end_of own) a.stream).kept (octet ∷ []) in fed_by a (octet ∷ []) r (reading_received own a.exchange r)

pub received_ended : (own : TokenSide) (a : Association) (octets : List ℕ) → is_ended a.exchange.ending ≡ true → octets_received own a octets ≡ nothing_fed a
received_ended own a [] e = refl
received_ended own a (octet ∷ octets) e =
    let none : piece_received own a (octet ∷ []) ≡ nothing_fed a =
    subst (λ (t : Bool). cond t (nothing_fed a) (open_fed own a octet) ≡ nothing_fed a) (sym e) refl in
    subst (λ (f : Fed). record { indications = f.indications ++ (octets_received own f.association octets).indications; answers = f.answers ++ (octets_received own f.association octets).answers; association = (octets_received own f.association octets).association } ≡ nothing_fed a)
    (sym none) (received_ended own a octets e)

one_stream : (own : TokenSide) (a : Association) (octet : ℕ) → is_ended a.exchange.ending ≡ false → (piece_received own a (octet ∷ [])).association.stream ≡ a.stream ++ octet ∷ []
one_stream own a octet goes = subst (λ (t : Bool). (cond t (nothing_fed a) (open_fed own a octet)).association.stream ≡ a.stream ++ octet ∷ []) (sym goes) refl

later_stream : (own : TokenSide) (a : Association) (octet : ℕ) (octets : List ℕ) (t : Bool) → is_ended a.exchange.ending ≡ t
    → ((b : Association) → is_ended (octets_received own b octets).association.exchange.ending ≡ false → (octets_received own b octets).association.stream ≡ b.stream ++ octets)
    → is_ended (octets_received own a (octet ∷ octets)).association.exchange.ending ≡ false → (octets_received own a (octet ∷ octets)).association.stream ≡ a.stream ++ octet ∷ octets
later_stream own a octet octets true is others goes =
    let same : is_ended a.exchange.ending ≡ false = ap (λ (f : Fed). is_ended f.association.exchange.ending) (sym (received_ended own a (octet ∷ octets) is)) ∙ goes in
    absurd (let e : true ≡ false = sym is ∙ same in cc)
later_stream own a octet octets false is others goes =
    let first = piece_received own a (octet ∷ []) in
    others first.association goes ∙ (ap (λ (s : List ℕ). s ++ octets) (one_stream own a octet is) ∙ append_assoc a.stream (octet ∷ []) octets)

pub received_stream : (own : TokenSide) (a : Association) (octets : List ℕ) → is_ended (octets_received own a octets).association.exchange.ending ≡ false → (octets_received own a octets).association.stream ≡ a.stream ++ octets
received_stream own a [] goes = sym (append-nil a.stream)
received_stream own a (octet ∷ octets) goes = later_stream own a octet octets (is_ended a.exchange.ending) refl (λ b. received_stream own b octets) goes
