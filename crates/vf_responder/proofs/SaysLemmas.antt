-- What a party says in answer to something, and the answers to an indication.
use Rattle.std.proofs.Common.{◌≡◌, ℕ, ◌+◌, Bool, true, List, [], ◌∷◌, ◌++◌, Option, Some, None, refl, ap, sym, ◌∙◌, append-nil}
use Rattle.std.specs.Prelude.{is_some, not}
use Rattle.vf_elements.specs.declared.message.Said.{Said}
use Rattle.vf_elements.specs.declared.message.Said.TheVariants as answers
use Rattle.vf_filestore.specs.Conclusion.{Answered}
use Rattle.vf_filestore.specs.Dockets.{broken}
use Rattle.vf_filestore.specs.HoldersAfter.{Keeps}
use Rattle.vf_filestore.specs.State.{StandingParty, party_of}
use Rattle.vf_filestore.specs.Transition.{leaves}
use Rattle.vf_session.specs.Trace.{next}
use Rattle.vf_stack.specs.Association.{Association}
use Rattle.vf_stack.specs.declared.indication.Indication.{Indication}
use Rattle.vf_filestore.proofs.Others.{breaks_leave_none}
use Rattle.vf_responder.proofs.StandLemmas.{IsOn, broken-off, stays-on}
use Rattle.vf_responder.specs.Answers.{answering, answering_on, says, speaking, told}
use Rattle.vf_responder.specs.Meanings as run
use Rattle.vf_responder.specs.Meanings.{transfer_check}
use Rattle.vf_responder.specs.Replies.{Outgoing, sending_all}
use Rattle.vf_responder.specs.Represents.{Answers, Kept, Represents, with_link}
use Rattle.vf_responder.specs.Serving.{Serving, stands}
use Rattle.vf_responder.specs.declared.event.Reply.{Reply}
use Rattle.vf_responder.specs.declared.link.Link.{Link}

-- one answer, of so much that is said
pub said-once : {D : Type 0} (serving : Serving) (number spoken_on : ℕ) (indication : Indication) (given : Answered) (out : Outgoing) (shut : Bool) (old new : List Reply) (kept' : Kept D)
    → spoken_on ≡ number → out ≡ sending_all indication (serving.associations number) given.said → shut ≡ not (stands number given.state)
    → new ≡ old ++ speaking spoken_on out.octets shut → Represents kept' (says number indication serving given).state
    → Answers (says number indication serving given ∷ []) serving old kept' new
said-once serving number spoken_on indication given out shut old new kept' on is shuts spoken represents =
    let all = sending_all indication (serving.associations number) given.said in
    record {
      spoken = spoken ∙ ap (λ (n : ℕ). old ++ speaking n out.octets shut) on
          ∙ ap (λ (o : Outgoing). old ++ speaking number o.octets shut) is
          ∙ ap (λ (b : Bool). old ++ speaking number all.octets b) shuts
          ∙ ap (λ (l : List Reply). old ++ l) (sym (append-nil (speaking number all.octets (not (stands number given.state)))));
      represents = represents;
    }

-- where its association is gone
pub says-gone : {D : Type 0} (link : Link) (kept kept' : Kept D) (serving : Serving) (represents : Represents (with_link link kept) serving) (on : IsOn link kept serving)
    (indication : Indication) (said : List Said) (out : Outgoing) (old new : List Reply)
    → out ≡ sending_all indication (serving.associations on.party.link) said → new ≡ old ++ speaking link.number out.octets true
    → kept'.links ≡ kept.links → kept'.store.tables ≡ kept.store.tables → Keeps kept'.locks (broken on.party.link serving.filestore)
    → Answers (says on.party.link indication serving (leaves serving.filestore on.party said) ∷ []) serving old kept' new
says-gone link kept kept' serving represents on indication said out old new is spoken links tables held =
    let n = on.party.link in
    said-once serving n link.number indication (leaves serving.filestore on.party said) out true old new kept' on.linked is
    (sym (ap (λ (p : Option StandingParty). not (is_some p)) (breaks_leave_none serving.filestore n))) spoken
    (broken-off n link kept kept' serving (sending_all indication (serving.associations n) said).association on.party on.linked represents on.found links tables held)

-- An abort is sent the same whatever it answers.
pub abort-alone : (indication other : Indication) (a : Association) (number place : ℕ)
    → sending_all indication a (answers.Abort number place ∷ []) ≡ sending_all other a (answers.Abort number place ∷ [])
abort-alone indication other a number place = refl

silent-by : (number : ℕ) (found : Option StandingParty) (party : StandingParty) → found ≡ Some party → speaking number [] (not (is_some found)) ≡ []
silent-by number None party e = cc
silent-by number (Some one) party e = refl

-- where nothing comes of it
pub says-nothing : {D : Type 0} (link : Link) (kept : Kept D) (serving : Serving) (represents : Represents (with_link link kept) serving) (on : IsOn link kept serving)
    (indication : Indication) (old : List Reply)
    → Answers (says on.party.link indication serving (record { said = []; state = serving.filestore }) ∷ []) serving old (with_link link kept) old
says-nothing link kept serving represents on indication old =
    let n = on.party.link in
    record {
      spoken = sym (ap (λ (l : List Reply). old ++ (l ++ [])) (silent-by n (party_of n serving.filestore.parties) on.party on.found) ∙ append-nil old);
      represents = stays-on n link kept serving on.linked represents kept serving.filestore (serving.associations n) refl (λ q apart. refl) represents.tables represents.held represents.reached
          link on.party on.linked on.found on.is refl;
    }

-- the answers to an indication on the link
pub told-on : {D : Type 0} (moment : ℕ) (link : Link) (kept : Kept D) (serving : Serving) (on : IsOn link kept serving) (indication : Indication) (meant : run.Meaning)
    → meant ≡ run.meaning (next (serving.associations on.party.link).exchange.trace) (transfer_check on.party.history) indication
    → told moment link.number serving indication ≡ answering moment indication serving on.party meant
told-on moment link kept serving on indication meant is =
    ap (λ (n : ℕ). answering_on moment indication serving (party_of n serving.filestore.parties)) on.linked
    ∙ ap (λ (found : Option StandingParty). answering_on moment indication serving found) on.found
    ∙ ap (λ (m : run.Meaning). answering moment indication serving on.party m) (sym is)
