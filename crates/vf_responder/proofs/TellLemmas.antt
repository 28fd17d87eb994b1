-- Indications, one after another, and octets cut anywhere.
use Rattle.std.proofs.Common.{◌≡◌, ℕ, Bool, true, false, List, [], ◌∷◌, ◌++◌, Option, None, Ok, Err, Result, refl, ap, sym, subst, ◌∙◌, append_assoc}
use Rattle.std.specs.Prelude.{IfOk, if◌then◌else◌}
use Rattle.vf_elements.specs.declared.message.Message.{Message}
use Rattle.vf_elements.specs.declared.message.Said.{Said}
use Rattle.vf_elements.specs.declared.message.Said.TheVariants as answers
use Rattle.vf_filestore.specs.Dockets.{broken}
use Rattle.vf_filestore.specs.HoldersAfter.{Keeps}
use Rattle.vf_filestore.specs.Ranges.{IsRead}
use Rattle.vf_filestore.specs.State.{StandingParty, party_of}
use Rattle.vf_party.specs.Turns.{IsParty, LeavesParty}
use Rattle.vf_session.specs.Trace.{next}
use Rattle.vf_stack.specs.Association.{Association}
use Rattle.vf_stack.specs.Represents as stack
use Rattle.vf_stack.specs.declared.indication.Indication.{Indication}
use Rattle.vf_stack.specs.declared.indication.Indication.TheVariants as indications
use Rattle.vf_disk.specs.Disk.{LeavesOnly}
use Rattle.vf_journal.specs.declared.error.JournalError.{JournalError}
use Rattle.vf_responder.proofs.ChainLemmas.{at_end-join}
use Rattle.vf_responder.specs.Along.{RepresentsAlong}
use Rattle.vf_responder.proofs.SaysLemmas.{abort-alone, says-gone, says-nothing, told-on}
use Rattle.vf_responder.proofs.StandLemmas.{IsOn, on-link}
use Rattle.vf_responder.specs.Answers.{Answer, answering_on, at_end, octet_heard, octets_heard, speaking, told, told_all}
use Rattle.vf_responder.specs.Meanings as run
use Rattle.vf_responder.specs.Meanings.{transfer_check}
use Rattle.vf_responder.specs.Replies.{sending_all}
use Rattle.vf_responder.specs.Represents.{Answers, Does, Kept, Represents, put_back, with_link}
use Rattle.vf_responder.specs.Serving.{Serving, stands}
use Rattle.vf_responder.specs.Steps.{IsCalled, IsReadMeaning, IsReadTold, taking, taking_by}
use Rattle.vf_responder.specs.declared.event.Reply.{Reply}
use Rattle.vf_responder.specs.declared.link.Link.{Link}

-- what the code asks of the link is what stands on it
pub record AsksSo {D : Type 0} (link : Link) (kept : Kept D) (serving : Serving) (serial : ℕ) (last : Option ℕ) : Type 0 where
  pub serial_is : (a : Association) → IsCalled link.stack a → serial ≡ next a.exchange.trace
  pub last_is : (on : IsOn link kept serving) → last ≡ transfer_check on.party.history

pub asks-so : {D : Type 0} (link : Link) (kept : Kept D) (serving : Serving) (serial : ℕ) (last : Option ℕ) → ((a : Association) → stack.Represents link.stack a → serial ≡ next a.exchange.trace)
    → ((party : StandingParty) → IsParty link.party party → last ≡ transfer_check party.history) → AsksSo link kept serving serial last
asks-so link kept serving serial last numbered checked = record { serial_is = λ a called. numbered a called.represents; last_is = λ on. checked on.party on.is.represented }

pub meant-so : {D : Type 0} (link : Link) (kept : Kept D) (serving : Serving) (on : IsOn link kept serving) (serial : ℕ) (last : Option ℕ) (indication : Indication) (meant : run.Meaning)
    → AsksSo link kept serving serial last → meant ≡ run.meaning serial last indication
    → meant ≡ run.meaning (next (serving.associations on.party.link).exchange.trace) (transfer_check on.party.history) indication
meant-so link kept serving on serial last indication meant asks is =
    is ∙ ap (λ (n : ℕ). run.meaning n last indication) (asks.serial_is (serving.associations on.party.link) on.is.called)
    ∙ ap (λ (l : Option ℕ). run.meaning (next (serving.associations on.party.link).exchange.trace) l indication) (asks.last_is on)

-- what an abort speaks on the link
abbrev pub speaking_of : Link → Association → List Said → List Reply
speaking_of link a said = speaking link.number (sending_all (indications.Abort None) a said).octets true

-- a message is taken,
pub told-takes : {D : Type 0} (moment : ℕ) (link : Link) (kept : Kept D) (serving : Serving) (indication : Indication) (serial : ℕ) (last : Option ℕ) (message : Message)
    → Represents (with_link link kept) serving → AsksSo link kept serving serial last → run.Takes message ≡ run.meaning serial last indication
    → told moment link.number serving indication ≡ taking moment link.number serving indication message
told-takes moment link kept serving indication serial last message represents asks is =
    let on = on-link link kept serving represents in
    told-on moment link kept serving on indication (run.Takes message) (meant-so link kept serving on serial last indication (run.Takes message) asks is)
    ∙ sym (ap (λ (n : ℕ). taking_by moment indication serving (party_of n serving.filestore.parties) message) on.linked
    ∙ ap (λ (found : Option StandingParty). taking_by moment indication serving found message) on.found)

pub read-so : (indication : Indication) (serial : ℕ) (last : Option ℕ) (message : Message) → IsReadTold indication → run.Takes message ≡ run.meaning serial last indication → IsRead message
read-so indication serial last message read is = subst IsReadMeaning (sym is) (read serial last)

-- a fault ends the association,
pub told-faults : {D : Type 0} (moment : ℕ) (link : Link) (kept kept' : Kept D) (serving : Serving) (indication : Indication) (serial : ℕ) (last : Option ℕ) (number place : ℕ) (old new : List Reply) (said : List Said)
    → Represents (with_link link kept) serving → AsksSo link kept serving serial last → run.Faults number place ≡ run.meaning serial last indication
    → said ≡ answers.Abort number place ∷ [] → LeavesParty link.party kept.locks kept'.locks → kept'.links ≡ kept.links → kept'.store.tables ≡ kept.store.tables
    → ((a : Association) → IsCalled link.stack a → new ≡ old ++ speaking_of link a said)
    → Answers (told moment link.number serving indication) serving old kept' new
told-faults moment link kept kept' serving indication serial last number place old new said represents asks is is_abort leaves links tables spoken =
    let on = on-link link kept serving represents in
    let a = serving.associations on.party.link in
    let trail = told-on moment link kept serving on indication (run.Faults number place) (meant-so link kept serving on serial last indication (run.Faults number place) asks is) in
    let held : Keeps kept'.locks (broken on.party.link serving.filestore) =
    leaves kept.store.tables serving.filestore on.party (record { sound = represents.reached.sound; kept = represents.tables; held = represents.held; stands = on.found }) on.is.represented in
    subst (λ (all : List Answer). Answers all serving old kept' new) (sym trail)
    (says-gone link kept kept' serving represents on indication (answers.Abort number place ∷ []) (sending_all (indications.Abort None) a (answers.Abort number place ∷ [])) old new
    (abort-alone (indications.Abort None) indication a number place)
    (spoken a on.is.called ∙ ap (λ (all : List Said). old ++ speaking_of link a all) is_abort) links tables held)

-- and else nothing comes of it.
pub told-nothing : {D : Type 0} (moment : ℕ) (link : Link) (kept : Kept D) (serving : Serving) (indication : Indication) (serial : ℕ) (last : Option ℕ) (old : List Reply)
    → Represents (with_link link kept) serving → AsksSo link kept serving serial last → run.Nothing ≡ run.meaning serial last indication
    → Answers (told moment link.number serving indication) serving old (with_link link kept) old
told-nothing moment link kept serving indication serial last old represents asks is =
    let on = on-link link kept serving represents in
    let trail = told-on moment link kept serving on indication run.Nothing (meant-so link kept serving on serial last indication run.Nothing asks is) in
    subst (λ (all : List Answer). Answers all serving old (with_link link kept) old) (sym trail) (says-nothing link kept serving represents on indication old)

-- ---- on a link where nobody stands

pub told-gone : (moment number : ℕ) (serving : Serving) (all : List Indication) → party_of number serving.filestore.parties ≡ None → told_all moment number serving all ≡ []
told-gone moment number serving [] none = refl
told-gone moment number serving (indication ∷ later) none =
    let first : told moment number serving indication ≡ [] = ap (λ (found : Option StandingParty). answering_on moment indication serving found) none in
    ap (λ (answers : List Answer). answers ++ told_all moment number (at_end serving answers) later) first ∙ told-gone moment number serving later none

heard-by : (b : Bool) (all : List Answer) → b ≡ false → (if b then all else []) ≡ []
heard-by true all e = cc
heard-by false all e = refl

pub heard-gone : (moment number : ℕ) (serving : Serving) (octets : List ℕ) → stands number serving.filestore ≡ false → octets_heard moment number serving octets ≡ []
heard-gone moment number serving [] e = refl
heard-gone moment number serving (octet ∷ later) e =
    let first = octet_heard moment number serving octet in
    heard-by (stands number serving.filestore) (first ++ octets_heard moment number (at_end serving first) later) e

-- ---- cut anywhere

cut-by : (moment number : ℕ) (serving : Serving) (octet : ℕ) (front more : List ℕ) (b : Bool) → stands number serving.filestore ≡ b
    → ((s : Serving) → octets_heard moment number s (front ++ more) ≡ octets_heard moment number s front ++ octets_heard moment number (at_end s (octets_heard moment number s front)) more)
    → octets_heard moment number serving ((octet ∷ front) ++ more)
    ≡ octets_heard moment number serving (octet ∷ front) ++ octets_heard moment number (at_end serving (octets_heard moment number serving (octet ∷ front))) more
cut-by moment number serving octet front more true e rest =
    let first = octet_heard moment number serving octet in
    let s = at_end serving first in
    let others = octets_heard moment number s front in
    let whole : octets_heard moment number serving (octet ∷ front) ≡ first ++ others = ap (λ (b : Bool). if b then first ++ others else []) e in
    ap (λ (b : Bool). if b then first ++ octets_heard moment number s (front ++ more) else []) e
    ∙ ap (λ (all : List Answer). first ++ all) (rest s) ∙ sym (append_assoc first others (octets_heard moment number (at_end s others) more))
    ∙ ap (λ (now : Serving). (first ++ others) ++ octets_heard moment number now more) (sym (at_end-join serving first others))
    ∙ ap (λ (all : List Answer). all ++ octets_heard moment number (at_end serving all) more) (sym whole)
cut-by moment number serving octet front more false e rest =
    heard-gone moment number serving ((octet ∷ front) ++ more) e
    ∙ sym (ap (λ (all : List Answer). all ++ octets_heard moment number (at_end serving all) more) (heard-gone moment number serving (octet ∷ front) e)
    ∙ heard-gone moment number serving more e)

pub heard-cut : (moment number : ℕ) (front more : List ℕ) (serving : Serving)
    → octets_heard moment number serving (front ++ more) ≡ octets_heard moment number serving front ++ octets_heard moment number (at_end serving (octets_heard moment number serving front)) more
heard-cut moment number [] more serving = refl
heard-cut moment number (octet ∷ front) more serving = cut-by moment number serving octet front more (stands number serving.filestore) refl (heard-cut moment number front more)

-- ---- what telling owes

pub tell-takes : {D : Type 0} (moment : ℕ) (link link' : Link) (kept kept' : Kept D) (indication : Indication) (serial : ℕ) (last : Option ℕ) (message : Message) (old new : List Reply) (result : Result Bool JournalError)
    → run.Takes message ≡ run.meaning serial last indication → ((serving : Serving) → AsksSo link kept serving serial last)
    → IfOk result (λ goes. Does (λ serving. taking moment link.number serving indication message) (with_link link kept) old (put_back goes link' kept') new)
    → IfOk result (λ goes. Does (λ serving. told moment link.number serving indication) (with_link link kept) old (put_back goes link' kept') new)
tell-takes moment link link' kept kept' indication serial last message old new (Ok goes) is asks does = λ serving represents.
    subst (λ (all : List Answer). Answers all serving old (put_back goes link' kept') new)
    (sym (told-takes moment link kept serving indication serial last message represents (asks serving) is)) (does serving represents)
tell-takes moment link link' kept kept' indication serial last message old new (Err error) is asks does = tt

pub run-takes : {D : Type 0} (before after : D) (clock : D → ℕ) (left_since : D → ℕ → List ℕ → Type 0) (moment : ℕ) (link : Link) (kept : Kept D) (serving : Serving) (indication : Indication) (serial : ℕ) (last : Option ℕ) (message : Message)
    → Represents (with_link link kept) serving → AsksSo link kept serving serial last → run.Takes message ≡ run.meaning serial last indication
    → LeavesOnly clock left_since before after (RepresentsAlong serving (taking moment link.number serving indication message))
    → LeavesOnly clock left_since before after (RepresentsAlong serving (told moment link.number serving indication))
run-takes before after clock left_since moment link kept serving indication serial last message represents asks is leaves =
    subst (λ (all : List Answer). LeavesOnly clock left_since before after (RepresentsAlong serving all))
    (sym (told-takes moment link kept serving indication serial last message represents asks is)) leaves
