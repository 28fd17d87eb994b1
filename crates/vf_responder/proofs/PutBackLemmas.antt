-- A link was taken out of the others, octets came on it, and it was put back where its party goes on.
use Rattle.std.proofs.Common.{◌≡◌, ℕ, Bool, true, false, List, length, Option, None, Result, Ok, Err, refl, ap, sym, subst, ◌∙◌, append-nil}
use Rattle.std.specs.Prelude.{IfOk, OnOk, is_some}
use Rattle.vf_disk.specs.Disk.{LeavesOnly}
use Rattle.vf_filestore.specs.State.{StandingParty}
use Rattle.vf_journal.specs.declared.error.JournalError.{JournalError}
use Rattle.vf_journal.specs.declared.error.JournalError.TheVariants.{NotAStore, Full, DiskFault, NoMemory}
use Rattle.vf_store.specs.StoreState.{IsRepresented, StoreState}
use Rattle.vf_responder.proofs.MoveLemmas.{IsTakenOut, nobody-on, out-numbered, out-represents}
use Rattle.vf_responder.proofs.TellLemmas.{heard-gone}
use Rattle.vf_responder.specs.Along.{RepresentsAlong}
use Rattle.vf_responder.specs.Answers.{Answer, octets_heard}
use Rattle.vf_responder.specs.Represents.{AnswerCauses, Answers, Does, IsErrorOf, Kept, KeepsAlong, link_of, put_back, with_link}
use Rattle.vf_responder.specs.declared.event.Reply.{Reply}
use Rattle.vf_responder.specs.declared.link.Link.{Link}

same-kept : {D : Type 0} (one other : Kept D) → one.store ≡ other.store → one.locks ≡ other.locks → one.links ≡ other.links → one ≡ other
same-kept one other store locks links = λ i. record { store = store i; locks = locks i; links = links i }

-- ---- what was put back

put-store : {D : Type 0} (goes : Bool) (link : Link) (kept : Kept D) → (put_back goes link kept).store ≡ kept.store
put-store true link kept = refl
put-store false link kept = refl

put-locks : {D : Type 0} (goes : Bool) (link : Link) (kept : Kept D) → (put_back goes link kept).locks ≡ kept.locks
put-locks true link kept = refl
put-locks false link kept = refl

put-is : {D : Type 0} (goes : Bool) (link : Link) (kept last : Kept D) → last.store ≡ kept.store → last.locks ≡ kept.locks → last.links ≡ (put_back goes link kept).links → put_back goes link kept ≡ last
put-is goes link kept last store locks links =
    same-kept (put_back goes link kept) last (put-store goes link kept ∙ sym store) (put-locks goes link kept ∙ sym locks) (sym links)

-- ---- what hearing and then putting back owe

-- octets on a link are those on the link of its number
number-does : {D : Type 0} (moment number : ℕ) (link : Link) (octets : List ℕ) (kept rest kept' : Kept D) (old new : List Reply) → IsTakenOut number link kept rest
    → Does (λ s. octets_heard moment link.number s octets) (with_link link rest) old kept' new → Does (λ s. octets_heard moment number s octets) kept old kept' new
number-does moment number link octets kept rest kept' old new out does serving represents =
    subst (λ (n : ℕ). Answers (octets_heard moment n serving octets) serving old kept' new) (out-numbered number link kept rest serving represents out)
    (does serving (out-represents number link kept rest serving represents out))

pub back-answers : {D : Type 0} (moment number : ℕ) (link link' : Link) (octets : List ℕ) (kept rest kept' last : Kept D) (old new : List Reply) (heard : Result Bool JournalError) (result : Result (Unit {0}) JournalError)
    → IsTakenOut number link kept rest → IfOk heard (λ goes. Does (λ s. octets_heard moment link.number s octets) (with_link link rest) old (put_back goes link' kept') new)
    → IsErrorOf heard result → OnOk result (IfOk heard (λ goes. link_of link'.number kept'.links ≡ None → last.links ≡ (put_back goes link' kept').links))
    → link'.number ≡ link.number → (link_of link.number rest.links ≡ None → link_of link.number kept'.links ≡ None) → last.store ≡ kept'.store → last.locks ≡ kept'.locks
    → OnOk result (Does (λ s. octets_heard moment number s octets) kept old last new)
back-answers moment number link link' octets kept rest kept' last old new (Ok goes) (Ok done) out does is put numbered apart store locks = λ serving represents.
    let own : link.number ≡ number = out-numbered number link kept rest serving represents out in
    let free : link_of link'.number kept'.links ≡ None =
    subst (λ (n : ℕ). link_of n kept'.links ≡ None) (sym numbered) (apart (subst (λ (n : ℕ). link_of n rest.links ≡ None) (sym own) out.none)) in
    subst (λ (k : Kept _). Answers (octets_heard moment number serving octets) serving old k new) (put-is goes link' kept' last store locks (put free))
    (number-does moment number link octets kept rest (put_back goes link' kept') old new out does serving represents)
back-answers moment number link link' octets kept rest kept' last old new (Err error) (Ok done) out does is put numbered apart store locks = absurd is
back-answers moment number link link' octets kept rest kept' last old new heard (Err error) out does is put numbered apart store locks = tt

pub back-represented : {D : Type 0} (shown : D → Option (List ℕ)) (may_leave : D → List ℕ → Type 0) (kept' last : StoreState D) (heard : Result Bool JournalError) (result : Result (Unit {0}) JournalError)
    → OnOk heard (IsRepresented shown may_leave kept') → IsErrorOf heard result → last ≡ kept' → OnOk result (IsRepresented shown may_leave last)
back-represented shown may_leave kept' last (Ok goes) (Ok done) stands is same = subst (λ (store : StoreState _). IsRepresented shown may_leave store) (sym same) stands
back-represented shown may_leave kept' last (Err error) (Ok done) stands is same = absurd is
back-represented shown may_leave kept' last heard (Err error) stands is same = tt

pub back-along : {D : Type 0} (shown : D → Option (List ℕ)) (may_leave : D → List ℕ → Type 0) (clock : D → ℕ) (left_since : D → ℕ → List ℕ → Type 0)
    (moment number : ℕ) (link : Link) (octets : List ℕ) (kept rest kept' last : Kept D)
    → IsTakenOut number link kept rest → KeepsAlong (λ s. octets_heard moment link.number s octets) shown may_leave clock left_since (with_link link rest) kept' → last.store ≡ kept'.store
    → KeepsAlong (λ s. octets_heard moment number s octets) shown may_leave clock left_since kept last
back-along shown may_leave clock left_since moment number link octets kept rest kept' last out along same serving represents stands =
    let again : IsRepresented shown may_leave rest.store = subst (λ (store : StoreState _). IsRepresented shown may_leave store) (sym out.store) stands in
    let first = along serving (out-represents number link kept rest serving represents out) again in
    let second = subst (λ (n : ℕ). LeavesOnly clock left_since rest.store.disk kept'.store.disk (RepresentsAlong serving (octets_heard moment n serving octets)))
    (out-numbered number link kept rest serving represents out) first in
    let third = subst (λ (store : StoreState _). LeavesOnly clock left_since store.disk kept'.store.disk (RepresentsAlong serving (octets_heard moment number serving octets))) out.store second in
    subst (λ (store : StoreState _). LeavesOnly clock left_since kept.store.disk store.disk (RepresentsAlong serving (octets_heard moment number serving octets))) (sym same) third

error-causes : (limit before after : ℕ) (error : JournalError) → AnswerCauses {T = Bool} limit before after (Err error) → AnswerCauses {T = Unit {0}} limit before after (Err error)
error-causes limit before after (NotAStore place found expected) causes = causes
error-causes limit before after (Full length bound) causes = causes
error-causes limit before after DiskFault causes = causes
error-causes limit before after NoMemory causes = causes

pub back-causes : (limit before after : ℕ) (heard : Result Bool JournalError) (result : Result (Unit {0}) JournalError) → AnswerCauses limit before after heard → IsErrorOf heard result → AnswerCauses limit before after result
back-causes limit before after (Ok goes) (Ok done) causes is = causes
back-causes limit before after (Ok goes) (Err error) causes is = subst (λ (e : JournalError). AnswerCauses {T = Unit {0}} limit before after (Err e)) (sym is) causes
back-causes limit before after (Err error) (Ok done) causes is = absurd is
back-causes limit before after (Err error) (Err other) causes is =
    subst (λ (e : JournalError). AnswerCauses {T = Unit {0}} limit before after (Err e)) (sym is) (error-causes limit before after error causes)

-- ---- octets on a link that doesn't stand

pub none-heard : {D : Type 0} (moment number : ℕ) (octets : List ℕ) (kept : Kept D) (old : List Reply) → link_of number kept.links ≡ None → Does (λ s. octets_heard moment number s octets) kept old kept old
none-heard moment number octets kept old free serving represents =
    subst (λ (answers : List Answer). Answers answers serving old kept old)
    (sym (heard-gone moment number serving octets (ap (λ (p : Option StandingParty). is_some p) (nobody-on number kept serving represents free))))
    (record { spoken = sym (append-nil old); represents = represents })
