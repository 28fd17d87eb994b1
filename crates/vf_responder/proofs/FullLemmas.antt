-- A message whose changes have no room, among answers that go before and after it.
use Rattle.std.proofs.Common.{◌≡◌, ℕ, Bool, List, [], ◌∷◌, ◌++◌, Result, Ok, Err, refl, ap, sym, subst, ◌∙◌, append_assoc}
use Rattle.vf_elements.specs.declared.message.Message.{Message}
use Rattle.vf_journal.specs.declared.error.JournalError.{JournalError}
use Rattle.vf_journal.specs.declared.error.JournalError.TheVariants.{NotAStore, Full, DiskFault, NoMemory}
use Rattle.vf_party.specs.declared.party.Outcome.{Outcome}
use Rattle.vf_party_steps.specs.Steps.{HoldersOfFiles}
use Rattle.vf_stack.specs.declared.indication.Indication.{Indication}
use Rattle.vf_store.specs.Answers.{CommitAnswers}
use Rattle.vf_store.specs.Commit.{placed}
use Rattle.vf_store.specs.StoreState.{StoreState}
use Rattle.vf_tables.specs.declared.change.Change.{Change}
use Rattle.vf_responder.proofs.ChainLemmas.{IsOnward, at_end-join}
use Rattle.vf_responder.proofs.MoveLemmas.{IsTakenOut, out-numbered, out-represents}
use Rattle.vf_responder.proofs.TakeLemmas.{IsTakenSo, changes-are, now_of, setting_in, taken-so, way_first}
use Rattle.vf_responder.proofs.TellLemmas.{heard-cut}
use Rattle.vf_responder.specs.Answers.{Answer, at_end, octets_heard, told, told_all}
use Rattle.vf_responder.specs.Full.{AtFull, FullAlong, IsFullAt, WhereFull, answer_to, changes_to}
use Rattle.vf_responder.specs.Represents.{GivesWay, IsErrorOf, Kept, Represents, with_link}
use Rattle.vf_responder.specs.Serving.{Serving}
use Rattle.vf_responder.specs.Steps.{IsAsked, TakesOn, taking}
use Rattle.vf_responder.specs.declared.event.Reply.{Reply}
use Rattle.vf_responder.specs.declared.link.Link.{Link}
use Rattle.vf_responder.specs.declared.meaning.Asked.{Asked}

pub full-to : (error : JournalError) (holds others : ℕ → Type 0) → AtFull error holds → ((place : ℕ) → holds place → others place) → AtFull error others
full-to (NotAStore place found expected) holds others full to = tt
full-to (Full length bound) holds others full to = to length full
full-to DiskFault holds others full to = tt
full-to NoMemory holds others full to = tt

-- ---- among other answers

pub full-front : {D : Type 0} (store : StoreState D) (place : ℕ) (first rest : List Answer) (serving : Serving) → IsFullAt first serving store place → IsFullAt (first ++ rest) serving store place
full-front store place first rest serving full = record {
  before = full.before;
  now = full.now;
  moment = full.moment;
  indication = full.indication;
  party = full.party;
  message = full.message;
  later = full.later ++ rest;
  reached = full.reached;
  stands = full.stands;
  next = ap (λ (answers : List Answer). answers ++ rest) full.next ∙ append_assoc full.before (answer_to full.moment full.indication full.now full.party full.message ∷ full.later) rest;
  kept = full.kept;
  end = full.end;
}

pub full-after : {D : Type 0} (store : StoreState D) (place : ℕ) (first next : List Answer) (serving : Serving) → IsFullAt next (at_end serving first) store place → IsFullAt (first ++ next) serving store place
full-after store place first next serving full = record {
  before = first ++ full.before;
  now = full.now;
  moment = full.moment;
  indication = full.indication;
  party = full.party;
  message = full.message;
  later = full.later;
  reached = full.reached ∙ sym (at_end-join serving first full.before);
  stands = full.stands;
  next = ap (λ (answers : List Answer). first ++ answers) full.next ∙ sym (append_assoc first full.before (answer_to full.moment full.indication full.now full.party full.message ∷ full.later));
  kept = full.kept;
  end = full.end;
}

-- of all answers the next ones, after those that were made
pub full-onward : {D : Type 0} (store : StoreState D) (place : ℕ) (all : List Answer) (serving : Serving) (old mid : List Reply) (kept : Kept D) (rest : Serving → List Answer)
    → (o : IsOnward all serving old kept mid rest) → (next later : List Answer) → rest (at_end serving o.done) ≡ next ++ later
    → IsFullAt next (at_end serving o.done) store place → IsFullAt all serving store place
full-onward store place all serving old mid kept rest o next later splits full =
    let is : all ≡ o.done ++ (next ++ later) = o.whole ∙ ap (λ (answers : List Answer). o.done ++ answers) splits in
    subst (λ (answers : List Answer). IsFullAt answers serving store place) (sym is)
    (full-after store place o.done (next ++ later) serving (full-front store place next later (at_end serving o.done) full))

-- ---- a commit

pub commit-full : {D : Type 0} (old new : StoreState D) (end limit before now : ℕ) (result : Result (Unit {0}) JournalError)
    → CommitAnswers {S = StoreState D} {T = Unit {0}} old new end limit before now result → WhereFull {T = Unit {0}} result (λ place. (place ≡ end) × (new ≡ old))
commit-full old new end limit before now (Ok done) h = tt
commit-full old new end limit before now (Err (Full length bound)) h = (h.1, h.3)
commit-full old new end limit before now (Err DiskFault) h = tt
commit-full old new end limit before now (Err NoMemory) h = tt
commit-full old new end limit before now (Err (NotAStore place found expected)) h = tt

-- ---- a message of the link's party

full-so : {D : Type 0} (link : Link) (kept mid_kept : Kept D) (locks : HoldersOfFiles) (serving : Serving) (moment : ℕ) (indication : Indication) (message : Message) (outcome : Outcome) (old mid : List Reply)
    → (so : IsTakenSo link kept mid_kept locks serving moment indication message outcome old mid) → (store : StoreState D) (place : ℕ)
    → place ≡ (placed mid_kept.store.journal mid_kept.store.tables outcome.changes).end → store ≡ mid_kept.store → IsFullAt (taking moment link.number serving indication message) serving store place
full-so {D} link kept mid_kept locks serving moment indication message outcome old mid so store place end same =
    let now = now_of serving so.party message in
    let are : outcome.changes ≡ changes_to moment indication now so.party message =
    so.taken.differs ∙ sym (changes-are now.filestore so.party (setting_in moment indication serving so.party message) message so.alone) in
    let is : place ≡ (placed mid_kept.store.journal mid_kept.store.tables (changes_to moment indication now so.party message)).end =
    end ∙ ap (λ (changes : List Change). (placed mid_kept.store.journal mid_kept.store.tables changes).end) are in
    subst (λ (store : StoreState D). IsFullAt (taking moment link.number serving indication message) serving store place) (sym same)
    (record {
      before = way_first serving so.party message;
      now = now;
      moment = moment;
      indication = indication;
      party = so.party;
      message = message;
      later = [];
      reached = refl;
      stands = so.alone.stands;
      next = so.trail;
      kept = sym so.way.represents.tables;
      end = is;
    })

pub take-full : {D : Type 0} (link : Link) (kept mid_kept : Kept D) (locks : HoldersOfFiles) (moment : ℕ) (asked : Asked) (message : Message) (outcome : Outcome) (old mid : List Reply) (store : StoreState D) (error : JournalError)
    → GivesWay link message kept old mid_kept mid → TakesOn mid_kept.store.tables mid_kept.locks locks link moment asked message outcome
    → AtFull error (λ place. (place ≡ (placed mid_kept.store.journal mid_kept.store.tables outcome.changes).end) × (store ≡ mid_kept.store))
    → (indication : Indication) → IsAsked asked indication → (serving : Serving) → Represents (with_link link kept) serving
    → AtFull error (λ place. IsFullAt (taking moment link.number serving indication message) serving store place)
take-full link kept mid_kept locks moment asked message outcome old mid store error way turn full indication ask serving represents =
    full-to error (λ place. (place ≡ (placed mid_kept.store.journal mid_kept.store.tables outcome.changes).end) × (store ≡ mid_kept.store))
    (λ place. IsFullAt (taking moment link.number serving indication message) serving store place) full
    (λ place is. full-so link kept mid_kept locks serving moment indication message outcome old mid
    (taken-so link kept mid_kept locks serving moment indication asked message outcome old mid represents ask (way serving represents) turn) store place is.0 is.1)

-- ---- an indication more, and a piece more

pub tell-full : {D : Type 0} (store : StoreState D) (error : JournalError) (moment number other : ℕ) (all : List Answer) (serving : Serving) (old said : List Reply) (kept : Kept D) (indication : Indication) (later whole : List Indication)
    → other ≡ number → whole ≡ indication ∷ later → (o : IsOnward all serving old kept said (λ s. told_all moment number s whole))
    → ((now : Serving) → Represents kept now → AtFull error (λ place. IsFullAt (told moment other now indication) now store place))
    → AtFull error (λ place. IsFullAt all serving store place)
tell-full store error moment number other all serving old said kept indication later whole same is o full =
    let now = at_end serving o.done in
    let next = told moment number now indication in
    full-to error (λ place. IsFullAt (told moment other now indication) now store place) (λ place. IsFullAt all serving store place) (full now o.answers.represents)
    (λ place at. full-onward store place all serving old said kept (λ s. told_all moment number s whole) o next (told_all moment number (at_end now next) later)
    (ap (λ (rest : List Indication). told_all moment number now rest) is)
    (subst (λ (n : ℕ). IsFullAt (told moment n now indication) now store place) same at))

pub piece-full : {D : Type 0} (store : StoreState D) (error : JournalError) (moment number other : ℕ) (whole rest front more : List ℕ) (serving : Serving) (old mid : List Reply) (kept : Kept D)
    → other ≡ number → rest ≡ front ++ more → (o : IsOnward (octets_heard moment number serving whole) serving old kept mid (λ s. octets_heard moment number s rest))
    → ((now : Serving) → Represents kept now → AtFull error (λ place. IsFullAt (octets_heard moment other now front) now store place))
    → AtFull error (λ place. IsFullAt (octets_heard moment number serving whole) serving store place)
piece-full store error moment number other whole rest front more serving old mid kept same cut o full =
    let now = at_end serving o.done in
    let next = octets_heard moment number now front in
    let all = octets_heard moment number serving whole in
    full-to error (λ place. IsFullAt (octets_heard moment other now front) now store place) (λ place. IsFullAt all serving store place) (full now o.answers.represents)
    (λ place at. full-onward store place all serving old mid kept (λ s. octets_heard moment number s rest) o next (octets_heard moment number (at_end now next) more)
    (ap (λ (octets : List ℕ). octets_heard moment number now octets) cut ∙ heard-cut moment number front more now)
    (subst (λ (n : ℕ). IsFullAt (octets_heard moment n now front) now store place) same at))

-- ---- a link that was taken out of the others

full-is : (error other : JournalError) (holds : ℕ → Type 0) → AtFull error holds → other ≡ error → AtFull other holds
full-is error other holds full is = subst (λ (e : JournalError). AtFull e holds) (sym is) full

full-of : {D : Type 0} (store : StoreState D) (answers : List Answer) (serving : Serving) (heard : Result Bool JournalError) (result : Result (Unit {0}) JournalError)
    → WhereFull heard (λ place. IsFullAt answers serving store place) → IsErrorOf heard result → WhereFull result (λ place. IsFullAt answers serving store place)
full-of store answers serving heard (Ok done) full is = tt
full-of store answers serving (Ok goes) (Err error) full is = full-is NoMemory error (λ place. IsFullAt answers serving store place) tt is
full-of store answers serving (Err error) (Err other) full is = full-is error other (λ place. IsFullAt answers serving store place) full is

pub back-full : {D : Type 0} (moment number : ℕ) (link : Link) (octets : List ℕ) (kept rest : Kept D) (store last : StoreState D) (heard : Result Bool JournalError) (result : Result (Unit {0}) JournalError)
    → IsTakenOut number link kept rest → FullAlong (λ s. octets_heard moment link.number s octets) (with_link link rest) store heard → last ≡ store → IsErrorOf heard result
    → FullAlong (λ s. octets_heard moment number s octets) kept last result
back-full {D} moment number link octets kept rest store last heard result out full same is = λ serving represents.
    let first = full serving (out-represents number link kept rest serving represents out) in
    let second = subst (λ (n : ℕ). WhereFull heard (λ place. IsFullAt (octets_heard moment n serving octets) serving store place)) (out-numbered number link kept rest serving represents out) first in
    subst (λ (store : StoreState D). WhereFull result (λ place. IsFullAt (octets_heard moment number serving octets) serving store place)) (sym same)
    (full-of store (octets_heard moment number serving octets) serving heard result second is)
