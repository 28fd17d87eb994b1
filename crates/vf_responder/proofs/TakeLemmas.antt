-- A message of a link's party, once the association in its way is gone: what changes, and the state represented after it.
use Rattle.std.proofs.Common.{◌≡◌, ℕ, ◌+◌, Bool, true, false, ◌&&◌, List, [], ◌∷◌, ◌++◌, length, Option, Some, None, ⊎_elim, refl, ap, sym, subst, ◌∙◌, arith}
use Rattle.std.specs.Prelude.{IfSome, is_some, not, if◌then◌else◌}
use Rattle.vf_elements.specs.declared.message.Said.{Said}
use Rattle.vf_stack.specs.Association.{Association}
use Rattle.vf_disk.proofs.Runs.{weaker}
use Rattle.vf_disk.specs.Disk.{LeavesOnly}
use Rattle.vf_elements.specs.declared.message.Message.{Message}
use Rattle.vf_filestore.proofs.RangedStates.{messages_reached, read_messages_make}
use Rattle.vf_filestore.specs.Aborts.{Setting}
use Rattle.vf_filestore.specs.Conclusion.{Answered}
use Rattle.vf_filestore.specs.Decision.{decision}
use Rattle.vf_filestore.specs.Ranges.{IsReached, IsRead}
use Rattle.vf_filestore.specs.Records.{changes_by, changes_of_party, changes_where, given_way}
use Rattle.vf_filestore.specs.Runs.{Takes}
use Rattle.vf_filestore.specs.Sound.{IsSound}
use Rattle.vf_filestore.specs.State.{State, StandingParty, party_of}
use Rattle.vf_filestore.specs.Tables.{tables_of}
use Rattle.vf_filestore.specs.Transition.{Turn, answered, superseded_by, transition}
use Rattle.vf_locks.specs.declared.held.Held.{Held}
use Rattle.vf_party_steps.specs.Steps.{HoldersOfFiles}
use Rattle.vf_party.specs.Hearing.{outcome_in}
use Rattle.vf_party.specs.Turns.{IsNext, IsParty, IsTaken}
use Rattle.vf_party.specs.declared.hearing.Answered.{Answered as Heard}
use Rattle.vf_party.specs.declared.party.Outcome.{Outcome}
use Rattle.vf_party.specs.declared.party.Party.{Party}
use Rattle.vf_stack.specs.Represents as stack_of
use Rattle.vf_stack.specs.declared.indication.Indication.{Indication}
use Rattle.vf_store.specs.Commit.{AreFitting}
use Rattle.vf_store.specs.Represented.{Represents as ImageRepresents, RepresentsEither}
use Rattle.vf_store.specs.StoreState.{IsRepresented, StoreState}
use Rattle.vf_tables.specs.Changes.{after_all}
use Rattle.vf_tables.specs.Fitting.{all_fit}
use Rattle.vf_tables.specs.Making.{made_of}
use Rattle.vf_tables.specs.Validity.{is_valid}
use Rattle.vf_tables.specs.declared.change.Change.{Change}
use Rattle.vf_tables.specs.declared.tables.Tables.{Tables}
use Rattle.vf_responder.proofs.ChainLemmas.{along-all, along-none, at_end-join, joined-answers}
use Rattle.vf_filestore.proofs.Counts.{answers_count}
use Rattle.vf_filestore.proofs.GivingWay.{answers_follow}
use Rattle.vf_filestore.proofs.Others.{answers_leave_others}
use Rattle.vf_filestore.specs.GivingWay.{gone_of}
use Rattle.vf_responder.proofs.SaysLemmas.{said-once}
use Rattle.vf_responder.proofs.StoreLemmas.{idle-along}
use Rattle.vf_responder.proofs.StandLemmas.{leaves-it, on-link, stays-on}
use Rattle.vf_responder.specs.Along.{RepresentsAlong}
use Rattle.vf_responder.specs.Answers.{Answer, at_end, giving_way, says, setting_at}
use Rattle.vf_responder.specs.AnswersTo.{to_way}
use Rattle.vf_responder.specs.Commits.{to_taking, to_taking_by}
use Rattle.vf_responder.specs.Replies.{sending_all}
use Rattle.vf_responder.specs.Represents.{Answers, Does, GivesWay, IsLink, Kept, Represents, put_back, way_by, way_of, with_link}
use Rattle.vf_responder.specs.Run.{tables_in}
use Rattle.vf_responder.specs.Serving.{Serving, stands}
use Rattle.vf_responder.specs.Steps.{IsAsked, IsCalled, IsSaid, TakesOn, taking, taking_by}
use Rattle.vf_responder.specs.declared.event.Reply.{Reply}
use Rattle.vf_responder.specs.declared.link.Link.{Link}
use Rattle.vf_responder.specs.declared.meaning.Asked.{Asked}

-- ---- the state in which the party answers

pub record Answering (state : State) (party : StandingParty) (setting : Setting) (message : Message) : Type 0 where
  pub nobody : superseded_by state party message ≡ None
  pub stands : party_of party.link state.parties ≡ Some party
  pub turned : (transition state party.link setting message).state ≡ (answered state party setting message).state

now-is : (serving : Serving) (found : Option StandingParty) → (at_end serving (giving_way serving found)).filestore ≡ given_way found serving.filestore
now-is serving None = refl
now-is serving (Some other) = refl

pub answering-now : (serving : Serving) (party : StandingParty) (setting : Setting) (message : Message) → IsSound serving.filestore → party_of party.link serving.filestore.parties ≡ Some party
    → Answering (at_end serving (giving_way serving (superseded_by serving.filestore party message))).filestore party setting message
answering-now serving party setting message sound found =
    let after = answers_follow serving.filestore party.link party setting message sound found in
    subst (λ (s : State). Answering s party setting message) (sym (now-is serving (superseded_by serving.filestore party message)))
    (record { nobody = after.nobody; stands = after.stands; turned = ap (λ (t : Turn). t.state) after.alone })

-- ---- what changes

made-by : (fit valid : Bool) (made x : Tables) → (if fit && valid then Some made else None) ≡ Some x → (fit ≡ true) × (valid ≡ true) × (made ≡ x)
made-by true true made x e = (refl, refl, cc)
made-by true false made x e = cc
made-by false valid made x e = cc

pub changes-are : (state : State) (party : StandingParty) (setting : Setting) (message : Message) → Answering state party setting message
    → changes_by state party.link setting message ≡ changes_where state party setting message (decision state party setting message)
changes-are state party setting message alone =
    ap (λ (found : Option StandingParty). changes_of_party state setting message found) alone.stands
    ∙ ap (λ (found : Option StandingParty). changes_where (given_way found state) party setting message (decision (given_way found state) party setting message)) alone.nobody

-- the changes fit the tables, and make those after the message
pub record AreMade (tables : Tables) (changes : List Change) (state : State) : Type 0 where
  pub fitting : AreFitting tables changes
  pub made : after_all tables changes ≡ tables_of state

pub are-made : (state : State) (party : StandingParty) (setting : Setting) (message : Message) (tables : Tables) (changes : List Change)
    → Answering state party setting message → IsRead message → IsReached state → tables_of state ≡ tables
    → changes ≡ changes_where state party setting message (decision state party setting message) → AreMade tables changes (answered state party setting message).state
are-made state party setting message tables changes alone read reached kept are =
    let same : changes_by state party.link setting message ≡ changes = changes-are state party setting message alone ∙ sym are in
    let makes : made_of tables changes ≡ Some (tables_of (answered state party setting message).state) =
    ap (λ (t : Tables). made_of t changes) (sym kept) ∙ ap (λ (all : List Change). made_of (tables_of state) all) (sym same)
    ∙ read_messages_make state party.link setting message read reached ∙ ap (λ (s : State). Some (tables_of s)) alone.turned in
    let parts = made-by (all_fit tables changes) (is_valid (after_all tables changes)) (after_all tables changes) (tables_of (answered state party setting message).state) makes in
    record { fitting = record { each = parts.0; valid = parts.1 }; made = parts.2 }

-- ---- the state after it

-- the party that stands is the one that answers
same-party : (state : State) (one other : StandingParty) → one.link ≡ other.link → party_of one.link state.parties ≡ Some one → party_of other.link state.parties ≡ Some other → one ≡ other
same-party state one other linked a b =
    let e : Some one ≡ Some other = sym a ∙ ap (λ (n : ℕ). party_of n state.parties) linked ∙ b in cc

pub record IsOnAs (link : Link) (serving : Serving) (party : StandingParty) : Type 0 where
  pub linked : link.number ≡ party.link
  pub is : IsLink party.link link party (serving.associations party.link)

pub on-as : {D : Type 0} (link : Link) (kept : Kept D) (now : Serving) (party : StandingParty) → Represents (with_link link kept) now → link.number ≡ party.link
    → party_of party.link now.filestore.parties ≡ Some party → IsOnAs link now party
on-as link kept now party represents linked found =
    let on = on-link link kept now represents in
    let same : on.party ≡ party = same-party now.filestore on.party party (sym on.linked ∙ linked) on.found found in
    record { linked = linked; is = subst (λ (p : StandingParty). IsLink p.link link p (now.associations p.link)) same on.is }

goes-by : (next : Option Party) (found : Option StandingParty) → IsNext next found → not (is_some next) ≡ not (is_some found)
goes-by None found is = sym (ap (λ (p : Option StandingParty). not (is_some p)) is)
goes-by (Some party) found is = sym (ap (λ (p : Option StandingParty). not (is_some p)) is.1)

all-count : (now gone before : ℕ) → now + gone ≡ before → gone ≡ 0 → now ≡ before
all-count now gone before a b = omega arith

less-count : (now gone before : ℕ) → now + gone ≡ before → gone ≡ 1 → now + 1 ≡ before
less-count now gone before a b = omega arith

module _ {D : Type 0} (link link' : Link) (kept kept' : Kept D) (now : Serving) (party : StandingParty) (moment : ℕ) (indication : Indication) (asked : Asked) (message : Message)
    (old new : HoldersOfFiles) (outcome : Outcome)
    (represents : Represents (with_link link kept) now) (linked : link.number ≡ party.link)
    (alone : Answering now.filestore party (setting_at moment (now.associations party.link) indication) message) (read : IsRead message)
    (taken : IsTaken kept.store.tables kept'.locks now.filestore party (setting_at moment (now.associations party.link) indication) message outcome)
    (tables : kept'.store.tables ≡ after_all kept.store.tables outcome.changes) (links : kept'.links ≡ kept.links) where
  abbrev setting : Setting
  setting = setting_at moment (now.associations party.link) indication

  abbrev given : Answered
  given = answered now.filestore party setting message

  pub made-now : AreMade kept.store.tables outcome.changes given.state
  made-now = are-made now.filestore party setting message kept.store.tables outcome.changes alone read represents.reached represents.tables taken.differs

  reached-now : IsReached given.state
  reached-now = subst IsReached alone.turned (messages_reached now.filestore party.link setting message read represents.reached)

  tables-now : tables_of given.state ≡ kept'.store.tables
  tables-now = sym made-now.made ∙ sym tables

  count-now : length given.state.parties + gone_of (party_of party.link given.state.parties) ≡ length now.filestore.parties
  count-now = answers_count now.filestore party setting message represents.reached.sound alone.stands

  pub said-gone : (out : List ℕ) → outcome.party ≡ None → Represents kept' (says party.link indication now given).state
  said-gone out none =
      let found : party_of party.link given.state.parties ≡ None = subst (λ (p : Option Party). IsNext p (party_of party.link given.state.parties)) none taken.next in
      leaves-it party.link link kept now linked represents kept' given.state (sending_all indication (now.associations party.link) given.said).association links
      (λ q apart. answers_leave_others now.filestore party setting message q apart) tables-now taken.held reached-now found
      (less-count (length given.state.parties) (gone_of (party_of party.link given.state.parties)) (length now.filestore.parties) count-now (ap (λ (p : Option StandingParty). gone_of p) found))

  pub said-on : (next : Party) → outcome.party ≡ Some next → link'.number ≡ link.number → link'.party ≡ next
      → IsCalled link'.stack (sending_all indication (now.associations party.link) given.said).association → Represents (with_link link' kept') (says party.link indication now given).state
  said-on next some numbered is_party called =
      let found = subst (λ (p : Option Party). IsNext p (party_of party.link given.state.parties)) some taken.next in
      let is : IsLink party.link link' found.0 (sending_all indication (now.associations party.link) given.said).association =
      record { numbered = numbered ∙ linked; called = called; represented = subst (λ (p : Party). IsParty p found.0) (sym is_party) found.2 } in
      stays-on party.link link kept now linked represents kept' given.state (sending_all indication (now.associations party.link) given.said).association links
      (λ q apart. answers_leave_others now.filestore party setting message q apart) tables-now taken.held reached-now
      link' found.0 (numbered ∙ linked) found.1 is
      (all-count (length given.state.parties) (gone_of (party_of party.link given.state.parties)) (length now.filestore.parties) count-now (ap (λ (p : Option StandingParty). gone_of p) found.1))

-- ---- a message of the link's party

abbrev pub way_first : Serving → StandingParty → Message → List Answer
way_first serving party message = giving_way serving (superseded_by serving.filestore party message)

abbrev pub now_of : Serving → StandingParty → Message → Serving
now_of serving party message = at_end serving (way_first serving party message)

abbrev pub setting_in : (moment : ℕ) → Indication → Serving → StandingParty → Message → Setting
setting_in moment indication serving party message = setting_at moment ((now_of serving party message).associations party.link) indication

abbrev pub given_in : (moment : ℕ) → Indication → Serving → StandingParty → Message → Answered
given_in moment indication serving party message = answered (now_of serving party message).filestore party (setting_in moment indication serving party message) message

pub record IsTakenSo {D : Type 0} (link : Link) (kept mid_kept : Kept D) (locks : HoldersOfFiles) (serving : Serving) (moment : ℕ) (indication : Indication) (message : Message) (outcome : Outcome) (old mid : List Reply) : Type 0 where
  pub party : StandingParty
  pub linked : link.number ≡ party.link
  pub trail : taking moment link.number serving indication message
      ≡ way_first serving party message ++ says party.link indication (now_of serving party message) (given_in moment indication serving party message) ∷ []
  pub trail_to : to_taking moment link.number serving indication message
      ≡ to_way (superseded_by serving.filestore party message) ++ Some (Takes party.link (setting_in moment indication serving party message) message) ∷ []
  pub way : Answers (way_first serving party message) serving old (with_link link mid_kept) mid
  pub alone : Answering (now_of serving party message).filestore party (setting_in moment indication serving party message) message
  pub is : IsLink party.link link party ((now_of serving party message).associations party.link)
  pub taken : IsTaken mid_kept.store.tables locks (now_of serving party message).filestore party (setting_in moment indication serving party message) message outcome

pub taken-so : {D : Type 0} (link : Link) (kept mid_kept : Kept D) (locks : HoldersOfFiles) (serving : Serving) (moment : ℕ) (indication : Indication) (asked : Asked) (message : Message) (outcome : Outcome) (old mid : List Reply)
    → Represents (with_link link kept) serving → IsAsked asked indication → Answers (way_of link message serving) serving old (with_link link mid_kept) mid
    → TakesOn mid_kept.store.tables mid_kept.locks locks link moment asked message outcome → IsTakenSo link kept mid_kept locks serving moment indication message outcome old mid
taken-so link kept mid_kept locks serving moment indication asked message outcome old mid represents ask way turn =
    let on = on-link link kept serving represents in
    let party = on.party in
    let way_is : way_of link message serving ≡ way_first serving party message =
    ap (λ (n : ℕ). way_by message serving (party_of n serving.filestore.parties)) on.linked ∙ ap (λ (found : Option StandingParty). way_by message serving found) on.found in
    let way' = subst (λ (answers : List Answer). Answers answers serving old (with_link link mid_kept) mid) way_is way in
    let now = now_of serving party message in
    let alone = answering-now serving party (setting_in moment indication serving party message) message represents.reached.sound on.found in
    let stood = on-as link mid_kept now party way'.represents on.linked alone.stands in
    record {
      party = party;
      linked = on.linked;
      trail = ap (λ (n : ℕ). taking_by moment indication serving (party_of n serving.filestore.parties) message) on.linked
          ∙ ap (λ (found : Option StandingParty). taking_by moment indication serving found message) on.found;
      trail_to = ap (λ (n : ℕ). to_taking_by moment indication serving (party_of n serving.filestore.parties) message) on.linked
          ∙ ap (λ (found : Option StandingParty). to_taking_by moment indication serving found message) on.found;
      way = way';
      alone = alone;
      is = stood.is;
      taken = turn now.filestore party (now.associations party.link) indication
          (record { sound = way'.represents.reached.sound; kept = way'.represents.tables; held = way'.represents.held; stands = alone.stands })
          way'.represents.reached.kept.histories stood.is.represented stood.is.called ask;
    }

pub made-so : {D : Type 0} (link : Link) (kept mid_kept : Kept D) (locks : HoldersOfFiles) (serving : Serving) (moment : ℕ) (indication : Indication) (message : Message) (outcome : Outcome) (old mid : List Reply)
    → IsRead message → (so : IsTakenSo link kept mid_kept locks serving moment indication message outcome old mid)
    → AreMade mid_kept.store.tables outcome.changes (given_in moment indication serving so.party message).state
made-so link kept mid_kept locks serving moment indication message outcome old mid read so =
    are-made (now_of serving so.party message).filestore so.party (setting_in moment indication serving so.party message) message mid_kept.store.tables outcome.changes
    so.alone read so.way.represents.reached so.way.represents.tables so.taken.differs

-- the tables before the message, and those after it, are along its answers
pub along-so : {D : Type 0} (link : Link) (kept mid_kept : Kept D) (locks : HoldersOfFiles) (serving : Serving) (moment : ℕ) (indication : Indication) (message : Message) (outcome : Outcome) (old mid : List Reply)
    → IsRead message → Represents (with_link link kept) serving → mid_kept.store.tables ≡ kept.store.tables
    → (so : IsTakenSo link kept mid_kept locks serving moment indication message outcome old mid)
    → (image : List ℕ) → RepresentsEither mid_kept.store.tables (after_all mid_kept.store.tables outcome.changes) image → RepresentsAlong serving (taking moment link.number serving indication message) image
along-so link kept mid_kept locks serving moment indication message outcome old mid read represents same so image either =
    let first = way_first serving so.party message in
    let now = now_of serving so.party message in
    let last = says so.party.link indication now (given_in moment indication serving so.party message) in
    let made = made-so link kept mid_kept locks serving moment indication message outcome old mid read so in
    let ends : tables_in (at_end serving (first ++ last ∷ [])) ≡ tables_of (given_in moment indication serving so.party message).state = ap (λ (s : Serving). tables_in s) (at_end-join serving first (last ∷ [])) in
    subst (λ (answers : List Answer). RepresentsAlong serving answers image) (sym so.trail)
    (⊎_elim
    (λ before. along-none serving (first ++ last ∷ []) image (subst (λ (t : Tables). ImageRepresents image t) (same ∙ sym represents.tables) before))
    (λ after. along-all serving (first ++ last ∷ []) image (subst (λ (t : Tables). ImageRepresents image t) (made.made ∙ sym ends) after))
    either)

-- WHAT IT COMES TO
pub answers-so : {D : Type 0} (link link' : Link) (kept mid_kept kept' : Kept D) (serving : Serving) (moment : ℕ) (indication : Indication) (asked : Asked) (message : Message) (outcome : Outcome) (old mid new : List Reply) (goes : Bool)
    → IsRead message → IsAsked asked indication → (so : IsTakenSo link kept mid_kept kept'.locks serving moment indication message outcome old mid)
    → kept'.store.tables ≡ after_all mid_kept.store.tables outcome.changes → kept'.links ≡ mid_kept.links
    → ((a : Association) (i : Indication) → IsCalled link.stack a → IsAsked asked i → IsSaid link.number (sending_all i a outcome.said.items) (not (is_some outcome.party)) mid link'.stack new)
    → goes ≡ is_some outcome.party → IfSome outcome.party (λ next. link'.party ≡ next) → link'.number ≡ link.number
    → Answers (taking moment link.number serving indication message) serving old (put_back goes link' kept') new
answers-so link link' kept mid_kept kept' serving moment indication asked message outcome old mid new goes read ask so tables links says_so is_goes is_party numbered =
    let first = way_first serving so.party message in
    let now = now_of serving so.party message in
    let given = given_in moment indication serving so.party message in
    let a = now.associations so.party.link in
    let said = says_so a indication so.is.called ask in
    let called = subst (λ (all : List Said). IsCalled link'.stack (sending_all indication a all).association) so.taken.says said.called in
    let ends : (p : Option Party) → outcome.party ≡ p → IfSome p (λ next. link'.party ≡ next) → Represents (put_back (is_some p) link' kept') (says so.party.link indication now given).state = by so called in
    let represented : Represents (put_back goes link' kept') (says so.party.link indication now given).state =
    subst (λ (b : Bool). Represents (put_back b link' kept') (says so.party.link indication now given).state) (sym is_goes) (ends outcome.party refl is_party) in
    let second = said-once now so.party.link link.number indication given (sending_all indication a outcome.said.items) (not (is_some outcome.party)) mid new (put_back goes link' kept') so.linked
    (ap (λ (all : List Said). sending_all indication a all) so.taken.says) (goes-by outcome.party (party_of so.party.link given.state.parties) so.taken.next) said.spoken represented in
    subst (λ (answers : List Answer). Answers answers serving old (put_back goes link' kept') new) (sym so.trail)
    (joined-answers serving first (says so.party.link indication now given ∷ []) old mid new (with_link link mid_kept) (put_back goes link' kept') so.way second)
  where
    by : (so : IsTakenSo link kept mid_kept kept'.locks serving moment indication message outcome old mid)
        → IsCalled link'.stack (sending_all indication ((now_of serving so.party message).associations so.party.link) (given_in moment indication serving so.party message).said).association
        → (p : Option Party) → outcome.party ≡ p → IfSome p (λ next. link'.party ≡ next)
        → Represents (put_back (is_some p) link' kept') (says so.party.link indication (now_of serving so.party message) (given_in moment indication serving so.party message)).state
    by so called None none is =
        said-gone link link' mid_kept kept' (now_of serving so.party message) so.party moment indication asked message kept'.locks kept'.locks outcome so.way.represents so.linked so.alone read so.taken tables links [] none
    by so called (Some next) some is =
        said-on link link' mid_kept kept' (now_of serving so.party message) so.party moment indication asked message kept'.locks kept'.locks outcome so.way.represents so.linked so.alone read so.taken tables links next some numbered is called

pub take-answers : {D : Type 0} (link link' : Link) (kept mid_kept kept' : Kept D) (moment : ℕ) (indication : Indication) (asked : Asked) (message : Message) (outcome : Outcome) (old mid new : List Reply) (goes : Bool)
    → IsRead message → IsAsked asked indication → GivesWay link message kept old mid_kept mid → TakesOn mid_kept.store.tables mid_kept.locks kept'.locks link moment asked message outcome
    → kept'.store.tables ≡ after_all mid_kept.store.tables outcome.changes → kept'.links ≡ mid_kept.links
    → ((a : Association) (i : Indication) → IsCalled link.stack a → IsAsked asked i → IsSaid link.number (sending_all i a outcome.said.items) (not (is_some outcome.party)) mid link'.stack new)
    → goes ≡ is_some outcome.party → IfSome outcome.party (λ next. link'.party ≡ next) → link'.number ≡ link.number
    → Does (λ serving. taking moment link.number serving indication message) (with_link link kept) old (put_back goes link' kept') new
take-answers link link' kept mid_kept kept' moment indication asked message outcome old mid new goes read ask way turn tables links says_so is_goes is_party numbered = λ serving represents.
    answers-so link link' kept mid_kept kept' serving moment indication asked message outcome old mid new goes read ask
    (taken-so link kept mid_kept kept'.locks serving moment indication asked message outcome old mid represents ask (way serving represents) turn)
    tables links says_so is_goes is_party numbered

-- the changes fit
pub take-fits : {D : Type 0} (link : Link) (kept mid_kept : Kept D) (locks : HoldersOfFiles) (moment : ℕ) (indication : Indication) (asked : Asked) (message : Message) (outcome : Outcome) (old mid : List Reply) (serving : Serving)
    → IsRead message → IsAsked asked indication → Represents (with_link link kept) serving → GivesWay link message kept old mid_kept mid
    → TakesOn mid_kept.store.tables mid_kept.locks locks link moment asked message outcome → AreFitting mid_kept.store.tables outcome.changes
take-fits link kept mid_kept locks moment indication asked message outcome old mid serving read ask represents way turn =
    (made-so link kept mid_kept locks serving moment indication message outcome old mid read
    (taken-so link kept mid_kept locks serving moment indication asked message outcome old mid represents ask (way serving represents) turn)).fitting

-- and what the disk represents meanwhile is along the answers
pub take-run : {D : Type 0} (clock : D → ℕ) (left_since : D → ℕ → List ℕ → Type 0) (before after : D)
    (link : Link) (kept mid_kept : Kept D) (locks : HoldersOfFiles) (moment : ℕ) (indication : Indication) (asked : Asked) (message : Message) (outcome : Outcome) (old mid : List Reply) (serving : Serving)
    → IsRead message → IsAsked asked indication → Represents (with_link link kept) serving → GivesWay link message kept old mid_kept mid
    → TakesOn mid_kept.store.tables mid_kept.locks locks link moment asked message outcome → mid_kept.store.tables ≡ kept.store.tables
    → LeavesOnly clock left_since before after (RepresentsEither mid_kept.store.tables (after_all mid_kept.store.tables outcome.changes))
    → LeavesOnly clock left_since before after (RepresentsAlong serving (taking moment link.number serving indication message))
take-run clock left_since before after link kept mid_kept locks moment indication asked message outcome old mid serving read ask represents way turn same leaves =
    weaker clock left_since before after (RepresentsEither mid_kept.store.tables (after_all mid_kept.store.tables outcome.changes)) (RepresentsAlong serving (taking moment link.number serving indication message)) leaves
    (along-so link kept mid_kept locks serving moment indication message outcome old mid read represents same
    (taken-so link kept mid_kept locks serving moment indication asked message outcome old mid represents ask (way serving represents) turn))

-- ---- what keeping the changes owes

module _ {D : Type 0} (shown : D → Option (List ℕ)) (may_leave : D → List ℕ → Type 0) (link : Link) (kept mid_kept : Kept D) (locks : HoldersOfFiles) (moment : ℕ) (asked : Asked) (message : Message) (outcome : Outcome) (old mid : List Reply)
    (same : mid_kept.store ≡ kept.store) (way : GivesWay link message kept old mid_kept mid) (turn : TakesOn mid_kept.store.tables mid_kept.locks locks link moment asked message outcome) where
  -- what is represented after it
  pub take-kept : (P : Type 0) → (AreFitting mid_kept.store.tables outcome.changes → IsRepresented shown may_leave mid_kept.store → P)
      → (serving : Serving) → Represents (with_link link kept) serving → (indication : Indication) → IsRead message → IsAsked asked indication → IsRepresented shown may_leave kept.store → P
  take-kept P keeps serving represents indication read ask stands =
      keeps (take-fits link kept mid_kept locks moment indication asked message outcome old mid serving read ask represents way turn)
      (subst (λ (store : StoreState D). IsRepresented shown may_leave store) (sym same) stands)

  -- and what is represented meanwhile
  pub take-along : (clock : D → ℕ) (left_since : D → ℕ → List ℕ → Type 0) (after : D)
      → (AreFitting mid_kept.store.tables outcome.changes → IsRepresented shown may_leave mid_kept.store
      → LeavesOnly clock left_since mid_kept.store.disk after (RepresentsEither mid_kept.store.tables (after_all mid_kept.store.tables outcome.changes)))
      → (indication : Indication) → IsRead message → IsAsked asked indication → (serving : Serving) → Represents (with_link link kept) serving → IsRepresented shown may_leave kept.store
      → LeavesOnly clock left_since kept.store.disk after (RepresentsAlong serving (taking moment link.number serving indication message))
  take-along clock left_since after leaves indication read ask serving represents stands =
      subst (λ (store : StoreState D). LeavesOnly clock left_since store.disk after (RepresentsAlong serving (taking moment link.number serving indication message))) same
      (take-run clock left_since mid_kept.store.disk after link kept mid_kept locks moment indication asked message outcome old mid serving read ask represents way turn
      (ap (λ (store : StoreState D). store.tables) same)
      (leaves (take-fits link kept mid_kept locks moment indication asked message outcome old mid serving read ask represents way turn)
      (subst (λ (store : StoreState D). IsRepresented shown may_leave store) (sym same) stands)))

-- What gave way before did so where the same is kept.
pub way-over : {D : Type 0} (link : Link) (message : Message) (kept : Kept D) (store store' : StoreState D) (locks locks' : List (List ℕ × List Held)) (links links' : List (ℕ × Link)) (old new : List Reply)
    → store' ≡ store → locks' ≡ locks → links' ≡ links → GivesWay link message kept old (record { store = store; locks = locks; links = links }) new
    → GivesWay link message kept old (record { store = store'; locks = locks'; links = links' }) new
way-over {D} link message kept store store' locks locks' links links' old new same_store same_locks same_links way =
    subst (λ (mid : Kept D). GivesWay link message kept old mid new) (λ i. record { store = sym same_store i; locks = sym same_locks i; links = sym same_links i }) way

-- No call was made.
pub still-along : {D : Type 0} (shown : D → Option (List ℕ)) (may_leave : D → List ℕ → Type 0) (clock : D → ℕ) (left_since : D → ℕ → List ℕ → Type 0)
    (only_now : (disk : D) (image : List ℕ) → left_since disk (clock disk) image → may_leave disk image)
    (link : Link) (kept : Kept D) (after : StoreState D) (answers : Serving → List Answer) → after ≡ kept.store
    → (serving : Serving) → Represents (with_link link kept) serving → IsRepresented shown may_leave kept.store
    → LeavesOnly clock left_since kept.store.disk after.disk (RepresentsAlong serving (answers serving))
still-along {D} shown may_leave clock left_since only_now link kept after answers same serving represents stands =
    subst (λ (store : StoreState D). LeavesOnly clock left_since kept.store.disk store.disk (RepresentsAlong serving (answers serving))) (sym same)
    (idle-along shown may_leave clock left_since only_now kept.store serving (answers serving) stands represents.tables)

-- What is said of the link after the party's turn is said of the link before it.
pub said-of : (link turned link' : Link) (asked : Asked) (said : List Said) (shut : Bool) (old new : List Reply) → turned.stack ≡ link.stack → turned.number ≡ link.number
    → ((a : Association) (i : Indication) → IsCalled turned.stack a → IsAsked asked i → IsSaid turned.number (sending_all i a said) shut old link'.stack new)
    → (a : Association) (i : Indication) → IsCalled link.stack a → IsAsked asked i → IsSaid link.number (sending_all i a said) shut old link'.stack new
said-of link turned link' asked said shut old new stack number says = λ a i called ask.
    subst (λ (n : ℕ). IsSaid n (sending_all i a said) shut old link'.stack new) number
    (says a i (subst (λ (kept : stack_of.Kept). IsCalled kept a) (sym stack) called) ask)

-- ---- a party that took the message in its place

left-so : (next : Party) (goes : Bool) → goes ≡ is_some (if goes then Some next else None)
left-so next true = refl
left-so next false = refl

there-so : (next party : Party) (goes : Bool) → party ≡ next → IfSome (if goes then Some next else None) (λ left. party ≡ left)
there-so next party true same = same
there-so next party false same = tt

pub heard-answers : {D : Type 0} (link link' : Link) (kept mid_kept kept' : Kept D) (moment : ℕ) (indication : Indication) (asked : Asked) (message : Message) (next : Party) (heard : Heard) (old mid new : List Reply)
    → IsRead message → IsAsked asked indication → GivesWay link message kept old mid_kept mid → TakesOn mid_kept.store.tables mid_kept.locks kept'.locks link moment asked message (outcome_in next heard)
    → kept'.store.tables ≡ after_all mid_kept.store.tables heard.changes → kept'.links ≡ mid_kept.links
    → ((a : Association) (i : Indication) → IsCalled link.stack a → IsAsked asked i → IsSaid link.number (sending_all i a heard.said.items) (not heard.goes) mid link'.stack new)
    → link'.party ≡ next → link'.number ≡ link.number
    → Does (λ serving. taking moment link.number serving indication message) (with_link link kept) old (put_back heard.goes link' kept') new
heard-answers link link' kept mid_kept kept' moment indication asked message next heard old mid new read ask way turn tables links says_so there numbered =
    take-answers link link' kept mid_kept kept' moment indication asked message (outcome_in next heard) old mid new heard.goes read ask way turn tables links
    (λ a i called ask. subst (λ (b : Bool). IsSaid link.number (sending_all i a heard.said.items) (not b) mid link'.stack new) (left-so next heard.goes) (says_so a i called ask))
    (left-so next heard.goes) (there-so next link'.party heard.goes there) numbered
