-- The commits of a message, of indications one after another, and of octets cut anywhere.
use Rattle.std.proofs.Common.{◌≡◌, ℕ, Bool, true, false, cond, List, [], ◌∷◌, ◌++◌, Option, None, Some, Result, refl, ap, sym, subst, ◌∙◌, append_assoc, append-nil}
use Rattle.std.specs.Prelude.{nat_lt, length, if◌then◌else◌}
use Rattle.vf_base.specs.declared.events.ScriptEvent.TheVariants as script
use Rattle.vf_elements.specs.declared.message.Message.{Message}
use Rattle.vf_filestore.proofs.Parties.{located}
use Rattle.vf_filestore.specs.Runs.{Event, Arrives, Takes}
use Rattle.vf_filestore.specs.Sound.{IsSound}
use Rattle.vf_filestore.specs.State.{StandingParty, party_of}
use Rattle.vf_filestore.specs.Transition.{leaves, superseded_by}
use Rattle.vf_journal.specs.declared.error.JournalError.{JournalError}
use Rattle.vf_party.specs.declared.party.Outcome.{Outcome}
use Rattle.vf_party_steps.specs.Steps.{HoldersOfFiles}
use Rattle.vf_session.specs.Trace.{next}
use Rattle.vf_stack.specs.Association.{is_ended}
use Rattle.vf_stack.specs.declared.indication.Indication.{Indication}
use Rattle.vf_stack.specs.declared.indication.Indication.TheVariants as indications
use Rattle.vf_store.specs.StoreState.{StoreState}
use Rattle.vf_tables.specs.declared.change.Change.{Change}
use Rattle.vf_tables.specs.declared.tables.Tables.{Tables}
use Rattle.vf_responder.proofs.ChainLemmas.{at_end-join}
use Rattle.vf_responder.proofs.CommitLemmas.{AreEach, break-changes, commits-join, each-join}
use Rattle.vf_responder.proofs.SaysLemmas.{told-on}
use Rattle.vf_responder.proofs.StandLemmas.{IsOn, on-link}
use Rattle.vf_responder.proofs.TakeLemmas.{IsTakenSo, changes-are, given_in, now_of, setting_in, taken-so, way_first}
use Rattle.vf_responder.proofs.TellLemmas.{AsksSo, heard-gone, meant-so, told-takes}
use Rattle.vf_responder.specs.Answers.{Answer, after_octet, answering, answering_on, arrival, at_end, breaking, ended, given_to, giving_way, in_the_way, most_links, octet_heard, octets_heard, says, setting_at, told, told_all, with_octet}
use Rattle.vf_responder.specs.AnswersTo.{any_setting, to_break, to_ending, to_indication, to_indication_of, to_indications, to_meaning, to_meant, to_octet, to_octets, to_way}
use Rattle.vf_responder.specs.Commits.{AreMade, Commit, CommitsAlong, CommitsSo, DiskTells, changes_in, commit_of, commits, commits_by, commits_heard, commits_taking, commits_told, commits_told_all, to_taking, to_taking_by}
use Rattle.vf_responder.specs.Meanings as run
use Rattle.vf_responder.specs.Meanings.{Meaning, meaning, transfer_check}
use Rattle.vf_responder.specs.Represents.{GivesWay, Kept, Represents, with_link}
use Rattle.vf_responder.specs.Run.{tables_in, trail}
use Rattle.vf_responder.specs.Serving.{Serving, stands}
use Rattle.vf_responder.specs.Steps.{IsAsked, TakesOn, taking}
use Rattle.vf_responder.specs.declared.event.Reply.{Reply}
use Rattle.vf_responder.specs.declared.link.Link.{Link}
use Rattle.vf_responder.specs.declared.meaning.Asked.{Asked}

-- ---- a message of the link's party

-- an association that gives way takes no commit
way-commits : (serving : Serving) (way : Option StandingParty) (answer : Answer) (event : Option Event)
    → (let now = at_end serving (giving_way serving way) in
    commits serving (giving_way serving way ++ answer ∷ []) (to_way way ++ event ∷ []) ≡ commit_of (tables_in now) (changes_in now.filestore event))
way-commits serving None answer event = append-nil (commit_of (tables_in serving) (changes_in serving.filestore event))
way-commits serving (Some other) answer event =
    let now = at_end serving (giving_way serving (Some other)) in
    append-nil (commit_of (tables_in now) (changes_in now.filestore event))

taking-commits : {D : Type 0} (link : Link) (kept mid_kept : Kept D) (locks : HoldersOfFiles) (serving : Serving) (moment : ℕ) (indication : Indication) (message : Message) (outcome : Outcome) (old mid : List Reply)
    → (so : IsTakenSo link kept mid_kept locks serving moment indication message outcome old mid)
    → commits_taking moment link.number serving indication message ≡ commit_of mid_kept.store.tables outcome.changes
taking-commits link kept mid_kept locks serving moment indication message outcome old mid so =
    let now = now_of serving so.party message in
    let setting = setting_in moment indication serving so.party message in
    let are : changes_in now.filestore (Some (Takes so.party.link setting message)) ≡ outcome.changes =
    changes-are now.filestore so.party setting message so.alone ∙ sym so.taken.differs in
    ap (λ (answers : List Answer). commits serving answers (to_taking moment link.number serving indication message)) so.trail
    ∙ ap (λ (events : List (Option Event)). commits serving (way_first serving so.party message ++ says so.party.link indication now (given_in moment indication serving so.party message) ∷ []) events) so.trail_to
    ∙ way-commits serving (superseded_by serving.filestore so.party message) (says so.party.link indication now (given_in moment indication serving so.party message)) (Some (Takes so.party.link setting message))
    ∙ ap (λ (tables : Tables). commit_of tables (changes_in now.filestore (Some (Takes so.party.link setting message)))) so.way.represents.tables
    ∙ ap (λ (changes : List Change). commit_of mid_kept.store.tables changes) are

pub take-commits : {D T : Type 0} (tells : DiskTells D) (link : Link) (kept mid_kept : Kept D) (locks : HoldersOfFiles) (moment : ℕ) (asked : Asked) (message : Message) (outcome : Outcome) (old mid : List Reply)
    (new : StoreState D) (result : Result T JournalError)
    → mid_kept.store ≡ kept.store → GivesWay link message kept old mid_kept mid → TakesOn mid_kept.store.tables mid_kept.locks locks link moment asked message outcome
    → CommitsSo tells (commit_of mid_kept.store.tables outcome.changes) mid_kept.store new result
    → (indication : Indication) → IsAsked asked indication → CommitsAlong tells (λ serving. commits_taking moment link.number serving indication message) (with_link link kept) new result
take-commits {D} tells link kept mid_kept locks moment asked message outcome old mid new result same way turn keeps indication ask serving represents =
    let so = taken-so link kept mid_kept locks serving moment indication asked message outcome old mid represents ask (way serving represents) turn in
    subst (λ (all : List Commit). CommitsSo tells all kept.store new result) (sym (taking-commits link kept mid_kept locks serving moment indication message outcome old mid so))
    (subst (λ (store : StoreState D). CommitsSo tells (commit_of mid_kept.store.tables outcome.changes) store new result) same keeps)

-- ---- an indication

to-on : {D : Type 0} (moment : ℕ) (link : Link) (kept : Kept D) (serving : Serving) (on : IsOn link kept serving) (indication : Indication) (meant : run.Meaning)
    → meant ≡ run.meaning (next (serving.associations on.party.link).exchange.trace) (transfer_check on.party.history) indication
    → to_indication moment link.number serving indication ≡ to_meant moment indication serving on.party meant
to-on moment link kept serving on indication meant is =
    ap (λ (n : ℕ). to_indication_of moment indication serving (party_of n serving.filestore.parties)) on.linked
    ∙ ap (λ (found : Option StandingParty). to_indication_of moment indication serving found) on.found
    ∙ ap (λ (m : run.Meaning). to_meant moment indication serving on.party m) (sym is)

told-commits : {D : Type 0} (moment : ℕ) (link : Link) (kept : Kept D) (serving : Serving) (on : IsOn link kept serving) (indication : Indication) (meant : run.Meaning)
    → meant ≡ run.meaning (next (serving.associations on.party.link).exchange.trace) (transfer_check on.party.history) indication
    → commits_told moment link.number serving indication ≡ commits serving (answering moment indication serving on.party meant) (to_meant moment indication serving on.party meant)
told-commits moment link kept serving on indication meant is =
    ap (λ (answers : List Answer). commits serving answers (to_indication moment link.number serving indication)) (told-on moment link kept serving on indication meant is)
    ∙ ap (λ (events : List (Option Event)). commits serving (answering moment indication serving on.party meant) events) (to-on moment link kept serving on indication meant is)

-- a message is taken, and nothing else takes a commit
pub tell-commits : {D T : Type 0} (tells : DiskTells D) (moment : ℕ) (link : Link) (kept : Kept D) (indication : Indication) (serial : ℕ) (last : Option ℕ) (message : Message) (new : StoreState D) (result : Result T JournalError)
    → run.Takes message ≡ run.meaning serial last indication → ((serving : Serving) → AsksSo link kept serving serial last)
    → CommitsAlong tells (λ serving. commits_taking moment link.number serving indication message) (with_link link kept) new result
    → CommitsAlong tells (λ serving. commits_told moment link.number serving indication) (with_link link kept) new result
tell-commits tells moment link kept indication serial last message new result is asks along serving represents =
    let on = on-link link kept serving represents in
    let takes : to_indication moment link.number serving indication ≡ to_taking moment link.number serving indication message =
    to-on moment link kept serving on indication (run.Takes message) (meant-so link kept serving on serial last indication (run.Takes message) (asks serving) is)
    ∙ sym (ap (λ (n : ℕ). to_taking_by moment indication serving (party_of n serving.filestore.parties) message) on.linked
    ∙ ap (λ (found : Option StandingParty). to_taking_by moment indication serving found message) on.found) in
    let same : commits_told moment link.number serving indication ≡ commits_taking moment link.number serving indication message =
    ap (λ (answers : List Answer). commits serving answers (to_indication moment link.number serving indication)) (told-takes moment link kept serving indication serial last message represents (asks serving) is)
    ∙ ap (λ (events : List (Option Event)). commits serving (taking moment link.number serving indication message) events) takes in
    subst (λ (all : List Commit). CommitsSo tells all kept.store new result) (sym same) (along serving represents)

pub none-taken : {D : Type 0} (moment : ℕ) (link : Link) (kept : Kept D) (serving : Serving) (indication : Indication) (serial : ℕ) (last : Option ℕ) (number place : ℕ)
    → Represents (with_link link kept) serving → AsksSo link kept serving serial last → run.Faults number place ≡ run.meaning serial last indication → commits_told moment link.number serving indication ≡ []
none-taken moment link kept serving indication serial last number place represents asks is =
    let on = on-link link kept serving represents in
    told-commits moment link kept serving on indication (run.Faults number place) (meant-so link kept serving on serial last indication (run.Faults number place) asks is)

pub nothing-taken : {D : Type 0} (moment : ℕ) (link : Link) (kept : Kept D) (serving : Serving) (indication : Indication) (serial : ℕ) (last : Option ℕ)
    → Represents (with_link link kept) serving → AsksSo link kept serving serial last → run.Nothing ≡ run.meaning serial last indication → commits_told moment link.number serving indication ≡ []
nothing-taken moment link kept serving indication serial last represents asks is =
    let on = on-link link kept serving represents in
    told-commits moment link kept serving on indication run.Nothing (meant-so link kept serving on serial last indication run.Nothing asks is)

-- where there are none none was made
pub made-same : {D : Type 0} (tells : DiskTells D) (all : List Commit) (old new : StoreState D) → new ≡ old → all ≡ [] → AreMade tells all old new
made-same tells all old new same none = subst (λ (commits : List Commit). AreMade tells commits old new) (sym none) same

pub made-none : {D : Type 0} (tells : DiskTells D) (all : List Commit) (store : StoreState D) → all ≡ [] → AreMade tells all store store
made-none tells all store none = made-same tells all store store refl none

-- ---- as many events as answers

meant-each : (moment : ℕ) (indication : Indication) (serving : Serving) (party : StandingParty) (meant : Meaning) (way : Option StandingParty) (last : Answer) (event : Option Event)
    → AreEach (giving_way serving way ++ last ∷ []) (to_way way ++ event ∷ [])
meant-each moment indication serving party meant None last event = tt
meant-each moment indication serving party meant (Some other) last event = tt

on-each : (moment : ℕ) (indication : Indication) (serving : Serving) (party : Option StandingParty) → AreEach (answering_on moment indication serving party) (to_indication_of moment indication serving party)
on-each moment indication serving None = tt
on-each moment indication serving (Some party) =
    let meant = meaning (next (serving.associations party.link).exchange.trace) (transfer_check party.history) indication in
    each-by meant
  where
    each-by : (meant : Meaning) → AreEach (answering moment indication serving party meant) (to_meant moment indication serving party meant)
    each-by meant =
        let way = in_the_way serving.filestore party meant in
        let now = at_end serving (giving_way serving way) in
        meant-each moment indication serving party meant way
        (says party.link indication now (given_to now.filestore party (setting_at moment (now.associations party.link) indication) meant))
        (to_meaning moment indication now party meant)

told-each : (moment link : ℕ) (serving : Serving) (indication : Indication) → AreEach (told moment link serving indication) (to_indication moment link serving indication)
told-each moment link serving indication = on-each moment indication serving (party_of link serving.filestore.parties)

pub told_all-each : (moment link : ℕ) (serving : Serving) (all : List Indication) → AreEach (told_all moment link serving all) (to_indications moment link serving all)
told_all-each moment link serving [] = tt
told_all-each moment link serving (indication ∷ later) =
    let first = told moment link serving indication in
    let now = at_end serving first in
    each-join first (told_all moment link now later) (to_indication moment link serving indication) (to_indications moment link now later)
    (told-each moment link serving indication) (told_all-each moment link now later)

breaking-each : (serving : Serving) (party : Option StandingParty) → AreEach (breaking serving party) (to_ending serving party)
breaking-each serving None = tt
breaking-each serving (Some party) = by (is_ended (serving.associations party.link).exchange.ending)
  where
    by : (over : Bool) → AreEach (cond over (says party.link (indications.Abort None) serving (leaves serving.filestore party []) ∷ []) []) (cond over (to_break (Some party)) [])
    by true = tt
    by false = tt

octet-each : (moment link : ℕ) (serving : Serving) (octet : ℕ) → AreEach (octet_heard moment link serving octet) (to_octet moment link serving octet)
octet-each moment link serving octet =
    let heard = with_octet link octet serving in
    let turns = told_all moment link heard.0.state heard.1 in
    let now = at_end heard.0.state turns in
    each-join turns (after_octet link now) (to_indications moment link heard.0.state heard.1) (to_ending now (party_of link now.filestore.parties))
    (told_all-each moment link heard.0.state heard.1) (breaking-each now (party_of link now.filestore.parties))

-- ---- one part after another

pub told-split : (moment link : ℕ) (serving : Serving) (indication : Indication) (later : List Indication)
    → commits_told_all moment link serving (indication ∷ later)
    ≡ commits_told moment link serving indication ++ commits_told_all moment link (at_end serving (told moment link serving indication)) later
told-split moment link serving indication later =
    let first = told moment link serving indication in
    let now = at_end serving first in
    commits-join serving first (told_all moment link now later) (to_indication moment link serving indication) (to_indications moment link now later) (told-each moment link serving indication)

abbrev pub commits_octet : (moment link : ℕ) → Serving → (octet : ℕ) → List Commit
commits_octet moment link serving octet = commits serving (octet_heard moment link serving octet) (to_octet moment link serving octet)

-- no answer takes no commit
pub gone-commits : (serving : Serving) (answers : List Answer) (events : List (Option Event)) → answers ≡ [] → commits serving answers events ≡ []
gone-commits serving answers events none = ap (λ (answers : List Answer). commits serving answers events) none

pub heard-gone-commits : (moment link : ℕ) (serving : Serving) (octets : List ℕ) → stands link serving.filestore ≡ false → commits_heard moment link serving octets ≡ []
heard-gone-commits moment link serving octets gone =
    gone-commits serving (octets_heard moment link serving octets) (to_octets moment link serving octets) (heard-gone moment link serving octets gone)

pub first-commits : (moment link : ℕ) (serving : Serving) (octet : ℕ) (later : List ℕ) → stands link serving.filestore ≡ true
    → commits_heard moment link serving (octet ∷ later) ≡ commits_octet moment link serving octet ++ commits_heard moment link (at_end serving (octet_heard moment link serving octet)) later
first-commits moment link serving octet later there =
    let first = octet_heard moment link serving octet in
    let now = at_end serving first in
    let answers = first ++ octets_heard moment link now later in
    let events = to_octet moment link serving octet ++ to_octets moment link now later in
    ap (λ (b : Bool). commits serving (cond b answers []) (cond b events [])) there
    ∙ commits-join serving first (octets_heard moment link now later) (to_octet moment link serving octet) (to_octets moment link now later) (octet-each moment link serving octet)

cut-commits-by : (moment link : ℕ) (serving : Serving) (octet : ℕ) (front more : List ℕ) (b : Bool) → stands link serving.filestore ≡ b
    → (let s = at_end serving (octet_heard moment link serving octet) in
    commits_heard moment link s (front ++ more) ≡ commits_heard moment link s front ++ commits_heard moment link (at_end s (octets_heard moment link s front)) more)
    → commits_heard moment link serving ((octet ∷ front) ++ more)
    ≡ commits_heard moment link serving (octet ∷ front) ++ commits_heard moment link (at_end serving (octets_heard moment link serving (octet ∷ front))) more
cut-commits-by moment link serving octet front more true there rest =
    let first = octet_heard moment link serving octet in
    let s = at_end serving first in
    let one = commits_octet moment link serving octet in
    let last = at_end s (octets_heard moment link s front) in
    let whole : octets_heard moment link serving (octet ∷ front) ≡ first ++ octets_heard moment link s front =
    ap (λ (b : Bool). cond b (first ++ octets_heard moment link s front) []) there in
    let ends : at_end serving (octets_heard moment link serving (octet ∷ front)) ≡ last =
    ap (λ (answers : List Answer). at_end serving answers) whole ∙ at_end-join serving first (octets_heard moment link s front) in
    first-commits moment link serving octet (front ++ more) there
    ∙ ap (λ (others : List Commit). one ++ others) rest
    ∙ sym (append_assoc one (commits_heard moment link s front) (commits_heard moment link last more))
    ∙ ap (λ (others : List Commit). others ++ commits_heard moment link last more) (sym (first-commits moment link serving octet front there))
    ∙ ap (λ (now : Serving). commits_heard moment link serving (octet ∷ front) ++ commits_heard moment link now more) (sym ends)
cut-commits-by moment link serving octet front more false gone rest =
    let none = heard-gone moment link serving (octet ∷ front) gone in
    heard-gone-commits moment link serving ((octet ∷ front) ++ more) gone
    ∙ sym (ap (λ (all : List Commit). all ++ commits_heard moment link (at_end serving (octets_heard moment link serving (octet ∷ front))) more) (heard-gone-commits moment link serving (octet ∷ front) gone)
    ∙ ap (λ (answers : List Answer). commits_heard moment link (at_end serving answers) more) none
    ∙ heard-gone-commits moment link serving more gone)

pub cut-commits : (moment link : ℕ) (front more : List ℕ) (serving : Serving)
    → commits_heard moment link serving (front ++ more) ≡ commits_heard moment link serving front ++ commits_heard moment link (at_end serving (octets_heard moment link serving front)) more
cut-commits moment link [] more serving = refl
cut-commits moment link (octet ∷ front) more serving =
    cut-commits-by moment link serving octet front more (stands link serving.filestore) refl
    (cut-commits moment link front more (at_end serving (octet_heard moment link serving octet)))

-- ---- what an association that breaks takes

own-link : (link : ℕ) (serving : Serving) (party : StandingParty) → party_of link serving.filestore.parties ≡ Some party → party_of party.link serving.filestore.parties ≡ Some party
own-link link serving party found = subst (λ (n : ℕ). party_of n serving.filestore.parties ≡ Some party) (sym (located link serving.filestore.parties party found).same) found

break-commits : (serving : Serving) (link : ℕ) (party : StandingParty) (answer : Answer) → IsSound serving.filestore → party_of link serving.filestore.parties ≡ Some party
    → commits serving (answer ∷ []) (to_break (Some party)) ≡ []
break-commits serving link party answer sound found =
    ap (λ (changes : List Change). commit_of (tables_in serving) changes ++ []) (break-changes serving.filestore party any_setting sound (own-link link serving party found))

pub ending-commits : (link : ℕ) (serving : Serving) (party : Option StandingParty) → IsSound serving.filestore → party_of link serving.filestore.parties ≡ party
    → commits serving (breaking serving party) (to_ending serving party) ≡ []
ending-commits link serving None sound found = refl
ending-commits link serving (Some party) sound found = by (is_ended (serving.associations party.link).exchange.ending)
  where
    by : (over : Bool) → commits serving (cond over (says party.link (indications.Abort None) serving (leaves serving.filestore party []) ∷ []) []) (cond over (to_break (Some party)) []) ≡ []
    by true = break-commits serving link party (says party.link (indications.Abort None) serving (leaves serving.filestore party [])) sound found
    by false = refl

-- ---- arrivals and ends

pub arrival-commits : (link : ℕ) (serving : Serving) → commits_by (script.Arrived link) serving ≡ []
arrival-commits link serving = by (stands link serving.filestore) (nat_lt (length serving.filestore.parties) most_links)
  where
    by : (there room : Bool) → commits serving (cond there [] (arrival link serving ∷ [])) (cond there [] ((let to : Option Event = cond room (Some (Arrives link)) None in to) ∷ [])) ≡ []
    by true room = refl
    by false true = refl
    by false false = refl

pub end-commits : (link : ℕ) (serving : Serving) → IsSound serving.filestore → commits_by (script.Ended link) serving ≡ []
end-commits link serving sound = by (party_of link serving.filestore.parties) refl
  where
    by : (party : Option StandingParty) → party_of link serving.filestore.parties ≡ party → commits serving (ended serving party) (to_break party) ≡ []
    by None found = refl
    by (Some party) found = break-commits serving link party (record { spoken = []; state = record serving { filestore = (leaves serving.filestore party []).state } }) sound found
