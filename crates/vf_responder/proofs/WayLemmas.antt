-- The association in the way of a recovery: it is told so on its own link, and is gone.
use Rattle.std.proofs.Common.{◌≡◌, ◌≢◌, ℕ, ◌+◌, ◌<◌, zero, suc, Bool, true, false, cond, nat_eq, find, slice_get, List, [], ◌∷◌, ◌++◌, length, Option, Some, None, refl, ap, sym, subst, ◌∙◌, append-nil, eqb-true, arith}
use Rattle.std.specs.Prelude.{IfSome, is_some, if◌then◌else◌}
use Rattle.std.specs.List.{IsDistinct}
use Rattle.std.specs.Map.{keys_of}
use Rattle.vf_elements.specs.Stages.{takes}
use Rattle.vf_elements.specs.declared.message.Message.{Message}
use Rattle.vf_elements.specs.declared.message.Message.TheVariants as messages
use Rattle.vf_elements.specs.declared.message.Said.{Said}
use Rattle.vf_elements.specs.declared.message.Said.TheVariants as answers
use Rattle.vf_elements.specs.declared.stage.Stage.{Stage}
use Rattle.vf_elements.specs.declared.stage.Stage.TheVariants as stages
use Rattle.vf_filestore.proofs.GivingWay.{answers_follow, one_is_in_way}
use Rattle.vf_filestore.specs.Aborts.{Setting}
use Rattle.vf_filestore.specs.Diagnostics.{superseded}
use Rattle.vf_filestore.specs.Dockets.{broken}
use Rattle.vf_filestore.specs.GivingWay.{IsInWay}
use Rattle.vf_filestore.specs.History.{Association, Regime, Selection, association, regime, selection}
use Rattle.vf_filestore.specs.HoldersAfter.{Keeps}
use Rattle.vf_filestore.specs.Opening.{is_at}
use Rattle.vf_filestore.specs.Stage.{moving_stage, pending, regime_stage, stage, stage_by}
use Rattle.vf_filestore.specs.State.{State, StandingParty, party_of}
use Rattle.vf_filestore.specs.Transfers.{Movement, Reads, Writes, Transfer, data_end, under_way, was_shown}
use Rattle.vf_filestore.specs.Transition.{superseded_by}
use Rattle.vf_party.specs.Turns.{IsParty, LeavesParty}
use Rattle.vf_pdu.specs.declared.pdu.Pdu.{Pdu}
use Rattle.vf_pdu.specs.declared.pdu.Pdu.TheVariants.{RecoverRequest}
use Rattle.vf_stack.specs.Association as stack
use Rattle.vf_stack.specs.declared.indication.Indication.TheVariants as indications
use Rattle.vf_responder.proofs.AskedLemmas.{identity, identity-by}
use Rattle.vf_responder.proofs.GiveLemmas.{superseded-is, superseded_at}
use Rattle.vf_responder.proofs.MapLemmas.{distinct-last, last-free, link_of-last, link_of-other, or_last}
use Rattle.vf_responder.proofs.MoveLemmas.{IsTakenOut, out-represents}
use Rattle.vf_responder.proofs.SaysLemmas.{says-gone}
use Rattle.vf_responder.proofs.StandLemmas.{IsOn, on-link, one-more}
use Rattle.vf_responder.specs.Answers.{Answer, giving_way, speaking}
use Rattle.vf_responder.specs.Replies.{sending_all}
use Rattle.vf_responder.specs.Represents.{Answers, GivesWay, IsLink, IsLinkOf, IsWith, Kept, Represents, link_of, recovered_by, way_by, way_of, with_link}
use Rattle.vf_responder.specs.Serving.{Serving}
use Rattle.vf_responder.specs.Steps.{IsCalled}
use Rattle.vf_responder.specs.declared.event.Reply.{Reply}
use Rattle.vf_responder.specs.declared.link.Link.{Link}

-- ---- a recovery

-- A recovery is taken where an association stands and nothing is selected.
pub takes-recovery : (here : Stage) (activity number point : ℕ) → takes here (messages.Pdu (RecoverRequest activity number point)) ≡ true → here ≡ stages.Associated
takes-recovery stages.Idle activity number point e = cc
takes-recovery stages.Associated activity number point e = refl
takes-recovery stages.Selected activity number point e = cc
takes-recovery stages.Opened activity number point e = cc
takes-recovery stages.Writing activity number point e = cc
takes-recovery stages.Written activity number point e = cc
takes-recovery stages.Reading activity number point e = cc
takes-recovery stages.Shown activity number point e = cc
takes-recovery stages.Grouping activity number point e = cc

by-taken : (b : Bool) (here : Stage) (activity number point asked : ℕ) → takes here (messages.Pdu (RecoverRequest activity number point)) ≡ b
    → (if b then Some activity else None) ≡ Some asked → here ≡ stages.Associated
by-taken true here activity number point asked e is = takes-recovery here activity number point e
by-taken false here activity number point asked e is = cc

recovers-pdu : (party : StandingParty) (pdu : Pdu) (asked : ℕ) → recovered_by party (messages.Pdu pdu) ≡ Some asked → stage party ≡ stages.Associated
recovers-pdu party (RecoverRequest activity number point) asked e =
    by-taken (takes (stage party) (messages.Pdu (RecoverRequest activity number point))) (stage party) activity number point asked refl e
recovers-pdu party pdu asked e = cc

recovers-at : (party : StandingParty) (message : Message) (asked : ℕ) → recovered_by party message ≡ Some asked → stage party ≡ stages.Associated
recovers-at party (messages.Pdu pdu) asked e = recovers-pdu party pdu asked e
recovers-at party message asked e = cc

moves-on : (movement : Movement) (ended shown : Bool) → moving_stage movement ended shown ≡ stages.Associated → ⊥
moves-on (Reads fadu context) ended true e = absurd cc
moves-on (Reads fadu context) ended false e = absurd cc
moves-on (Writes operation fadu) true shown e = absurd cc
moves-on (Writes operation fadu) false shown e = absurd cc

stands-by-stage : (a : Option Association) (s : Option Selection) (r : Option Regime) (t : Option Transfer) (ended shown : Bool) → stage_by a s r t ended shown ≡ stages.Associated → None ≡ identity a → ⊥
stands-by-stage a s r (Some transfer) ended shown e none = moves-on transfer.movement ended shown e
stands-by-stage a s (Some one) None ended shown e none = absurd cc
stands-by-stage a (Some one) None None ended shown e none = absurd cc
stands-by-stage (Some one) None None None ended shown e none = absurd cc
stands-by-stage None None None None ended shown e none = absurd cc

ungrouped : (b : Bool) (here : Stage) → cond b stages.Grouping here ≡ stages.Associated → here ≡ stages.Associated
ungrouped true here e = cc
ungrouped false here e = e

-- whose party has an association
pub recovers-known : (party : StandingParty) (message : Message) (asked : ℕ) → recovered_by party message ≡ Some asked → None ≡ identity (association party.history) → ⊥
recovers-known party message asked e none =
    let history = party.history in
    stands-by-stage (association history) (selection history) (regime history) (under_way history) (is_some (data_end history)) (was_shown history)
    (ungrouped (is_some (pending party.trace)) (regime_stage history) (recovers-at party message asked e)) none

-- ---- nobody is in the way

way-is : (link : Link) (message : Message) (serving : Serving) (party : StandingParty) → link.number ≡ party.link → party_of party.link serving.filestore.parties ≡ Some party
    → way_of link message serving ≡ giving_way serving (superseded_by serving.filestore party message)
way-is link message serving party linked found =
    ap (λ (n : ℕ). way_by message serving (party_of n serving.filestore.parties)) linked ∙ ap (λ (p : Option StandingParty). way_by message serving p) found

way-none : {D : Type 0} (link : Link) (message : Message) (kept : Kept D) (serving : Serving) (old : List Reply) → Represents (with_link link kept) serving → (on : IsOn link kept serving)
    → superseded_by serving.filestore on.party message ≡ None → Answers (way_of link message serving) serving old (with_link link kept) old
way-none link message kept serving old represents on none =
    subst (λ (all : List Answer). Answers all serving old (with_link link kept) old)
    (sym (way-is link message serving on.party on.linked on.found ∙ ap (λ (p : Option StandingParty). giving_way serving p) none))
    (record { spoken = sym (append-nil old); represents = represents })

-- no recovery is asked for,
pub asks-none : {D : Type 0} (link : Link) (message : Message) (kept : Kept D) (old : List Reply) → ((party : StandingParty) → IsParty link.party party → None ≡ recovered_by party message)
    → GivesWay link message kept old kept old
asks-none link message kept old none = λ serving represents.
    let on = on-link link kept serving represents in
    way-none link message kept serving old represents on
    (superseded-is serving.filestore on.party message ∙ ap (λ (asked : Option ℕ). superseded_at serving.filestore on.party asked) (sym (none on.party on.is.represented)))

-- or by nobody,
pub asks-nobody : {D : Type 0} (link : Link) (message : Message) (kept : Kept D) (old : List Reply) (activity : ℕ)
    → ((party : StandingParty) → IsParty link.party party → Some activity ≡ recovered_by party message) → ((party : StandingParty) → IsParty link.party party → None ≡ identity (association party.history))
    → GivesWay link message kept old kept old
asks-nobody link message kept old activity asks none = λ serving represents.
    let on = on-link link kept serving represents in
    absurd (recovers-known on.party message activity (sym (asks on.party on.is.represented)) (none on.party on.is.represented))

-- what is asked of a link's party: the activity, and whose
pub record Asks (link : Link) (message : Message) (name : List ℕ) (activity : ℕ) : Type 0 where
  pub recovers : (party : StandingParty) → IsParty link.party party → Some activity ≡ recovered_by party message
  pub whose : (party : StandingParty) → IsParty link.party party → Some name ≡ identity (association party.history)

asked-is : (link : Link) (message : Message) (name : List ℕ) (activity : ℕ) (state : State) (party : StandingParty) → Asks link message name activity → IsParty link.party party
    → superseded_by state party message ≡ find (is_at name activity) state.parties
asked-is link message name activity state party asks is =
    superseded-is state party message ∙ ap (λ (asked : Option ℕ). superseded_at state party asked) (sym (asks.recovers party is))
    ∙ ap (λ (own : List ℕ). find (is_at own activity) state.parties) (identity-by (association party.history) name (asks.whose party is))

-- it stands on another link
plain-setting : Setting
plain-setting = record { moment = 0; serial = 0; token = false; sync = false }

other-link : {D : Type 0} (link : Link) (message : Message) (kept : Kept D) (serving : Serving) (other : StandingParty) → Represents (with_link link kept) serving → (on : IsOn link kept serving)
    → superseded_by serving.filestore on.party message ≡ Some other → IsInWay serving.filestore on.party.link other
other-link link message kept serving other represents on is =
    let after = answers_follow serving.filestore on.party.link on.party plain-setting message represents.reached.sound on.found in
    subst (λ (p : Option StandingParty). IfSome p (IsInWay serving.filestore on.party.link)) is after.in_way

differs-by : (one number : ℕ) (b : Bool) → nat_eq one number ≡ b → one ≢ number → nat_eq one number ≡ false
differs-by one number true e apart = absurd (apart (eqb-true one number e))
differs-by one number false e apart = e

link-by : (number : ℕ) (l : Option Link) (party : StandingParty) (a : stack.Association) → IsLinkOf number l (Some party) a → (link : Link) × (l ≡ Some link) × IsLink number link party a
link-by number None party a is = absurd is
link-by number (Some link) party a is = (link, refl, is)

-- or no other link has its open
pub nobody-at : {D : Type 0} (link : Link) (message : Message) (kept : Kept D) (old : List Reply) (name : List ℕ) (activity : ℕ) → Asks link message name activity
    → ((number : ℕ) (other : Link) → link_of number kept.links ≡ Some other → IsWith name activity false other) → GivesWay link message kept old kept old
nobody-at link message kept old name activity asks off = λ serving represents.
    let on = on-link link kept serving represents in
    way-none link message kept serving old represents on (by serving represents on (superseded_by serving.filestore on.party message) refl)
  where
    found-at : (serving : Serving) → Represents (with_link link kept) serving → (on : IsOn link kept serving) → (other : StandingParty) → superseded_by serving.filestore on.party message ≡ Some other → ⊥
    found-at serving represents on other is =
        let state = serving.filestore in
        let way = other-link link message kept serving other represents on is in
        let at = ((one_is_in_way state name activity other represents.reached.sound).0 (sym (asked-is link message name activity state on.party asks on.is.represented) ∙ is)).1 in
        let differs : nat_eq other.link link.number ≡ false =
        ap (λ (n : ℕ). nat_eq other.link n) on.linked ∙ differs-by other.link on.party.link (nat_eq other.link on.party.link) refl way.apart in
        let there = link-by other.link (link_of other.link (kept.links ++ (link.number, link) ∷ [])) other (serving.associations other.link)
        (subst (λ (p : Option StandingParty). IsLinkOf other.link (link_of other.link (kept.links ++ (link.number, link) ∷ [])) p (serving.associations other.link)) way.stands (represents.links other.link)) in
        let never : true ≡ false =
        sym at ∙ off other.link there.0 (sym (link_of-other other.link link.number kept.links link differs) ∙ there.1) other there.2.represented in
        absurd cc

    by : (serving : Serving) → Represents (with_link link kept) serving → (on : IsOn link kept serving) → (found : Option StandingParty) → superseded_by serving.filestore on.party message ≡ found
        → superseded_by serving.filestore on.party message ≡ None
    by serving represents on None is = is
    by serving represents on (Some other) is = absurd (found-at serving represents on other is)

-- ---- it is told so, and is gone

apart-by : (number : ℕ) (other link : Link) (links : List (ℕ × Link)) (b : Bool) → nat_eq number link.number ≡ b → link_of number links ≡ Some other → link_of link.number links ≡ None → nat_eq number link.number ≡ false
apart-by number other link links true e found free =
    let never : Some other ≡ None = sym found ∙ ap (λ (n : ℕ). link_of n links) (eqb-true number link.number e) ∙ free in absurd cc
apart-by number other link links false e found free = e

one-less : (now before more less : ℕ) → now + 1 ≡ before → more ≡ now + 1 → less ≡ before + 1 → more + 1 ≡ less
one-less now before more less a b c = omega arith

-- one that is taken out of the others is taken out of them with a link more
pub out-beside : {D : Type 0} (number : ℕ) (other link : Link) (kept rest : Kept D) → IsDistinct nat_eq (keys_of (kept.links ++ (link.number, link) ∷ [])) → IsTakenOut number other kept rest
    → IsTakenOut number other (with_link link kept) (with_link link rest)
out-beside number other link kept rest distinct out =
    let free : link_of link.number kept.links ≡ None = last-free kept.links link.number link distinct in
    let off = apart-by number other link kept.links (nat_eq number link.number) refl out.value free in
    record {
      store = out.store;
      locks = out.locks;
      value = link_of-other number link.number kept.links link off ∙ out.value;
      none = link_of-other number link.number rest.links link off ∙ out.none;
      others = λ q e. link_of-last q link.number rest.links link ∙ ap (λ (found : Option Link). or_last found (cond (nat_eq q link.number) (Some link) None)) (out.others q e)
          ∙ sym (link_of-last q link.number kept.links link);
      count = one-less (length rest.links) (length kept.links) (length (rest.links ++ (link.number, link) ∷ [])) (length (kept.links ++ (link.number, link) ∷ [])) out.count
          (one-more rest.links (link.number, link)) (one-more kept.links (link.number, link));
      distinct = distinct-last rest.links link.number link out.distinct (out.others link.number off ∙ free);
    }

pub gives-way : {D : Type 0} (number : ℕ) (link other : Link) (message : Message) (kept rest kept' : Kept D) (name : List ℕ) (activity : ℕ) (old new : List Reply) (said : List Said)
    → Asks link message name activity → IsWith name activity true other → IsTakenOut number other kept rest → said ≡ answers.Abort superseded 0 ∷ []
    → LeavesParty other.party rest.locks kept'.locks → kept'.links ≡ rest.links → kept'.store.tables ≡ rest.store.tables
    → ((a : stack.Association) → IsCalled other.stack a → new ≡ old ++ speaking other.number (sending_all (indications.Abort None) a said).octets true)
    → GivesWay link message kept old kept' new
gives-way number link other message kept rest kept' name activity old new said asks at out is_abort leaves links tables spoken = λ serving represents.
    let state = serving.filestore in
    let on = on-link link kept serving represents in
    let beside = out-beside number other link kept rest represents.distinct out in
    let again = out-represents number other (with_link link kept) (with_link link rest) serving represents beside in
    let there = on-link other (with_link link rest) serving again in
    let found : superseded_by state on.party message ≡ Some there.party =
    asked-is link message name activity state on.party asks on.is.represented
    ∙ (one_is_in_way state name activity there.party represents.reached.sound).1 (there.found, at there.party there.is.represented) in
    let held : Keeps kept'.locks (broken there.party.link state) =
    leaves rest.store.tables state there.party (record { sound = again.reached.sound; kept = again.tables; held = again.held; stands = there.found }) there.is.represented in
    let a = serving.associations there.party.link in
    subst (λ (all : List Answer). Answers all serving old (with_link link kept') new)
    (sym (way-is link message serving on.party on.linked on.found ∙ ap (λ (p : Option StandingParty). giving_way serving p) found))
    (says-gone other (with_link link rest) (with_link link kept') serving again there (indications.Abort None) (answers.Abort superseded 0 ∷ [])
    (sending_all (indications.Abort None) a (answers.Abort superseded 0 ∷ [])) old new refl
    (spoken a there.is.called ∙ ap (λ (all : List Said). old ++ speaking other.number (sending_all (indications.Abort None) a all).octets true) is_abort)
    (ap (λ (all : List (ℕ × Link)). all ++ (link.number, link) ∷ []) links) tables held)

-- ---- where links stand

-- a link that is found stands at some place
pub at-place : (number : ℕ) (links : List (ℕ × Link)) (link : Link) → link_of number links ≡ Some link → (place : ℕ) × (place < length links) × (entry : ℕ × Link) × (slice_get links place ≡ Some entry) × (entry.1 ≡ link)
at-place number [] link e = absurd cc
at-place number (first ∷ links) link e = by (nat_eq number first.0) e (at-place number links link)
  where
    by : (b : Bool) → cond b (Some first.1) (link_of number links) ≡ Some link
        → (link_of number links ≡ Some link → (place : ℕ) × (place < length links) × (entry : ℕ × Link) × (slice_get links place ≡ Some entry) × (entry.1 ≡ link))
        → (place : ℕ) × (place < length (first ∷ links)) × (entry : ℕ × Link) × (slice_get (first ∷ links) place ≡ Some entry) × (entry.1 ≡ link)
    by true e later = let same : first.1 ≡ link = cc in (zero, omega arith, first, refl, same)
    by false e later = let at = later e in (suc at.0, omega (arith, at.1), at.2, at.3, at.4)

-- one that isn't there isn't there either once another was taken out
pub stays-none : (b : Bool) (found : Option Link) → found ≡ None → cond b None found ≡ None
stays-none true found e = refl
stays-none false found e = e

-- a link at a place has what is told of it
pub apart-here : (links : List (ℕ × Link)) (place number : ℕ) (link : Link) (name : List ℕ) (activity : ℕ) (answer : Bool) → Some (number, link) ≡ slice_get links place
    → ((party : StandingParty) → IsParty link.party party → answer ≡ is_at name activity party) → answer ≡ false
    → (entry : ℕ × Link) → slice_get links place ≡ Some entry → IsWith name activity false entry.1
apart-here links place number link name activity answer at tells off entry e = λ party is.
    let both : Some (number, link) ≡ Some entry = at ∙ e in
    let same : (number, link) ≡ entry = cc in
    sym (tells party (subst (λ (one : ℕ × Link). IsParty one.1.party party) (sym same) is)) ∙ off
