-- Few octets come on a link that was taken out of the others: they are fed to its stack, what they tell is answered, and where
-- receiving has ended with it the association breaks.
use Rattle.std.proofs.Common.{◌≡◌, ◌≤◌, ◌<◌, ℕ, Bool, true, false, List, [], ◌∷◌, ◌++◌, length, Option, None, Some, refl, ap, sym, subst, ◌∙◌, append-nil}
use Rattle.std.specs.List.{AllByRecursion}
use Rattle.std.specs.Prelude.{is_some, if◌then◌else◌}
use Rattle.vf_elements.specs.declared.message.Said.{Said}
use Rattle.vf_disk.proofs.Runs.{weaker}
use Rattle.vf_filestore.specs.Dockets.{broken}
use Rattle.vf_filestore.specs.HoldersAfter.{Keeps}
use Rattle.vf_filestore.specs.Sound.{IsSound}
use Rattle.vf_filestore.specs.State.{StandingParty, party_of}
use Rattle.vf_filestore.specs.Transition.{leaves}
use Rattle.vf_journal.specs.declared.error.JournalError.{JournalError}
use Rattle.vf_journal.specs.declared.error.JournalError.TheVariants.{NoMemory}
use Rattle.vf_party.specs.Turns.{IsParty, LeavesParty}
use Rattle.vf_party.specs.declared.party.Party.{Party}
use Rattle.vf_session.specs.declared.units.TokenSide.{TokenSide}
use Rattle.vf_session.specs.declared.units.TokenSide.TheVariants.{Responder}
use Rattle.vf_stack.proofs.FewLemmas.{few-last}
use Rattle.vf_stack.proofs.ReadLemmas.{octets-read}
use Rattle.vf_stack.specs.Association.{Association, is_ended}
use Rattle.vf_stack.specs.Few.{TellsLast}
use Rattle.vf_stack.specs.Receiving.{Fed, octets_received}
use Rattle.vf_stack.specs.Represents as stack
use Rattle.vf_stack.specs.Represents.{Feeds, side_of}
use Rattle.vf_stack.specs.declared.indication.Indication.{Indication}
use Rattle.vf_stack.specs.declared.indication.Indication.TheVariants as indications
use Rattle.vf_store.specs.StoreState.{StoreState}
use Rattle.vf_tpkt.specs.Wanting.{lacking}
use Rattle.vf_responder.proofs.ChainLemmas.{along-front, along-later, joined-answers}
use Rattle.vf_responder.proofs.CommitLemmas.{all-made, up-front}
use Rattle.vf_responder.proofs.CommitParts.{ending-commits}
use Rattle.vf_responder.proofs.FullLemmas.{full-to}
use Rattle.vf_responder.proofs.Heard.{IsSame, few-heard, few-heard-commits, few-heard-full, heard_by, whole}
use Rattle.vf_responder.proofs.MapLemmas.{last-free, link_of-own}
use Rattle.vf_responder.proofs.MoveLemmas.{none-by}
use Rattle.vf_responder.proofs.PieceLoopLemmas.{apart-on}
use Rattle.vf_responder.proofs.ReadLemmas.{all-read}
use Rattle.vf_responder.proofs.SaysLemmas.{says-gone}
use Rattle.vf_responder.proofs.StandLemmas.{IsOn, on-link, stands-by, stays-on}
use Rattle.vf_responder.specs.Along.{RepresentsAlong}
use Rattle.vf_responder.specs.Answers.{Answer, after_octet, at_end, breaking, octets_heard, says, speaking, told_all}
use Rattle.vf_responder.specs.AnswersTo.{to_ending}
use Rattle.vf_responder.specs.Commits.{AreMade, AreMadeUpTo, Commit, DiskTells, commits, commits_heard, commits_told_all}
use Rattle.vf_responder.specs.Hears.{IsHeard}
use Rattle.vf_responder.specs.Replies.{sending_all}
use Rattle.vf_responder.specs.Full.{AtFull, IsFullAt}
use Rattle.vf_responder.specs.Represents.{Answers, Does, IsLink, IsLinkOf, KeepsAlong, Kept, Represents, link_of, put_back, with_link}
use Rattle.vf_responder.specs.Serving.{Serving}
use Rattle.vf_responder.specs.Steps.{IsCalled, IsReadTold, IsSaid}
use Rattle.vf_responder.specs.declared.event.Reply.{Reply}
use Rattle.vf_responder.specs.declared.link.Link.{Link}

-- ---- what feeding the stack owes

pub fed : (number : ℕ) (octets : List ℕ) (old new : stack.Kept) (out told : List Indication) (before spoken : List ℕ) (replies replies' : List Reply) → out ≡ [] → before ≡ []
    → ((a : Association) → stack.Represents old a → Feeds (octets_received (side_of old) a octets) out before new told spoken) → side_of new ≡ side_of old
    → replies' ≡ replies ++ speaking number spoken false
    → (a : Association) → IsCalled old a → IsHeard number (octets_received Responder a octets) replies new told replies'
fed number octets old new out told before spoken replies replies' none silent feeds side speaks a called =
    let own = side_of old in
    let first : Feeds (octets_received own a octets) [] before new told spoken =
    subst (λ (out : List Indication). Feeds (octets_received own a octets) out before new told spoken) none (feeds a called.represents) in
    let second : Feeds (octets_received own a octets) [] [] new told spoken =
    subst (λ (before : List ℕ). Feeds (octets_received own a octets) [] before new told spoken) silent first in
    let f : Feeds (octets_received Responder a octets) [] [] new told spoken =
    subst (λ (side : TokenSide). Feeds (octets_received side a octets) [] [] new told spoken) called.called second in
    record {
      told_is = f.indications;
      spoken = speaks ∙ ap (λ (octets : List ℕ). replies ++ speaking number octets false) f.answered;
      called = record { called = side ∙ called.called; represents = f.represents };
    }

-- ---- the link that was taken out

pub record IsHere (link : Link) (serving : Serving) : Type 0 where
  pub party : StandingParty
  pub found : party_of link.number serving.filestore.parties ≡ Some party
  pub is : IsLink link.number link party (serving.associations link.number)

pub here : {D : Type 0} (link : Link) (kept : Kept D) (serving : Serving) → Represents (with_link link kept) serving → IsHere link serving
here link kept serving represents =
    let n = link.number in
    let own : link_of n (kept.links ++ (n, link) ∷ []) ≡ Some link = link_of-own n kept.links link (last-free kept.links n link represents.distinct) in
    let stands = stands-by n link (party_of n serving.filestore.parties) (serving.associations n)
    (subst (λ (l : Option Link). IsLinkOf n l (party_of n serving.filestore.parties) (serving.associations n)) own (represents.links n)) in
    record { party = stands.0; found = stands.1; is = stands.2 }

-- ---- after the turns of all that was told

-- what comes of the end of receiving
abbrev breaking_by : Bool → Serving → StandingParty → List Answer
breaking_by over serving party = if over then says party.link (indications.Abort None) serving (leaves serving.filestore party []) ∷ [] else []

after-is : {D : Type 0} (number : ℕ) (link : Link) (kept : Kept D) (serving : Serving) (on : IsOn link kept serving) → link.number ≡ number
    → (b : Bool) → is_ended (serving.associations on.party.link).exchange.ending ≡ b → after_octet number serving ≡ breaking_by b serving on.party
after-is number link kept serving on numbered b ends =
    ap (λ (n : ℕ). breaking serving (party_of n serving.filestore.parties)) (sym numbered ∙ on.linked)
    ∙ ap (λ (p : Option StandingParty). breaking serving p) on.found
    ∙ ap (λ (b : Bool). breaking_by b serving on.party) ends

-- nobody stands on the link any more,
pub after-gone : {D : Type 0} (number : ℕ) (kept : Kept D) (serving : Serving) (old : List Reply) → Represents kept serving → link_of number kept.links ≡ None
    → Answers (after_octet number serving) serving old kept old
after-gone number kept serving old represents free =
    let none : party_of number serving.filestore.parties ≡ None =
    none-by number (party_of number serving.filestore.parties) (serving.associations number)
    (subst (λ (l : Option Link). IsLinkOf number l (party_of number serving.filestore.parties) (serving.associations number)) free (represents.links number)) in
    subst (λ (answers : List Answer). Answers answers serving old kept old) (sym (ap (λ (p : Option StandingParty). breaking serving p) none))
    (record { spoken = sym (append-nil old); represents = represents })

-- or it goes on,
pub after-open : {D : Type 0} (number : ℕ) (link : Link) (kept : Kept D) (serving : Serving) (old : List Reply) → link.number ≡ number → Represents (with_link link kept) serving
    → ((a : Association) → stack.Represents link.stack a → false ≡ is_ended a.exchange.ending)
    → Answers (after_octet number serving) serving old (with_link link kept) old
after-open number link kept serving old numbered represents goes =
    let on = on-link link kept serving represents in
    let is = after-is number link kept serving on numbered false (sym (goes (serving.associations on.party.link) on.is.called.represents)) in
    subst (λ (answers : List Answer). Answers answers serving old (with_link link kept) old) (sym is)
    (record { spoken = sym (append-nil old); represents = represents })

-- or it breaks.
pub after-ended : {D : Type 0} (number : ℕ) (link : Link) (kept kept' : Kept D) (serving : Serving) (stack' : stack.Kept) (none : List Said) (old new : List Reply) → link.number ≡ number → Represents (with_link link kept) serving
    → ((a : Association) → stack.Represents link.stack a → true ≡ is_ended a.exchange.ending)
    → none ≡ [] → ((a : Association) → IsCalled link.stack a → IsSaid link.number (sending_all (indications.Abort None) a none) true old stack' new)
    → LeavesParty link.party kept.locks kept'.locks → kept'.links ≡ kept.links → kept'.store.tables ≡ kept.store.tables
    → Answers (after_octet number serving) serving old kept' new
after-ended number link kept kept' serving stack' none old new numbered represents ended is_none said gone links tables =
    let on = on-link link kept serving represents in
    let a = serving.associations on.party.link in
    let is = after-is number link kept serving on numbered true (sym (ended a on.is.called.represents)) in
    let held : Keeps kept'.locks (broken on.party.link serving.filestore) =
    gone kept.store.tables serving.filestore on.party (record { sound = represents.reached.sound; kept = represents.tables; held = represents.held; stands = on.found }) on.is.represented in
    subst (λ (answers : List Answer). Answers answers serving old kept' new) (sym is)
    (says-gone link kept kept' serving represents on (indications.Abort None) [] (sending_all (indications.Abort None) a none) old new
    (ap (λ (all : List Said). sending_all (indications.Abort None) a all) is_none) (said a on.is.called).spoken links tables held)

-- ---- the octets, their turns and what comes after

abbrev pub fed_on : (link : ℕ) → Serving → List ℕ → Fed
fed_on link serving octets = octets_received Responder (serving.associations link) octets

-- Few octets were heard on the link, and this is the link then.
module _ {D : Type 0} (moment : ℕ) (link link' : Link) (kept : Kept D) (octets : List ℕ) (told : List Indication) (old mid : List Reply)
    (hears : (a : Association) → IsCalled link.stack a → IsHeard link.number (octets_received Responder a octets) old link'.stack told mid)
    (same : link'.party ≡ link.party) (numbered : link'.number ≡ link.number) (few : length octets ≤ lacking link.stack.transport.packet) (some : 0 < length octets) where
  module _ (serving : Serving) (represents : Represents (with_link link kept) serving) where
    on_link : IsHere link serving
    on_link = here link kept serving represents

    abbrev fed_here : Fed
    fed_here = fed_on link.number serving octets

    is_heard : IsHeard link.number fed_here old link'.stack told mid
    is_heard = hears (serving.associations link.number) on_link.is.called

    told-read : AllByRecursion IsReadTold told
    told-read =
        subst (λ (all : List Indication). AllByRecursion IsReadTold all) (sym is_heard.told_is)
        (all-read fed_here.indications (octets-read Responder (serving.associations link.number) octets))

    abbrev heard : Answer
    heard = heard_by link.number serving fed_here

    heard-represents : Represents (with_link link' kept) heard.state
    heard-represents =
        stays-on link.number link kept serving refl represents kept serving.filestore fed_here.association refl (λ q apart. refl)
        represents.tables represents.held represents.reached link' on_link.party numbered on_link.found
        (record { numbered = numbered; called = is_heard.called; represented = subst (λ (party : Party). IsParty party on_link.party) (sym same) on_link.is.represented }) refl

    first-answers : Answers (heard ∷ []) serving old (with_link link' kept) mid
    first-answers = record {
      spoken = is_heard.spoken ∙ ap (λ (all : List Reply). old ++ all) (sym (append-nil (speaking link.number fed_here.answers false)));
      represents = heard-represents;
    }

    abbrev turns : List Answer
    turns = told_all moment link.number heard.state fed_here.indications

    turns-are : told_all moment link'.number heard.state told ≡ turns
    turns-are =
        ap (λ (n : ℕ). told_all moment n heard.state told) numbered ∙ ap (λ (all : List Indication). told_all moment link.number heard.state all) is_heard.told_is

    is-same : IsSame serving (octets_heard moment link.number serving octets) (whole moment link.number serving fed_here)
    is-same =
        few-heard moment link.number octets serving some (ap (λ (p : Option StandingParty). is_some p) on_link.found)
        (subst (λ (side : TokenSide). TellsLast side (serving.associations link.number) octets) on_link.is.called.called
        (few-last link.stack (serving.associations link.number) octets on_link.is.called.represents few))

    -- what is represented along the turns is along all
    turns-along : (image : List ℕ) → RepresentsAlong heard.state (told_all moment link'.number heard.state told) image → RepresentsAlong serving (octets_heard moment link.number serving octets) image
    turns-along image along =
        let rest = after_octet link.number (at_end heard.state turns) in
        let now : RepresentsAlong heard.state turns image = subst (λ (answers : List Answer). RepresentsAlong heard.state answers image) turns-are along in
        is-same.along image (along-later serving (heard ∷ []) (turns ++ rest) image (along-front heard.state turns rest image now))

    all-answers : (kept1 kept2 : Kept D) (mid' new : List Reply) → Answers turns heard.state mid kept1 mid' → Answers (after_octet link.number (at_end heard.state turns)) (at_end heard.state turns) mid' kept2 new
        → Answers (octets_heard moment link.number serving octets) serving old kept2 new
    all-answers kept1 kept2 mid' new turned after =
        let rest = after_octet link.number (at_end heard.state turns) in
        let others = joined-answers heard.state turns rest mid mid' new kept1 kept2 turned after in
        let all = joined-answers serving (heard ∷ []) (turns ++ rest) old mid new (with_link link' kept) kept2 first-answers others in
        record {
          spoken = all.spoken ∙ ap (λ (said : List Reply). old ++ said) (sym is-same.spoken);
          represents = subst (λ (s : Serving). Represents kept2 s) (sym is-same.state) all.represents;
        }

    turned : (b goes : Bool) (link2 : Link) (kept' : Kept D) (mid' : List Reply) → goes ≡ b
        → Does (λ s. told_all moment link'.number s told) (with_link link' kept) mid (put_back goes link2 kept') mid' → Answers turns heard.state mid (put_back b link2 kept') mid'
    turned b goes link2 kept' mid' is does =
        subst (λ (b : Bool). Answers turns heard.state mid (put_back b link2 kept') mid') is
        (subst (λ (answers : List Answer). Answers answers heard.state mid (put_back goes link2 kept') mid') turns-are (does heard.state heard-represents))

    -- the commits of the turns, and then of what comes after
    abbrev last : Serving
    last = at_end heard.state turns

    abbrev ending : List Commit
    ending = commits last (after_octet link.number last) (to_ending last (party_of link.number last.filestore.parties))

    commits-are : commits_heard moment link.number serving octets ≡ commits_told_all moment link'.number heard.state told ++ ending
    commits-are =
        few-heard-commits moment link.number octets serving some (ap (λ (p : Option StandingParty). is_some p) on_link.found)
        (subst (λ (side : TokenSide). TellsLast side (serving.associations link.number) octets) on_link.is.called.called
        (few-last link.stack (serving.associations link.number) octets on_link.is.called.represents few))
        ∙ sym (ap (λ (n : ℕ). commits_told_all moment n heard.state told ++ ending) numbered
        ∙ ap (λ (all : List Indication). commits_told_all moment link.number heard.state all ++ ending) is_heard.told_is)

    commits-made : (tells : DiskTells D) (store : StoreState D) → IsSound last.filestore → AreMade tells (commits_told_all moment link'.number heard.state told) kept.store store
        → AreMade tells (commits_heard moment link.number serving octets) kept.store store
    commits-made tells store sound made =
        let front = commits_told_all moment link'.number heard.state told in
        let none : ending ≡ [] = ending-commits link.number last (party_of link.number last.filestore.parties) sound refl in
        subst (λ (all : List Commit). AreMade tells all kept.store store)
        (sym (commits-are ∙ ap (λ (more : List Commit). front ++ more) none ∙ append-nil front)) made

    commits-up : (tells : DiskTells D) (store : StoreState D) (error : JournalError) → AreMadeUpTo tells error (commits_told_all moment link'.number heard.state told) kept.store store
        → AreMadeUpTo tells error (commits_heard moment link.number serving octets) kept.store store
    commits-up tells store error up =
        subst (λ (all : List Commit). AreMadeUpTo tells error all kept.store store) (sym commits-are)
        (up-front tells error (commits_told_all moment link'.number heard.state told) ending kept.store store up)

  abbrev Told : Type 0
  Told = AllByRecursion IsReadTold told

  -- what holds of the turns holds of the octets
  pub few-represented : {P Q : Type 0} → (Told → (s : Serving) → Represents (with_link link' kept) s → P → Q) → (s : Serving) → Represents (with_link link kept) s → P → Q
  few-represented turned serving represents stands = turned (told-read serving represents) (heard serving represents).state (heard-represents serving represents) stands

  pub few-run : (shown : D → Option (List ℕ)) (may_leave : D → List ℕ → Type 0) (clock : D → ℕ) (left_since : D → ℕ → List ℕ → Type 0) (kept' : Kept D)
      → (Told → KeepsAlong (λ s. told_all moment link'.number s told) shown may_leave clock left_since (with_link link' kept) kept')
      → KeepsAlong (λ s. octets_heard moment link.number s octets) shown may_leave clock left_since (with_link link kept) kept'
  few-run shown may_leave clock left_since kept' run serving represents stands =
      let s = (heard serving represents).state in
      weaker clock left_since kept.store.disk kept'.store.disk (RepresentsAlong s (told_all moment link'.number s told)) (RepresentsAlong serving (octets_heard moment link.number serving octets))
      (run (told-read serving represents) s (heard-represents serving represents) stands) (turns-along serving represents)

  pub few-full : (store : StoreState D) (error : JournalError)
      → (Told → (s : Serving) → Represents (with_link link' kept) s → AtFull error (λ place. IsFullAt (told_all moment link'.number s told) s store place))
      → (s : Serving) → Represents (with_link link kept) s → AtFull error (λ place. IsFullAt (octets_heard moment link.number s octets) s store place)
  few-full store error full serving represents =
      let s = (heard serving represents).state in
      full-to error (λ place. IsFullAt (told_all moment link'.number s told) s store place) (λ place. IsFullAt (octets_heard moment link.number serving octets) serving store place)
      (full (told-read serving represents) s (heard-represents serving represents))
      (λ place at. few-heard-full moment link.number octets serving store place some (ap (λ (p : Option StandingParty). is_some p) (on_link serving represents).found)
      (subst (λ (side : TokenSide). TellsLast side (serving.associations link.number) octets) (on_link serving represents).is.called.called
      (few-last link.stack (serving.associations link.number) octets (on_link serving represents).is.called.represents few))
      (subst (λ (answers : List Answer). IsFullAt answers s store place) (turns-are serving represents) at))

  pub few-up : (tells : DiskTells D) (store : StoreState D) (error : JournalError)
      → (Told → (s : Serving) → Represents (with_link link' kept) s → AreMadeUpTo tells error (commits_told_all moment link'.number s told) kept.store store)
      → (s : Serving) → Represents (with_link link kept) s → AreMadeUpTo tells error (commits_heard moment link.number s octets) kept.store store
  few-up tells store error up serving represents =
      commits-up serving represents tells store error (up (told-read serving represents) (heard serving represents).state (heard-represents serving represents))

  -- memory is wanting after the turns
  pub few-then : (tells : DiskTells D) (store : StoreState D)
      → (Told → (s : Serving) → Represents (with_link link' kept) s → AreMade tells (commits_told_all moment link'.number s told) kept.store store)
      → (s : Serving) → Represents (with_link link kept) s → AreMadeUpTo tells NoMemory (commits_heard moment link.number s octets) kept.store store
  few-then tells store made =
      few-up tells store NoMemory (λ read s stood. all-made tells (commits_told_all moment link'.number s told) kept.store store (made read s stood))

  -- With the turns the link's party is gone, or it goes on, or it breaks then.
  module _ (goes : Bool) (link2 : Link) (kept' : Kept D) (mid' : List Reply) (does : Told → Does (λ s. told_all moment link'.number s told) (with_link link' kept) mid (put_back goes link2 kept') mid') where
    pub few-made : (tells : DiskTells D) (store : StoreState D)
        → (Told → (s : Serving) → Represents (with_link link' kept) s → AreMade tells (commits_told_all moment link'.number s told) kept.store store)
        → (s : Serving) → Represents (with_link link kept) s → AreMade tells (commits_heard moment link.number s octets) kept.store store
    few-made tells store made serving represents =
        let took = turned serving represents goes goes link2 kept' mid' refl (does (told-read serving represents)) in
        commits-made serving represents tells store took.represents.reached.sound (made (told-read serving represents) (heard serving represents).state (heard-represents serving represents))

    pub few-gone : goes ≡ false → (link_of link'.number kept.links ≡ None → link_of link'.number kept'.links ≡ None) → Does (λ s. octets_heard moment link.number s octets) (with_link link kept) old kept' mid'
    few-gone is apart serving represents =
        let took = turned serving represents false goes link2 kept' mid' is (does (told-read serving represents)) in
        all-answers serving represents kept' kept' mid' mid' took
        (after-gone link.number kept' (at_end (heard serving represents).state (turns serving represents)) mid' took.represents
        (apart-on link'.number link.number kept.links kept'.links numbered apart (last-free kept.links link.number link represents.distinct)))

    pub few-open : goes ≡ true → link2.number ≡ link'.number → ((a : Association) → stack.Represents link2.stack a → false ≡ is_ended a.exchange.ending)
        → Does (λ s. octets_heard moment link.number s octets) (with_link link kept) old (with_link link2 kept') mid'
    few-open is numbered' goes_on serving represents =
        let took = turned serving represents true goes link2 kept' mid' is (does (told-read serving represents)) in
        all-answers serving represents (with_link link2 kept') (with_link link2 kept') mid' mid' took
        (after-open link.number link2 kept' (at_end (heard serving represents).state (turns serving represents)) mid' (numbered' ∙ numbered) took.represents goes_on)

    pub few-ended : goes ≡ true → link2.number ≡ link'.number → ((a : Association) → stack.Represents link2.stack a → true ≡ is_ended a.exchange.ending)
        → (kept2 : Kept D) (stack2 : stack.Kept) (none : List Said) (new : List Reply) → none ≡ []
        → ((a : Association) → IsCalled link2.stack a → IsSaid link2.number (sending_all (indications.Abort None) a none) true mid' stack2 new)
        → LeavesParty link2.party kept'.locks kept2.locks → kept2.links ≡ kept'.links → kept2.store.tables ≡ kept'.store.tables
        → Does (λ s. octets_heard moment link.number s octets) (with_link link kept) old kept2 new
    few-ended is numbered' ended kept2 stack2 none new is_none said gone links tables serving represents =
        let took = turned serving represents true goes link2 kept' mid' is (does (told-read serving represents)) in
        all-answers serving represents (with_link link2 kept') kept2 mid' new took
        (after-ended link.number link2 kept' kept2 (at_end (heard serving represents).state (turns serving represents)) stack2 none mid' new (numbered' ∙ numbered) took.represents ended is_none said gone links tables)
