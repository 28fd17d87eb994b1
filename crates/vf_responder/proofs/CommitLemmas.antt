-- Commits one after another, and those of answers that come in parts.
use Rattle.std.proofs.Common.{◌≡◌, ℕ, ◌<◌, List, [], ◌∷◌, ◌++◌, length, Option, None, Some, Result, Ok, Err, refl, ap, sym, subst, ◌∙◌, append_assoc, append-nil, arith}
use Rattle.std.specs.Prelude.{OnOk}
use Rattle.vf_filestore.proofs.Decisions.{broken_same}
use Rattle.vf_filestore.proofs.Kept.{breaks_keep}
use Rattle.vf_filestore.specs.Aborts.{Setting}
use Rattle.vf_filestore.specs.Decision.{Decision, Leaves, decision, decision_in}
use Rattle.vf_filestore.specs.Records.{changes_by, changes_of_party, changes_where}
use Rattle.vf_filestore.specs.Runs.{Event}
use Rattle.vf_filestore.specs.Sound.{IsSound}
use Rattle.vf_filestore.specs.Stage.{Group, pending}
use Rattle.vf_filestore.specs.State.{State, StandingParty, party_of, with_party}
use Rattle.vf_filestore.specs.Tables.{tables_of}
use Rattle.vf_filestore.specs.Transition.{answered, met, with_message}
use Rattle.vf_elements.specs.declared.message.Message.TheVariants.{Break}
use Rattle.vf_journal.specs.declared.error.JournalError.{JournalError}
use Rattle.vf_journal.specs.declared.error.JournalError.TheVariants.{NotAStore, Full, DiskFault, NoMemory}
use Rattle.vf_party_steps.proofs.Kept.{no_change}
use Rattle.vf_store.specs.Answers.{CommitAnswers, CommitSteps}
use Rattle.vf_store.specs.Commit.{after_commit, commit_steps, placed}
use Rattle.vf_store.specs.StoreState.{StoreState}
use Rattle.vf_tables.specs.declared.change.Change.{Change}
use Rattle.vf_responder.specs.Answers.{Answer, at_end}
use Rattle.vf_responder.specs.Commits.{AreMade, AreMadeUpTo, Commit, CommitsSo, DiskTells, IsNext, commit_of, commits, changes_in}
use Rattle.vf_responder.specs.Represents.{Kept, Represents}
use Rattle.vf_responder.specs.Run.{tables_in}
use Rattle.vf_responder.specs.Serving.{Serving}

-- ---- commits one after another

module _ {D : Type 0} (tells : DiskTells D) where
  pub made-join : (first next : List Commit) (old mid new : StoreState D) → AreMade tells first old mid → AreMade tells next mid new → AreMade tells (first ++ next) old new
  made-join [] next old mid new first second = subst (λ (store : StoreState D). AreMade tells next store new) first second
  made-join (commit ∷ later) next old mid new first second = (first.0, first.1, made-join later next first.0 mid new first.2 second)

  next-more : (error : JournalError) (rest more : List Commit) (old new : StoreState D) → IsNext tells error rest old new → IsNext tells error (rest ++ more) old new
  next-more DiskFault [] more old new is = absurd is
  next-more DiskFault (commit ∷ later) more old new is = is
  next-more (Full place limit) [] more old new is = absurd is
  next-more (Full place limit) (commit ∷ later) more old new is = is
  next-more NoMemory rest more old new is = is
  next-more (NotAStore place found expected) rest more old new is = absurd is

  pub up-front : (error : JournalError) (first more : List Commit) (old new : StoreState D) → AreMadeUpTo tells error first old new → AreMadeUpTo tells error (first ++ more) old new
  up-front error first more old new up = record {
    made = up.made;
    rest = up.rest ++ more;
    is = ap (λ (all : List Commit). all ++ more) up.is ∙ append_assoc up.made up.rest more;
    between = up.between;
    first = up.first;
    next = next-more error up.rest more up.between new up.next;
  }

  pub up-after : (error : JournalError) (first next : List Commit) (old mid new : StoreState D) → AreMade tells first old mid → AreMadeUpTo tells error next mid new → AreMadeUpTo tells error (first ++ next) old new
  up-after error first next old mid new made up = record {
    made = first ++ up.made;
    rest = up.rest;
    is = ap (λ (all : List Commit). first ++ all) up.is ∙ sym (append_assoc first up.made up.rest);
    between = up.between;
    first = made-join first up.made old mid up.between made up.first;
    next = up.next;
  }

  -- memory is wanting before the first of them, and after the last one
  pub none-begun : (all : List Commit) (old new : StoreState D) → new ≡ old → AreMadeUpTo tells NoMemory all old new
  none-begun all old new same = record { made = []; rest = all; is = refl; between = old; first = refl; next = same }

  pub all-made : (all : List Commit) (old new : StoreState D) → AreMade tells all old new → AreMadeUpTo tells NoMemory all old new
  all-made all old new made = record { made = all; rest = []; is = sym (append-nil all); between = new; first = made; next = refl }

  -- ---- a commit

  pub keep-commits : (changes : List Change) (old new : StoreState D) (before now : ℕ) (result : Result (Unit {0}) JournalError) → 0 < length changes
      → CommitAnswers {S = StoreState D} {T = Unit {0}} old new (placed old.journal old.tables changes).end old.journal.limit before now result
      → CommitSteps {T = Unit {0}} (commit_steps old.journal old.tables changes) (tells.plan old.disk) (tells.plan new.disk) (tells.state old.disk) (tells.state new.disk) (tells.lacks old.disk) (tells.lacks new.disk) result
      → OnOk result (new.journal ≡ after_commit old.journal old.tables changes) → CommitsSo tells (commit_of old.tables changes) old new result
  keep-commits [] old new before now result some answers steps journal = absurd (omega (arith, some))
  keep-commits (change ∷ changes) old new before now (Ok done) some answers steps journal =
      (new, record { written = record { tables = refl; within = answers.0; steps = steps }; journal = journal }, refl)
  keep-commits (change ∷ changes) old new before now (Err DiskFault) some answers steps journal = record {
    made = [];
    rest = commit_of old.tables (change ∷ changes);
    is = refl;
    between = old;
    first = refl;
    next = record { tables = refl; within = answers.0; steps = steps };
  }
  keep-commits (change ∷ changes) old new before now (Err (Full length bound)) some answers steps journal = record {
    made = [];
    rest = commit_of old.tables (change ∷ changes);
    is = refl;
    between = old;
    first = refl;
    next = (answers.3, refl, answers.1, subst (λ (n : ℕ). old.journal.limit < n) (sym answers.1) answers.0);
  }
  keep-commits (change ∷ changes) old new before now (Err NoMemory) some answers steps journal = none-begun (commit_of old.tables (change ∷ changes)) old new answers
  keep-commits (change ∷ changes) old new before now (Err (NotAStore place found expected)) some answers steps journal = absurd answers

  pub none-kept : (changes : List Change) (store : StoreState D) → length changes ≡ 0 → AreMade tells (commit_of store.tables changes) store store
  none-kept [] store none = refl
  none-kept (change ∷ changes) store none = cc

-- ---- the commits of answers

-- as many events as answers
abbrev pub AreEach : List Answer → List (Option Event) → Type 0
AreEach [] [] = Unit {0}
AreEach (answer ∷ later) (event ∷ events) = AreEach later events
AreEach _ _ = ⊥

pub each-join : (first second : List Answer) (events others : List (Option Event)) → AreEach first events → AreEach second others → AreEach (first ++ second) (events ++ others)
each-join [] second [] others one more = more
each-join [] second (event ∷ events) others one more = absurd one
each-join (answer ∷ first) second [] others one more = absurd one
each-join (answer ∷ first) second (event ∷ events) others one more = each-join first second events others one more

pub commits-join : (serving : Serving) (first second : List Answer) (events others : List (Option Event)) → AreEach first events
    → commits serving (first ++ second) (events ++ others) ≡ commits serving first events ++ commits (at_end serving first) second others
commits-join serving [] second [] others each = refl
commits-join serving [] second (event ∷ events) others each = absurd each
commits-join serving (answer ∷ first) second [] others each = absurd each
commits-join serving (answer ∷ first) second (event ∷ events) others each =
    let one = commit_of (tables_in serving) (changes_in serving.filestore event) in
    ap (λ (rest : List Commit). one ++ rest) (commits-join answer.state first second events others each)
    ∙ sym (append_assoc one (commits answer.state first events) (commits (at_end answer.state first) second others))

-- COMMITTED SO FAR. Of all commits these were made, and the rest are what the state then has left.
pub record IsCommitted {D : Type 0} (tells : DiskTells D) (all : List Commit) (kept : Kept D) (old new : StoreState D) (rest : Serving → List Commit) : Type 0 where
  pub now : Serving
  pub represents : Represents kept now
  pub made : List Commit
  pub first : AreMade tells made old new
  pub is : all ≡ made ++ rest now

module _ {D : Type 0} (tells : DiskTells D) where
  pub committed-none : (serving : Serving) (kept : Kept D) (store : StoreState D) (rest : Serving → List Commit) → Represents kept serving → IsCommitted tells (rest serving) kept store store rest
  committed-none serving kept store rest represents = record { now = serving; represents = represents; made = []; first = refl; is = refl }

  pub committed-next : (all : List Commit) (kept kept' : Kept D) (old mid new : StoreState D) (rest rest' : Serving → List Commit) (o : IsCommitted tells all kept old mid rest) (next : List Commit) (after : Serving)
      → rest o.now ≡ next ++ rest' after → Represents kept' after → AreMade tells next mid new → IsCommitted tells all kept' old new rest'
  committed-next all kept kept' old mid new rest rest' o next after splits represents made = record {
    now = after;
    represents = represents;
    made = o.made ++ next;
    first = made-join tells o.made next old mid new o.first made;
    is = o.is ∙ ap (λ (more : List Commit). o.made ++ more) splits ∙ sym (append_assoc o.made next (rest' after));
  }

  -- an error comes in the next part
  pub committed-up : (error : JournalError) (all : List Commit) (kept : Kept D) (old mid new : StoreState D) (rest : Serving → List Commit) (o : IsCommitted tells all kept old mid rest) (next later : List Commit)
      → rest o.now ≡ next ++ later → AreMadeUpTo tells error next mid new → AreMadeUpTo tells error all old new
  committed-up error all kept old mid new rest o next later splits up =
      subst (λ (commits : List Commit). AreMadeUpTo tells error commits old new) (sym (o.is ∙ ap (λ (more : List Commit). o.made ++ more) splits))
      (up-after tells error o.made (next ++ later) old mid new o.first (up-front tells error next later mid new up))

  -- nothing is left
  pub committed-all : (all : List Commit) (kept : Kept D) (old new : StoreState D) (rest : Serving → List Commit) (o : IsCommitted tells all kept old new rest) → rest o.now ≡ [] → AreMade tells all old new
  committed-all all kept old new rest o none =
      subst (λ (commits : List Commit). AreMade tells commits old new) (sym (o.is ∙ ap (λ (more : List Commit). o.made ++ more) none ∙ append-nil o.made)) o.first

-- ---- a break changes nothing

decided : (group : Option Group) (state : State) (party : StandingParty) (setting : Setting) → decision_in group state party setting Break ≡ Leaves
decided None state party setting = refl
decided (Some group) state party setting = refl

pub break-changes : (state : State) (party : StandingParty) (setting : Setting) → IsSound state → party_of party.link state.parties ≡ Some party → changes_by state party.link setting Break ≡ []
break-changes state party setting sound found =
    let heard = with_message Break party in
    let leaves : decision state party setting Break ≡ Leaves = decided (pending party.trace) state party setting in
    let stays : tables_of (answered state party setting Break).state ≡ tables_of state =
    ap (λ (one : Decision). tables_of (met (record state { parties = with_party heard state.parties }) heard setting Break one).state) leaves
    ∙ ap tables_of (broken_same state party.link party (Break ∷ party.trace) sound.linked found) ∙ breaks_keep state party.link sound in
    ap (λ (standing : Option StandingParty). changes_of_party state setting Break standing) found
    ∙ ap (λ (one : Decision). changes_where state party setting Break one) leaves
    ∙ no_change (tables_of state) state (answered state party setting Break).state sound refl stays
