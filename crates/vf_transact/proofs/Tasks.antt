-- A task from the store to its report.
use Rattle.std.proofs.Common.{◌≡◌, ◌⊎◌, inl, inr, ℕ, true, false, List, [], ◌∷◌, Option, None, Some, Result, Ok, Err, refl, sym, ap, subst, ◌∙◌}
use Rattle.vf_base.specs.Dial.{Call, Connections}
use Rattle.vf_disk.specs.Disk.{LeavesOnly}
use Rattle.vf_disk.proofs.Runs.{joined, leaves_octets, weaker}
use Rattle.vf_journal.specs.Image.{Refusal, refusal}
use Rattle.vf_journal.specs.declared.error.JournalError.{JournalError}
use Rattle.vf_journal.specs.declared.error.JournalError.TheVariants as stores
use Rattle.vf_store.specs.Answers.{IsOpenError}
use Rattle.vf_store.specs.Represented.{Represents}
use Rattle.vf_store.specs.StoreState.{IsRepresented, StoreState}
use Rattle.vf_tables.specs.declared.change.Change.{Change}
use Rattle.vf_tables.specs.declared.tables.Tables.{Tables}
use Rattle.vf_tables.specs.declared.task.Task.{Task}
use Rattle.vf_transact.specs.Connecting.{AreTried, IsDone}
use Rattle.vf_transact.specs.Starting.{TakenUp, connections_of, interrupts, taken_up, taken_up_of, taken_up_with}
use Rattle.vf_transact.specs.Transaction.{Answer, AreSame, AtFull, Connects, Counts, DoesTransact, EndsOn, FullFirst, IsLeft, IsNotOpened, IsRefused, KeepsStore, Outside, RefusesBy, RepresentsOneOf, Seen, TransactsBegun, TransactsFound, first_kept, has_disk_fault, is_disk, tables_kept}
use Rattle.vf_transact.specs.declared.starting.Begun.{Begun}
use Rattle.vf_transact.specs.declared.error.TransactError.{TransactError}
use Rattle.vf_transact.specs.declared.error.TransactError.TheVariants as errors
use Rattle.vf_transact.specs.declared.words.PlanWords.{PlanWords}
use Rattle.vf_transact.proofs.Trails.{IsAmongTables, keeps_then}

-- ---- where no task is begun, or none goes on to its first connection

abbrev Meant : Type 0
Meant = Result TakenUp TransactError

not_both : (meant : Meant) (begun : TakenUp) (error : TransactError) → meant ≡ Ok begun → meant ≡ Err error → ⊥
not_both meant begun error one other = cc

same_error : (meant : Meant) (one other : TransactError) → meant ≡ Err one → meant ≡ Err other → one ≡ other
same_error meant one other first second = cc

abbrev failed : TransactError → Result Begun TransactError
failed error = Err error

pub same_failure : (one other : TransactError) → failed one ≡ failed other → one ≡ other
same_failure one other is = cc

stops_begun : (ends : Tables → List Change → ℕ → Type 0) (words : PlanWords) (meant : Meant) (outside : Outside) (counts counts' : Counts) (tables : Tables) (error : TransactError) → outside.output' ≡ outside.output → AreSame counts counts'
    → (meant ≡ Err error) ⊎ (interrupts error ≡ true) → AtFull error (FullFirst ends meant tables) → TransactsBegun ends words meant [] outside counts counts' (first_kept meant tables) tables tables (Err error)
stops_begun ends words (Err other) outside counts counts' tables error nothing same (inl is) full =
    ((refl, nothing, same, refl), refl, inl (ap (λ (e : TransactError). Err e) (sym (same_error (Err other) other error refl is))), full)
stops_begun ends words (Err other) outside counts counts' tables error nothing same (inr is) full = ((refl, nothing, same, refl), refl, inr is, full)
stops_begun ends words (Ok begun) outside counts counts' tables error nothing same (inl is) full = absurd (not_both (Ok begun) begun error refl is)
stops_begun ends words (Ok begun) outside counts counts' tables error nothing same (inr is) full = inl ((refl, nothing, same, refl), refl, is, full)

not_opened : (image : List ℕ) (error : JournalError) → IsOpenError image error → IsNotOpened (Err (errors.Store error))
not_opened image (stores.NotAStore place found expected) is = tt
not_opened image stores.DiskFault is = tt
not_opened image stores.NoMemory is = tt
not_opened image (stores.Full end limit) is = absurd is

-- which task is taken up is told before all else
stops_found : (ends : Tables → List Change → ℕ → Type 0) (words : PlanWords) (input : List ℕ) (found : Result (Option Task) TransactError) (outside : Outside) (counts counts' : Counts) (tables : Tables) (error : TransactError) → outside.output' ≡ outside.output
    → AreSame counts counts' → ((other : TransactError) → found ≡ Err other → error ≡ other) → (taken_up_with words input found ≡ Err error) ⊎ (interrupts error ≡ true) → AtFull error (FullFirst ends (taken_up_with words input found) tables)
    → TransactsFound ends words input found [] outside counts counts' (first_kept (taken_up_with words input found) tables) tables tables (Err error)
stops_found ends words input (Err other) outside counts counts' tables error nothing same exact why full = ((refl, nothing, same, refl), refl, ap (λ (e : TransactError). Err e) (exact other refl))
stops_found ends words input (Ok found) outside counts counts' tables error nothing same exact why full = stops_begun ends words (taken_up_with words input (Ok found)) outside counts counts' tables error nothing same why full

begins_found : (ends : Tables → List Change → ℕ → Type 0) (words : PlanWords) (input : List ℕ) (found : Result (Option Task) TransactError) (begun : TakenUp) (calls : List Call) (outside : Outside) (counts counts' : Counts) (trail : List Tables) (tables tables' : Tables) (answer : Answer)
    → taken_up_with words input found ≡ Ok begun → TransactsBegun ends words (Ok begun) calls outside counts counts' trail tables tables' answer → TransactsFound ends words input found calls outside counts counts' trail tables tables' answer
begins_found ends words input (Err error) begun calls outside counts counts' trail tables tables' answer meant begins = absurd (not_both (taken_up_with words input (Err error)) begun error meant refl)
begins_found ends words input (Ok found) begun calls outside counts counts' trail tables tables' answer meant begins =
    subst (λ (m : Meant). TransactsBegun ends words m calls outside counts counts' trail tables tables' answer) (sym meant) begins

module _ {D : Type 0} (shown : D → Option (List ℕ)) (may_leave : D → List ℕ → Type 0) (moment : D → ℕ) (left_since : D → ℕ → List ℕ → Type 0) (words : PlanWords) (input : List ℕ) (before : Connections) (output : List ℕ) (counts : Counts) where
  abbrev Done : StoreState D → Seen → StoreState D → Answer → Type 0
  Done old seen new answer = IsDone shown may_leave moment left_since words input before output counts old seen new answer

  abbrev nothing_more : Outside
  nothing_more = record { output = output; output' = output }

  pub done_not : (old new : StoreState D) (seen : Seen) (error : TransactError) → seen.told ≡ Some before → seen.taken ≡ Some output → AreSame counts seen.counts
      → (taken_up_of words old.tables input ≡ Err error) ⊎ (interrupts error ≡ true)
      → AtFull error (FullFirst (EndsOn shown may_leave new.disk) (taken_up_of words old.tables input) old.tables)
      → ((other : TransactError) → taken_up words old.tables ≡ Err other → error ≡ other)
      → KeepsStore shown may_leave moment left_since old new (first_kept (taken_up_of words old.tables input) old.tables) old.tables (is_disk error) → Done old seen new (Err error)
  done_not old new seen error told taken same why full exact keeps = record {
    after = before;
    output' = output;
    calls = [];
    trail = first_kept (taken_up_of words old.tables input) old.tables;
    tables' = old.tables;
    told_is = told;
    taken_is = taken;
    called = refl;
    transacts = stops_found (EndsOn shown may_leave new.disk) words input (taken_up words old.tables) nothing_more counts seen.counts old.tables error refl same exact why full;
    keeps = keeps;
  }

  -- a task that was taken up and kept
  pub done_by : (old mid new : StoreState D) (seen : Seen) (begun : TakenUp) (answer : Answer) → taken_up_of words old.tables input ≡ Ok begun
      → KeepsStore shown may_leave moment left_since old mid (tables_kept begun old.tables ∷ []) (tables_kept begun old.tables) false
      → AreTried shown may_leave moment left_since begun (connections_of words) before output counts mid seen new answer → Done old seen new answer
  done_by old mid new seen begun answer meant kept tried =
      let tables = tables_kept begun old.tables in
      let same : mid.tables ≡ tables = (kept.stands refl).1 in
      let outside : Outside = record { output = output; output' = tried.output' } in
      let among : IsAmongTables mid.tables (old.tables ∷ tables ∷ []) = λ image is. inr (inl (subst (λ (t : Tables). Represents image t) same is)) in
      let connects : Connects (EndsOn shown may_leave new.disk) begun outside (connections_of words) (connections_of words) true counts seen.counts tried.calls tried.trail tables tried.tables' answer =
      subst (λ (t : Tables). Connects (EndsOn shown may_leave new.disk) begun outside (connections_of words) (connections_of words) true counts seen.counts tried.calls tried.trail t tried.tables' answer) same tried.connects in
      let begins : TransactsBegun (EndsOn shown may_leave new.disk) words (Ok begun) tried.calls outside counts seen.counts (tables ∷ tried.trail) old.tables tried.tables' answer = inr (tried.trail, (refl, connects)) in
      record {
        after = tried.after;
        output' = tried.output';
        calls = tried.calls;
        trail = tables ∷ tried.trail;
        tables' = tried.tables';
        told_is = tried.told_is;
        taken_is = tried.taken_is;
        called = tried.called;
        transacts = begins_found (EndsOn shown may_leave new.disk) words input (taken_up words old.tables) begun tried.calls outside counts seen.counts (tables ∷ tried.trail) old.tables tried.tables' answer meant begins;
        keeps = keeps_then shown may_leave moment left_since old mid new (tables ∷ []) tried.trail tables tried.tables' (has_disk_fault answer) kept among tried.keeps;
      }

  -- ---- over a disk

  left_by : (store : StoreState D) (tables : Tables) → IsRepresented shown may_leave store → store.tables ≡ tables → IsLeft shown may_leave store.disk tables
  left_by store tables stands same =
      let here : Represents stands.on.image tables = record { records = stands.records; holds = stands.on.holds; making = stands.making ∙ ap Some same } in (
        stands.on.image,
        (
          stands.on.shows,
          here,
          λ image left.
              let is : image ≡ stands.on.image = leaves_octets (shown store.disk) (may_leave store.disk) stands.on.image image stands.on.synced stands.on.shows left in
              subst (λ (i : List ℕ). Represents i tables) (sym is) here,
        ),
      )

  pub does_opened : (disk : D) (store new : StoreState D) (seen : Seen) (tables : Tables) (answer : Answer) → store.tables ≡ tables
      → (((image : List ℕ) → may_leave disk image → Represents image tables) → LeavesOnly moment left_since disk store.disk (λ image. Represents image tables))
      → Done store seen new answer → DoesTransact shown may_leave moment left_since words input disk new.disk before output counts seen tables answer
  does_opened disk store new seen tables answer same opens done =
      let outside : Outside = record { output = output; output' = done.output' } in
      record {
        after = done.after;
        output' = done.output';
        calls = done.calls;
        trail = done.trail;
        tables' = done.tables';
        told_is = done.told_is;
        taken_is = done.taken_is;
        called = done.called;
        transacts = inr (subst (λ (t : Tables). TransactsFound (EndsOn shown may_leave new.disk) words input (taken_up words t) done.calls outside counts seen.counts done.trail t done.tables' answer) same done.transacts);
        keeps = λ left. record {
          any_moment = joined moment left_since disk store.disk new.disk (λ image. Represents image tables) (RepresentsOneOf (store.tables ∷ done.trail)) (RepresentsOneOf (tables ∷ done.trail)) (opens left) done.keeps.any_moment
              (λ image is. inl is) (λ image is. subst (λ (t : Tables). RepresentsOneOf (t ∷ done.trail) image) same is);
          now = done.keeps.now;
          left = λ none. left_by new done.tables' (done.keeps.stands none).0 (done.keeps.stands none).1;
        };
      }

  -- a disk that isn't opened
  pub does_not : (disk disk' : D) (seen : Seen) (image : List ℕ) (tables : Tables) (error : JournalError) → IsOpenError image error → shown disk ≡ Some image → Represents image tables → shown disk' ≡ shown disk
      → ((left : List ℕ) → may_leave disk' left → may_leave disk left)
      → (((left : List ℕ) → may_leave disk left → Represents left tables) → LeavesOnly moment left_since disk disk' (λ left. Represents left tables))
      → seen.told ≡ Some before → seen.taken ≡ Some output → AreSame counts seen.counts
      → DoesTransact shown may_leave moment left_since words input disk disk' before output counts seen tables (Err (errors.Store error))
  does_not disk disk' seen image tables error answers shows represents same within opens told taken counted =
      record {
        after = before;
        output' = output;
        calls = [];
        trail = [];
        tables' = tables;
        told_is = told;
        taken_is = taken;
        called = refl;
        transacts = inl ((refl, refl, counted, refl), refl, not_opened image error answers);
        keeps = λ left. record {
          any_moment = weaker moment left_since disk disk' (λ i. Represents i tables) (RepresentsOneOf (tables ∷ [])) (opens left) (λ i is. inl is);
          now = λ i may. inl (left i (within i may));
          left = λ none. (image, (same ∙ shows, represents, λ i may. left i (within i may)));
        };
      }

-- ---- a disk without a store is refused

refuses_none : (refusal : Option Refusal) (answer : Answer) → refusal ≡ None → RefusesBy refusal answer
refuses_none refusal answer is = subst (λ (r : Option Refusal). RefusesBy r answer) (sym is) tt

refuses_fault : (refusal : Option Refusal) → RefusesBy refusal (Err (errors.Store stores.DiskFault))
refuses_fault None = tt
refuses_fault (Some refusal) = inr refl

pub not_refused : (image : List ℕ) (answer : Answer) → refusal image ≡ None → IsRefused image answer
not_refused image answer is = refuses_none (refusal image) answer is

pub refuses : (image : List ℕ) (error : JournalError) → IsOpenError image error → IsRefused image (Err (errors.Store error))
refuses image (stores.NotAStore place found expected) is =
    subst (λ (r : Option Refusal). RefusesBy r (Err (errors.Store (stores.NotAStore place found expected)))) (sym is) (inl refl)
refuses image stores.DiskFault is = refuses_fault (refusal image)
refuses image stores.NoMemory is = not_refused image (Err (errors.Store stores.NoMemory)) is
refuses image (stores.Full end limit) is = absurd is
