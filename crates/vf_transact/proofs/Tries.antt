-- Connections, one after another.
use Rattle.std.proofs.Common.{◌≡◌, inl, inr, ◌<◌, ◌≤◌, ◌+◌, ◌-◌, ℕ, suc, Bool, true, false, List, [], ◌∷◌, ◌++◌, min, Option, Some, Result, Ok, Err, refl, sym, ap, subst, ◌∙◌, append_assoc, arith, is_some}
use Rattle.std.specs.Prelude.{reverse}
use Rattle.std.proofs.lemmas.List.{append-nil, reverse-append}
use Rattle.vf_base.specs.Dial.{Call, Connections}
use Rattle.vf_initiator.specs.Assignments.{given_of}
use Rattle.vf_initiator.specs.Says.{elements_of}
use Rattle.vf_initiator.specs.declared.doing.Doing.{Doing}
use Rattle.vf_initiator.specs.declared.doing.Doing.TheVariants as doings
use Rattle.vf_initiator.specs.declared.doing.TaskError.{TaskError}
use Rattle.vf_initiator.specs.declared.plan.Plan.{Plan}
use Rattle.vf_store.specs.Represented.{Represents}
use Rattle.vf_store.specs.StoreState.{IsRepresented, StoreState}
use Rattle.vf_tables.specs.declared.change.Change.{Change}
use Rattle.vf_tables.specs.declared.tables.Tables.{Tables}
use Rattle.vf_tables.specs.declared.task.Task.{Task}
use Rattle.vf_tree.specs.FileTree.{octets_of_unit}
use Rattle.vf_transact.specs.Connecting.{AreTried, FailsBy, GoesOn, GoesThrough, IfBroke, IsTried, IsThrough, MayBegin, MayConnect, TriesOnce, kept_when, reported}
use Rattle.vf_transact.specs.Conversation.{Standing, doing_at, standing_first, talk_begun}
use Rattle.vf_transact.specs.Starting.{TakenUp, kept_in, octets_sent}
use Rattle.vf_transact.specs.Transaction.{Answer, AreSame, Concludes, Connects, Counts, EndsOn, HasCalls, HasFailed, IsLost, KeepsStore, NothingWritten, Outside, Seen, has_disk_fault, is_disk, kept_at, report_of}
use Rattle.vf_transact.specs.declared.connecting.Outcome.{Outcome}
use Rattle.vf_transact.specs.declared.connecting.Outcome.TheVariants.{Broke, Ended, Failed}
use Rattle.vf_transact.specs.declared.error.TransactError.{TransactError}
use Rattle.vf_transact.specs.declared.error.TransactError.TheVariants as errors
use Rattle.vf_transact.proofs.Kept.{BegunLaw, SameLaw, keeps_again}
use Rattle.vf_transact.proofs.Stores.{untouched}
use Rattle.vf_transact.proofs.Trails.{IsAmongTables, among_conversed, among_then, keeps_then}

-- ---- the task goes on with how the tables keep it

module _ {D : Type 0} (shown : D → Option (List ℕ)) (may_leave : D → List ℕ → Type 0) (moment : D → ℕ) (left_since : D → ℕ → List ℕ → Type 0) (plan : Plan) (kept : Option Task) where
  begins_again : SameLaw → BegunLaw → (new : StoreState D) → IsRepresented shown may_leave new → GoesOn (given_of plan kept) new.tables → MayBegin shown may_leave plan (kept_in plan.activity new.tables) new
  begins_again same begun new stands on = record { stands = stands; keeps = keeps_again same begun plan kept new.tables on }

  again_if : SameLaw → BegunLaw → (new : StoreState D) (result : Result Outcome TransactError) → (has_disk_fault result ≡ false → IsRepresented shown may_leave new) → IfBroke result (GoesOn (given_of plan kept) new.tables)
      → IfBroke result (MayBegin shown may_leave plan (kept_in plan.activity new.tables) new)
  again_if same begun new (Ok Broke) stands on = begins_again same begun new (stands refl) on
  again_if same begun new (Ok (Ended octets)) stands on = tt
  again_if same begun new (Ok (Failed error)) stands on = tt
  again_if same begun new (Err error) stands on = tt

  -- a connection that wasn't had
  pub tried_none : SameLaw → BegunLaw → (before : Connections) (output : List ℕ) (counts : Counts) (old : StoreState D) (seen : Seen) → ((disk : D) (image : List ℕ) → left_since disk (moment disk) image → may_leave disk image)
      → seen.told ≡ Some before → seen.taken ≡ Some output → IsLost counts seen.counts → HasFailed counts seen.counts → MayBegin shown may_leave plan kept old → IsTried shown may_leave moment left_since plan kept before output counts old seen old (Ok Broke)
  tried_none same begun before output counts old seen only_now told taken lost failed may = record {
    after = before;
    output' = output;
    calls = [];
    trail = [];
    tables' = old.tables;
    told_is = told;
    taken_is = taken;
    called = refl;
    tries = inl (refl, (refl, refl, lost, failed, refl));
    keeps = untouched shown may_leave moment left_since only_now old [] old.tables false may.stands refl;
    again = begins_again same begun old may.stands (record { talk = talk_begun plan kept; going = refl; keeps = may.keeps });
  }

  -- one before which the call was interrupted
  pub tried_not : (before : Connections) (output : List ℕ) (counts : Counts) (old : StoreState D) (seen : Seen) (error : TransactError) → ((disk : D) (image : List ℕ) → left_since disk (moment disk) image → may_leave disk image)
      → seen.told ≡ Some before → seen.taken ≡ Some output → AreSame counts seen.counts → MayBegin shown may_leave plan kept old → error ≡ errors.NoMemory → IsTried shown may_leave moment left_since plan kept before output counts old seen old (Err error)
  tried_not before output counts old seen error only_now told taken same may is = record {
    after = before;
    output' = output;
    calls = [];
    trail = [];
    tables' = old.tables;
    told_is = told;
    taken_is = taken;
    called = refl;
    tries = inl (refl, ((refl, refl, same, refl), is));
    keeps = untouched shown may_leave moment left_since only_now old [] old.tables (is_disk error) may.stands refl;
    again = tt;
  }

  -- one that was had
  pub tried : SameLaw → BegunLaw → (before : Connections) (output : List ℕ) (counts : Counts) (old new : StoreState D) (seen seen' : Seen) (result : Result Outcome TransactError)
      → IsThrough shown may_leave moment left_since plan kept before.calls output counts old seen new result → seen'.told ≡ seen.told → seen'.taken ≡ seen.taken → seen'.counts ≡ seen.counts
      → IsTried shown may_leave moment left_since plan kept before output counts old seen' new result
  tried same begun before output counts old new seen seen' result through told taken count =
      let call : Call = record { said = through.said; heard = through.heard; left = through.on.left } in
      record {
        after = through.on.now;
        output' = through.output';
        calls = call ∷ [];
        trail = through.trail;
        tables' = through.tables';
        told_is = told ∙ through.on.told_is;
        taken_is = taken ∙ through.taken_is;
        called = through.on.calls_are;
        tries = inr (call, (refl, subst (λ (n : Counts). GoesThrough (EndsOn shown may_leave new.disk) plan kept call (record { output = output; output' = through.output' }) counts n through.trail old.tables through.tables' result) (sym count) through.goes));
        keeps = through.keeps;
        again = again_if same begun new result (λ none. (through.keeps.stands none).0) through.again;
      }

-- ---- what is owed of one connection, within the call

abbrev pub answer_with : (octets : ℕ) → (resumed : Bool) → Answer
answer_with octets resumed = Ok (record { octets = octets; resumed = resumed })

sums : (one other most : ℕ) → min (min one most + min other most) most ≡ min (one + other) most
sums one other most = omega arith

module _ (ends : Tables → List Change → ℕ → Type 0) (begun : TakenUp) (outside : Outside) (all left : ℕ) (is_first : Bool) (counts counts' : Counts) where
  -- it was interrupted
  pub connects_not : (calls : List Call) (trail : List Tables) (tables tables' : Tables) (error : TransactError) → TriesOnce ends begun.plan (kept_at begun is_first tables) calls outside counts counts' trail tables tables' (Err error)
      → Connects ends begun outside all (suc left) is_first counts counts' calls trail tables tables' (Err error)
  connects_not calls trail tables tables' error (inl not) = inr (inl (not.1.0, not.0, ap (λ (e : TransactError). Err e) not.1.1))
  connects_not calls trail tables tables' error (inr had) = inr (inr (inr (inr (had.0, (had.1.0, had.1.1.0, (had.1.1.1, had.1.1.2))))))

  -- the task isn't going on
  fails_by : (heard : List ℕ) (at : Standing) (doing : Doing) (error : TaskError) → FailsBy heard doing error → NothingWritten outside → Concludes begun heard at doing (Err (errors.Task error)) outside
  fails_by heard at (doings.Failed why) error is nothing = (ap (λ (e : TaskError). Err (errors.Task e)) is, nothing)
  fails_by heard at doings.Ended error is nothing = absurd is
  fails_by heard at doings.Going error is nothing = (ap (λ (e : TaskError). Err (errors.Task e)) is.0, is.1, nothing)

  pub connects_failed : (calls : List Call) (trail : List Tables) (tables tables' : Tables) (error : TaskError) → TriesOnce ends begun.plan (kept_at begun is_first tables) calls outside counts counts' trail tables tables' (Ok (Failed error))
      → Connects ends begun outside all (suc left) is_first counts counts' calls trail tables tables' (Err (errors.Task error))
  connects_failed calls trail tables tables' error (inl not) = absurd not.1
  connects_failed calls trail tables tables' error (inr had) =
      let comes = had.1.1 in
      inr (inr (inr (inl (
        had.0,
        comes.at,
        (
          had.1.0,
          comes.converses,
          comes.tables_are,
          fails_by had.0.heard comes.at (doing_at comes.at) error comes.leaves.0 comes.leaves.1,
          comes.leaves.2,
        ),
      ))))

  pub connects_ended : (calls : List Call) (trail : List Tables) (tables tables' : Tables) (octets : ℕ) → TriesOnce ends begun.plan (kept_at begun is_first tables) calls outside counts counts' trail tables tables' (Ok (Ended octets))
      → Connects ends begun outside all (suc left) is_first counts counts' calls trail tables tables' (reported begun (Ok octets))
  connects_ended calls trail tables tables' octets (inl not) = absurd not.1
  connects_ended calls trail tables tables' octets (inr had) =
      let comes = had.1.1 in
      let received = octets_of_unit (elements_of comes.at.talk.conduct) in
      let count : min (min (octets_sent begun) 18446744073709551615 + octets) 18446744073709551615 ≡ min (octets_sent begun + received) 18446744073709551615 =
      ap (λ (n : ℕ). min (min (octets_sent begun) 18446744073709551615 + n) 18446744073709551615) comes.leaves.1 ∙ sums (octets_sent begun) received 18446744073709551615 in
      let report : reported begun (Ok octets) ≡ Ok (report_of begun comes.at) = ap (λ (n : ℕ). answer_with n (is_some begun.kept)) count in
      inr (inr (inr (inl (
        had.0,
        comes.at,
        (
          had.1.0,
          comes.converses,
          comes.tables_are,
          subst (λ (d : Doing). Concludes begun had.0.heard comes.at d (reported begun (Ok octets)) outside) (sym comes.leaves.0) (report, comes.leaves.2),
          comes.leaves.3,
        ),
      ))))

  -- It was lost or not had, and the next one is tried. (What is written then is told only once the call ends.)
  pub connects_on : (other : Tables → List Change → ℕ → Type 0) (last : Counts) (output mid-output : List ℕ) (calls later : List Call) (trail others : List Tables) (tables middle tables' : Tables) (answer : Answer)
      → TriesOnce other begun.plan (kept_at begun is_first tables) calls (record { output = output; output' = mid-output }) counts counts' trail tables middle (Ok Broke)
      → Connects ends begun outside all left false counts' last later others middle tables' answer → Connects ends begun outside all (suc left) is_first counts last (calls ++ later) (trail ++ others) tables tables' answer
  connects_on other last output mid-output calls later trail others tables middle tables' answer (inl not) next =
      let same : Connects ends begun outside all left false counts' last (calls ++ later) (trail ++ others) tables tables' answer =
      subst (λ (l : List Call). Connects ends begun outside all left false counts' last (l ++ later) (trail ++ others) tables tables' answer) (sym not.1.0)
      (subst (λ (l : List Tables). Connects ends begun outside all left false counts' last later (l ++ others) tables tables' answer) (sym not.0)
      (subst (λ (t : Tables). Connects ends begun outside all left false counts' last later others t tables' answer) not.1.4 next)) in
      inl (counts', (not.1.2, not.1.3, same))
  connects_on other last output mid-output calls later trail others tables middle tables' answer (inr had) next =
      let comes = had.1.1 in
      inr (inr (inl (
        had.0,
        later,
        trail,
        others,
        comes.at,
        counts',
        (
          ap (λ (l : List Call). l ++ later) had.1.0,
          comes.converses,
          comes.leaves.0,
          comes.leaves.2,
          comes.leaves.3,
          refl,
          subst (λ (t : Tables). Connects ends begun outside all left false counts' last later others t tables' answer) comes.tables_are next,
        ),
      )))

-- ---- all connections of a call, one after another

-- Those so far were lost or not had, and whatever the others come to, all of them come to it.
pub record IsConnecting {D : Type 0} (shown : D → Option (List ℕ)) (may_leave : D → List ℕ → Type 0) (moment : D → ℕ) (left_since : D → ℕ → List ℕ → Type 0) (begun : TakenUp) (before : Connections) (output : List ℕ) (counts : Counts) (all tried : ℕ) (goes_on : Bool) (old : StoreState D) (seen : Seen) (new : StoreState D) : Type 0 where
  pub after : Connections
  pub calls : List Call
  pub trail : List Tables
  pub is_first : Bool
  pub told_is : seen.told ≡ Some after
  pub taken_is : seen.taken ≡ Some output
  pub called : HasCalls before calls after
  pub keeps : KeepsStore shown may_leave moment left_since old new trail new.tables false
  pub among : IsAmongTables new.tables (old.tables ∷ trail)
  pub kept_is : kept_at begun is_first new.tables ≡ kept_when goes_on begun.plan.activity new.tables
  pub begins : MayBegin shown may_leave begun.plan (kept_when goes_on begun.plan.activity new.tables) new
  pub on : (disk : D) (output' : List ℕ) (last : Counts) (later : List Call) (others : List Tables) (tables' : Tables) (answer : Answer)
      → Connects (EndsOn shown may_leave disk) begun (record { output = output; output' = output' }) all (all - tried) is_first seen.counts last later others new.tables tables' answer
      → Connects (EndsOn shown may_leave disk) begun (record { output = output; output' = output' }) all all true counts last (calls ++ later) (trail ++ others) old.tables tables' answer

-- calls after others
called_then : (before middle after : Connections) (first later : List Call) → HasCalls before first middle → HasCalls middle later after → HasCalls before (first ++ later) after
called_then before middle after first later one other =
    other ∙ ap (λ (l : List Call). reverse later ++ l) one ∙ sym (append_assoc (reverse later) (reverse first) before.calls) ∙ ap (λ (l : List Call). l ++ before.calls) (sym (reverse-append first later))

left_one : (all tried : ℕ) → tried < all → all - tried ≡ suc (all - (tried + 1))
left_one all tried less = omega (arith, less)

module _ {D : Type 0} (shown : D → Option (List ℕ)) (may_leave : D → List ℕ → Type 0) (moment : D → ℕ) (left_since : D → ℕ → List ℕ → Type 0) (begun : TakenUp) (before : Connections) (output : List ℕ) (counts : Counts) (all : ℕ) (old : StoreState D) where
  abbrev Connecting : (tried : ℕ) → (goes_on : Bool) → Seen → StoreState D → Type 0
  Connecting tried goes_on seen new = IsConnecting shown may_leave moment left_since begun before output counts all tried goes_on old seen new

  abbrev Tried : Seen → StoreState D → Answer → Type 0
  Tried seen new answer = AreTried shown may_leave moment left_since begun all before output counts old seen new answer

  abbrev written_so : (output' : List ℕ) → Outside
  written_so output' = record { output = output; output' = output' }

  pub connecting : (seen : Seen) (is_kept : Bool) (plan : Plan) (kind : ℕ) → ((disk : D) (image : List ℕ) → left_since disk (moment disk) image → may_leave disk image)
      → seen.counts ≡ counts → MayConnect shown may_leave begun plan is_kept kind before output seen old → Connecting 0 is_kept seen old
  connecting seen is_kept plan kind only_now count may = record {
    after = before;
    calls = [];
    trail = [];
    is_first = true;
    told_is = may.told_is;
    taken_is = may.taken_is;
    called = refl;
    keeps = untouched shown may_leave moment left_since only_now old [] old.tables false may.begins.stands refl;
    among = λ image is. inl is;
    kept_is = may.kept_is;
    begins = subst (λ (k : Option Task). MayBegin shown may_leave begun.plan k old) may.kept_is may.begins;
    on = λ disk output' last later others tables' answer connects.
        let less : all - 0 ≡ all = omega arith in
        subst (λ (c : Counts). Connects (EndsOn shown may_leave disk) begun (written_so output') all all true c last later others old.tables tables' answer) count
        (subst (λ (n : ℕ). Connects (EndsOn shown may_leave disk) begun (written_so output') all n true seen.counts last later others old.tables tables' answer) less connects);
  }

  -- before the first connection memory was wanting
  pub interrupted_first : (seen : Seen) (is_kept : Bool) (plan : Plan) (kind : ℕ) (error : TransactError) → ((disk : D) (image : List ℕ) → left_since disk (moment disk) image → may_leave disk image) → 1 ≤ all
      → AreSame counts seen.counts → error ≡ errors.NoMemory → MayConnect shown may_leave begun plan is_kept kind before output seen old → Tried seen old (Err error)
  interrupted_first seen is_kept plan kind error only_now some same is may =
      let one_left : all ≡ suc (all - 1) = omega (arith, some) in
      record {
        after = before;
        output' = output;
        calls = [];
        trail = [];
        tables' = old.tables;
        told_is = may.told_is;
        taken_is = may.taken_is;
        called = refl;
        connects = subst (λ (n : ℕ). Connects (EndsOn shown may_leave old.disk) begun (written_so output) all n true counts seen.counts [] [] old.tables old.tables (Err error)) (sym one_left) (inr (inl ((refl, refl, same, refl), refl, ap (λ (e : TransactError). Err e) is)));
        keeps = untouched shown may_leave moment left_since only_now old [] old.tables (is_disk error) may.begins.stands refl;
      }

  -- what one more connection comes to, all of them come to
  pub connecting_ends : (tried : ℕ) (goes_on : Bool) (seen seen' : Seen) (mid new : StoreState D) (c : Connecting tried goes_on seen mid) (result : Result Outcome TransactError) (answer : Answer)
      → (one : IsTried shown may_leave moment left_since begun.plan (kept_when goes_on begun.plan.activity mid.tables) c.after output seen.counts mid seen' new result)
      → Connects (EndsOn shown may_leave new.disk) begun (written_so one.output') all (all - tried) c.is_first seen.counts seen'.counts one.calls one.trail mid.tables one.tables' answer → has_disk_fault answer ≡ has_disk_fault result
      → Tried seen' new answer
  connecting_ends tried goes_on seen seen' mid new c result answer one connects same = record {
    after = one.after;
    output' = one.output';
    calls = c.calls ++ one.calls;
    trail = c.trail ++ one.trail;
    tables' = one.tables';
    told_is = one.told_is;
    taken_is = one.taken_is;
    called = called_then before c.after one.after c.calls one.calls c.called one.called;
    connects = c.on new.disk one.output' seen'.counts one.calls one.trail one.tables' answer connects;
    keeps = subst (λ (b : Bool). KeepsStore shown may_leave moment left_since old new (c.trail ++ one.trail) one.tables' b) (sym same)
        (keeps_then shown may_leave moment left_since old mid new c.trail one.trail mid.tables one.tables' (has_disk_fault result) c.keeps c.among one.keeps);
  }

  -- of the connection that is tried
  tries_at : (tried : ℕ) (goes_on : Bool) (seen : Seen) (mid : StoreState D) (c : Connecting tried goes_on seen mid) (ends : Tables → List Change → ℕ → Type 0) (calls : List Call) (outside : Outside) (counts' : Counts) (trail : List Tables) (tables' : Tables) (result : Result Outcome TransactError)
      → TriesOnce ends begun.plan (kept_when goes_on begun.plan.activity mid.tables) calls outside seen.counts counts' trail mid.tables tables' result
      → TriesOnce ends begun.plan (kept_at begun c.is_first mid.tables) calls outside seen.counts counts' trail mid.tables tables' result
  tries_at tried goes_on seen mid c ends calls outside counts' trail tables' result tries =
      subst (λ (k : Option Task). TriesOnce ends begun.plan k calls outside seen.counts counts' trail mid.tables tables' result) (sym c.kept_is) tries

  pub ends_interrupted : (tried : ℕ) (goes_on : Bool) (seen seen' : Seen) (mid new : StoreState D) (c : Connecting tried goes_on seen mid) (error : TransactError) → tried < all
      → IsTried shown may_leave moment left_since begun.plan (kept_when goes_on begun.plan.activity mid.tables) c.after output seen.counts mid seen' new (Err error) → Tried seen' new (Err error)
  ends_interrupted tried goes_on seen seen' mid new c error less one =
      let tries = tries_at tried goes_on seen mid c (EndsOn shown may_leave new.disk) one.calls (written_so one.output') seen'.counts one.trail one.tables' (Err error) one.tries in
      connecting_ends tried goes_on seen seen' mid new c (Err error) (Err error) one
      (subst (λ (n : ℕ). Connects (EndsOn shown may_leave new.disk) begun (written_so one.output') all n c.is_first seen.counts seen'.counts one.calls one.trail mid.tables one.tables' (Err error)) (sym (left_one all tried less))
      (connects_not (EndsOn shown may_leave new.disk) begun (written_so one.output') all (all - (tried + 1)) c.is_first seen.counts seen'.counts one.calls one.trail mid.tables one.tables' error tries)) refl

  pub ends_failed : (tried : ℕ) (goes_on : Bool) (seen seen' : Seen) (mid new : StoreState D) (c : Connecting tried goes_on seen mid) (error : TaskError) → tried < all
      → IsTried shown may_leave moment left_since begun.plan (kept_when goes_on begun.plan.activity mid.tables) c.after output seen.counts mid seen' new (Ok (Failed error)) → Tried seen' new (Err (errors.Task error))
  ends_failed tried goes_on seen seen' mid new c error less one =
      let tries = tries_at tried goes_on seen mid c (EndsOn shown may_leave new.disk) one.calls (written_so one.output') seen'.counts one.trail one.tables' (Ok (Failed error)) one.tries in
      connecting_ends tried goes_on seen seen' mid new c (Ok (Failed error)) (Err (errors.Task error)) one
      (subst (λ (n : ℕ). Connects (EndsOn shown may_leave new.disk) begun (written_so one.output') all n c.is_first seen.counts seen'.counts one.calls one.trail mid.tables one.tables' (Err (errors.Task error))) (sym (left_one all tried less))
      (connects_failed (EndsOn shown may_leave new.disk) begun (written_so one.output') all (all - (tried + 1)) c.is_first seen.counts seen'.counts one.calls one.trail mid.tables one.tables' error tries)) refl

  pub ends_well : (tried : ℕ) (goes_on : Bool) (seen seen' : Seen) (mid new : StoreState D) (c : Connecting tried goes_on seen mid) (octets : ℕ) → tried < all
      → IsTried shown may_leave moment left_since begun.plan (kept_when goes_on begun.plan.activity mid.tables) c.after output seen.counts mid seen' new (Ok (Ended octets)) → Tried seen' new (reported begun (Ok octets))
  ends_well tried goes_on seen seen' mid new c octets less one =
      let tries = tries_at tried goes_on seen mid c (EndsOn shown may_leave new.disk) one.calls (written_so one.output') seen'.counts one.trail one.tables' (Ok (Ended octets)) one.tries in
      connecting_ends tried goes_on seen seen' mid new c (Ok (Ended octets)) (reported begun (Ok octets)) one
      (subst (λ (n : ℕ). Connects (EndsOn shown may_leave new.disk) begun (written_so one.output') all n c.is_first seen.counts seen'.counts one.calls one.trail mid.tables one.tables' (reported begun (Ok octets))) (sym (left_one all tried less))
      (connects_ended (EndsOn shown may_leave new.disk) begun (written_so one.output') all (all - (tried + 1)) c.is_first seen.counts seen'.counts one.calls one.trail mid.tables one.tables' octets tries)) refl

  -- where no connection is left, all were lost or not had
  pub connecting_none : (tried : ℕ) (goes_on : Bool) (seen : Seen) (new : StoreState D) → all ≤ tried → Connecting tried goes_on seen new → Tried seen new (Err (errors.Broken all))
  connecting_none tried goes_on seen new none c =
      let zero-left : all - tried ≡ 0 = omega (arith, none) in
      let connects = c.on new.disk output seen.counts [] [] new.tables (Err (errors.Broken all))
      (subst (λ (n : ℕ). Connects (EndsOn shown may_leave new.disk) begun (written_so output) all n c.is_first seen.counts seen.counts [] [] new.tables new.tables (Err (errors.Broken all))) (sym zero-left) ((refl, refl, (refl, refl), refl), refl, refl)) in
      record {
        after = c.after;
        output' = output;
        calls = c.calls;
        trail = c.trail;
        tables' = new.tables;
        told_is = c.told_is;
        taken_is = c.taken_is;
        called = c.called;
        connects = subst (λ (l : List Call). Connects (EndsOn shown may_leave new.disk) begun (written_so output) all all true counts seen.counts l c.trail old.tables new.tables (Err (errors.Broken all))) (append-nil c.calls)
            (subst (λ (l : List Tables). Connects (EndsOn shown may_leave new.disk) begun (written_so output) all all true counts seen.counts (c.calls ++ []) l old.tables new.tables (Err (errors.Broken all))) (append-nil c.trail) connects);
        keeps = c.keeps;
      }

  -- what the tables keep after a connection is one of what they kept
  among_one : (ends : Tables → List Change → ℕ → Type 0) (plan : Plan) (kept : Option Task) (calls : List Call) (outside : Outside) (before-counts after-counts : Counts) (trail : List Tables) (tables tables' : Tables) → TriesOnce ends plan kept calls outside before-counts after-counts trail tables tables' (Ok Broke)
      → IsAmongTables tables' (tables ∷ trail)
  among_one ends plan kept calls outside before-counts after-counts trail tables tables' (inl not) = λ image is. inl (subst (λ (t : Tables). Represents image t) not.1.4 is)
  among_one ends plan kept calls outside before-counts after-counts trail tables tables' (inr had) = λ image is.
      let comes = had.1.1 in
      among_conversed plan kept had.0.heard had.0.said (HasFailed before-counts after-counts) trail (standing_first plan kept tables) comes.at comes.converses image (subst (λ (t : Tables). Represents image t) comes.tables_are is)

  nothing_by : (ends : Tables → List Change → ℕ → Type 0) (plan : Plan) (kept : Option Task) (calls : List Call) (outside : Outside) (before-counts after-counts : Counts) (trail : List Tables) (tables tables' : Tables) → TriesOnce ends plan kept calls outside before-counts after-counts trail tables tables' (Ok Broke)
      → NothingWritten outside
  nothing_by ends plan kept calls outside before-counts after-counts trail tables tables' (inl not) = not.1.1
  nothing_by ends plan kept calls outside before-counts after-counts trail tables tables' (inr had) = had.1.1.leaves.1

  pub connecting_more : (tried : ℕ) (goes_on : Bool) (seen seen' : Seen) (mid new : StoreState D) (c : Connecting tried goes_on seen mid) → tried < all
      → IsTried shown may_leave moment left_since begun.plan (kept_when goes_on begun.plan.activity mid.tables) c.after output seen.counts mid seen' new (Ok Broke) → Connecting (tried + 1) true seen' new
  connecting_more tried goes_on seen seen' mid new c less one =
      let kept = kept_when goes_on begun.plan.activity mid.tables in
      let outside = written_so one.output' in
      let tables_are : new.tables ≡ one.tables' = (one.keeps.stands refl).1 in
      let nothing : one.output' ≡ output = nothing_by (EndsOn shown may_leave new.disk) begun.plan kept one.calls outside seen.counts seen'.counts one.trail mid.tables one.tables' one.tries in
      let among : IsAmongTables new.tables (mid.tables ∷ one.trail) =
      subst (λ (t : Tables). IsAmongTables t (mid.tables ∷ one.trail)) (sym tables_are) (among_one (EndsOn shown may_leave new.disk) begun.plan kept one.calls outside seen.counts seen'.counts one.trail mid.tables one.tables' one.tries) in
      let tries = tries_at tried goes_on seen mid c (EndsOn shown may_leave new.disk) one.calls outside seen'.counts one.trail one.tables' (Ok Broke) one.tries in
      record {
        after = one.after;
        calls = c.calls ++ one.calls;
        trail = c.trail ++ one.trail;
        is_first = false;
        told_is = one.told_is;
        taken_is = one.taken_is ∙ ap Some nothing;
        called = called_then before c.after one.after c.calls one.calls c.called one.called;
        keeps = keeps_then shown may_leave moment left_since old mid new c.trail one.trail mid.tables new.tables false c.keeps c.among
            (subst (λ (t : Tables). KeepsStore shown may_leave moment left_since mid new one.trail t false) (sym tables_are) one.keeps);
        among = among_then old.tables c.trail mid.tables one.trail new.tables c.among among;
        kept_is = refl;
        begins = one.again;
        on = λ disk output' last later others tables' answer connects.
            subst (λ (l : List Call). Connects (EndsOn shown may_leave disk) begun (written_so output') all all true counts last l ((c.trail ++ one.trail) ++ others) old.tables tables' answer) (sym (append_assoc c.calls one.calls later))
            (subst (λ (l : List Tables). Connects (EndsOn shown may_leave disk) begun (written_so output') all all true counts last (c.calls ++ (one.calls ++ later)) l old.tables tables' answer) (sym (append_assoc c.trail one.trail others))
            (c.on disk output' last (one.calls ++ later) (one.trail ++ others) tables' answer
            (subst (λ (n : ℕ). Connects (EndsOn shown may_leave disk) begun (written_so output') all n c.is_first seen.counts last (one.calls ++ later) (one.trail ++ others) mid.tables tables' answer) (sym (left_one all tried less))
            (connects_on (EndsOn shown may_leave disk) begun (written_so output') all (all - (tried + 1)) c.is_first seen.counts seen'.counts (EndsOn shown may_leave new.disk) last output one.output' one.calls later one.trail others mid.tables one.tables' tables' answer tries
            (subst (λ (t : Tables). Connects (EndsOn shown may_leave disk) begun (written_so output') all (all - (tried + 1)) false seen'.counts last later others t tables' answer) tables_are connects)))));
      }
