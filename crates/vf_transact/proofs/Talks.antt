-- A connection, piece by piece, as the code takes it.
use Rattle.std.specs.Prelude.{IfErr, if◌then◌else◌}
use Rattle.std.proofs.Common.{◌≡◌, inl, inr, ◌<◌, ◌≤◌, ◌+◌, ℕ, Bool, true, false, List, [], ◌∷◌, ◌++◌, length, min, Option, None, Some, Result, Ok, Err, refl, sym, ap, subst, ◌∙◌, append_assoc, length-append, arith, is_some}
use Rattle.std.proofs.lemmas.Grind.{flat_map-append}
use Rattle.std.proofs.lemmas.List.{append-nil}
use Rattle.vf_base.specs.Dial.{Call, Connections}
use Rattle.vf_base.specs.Faults.{HasRisen, counted}
use Rattle.vf_base.specs.declared.element.Element.{Element}
use Rattle.vf_initiator.specs.Assignments.{given_of, kind_in}
use Rattle.vf_initiator.specs.Output.{written}
use Rattle.vf_initiator.specs.Represents.{Owes, Represents as IsInitiatorOf, resumed}
use Rattle.vf_initiator.specs.Says.{doing_of, elements_of}
use Rattle.vf_initiator.specs.Talking.{Takes, Talk}
use Rattle.vf_initiator.specs.declared.doing.Doing.{Doing}
use Rattle.vf_initiator.specs.declared.doing.Doing.TheVariants as doings
use Rattle.vf_initiator.specs.declared.doing.TaskError.{TaskError}
use Rattle.vf_initiator.specs.declared.doing.TaskError.TheVariants.{Budget}
use Rattle.vf_initiator.specs.declared.given.Given.{Given}
use Rattle.vf_initiator.specs.declared.initiator.Initiator.{Initiator}
use Rattle.vf_initiator.specs.declared.plan.Plan.{Plan}
use Rattle.vf_journal.specs.declared.error.JournalError.TheVariants as stores
use Rattle.vf_session.specs.declared.units.TokenSide.TheVariants.{Initiator as Calls}
use Rattle.vf_stack.specs.Pieces.{TellOnce}
use Rattle.vf_store.specs.StoreState.{StoreState}
use Rattle.vf_tables.specs.declared.tables.Tables.{Tables}
use Rattle.vf_tables.specs.declared.task.Task.{Task}
use Rattle.vf_tpkt.specs.Tpdu.{packet, request}
use Rattle.vf_tree.specs.FileTree.{octets_of_unit}
use Rattle.vf_transact.specs.Connecting.{FailsBy, HearsOn, IsBegun, IsOn, IsThrough, KeepsAs, KeepsPiece, LosesIn, LosesPiece, OwesAfter, SaysOn, StandsOr, TakesIn, Writes, WritesPart, is_no_failure}
use Rattle.vf_transact.specs.Conversation.{AnswersAll, AnswersLastInPart, Converses, IsFront, Standing, TakesOne, TellsOnce, standing_first, tables_at, talk_begun}
use Rattle.vf_transact.specs.Transaction.{Counts, EndsOn, HasFailed, InterruptsTaking, IsLost, KeepsStore, MayBeLost, Seen, StoreByCause, WritesFront, WritesWhole, interrupts_connection, is_disk, written_at}
use Rattle.vf_transact.specs.declared.connecting.Outcome.{Outcome}
use Rattle.vf_transact.specs.declared.connecting.Outcome.TheVariants.{Broke, Ended, Failed}
use Rattle.vf_transact.specs.declared.error.TransactError.{TransactError}
use Rattle.vf_transact.specs.declared.error.TransactError.TheVariants as errors
use Rattle.vf_transact.proofs.Stores.{untouched}
use Rattle.vf_transact.proofs.Trails.{keeps_then, last_among, more_pieces}

-- ---- errors

pub no_failure : (error : TransactError) (limit disk disk' : ℕ) → is_no_failure error ≡ true → StoreByCause {T = Doing} limit disk disk' (Err error) → interrupts_connection error ≡ true
no_failure (errors.Task error) limit disk disk' is cause = is
no_failure (errors.Broken connections) limit disk disk' is cause = is
no_failure errors.InUse limit disk disk' is cause = is
no_failure errors.InputFault limit disk disk' is cause = is
no_failure errors.OutputFault limit disk disk' is cause = refl
no_failure (errors.Store (stores.NotAStore at found expected)) limit disk disk' is cause = absurd cause
no_failure (errors.Store (stores.Full length bound)) limit disk disk' is cause = refl
no_failure (errors.Store stores.DiskFault) limit disk disk' is cause = refl
no_failure (errors.Store stores.NoMemory) limit disk disk' is cause = refl
no_failure errors.NoMemory limit disk disk' is cause = refl

-- ---- a connection on which pieces were heard and answered, while the task goes on

pub record IsTalking {D : Type 0} (shown : D → Option (List ℕ)) (may_leave : D → List ℕ → Type 0) (moment : D → ℕ) (left_since : D → ℕ → List ℕ → Type 0) (plan : Plan) (kept : Option Task) (before : List Call) (output : List ℕ) (kind : ℕ) (old : StoreState D) (reads : ℕ) (i : Initiator) (told : Option Connections) (taken : Option (List ℕ)) (new : StoreState D) : Type 0 where
  pub said : List ℕ
  pub heard : List ℕ
  pub trail : List Tables
  pub talk : Talk
  pub on : IsOn before said heard told
  pub answered : AnswersAll plan kept heard said trail (standing_first plan kept old.tables) (record { talk = talk; tables = new.tables })
  pub given_is : i.given ≡ given_of plan kept
  pub represents : IsInitiatorOf i talk
  pub going : doing_of talk.conduct ≡ doings.Going
  pub kind_is : kind ≡ kind_in plan.task
  pub taken_is : taken ≡ Some output
  pub keeps : KeepsStore shown may_leave moment left_since old new trail new.tables false
  pub stays : KeepsAs (given_of plan kept) talk new.tables
  pub read : reads ≤ length heard

-- all was said, or a front of the last octets, where the connection was lost
abbrev pub Spoken : Plan → Option Task → (heard said : List ℕ) → (stands : Bool) → (trail : List Tables) → (at at' : Standing) → Type 0
Spoken plan kept heard said true trail at at' = AnswersAll plan kept heard said trail at at'
Spoken plan kept heard said false trail at at' = AnswersLastInPart plan kept heard said trail at at'

-- A piece more was taken, and its answer was said, or a front of it.
pub record IsTaken {D : Type 0} (shown : D → Option (List ℕ)) (may_leave : D → List ℕ → Type 0) (moment : D → ℕ) (left_since : D → ℕ → List ℕ → Type 0) (plan : Plan) (kept : Option Task) (before : List Call) (output : List ℕ) (kind : ℕ) (old : StoreState D) (reads : ℕ) (i : Initiator) (told : Option Connections) (taken : Option (List ℕ)) (new : StoreState D) (doing : Doing) (stands : Bool) : Type 0 where
  pub heard : List ℕ
  pub said : List ℕ
  pub trail : List Tables
  pub talk : Talk
  pub on : IsOn before said heard told
  pub spoken : Spoken plan kept heard said stands trail (standing_first plan kept old.tables) (record { talk = talk; tables = new.tables })
  pub given_is : i.given ≡ given_of plan kept
  pub later : List ℕ
  pub owes : Owes i talk later
  pub represents : stands ≡ true → IsInitiatorOf i talk
  pub doing_is : doing ≡ doing_of talk.conduct
  pub kind_is : kind ≡ kind_in plan.task
  pub writes : Writes kind (elements_of talk.conduct) doing (Some output) taken
  pub keeps : KeepsStore shown may_leave moment left_since old new trail new.tables false
  pub stays : doing ≡ doings.Going → KeepsAs (given_of plan kept) talk new.tables
  pub read : reads ≤ length heard

-- ---- lemmas on what is said, and on what is written

converses_by : (plan : Plan) (kept : Option Task) (heard said : List ℕ) (stands : Bool) (failed : Type 0) (trail : List Tables) (at at' : Standing) → Spoken plan kept heard said stands trail at at' → (stands ≡ false → failed)
    → Converses plan kept heard said failed trail at at'
converses_by plan kept heard said true failed trail at at' spoken fails = inl spoken
converses_by plan kept heard said false failed trail at at' spoken fails = inr (fails refl, inr spoken)

-- what was written of a piece that wasn't answered
part_written : (plan : Plan) (at : Standing) (doing : Doing) (output : List ℕ) (taken : Option (List ℕ)) → WritesPart (kind_in plan.task) (elements_of at.talk.conduct) doing (Some output) taken
    → (output' : List ℕ) × ((taken ≡ Some output') × WritesFront plan at doing (record { output = output; output' = output' }))
part_written plan at doings.Ended output taken part = (output ++ part.0, (part.3, (part.0, part.1, part.2, refl)))
part_written plan at doings.Going output taken part = (output, (part, refl))
part_written plan at (doings.Failed error) output taken part = (output, (part, refl))

pub if_err : {T E : Type 0} (r : Result T E) (P : E → Type 0) (error : E) → r ≡ Err error → P error → IfErr r P
if_err {T = T} {E = E} r P error is holds = subst (λ (x : Result T E). IfErr x P) (sym is) holds

-- what was written whole was written in part
pub part_of_all : (kind : ℕ) (elements : List Element) (doing : Doing) (old new : Option (List ℕ)) → Writes kind elements doing old new → WritesPart kind elements doing old new
part_of_all kind elements doings.Ended None new writes = writes
part_of_all kind elements doings.Ended (Some old) new writes = (written kind elements, [], sym (append-nil (written kind elements)), writes)
part_of_all kind elements doings.Going old new writes = writes
part_of_all kind elements (doings.Failed error) old new writes = writes

-- a get that has ended wrote all of it
all_written : (kind : ℕ) (plan : Plan) (at : Standing) (output : List ℕ) (taken : Option (List ℕ)) → kind ≡ kind_in plan.task → Writes kind (elements_of at.talk.conduct) doings.Ended (Some output) taken → taken ≡ Some (output ++ written_at plan at)
all_written kind plan at output taken is writes = subst (λ (k : ℕ). taken ≡ Some (output ++ written k (elements_of at.talk.conduct))) is writes

-- the counts of a dial after a send, where they were as at first before it
pub counts_by : (stands : Bool) (counts : Counts) (mid-faults mid-lost faults lost : ℕ) → mid-faults ≡ counts.faults → mid-lost ≡ counts.lost → StandsOr stands mid-faults faults → lost ≡ (if stands then mid-lost else counted mid-lost)
    → MayBeLost counts (record { faults = faults; lost = lost }) × (stands ≡ false → HasFailed counts (record { faults = faults; lost = lost }) × IsLost counts (record { faults = faults; lost = lost }))
counts_by true counts mid-faults mid-lost faults lost same-faults same-lost stood is =
    (inl (stood ∙ same-faults, is ∙ same-lost), λ no. absurd (let never : true ≡ false = no in cc))
counts_by false counts mid-faults mid-lost faults lost same-faults same-lost risen is =
    let failed : HasRisen counts.faults faults = subst (λ (n : ℕ). HasRisen n faults) same-faults risen in
    let gone : lost ≡ counted counts.lost = is ∙ ap (λ (n : ℕ). counted n) same-lost in
    (inr (gone, failed), λ no. (failed, gone))

-- ---- a piece tells one thing at most where it is no longer than is wanted

pub tells_once : (talk : Talk) (wanted : ℕ) (piece : List ℕ) → ((first second : List ℕ) → length (first ++ second) ≤ wanted → TellOnce Calls talk.association first second) → length piece ≤ wanted → TellsOnce talk.association piece
tells_once talk wanted piece once few = λ first second is. once first second (subst (λ (l : List ℕ). length l ≤ wanted) is few)

-- ---- all was answered, from the CR to one piece more

abbrev first_answered : (plan : Plan) (kept : Option Task) (at : Standing) → AnswersAll plan kept [] (packet request) [] at at
first_answered plan kept at = record { pieces = []; answers = []; heard_is = refl; takes = (refl, refl, refl); said_is = sym (append-nil (packet request)) }

more_answered : (plan : Plan) (kept : Option Task) (heard said : List ℕ) (trail : List Tables) (at middle at' : Standing) (piece answer : List ℕ) → AnswersAll plan kept heard said trail at middle → TakesOne (given_of plan kept) piece answer middle at'
    → AnswersAll plan kept (heard ++ piece) (said ++ answer) (trail ++ at'.tables ∷ []) at at'
more_answered plan kept heard said trail at middle at' piece answer all one = record {
  pieces = all.pieces ++ piece ∷ [];
  answers = all.answers ++ answer;
  heard_is = flat_map-append (λ (l : List ℕ). l) all.pieces (piece ∷ []) ∙ ap (λ (l : List ℕ). l ++ (piece ++ [])) all.heard_is ∙ ap (λ (l : List ℕ). heard ++ l) (append-nil piece);
  takes = more_pieces (given_of plan kept) all.pieces all.answers trail at middle piece answer at' all.takes one;
  said_is = ap (λ (l : List ℕ). l ++ answer) all.said_is ∙ append_assoc (packet request) all.answers answer;
}

-- by a send of the answer
spoken_by : (plan : Plan) (kept : Option Task) (before : List Call) (heard said : List ℕ) (trail : List Tables) (at middle at' : Standing) (piece answer : List ℕ) (told : Option Connections) (stands : Bool)
    → AnswersAll plan kept heard said trail at middle → TakesOne (given_of plan kept) piece answer middle at' → SaysOn before said (heard ++ piece) answer told stands
    → (said' : List ℕ) × (IsOn before said' (heard ++ piece) told × Spoken plan kept (heard ++ piece) said' stands (trail ++ at'.tables ∷ []) at at')
spoken_by plan kept before heard said trail at middle at' piece answer told true all one says = (said ++ answer, (says, more_answered plan kept heard said trail at middle at' piece answer all one))
spoken_by plan kept before heard said trail at middle at' piece answer told false all one says = (
  said ++ says.0,
  (
    says.1.1,
    record {
      earlier = heard;
      piece = piece;
      before = said;
      answer = answer;
      front = says.0;
      first = trail;
      middle = middle;
      answered = all;
      takes = one;
      heard_is = refl;
      trail_is = refl;
      said_is = refl;
      is_front = says.1.0;
    },
  ),
)

module _ {D : Type 0} (shown : D → Option (List ℕ)) (may_leave : D → List ℕ → Type 0) (moment : D → ℕ) (left_since : D → ℕ → List ℕ → Type 0) (plan : Plan) (kept : Option Task) (before : List Call) (output : List ℕ) (kind : ℕ) (old : StoreState D) where
  abbrev Talking : (reads : ℕ) → Initiator → Option Connections → Option (List ℕ) → StoreState D → Type 0
  Talking reads i told taken new = IsTalking shown may_leave moment left_since plan kept before output kind old reads i told taken new

  abbrev Taken : (reads : ℕ) → Initiator → Option Connections → Option (List ℕ) → StoreState D → Doing → Bool → Type 0
  Taken reads i told taken new doing stands = IsTaken shown may_leave moment left_since plan kept before output kind old reads i told taken new doing stands

  abbrev Through : Counts → Seen → StoreState D → Result Outcome TransactError → Type 0
  Through counts seen new result = IsThrough shown may_leave moment left_since plan kept before output counts old seen new result

  abbrev Begun : (first : List ℕ) → Initiator → Seen → Type 0
  Begun first i seen = IsBegun shown may_leave plan kept before output kind first i seen old

  abbrev OnlyNow : Type 0
  OnlyNow = (disk : D) (image : List ℕ) → left_since disk (moment disk) image → may_leave disk image

  -- ---- the first octets

  pub begins : (first : List ℕ) (i : Initiator) (seen : Seen) (told : Option Connections) → OnlyNow → Begun first i seen → SaysOn before [] [] first told true → Talking 0 i told seen.taken old
  begins first i seen told only_now begun says = record {
    said = packet request;
    heard = [];
    trail = [];
    talk = talk_begun plan kept;
    on = subst (λ (l : List ℕ). IsOn before l [] told) begun.first_is says;
    answered = first_answered plan kept (standing_first plan kept old.tables);
    given_is = begun.given_is;
    represents = begun.represents;
    going = refl;
    kind_is = begun.kind_is;
    taken_is = begun.taken_is;
    keeps = untouched shown may_leave moment left_since only_now old [] old.tables false begun.stands refl;
    stays = begun.keeps;
    read = omega arith;
  }

  pub lost_first : (first : List ℕ) (i : Initiator) (seen : Seen) (told : Option Connections) (counts' : Counts) → OnlyNow → Begun first i seen → SaysOn before [] [] first told false → HasFailed seen.counts counts' → IsLost seen.counts counts'
      → Through seen.counts (record { told = told; taken = seen.taken; counts = counts' }) old (Ok Broke)
  lost_first first i seen told counts' only_now begun says failed gone = record {
    said = says.0;
    heard = [];
    output' = output;
    trail = [];
    tables' = old.tables;
    on = says.1.1;
    taken_is = begun.taken_is;
    goes = record {
      at = standing_first plan kept old.tables;
      converses = inr (failed, inl (record { unheard = refl; nothing = refl; stays = refl; is_front = subst (λ (l : List ℕ). IsFront says.0 l) begun.first_is says.1.0 }));
      tables_are = refl;
      leaves = (refl, refl, gone, inl failed);
    };
    keeps = untouched shown may_leave moment left_since only_now old [] old.tables false begun.stands refl;
    again = record { talk = talk_begun plan kept; going = refl; keeps = begun.keeps };
  }

  pub begins_by : (first : List ℕ) (i : Initiator) (seen : Seen) (told : Option Connections) (stands : Bool) → OnlyNow → Begun first i seen → stands ≡ true → SaysOn before [] [] first told stands → Talking 0 i told seen.taken old
  begins_by first i seen told stands only_now begun is says = begins first i seen told only_now begun (subst (λ (b : Bool). SaysOn before [] [] first told b) is says)

  pub lost_first_by : (first : List ℕ) (i : Initiator) (seen : Seen) (told : Option Connections) (counts' : Counts) (stands : Bool) → OnlyNow → Begun first i seen → stands ≡ false → SaysOn before [] [] first told stands
      → (stands ≡ false → HasFailed seen.counts counts' × IsLost seen.counts counts') → Through seen.counts (record { told = told; taken = seen.taken; counts = counts' }) old (Ok Broke)
  lost_first_by first i seen told counts' stands only_now begun is says lost =
      lost_first first i seen told counts' only_now begun (subst (λ (b : Bool). SaysOn before [] [] first told b) is says) (lost is).0 (lost is).1

  -- ---- no piece is heard

  pub unheard : (reads : ℕ) (i : Initiator) (told told' : Option Connections) (taken : Option (List ℕ)) (new : StoreState D) (counts counts' : Counts) → (t : Talking reads i told taken new) → HearsOn before t.said t.heard told' counts.faults counts'.faults None → IsLost counts counts'
      → Through counts (record { told = told'; taken = taken; counts = counts' }) new (Ok Broke)
  unheard reads i told told' taken new counts counts' t hears gone = record {
    said = t.said;
    heard = t.heard;
    output' = output;
    trail = t.trail;
    tables' = new.tables;
    on = hears.0;
    taken_is = t.taken_is;
    goes = record {
      at = record { talk = t.talk; tables = new.tables };
      converses = inl t.answered;
      tables_are = refl;
      leaves = (t.going, refl, gone, hears.1);
    };
    keeps = t.keeps;
    again = record { talk = t.talk; going = t.going; keeps = t.stays };
  }

  -- as many were heard as a connection may give
  pub spent : (reads : ℕ) (i : Initiator) (seen : Seen) (new : StoreState D) (counts : Counts) → 1073741824 ≤ reads → Talking reads i seen.told seen.taken new → MayBeLost counts seen.counts → Through counts seen new (Ok (Failed Budget))
  spent reads i seen new counts many t stood = record {
    said = t.said;
    heard = t.heard;
    output' = output;
    trail = t.trail;
    tables' = new.tables;
    on = t.on;
    taken_is = t.taken_is;
    goes = record {
      at = record { talk = t.talk; tables = new.tables };
      converses = inl t.answered;
      tables_are = refl;
      leaves = (subst (λ (d : Doing). FailsBy t.heard d Budget) (sym t.going) (refl, omega (arith, many, t.read)), refl, stood);
    };
    keeps = t.keeps;
    again = tt;
  }

  -- ---- a piece that isn't answered

  pub stops_by : (reads : ℕ) (i : Initiator) (told told' : Option Connections) (taken taken' : Option (List ℕ)) (mid new : StoreState D) (counts counts' : Counts) (piece : List ℕ) (error : TransactError) (t : Talking reads i told taken mid)
      → 0 < length piece → TellsOnce t.talk.association piece → IsOn before t.said (t.heard ++ piece) told' → interrupts_connection error ≡ true → LosesIn shown may_leave moment left_since i.given kind t.talk piece mid new taken taken' error
      → counts'.faults ≡ counts.faults → counts'.lost ≡ counts.lost → Through counts (record { told = told'; taken = taken'; counts = counts' }) new (Err error)
  stops_by reads i told told' taken taken' mid new counts counts' piece error t some once on fails loses faults stood =
      let here : Standing = record { talk = t.talk; tables = mid.tables } in
      let lost_so : LosesPiece (EndsOn shown may_leave new.disk) (given_of plan kept) kind t.talk piece mid.tables loses.next taken taken' error = subst (λ (g : Given). LosesPiece (EndsOn shown may_leave new.disk) g kind t.talk piece mid.tables loses.next taken taken' error) t.given_is loses.loses in
      let ends : (output' : List ℕ) × ((taken' ≡ Some output') × InterruptsTaking (EndsOn shown may_leave new.disk) plan kept piece loses.next here (record { output = output; output' = output' }) error) =
      elim lost_so [
        | inl none ↦ (output, (none.1 ∙ t.taken_is, inl (none.0, refl, none.2)))
        | inr taken_so ↦
            let there : Standing = record { talk = taken_so.1; tables = tables_at (given_of plan kept) taken_so.1.conduct mid.tables } in
            let part : WritesPart (kind_in plan.task) (elements_of taken_so.1.conduct) (doing_of taken_so.1.conduct) (Some output) taken' =
            subst (λ (k : ℕ). WritesPart k (elements_of taken_so.1.conduct) (doing_of taken_so.1.conduct) (Some output) taken') t.kind_is
            (subst (λ (o : Option (List ℕ)). WritesPart kind (elements_of taken_so.1.conduct) (doing_of taken_so.1.conduct) o taken') t.taken_is taken_so.2.2) in
            let w = part_written plan there (doing_of taken_so.1.conduct) output taken' part in
            (w.0, (w.1.0, inr (taken_so.0, there, (record { once = once; takes = taken_so.2.0; kept = refl }, taken_so.2.1, w.1.1, taken_so.2.3))))
      ] in
      let among = last_among (given_of plan kept) t.answered.pieces t.answered.answers t.trail (standing_first plan kept old.tables) here t.answered.takes in
      record {
        said = t.said;
        heard = t.heard ++ piece;
        output' = ends.0;
        trail = t.trail ++ loses.next;
        tables' = mid.tables;
        on = on;
        taken_is = ends.1.0;
        goes = (
          (faults, stood),
          fails,
          inl (record {
            heard = t.heard;
            unanswered = piece;
            first = t.trail;
            next = loses.next;
            at = here;
            heard_is = refl;
            some = some;
            answered = t.answered;
            going = t.going;
            trail_is = refl;
            tables_are = refl;
            stops = ends.1.1;
          }),
        );
        keeps = keeps_then shown may_leave moment left_since old mid new t.trail loses.next mid.tables mid.tables (is_disk error) t.keeps among loses.keeps;
        again = tt;
      }

  -- ---- one of which memory was wanting to spell the whole answer

  whole_written : (at : Standing) (doing : Doing) (taken' : Option (List ℕ)) → kind ≡ kind_in plan.task → Writes kind (elements_of at.talk.conduct) doing (Some output) taken'
      → (output' : List ℕ) × ((taken' ≡ Some output') × WritesWhole plan at doing (record { output = output; output' = output' }))
  whole_written at doings.Ended taken' is writes = (output ++ written_at plan at, (all_written kind plan at output taken' is writes, refl))
  whole_written at doings.Going taken' is writes = (output, (writes, refl))
  whole_written at (doings.Failed error) taken' is writes = (output, (writes, refl))

  pub stops_saying : (reads : ℕ) (i i' : Initiator) (told told' : Option Connections) (taken taken' : Option (List ℕ)) (mid new : StoreState D) (counts counts' : Counts) (piece none sent : List ℕ) (doing : Doing) (error : TransactError) (t : Talking reads i told taken mid) (after : Talk)
      → 0 < length piece → TellsOnce t.talk.association piece → none ≡ [] → (takes : TakesIn i t.talk piece none i' after sent doing) → Writes kind (elements_of after.conduct) doing taken taken'
      → KeepsPiece shown may_leave moment left_since i.given after doing mid new → SaysOn before t.said (t.heard ++ piece) (sent ++ takes.rest) told' false
      → error ≡ errors.NoMemory → counts'.faults ≡ counts.faults → counts'.lost ≡ counts.lost → Through counts (record { told = told'; taken = taken'; counts = counts' }) new (Err error)
  stops_saying reads i i' told told' taken taken' mid new counts counts' piece none sent doing error t after some once empty takes writes keeps says wanting faults stood =
      let given = given_of plan kept in
      let here : Standing = record { talk = t.talk; tables = mid.tables } in
      let there : Standing = record { talk = after; tables = new.tables } in
      let piece_kept : KeepsPiece shown may_leave moment left_since given after doing mid new = subst (λ (x : Given). KeepsPiece shown may_leave moment left_since x after doing mid new) t.given_is keeps in
      let tables_are : new.tables ≡ tables_at given after.conduct mid.tables = (piece_kept.keeps.stands refl).1 in
      let one : TakesOne given piece takes.octets here there = record {
        once = once;
        takes = subst (λ (x : Given). Takes x (is_some x.assignment.activity) (resumed t.talk) piece takes.octets after) t.given_is takes.takes;
        kept = tables_are;
      } in
      let sent_is : sent ++ takes.rest ≡ takes.octets = takes.sent ∙ ap (λ (l : List ℕ). l ++ takes.octets) empty in
      let so = subst (λ (l : List ℕ). SaysOn before t.said (t.heard ++ piece) l told' false) sent_is says in
      let among = last_among given t.answered.pieces t.answered.answers t.trail (standing_first plan kept old.tables) here t.answered.takes in
      let w = whole_written there doing taken' t.kind_is (subst (λ (o : Option (List ℕ)). Writes kind (elements_of after.conduct) doing o taken') t.taken_is writes) in
      record {
        said = t.said ++ so.0;
        heard = t.heard ++ piece;
        output' = w.0;
        trail = t.trail ++ new.tables ∷ [];
        tables' = new.tables;
        on = so.1.1;
        taken_is = w.1.0;
        goes = (
          (faults, stood),
          subst (λ (e : TransactError). interrupts_connection e ≡ true) (sym wanting) refl,
          inr (record {
            at = there;
            in_part = record {
              earlier = t.heard;
              piece = piece;
              before = t.said;
              answer = takes.octets;
              front = so.0;
              first = t.trail;
              middle = here;
              answered = t.answered;
              takes = one;
              heard_is = refl;
              trail_is = refl;
              said_is = refl;
              is_front = so.1.0;
            };
            going = t.going;
            some = some;
            tables_are = refl;
            writes = subst (λ (d : Doing). WritesWhole plan there d (record { output = output; output' = w.0 })) takes.doing_is w.1.1;
            error_is = wanting;
          }),
        );
        keeps = subst (λ (e : TransactError). KeepsStore shown may_leave moment left_since old new (t.trail ++ new.tables ∷ []) new.tables (is_disk e)) (sym wanting)
            (keeps_then shown may_leave moment left_since old mid new t.trail (new.tables ∷ []) mid.tables new.tables false t.keeps among
            (subst (λ (x : Tables). KeepsStore shown may_leave moment left_since mid new (x ∷ []) x false) (sym tables_are) piece_kept.keeps));
        again = tt;
      }

  -- ---- one that is answered

  pub takes_more : (reads : ℕ) (i i' i'' : Initiator) (told told' : Option Connections) (taken taken' : Option (List ℕ)) (mid new : StoreState D) (piece none sent : List ℕ) (doing : Doing) (stands : Bool) (t : Talking reads i told taken mid) (after : Talk)
      → 0 < length piece → TellsOnce t.talk.association piece → none ≡ [] → (takes : TakesIn i t.talk piece none i' after sent doing) → OwesAfter i' after i'' stands → Writes kind (elements_of after.conduct) doing taken taken'
      → KeepsPiece shown may_leave moment left_since i.given after doing mid new → SaysOn before t.said (t.heard ++ piece) (sent ++ takes.rest) told' stands
      → Taken (reads + 1) i'' told' taken' new doing stands
  takes_more reads i i' i'' told told' taken taken' mid new piece none sent doing stands t after some once empty takes owes writes keeps says =
      let given = given_of plan kept in
      let here : Standing = record { talk = t.talk; tables = mid.tables } in
      let there : Standing = record { talk = after; tables = new.tables } in
      let piece_kept : KeepsPiece shown may_leave moment left_since given after doing mid new = subst (λ (x : Given). KeepsPiece shown may_leave moment left_since x after doing mid new) t.given_is keeps in
      let tables_are : new.tables ≡ tables_at given after.conduct mid.tables = (piece_kept.keeps.stands refl).1 in
      let one : TakesOne given piece takes.octets here there = record {
        once = once;
        takes = subst (λ (x : Given). Takes x (is_some x.assignment.activity) (resumed t.talk) piece takes.octets after) t.given_is takes.takes;
        kept = tables_are;
      } in
      let sent_is : sent ++ takes.rest ≡ takes.octets = takes.sent ∙ ap (λ (l : List ℕ). l ++ takes.octets) empty in
      let so = spoken_by plan kept before t.heard t.said t.trail (standing_first plan kept old.tables) here there piece takes.octets told' stands t.answered one
      (subst (λ (l : List ℕ). SaysOn before t.said (t.heard ++ piece) l told' stands) sent_is says) in
      let among = last_among given t.answered.pieces t.answered.answers t.trail (standing_first plan kept old.tables) here t.answered.takes in
      record {
        heard = t.heard ++ piece;
        said = so.0;
        trail = t.trail ++ new.tables ∷ [];
        talk = after;
        on = so.1.0;
        spoken = so.1.1;
        given_is = owes.given_is ∙ takes.given_is ∙ t.given_is;
        later = owes.later;
        owes = owes.owes;
        represents = owes.all;
        doing_is = takes.doing_is;
        kind_is = t.kind_is;
        writes = subst (λ (o : Option (List ℕ)). Writes kind (elements_of after.conduct) doing o taken') t.taken_is writes;
        keeps = keeps_then shown may_leave moment left_since old mid new t.trail (new.tables ∷ []) mid.tables new.tables false t.keeps among
            (subst (λ (x : Tables). KeepsStore shown may_leave moment left_since mid new (x ∷ []) x false) (sym tables_are) piece_kept.keeps);
        stays = piece_kept.goes_on;
        read = omega (arith, some, t.read, length-append t.heard piece);
      }

  -- the task goes on
  pub talks_on : (reads : ℕ) (i : Initiator) (told : Option Connections) (taken : Option (List ℕ)) (new : StoreState D) → Taken reads i told taken new doings.Going true → Talking reads i told taken new
  talks_on reads i told taken new a = record {
    said = a.said;
    heard = a.heard;
    trail = a.trail;
    talk = a.talk;
    on = a.on;
    answered = a.spoken;
    given_is = a.given_is;
    represents = a.represents refl;
    going = sym a.doing_is;
    kind_is = a.kind_is;
    taken_is = a.writes;
    keeps = a.keeps;
    stays = a.stays refl;
    read = a.read;
  }

  -- it goes on, but the connection was lost
  pub lost_after : (reads : ℕ) (i : Initiator) (seen : Seen) (new : StoreState D) (counts : Counts) → Taken reads i seen.told seen.taken new doings.Going false → HasFailed counts seen.counts → IsLost counts seen.counts → Through counts seen new (Ok Broke)
  lost_after reads i seen new counts a failed gone = record {
    said = a.said;
    heard = a.heard;
    output' = output;
    trail = a.trail;
    tables' = new.tables;
    on = a.on;
    taken_is = a.writes;
    goes = record {
      at = record { talk = a.talk; tables = new.tables };
      converses = inr (failed, inr a.spoken);
      tables_are = refl;
      leaves = (sym a.doing_is, refl, gone, inl failed);
    };
    keeps = a.keeps;
    again = record { talk = a.talk; going = sym a.doing_is; keeps = a.stays refl };
  }

  -- it failed
  pub failed_after : (reads : ℕ) (i : Initiator) (seen : Seen) (new : StoreState D) (counts : Counts) (error : TaskError) (stands : Bool) → Taken reads i seen.told seen.taken new (doings.Failed error) stands
      → (stands ≡ false → HasFailed counts seen.counts) → MayBeLost counts seen.counts → Through counts seen new (Ok (Failed error))
  failed_after reads i seen new counts error stands a fails gone = record {
    said = a.said;
    heard = a.heard;
    output' = output;
    trail = a.trail;
    tables' = new.tables;
    on = a.on;
    taken_is = a.writes;
    goes = record {
      at = record { talk = a.talk; tables = new.tables };
      converses = converses_by plan kept a.heard a.said stands (HasFailed counts seen.counts) a.trail (standing_first plan kept old.tables) (record { talk = a.talk; tables = new.tables }) a.spoken fails;
      tables_are = refl;
      leaves = (subst (λ (d : Doing). FailsBy a.heard d error) a.doing_is refl, refl, gone);
    };
    keeps = a.keeps;
    again = tt;
  }

  -- it ended well
  pub ended_after : (reads : ℕ) (i : Initiator) (seen : Seen) (new : StoreState D) (counts : Counts) (octets : ℕ) (stands : Bool) → (a : Taken reads i seen.told seen.taken new doings.Ended stands)
      → octets ≡ min (octets_of_unit (elements_of a.talk.conduct)) 18446744073709551615 → (stands ≡ false → HasFailed counts seen.counts) → MayBeLost counts seen.counts
      → Through counts seen new (Ok (Ended octets))
  ended_after reads i seen new counts octets stands a count fails gone =
      let there : Standing = record { talk = a.talk; tables = new.tables } in
      record {
        said = a.said;
        heard = a.heard;
        output' = output ++ written_at plan there;
        trail = a.trail;
        tables' = new.tables;
        on = a.on;
        taken_is = all_written kind plan there output seen.taken a.kind_is a.writes;
        goes = record {
          at = there;
          converses = converses_by plan kept a.heard a.said stands (HasFailed counts seen.counts) a.trail (standing_first plan kept old.tables) there a.spoken fails;
          tables_are = refl;
          leaves = (sym a.doing_is, count, refl, gone);
        };
        keeps = a.keeps;
        again = tt;
      }

  -- ---- by how the task stands, and whether the connection does

  pub ends_broken : (reads : ℕ) (i : Initiator) (seen : Seen) (new : StoreState D) (counts : Counts) (how : Doing) (stands : Bool) → Taken reads i seen.told seen.taken new how stands → how ≡ doings.Going → stands ≡ false
      → (stands ≡ false → HasFailed counts seen.counts × IsLost counts seen.counts) → Through counts seen new (Ok Broke)
  ends_broken reads i seen new counts how stands a going is lost =
      let b = subst (λ (d : Doing). Taken reads i seen.told seen.taken new d stands) going a in
      lost_after reads i seen new counts (subst (λ (s : Bool). Taken reads i seen.told seen.taken new doings.Going s) is b) (lost is).0 (lost is).1

  pub ends_failed : (reads : ℕ) (i : Initiator) (seen : Seen) (new : StoreState D) (counts : Counts) (how : Doing) (stands : Bool) (error : TaskError) → Taken reads i seen.told seen.taken new how stands → how ≡ doings.Failed error
      → (stands ≡ false → HasFailed counts seen.counts × IsLost counts seen.counts) → MayBeLost counts seen.counts → Through counts seen new (Ok (Failed error))
  ends_failed reads i seen new counts how stands error a is lost may =
      failed_after reads i seen new counts error stands (subst (λ (d : Doing). Taken reads i seen.told seen.taken new d stands) is a) (λ no. (lost no).0) may

  pub ends_well : (reads : ℕ) (i : Initiator) (seen : Seen) (new : StoreState D) (counts : Counts) (how : Doing) (stands : Bool) (elements : List Element) (octets : ℕ) → Taken reads i seen.told seen.taken new how stands → how ≡ doings.Ended
      → ((talk : Talk) (rest : List ℕ) → Owes i talk rest → elements ≡ elements_of talk.conduct) → octets ≡ min (octets_of_unit elements) 18446744073709551615
      → (stands ≡ false → HasFailed counts seen.counts × IsLost counts seen.counts) → MayBeLost counts seen.counts → Through counts seen new (Ok (Ended octets))
  ends_well reads i seen new counts how stands elements octets a is received count lost may =
      let b = subst (λ (d : Doing). Taken reads i seen.told seen.taken new d stands) is a in
      ended_after reads i seen new counts octets stands b (count ∙ ap (λ (l : List Element). min (octets_of_unit l) 18446744073709551615) (received b.talk b.later b.owes)) (λ no. (lost no).0) may

  pub goes_on : (reads : ℕ) (i : Initiator) (told : Option Connections) (taken : Option (List ℕ)) (new : StoreState D) (how : Doing) (stands : Bool) → Taken reads i told taken new how stands → how ≡ doings.Going → stands ≡ true → Talking reads i told taken new
  goes_on reads i told taken new how stands a going is =
      let b = subst (λ (d : Doing). Taken reads i told taken new d stands) going a in
      talks_on reads i told taken new (subst (λ (s : Bool). Taken reads i told taken new doings.Going s) is b)

  -- the premises of the piece, from how the task stands
  pub keeps_as : (reads : ℕ) (i : Initiator) (told : Option Connections) (taken : Option (List ℕ)) (new : StoreState D) → (t : Talking reads i told taken new) → KeepsAs i.given t.talk new.tables
  keeps_as reads i told taken new t = subst (λ (x : Given). KeepsAs x t.talk new.tables) (sym t.given_is) t.stays
