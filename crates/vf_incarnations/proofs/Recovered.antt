-- Recoveries as restarts, and the list of a sender who goes on from there.
use Rattle.std.proofs.Common.{◌≡◌, ◌∙◌, ℕ, zero, suc, ◌-◌, ◌≤◌, Bool, false, cond, is_some, List, [], ◌∷◌, ◌++◌, drop, length, map, take, Option, Some, true, refl, ap, sym, arith, append_assoc, append-nil}
use Rattle.std.specs.List.{AllByRecursion}
use Rattle.std.specs.Prelude.{IsSome, slice_get}
use Rattle.vf_base.specs.declared.element.Element.{Element}
use Rattle.vf_elements.specs.declared.message.Message.{Message}
use Rattle.vf_elements.specs.declared.message.Message.TheVariants as messages
use Rattle.vf_elements.specs.declared.message.Said.{Said}
use Rattle.vf_elements.specs.declared.message.Said.TheVariants as answers
use Rattle.vf_pdu.specs.declared.pdu.Pdu.TheVariants.{ReadRequest, RecoverRequest, RestartRequest, WriteRequest}
use Rattle.vf_transfer.specs.Transfer as transfer
use Rattle.vf_transfer.specs.Transfer.{Entry, NamesKnownChecks, Standing, joined, standing}
use Rattle.vf_filestore.proofs.Retained.{alike_since, secured_alike}
use Rattle.vf_filestore.proofs.Soundness.{alike_resumed, moving_happens}
use Rattle.vf_filestore.specs.Dockets.{retained, secured, secures, since_selection}
use Rattle.vf_filestore.specs.History as history
use Rattle.vf_filestore.specs.History.{Given, Resumed, History}
use Rattle.vf_filestore.specs.Performed.{Wrote, operation, wrote}
use Rattle.vf_filestore.specs.Transfers.{Transfer, happened, resumed, survivors, under_way, with_heard, with_said}
use Rattle.vf_incarnations.specs.Recovery.{GoodEndsPerformIt, IsBare, IsBroken, IsResumption, IsUnanswered, Item, OwnListStands, RecoveriesAreRestarts, RecoveriesGoOn, Says, from_check, left_of, restarted, unsecured, values_of}
use Rattle.vf_incarnations.specs.Recovery as own

-- ---- a recovery

resumes : (entry : history.Entry) (point : ℕ) → IsResumption entry point → (before : List Entry)
    → with_said entry.said (with_heard entry.message entry.given before) ≡ with_said entry.said (transfer.Restart point ∷ before)
resumes entry point is before =
    ap (λ (message : Message). with_said entry.said (with_heard message entry.given before)) is.message
    ∙ ap (λ (given : Given). with_said entry.said (with_heard (messages.Pdu (RecoverRequest is.activity is.number is.asked)) given before)) is.given

happens : (earlier later : History) (entry : history.Entry) (point : ℕ) → IsResumption entry point
    → happened (later ++ entry ∷ earlier) ≡ happened (later ++ restarted point entry ∷ earlier)
happens earlier [] entry point is = resumes entry point is (happened earlier)
happens earlier (one ∷ later) entry point is =
    ap (λ (before : List Entry). with_said one.said (with_heard one.message one.given before)) (happens earlier later entry point is)

pub recoveries_are_restarts : RecoveriesAreRestarts
recoveries_are_restarts earlier later entry point is =
    let same = happens earlier later entry point is in
    record {
      happens = same;
      values = ap (λ (entries : List Entry). transfer.survivors 0 entries) same;
      idle = ap (λ (message : Message). operation earlier message entry.given) is.message;
    }

-- ---- what stands, one after the other

one-alike : (one : Entry) (entries others : List Entry) → standing 0 entries ≡ standing 0 others → standing 0 (one ∷ entries) ≡ standing 0 (one ∷ others)
one-alike (transfer.Value element) entries others same = ap (λ (left : Standing). record left { after = left.after ++ element ∷ [] }) same
one-alike transfer.Check entries others same = ap (λ (left : Standing). record { closed = left.closed ++ left.after ∷ []; after = [] }) same
one-alike (transfer.Acknowledgement check) entries others same = same
one-alike (transfer.Restart check) entries others same = ap (λ (left : Standing). record { closed = take (check - 0) left.closed; after = [] }) same

said-alike : (all : List Said) (entries others : List Entry) → standing 0 entries ≡ standing 0 others → standing 0 (with_said all entries) ≡ standing 0 (with_said all others)
said-alike [] entries others same = same
said-alike (answers.Element element ∷ later) entries others same =
    said-alike later (transfer.Value element ∷ entries) (transfer.Value element ∷ others) (one-alike (transfer.Value element) entries others same)
said-alike (answers.Check point ∷ later) entries others same = said-alike later (transfer.Check ∷ entries) (transfer.Check ∷ others) (one-alike transfer.Check entries others same)
said-alike (answers.Acknowledge point ∷ later) entries others same =
    said-alike later (transfer.Acknowledgement point ∷ entries) (transfer.Acknowledgement point ∷ others) (one-alike (transfer.Acknowledgement point) entries others same)
said-alike (answers.Pdu pdu ∷ later) entries others same = said-alike later entries others same
said-alike (answers.Abort number place ∷ later) entries others same = said-alike later entries others same

resumed-alike : (given : Given) (entries others : List Entry) → standing 0 entries ≡ standing 0 others → standing 0 (resumed given entries) ≡ standing 0 (resumed given others)
resumed-alike (Resumed true point) entries others same = one-alike (transfer.Restart point) entries others same
resumed-alike (Resumed false point) entries others same = same
resumed-alike given entries others same = same

heard-alike : (message : Message) (given : Given) (entries others : List Entry) → standing 0 entries ≡ standing 0 others
    → standing 0 (with_heard message given entries) ≡ standing 0 (with_heard message given others)
heard-alike (messages.Pdu (ReadRequest fadu context)) given entries others same = refl
heard-alike (messages.Pdu (WriteRequest performs fadu)) given entries others same = refl
heard-alike (messages.Pdu (RecoverRequest activity number point)) given entries others same = resumed-alike given entries others same
heard-alike (messages.Pdu (RestartRequest point)) given entries others same = one-alike (transfer.Restart point) entries others same
heard-alike (messages.Pdu pdu) given entries others same = same
heard-alike (messages.Restart point) given entries others same = one-alike (transfer.Restart point) entries others same
heard-alike (messages.Element element) given entries others same = one-alike (transfer.Value element) entries others same
heard-alike messages.Check given entries others same = one-alike transfer.Check entries others same
heard-alike (messages.Acknowledge point) given entries others same = one-alike (transfer.Acknowledgement point) entries others same
heard-alike messages.Break given entries others same = same

later-alike : (later history other : History) → standing 0 (happened history) ≡ standing 0 (happened other) → standing 0 (happened (later ++ history)) ≡ standing 0 (happened (later ++ other))
later-alike [] history other same = same
later-alike (one ∷ later) history other same =
    said-alike one.said (with_heard one.message one.given (happened (later ++ history))) (with_heard one.message one.given (happened (later ++ other)))
    (heard-alike one.message one.given (happened (later ++ history)) (happened (later ++ other)) (later-alike later history other same))

-- ---- what a docket retains

abbrev closed : List Entry → List (List Element)
closed entries = (standing 0 entries).closed

-- what isn't secured has no check
unsecured-closed : (message : Message) (given : Given) (entries : List Entry) → secures message ≡ false → closed (with_heard message given entries) ≡ closed entries
unsecured-closed (messages.Pdu (ReadRequest fadu context)) given entries is = absurd cc
unsecured-closed (messages.Pdu (WriteRequest performs fadu)) given entries is = absurd cc
unsecured-closed (messages.Pdu (RecoverRequest activity number point)) given entries is = absurd cc
unsecured-closed (messages.Pdu (RestartRequest point)) given entries is = absurd cc
unsecured-closed (messages.Pdu pdu) given entries is = refl
unsecured-closed (messages.Restart point) given entries is = absurd cc
unsecured-closed (messages.Element element) given entries is = refl
unsecured-closed messages.Check given entries is = absurd cc
unsecured-closed (messages.Acknowledge point) given entries is = absurd cc
unsecured-closed messages.Break given entries is = refl

secured-closed : (broken : History) → AllByRecursion IsUnanswered (unsecured broken) → closed (happened (secured broken)) ≡ closed (happened broken)
secured-closed [] silent = refl
secured-closed (entry ∷ earlier) silent = by (secures entry.message) refl (secured-closed earlier) silent
  where
    by : (b : Bool) → secures entry.message ≡ b → (AllByRecursion IsUnanswered (unsecured earlier) → closed (happened (secured earlier)) ≡ closed (happened earlier))
        → AllByRecursion IsUnanswered (cond b [] (entry ∷ unsecured earlier)) → closed (happened (cond b (entry ∷ earlier) (secured earlier))) ≡ closed (happened (entry ∷ earlier))
    by true is rest silent = refl
    by false is rest silent =
        rest silent.1
        ∙ sym (unsecured-closed entry.message entry.given (happened earlier) is)
        ∙ ap (λ (said : List Said). closed (with_said said (with_heard entry.message entry.given (happened earlier)))) (sym silent.0)

retained-closed : (broken other : History) → IsBroken broken → IsBare other → closed (happened (retained broken ++ other)) ≡ closed (happened broken)
retained-closed broken other is bare =
    let kept = secured broken in
    let like = secured_alike broken is.nested is.moving in
    let since = alike_since kept like.nested in
    let docket = since_selection kept in
    let some : IsSome (under_way kept) = ap is_some like.moves ∙ is.moving in
    let some' : IsSome (under_way docket) = ap is_some since.moves ∙ some in
    ap (λ (b : Bool). closed (happened (since_selection (cond b (secured broken) broken) ++ other))) is.moving
    ∙ ap closed (moving_happens docket (docket ++ other) (alike_resumed docket other bare.no_selection bare.no_regime bare.no_transfer) some')
    ∙ ap closed (moving_happens kept docket since some)
    ∙ secured-closed broken is.silent

pub recoveries_go_on : RecoveriesGoOn
recoveries_go_on broken other later entry point is was bare =
    let docket = retained broken ++ other in
    let restarts : standing 0 (transfer.Restart point ∷ happened docket) ≡ standing 0 (transfer.Restart point ∷ happened broken) =
    ap (λ (values : List (List Element)). record { closed = take (point - 0) values; after = [] }) (retained-closed broken other was bare) in
    let here : standing 0 (happened (entry ∷ docket)) ≡ standing 0 (happened (restarted point entry ∷ broken)) =
    ap (standing 0) (resumes entry point is (happened docket))
    ∙ said-alike entry.said (transfer.Restart point ∷ happened docket) (transfer.Restart point ∷ happened broken) restarts in
    ap (λ (left : Standing). joined left.closed ++ left.after) (later-alike later (entry ∷ docket) (restarted point entry ∷ broken) here)

-- ---- a sender's own list

-- what stands of it, as it was said
abbrev valued : List Element → List Item
valued values = map own.Value values

abbrev checked : List (List Element) → List Item
checked [] = []
checked (values ∷ closed) = valued values ++ own.Check ∷ checked closed

abbrev said : Standing → List Item
said left = checked left.closed ++ valued left.after

valued-more : (values : List Element) (element : Element) → valued (values ++ element ∷ []) ≡ valued values ++ own.Value element ∷ []
valued-more [] element = refl
valued-more (first ∷ values) element = ap (λ (items : List Item). own.Value first ∷ items) (valued-more values element)

checked-more : (closed : List (List Element)) (values : List Element) → checked (closed ++ values ∷ []) ≡ (checked closed ++ valued values) ++ own.Check ∷ []
checked-more [] values = refl
checked-more (first ∷ closed) values =
    ap (λ (items : List Item). valued first ++ own.Check ∷ items) (checked-more closed values)
    ∙ sym (append_assoc (valued first) (own.Check ∷ (checked closed ++ valued values)) (own.Check ∷ []))
    ∙ ap (λ (items : List Item). items ++ own.Check ∷ []) (sym (append_assoc (valued first) (own.Check ∷ checked closed) (valued values)))

-- the next one of what is left
next-of : (item : Item) (left : List Item) → slice_get left 0 ≡ Some item → left ≡ item ∷ drop 1 left
next-of item [] is = absurd cc
next-of item (first ∷ left) is = ap (λ (one : Item). one ∷ left) (by is)
  where
    by : Some first ≡ Some item → first ≡ item
    by is = cc

behind : (first : List Item) (item : Item) (left : List Item) → slice_get left 0 ≡ Some item → (first ++ item ∷ []) ++ drop 1 left ≡ first ++ left
behind first item left is = append_assoc first (item ∷ []) (drop 1 left) ∙ ap (λ (items : List Item). first ++ items) (sym (next-of item left is))

-- from a check on, whatever is before it
passes-values : (check : ℕ) (values : List Element) (later : List Item) → from_check (suc check) (valued values ++ later) ≡ from_check (suc check) later
passes-values check [] later = refl
passes-values check (first ∷ values) later = passes-values check values later

cut-at : (check : ℕ) (closed : List (List Element)) (later : List Item) → check ≤ length closed
    → checked (take check closed) ++ from_check check (checked closed ++ later) ≡ checked closed ++ later
cut-at zero closed later few = refl
cut-at (suc check) [] later few = absurd (omega (arith, few))
cut-at (suc check) (values ∷ closed) later few =
    let whole = checked closed ++ later in
    let few' : check ≤ length closed = omega (arith, few) in
    let items : (valued values ++ own.Check ∷ checked closed) ++ later ≡ valued values ++ own.Check ∷ whole = append_assoc (valued values) (own.Check ∷ checked closed) later in
    append_assoc (valued values) (own.Check ∷ checked (take check closed)) (from_check (suc check) ((valued values ++ own.Check ∷ checked closed) ++ later))
    ∙ ap (λ (left : List Item). valued values ++ own.Check ∷ (checked (take check closed) ++ left))
    (ap (from_check (suc check)) items ∙ passes-values check values (own.Check ∷ whole))
    ∙ ap (λ (left : List Item). valued values ++ own.Check ∷ left) (cut-at check closed later few')
    ∙ sym items

-- what stands and what is left are the whole list
whole : (list : List Item) (entries : List Entry) → NamesKnownChecks 0 entries → Says list entries → said (standing 0 entries) ++ left_of list entries ≡ list
whole list [] known says = refl
whole list (transfer.Value element ∷ earlier) known says =
    let left = standing 0 earlier in
    ap (λ (items : List Item). (checked left.closed ++ items) ++ drop 1 (left_of list earlier)) (valued-more left.after element)
    ∙ ap (λ (items : List Item). items ++ drop 1 (left_of list earlier)) (sym (append_assoc (checked left.closed) (valued left.after) (own.Value element ∷ [])))
    ∙ behind (said left) (own.Value element) (left_of list earlier) says.0
    ∙ whole list earlier known says.1
whole list (transfer.Check ∷ earlier) known says =
    let left = standing 0 earlier in
    ap (λ (items : List Item). items ++ drop 1 (left_of list earlier)) (append-nil (checked (left.closed ++ left.after ∷ [])) ∙ checked-more left.closed left.after)
    ∙ behind (said left) own.Check (left_of list earlier) says.0
    ∙ whole list earlier known says.1
whole list (transfer.Acknowledgement check ∷ earlier) known says = whole list earlier known.1 says
whole list (transfer.Restart check ∷ earlier) known says =
    let left = standing 0 earlier in
    let list_is : checked left.closed ++ (valued left.after ++ left_of list earlier) ≡ list =
    sym (append_assoc (checked left.closed) (valued left.after) (left_of list earlier)) ∙ whole list earlier known.1 says in
    let few : check ≤ length left.closed = omega (arith, known.0.1) in
    let none : check - 0 ≡ check = omega arith in
    ap (λ (items : List Item). items ++ from_check check list) (append-nil (checked (take (check - 0) left.closed)) ∙ ap (λ (n : ℕ). checked (take n left.closed)) none)
    ∙ ap (λ (items : List Item). checked (take check left.closed) ++ from_check check items) (sym list_is)
    ∙ cut-at check left.closed (valued left.after ++ left_of list earlier) few
    ∙ list_is

-- the values of what was said
values-append : (first later : List Item) → values_of (first ++ later) ≡ values_of first ++ values_of later
values-append [] later = refl
values-append (own.Value element ∷ first) later = ap (λ (values : List Element). element ∷ values) (values-append first later)
values-append (own.Check ∷ first) later = values-append first later

values-valued : (values : List Element) → values_of (valued values) ≡ values
values-valued [] = refl
values-valued (element ∷ values) = ap (λ (others : List Element). element ∷ others) (values-valued values)

values-checked : (closed : List (List Element)) → values_of (checked closed) ≡ joined closed
values-checked [] = refl
values-checked (values ∷ closed) =
    values-append (valued values) (own.Check ∷ checked closed) ∙ (λ i. values-valued values i ++ values-checked closed i)

pub own_list_stands : OwnListStands
own_list_stands list entries all =
    let left = standing 0 entries in
    let is : said left ≡ list =
    sym (append-nil (said left)) ∙ ap (λ (items : List Item). said left ++ items) (sym all.nothing_left) ∙ whole list entries all.known all.says in
    sym (ap values_of (sym is) ∙ values-append (checked left.closed) (valued left.after) ∙ (λ i. values-checked left.closed i ++ values-valued left.after i))

pub good_ends_perform : GoodEndsPerformIt
good_ends_perform list earlier performs fadu given position all moving =
    ap (λ (transfer : Option Transfer). wrote transfer (survivors earlier)) moving
    ∙ ap (λ (values : List Element). Some (Wrote performs fadu values)) (own_list_stands list (happened earlier) all)
