-- Each row of the table leaves a task that may be kept.
use Rattle.std.proofs.Common.{◌≡◌, ◌≤◌, ◌+◌, ◌-◌, ◌*◌, ℕ, zero, suc, Bool, true, false, ◌&&◌, nat_eq, nat_le, nat_lt, min, if◌then◌else◌, IfSome, List, [], ◌∷◌, ◌++◌, length, take, drop, refl, sym, ap, subst, ◌∙◌, append_assoc, append-nil, length-append, length-take, arith, Option, None, Some}
use Rattle.std.proofs.lemmas.Bool.Decides.{nat_tests}
use Rattle.vf_base.specs.declared.diagnostic.Diagnostic.{Diagnostic}
use Rattle.vf_base.specs.declared.element.Element.{Element}
use Rattle.vf_base.specs.declared.limits.TheConstants.{MOST_STRING_OCTETS}
use Rattle.vf_initiator.proofs.Gathers.{IsWithin, within_more, within_taken}
use Rattle.vf_initiator.proofs.TaskEntries.{both, first_of, second_of}
use Rattle.vf_initiator.specs.Asking.{terminate, value}
use Rattle.vf_initiator.specs.Assignments.{new_progress, values_of}
use Rattle.vf_initiator.specs.Gathering.{Gathering, all_of, cut_to, has_room, kept_whole, with_value as with_element}
use Rattle.vf_initiator.specs.Keepable.{IsAtStage}
use Rattle.vf_initiator.specs.Rows.{Step, acknowledged, acknowledged_at, agrees, associating, begins_anew, begins_with, checked, closing, concludes, counted, cuts, deselecting, ended, ended_so, forgotten, gathers, goes_on, going_on, has_ended, hears, is_concluded, is_open_check, is_over as is_over_stage, is_whole, keeps, number_of_outcome, open_check, opening, or_else, outcome_of, placed, progresses, received, receiving, recovered, recovering, refused_with, restarted, rows, rows_of, selected, selection_in, selects, sending, sends_on, standing, step, terminating, told, transfers_by, waits}
use Rattle.vf_initiator.specs.Values.{Saying, before as said_before, is_check_due, is_full, is_more, unless_full, values, with_check, with_value}
use Rattle.vf_initiator.specs.declared.conduct.Conduct.{Conduct}
use Rattle.vf_initiator.specs.declared.conduct.Setting.{Setting}
use Rattle.vf_initiator.specs.declared.doing.Doing.{Doing}
use Rattle.vf_initiator.specs.declared.given.Given.{Given}
use Rattle.vf_initiator.specs.declared.heard.Heard.{Heard}
use Rattle.vf_initiator.specs.declared.heard.Heard.TheVariants as heard
use Rattle.vf_initiator.specs.declared.progress.Progress.{Progress}
use Rattle.vf_initiator.specs.declared.sending.Pace.{Pace}
use Rattle.vf_initiator.specs.declared.stage.Sent.{Sent}
use Rattle.vf_initiator.specs.declared.stage.Stage.{Stage}
use Rattle.vf_initiator.specs.declared.stage.Stage.TheVariants as stages
use Rattle.vf_stack.specs.declared.request.Request.TheVariants.{Acknowledge, Check}
use Rattle.vf_tables.specs.Fitting.{is_sayable}
use Rattle.vf_tables.specs.Validity.{is_over}
use Rattle.vf_tables.specs.declared.limits.TheConstants.{MOST_POINT, MOST_TRANSFERS}
use Rattle.vf_tables.specs.declared.task.Phase.{Phase}
use Rattle.vf_tables.specs.declared.task.Phase.TheVariants.{New, Open, Whole, Concluded}
use Rattle.vf_tables.specs.declared.task.Way.{Way}
use Rattle.vf_tables.specs.declared.task.Way.TheVariants.{Get, Put}
use Rattle.vf_transfer.specs.Transfer.{joined}
use Rattle.vf_tree.specs.FileTree.{octets_of, octets_of_unit}
use Rattle.vf_tree.specs.declared.limits.TheConstants.{MOST_FILE_OCTETS, MOST_FILE_PARTS}
use Rattle.vf_transfer.proofs.Cuts.{joined_append}

-- ---- how far a task has come, and what it has gathered

-- the pieces that a get has by its point, and at its end one more
abbrev pub count_of : (over : Bool) → (point : ℕ) → ℕ
count_of over point = if over then point + 1 else point

abbrev pub IsCounted : Way → (point : ℕ) → Phase → List (List Element) → Type 0
IsCounted Get point phase pieces = length pieces ≡ count_of (is_over phase) point
IsCounted Put point phase pieces = pieces ≡ []

-- these pieces were kept last
abbrev pub IsSince : (before : List (List Element)) → Gathering → Type 0
IsSince before g = g.kept ≡ before

pub record IsCore (before : List (List Element)) (way : Way) (p : Progress) (g : Gathering) : Type 0 where
  pub first : 1 ≤ p.number
  pub most : p.number ≤ MOST_TRANSFERS
  pub point : p.point ≤ MOST_POINT
  pub counted : IsCounted way p.point p.phase g.pieces
  pub within : IsWithin (all_of g)
  pub since : IsSince before g

-- with what is waited for
pub record IsGood (old : List (List Element)) (way : Way) (is_resumed : Bool) (c : Conduct) : Type 0 where
  pub core : IsCore old way c.progress c.gathered
  pub stage : IsAtStage way is_resumed c.progress.phase c.stage

abbrev pub IfStep : List (List Element) → Way → Bool → Option Step → Type 0
IfStep old way is_resumed None = Unit {0}
IfStep old way is_resumed (Some row) = IsGood old way is_resumed row.conduct

-- ---- tests

at_most : (n most : ℕ) → nat_le n most ≡ true → n ≤ most
at_most n most is = grind (arith, nat_tests)

less_than : (n most : ℕ) → nat_lt n most ≡ true → suc n ≤ most
less_than n most is = grind (arith, nat_tests)

equals : (n m : ℕ) → nat_eq n m ≡ true → n ≡ m
equals n m is = grind (arith, nat_tests)

whole_over : (phase : Phase) → is_whole phase ≡ is_over phase
whole_over New = refl
whole_over Open = refl
whole_over Whole = refl
whole_over Concluded = refl

concluded_is : (phase : Phase) → is_concluded phase ≡ true → phase ≡ Concluded
concluded_is New is = absurd cc
concluded_is Open is = absurd cc
concluded_is Whole is = absurd cc
concluded_is Concluded is = refl

either : (t : Bool) (a b : Saying) → (t ≡ true → a.sent.offered ≤ MOST_POINT) → b.sent.offered ≤ MOST_POINT → (if t then a else b).sent.offered ≤ MOST_POINT
either true a b first second = first refl
either false a b first second = second

-- ---- the checks of a put are numbered within their range

due_few : (pace : Pace) (sent : Sent) (serial : ℕ) → is_check_due pace sent serial ≡ true → suc sent.offered ≤ MOST_POINT
due_few pace sent serial is =
    let a = pace.checks && nat_le serial 999999 in
    let b = nat_lt sent.offered MOST_POINT in
    let c = nat_lt 0 pace.every in
    less_than sent.offered MOST_POINT (second_of a b (first_of (a && b) c (first_of (a && b && c) _ is)))

values_few : (pace : Pace) (serial : ℕ) (sent : Sent) (elements : List Element) → sent.offered ≤ MOST_POINT → (values pace serial sent elements).sent.offered ≤ MOST_POINT
values_few pace serial sent [] few = few
values_few pace serial sent (element ∷ rest) few =
    let now = with_value sent in
    either (is_more rest && is_check_due pace now serial)
    (said_before (value element ∷ Check serial ∷ []) (unless_full pace (with_check now) (values pace (serial + 1) (with_check now) rest)))
    (said_before (value element ∷ []) (values pace serial now rest))
    (λ due.
    let more : (with_check now).offered ≤ MOST_POINT = omega (arith, due_few pace now serial (second_of (is_more rest) (is_check_due pace now serial) due)) in
    either (is_full pace (with_check now)) (record { said = []; sent = with_check now }) (values pace (serial + 1) (with_check now) rest) (λ full. more) (values_few pace (serial + 1) (with_check now) rest more))
    (values_few pace serial now rest few)

-- ---- what is heard, and a check that is open

-- an element that comes is one that a store may keep
abbrev pub IsSayable : Heard → Type 0
IsSayable (heard.Value element) = is_sayable element ≡ true
IsSayable message = Unit {0}

open_few_by : (t : Bool) (point : ℕ) → (t ≡ true → point ≤ MOST_POINT) → IfSome (if t then Some point else None) (λ (p : ℕ). p ≤ MOST_POINT)
open_few_by true point few = few refl
open_few_by false point few = tt

-- ---- pieces that come and go

least : (over : Bool) (point : ℕ) → point ≤ count_of over point
least true point = omega arith
least false point = omega arith

none_taken : (n : ℕ) → take {A = List Element} n [] ≡ []
none_taken zero = refl
none_taken (suc n) = refl

module _ (old : List (List Element)) where
  -- nothing comes or goes, and no piece of a get is lacking
  same_pieces : (way : Way) (point : ℕ) (phase later : Phase) (pieces : List (List Element)) → (way ≡ Get → is_over phase ≡ is_over later) → IsCounted way point phase pieces → IsCounted way point later pieces
  same_pieces Get point phase later pieces same counted = counted ∙ ap (λ (over : Bool). count_of over point) (same refl)
  same_pieces Put point phase later pieces same counted = counted

  new_phase : (way : Way) (p : Progress) (g : Gathering) (phase : Phase) (outcome : ℕ) → (way ≡ Get → is_over p.phase ≡ is_over phase) → IsCore old way p g → IsCore old way (record p { phase = phase; outcome = outcome }) g
  new_phase way p g phase outcome same core =
      record { first = core.first; most = core.most; point = core.point; counted = same_pieces way p.point p.phase phase g.pieces same core.counted; within = core.within; since = core.since }

  -- so many pieces are left
  cut_length : (n : ℕ) (pieces : List (List Element)) → n ≤ length pieces → length (take (min n (length pieces)) pieces) ≡ n
  cut_length n pieces few = omega (arith, length-take (min n (length pieces)) pieces)

  cut_counted : (way : Way) (p : Progress) (g : Gathering) (point : ℕ) (later : Phase) → point ≤ p.point → is_over later ≡ false → IsCounted way p.point p.phase g.pieces → IsCounted way point later (cut_to point g).pieces
  cut_counted Get p g point later back going counted =
      let enough : p.point ≤ count_of (is_over p.phase) p.point = least (is_over p.phase) p.point in
      let few : point ≤ length g.pieces = omega (arith, counted, enough) in
      cut_length point g.pieces few ∙ sym (ap (λ (over : Bool). count_of over point) going)
  cut_counted Put p g point later back going counted = ap (take (min point (length g.pieces))) counted ∙ none_taken (min point (length g.pieces))

  cut : (way : Way) (p : Progress) (g : Gathering) (number point : ℕ) (later : Phase) (outcome : ℕ) → point ≤ p.point → is_over later ≡ false → 1 ≤ number → number ≤ MOST_TRANSFERS → IsCore old way p g
      → IsCore old way (record { number = number; point = point; phase = later; outcome = outcome }) (cut_to point g)
  cut way p g number point later outcome back going first most core =
      let kept = within_taken (min point (length g.pieces)) g.pieces g.fresh core.within in
      record {
        first = first;
        most = most;
        point = omega (arith, core.point);
        counted = cut_counted way p g point later back going core.counted;
        within = subst IsWithin (sym (append-nil (joined (take (min point (length g.pieces)) g.pieces)))) kept;
        since = core.since;
      }

  -- a piece more
  kept_all : (g : Gathering) → all_of (kept_whole g) ≡ all_of g
  kept_all g = append-nil (joined (g.pieces ++ g.fresh ∷ [])) ∙ (joined_append g.pieces (g.fresh ∷ []) ∙ ap (λ (l : List Element). joined g.pieces ++ l) (append-nil g.fresh))

  keep : (p p' : Progress) (g : Gathering) → p'.number ≡ p.number → p'.point ≤ MOST_POINT → is_over p.phase ≡ false → suc p.point ≡ count_of (is_over p'.phase) p'.point → IsCore old Get p g → IsCore old Get p' (kept_whole g)
  keep p p' g number few going more core =
      let was : length g.pieces ≡ p.point = core.counted ∙ ap (λ (over : Bool). count_of over p.point) going in
      let now : length (g.pieces ++ g.fresh ∷ []) ≡ suc p.point = omega (arith, length-append g.pieces (g.fresh ∷ []), was) in
      record {
        first = omega (arith, core.first, number);
        most = omega (arith, core.most, number);
        point = few;
        counted = now ∙ more;
        within = subst IsWithin (sym (kept_all g)) core.within;
        since = core.since;
      }

  -- ---- rows that lead on

  module _ (given : Given) where
    abbrev own : Way
    own = given.assignment.way

    abbrev Good : Way → Conduct → Type 0
    Good way c = IsGood old way given.assignment.is_resumed c

    abbrev If : Option Step → Type 0
    If row = IfStep old own given.assignment.is_resumed row

    -- a test of a row
    tested : (t : Bool) (row : Step) → (t ≡ true → Good own row.conduct) → If (if t then Some row else None)
    tested true row good = good refl
    tested false row good = tt

    good_over : (way : Way) (how : Doing) (c : Conduct) → IsCore old way c.progress c.gathered → Good way (ended how c)
    good_over way how c core = record { core = core; stage = tt }

    good_concludes : (way : Way) (c : Conduct) (outcome : Option Diagnostic) → (way ≡ Get → is_over c.progress.phase ≡ true) → IsCore old way c.progress c.gathered → Good way (concludes c outcome).conduct
    good_concludes way c outcome whole core =
        record { core = new_phase way c.progress c.gathered Concluded (number_of_outcome outcome) whole core; stage = refl }

    -- a put sends its values
    good_sends : (s : Setting) (c : Conduct) (sent : Sent) → sent.offered ≤ MOST_POINT → IsCore old Put c.progress c.gathered → Good Put (sends_on given s c sent).conduct
    good_sends s c sent few core =
        let pace : Pace = record { checks = c.agreed.checks && s.token; every = given.assignment.every; window = c.agreed.window; point = c.progress.point } in
        record { core = core; stage = (refl, values_few pace s.serial sent (drop sent.values (values_of given)) few) }

    good_transfers : (way : Way) (s : Setting) (c : Conduct) → is_over c.progress.phase ≡ false → IsCore old way c.progress c.gathered → Good way (transfers_by way given s c).conduct
    good_transfers Put s c going core = good_sends s c (record { start = 0; serial = s.serial; offered = 0; values = 0 * given.assignment.every; is_ended = false }) (omega arith) core
    good_transfers Get s c going core = record { core = core; stage = (refl, going) }

    good_selects : (c : Conduct) → is_over c.progress.phase ≡ false → IsCore old own c.progress c.gathered → Good own (selects given c).conduct
    good_selects c going core = record { core = core; stage = going }

    -- ---- F-INITIALIZE

    good_begins : (s : Setting) (c : Conduct) (is_resumed : Bool) (activity : Option ℕ) (number : ℕ) → activity ≡ Some number → (is_resumed ≡ false → is_over c.progress.phase ≡ false) → IsCore old own c.progress c.gathered
        → Good own (begins_with given s c is_resumed activity).conduct
    good_begins s c true (Some activity) number is going core = record { core = core; stage = tt }
    good_begins s c true None number is going core = absurd cc
    good_begins s c false activity number is going core = good_selects c (going refl) core

    good_associating : (s : Setting) (c : Conduct) (number : ℕ) → given.assignment.activity ≡ Some number → (given.assignment.is_resumed ≡ false → is_over c.progress.phase ≡ false) → IsCore old own c.progress c.gathered
        → (message : Heard) → If (associating given s c message)
    good_associating s c number is going core (heard.Accepted None units window) = good_begins s (agrees given units window c) given.assignment.is_resumed given.assignment.activity number is going core
    good_associating s c number is going core (heard.Accepted (Some diagnostic) units window) = good_over own _ c core
    good_associating s c number is going core (heard.Refused (Some diagnostic)) = good_over own _ c core
    good_associating s c number is going core (heard.Refused None) = tt
    good_associating s c number is going core message = tt

    -- ---- F-SELECT, F-CREATE and F-OPEN

    good_selected : (c : Conduct) → is_over c.progress.phase ≡ false → IsCore old own c.progress c.gathered → (answer : Option (Option Diagnostic)) → If (selected given c answer)
    good_selected c going core None = tt
    good_selected c going core (Some None) = record { core = new_phase own c.progress c.gathered Open c.progress.outcome (λ gets. going) core; stage = refl }
    good_selected c going core (Some (Some diagnostic)) = good_over own _ c core

    good_opening : (s : Setting) (c : Conduct) → is_over c.progress.phase ≡ false → IsCore old own c.progress c.gathered → (message : Heard) → If (opening given s c message)
    good_opening s c going core (heard.Opened None) = good_transfers own s c going core
    good_opening s c going core (heard.Opened (Some diagnostic)) = good_over own _ c core
    good_opening s c going core message = tt

    -- ---- F-RECOVER

    good_goes_on : (way : Way) (s : Setting) (c : Conduct) (point : ℕ) → point ≤ c.progress.point → IsCore old way c.progress c.gathered → Good way (goes_on way given s c point).conduct
    good_goes_on Put s c point back core =
        let few : point ≤ MOST_POINT = omega (arith, core.point) in
        good_sends s (progresses (record c.progress { point = point }) c) (record { start = point; serial = s.serial; offered = point; values = point * given.assignment.every; is_ended = false }) few
        (record { first = core.first; most = core.most; point = few; counted = core.counted; within = core.within; since = core.since })
    good_goes_on Get s c point back core =
        record { core = cut Get c.progress c.gathered c.progress.number point Open c.progress.outcome back refl core.first core.most core; stage = (refl, refl) }

    good_going_on : (s : Setting) (c : Conduct) (number point : ℕ) → IsCore old own c.progress c.gathered → If (going_on given s c number point)
    good_going_on s c number point core =
        tested (nat_eq number c.progress.number && nat_le point c.progress.point) (goes_on own given s c point)
        (λ is. good_goes_on own s c point (at_most point c.progress.point (second_of (nat_eq number c.progress.number) (nat_le point c.progress.point) is)) core)

    -- from its start
    restarts : (way : Way) (p : Progress) (g : Gathering) → IsCore old way p g → IsCore old way (restarted way p) (cut_to 0 g)
    restarts Put p g core =
        record {
          first = core.first;
          most = core.most;
          point = omega arith;
          counted = cut_counted Put p g 0 Open (omega arith) refl core.counted;
          within = subst IsWithin (sym (append-nil (joined (take (min 0 (length g.pieces)) g.pieces)))) (within_taken (min 0 (length g.pieces)) g.pieces g.fresh core.within);
          since = core.since;
        }
    restarts Get p g core = cut Get p g p.number 0 Open p.outcome (omega arith) refl core.first core.most core

    restarts_by : (way : Way) (s : Setting) (c : Conduct) → IsCore old way c.progress c.gathered → Good way (transfers_by way given s (cuts 0 (progresses (restarted way c.progress) c))).conduct
    restarts_by Put s c core =
        good_sends s (cuts 0 (progresses (restarted Put c.progress) c)) (record { start = 0; serial = s.serial; offered = 0; values = 0 * given.assignment.every; is_ended = false }) (omega arith) (restarts Put c.progress c.gathered core)
    restarts_by Get s c core = record { core = restarts Get c.progress c.gathered core; stage = (refl, refl) }

    good_anew : (s : Setting) (c : Conduct) → IsCore old own c.progress c.gathered → Good own (begins_anew given s c).conduct
    good_anew s c core = restarts_by own s c core

    anew_by : (s : Setting) (c : Conduct) (number last : ℕ) (t few : Bool) → is_whole c.progress.phase ≡ t → (few ≡ true → number ≤ MOST_TRANSFERS) → number ≡ c.progress.number + 1 → IsCore old own c.progress c.gathered
        → If (if t then Some (concludes c (outcome_of last)) else if few then Some (begins_anew given s (progresses (record c.progress { number = number }) c)) else None)
    anew_by s c number last true few is most next core = good_concludes own c (outcome_of last) (λ gets. sym (whole_over c.progress.phase) ∙ is) core
    anew_by s c number last false few is most next core =
        tested few (begins_anew given s (progresses (record c.progress { number = number }) c))
        (λ fits.
        let first : 1 ≤ number = omega (arith, next) in
        good_anew s (progresses (record c.progress { number = number }) c)
        (record { first = first; most = most fits; point = core.point; counted = core.counted; within = core.within; since = core.since }))

    good_has_ended : (way : Way) (s : Setting) (c : Conduct) (number last : ℕ) → own ≡ way → number ≡ c.progress.number + 1 → IsCore old own c.progress c.gathered → If (has_ended way given s c number last)
    good_has_ended Put s c number last is next core = good_concludes own c (outcome_of last) (λ gets. absurd (let e : Put ≡ Get = sym is ∙ gets in cc)) core
    good_has_ended Get s c number last is next core =
        anew_by s c number last (is_whole c.progress.phase) (nat_le number MOST_TRANSFERS) refl (λ fits. at_most number MOST_TRANSFERS fits) next core

    stands_by : (s : Setting) (c : Conduct) (number last : ℕ) (same next : Bool) → (next ≡ true → number ≡ c.progress.number + 1) → IsCore old own c.progress c.gathered
        → If (if same then Some (begins_anew given s c) else if next then has_ended own given s c number last else None)
    stands_by s c number last true next is core = good_anew s c core
    stands_by s c number last false true is core = good_has_ended own s c number last refl (is refl) core
    stands_by s c number last false false is core = tt

    good_standing : (s : Setting) (c : Conduct) (number last : ℕ) → IsCore old own c.progress c.gathered → If (standing given s c number last)
    good_standing s c number last core =
        stands_by s c number last (nat_eq number c.progress.number) (nat_eq number (c.progress.number + 1)) (λ is. equals number (c.progress.number + 1) is) core

    good_recovered : (s : Setting) (c : Conduct) (number point : ℕ) (moving : Bool) (last : ℕ) → IsCore old own c.progress c.gathered → If (recovered given s c number point moving last)
    good_recovered s c number point true last core = good_going_on s c number point core
    good_recovered s c number point false last core = good_standing s c number last core

    -- the other end keeps nothing of it
    forgets_by : (c : Conduct) (t : Bool) → (t ≡ true → c.progress.phase ≡ Concluded) → IsCore old own c.progress c.gathered
        → Good own (if t then step (terminate ∷ []) (waits (stages.Terminating (outcome_of c.progress.outcome)) c) else selects given (cuts 0 (progresses new_progress c))).conduct
    forgets_by c true is core = record { core = core; stage = is refl }
    forgets_by c false is core = good_selects (cuts 0 (progresses new_progress c)) refl (cut own c.progress c.gathered 1 0 New 0 (omega arith) refl (omega arith) (omega arith) core)

    good_not_recovered_by : (c : Conduct) (diagnostic : Diagnostic) (t : Bool) → IsCore old own c.progress c.gathered
        → Good own (if t then forgotten given c else step (terminate ∷ []) (refused_with diagnostic c)).conduct
    good_not_recovered_by c diagnostic true core = forgets_by c (is_concluded c.progress.phase) (concluded_is c.progress.phase) core
    good_not_recovered_by c diagnostic false core = good_over own _ c core

    good_recovering : (s : Setting) (c : Conduct) → IsCore old own c.progress c.gathered → (message : Heard) → If (recovering given s c message)
    good_recovering s c core (heard.Recovered None number point moving last) = good_recovered s c number point moving last core
    good_recovering s c core (heard.Recovered (Some diagnostic) number point moving last) = good_not_recovered_by c diagnostic (nat_eq diagnostic.number 27) core
    good_recovering s c core message = tt

    -- ---- a put: acknowledgements

    acknowledges_by : (s : Setting) (c : Conduct) (sent : Sent) (t : Bool) → c.stage ≡ stages.Sending sent → own ≡ Put → sent.offered ≤ MOST_POINT → IsCore old own c.progress c.gathered
        → Good own (if t then step [] c else sends_on given s c sent).conduct
    acknowledges_by s c sent true at puts few core = record { core = core; stage = subst (IsAtStage own given.assignment.is_resumed c.progress.phase) (sym at) (puts, few) }
    acknowledges_by s c sent false at puts few core =
        let good = good_sends s c sent few (subst (λ (w : Way). IsCore old w c.progress c.gathered) puts core) in
        subst (λ (w : Way). Good w (sends_on given s c sent).conduct) (sym puts) good

    good_acknowledged_at : (s : Setting) (c : Conduct) (sent : Sent) (point : Option ℕ) → c.stage ≡ stages.Sending sent → own ≡ Put → sent.offered ≤ MOST_POINT → (IfSome point (λ (p : ℕ). p ≤ MOST_POINT)) → IsCore old own c.progress c.gathered
        → If (acknowledged_at given s c sent point)
    good_acknowledged_at s c sent None at puts few within core = tt
    good_acknowledged_at s c sent (Some point) at puts few within core =
        let empty : IsCounted Put point c.progress.phase c.gathered.pieces = subst (λ (w : Way). IsCounted w c.progress.point c.progress.phase c.gathered.pieces) puts core.counted in
        acknowledges_by s (progresses (record c.progress { point = point }) c) sent sent.is_ended at puts few
        (record { first = core.first; most = core.most; point = within; counted = subst (λ (w : Way). IsCounted w point c.progress.phase c.gathered.pieces) (sym puts) empty; within = core.within; since = core.since })

    open_few : (t : Bool) (sent : Sent) (acknowledged point : ℕ) → sent.offered ≤ MOST_POINT → IfSome (if t && is_open_check sent acknowledged point then Some point else None) (λ (p : ℕ). p ≤ MOST_POINT)
    open_few t sent acknowledged point few = open_few_by (t && is_open_check sent acknowledged point) point
        (λ is. omega (arith, at_most point sent.offered (second_of (nat_lt acknowledged point) (nat_le point sent.offered) (second_of t (is_open_check sent acknowledged point) is))))

    good_sending : (s : Setting) (c : Conduct) (sent : Sent) → c.stage ≡ stages.Sending sent → own ≡ Put → sent.offered ≤ MOST_POINT → IsCore old own c.progress c.gathered → (message : Heard) → If (sending given s c sent message)
    good_sending s c sent at puts few core (heard.Acknowledged serial) =
        good_acknowledged_at s c sent (open_check sent c.progress.point serial) at puts few (open_few (nat_le sent.serial serial) sent c.progress.point (sent.start + (serial - sent.serial) + 1) few) core
    good_sending s c sent at puts few core (heard.TransferEnded diagnostic) =
        tested sent.is_ended (concludes c diagnostic) (λ is. good_concludes own c diagnostic (λ gets. absurd (let e : Put ≡ Get = sym puts ∙ gets in cc)) core)
    good_sending s c sent at puts few core message = tt

    -- ---- a get: values, checks and the end of the data

    said_element : (g : Gathering) (element : Element) → is_sayable element ≡ true → has_room g element ≡ true → IsWithin (all_of g) → IsWithin (all_of (with_element g element))
    said_element g element sayable room within =
        let a = nat_le (octets_of element) MOST_STRING_OCTETS in
        let b = nat_le (octets_of_unit (all_of g) + octets_of element) MOST_FILE_OCTETS in
        let c = nat_lt (length (all_of g)) MOST_FILE_PARTS in
        let two = first_of (a && b) c room in
        let more = within_more (all_of g) element within (both (is_sayable element) a sayable (first_of a b two)) (at_most (octets_of_unit (all_of g) + octets_of element) MOST_FILE_OCTETS (second_of a b two))
        (less_than (length (all_of g)) MOST_FILE_PARTS (second_of (a && b) c room)) in
        subst IsWithin (append_assoc (joined g.pieces) g.fresh (element ∷ [])) more

    abbrev receives_at : Conduct → Type 0
    receives_at c = (own ≡ Get) × (is_over c.progress.phase ≡ false)

    good_gathers : (c : Conduct) (element : Element) → c.stage ≡ stages.Receiving → receives_at c → is_sayable element ≡ true → has_room c.gathered element ≡ true → IsCore old own c.progress c.gathered → Good own (gathers c element)
    good_gathers c element at receives sayable room core =
        record {
          core = record { first = core.first; most = core.most; point = core.point; counted = core.counted; within = said_element c.gathered element sayable room core.within; since = core.since };
          stage = subst (IsAtStage own given.assignment.is_resumed c.progress.phase) (sym at) receives;
        }

    keeps_by : (c : Conduct) (p : Progress) (stage : Stage) → own ≡ Get → p.number ≡ c.progress.number → p.point ≤ MOST_POINT → is_over c.progress.phase ≡ false → suc c.progress.point ≡ count_of (is_over p.phase) p.point
        → IsAtStage own given.assignment.is_resumed p.phase stage → IsCore old own c.progress c.gathered → Good own (waits stage (keeps (progresses p c)))
    keeps_by c p stage gets number few going more at core =
        let kept = keep c.progress p c.gathered number few going more (subst (λ (w : Way). IsCore old w c.progress c.gathered) gets core) in
        record { core = subst (λ (w : Way). IsCore old w p (kept_whole c.gathered)) (sym gets) kept; stage = at }

    good_checked : (c : Conduct) (serial : ℕ) → c.stage ≡ stages.Receiving → receives_at c → IsCore old own c.progress c.gathered → If (checked c serial)
    good_checked c serial at receives core =
        let p = record c.progress { point = c.progress.point + 1 } in
        tested (nat_lt c.progress.point MOST_POINT) (step (Acknowledge serial ∷ []) (keeps (progresses p c)))
        (λ is.
        let few : c.progress.point + 1 ≤ MOST_POINT = omega (arith, less_than c.progress.point MOST_POINT is) in
        let going : count_of (is_over c.progress.phase) (c.progress.point + 1) ≡ c.progress.point + 1 = ap (λ (over : Bool). count_of over (c.progress.point + 1)) receives.1 in
        let more : suc c.progress.point ≡ count_of (is_over c.progress.phase) (c.progress.point + 1) = omega (arith, going) in
        let good = keeps_by c p c.stage receives.0 refl few receives.1 more (subst (IsAtStage own given.assignment.is_resumed c.progress.phase) (sym at) receives) core in
        record { core = good.core; stage = good.stage })

    good_receiving : (c : Conduct) → c.stage ≡ stages.Receiving → receives_at c → IsCore old own c.progress c.gathered → (message : Heard) → IsSayable message → If (receiving c message)
    good_receiving c at receives core (heard.Value element) sayable = tested (has_room c.gathered element) (step [] (gathers c element)) (λ room. good_gathers c element at receives sayable room core)
    good_receiving c at receives core (heard.Check serial) sayable = good_checked c serial at receives core
    good_receiving c at receives core (heard.DataEnded diagnostic) sayable =
        let more : suc c.progress.point ≡ c.progress.point + 1 = omega arith in
        keeps_by c (record c.progress { phase = Whole }) (stages.Received diagnostic) receives.0 refl core.point receives.1 more (receives.0, refl) core
    good_receiving c at receives core message sayable = tt

    good_received : (c : Conduct) (data_end : Option Diagnostic) → is_over c.progress.phase ≡ true → IsCore old own c.progress c.gathered → (message : Heard) → If (received c data_end message)
    good_received c data_end whole core (heard.TransferEnded diagnostic) = good_concludes own c (or_else diagnostic data_end) (λ gets. whole) core
    good_received c data_end whole core message = tt

    -- ---- F-CLOSE, F-DESELECT and F-TERMINATE

    good_closing : (c : Conduct) (outcome : Option Diagnostic) → c.progress.phase ≡ Concluded → IsCore old own c.progress c.gathered → (message : Heard) → If (closing c outcome message)
    good_closing c outcome concluded core (heard.Closed None) = record { core = core; stage = concluded }
    good_closing c outcome concluded core (heard.Closed (Some diagnostic)) = good_over own _ c core
    good_closing c outcome concluded core message = tt

    good_deselecting : (c : Conduct) (outcome : Option Diagnostic) → c.progress.phase ≡ Concluded → IsCore old own c.progress c.gathered → (message : Heard) → If (deselecting c outcome message)
    good_deselecting c outcome concluded core (heard.Deselected None) = record { core = core; stage = concluded }
    good_deselecting c outcome concluded core (heard.Deselected (Some diagnostic)) = good_over own _ c core
    good_deselecting c outcome concluded core message = tt

    good_ended_so : (c : Conduct) (outcome : Option Diagnostic) → IsCore old own c.progress c.gathered → Good own (ended_so outcome c)
    good_ended_so c None core = good_over own _ c core
    good_ended_so c (Some diagnostic) core = good_over own _ c core

    good_terminating : (c : Conduct) (outcome : Option Diagnostic) → IsCore old own c.progress c.gathered → (message : Heard) → If (terminating c outcome message)
    good_terminating c outcome core heard.Terminated = good_ended_so c outcome core
    good_terminating c outcome core message = tt

    -- ---- a message

    good_rows : (s : Setting) (c : Conduct) (number : ℕ) (stage : Stage) (message : Heard) → given.assignment.activity ≡ Some number → c.stage ≡ stage → IsSayable message
        → IsCore old own c.progress c.gathered → IsAtStage own given.assignment.is_resumed c.progress.phase stage → If (rows_of stage given s c message)
    good_rows s c number stages.Associating message is at sayable core here = good_associating s c number is here core message
    good_rows s c number stages.Recovering message is at sayable core here = good_recovering s c core message
    good_rows s c number stages.Selecting message is at sayable core here = good_selected c here core (selection_in own message)
    good_rows s c number stages.Opening message is at sayable core here = good_opening s c here core message
    good_rows s c number (stages.Sending sent) message is at sayable core here = good_sending s c sent at here.0 here.1 core message
    good_rows s c number stages.Receiving message is at sayable core here = good_receiving c at here core message sayable
    good_rows s c number (stages.Received diagnostic) message is at sayable core here = good_received c diagnostic here.1 core message
    good_rows s c number (stages.Closing outcome) message is at sayable core here = good_closing c outcome here core message
    good_rows s c number (stages.Deselecting outcome) message is at sayable core here = good_deselecting c outcome here core message
    good_rows s c number (stages.Terminating outcome) message is at sayable core here = good_terminating c outcome core message
    good_rows s c number (stages.Over how) message is at sayable core here = tt

    good_placed : (c : Conduct) (row : Option Step) → IsCore old own c.progress c.gathered → If row → Good own (placed c row).conduct
    good_placed c None core row = good_over own _ c core
    good_placed c (Some row) core good = record { core = good.core; stage = good.stage }

    good_told : (s : Setting) (c : Conduct) (number : ℕ) (message : Heard) → given.assignment.activity ≡ Some number → IsSayable message → Good own c → Good own (told given s c message).conduct
    good_told s c number (heard.Faulty layer name at) is sayable good = good_over own _ c good.core
    good_told s c number (heard.Aborted abort) is sayable good = good_over own _ c good.core
    good_told s c number message is sayable good = good_placed c (rows given s c message) good.core (good_rows s c number c.stage message is refl sayable good.core good.stage)

    heard_by : (s : Setting) (c : Conduct) (number : ℕ) (message : Heard) (t : Bool) → given.assignment.activity ≡ Some number → IsSayable message → Good own c → Good own (if t then step [] c else told given s c message).conduct
    heard_by s c number message true is sayable good = good
    heard_by s c number message false is sayable good = good_told s c number message is sayable good

    pub good_hears : (s : Setting) (c : Conduct) (number : ℕ) (message : Heard) → given.assignment.activity ≡ Some number → IsSayable message → Good own c → Good own (hears given s c message).conduct
    good_hears s c number message is sayable good = heard_by s c number message (is_over_stage c.stage) is sayable good
