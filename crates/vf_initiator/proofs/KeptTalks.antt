-- A task is kept, from the beginning of its talk and by each call.
use Rattle.std.proofs.Common.{◌≡◌, ◌≤◌, ℕ, zero, suc, Bool, true, false, ◌&&◌, not, nat_eq, nat_le, nat_lt, if◌then◌else◌, List, [], ◌∷◌, ◌++◌, length, take, take_all, drop, refl, sym, ap, subst, ◌∙◌, append-nil, take-append-drop, length-take, is_some, arith, Option, None, Some, ◌⊎◌, inl, inr}
use Rattle.std.specs.List.{list_all}
use Rattle.std.proofs.lemmas.Bool.Decides.{nat_tests}
use Rattle.vf_base.specs.declared.element.Element.{Element}
use Rattle.vf_base.specs.declared.element.Element.TheVariants as elements
use Rattle.vf_initiator.proofs.Ended.{looked}
use Rattle.vf_initiator.proofs.Gathers.{AreKept, IsWithin, is_within as within_file, pieces_kept_of, within_by, within_front, within_kept}
use Rattle.vf_initiator.proofs.Kept.{common_least, common_same}
use Rattle.vf_initiator.proofs.KeptRows.{IsCounted, IsGood, IsSayable, IsSince, count_of, good_hears}
use Rattle.vf_initiator.proofs.TaskChanges.{Leads, fit_dropped, leads_cut, leads_none, leads_row, leads_stages, leads_then, valid_dropped, valid_put, with_one}
use Rattle.vf_initiator.proofs.TaskEntries.{both, dropped_none, first_of, put_same, second_of}
use Rattle.vf_initiator.specs.Assignments.{assignment_of, given_of, kept_pieces, kept_values, progress_of, row_of, way_in}
use Rattle.vf_initiator.specs.Gathering.{all_of, common, marked}
use Rattle.vf_initiator.specs.Hearing.{accepted_in, heard_in, heard_of_pdu}
use Rattle.vf_initiator.specs.Keepable.{BeginsKept, LeadTo, MayKeep, StandsAsKept, TakesKept, are_pieces, is_keepable, with_kept}
use Rattle.vf_initiator.specs.Keeping.{changes_by, changes_of, cut_change, is_same_phase, is_same_progress, mark_of, piece_changes, row_change, stages_from}
use Rattle.vf_initiator.specs.Owed.{unless_ended, unless_spent}
use Rattle.vf_initiator.specs.Represents.{resumed}
use Rattle.vf_initiator.specs.Rows.{ended, is_over as is_over_stage}
use Rattle.vf_initiator.specs.Says.{activity_after, activity_kept, beginning, doing_in, pieces_kept, task_at, task_under}
use Rattle.vf_initiator.specs.Talking.{AnswersAll, Greets, Takes, TakesNext, TakesOctet, Talk, received_next, released, setting_of, within_budget}
use Rattle.vf_initiator.specs.declared.conduct.Conduct.{Conduct}
use Rattle.vf_initiator.specs.declared.doing.Doing.{Doing}
use Rattle.vf_initiator.specs.declared.doing.Doing.TheVariants as doings
use Rattle.vf_initiator.specs.declared.doing.TaskError.TheVariants as errors
use Rattle.vf_initiator.specs.declared.given.Given.{Given}
use Rattle.vf_initiator.specs.declared.initiator.TheConstants.{BUDGET}
use Rattle.vf_initiator.specs.declared.plan.Plan.{Plan}
use Rattle.vf_initiator.specs.declared.progress.Progress.{Progress}
use Rattle.vf_initiator.specs.declared.stage.Stage.{Stage}
use Rattle.vf_initiator.specs.declared.stage.Stage.TheVariants as stages
use Rattle.vf_pdu.specs.declared.pdu.Pdu.{Pdu}
use Rattle.vf_pdu.specs.declared.pdu.Pdu.TheVariants as pdus
use Rattle.vf_session.specs.declared.units.TokenSide.TheVariants.{Initiator}
use Rattle.vf_stack.specs.Association.{is_ended}
use Rattle.vf_stack.specs.Ranges.{AreRead, IsRead}
use Rattle.vf_stack.specs.Receiving.{octets_received}
use Rattle.vf_stack.specs.declared.indication.Indication.{Indication}
use Rattle.vf_stack.specs.declared.indication.Indication.TheVariants as told
use Rattle.vf_stack.specs.declared.indication.Item.TheVariants as items
use Rattle.vf_stack.specs.declared.request.Request.{Request}
use Rattle.vf_stack.proofs.ReadLemmas.{octets-read}
use Rattle.vf_tables.specs.Entries.{dropped, is_task, task_of}
use Rattle.vf_tables.specs.Fitting.{all_fit, is_activity, is_plan, is_within}
use Rattle.vf_tables.specs.Snapshot.{task_stages_after}
use Rattle.vf_tables.specs.Changes.{after_all}
use Rattle.vf_tables.specs.Sums.{elements_staged, octets_staged}
use Rattle.vf_tables.specs.Validity.{is_over, is_valid, is_valid_task, pieces_for}
use Rattle.vf_tables.specs.declared.change.Change.{Change}
use Rattle.vf_tables.specs.declared.change.Change.TheVariants.{PutTask, CutTask}
use Rattle.vf_tables.specs.declared.limits.TheConstants.{MOST_EVERY, MOST_POINT, MOST_TRANSFERS}
use Rattle.vf_tables.specs.declared.tables.Tables.{Tables}
use Rattle.vf_tables.specs.declared.task.Phase.{Phase}
use Rattle.vf_tables.specs.declared.task.Phase.TheVariants.{New, Open, Whole, Concluded}
use Rattle.vf_tables.specs.declared.task.Plan as kept_plans
use Rattle.vf_tables.specs.declared.task.Task.{Task as KeptTask}
use Rattle.vf_tables.specs.declared.task.Way.{Way}
use Rattle.vf_tables.specs.declared.task.Way.TheVariants.{Get, Put}
use Rattle.vf_transfer.specs.Transfer.{joined}
use Rattle.vf_tree.specs.FileTree.{octets_of}
use Rattle.vf_tree.specs.declared.limits.TheConstants.{MOST_FILE_OCTETS, MOST_FILE_PARTS}
use Rattle.vf_base.specs.declared.limits.TheConstants.{MOST_STRING_OCTETS}

-- ---- a task that may be kept, part by part

pub record Parts (task : KeptTask) : Type 0 where
  pub active : is_activity task.plan.activity ≡ true
  pub kind : is_within 1 3 task.plan.kind ≡ true
  pub every : is_within 1 MOST_EVERY task.plan.every ≡ true
  pub first : 1 ≤ task.plan.number
  pub most : task.plan.number ≤ MOST_TRANSFERS
  pub point : task.plan.point ≤ MOST_POINT
  pub counted : nat_eq (length task.staged) (pieces_for task.plan.way task.plan.point task.plan.phase) ≡ true
  pub pieces : AreKept task.staged

at_most : (n most : ℕ) → nat_le n most ≡ true → n ≤ most
at_most n most is = grind (arith, nat_tests)

is_at_most : (n most : ℕ) → n ≤ most → nat_le n most ≡ true
is_at_most n most few = grind (arith, nat_tests)

equals : (n m : ℕ) → nat_eq n m ≡ true → n ≡ m
equals n m is = grind (arith, nat_tests)

is_equal : (n m : ℕ) → n ≡ m → nat_eq n m ≡ true
is_equal n m is = grind (arith, nat_tests)

abbrev are_short : List (List Element) → Bool
are_short pieces = list_all (λ (piece : List Element). list_all (λ (element : Element). nat_le (octets_of element) MOST_STRING_OCTETS) piece) pieces

parts_of : (task : KeptTask) → is_keepable task ≡ true → Parts task
parts_of task is =
    let plan = task.plan in
    let a = is_activity plan.activity in
    let b = is_within 1 3 plan.kind in
    let c = is_within 1 MOST_EVERY plan.every in
    let d = is_within 1 MOST_TRANSFERS plan.number in
    let e = nat_le plan.point MOST_POINT in
    let row = is_plan plan in
    let sayable = are_pieces task.staged in
    let valid = is_valid_task task in
    let two = first_of (row && sayable) valid is in
    let to_e = first_of row sayable two in
    let to_d = first_of (a && b && c && d) e to_e in
    let to_c = first_of (a && b && c) d to_d in
    let to_b = first_of (a && b) c to_c in
    let f = nat_eq (length task.staged) (pieces_for plan.way plan.point plan.phase) in
    let g = are_short task.staged in
    let h = nat_le (octets_staged task.staged) MOST_FILE_OCTETS in
    let i = nat_le (elements_staged task.staged) MOST_FILE_PARTS in
    let to_i = second_of (row && sayable) valid is in
    let to_h = first_of (f && g && h) i to_i in
    let to_g = first_of (f && g) h to_h in
    let numbers = second_of (a && b && c) d to_d in
    record {
      active = first_of a b to_b;
      kind = second_of a b to_b;
      every = second_of (a && b) c to_c;
      first = at_most 1 plan.number (first_of (nat_le 1 plan.number) (nat_le plan.number MOST_TRANSFERS) numbers);
      most = at_most plan.number MOST_TRANSFERS (second_of (nat_le 1 plan.number) (nat_le plan.number MOST_TRANSFERS) numbers);
      point = at_most plan.point MOST_POINT (second_of (a && b && c && d) e to_e);
      counted = first_of f g to_g;
      pieces = record {
        sayable = second_of row sayable two;
        short = second_of f g to_g;
        octets = second_of (f && g) h to_h;
        parts = second_of (f && g && h) i to_i;
      };
    }

row_good : (task : KeptTask) → Parts task → is_plan task.plan ≡ true
row_good task p =
    let plan = task.plan in
    let a = is_activity plan.activity in
    let b = is_within 1 3 plan.kind in
    let c = is_within 1 MOST_EVERY plan.every in
    let d = is_within 1 MOST_TRANSFERS plan.number in
    let number : d ≡ true = both (nat_le 1 plan.number) (nat_le plan.number MOST_TRANSFERS) (is_at_most 1 plan.number p.first) (is_at_most plan.number MOST_TRANSFERS p.most) in
    both (a && b && c && d) (nat_le plan.point MOST_POINT) (both (a && b && c) d (both (a && b) c (both a b p.active p.kind) p.every) number) (is_at_most plan.point MOST_POINT p.point)

task_good : (task : KeptTask) → Parts task → is_valid_task task ≡ true
task_good task p =
    let f = nat_eq (length task.staged) (pieces_for task.plan.way task.plan.point task.plan.phase) in
    let g = are_short task.staged in
    let h = nat_le (octets_staged task.staged) MOST_FILE_OCTETS in
    both (f && g && h) (nat_le (elements_staged task.staged) MOST_FILE_PARTS) (both (f && g) h (both f g p.counted p.pieces.short) p.pieces.octets) p.pieces.parts

keepable_by : (task : KeptTask) → Parts task → is_keepable task ≡ true
keepable_by task p = both (is_plan task.plan && are_pieces task.staged) (is_valid_task task) (both (is_plan task.plan) (are_pieces task.staged) (row_good task p) p.pieces.sayable) (task_good task p)

-- ---- a task that may be kept, and how the initiator stands

module _ (given : Given) (activity : ℕ) where
  abbrev own : Way
  own = given.assignment.way

  counted_by : (way : Way) (point : ℕ) (phase : Phase) (pieces : List (List Element)) → nat_eq (length (pieces_kept way given pieces)) (pieces_for way point phase) ≡ true → (way ≡ Put → pieces ≡ []) → IsCounted way point phase pieces
  counted_by Get point phase pieces is nothing = equals (length pieces) (count_of (is_over phase) point) is
  counted_by Put point phase pieces is nothing = nothing refl

  count_by : (way : Way) (point : ℕ) (phase : Phase) (pieces : List (List Element)) → IsCounted way point phase pieces → nat_eq (length (pieces_kept way given pieces)) (pieces_for way point phase) ≡ true
  count_by Get point phase pieces counted = is_equal (length pieces) (count_of (is_over phase) point) counted
  count_by Put point phase pieces counted = refl

  pieces_by : (way : Way) (before pieces : List (List Element)) (fresh : List Element) → AreKept (pieces_kept way given before) → IsWithin (joined pieces ++ fresh) → AreKept (pieces_kept way given pieces)
  pieces_by Get before pieces fresh kept within = pieces_kept_of pieces (within_front (joined pieces) fresh within)
  pieces_by Put before pieces fresh kept within = kept

  none_by : (point : ℕ) (phase : Phase) (pieces : List (List Element)) → IsCounted own point phase pieces → own ≡ Put → pieces ≡ []
  none_by point phase pieces counted puts = subst (λ (w : Way). IsCounted w point phase pieces) puts counted

  -- as a call begins
  good_at : (c : Conduct) → MayKeep given activity c → IsGood c.gathered.pieces own given.assignment.is_resumed (record c { gathered = marked c.gathered })
  good_at c may =
      let parts = parts_of (task_at given c activity) may.keepable in
      record {
        core = record {
          first = parts.first;
          most = parts.most;
          point = parts.point;
          counted = counted_by own c.progress.point c.progress.phase c.gathered.pieces parts.counted may.nothing;
          within = within_by (all_of c.gathered) may.within;
          since = refl;
        };
        stage = may.stage;
      }

  parts_at : (before : Conduct) (old : List (List Element)) (c : Conduct) → Parts (task_at given before activity) → IsGood old own given.assignment.is_resumed c → Parts (task_at given c activity)
  parts_at before old c was good =
      record {
        active = was.active;
        kind = was.kind;
        every = was.every;
        first = good.core.first;
        most = good.core.most;
        point = good.core.point;
        counted = count_by own c.progress.point c.progress.phase c.gathered.pieces good.core.counted;
        pieces = pieces_by own before.gathered.pieces c.gathered.pieces c.gathered.fresh was.pieces good.core.within;
      }

  -- after it
  may_keep : (before : Conduct) (old : List (List Element)) (c : Conduct) → Parts (task_at given before activity) → IsGood old own given.assignment.is_resumed c → MayKeep given activity c
  may_keep before old c was good =
      record {
        keepable = keepable_by (task_at given c activity) (parts_at before old c was good);
        within = within_file (all_of c.gathered) good.core.within;
        nothing = none_by c.progress.point c.progress.phase c.gathered.pieces good.core.counted;
        stage = good.stage;
      }

-- ---- what is told is such that it may be kept

pdu_sayable : (pdu : Pdu) → IsSayable (heard_of_pdu pdu)
pdu_sayable (pdus.SelectResponse diagnostic) = tt
pdu_sayable (pdus.DeselectResponse diagnostic) = tt
pdu_sayable (pdus.CreateResponse diagnostic) = tt
pdu_sayable (pdus.OpenResponse diagnostic contents) = tt
pdu_sayable (pdus.CloseResponse diagnostic) = tt
pdu_sayable (pdus.RecoverResponse diagnostic number point moving last) = tt
pdu_sayable (pdus.DataEnd diagnostic) = tt
pdu_sayable (pdus.TransferEndResponse diagnostic) = tt
pdu_sayable pdu = tt

accepted_sayable : (pdu : Pdu) → IsSayable (accepted_in pdu)
accepted_sayable (pdus.InitializeResponse diagnostic units window) = tt
accepted_sayable pdu = tt

heard_sayable : (indication : Indication) → IsRead indication → IsSayable (heard_in indication)
heard_sayable (told.Accepted sync pdu) read = accepted_sayable pdu
heard_sayable (told.Item (items.Pdu pdu)) read = pdu_sayable pdu
heard_sayable (told.Item (items.Element (elements.Text class octets))) read = read
heard_sayable (told.Item (items.Element (elements.Descriptor name filled))) read = refl
heard_sayable (told.Item (items.Element elements.Enter)) read = refl
heard_sayable (told.Item (items.Element elements.Exit)) read = refl
heard_sayable (told.Item (items.Element (elements.Binary octets))) read = refl
heard_sayable indication read = tt

-- ---- octets, one by one

module _ (given : Given) (offer : Bool) (old : List (List Element)) (activity : ℕ) (active : given.assignment.activity ≡ Some activity) where
  abbrev Good : Conduct → Type 0
  Good c = IsGood old given.assignment.way given.assignment.is_resumed c

  good_greets : (talk : Talk) (greeting : Option Request) (octets : List ℕ) (talk' : Talk) → Greets offer talk greeting octets talk' → Good talk.conduct → Good talk'.conduct
  good_greets talk None octets talk' greets good = subst (λ (t : Talk). Good t.conduct) (sym greets.1) good
  good_greets talk (Some request) octets talk' (inl sent) good = subst (λ (t : Talk). Good t.conduct) (sym sent.2) good
  good_greets talk (Some request) octets talk' (inr left) good = subst (λ (t : Talk). Good t.conduct) (sym left.2) good

  good_answers : (talk : Talk) (heard : List Indication) (octets : List ℕ) (talk' : Talk) → AnswersAll given offer talk heard octets talk' → AreRead heard → Good talk.conduct → Good talk'.conduct
  good_answers talk [] octets talk' answers read good = subst (λ (t : Talk). Good t.conduct) (sym answers.1) good
  good_answers talk (indication ∷ later) octets talk' answers read good =
      let next = good_hears old given (setting_of talk.association) talk.conduct activity (heard_in indication) active (heard_sayable indication read.0) good in
      good_answers answers.2 later answers.1 talk' answers.3.1 read.1 (subst (λ (t : Talk). Good t.conduct) (sym answers.3.0.1.1) next)

  good_unless : (t : Bool) (how : Doing) (c : Conduct) → Good c → Good (if t then ended how c else c)
  good_unless true how c good = record { core = good.core; stage = tt }
  good_unless false how c good = good

  good_looked : (talk : Talk) → Good talk.conduct → Good (within_budget (released talk)).conduct
  good_looked talk good =
      let is_ended_now = is_ended talk.association.exchange.ending in
      let c = unless_ended is_ended_now talk.conduct in
      let one = good_unless (not (is_over_stage talk.conduct.stage) && is_ended_now) (doings.Failed (errors.OutOfPlace talk.conduct.good)) talk.conduct good in
      let two : Good (unless_spent (length talk.association.stream) c) = good_unless (not (is_over_stage c.stage) && nat_le BUDGET (length talk.association.stream)) (doings.Failed errors.Budget) c one in
      subst (λ (t : Talk). Good t.conduct) (sym (looked talk)) two

  good_next : (talk : Talk) (octet : ℕ) (octets : List ℕ) (talk' : Talk) → TakesNext given offer talk octet octets talk' → Good talk.conduct → Good talk'.conduct
  good_next talk octet octets talk' takes good =
      let greeted = good_greets (received_next talk octet) talk.greeting takes.greeting_octets takes.greeted takes.greets good in
      let answered = good_answers takes.greeted (octets_received Initiator talk.association (octet ∷ [])).indications takes.answer_octets takes.answered takes.answers (octets-read Initiator talk.association (octet ∷ [])) greeted in
      subst (λ (t : Talk). Good t.conduct) (sym takes.talk_is) (good_looked takes.answered answered)

  good_octet : (talk : Talk) (octet : ℕ) (octets : List ℕ) (talk' : Talk) (over : Bool) → TakesOctet given offer talk octet octets talk' over → Good talk.conduct → Good talk'.conduct
  good_octet talk octet octets talk' true takes good = subst (λ (t : Talk). Good t.conduct) (sym takes.1) good
  good_octet talk octet octets talk' false takes good = good_next talk octet octets talk' takes good

  good_takes : (talk : Talk) (piece octets : List ℕ) (talk' : Talk) → Takes given offer talk piece octets talk' → Good talk.conduct → Good talk'.conduct
  good_takes talk [] octets talk' takes good = subst (λ (t : Talk). Good t.conduct) (sym takes.1) good
  good_takes talk (octet ∷ piece) octets talk' takes good =
      good_takes takes.2 piece takes.1 talk' takes.3.1 (good_octet talk octet takes.0 takes.2 (is_over_stage talk.conduct.stage) takes.3.0 good)

  -- a task that is over stays so
  octet_over : (talk : Talk) (octet : ℕ) (octets : List ℕ) (talk' : Talk) (over : Bool) → over ≡ true → TakesOctet given offer talk octet octets talk' over → talk' ≡ talk
  octet_over talk octet octets talk' true is takes = takes.1
  octet_over talk octet octets talk' false is takes = absurd cc

  over_stays : (talk : Talk) (piece octets : List ℕ) (talk' : Talk) → Takes given offer talk piece octets talk' → is_over_stage talk.conduct.stage ≡ true → talk' ≡ talk
  over_stays talk [] octets talk' takes over = takes.1
  over_stays talk (octet ∷ piece) octets talk' takes over =
      let same = octet_over talk octet takes.0 takes.2 (is_over_stage talk.conduct.stage) over takes.3.0 in
      over_stays takes.2 piece takes.1 talk' takes.3.1 (subst (λ (t : Talk). is_over_stage t.conduct.stage ≡ true) (sym same) over) ∙ same

-- ---- a row that changes, a cut and new pieces

same_phase : (one other : Phase) → is_same_phase one other ≡ true → one ≡ other
same_phase New New is = refl
same_phase Open Open is = refl
same_phase Whole Whole is = refl
same_phase Concluded Concluded is = refl
same_phase one other is = absurd cc

same_progress : (one other : Progress) → is_same_progress one other ≡ true → one ≡ other
same_progress one other is =
    let a = nat_eq one.number other.number in
    let b = nat_eq one.point other.point in
    let c = is_same_phase one.phase other.phase in
    let d = nat_eq one.outcome other.outcome in
    let to_c = first_of (a && b && c) d is in
    let to_b = first_of (a && b) c to_c in
    let number : one.number ≡ other.number = equals one.number other.number (first_of a b to_b) in
    let point : one.point ≡ other.point = equals one.point other.point (second_of a b to_b) in
    let phase : one.phase ≡ other.phase = same_phase one.phase other.phase (second_of (a && b) c to_c) in
    let outcome : one.outcome ≡ other.outcome = equals one.outcome other.outcome (second_of (a && b && c) d is) in
    λ i. record { number = number i; point = point i; phase = phase i; outcome = outcome i }

none_dropped : (n : ℕ) → drop {A = List Element} n [] ≡ []
none_dropped zero = refl
none_dropped (suc n) = refl

all_left : (p : List Element → Bool) (n : ℕ) (xs : List (List Element)) → list_all p xs ≡ true → list_all p (drop n xs) ≡ true
all_left p zero xs all = all
all_left p (suc n) [] all = refl
all_left p (suc n) (x ∷ xs) all = all_left p n xs (second_of (p x) (list_all p xs) all)

module _ (given : Given) (activity : ℕ) (tables : Tables) where
  -- the task as it stands by its row and its pieces
  abbrev task_by : Way → Progress → List (List Element) → KeptTask
  task_by way progress pieces = record { plan = row_of given.assignment activity progress; staged = pieces_kept way given pieces }

  abbrev meant_is : is_task activity (task_by given.assignment.way (record { number = 0; point = 0; phase = New; outcome = 0 }) []) ≡ true
  meant_is = is_equal activity activity refl

  row_leads : (staged : List (List Element)) (before now : Progress) (t : Bool) → is_same_progress before now ≡ t → is_plan (row_of given.assignment activity now) ≡ true
      → Leads tables activity (record { plan = row_of given.assignment activity before; staged = staged }) (if t then [] else PutTask (row_of given.assignment activity now) ∷ [])
      (record { plan = row_of given.assignment activity now; staged = staged })
  row_leads staged before now true same good =
      leads_none tables activity (record { plan = row_of given.assignment activity before; staged = staged }) (record { plan = row_of given.assignment activity now; staged = staged })
      (ap (λ (p : Progress). record { plan = row_of given.assignment activity p; staged = staged }) (same_progress before now same))
  row_leads staged before now false same good = leads_row tables (row_of given.assignment activity now) (record { plan = row_of given.assignment activity before; staged = staged }) meant_is good

  cut_leads : (row : kept_plans.Plan) (pieces : List (List Element)) (standing : ℕ) (t : Bool) → nat_lt standing (length pieces) ≡ t → is_task activity (record { plan = row; staged = pieces }) ≡ true → is_activity activity ≡ true
      → Leads tables activity (record { plan = row; staged = pieces }) (if t then CutTask activity standing ∷ [] else []) (record { plan = row; staged = take standing pieces })
  cut_leads row pieces standing true less meant active = leads_cut tables activity standing (record { plan = row; staged = pieces }) meant active
  cut_leads row pieces standing false less meant active =
      let all : length pieces ≤ standing = grind (arith, nat_tests) in
      leads_none tables activity (record { plan = row; staged = pieces }) (record { plan = row; staged = take standing pieces })
      (ap (λ (staged : List (List Element)). record { plan = row; staged = staged }) (sym (take_all standing pieces all)))

  none_change : (pieces : List (List Element)) (standing before : ℕ) → pieces ≡ [] → before ≡ 0 → cut_change activity standing before ++ stages_from activity standing pieces ≡ []
  none_change pieces standing before nothing none =
      let no_cut : nat_lt standing before ≡ false = grind (arith, nat_tests) in
      ap (λ (t : Bool). (if t then CutTask activity standing ∷ [] else []) ++ stages_from activity standing pieces) no_cut
      ∙ (ap (λ (l : List (List Element)). stages_from activity standing l) nothing ∙ ap (λ (l : List (List Element)). task_stages_after Get activity standing l) (none_dropped standing))

  pieces_lead : (way : Way) (now : Progress) (before pieces : List (List Element)) (standing : ℕ) → given.assignment.way ≡ way → is_activity activity ≡ true → are_pieces (pieces_kept way given pieces) ≡ true
      → (way ≡ Put → (before ≡ []) × (pieces ≡ [])) → standing ≤ length before → take standing pieces ≡ take standing before
      → Leads tables activity (task_by way now before) (cut_change activity standing (length before) ++ stages_from activity standing pieces) (task_by way now pieces)
  pieces_lead Get now before pieces standing gets active sayable nothing among same =
      let row = row_of given.assignment activity now in
      let cut : KeptTask = record { plan = row; staged = take standing before } in
      let counted : standing ≡ length (take standing before) = omega (arith, length-take standing before) in
      let stages = leads_stages tables activity standing (drop standing pieces) cut meant_is active gets counted (all_left _ standing pieces sayable) in
      let whole : take standing before ++ drop standing pieces ≡ pieces = ap (λ (l : List (List Element)). l ++ drop standing pieces) (sym same) ∙ take-append-drop standing pieces in
      let last : Leads tables activity cut (stages_from activity standing pieces) (record { plan = row; staged = pieces }) =
      subst (λ (staged : List (List Element)). Leads tables activity cut (stages_from activity standing pieces) (record { plan = row; staged = staged })) whole stages in
      leads_then tables activity (record { plan = row; staged = before }) cut (record { plan = row; staged = pieces }) (cut_change activity standing (length before)) (stages_from activity standing pieces)
      (cut_leads row before standing (nat_lt standing (length before)) refl meant_is active) last
  pieces_lead Put now before pieces standing puts active sayable nothing among same =
      let none = nothing refl in
      subst (λ (changes : List Change). Leads tables activity (task_by Put now before) changes (task_by Put now pieces)) (sym (none_change pieces standing (length before) none.1 (ap length none.0)))
      (leads_none tables activity (task_by Put now before) (task_by Put now pieces) refl)

  -- the changes of a task that is kept on
  kept_lead : (c now : Conduct) → Parts (task_at given now activity) → (given.assignment.way ≡ Put → (c.gathered.pieces ≡ []) × (now.gathered.pieces ≡ [])) → IsSince c.gathered.pieces now.gathered
      → Leads tables activity (task_at given c activity) (changes_of given (mark_of given c) now activity) (task_at given now activity)
  kept_lead c now parts nothing since =
      let way = given.assignment.way in
      let before = c.gathered.pieces in
      leads_then tables activity (task_at given c activity) (task_by way now.progress before) (task_at given now activity) (row_change given activity c.progress now.progress)
      (piece_changes activity now.gathered.kept now.gathered.pieces)
      (row_leads (pieces_kept way given before) c.progress now.progress (is_same_progress c.progress now.progress) refl (row_good (task_at given now activity) parts))
      (subst (λ (kept : List (List Element)). Leads tables activity (task_by way now.progress before) (piece_changes activity kept now.gathered.pieces) (task_at given now activity)) (sym since)
      (pieces_lead way now.progress before now.gathered.pieces (common before now.gathered.pieces) refl parts.active parts.pieces.sayable nothing (common_least before now.gathered.pieces)
      (common_same before now.gathered.pieces)))

-- ---- whether the task is kept

kept_or : (how : Doing) (activity : Option ℕ) → (activity_after how activity ≡ activity) ⊎ (activity_after how activity ≡ None)
kept_or doings.Going activity = inl refl
kept_or doings.Ended activity = inr refl
kept_or (doings.Failed (errors.Refused diagnostic)) activity = inr refl
kept_or (doings.Failed fault) activity = inl refl

kept_over : (stage : Stage) (activity : ℕ) → activity_kept stage (Some activity) ≡ None → is_over_stage stage ≡ true
kept_over (stages.Over how) activity none = refl
kept_over stage activity none = absurd cc

module _ (given : Given) (activity : ℕ) (c now : Conduct) (parts : Parts (task_at given now activity)) (nothing : given.assignment.way ≡ Put → (c.gathered.pieces ≡ []) × (now.gathered.pieces ≡ []))
    (since : IsSince c.gathered.pieces now.gathered) (tables : Tables) (valid : is_valid tables ≡ true) where
  abbrev Leads_by : (before after : Option ℕ) → Type 0
  Leads_by before after = LeadTo tables (changes_by given (mark_of given c) now before after) (with_kept activity (task_under given now after) tables)

  stays_on : task_of activity tables ≡ Some (task_at given c activity) → Leads_by (Some activity) (Some activity)
  stays_on found =
      let task = task_at given c activity in
      let changes = changes_of given (mark_of given c) now activity in
      let leads = kept_lead given activity tables c now parts nothing since in
      let same : with_one activity task tables ≡ tables = ap (λ (tasks : List KeptTask). record tables { tasks = tasks }) (put_same (is_task activity) task tables.tasks found) in
      record {
        fit = subst (λ (t : Tables). all_fit t changes ≡ true) same leads.fit;
        lead = subst (λ (t : Tables). after_all t changes ≡ with_one activity (task_at given now activity) tables) same leads.lead;
        valid = valid_put tables activity task (task_at given now activity) valid found refl (task_good (task_at given now activity) parts);
      }

  drops : task_of activity tables ≡ Some (task_at given c activity) → Leads_by (Some activity) None
  drops found =
      record { fit = fit_dropped tables activity (task_at given c activity) found parts.active; lead = refl; valid = valid_dropped tables activity valid }

  stays_none : (after : Option ℕ) → after ≡ None → task_of activity tables ≡ None → LeadTo tables [] (with_kept activity (task_under given now after) tables)
  stays_none None is found =
      let same : tables ≡ record tables { tasks = dropped (is_task activity) tables.tasks } = ap (λ (tasks : List KeptTask). record tables { tasks = tasks }) (sym (dropped_none (is_task activity) tables.tasks found)) in
      record { fit = refl; lead = same; valid = valid_dropped tables activity valid }
  stays_none (Some other) is found = absurd cc

  abbrev After : (kept : Option ℕ) → Type 0
  After kept = task_of activity tables ≡ task_under given c kept → LeadTo tables (changes_by given (mark_of given c) now kept (activity_kept now.stage kept)) (with_kept activity (task_under given now (activity_kept now.stage (Some activity))) tables)

  goes_by : (activity_kept now.stage (Some activity) ≡ Some activity) ⊎ (activity_kept now.stage (Some activity) ≡ None) → After (Some activity)
  goes_by (inl on) found = subst (λ (k : Option ℕ). Leads_by (Some activity) k) (sym on) (stays_on found)
  goes_by (inr none) found = subst (λ (k : Option ℕ). Leads_by (Some activity) k) (sym none) (drops found)

  stays_by : (activity_kept c.stage (Some activity) ≡ Some activity) ⊎ (activity_kept c.stage (Some activity) ≡ None) → (is_over_stage c.stage ≡ true → now.stage ≡ c.stage) → After (activity_kept c.stage (Some activity))
  stays_by (inl on) over = subst After (sym on) (goes_by (kept_or (doing_in now.stage) (Some activity)))
  stays_by (inr none) over =
      let same = over (kept_over c.stage activity none) in
      subst After (sym none) (λ found. stays_none (activity_kept now.stage (Some activity)) (ap (λ (s : Stage). activity_kept s (Some activity)) same ∙ none) found)

-- ---- the laws

pub takes_kept : (given : Given) (offer : Bool) (activity : ℕ) (talk : Talk) (piece octets : List ℕ) (talk' : Talk) → TakesKept given offer activity talk piece octets talk'
takes_kept given offer activity talk piece octets talk' active may takes =
    let old = talk.conduct.gathered.pieces in
    let now = talk'.conduct in
    let was = parts_of (task_at given talk.conduct activity) may.keepable in
    let good = good_takes given offer old activity active (resumed talk) piece octets talk' takes (good_at given activity talk.conduct may) in
    let parts = parts_at given activity talk.conduct old now was good in
    let nothing : given.assignment.way ≡ Put → (old ≡ []) × (now.gathered.pieces ≡ []) = λ puts. (may.nothing puts, none_by given activity now.progress.point now.progress.phase now.gathered.pieces good.core.counted puts) in
    let over = λ (is : is_over_stage talk.conduct.stage ≡ true). ap (λ (t : Talk). t.conduct.stage) (over_stays given offer old activity active (resumed talk) piece octets talk' takes is) in (
      may_keep given activity talk.conduct old now was good,
      λ tables valid.
          subst
          (λ (o : Option ℕ). task_of activity tables ≡ task_under given talk.conduct (activity_kept talk.conduct.stage o)
          → LeadTo tables (changes_by given (mark_of given talk.conduct) now (activity_kept talk.conduct.stage o) (activity_kept now.stage (activity_kept talk.conduct.stage o))) (with_kept activity (task_under given now (activity_kept now.stage o)) tables))
          (sym active) (stays_by given activity talk.conduct now parts nothing good.core.since tables valid (kept_or (doing_in talk.conduct.stage) (Some activity)) over),
    )

-- a talk begins with the pieces that are kept
begins_within : (way : Way) (task : Option KeptTask) (given : Given) → AreKept (pieces_kept way given (kept_pieces way task)) → IsWithin (joined (kept_pieces way task))
begins_within Get task given kept = within_kept (kept_pieces Get task) kept
begins_within Put None given kept = within_kept [] (record { sayable = refl; short = refl; octets = refl; parts = refl })
begins_within Put (Some task) given kept = within_kept [] (record { sayable = refl; short = refl; octets = refl; parts = refl })

begins_with_nothing : (way : Way) (task : Option KeptTask) → way ≡ Put → kept_pieces way task ≡ []
begins_with_nothing Get task is = absurd cc
begins_with_nothing Put None is = refl
begins_with_nothing Put (Some task) is = refl

begins_at : (task : Option KeptTask) → is_some task ≡ false → is_over (progress_of task).phase ≡ false
begins_at None none = refl
begins_at (Some task) none = absurd cc

pub begins_kept : (plan : Plan) (task : Option KeptTask) (activity : ℕ) → BeginsKept plan task activity
begins_kept plan task activity active keepable =
    let given = given_of plan task in
    let way = way_in plan.task in
    let c = beginning plan task in
    let within = begins_within way task given (parts_of (task_at given c activity) keepable).pieces in
    record {
      keepable = keepable;
      within = within_file (all_of c.gathered) (subst IsWithin (sym (append-nil (joined (kept_pieces way task)))) within);
      nothing = begins_with_nothing way task;
      stage = begins_at task;
    }

single : (pieces : List (List Element)) → nat_eq (length pieces) 1 ≡ true → joined pieces ∷ [] ≡ pieces
single [] one = absurd cc
single (piece ∷ []) one = ap (λ (l : List Element). l ∷ []) (append-nil piece)
single (piece ∷ other ∷ pieces) one = absurd (let e : length (piece ∷ other ∷ pieces) ≡ 1 = equals (length (piece ∷ other ∷ pieces)) 1 one in omega arith)

stands_staged : (way : Way) (plan : Plan) (task : KeptTask) → nat_eq (length task.staged) (pieces_for way task.plan.point task.plan.phase) ≡ true
    → pieces_kept way (record { plan = plan; assignment = assignment_of plan (Some task); kept_values = kept_values way (Some task) }) (kept_pieces way (Some task)) ≡ task.staged
stands_staged Get plan task counted = refl
stands_staged Put plan task counted = single task.staged counted

pub stands_as_kept : (plan : Plan) (task : KeptTask) (activity : ℕ) → StandsAsKept plan task activity
stands_as_kept plan task activity own valid =
    let f = nat_eq (length task.staged) (pieces_for task.plan.way task.plan.point task.plan.phase) in
    let g = are_short task.staged in
    let h = nat_le (octets_staged task.staged) MOST_FILE_OCTETS in
    let counted = first_of f g (first_of (f && g) h (first_of (f && g && h) (nat_le (elements_staged task.staged) MOST_FILE_PARTS) valid)) in
    let staged = stands_staged (way_in plan.task) plan task (subst (λ (w : Way). nat_eq (length task.staged) (pieces_for w task.plan.point task.plan.phase) ≡ true) own.way counted) in
    λ i. record {
      plan = record {
        activity = sym own.under i;
        way = sym own.way i;
        kind = sym own.kind i;
        every = task.plan.every;
        file = sym own.file i;
        identity = task.plan.identity;
        number = task.plan.number;
        point = task.plan.point;
        phase = task.plan.phase;
        outcome = task.plan.outcome;
      };
      staged = staged i;
    }
