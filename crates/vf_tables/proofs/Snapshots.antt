-- A snapshot makes its tables of those of a filestore that is just made.
use Rattle.std.proofs.Common.{◌≡◌, ℕ, ◌+◌, Bool, true, false, ◌&&◌, if◌then◌else◌, List, [], ◌∷◌, ◌++◌, length, Option, None, Some, refl, sym, ◌∙◌, ap, subst, arith, append_assoc, length-append}
use Rattle.std.specs.Prelude.{find, fold, map, nat_eq, not}
use Rattle.std.specs.Cmp.Lexicographic.{pointwise}
use Rattle.std.specs.List.{flat_map, list_all}
use Rattle.std.specs.Option.{option_map_or}
use Rattle.std.proofs.lemmas.Bool.{eq-eqb}
use Rattle.std.proofs.lemmas.Cmp.{nat_list_eq_equiv}
use Rattle.std.proofs.lemmas.List.{append-nil, map-append}
use Rattle.std.proofs.lemmas.List.Folds.{list_all-map}
use Rattle.std.proofs.lemmas.List.Sums.{fold-append}
use Rattle.vf_attr.specs.declared.file.File.{File}
use Rattle.vf_base.specs.declared.element.Element.{Element}
use Rattle.vf_tables.specs.declared.change.Change.{Change}
use Rattle.vf_tables.specs.declared.change.Change.TheVariants.{PutUser, PutFile, PutDocket, Stage, PutTask, StageTask}
use Rattle.vf_tables.specs.declared.docket.Docket.{Docket}
use Rattle.vf_tables.specs.declared.docket.Regime.{Regime}
use Rattle.vf_tables.specs.declared.tables.Tables.{Tables}
use Rattle.vf_tables.specs.declared.task.Plan.{Plan}
use Rattle.vf_tables.specs.declared.task.Task.{Task}
use Rattle.vf_tables.specs.declared.task.Way.{Way}
use Rattle.vf_tables.specs.declared.task.Way.TheVariants.{Get, Put}
use Rattle.vf_tables.specs.declared.user.User.{User}
use Rattle.vf_tables.specs.Changes.{after, staged_for, staged_in, with_piece, with_task_piece}
use Rattle.vf_tables.specs.Entries.{changed, is_docket, is_file, is_task, is_user, no_tables, put}
use Rattle.vf_tables.specs.Fitting.{all_fit, fits, is_in_range, is_point_of, stands_in, takes_piece, takes_task_piece}
use Rattle.vf_tables.specs.Snapshot.{is_kept, point_after, snapshot, stages_after, stages_of, task_stages_after, task_stages_of}
use Rattle.vf_tables.specs.Validity.{all_differ, are_within, exclude, have_keys, is_valid, is_valid_docket, is_valid_file, is_valid_task}
use Rattle.vf_tables.proofs.Ranges.{both, first_of, second_of, left_part, right_part}

-- LISTS. No entry is meant.
abbrev NoneMeant : {A : Type 0} → (A → Bool) → List A → Type 0
NoneMeant meant entries = list_all (λ other. not (meant other)) entries ≡ true

module _ {A : Type 0} where
  -- entries that all differ from each other differ from those before them
  pub none_before : (same : A → A → Bool) → ((x y : A) → same x y ≡ same y x) → (done : List A) (entry : A) (rest : List A) → all_differ same (done ++ entry ∷ rest) ≡ true → NoneMeant (same entry) done
  none_before same symmetric [] entry rest differ = refl
  none_before same symmetric (x ∷ done) entry rest differ =
      let others = list_all (λ other. not (same x other)) (done ++ entry ∷ rest) in
      let here = right_part (λ other. not (same x other)) done (entry ∷ rest) (first_of others (all_differ same (done ++ entry ∷ rest)) differ) in
      let other : not (same x entry) ≡ true = first_of (not (same x entry)) (list_all (λ other. not (same x other)) rest) here in
      both (not (same entry x)) (list_all (λ other. not (same entry other)) done) (ap (λ (b : Bool). not b) (symmetric entry x) ∙ other)
      (none_before same symmetric done entry rest (second_of others (all_differ same (done ++ entry ∷ rest)) differ))

  not_meant : (b : Bool) (xs ys : List A) → not b ≡ true → (if b then xs else ys) ≡ ys
  not_meant true xs ys none = cc
  not_meant false xs ys none = refl

  is_meant : (b : Bool) (xs ys : List A) → b ≡ true → (if b then xs else ys) ≡ xs
  is_meant true xs ys is = refl
  is_meant false xs ys is = cc

  put_last : (meant : A → Bool) (entry : A) (entries : List A) → NoneMeant meant entries → put meant entry entries ≡ entries ++ entry ∷ []
  put_last meant entry [] none = refl
  put_last meant entry (other ∷ entries) none =
      let here = first_of (not (meant other)) (list_all (λ o. not (meant o)) entries) none in
      not_meant (meant other) (entry ∷ entries) (other ∷ put meant entry entries) here
      ∙ ap (λ (l : List A). other ∷ l) (put_last meant entry entries (second_of (not (meant other)) (list_all (λ o. not (meant o)) entries) none))

  changed_at : (meant : A → Bool) (change : A → A) (done : List A) (entry : A) (rest : List A) → NoneMeant meant done → meant entry ≡ true
      → changed meant change (done ++ entry ∷ rest) ≡ done ++ change entry ∷ rest
  changed_at meant change [] entry rest none is = is_meant (meant entry) (change entry ∷ rest) (entry ∷ changed meant change rest) is
  changed_at meant change (other ∷ done) entry rest none is =
      let here = first_of (not (meant other)) (list_all (λ o. not (meant o)) done) none in
      not_meant (meant other) (change other ∷ (done ++ entry ∷ rest)) (other ∷ changed meant change (done ++ entry ∷ rest)) here
      ∙ ap (λ (l : List A). other ∷ l) (changed_at meant change done entry rest (second_of (not (meant other)) (list_all (λ o. not (meant o)) done) none) is)

  find_passes : (b : Bool) (x : A) (found : Option A) → not b ≡ true → (if b then Some x else found) ≡ found
  find_passes true x found none = cc
  find_passes false x found none = refl

  find_stops : (b : Bool) (x : A) (found : Option A) → b ≡ true → (if b then Some x else found) ≡ Some x
  find_stops true x found is = refl
  find_stops false x found is = cc

  pub found_at : (meant : A → Bool) (done : List A) (entry : A) (rest : List A) → NoneMeant meant done → meant entry ≡ true → find meant (done ++ entry ∷ rest) ≡ Some entry
  found_at meant [] entry rest none is = find_stops (meant entry) entry (find meant rest) is
  found_at meant (other ∷ done) entry rest none is =
      find_passes (meant other) other (find meant (done ++ entry ∷ rest)) (first_of (not (meant other)) (list_all (λ o. not (meant o)) done) none)
      ∙ found_at meant done entry rest (second_of (not (meant other)) (list_all (λ o. not (meant o)) done) none) is

  found_none : (meant : A → Bool) (entries : List A) → NoneMeant meant entries → find meant entries ≡ None
  found_none meant [] none = refl
  found_none meant (other ∷ entries) none =
      find_passes (meant other) other (find meant entries) (first_of (not (meant other)) (list_all (λ o. not (meant o)) entries) none)
      ∙ found_none meant entries (second_of (not (meant other)) (list_all (λ o. not (meant o)) entries) none)

-- KEYS
same_user : (x y : User) → is_user x.identity y ≡ is_user y.identity x
same_user x y = nat_list_eq_equiv.symm x.identity y.identity

pub same_file : (x y : File) → is_file x.name y ≡ is_file y.name x
same_file x y = nat_list_eq_equiv.symm x.name y.name

same_number : (a b : ℕ) → nat_eq a b ≡ nat_eq b a
same_number a b = grind arith

same_docket : (x y : Docket) → is_docket x.regime.identity x.regime.activity y ≡ is_docket y.regime.identity y.regime.activity x
same_docket x y =
    ap (λ (b : Bool). b && nat_eq x.regime.activity y.regime.activity) (nat_list_eq_equiv.symm x.regime.identity y.regime.identity)
    ∙ ap (λ (b : Bool). pointwise nat_eq y.regime.identity x.regime.identity && b) (same_number x.regime.activity y.regime.activity)

same_task : (x y : Task) → is_task x.plan.activity y ≡ is_task y.plan.activity x
same_task x y = same_number x.plan.activity y.plan.activity

-- CHANGES. They fit, each the tables before it, and lead from some tables to others.
record Leads (from : Tables) (changes : List Change) (to : Tables) : Type 0 where
  fit : all_fit from changes ≡ true
  lead : fold after from changes ≡ to

fit_joined : (xs ys : List Change) (from : Tables) → all_fit from xs ≡ true → all_fit (fold after from xs) ys ≡ true → all_fit from (xs ++ ys) ≡ true
fit_joined [] ys from first second = second
fit_joined (x ∷ xs) ys from first second =
    both (fits from x) (all_fit (after from x) (xs ++ ys)) (first_of (fits from x) (all_fit (after from x) xs) first)
    (fit_joined xs ys (after from x) (second_of (fits from x) (all_fit (after from x) xs) first) second)

leads_on : (from mid to : Tables) (xs ys : List Change) → Leads from xs mid → Leads mid ys to → Leads from (xs ++ ys) to
leads_on from mid to xs ys first second = record {
  fit = fit_joined xs ys from first.fit (subst (λ (t : Tables). all_fit t ys ≡ true) (sym first.lead) second.fit);
  lead = fold-append after from xs ys ∙ ap (λ (t : Tables). fold after t ys) first.lead ∙ second.lead;
}

-- PUTS. Each puts an entry after all others.
module _ {A : Type 0} (same : A → A → Bool) (symmetric : (x y : A) → same x y ≡ same y x) (place : List A → Tables) (make : A → Change)
    (stands : (tables : Tables) (x : A) → stands_in tables (make x) ≡ true)
    (step : (done : List A) (x : A) → NoneMeant (same x) done → after (place done) (make x) ≡ place (done ++ x ∷ [])) where
  puts_lead : (xs done : List A) → all_differ same (done ++ xs) ≡ true → list_all is_in_range (map make xs) ≡ true → Leads (place done) (map make xs) (place (done ++ xs))
  puts_lead [] done differ ranges = record { fit = refl; lead = ap place (sym (append-nil done)) }
  puts_lead (x ∷ xs) done differ ranges =
      let next = step done x (none_before same symmetric done x xs differ) in
      let rest = puts_lead xs (done ++ x ∷ []) (subst (λ (l : List A). all_differ same l ≡ true) (sym (append_assoc done (x ∷ []) xs)) differ)
      (second_of (is_in_range (make x)) (list_all is_in_range (map make xs)) ranges) in
      record {
        fit = both (fits (place done) (make x)) (all_fit (after (place done) (make x)) (map make xs))
            (both (is_in_range (make x)) (stands_in (place done) (make x)) (first_of (is_in_range (make x)) (list_all is_in_range (map make xs)) ranges) (stands (place done) x))
            (subst (λ (t : Tables). all_fit t (map make xs) ≡ true) (sym next) rest.fit);
        lead = ap (λ (t : Tables). fold after t (map make xs)) next ∙ rest.lead ∙ ap place (append_assoc done (x ∷ []) xs);
      }

abbrev of : List User → List File → List Docket → List Task → Tables
of users files dockets tasks = record { users = users; files = files; dockets = dockets; tasks = tasks }

-- without pieces
abbrev holding : Regime → List (List Element) → Docket
holding regime pieces = record { regime = regime; staged = pieces }

abbrev bare : Docket → Docket
bare docket = holding docket.regime []

abbrev task_holding : Plan → List (List Element) → Task
task_holding plan pieces = record { plan = plan; staged = pieces }

abbrev task_bare : Task → Task
task_bare task = task_holding task.plan []

users_lead : (users : List User) → all_differ (λ (user : User). is_user user.identity) users ≡ true → list_all is_in_range (map (λ (user : User). PutUser user) users) ≡ true
    → Leads no_tables (map (λ (user : User). PutUser user) users) (of users [] [] [])
users_lead users differ ranges =
    puts_lead (λ (user : User). is_user user.identity) same_user (λ (done : List User). of done [] [] []) (λ (user : User). PutUser user) (λ tables x. refl)
    (λ done x none. ap (λ (l : List User). of l [] [] []) (put_last (is_user x.identity) x done none)) users [] differ ranges

files_lead : (users : List User) (files : List File) → all_differ (λ (file : File). is_file file.name) files ≡ true → list_all is_in_range (map (λ (file : File). PutFile file) files) ≡ true
    → Leads (of users [] [] []) (map (λ (file : File). PutFile file) files) (of users files [] [])
files_lead users files differ ranges =
    puts_lead (λ (file : File). is_file file.name) same_file (λ (done : List File). of users done [] []) (λ (file : File). PutFile file) (λ tables x. refl)
    (λ done x none. ap (λ (l : List File). of users l [] []) (put_last (is_file x.name) x done none)) files [] differ ranges

docket_step : (users : List User) (files : List File) (done : List Docket) (x : Docket) → NoneMeant (is_docket x.regime.identity x.regime.activity) done
    → after (of users files (map bare done) []) (PutDocket x.regime) ≡ of users files (map bare (done ++ x ∷ [])) []
docket_step users files done x none =
    let meant = is_docket x.regime.identity x.regime.activity in
    let free : NoneMeant meant (map bare done) = list_all-map (λ (other : Docket). not (meant other)) bare done ∙ none in
    ap (λ (found : Option Docket). of users files (put meant (holding x.regime (staged_in found)) (map bare done)) []) (found_none meant (map bare done) free)
    ∙ ap (λ (l : List Docket). of users files l []) (put_last meant (bare x) (map bare done) free ∙ sym (map-append bare done (x ∷ [])))

dockets_lead : (users : List User) (files : List File) (dockets : List Docket) → all_differ (λ (docket : Docket). is_docket docket.regime.identity docket.regime.activity) dockets ≡ true
    → list_all is_in_range (map (λ (docket : Docket). PutDocket docket.regime) dockets) ≡ true
    → Leads (of users files [] []) (map (λ (docket : Docket). PutDocket docket.regime) dockets) (of users files (map bare dockets) [])
dockets_lead users files dockets differ ranges =
    puts_lead (λ (docket : Docket). is_docket docket.regime.identity docket.regime.activity) same_docket (λ (done : List Docket). of users files (map bare done) []) (λ (docket : Docket). PutDocket docket.regime)
    (λ tables x. refl) (docket_step users files) dockets [] differ ranges

task_step : (users : List User) (files : List File) (dockets : List Docket) (done : List Task) (x : Task) → NoneMeant (is_task x.plan.activity) done
    → after (of users files dockets (map task_bare done)) (PutTask x.plan) ≡ of users files dockets (map task_bare (done ++ x ∷ []))
task_step users files dockets done x none =
    let meant = is_task x.plan.activity in
    let free : NoneMeant meant (map task_bare done) = list_all-map (λ (other : Task). not (meant other)) task_bare done ∙ none in
    ap (λ (found : Option Task). of users files dockets (put meant (task_holding x.plan (staged_for found)) (map task_bare done))) (found_none meant (map task_bare done) free)
    ∙ ap (λ (l : List Task). of users files dockets l) (put_last meant (task_bare x) (map task_bare done) free ∙ sym (map-append task_bare done (x ∷ [])))

tasks_lead : (users : List User) (files : List File) (dockets : List Docket) (tasks : List Task) → all_differ (λ (task : Task). is_task task.plan.activity) tasks ≡ true
    → list_all is_in_range (map (λ (task : Task). PutTask task.plan) tasks) ≡ true
    → Leads (of users files dockets []) (map (λ (task : Task). PutTask task.plan) tasks) (of users files dockets (map task_bare tasks))
tasks_lead users files dockets tasks differ ranges =
    puts_lead (λ (task : Task). is_task task.plan.activity) same_task (λ (done : List Task). of users files dockets (map task_bare done)) (λ (task : Task). PutTask task.plan)
    (λ tables x. refl) (task_step users files dockets) tasks [] differ ranges

-- STAGES. Each adds a piece to the entry at hand.
longer : (front : List (List Element)) (piece : List Element) → length (front ++ piece ∷ []) ≡ length front + 1
longer front piece = omega (arith, length-append front (piece ∷ []))

docket_itself : (regime : Regime) (pieces : List (List Element)) → is_docket regime.identity regime.activity (holding regime pieces) ≡ true
docket_itself regime pieces = both (pointwise nat_eq regime.identity regime.identity) (nat_eq regime.activity regime.activity) (nat_list_eq_equiv.refl regime.identity) (eq-eqb regime.activity regime.activity refl)

task_itself : (plan : Plan) (pieces : List (List Element)) → is_task plan.activity (task_holding plan pieces) ≡ true
task_itself plan pieces = eq-eqb plan.activity plan.activity refl

takes_next : (regime : Regime) (front : List (List Element)) → takes_piece (length front) (length front + 1) (holding regime front) ≡ true
takes_next regime front = both (nat_eq (length front) (length front)) (nat_eq (length front + 1) (length front + 1)) (eq-eqb (length front) (length front) refl) (eq-eqb (length front + 1) (length front + 1) refl)

is_next_point : (way : Way) (count : ℕ) → is_point_of way (point_after way count) count ≡ true
is_next_point Get count = eq-eqb (count + 1) (count + 1) refl
is_next_point Put count = refl

module _ (users : List User) (files : List File) where
  pieces_lead : (done rest : List Docket) (regime : Regime) → NoneMeant (is_docket regime.identity regime.activity) done → (pieces front : List (List Element)) (count : ℕ) → count ≡ length front
      → list_all is_in_range (stages_after regime.identity regime.activity count pieces) ≡ true
      → Leads (of users files (done ++ holding regime front ∷ rest) []) (stages_after regime.identity regime.activity count pieces) (of users files (done ++ holding regime (front ++ pieces) ∷ rest) [])
  pieces_lead done rest regime none [] front count is ranges =
      record { fit = refl; lead = ap (λ (l : List (List Element)). of users files (done ++ holding regime l ∷ rest) []) (sym (append-nil front)) }
  pieces_lead done rest regime none (piece ∷ pieces) front count is ranges =
      let meant = is_docket regime.identity regime.activity in
      let stage = Stage regime.identity regime.activity count (count + 1) piece in
      let later = stages_after regime.identity regime.activity (count + 1) pieces in
      let here = of users files (done ++ holding regime front ∷ rest) [] in
      let next : after here stage ≡ of users files (done ++ holding regime (front ++ piece ∷ []) ∷ rest) [] =
      ap (λ (l : List Docket). of users files l []) (changed_at meant (with_piece piece) done (holding regime front) rest none (docket_itself regime front)) in
      let found = found_at meant done (holding regime front) rest none (docket_itself regime front) in
      let stands : stands_in here stage ≡ true =
      ap (λ (o : Option Docket). option_map_or (takes_piece count (count + 1)) o false) found ∙ ap (λ (n : ℕ). takes_piece n (n + 1) (holding regime front)) is ∙ takes_next regime front in
      let rest_leads = pieces_lead done rest regime none pieces (front ++ piece ∷ []) (count + 1) (ap (λ (n : ℕ). n + 1) is ∙ sym (longer front piece)) (second_of (is_in_range stage) (list_all is_in_range later) ranges) in
      record {
        fit = both (fits here stage) (all_fit (after here stage) later) (both (is_in_range stage) (stands_in here stage) (first_of (is_in_range stage) (list_all is_in_range later) ranges) stands)
            (subst (λ (t : Tables). all_fit t later ≡ true) (sym next) rest_leads.fit);
        lead = ap (λ (t : Tables). fold after t later) next ∙ rest_leads.lead ∙ ap (λ (l : List (List Element)). of users files (done ++ holding regime l ∷ rest) []) (append_assoc front (piece ∷ []) pieces);
      }

  stages_lead : (dockets done : List Docket) → all_differ (λ (docket : Docket). is_docket docket.regime.identity docket.regime.activity) (done ++ dockets) ≡ true → list_all is_in_range (flat_map stages_of dockets) ≡ true
      → Leads (of users files (done ++ map bare dockets) []) (flat_map stages_of dockets) (of users files (done ++ dockets) [])
  stages_lead [] done differ ranges = record { fit = refl; lead = refl }
  stages_lead (docket ∷ dockets) done differ ranges =
      let same = λ (d : Docket). is_docket d.regime.identity d.regime.activity in
      let none = none_before same same_docket done docket dockets differ in
      let first = pieces_lead done (map bare dockets) docket.regime none docket.staged [] 0 refl (left_part is_in_range (stages_of docket) (flat_map stages_of dockets) ranges) in
      let second = stages_lead dockets (done ++ docket ∷ []) (subst (λ (l : List Docket). all_differ same l ≡ true) (sym (append_assoc done (docket ∷ []) dockets)) differ) (right_part is_in_range (stages_of docket) (flat_map stages_of dockets) ranges) in
      leads_on (of users files (done ++ bare docket ∷ map bare dockets) []) (of users files (done ++ docket ∷ map bare dockets) []) (of users files (done ++ docket ∷ dockets) []) (stages_of docket) (flat_map stages_of dockets) first
      (subst (λ (l : List Docket). Leads (of users files l []) (flat_map stages_of dockets) (of users files (done ++ docket ∷ dockets) [])) (append_assoc done (docket ∷ []) (map bare dockets))
      (subst (λ (l : List Docket). Leads (of users files ((done ++ docket ∷ []) ++ map bare dockets) []) (flat_map stages_of dockets) (of users files l [])) (append_assoc done (docket ∷ []) dockets) second))

module _ (users : List User) (files : List File) (dockets : List Docket) where
  task_pieces_lead : (done rest : List Task) (plan : Plan) → NoneMeant (is_task plan.activity) done → (pieces front : List (List Element)) (count : ℕ) → count ≡ length front
      → list_all is_in_range (task_stages_after plan.way plan.activity count pieces) ≡ true
      → Leads (of users files dockets (done ++ task_holding plan front ∷ rest)) (task_stages_after plan.way plan.activity count pieces) (of users files dockets (done ++ task_holding plan (front ++ pieces) ∷ rest))
  task_pieces_lead done rest plan none [] front count is ranges =
      record { fit = refl; lead = ap (λ (l : List (List Element)). of users files dockets (done ++ task_holding plan l ∷ rest)) (sym (append-nil front)) }
  task_pieces_lead done rest plan none (piece ∷ pieces) front count is ranges =
      let meant = is_task plan.activity in
      let stage = StageTask plan.activity (point_after plan.way count) piece in
      let later = task_stages_after plan.way plan.activity (count + 1) pieces in
      let here = of users files dockets (done ++ task_holding plan front ∷ rest) in
      let next : after here stage ≡ of users files dockets (done ++ task_holding plan (front ++ piece ∷ []) ∷ rest) =
      ap (λ (l : List Task). of users files dockets l) (changed_at meant (with_task_piece piece) done (task_holding plan front) rest none (task_itself plan front)) in
      let found = found_at meant done (task_holding plan front) rest none (task_itself plan front) in
      let stands : stands_in here stage ≡ true =
      ap (λ (o : Option Task). option_map_or (takes_task_piece (point_after plan.way count)) o false) found ∙ ap (λ (n : ℕ). is_point_of plan.way (point_after plan.way count) n) (sym is) ∙ is_next_point plan.way count in
      let rest_leads = task_pieces_lead done rest plan none pieces (front ++ piece ∷ []) (count + 1) (ap (λ (n : ℕ). n + 1) is ∙ sym (longer front piece)) (second_of (is_in_range stage) (list_all is_in_range later) ranges) in
      record {
        fit = both (fits here stage) (all_fit (after here stage) later) (both (is_in_range stage) (stands_in here stage) (first_of (is_in_range stage) (list_all is_in_range later) ranges) stands)
            (subst (λ (t : Tables). all_fit t later ≡ true) (sym next) rest_leads.fit);
        lead = ap (λ (t : Tables). fold after t later) next ∙ rest_leads.lead ∙ ap (λ (l : List (List Element)). of users files dockets (done ++ task_holding plan l ∷ rest)) (append_assoc front (piece ∷ []) pieces);
      }

  task_stages_lead : (tasks done : List Task) → all_differ (λ (task : Task). is_task task.plan.activity) (done ++ tasks) ≡ true → list_all is_in_range (flat_map task_stages_of tasks) ≡ true
      → Leads (of users files dockets (done ++ map task_bare tasks)) (flat_map task_stages_of tasks) (of users files dockets (done ++ tasks))
  task_stages_lead [] done differ ranges = record { fit = refl; lead = refl }
  task_stages_lead (task ∷ tasks) done differ ranges =
      let same = λ (t : Task). is_task t.plan.activity in
      let none = none_before same same_task done task tasks differ in
      let first = task_pieces_lead done (map task_bare tasks) task.plan none task.staged [] 0 refl (left_part is_in_range (task_stages_of task) (flat_map task_stages_of tasks) ranges) in
      let second = task_stages_lead tasks (done ++ task ∷ []) (subst (λ (l : List Task). all_differ same l ≡ true) (sym (append_assoc done (task ∷ []) tasks)) differ) (right_part is_in_range (task_stages_of task) (flat_map task_stages_of tasks) ranges) in
      leads_on (of users files dockets (done ++ task_bare task ∷ map task_bare tasks)) (of users files dockets (done ++ task ∷ map task_bare tasks)) (of users files dockets (done ++ task ∷ tasks)) (task_stages_of task) (flat_map task_stages_of tasks) first
      (subst (λ (l : List Task). Leads (of users files dockets l) (flat_map task_stages_of tasks) (of users files dockets (done ++ task ∷ tasks))) (append_assoc done (task ∷ []) (map task_bare tasks))
      (subst (λ (l : List Task). Leads (of users files dockets ((done ++ task ∷ []) ++ map task_bare tasks)) (flat_map task_stages_of tasks) (of users files dockets l)) (append_assoc done (task ∷ []) tasks) second))

-- ALL
keys_differ : (tables : Tables) → is_valid tables ≡ true → have_keys tables ≡ true
keys_differ tables is =
    let a = have_keys tables in
    let b = are_within tables in
    let c = list_all is_valid_file tables.files in
    let d = list_all (is_valid_docket tables.files) tables.dockets in
    let e = all_differ exclude tables.dockets in
    let f = list_all is_valid_task tables.tasks in
    first_of a b (first_of (a && b) c (first_of (a && b && c) d (first_of (a && b && c && d) e (first_of (a && b && c && d && e) f is))))

snapshot_leads : (tables : Tables) → is_kept tables ≡ true → Leads no_tables (snapshot tables) tables
snapshot_leads tables kept =
    let users = map (λ (user : User). PutUser user) tables.users in
    let files = map (λ (file : File). PutFile file) tables.files in
    let dockets = map (λ (docket : Docket). PutDocket docket.regime) tables.dockets in
    let stages = flat_map stages_of tables.dockets in
    let tasks = map (λ (task : Task). PutTask task.plan) tables.tasks in
    let task_stages = flat_map task_stages_of tables.tasks in
    let all = second_of (is_valid tables) (list_all is_in_range (snapshot tables)) kept in
    let second = right_part is_in_range users (files ++ (dockets ++ (stages ++ (tasks ++ task_stages)))) all in
    let third = right_part is_in_range files (dockets ++ (stages ++ (tasks ++ task_stages))) second in
    let fourth = right_part is_in_range dockets (stages ++ (tasks ++ task_stages)) third in
    let fifth = right_part is_in_range stages (tasks ++ task_stages) fourth in
    let keys = keys_differ tables (first_of (is_valid tables) (list_all is_in_range (snapshot tables)) kept) in
    let a = all_differ (λ (user : User). is_user user.identity) tables.users in
    let b = all_differ (λ (file : File). is_file file.name) tables.files in
    let c = all_differ (λ (docket : Docket). is_docket docket.regime.identity docket.regime.activity) tables.dockets in
    let d = all_differ (λ (task : Task). is_task task.plan.activity) tables.tasks in
    let some = of tables.users [] [] [] in
    let more = of tables.users tables.files [] [] in
    let put_all = of tables.users tables.files (map bare tables.dockets) [] in
    let staged = of tables.users tables.files tables.dockets [] in
    let planned = of tables.users tables.files tables.dockets (map task_bare tables.tasks) in
    leads_on no_tables some tables users (files ++ (dockets ++ (stages ++ (tasks ++ task_stages))))
    (users_lead tables.users (first_of a b (first_of (a && b) c (first_of (a && b && c) d keys))) (left_part is_in_range users (files ++ (dockets ++ (stages ++ (tasks ++ task_stages)))) all))
    (leads_on some more tables files (dockets ++ (stages ++ (tasks ++ task_stages)))
    (files_lead tables.users tables.files (second_of a b (first_of (a && b) c (first_of (a && b && c) d keys))) (left_part is_in_range files (dockets ++ (stages ++ (tasks ++ task_stages))) second))
    (leads_on more put_all tables dockets (stages ++ (tasks ++ task_stages))
    (dockets_lead tables.users tables.files tables.dockets (second_of (a && b) c (first_of (a && b && c) d keys)) (left_part is_in_range dockets (stages ++ (tasks ++ task_stages)) third))
    (leads_on put_all staged tables stages (tasks ++ task_stages)
    (stages_lead tables.users tables.files tables.dockets [] (second_of (a && b) c (first_of (a && b && c) d keys)) (left_part is_in_range stages (tasks ++ task_stages) fourth))
    (leads_on staged planned tables tasks task_stages
    (tasks_lead tables.users tables.files tables.dockets tables.tasks (second_of (a && b && c) d keys) (left_part is_in_range tasks task_stages fifth))
    (task_stages_lead tables.users tables.files tables.dockets tables.tasks [] (second_of (a && b && c) d keys) (right_part is_in_range tasks task_stages fifth))))))

pub snapshot_makes : (tables : Tables) → is_kept tables ≡ true → (all_fit no_tables (snapshot tables) ≡ true) × (fold after no_tables (snapshot tables) ≡ tables)
snapshot_makes tables kept = let leads = snapshot_leads tables kept in (leads.fit, leads.lead)
