-- What the ends keep, as entries join the transfer.
use Rattle.std.proofs.Common.{◌≡◌, ℕ, ◌+◌, ◌-◌, ◌≤◌, false, ◌||◌, nat_lt, min, max, List, [], ◌∷◌, ◌++◌, length, take, Some, slice_get, refl, sym, ap, subst, ◌∙◌, arith, add-one}
use Rattle.std.proofs.lemmas.List.{append_assoc, append-nil, length-take-le}
use Rattle.std.proofs.lemmas.Bool.{lt-ltb}
use Rattle.std.proofs.lemmas.Option.{get_or_from_slice_get, slice_get_within}
use Rattle.std.proofs.Math.Seq.{take-suc}
use Rattle.vf_base.specs.declared.element.Element.{Element}
use Rattle.vf_transfer.specs.Transfer.{Entry, Value, Check, Acknowledgement, Restart, IsKnown, standing, survivors, joined, counts_from, front, last_check}
use Rattle.vf_transfer.specs.Checks.{Checkpoints, Receiver, Sender, RepresentChecks, RepresentsReceived, RepresentsSent, before_check, cut_to, is_unknown, mark, offered, advanced}
use Rattle.vf_transfer.proofs.Cuts.{joined_append, length_counts, counts_append, take_counts, mark_there, cut_there, take_least}

pub checks_check : (checks : Checkpoints) (entries : List Entry) (values : ℕ) → RepresentChecks checks entries → values ≡ length (survivors checks.start entries) → RepresentChecks (record checks { marks = checks.marks ++ values ∷ [] }) (Check ∷ entries)
checks_check checks entries values same count =
    let left = standing checks.start entries in
    record {
      marked = rw (same.marked, count) (sym (counts_append 0 left.closed left.after ∙ ap (λ n. counts_from 0 left.closed ++ n ∷ []) (omega arith)));
      acknowledged = same.acknowledged;
      known = same.known;
    }

pub offers_last : (checks : Checkpoints) (entries : List Entry) → RepresentChecks checks entries → offered checks ≡ last_check checks.start entries
offers_last checks entries same =
    ap (λ n. checks.start + n) (ap (λ (marks : List ℕ). length marks) same.marked ∙ length_counts 0 (standing checks.start entries).closed)

between : (check start last : ℕ) → (nat_lt check start || nat_lt last check) ≡ false → (start ≤ check) × (check ≤ last)
between check start last known = (grind arith, grind arith)

-- a check that isn't unknown is one of the transfer
pub is_known : (checks : Checkpoints) (entries : List Entry) (check : ℕ) → RepresentChecks checks entries → is_unknown check checks ≡ false → IsKnown checks.start entries check
is_known checks entries check same known =
    let stands = between check checks.start (offered checks) known in
    (stands.0, subst (λ last. check ≤ last) (offers_last checks entries same) stands.1)

checks_acknowledgement : (checks : Checkpoints) (entries : List Entry) (check : ℕ) → is_unknown check checks ≡ false → RepresentChecks checks entries
    → RepresentChecks (record checks { acknowledged = max check checks.acknowledged }) (Acknowledgement check ∷ entries)
checks_acknowledgement checks entries check known same =
    record {
      marked = same.marked;
      acknowledged = ap (λ n. max check n) same.acknowledged;
      known = (is_known checks entries check same known, same.known);
    }

pub received_acknowledgement : (receiver : Receiver) (entries : List Entry) (check : ℕ) → is_unknown check receiver.checks ≡ false → RepresentsReceived receiver entries
    → RepresentsReceived (record receiver { checks = record receiver.checks { acknowledged = max check receiver.checks.acknowledged } }) (Acknowledgement check ∷ entries)
received_acknowledgement receiver entries check known same =
    record { checks = checks_acknowledgement receiver.checks entries check known same.checks; values = same.values }

pub sent_acknowledgement : (sender : Sender) (entries : List Entry) (check : ℕ) → is_unknown check sender.checks ≡ false → RepresentsSent sender entries
    → RepresentsSent (record sender { checks = record sender.checks { acknowledged = max check sender.checks.acknowledged } }) (Acknowledgement check ∷ entries)
sent_acknowledgement sender entries check known same =
    record { checks = checks_acknowledgement sender.checks entries check known same.checks; values = same.values }

pub survivors_check : (start : ℕ) (entries : List Entry) → survivors start (Check ∷ entries) ≡ survivors start entries
survivors_check start entries =
    let left = standing start entries in
    append-nil (joined (left.closed ++ left.after ∷ [])) ∙ joined_append left.closed (left.after ∷ []) ∙ ap (λ after. joined left.closed ++ after) (append-nil left.after)

pub checks_restart : (checks : Checkpoints) (entries : List Entry) (check : ℕ) → is_unknown check checks ≡ false → RepresentChecks checks entries → RepresentChecks (cut_to check checks) (Restart check ∷ entries)
checks_restart checks entries check known same =
    record {
      marked = rw same.marked (take_counts (check - checks.start) 0 (standing checks.start entries).closed);
      acknowledged = ap (λ n. min check n) same.acknowledged;
      known = (is_known checks entries check same known, same.known);
    }

-- a check that is known is one of those that stand
pub known_within : (check start number : ℕ) → (nat_lt check start || nat_lt (start + number) check) ≡ false → check - start ≤ number
known_within check start number known = grind arith

pub survivors_restart : (checks : Checkpoints) (entries : List Entry) (check : ℕ) → RepresentChecks checks entries → is_unknown check checks ≡ false → survivors checks.start (Restart check ∷ entries) ≡ take (before_check check checks) (survivors checks.start entries)
survivors_restart checks entries check same known =
    let left = standing checks.start entries in
    let number = check - checks.start in
    let within : number ≤ length left.closed = rw (← length_counts 0 left.closed, ← same.marked) (known_within check checks.start (length checks.marks) known) in
    let count : before_check check checks ≡ length (joined (take number left.closed)) = ap (mark number) same.marked ∙ mark_there number left.closed within in
    append-nil (joined (take number left.closed)) ∙ sym (ap (λ n. take n (joined left.closed ++ left.after)) count ∙ cut_there number left.closed left.after)

pub front_is : (checks : Checkpoints) (entries : List Entry) → RepresentChecks checks entries → checks.acknowledged ≤ offered checks → before_check checks.acknowledged checks ≡ length (front checks.start entries)
front_is checks entries same within =
    let closed = (standing checks.start entries).closed in
    let inside : checks.acknowledged - checks.start ≤ length closed = rw (← length_counts 0 closed, ← same.marked) (omega (arith, within)) in
    ap (mark (checks.acknowledged - checks.start)) same.marked ∙ mark_there (checks.acknowledged - checks.start) closed inside ∙ ap (λ n. length (joined (take (n - checks.start) closed))) same.acknowledged

-- the checks and the values that stand, as a check joins an end that receives
pub received_check : (receiver : Receiver) (entries : List Entry) → RepresentsReceived receiver entries → RepresentsReceived (record receiver { checks = record receiver.checks { marks = receiver.checks.marks ++ length receiver.values ∷ [] } }) (Check ∷ entries)
received_check receiver entries same =
    record {
      checks = checks_check receiver.checks entries (length receiver.values) same.checks (ap (λ (values : List Element). length values) same.values);
      values = same.values ∙ sym (survivors_check receiver.checks.start entries);
    }

pub received_restart : (receiver : Receiver) (entries : List Entry) (check values : ℕ) → is_unknown check receiver.checks ≡ false → values ≡ before_check check receiver.checks → RepresentsReceived receiver entries → RepresentsReceived (record { checks = cut_to check receiver.checks; values = take values receiver.values }) (Restart check ∷ entries)
received_restart receiver entries check values known count same =
    record {
      checks = checks_restart receiver.checks entries check known same.checks;
      values = rw (count, same.values) (sym (survivors_restart receiver.checks entries check same.checks known));
    }

pub sent_check : (sender : Sender) (entries : List Entry) → sender.sent ≤ length sender.elements → RepresentsSent sender entries → RepresentsSent (record sender { checks = record sender.checks { marks = sender.checks.marks ++ sender.sent ∷ [] } }) (Check ∷ entries)
sent_check sender entries within same =
    record {
      checks = checks_check sender.checks entries sender.sent same.checks (sym (length-take-le sender.sent sender.elements within) ∙ ap (λ (values : List Element). length values) same.values);
      values = same.values ∙ sym (survivors_check sender.checks.start entries);
    }

pub sent_restart : (sender : Sender) (entries : List Entry) (check values : ℕ) → is_unknown check sender.checks ≡ false → values ≡ before_check check sender.checks → RepresentsSent sender entries → RepresentsSent (record { checks = cut_to check sender.checks; elements = sender.elements; sent = min values sender.sent }) (Restart check ∷ entries)
sent_restart sender entries check values known count same =
    record {
      checks = checks_restart sender.checks entries check known same.checks;
      values = take_least values sender.sent sender.elements ∙ rw (count, same.values) (sym (survivors_restart sender.checks entries check same.checks known));
    }

pub sends_next : (sender : Sender) (element : Element) (entries : List Entry) → slice_get sender.elements sender.sent ≡ Some element → RepresentsSent sender entries → RepresentsSent (advanced sender) (Value element ∷ entries)
sends_next sender element entries next same =
    let within = slice_get_within sender.elements sender.sent element next in
    let left = standing sender.checks.start entries in
    let more : take (sender.sent + 1) sender.elements ≡ take sender.sent sender.elements ++ element ∷ [] =
    rw (add-one sender.sent, take-suc sender.elements sender.sent element within, get_or_from_slice_get sender.elements sender.sent element element next) refl in
    rw (lt-ltb sender.sent (length sender.elements) within) (record {
      checks = record { marked = same.checks.marked; acknowledged = same.checks.acknowledged; known = same.checks.known };
      values = more ∙ ap (λ values. values ++ element ∷ []) same.values ∙ append_assoc (joined left.closed) left.after (element ∷ []);
    })
