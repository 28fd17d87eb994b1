-- What a write has received that takes the pieces of its docket again: each value and each check adds to it, and it
-- represents what happened after a restart at the last of these checks.
use Rattle.std.proofs.Common.{◌≡◌, ℕ, suc, ◌+◌, ◌-◌, List, [], ◌∷◌, ◌++◌, length, min, take, refl, ap, sym, subst, ◌∙◌, arith, length-append}
use Rattle.vf_base.specs.declared.element.Element.{Element}
use Rattle.vf_party_steps.specs.Recoveries.{IsFilled}
use Rattle.vf_transfer.specs.Checks.{Checkpoints, Receiver, RepresentsReceived, offered}
use Rattle.vf_transfer.specs.Transfer.{Acknowledgement, Check, Entry, NamesKnownChecks, Restart, Standing, Value, counts_from, joined, point, standing}

pub filled_none : (received : Receiver) → received.checks.start ≡ 0 → RepresentsReceived received [] → IsFilled received [] []
filled_none received start represents = record { entries = []; represents = represents; stand = refl; pointed = refl; counted = start }

pub with_value : (received later : Receiver) (pieces : List (List Element)) (after : List Element) (element : Element) → ((entries : List Entry) → RepresentsReceived received entries → RepresentsReceived later (Value element ∷ entries))
    → later.checks ≡ received.checks → IsFilled received pieces after → IsFilled later pieces (after ++ element ∷ [])
with_value received later pieces after element takes same filled = record {
  entries = Value element ∷ filled.entries;
  represents = takes filled.entries filled.represents;
  stand = λ i. record (filled.stand i) { after = (filled.stand i).after ++ element ∷ [] };
  pointed = filled.pointed;
  counted = ap (λ (checks : Checkpoints). checks.start) same ∙ filled.counted;
}

counts : (before : ℕ) (closed : List (List Element)) → length (counts_from before closed) ≡ length closed
counts before [] = refl
counts before (values ∷ closed) = ap suc (counts (before + length values) closed)

pub with_check : (received later : Receiver) (pieces : List (List Element)) (after : List Element)
    → ((entries : List Entry) → RepresentsReceived received entries → RepresentsReceived later (Acknowledgement (offered received.checks + 1) ∷ Check ∷ entries))
    → later.checks.start ≡ received.checks.start → IsFilled received pieces after → IsFilled later (pieces ++ after ∷ []) []
with_check received later pieces after takes same filled =
    let marked : length received.checks.marks ≡ length pieces
    = ap length filled.represents.checks.marked ∙ counts 0 (standing received.checks.start filled.entries).closed
    ∙ (λ i. length (standing (filled.counted i) filled.entries).closed) ∙ ap (λ (left : Standing). length left.closed) filled.stand in
    record {
      entries = Acknowledgement (offered received.checks + 1) ∷ Check ∷ filled.entries;
      represents = takes filled.entries filled.represents;
      stand = λ i. record { closed = (filled.stand i).closed ++ (filled.stand i).after ∷ []; after = [] };
      pointed = omega (arith, filled.counted, marked, filled.pointed, length-append pieces (after ∷ []));
      counted = same ∙ filled.counted;
    }

-- It represents all that happened of which these pieces stand after the restart.
pub filled_represents : (received : Receiver) (pieces : List (List Element)) (check : ℕ) (entries : List Entry) → IsFilled received pieces [] → NamesKnownChecks 0 (Restart check ∷ entries)
    → take (check - 0) (standing 0 entries).closed ≡ pieces → min check (point 0 entries) ≡ length pieces → RepresentsReceived received (Restart check ∷ entries)
filled_represents received pieces check entries filled known closed pointed = record {
  checks = record {
    marked = filled.represents.checks.marked ∙ (λ i. counts_from 0 (standing (filled.counted i) filled.entries).closed) ∙ ap (λ (left : Standing). counts_from 0 left.closed) filled.stand
        ∙ ap (counts_from 0) (sym closed) ∙ (λ i. counts_from 0 (standing (sym filled.counted i) (Restart check ∷ entries)).closed);
    acknowledged = filled.represents.checks.acknowledged ∙ (λ i. point (filled.counted i) filled.entries) ∙ filled.pointed ∙ sym pointed ∙ (λ i. point (sym filled.counted i) (Restart check ∷ entries));
    known = subst (λ (start : ℕ). NamesKnownChecks start (Restart check ∷ entries)) (sym filled.counted) known;
  };
  values = filled.represents.values ∙ (λ i. joined (standing (filled.counted i) filled.entries).closed ++ (standing (filled.counted i) filled.entries).after)
      ∙ ap (λ (left : Standing). joined left.closed ++ left.after) filled.stand ∙ ap (λ (all : List (List Element)). joined all ++ []) (sym closed)
      ∙ (λ i. joined (standing (sym filled.counted i) (Restart check ∷ entries)).closed ++ []);
}
