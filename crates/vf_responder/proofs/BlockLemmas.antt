-- Sends one after another on a link are one send of all their octets.
use Rattle.std.proofs.Common.{◌≡◌, ℕ, Bool, true, false, cond, nat_eq, List, [], ◌++◌, Option, None, Some, Result, Ok, Err, refl, ap, sym, subst, ◌∙◌, append_assoc, append-nil}
use Rattle.std.proofs.Math.Path.{fun_ext}
use Rattle.vf_base.specs.Links.{Sends, Traffic, after_fault, after_octets}
use Rattle.vf_base.specs.declared.errors.Failed.{Failed}
use Rattle.vf_responder.specs.Blocks.{SendsFirst}

abbrev with_taken : Traffic → (ℕ → List ℕ) → Traffic
with_taken t taken = record t { taken = taken }

same_taken : (t : Traffic) (f g : ℕ → List ℕ) → ((n : ℕ) → f n ≡ g n) → with_taken t f ≡ with_taken t g
same_taken t f g same = ap (with_taken t) (fun_ext same)

-- nothing more
after-none : (link : ℕ) (t : Traffic) → t ≡ after_octets link [] t
after-none link t = same_taken t t.taken (after_octets link [] t).taken (λ n. by n (nat_eq n link))
  where
    by : (n : ℕ) (here : Bool) → t.taken n ≡ cond here (t.taken n ++ []) (t.taken n)
    by n true = sym (append-nil (t.taken n))
    by n false = refl

-- one after the other
after-both : (link : ℕ) (first second : List ℕ) (t : Traffic) → after_octets link second (after_octets link first t) ≡ after_octets link (first ++ second) t
after-both link first second t =
    same_taken t (after_octets link second (after_octets link first t)).taken (after_octets link (first ++ second) t).taken (λ n. by n (nat_eq n link))
  where
    by : (n : ℕ) (here : Bool) → cond here (cond here (t.taken n ++ first) (t.taken n) ++ second) (cond here (t.taken n ++ first) (t.taken n)) ≡ cond here (t.taken n ++ (first ++ second)) (t.taken n)
    by n true = append_assoc (t.taken n) first second
    by n false = refl

pub sends-none : (old : Option Traffic) (link : ℕ) → Sends old old link [] (Ok tt)
sends-none None link = refl
sends-none (Some t) link = ap (λ (t : Traffic). Some t) (after-none link t)

pub sends-both : (old mid new : Option Traffic) (link : ℕ) (first second : List ℕ) (result : Result (Unit {0}) Failed)
    → Sends old mid link first (Ok tt) → Sends mid new link second result → Sends old new link (first ++ second) result
sends-both None mid new link first second (Ok done) a b = subst (λ (mid : Option Traffic). Sends mid new link second (Ok done)) a b
sends-both None mid new link first second (Err failed) a b = subst (λ (mid : Option Traffic). Sends mid new link second (Err failed)) a b
sends-both (Some t) mid new link first second (Ok done) a b =
    subst (λ (mid : Option Traffic). Sends mid new link second (Ok done)) a b ∙ ap (λ (t : Traffic). Some t) (after-both link first second t)
sends-both (Some t) mid new link first second (Err failed) a b =
    let failing = subst (λ (mid : Option Traffic). Sends mid new link second (Err failed)) a b in (
      first ++ failing.0,
      failing.1,
      ap (λ (rest : List ℕ). first ++ rest) failing.2 ∙ sym (append_assoc first failing.0 failing.1),
      failing.3 ∙ ap (λ (t : Traffic). Some (after_fault link t)) (after-both link first failing.0 t),
    )

-- Where a send of the first octets fails, so does one of all.
pub sends-front : (old new : Option Traffic) (link : ℕ) (front rest : List ℕ) (failed failed' : Failed) → Sends old new link front (Err failed) → Sends old new link (front ++ rest) (Err failed')
sends-front None new link front rest failed failed' a = a
sends-front (Some t) new link front rest failed failed' a = (a.0, a.1 ++ rest, ap (λ (o : List ℕ). o ++ rest) a.2 ∙ append_assoc a.0 a.1 rest, a.3)

pub sends-so : (old new : Option Traffic) (link : ℕ) (octets octets' : List ℕ) (result result' : Result (Unit {0}) Failed) → octets ≡ octets' → result ≡ result'
    → Sends old new link octets result → Sends old new link octets' result'
sends-so old new link octets octets' result result' same is sends =
    subst (λ (r : Result (Unit {0}) Failed). Sends old new link octets' r) is (subst (λ (o : List ℕ). Sends old new link o result) same sends)

-- ---- row by row

-- a row that waits too
pub row-waits : (old : Option Traffic) (link : ℕ) (waiting row : List ℕ) → SendsFirst old old link waiting row (waiting ++ row) (Ok tt)
row-waits old link waiting row = ([], refl, sends-none old link)

-- those that waited, and the row after them
pub row-goes : (old mid new : Option Traffic) (link : ℕ) (waiting row : List ℕ) (result : Result (Unit {0}) Failed)
    → Sends old mid link waiting (Ok tt) → Sends mid new link row result → SendsFirst old new link waiting row [] result
row-goes old mid new link waiting row (Ok done) a b = (waiting ++ row, sym (append-nil (waiting ++ row)), sends-both old mid new link waiting row (Ok done) a b)
row-goes old mid new link waiting row (Err failed) a b = sends-both old mid new link waiting row (Err failed) a b

-- Of all octets the first are sent, some wait, and the rest come after them.
pub record IsAmid (old new : Option Traffic) (link : ℕ) (waiting rest all : List ℕ) : Type 0 where
  pub first : List ℕ
  pub whole : first ++ (waiting ++ rest) ≡ all
  pub sent : Sends old new link first (Ok tt)

pub amid-none : (old : Option Traffic) (link : ℕ) (all : List ℕ) → IsAmid old old link [] all all
amid-none old link all = record { first = []; whole = refl; sent = sends-none old link }

pub amid-row : (old mid new : Option Traffic) (link : ℕ) (waiting row waiting' rest all : List ℕ) → IsAmid old mid link waiting (row ++ rest) all
    → SendsFirst mid new link waiting row waiting' (Ok tt) → IsAmid old new link waiting' rest all
amid-row old mid new link waiting row waiting' rest all amid goes = record {
  first = amid.first ++ goes.0;
  whole = append_assoc amid.first goes.0 (waiting' ++ rest)
      ∙ ap (λ (o : List ℕ). amid.first ++ o) (sym (append_assoc goes.0 waiting' rest) ∙ ap (λ (o : List ℕ). o ++ rest) (sym goes.1) ∙ append_assoc waiting row rest)
      ∙ amid.whole;
  sent = sends-both old mid new link amid.first goes.0 (Ok tt) amid.sent goes.2;
}

pub amid-fails : (old mid new : Option Traffic) (link : ℕ) (waiting row waiting' rest all : List ℕ) (failed failed' : Failed) → IsAmid old mid link waiting (row ++ rest) all
    → SendsFirst mid new link waiting row waiting' (Err failed) → Sends old new link all (Err failed')
amid-fails old mid new link waiting row waiting' rest all failed failed' amid fails =
    let front = sends-both old mid new link amid.first (waiting ++ row) (Err failed) amid.sent fails in
    let same : (amid.first ++ (waiting ++ row)) ++ rest ≡ all =
    append_assoc amid.first (waiting ++ row) rest ∙ ap (λ (o : List ℕ). amid.first ++ o) (append_assoc waiting row rest) ∙ amid.whole in
    subst (λ (o : List ℕ). Sends old new link o (Err failed')) same (sends-front old new link (amid.first ++ (waiting ++ row)) rest failed failed' front)

-- those that wait, last
pub amid-ends : (old mid new : Option Traffic) (link : ℕ) (waiting all : List ℕ) (result : Result (Unit {0}) Failed) → IsAmid old mid link waiting [] all
    → Sends mid new link waiting result → Sends old new link all result
amid-ends old mid new link waiting all result amid sends =
    subst (λ (o : List ℕ). Sends old new link o result) (ap (λ (o : List ℕ). amid.first ++ o) (sym (append-nil waiting)) ∙ amid.whole)
    (sends-both old mid new link amid.first waiting result amid.sent sends)
