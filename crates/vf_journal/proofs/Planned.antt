-- A switch that is planned can be made.
use Rattle.std.proofs.Common.{◌≡◌, ℕ, ◌+◌, Bool, true, false, ◌&&◌, if◌then◌else◌, nat_le, None, Some, refl, sym, arith}
use Rattle.std.proofs.lemmas.Bool.{leb-true}
use Rattle.vf_journal.specs.declared.placing.Placing.{Placing}
use Rattle.vf_journal.specs.JournalState.{JournalState, is_due, is_possible, new_start, placing}
use Rattle.vf_journal.specs.Laws.{IsFitting}
use Rattle.vf_journal.specs.Records.{longest}

-- a choice that answers a place was made for it
chosen : (due possible : Bool) (at start end other : ℕ)
    → (let place : Placing = if due && possible then (let p : Placing = record { switch = Some at; end = end } in p) else (let p : Placing = record { switch = None; end = other } in p) in place.switch) ≡ Some start
    → (possible ≡ true) × (start ≡ at) × ((let place : Placing = if due && possible then (let p : Placing = record { switch = Some at; end = end } in p) else (let p : Placing = record { switch = None; end = other } in p) in place.end) ≡ end)
chosen true true at start end other is = let same : at ≡ start = cc in (refl, sym same, refl)
chosen true false at start end other is = cc
chosen false possible at start end other is = cc

-- and one that answers none
stayed : (due possible : Bool) (at end other : ℕ)
    → (let place : Placing = if due && possible then (let p : Placing = record { switch = Some at; end = end } in p) else (let p : Placing = record { switch = None; end = other } in p) in place.switch) ≡ None
    → (let place : Placing = if due && possible then (let p : Placing = record { switch = Some at; end = end } in p) else (let p : Placing = record { switch = None; end = other } in p) in place.end) ≡ other
stayed true true at end other is = cc
stayed true false at end other is = refl
stayed false possible at end other is = refl

both : (short fitting : Bool) → (short && fitting) ≡ true → (short ≡ true) × (fitting ≡ true)
both true fitting is = (refl, is)
both false fitting is = cc

pub planned : (journal : JournalState) (count snapshot start : ℕ) → (placing journal count snapshot).switch ≡ Some start → IsFitting journal count snapshot start (placing journal count snapshot).end
planned journal count snapshot start is =
    let at = new_start journal (snapshot + 6) in
    let found = chosen (is_due journal count) (is_possible journal snapshot) at start (at + (snapshot + 6) + count + 5) (journal.area.end + count + 5) is in
    let tests = both (nat_le snapshot longest) (nat_le (at + (snapshot + 6)) journal.limit) found.0 in
    let le = leb-true (at + (snapshot + 6)) journal.limit tests.1 in
    record { short = leb-true snapshot longest tests.0; place = found.1; fits = omega (arith, le, found.1); ends = omega (arith, found.1, found.2) }

pub unplanned : (journal : JournalState) (count snapshot : ℕ) → (placing journal count snapshot).switch ≡ None → (placing journal count snapshot).end ≡ journal.area.end + count + 5
unplanned journal count snapshot is =
    let at = new_start journal (snapshot + 6) in
    stayed (is_due journal count) (is_possible journal snapshot) at (at + (snapshot + 6) + count + 5) (journal.area.end + count + 5) is
