use Rattle.std.proofs.Common.{◌≡◌, ◌∙◌, ◌∷◌, [], ℕ, List, Some, length, ap, refl, subst, sym}
use Rattle.vf_store_commands.specs.Making.{MayLeave}
use Rattle.vf_cli_printing.specs.Printed.{Printed, Prints}
use Rattle.vf_store_commands.specs.ErrorLines.{no_store_line}
use Rattle.vf_store_commands.proofs.Empty.{empty_may, is_nothing, look_leaves, on_empty_disk, on_other_disk, shown_still, then_leaves}
use Rattle.vf_store_commands.proofs.Faults.{more_faults}
use Rattle.vf_store_commands.proofs.initializing.init.Goals as goal

pub returns-in_default-clause-any_moment : goal.returns-in_default-clause-any_moment
returns-in_default-clause-any_moment g c = λ lines shows synced left.
    look_leaves g.D.Disk.shown g.D.Disk.may_leave g.D.Disk.moment g.D.Disk.left_since g.met.D.Disk.only_now c.args.disk (MayLeave lines) (empty_may lines) shows synced c.len.new.self
    c.len.ensures.time c.len.ensures.crash

pub returns-then-length-eq0-clause-prints : goal.returns-then-length-eq0-clause-prints
returns-then-length-eq0-clause-prints g c = λ octets lines shows left.
    let none : length octets ≡ 0 = g.met.D.Disk.measured c.args.disk octets shows ∙ sym c.in-Ok.ensures.length ∙ c.if-length-eq0.true in
    let empty : g.D.Disk.shown c.len.new.self ≡ Some [] = c.len.ensures.shown ∙ shows ∙ ap (λ (l : List ℕ). Some l) (is_nothing octets none) in
    subst (λ (p : Printed). Prints (3 ∷ 4 ∷ 5 ∷ 9 ∷ []) p c.on_empty.result.1 (g.O.Sink.taken c.args.out.now) (g.O.Sink.taken c.on_empty.new.out)) (on_empty_disk octets lines none)
    (c.on_empty.ensures.prints lines empty left)

pub returns-then-length-eq0-clause-kept : goal.returns-then-length-eq0-clause-kept
returns-then-length-eq0-clause-kept g c = λ octets lines shows left is.
    let none : length octets ≡ 0 = g.met.D.Disk.measured c.args.disk octets shows ∙ sym c.in-Ok.ensures.length ∙ c.if-length-eq0.true in
    let empty : g.D.Disk.shown c.len.new.self ≡ Some [] = c.len.ensures.shown ∙ shows ∙ ap (λ (l : List ℕ). Some l) (is_nothing octets none) in
    let same = c.on_empty.ensures.kept lines empty left is in
    (ap g.D.Disk.shown same ∙ c.len.ensures.shown, λ image may. c.len.ensures.crash image (subst (λ disk. g.D.Disk.may_leave disk image) same may))

pub returns-then-length-eq0-clause-any_moment : goal.returns-then-length-eq0-clause-any_moment
returns-then-length-eq0-clause-any_moment g c = λ lines shows synced left.
    let empty : g.D.Disk.shown c.len.new.self ≡ Some [] = c.len.ensures.shown ∙ shows in
    then_leaves g.D.Disk.shown g.D.Disk.may_leave g.D.Disk.moment g.D.Disk.left_since g.met.D.Disk.only_now c.args.disk (MayLeave lines) (empty_may lines) shows synced c.len.new.self
    c.on_empty.result.0 c.len.ensures.time c.len.ensures.crash
    (c.on_empty.ensures.any_moment lines empty
    (shown_still (g.D.Disk.shown c.args.disk) (g.D.Disk.shown c.len.new.self) (g.D.Disk.may_leave c.args.disk) (g.D.Disk.may_leave c.len.new.self) c.len.ensures.shown c.len.ensures.crash synced) left)

pub returns-clause-prints : goal.returns-clause-prints
returns-clause-prints g c = λ octets lines shows left.
    let some : length octets ≡ 0 → ⊥ = λ none. c.if-length-eq0.false (c.in-Ok.ensures.length ∙ sym (g.met.D.Disk.measured c.args.disk octets shows) ∙ none) in
    let old = g.O.Sink.taken c.args.out.now in
    let new = g.O.Sink.taken c.print_no_store-status.new.out in
    subst (λ (p : Printed). Prints (3 ∷ 4 ∷ 5 ∷ 9 ∷ []) p c.print_no_store-status.result old new) (on_other_disk octets lines some)
    (more_faults (4 ∷ 9 ∷ []) (3 ∷ 4 ∷ 5 ∷ 9 ∷ []) (record { octets = no_store_line 0; status = 8 }) c.print_no_store-status.result old new
    refl c.print_no_store-status.ensures.prints)

pub returns-clause-any_moment : goal.returns-clause-any_moment
returns-clause-any_moment g c = λ lines shows synced left.
    look_leaves g.D.Disk.shown g.D.Disk.may_leave g.D.Disk.moment g.D.Disk.left_since g.met.D.Disk.only_now c.args.disk (MayLeave lines) (empty_may lines) shows synced c.len.new.self
    c.len.ensures.time c.len.ensures.crash
