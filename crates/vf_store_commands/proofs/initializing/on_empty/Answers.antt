use Rattle.std.proofs.Common.{◌≡◌, inl, ◌∷◌, [], ℕ, List, Result, Ok, Err, length, refl, subst, sym}
use Rattle.vf_disk.proofs.Runs.{weaker}
use Rattle.vf_tables.specs.declared.user.User.{User}
use Rattle.vf_store_commands.specs.Making.{IsMaking, MayLeave, printed_told, users_line}
use Rattle.vf_cli_printing.specs.Printed.{Prints, bad_line}
use Rattle.vf_store_commands.specs.UserLines.{users_told}
use Rattle.vf_store_commands.specs.declared.user_lines.Told.TheVariants.{Users, Bad}
use Rattle.vf_store_commands.proofs.Empty.{empty_may, idle_leaves, making_may, tells_bad, tells_users, zero_alone}
use Rattle.vf_store_commands.proofs.Faults.{more_faults, status_of}
use Rattle.vf_store_commands.proofs.Kept.{are_users}
use Rattle.vf_store_commands.proofs.Statuses.{among, apart}
use Rattle.vf_store_commands.proofs.initializing.on_empty.Goals as goal

pub returns-in-Ok-Users-clause-prints : goal.returns-in-Ok-Users-clause-prints
returns-in-Ok-Users-clause-prints g c = λ lines shows left.
    let users : List User = c.in-Ok-Users.users in
    let tied : c.in-Ok-Users.field-0 ≡ Users users = cc (c.in-Ok-Users.field-0-is) in
    let told : users_told lines ≡ Ok users = tells_users lines c.in-Ok-Users.field-0 users tied (c.in-Ok-Users.ensures.tells lines left) in
    let old = g.O.Sink.taken c.args.out.now in
    let new = g.O.Sink.taken c.make.new.out in
    subst (λ (r : Result (List User) ℕ). Prints (3 ∷ 4 ∷ 5 ∷ 9 ∷ []) (printed_told r) c.make.result.1 old new) (sym told)
    (more_faults (4 ∷ 5 ∷ 9 ∷ []) (3 ∷ 4 ∷ 5 ∷ 9 ∷ []) (record { octets = users_line (length users); status = 0 }) c.make.result.1 old new refl
    (c.make.ensures.prints (are_users lines users told) shows))

pub returns-in-Ok-Users-clause-made : goal.returns-in-Ok-Users-clause-made
returns-in-Ok-Users-clause-made g c = λ lines shows left zero.
    let users : List User = c.in-Ok-Users.users in
    let tied : c.in-Ok-Users.field-0 ≡ Users users = cc (c.in-Ok-Users.field-0-is) in
    let told : users_told lines ≡ Ok users = tells_users lines c.in-Ok-Users.field-0 users tied (c.in-Ok-Users.ensures.tells lines left) in
    (users, told, c.make.ensures.made (are_users lines users told) shows zero)

pub returns-in-Ok-Users-clause-kept : goal.returns-in-Ok-Users-clause-kept
returns-in-Ok-Users-clause-kept g c = λ lines shows left is.
    let users : List User = c.in-Ok-Users.users in
    let tied : c.in-Ok-Users.field-0 ≡ Users users = cc (c.in-Ok-Users.field-0-is) in
    let told : users_told lines ≡ Ok users = tells_users lines c.in-Ok-Users.field-0 users tied (c.in-Ok-Users.ensures.tells lines left) in
    absurd (zero_alone (users_line (length users)) c.make.result.1 (g.O.Sink.taken c.args.out.now) (g.O.Sink.taken c.make.new.out)
    (c.make.ensures.prints (are_users lines users told) shows) is)

pub returns-in-Ok-Users-clause-any_moment : goal.returns-in-Ok-Users-clause-any_moment
returns-in-Ok-Users-clause-any_moment g c = λ lines shows synced left.
    let users : List User = c.in-Ok-Users.users in
    let tied : c.in-Ok-Users.field-0 ≡ Users users = cc (c.in-Ok-Users.field-0-is) in
    let told : users_told lines ≡ Ok users = tells_users lines c.in-Ok-Users.field-0 users tied (c.in-Ok-Users.ensures.tells lines left) in
    weaker g.D.Disk.moment g.D.Disk.left_since c.args.disk c.make.result.0 (IsMaking users) (MayLeave lines) (c.make.ensures.any_moment (are_users lines users told) shows synced)
    (making_may lines users told)

pub returns-in-Ok-Bad-clause-any_moment : goal.returns-in-Ok-Bad-clause-any_moment
returns-in-Ok-Bad-clause-any_moment g c = λ lines shows synced left.
    idle_leaves g.D.Disk.shown g.D.Disk.may_leave g.D.Disk.moment g.D.Disk.left_since g.met.D.Disk.only_now c.args.disk (MayLeave lines) (empty_may lines) shows synced

pub returns-in-Err-Failed-clause-any_moment : goal.returns-in-Err-Failed-clause-any_moment
returns-in-Err-Failed-clause-any_moment g c = λ lines shows synced left.
    idle_leaves g.D.Disk.shown g.D.Disk.may_leave g.D.Disk.moment g.D.Disk.left_since g.met.D.Disk.only_now c.args.disk (MayLeave lines) (empty_may lines) shows synced

pub returns-in-Err-NoMemory-clause-any_moment : goal.returns-in-Err-NoMemory-clause-any_moment
returns-in-Err-NoMemory-clause-any_moment g c = λ lines shows synced left.
    idle_leaves g.D.Disk.shown g.D.Disk.may_leave g.D.Disk.moment g.D.Disk.left_since g.met.D.Disk.only_now c.args.disk (MayLeave lines) (empty_may lines) shows synced

pub returns-in-Ok-Users-clause-ends : goal.returns-in-Ok-Users-clause-ends
returns-in-Ok-Users-clause-ends g c = among (0 ∷ 4 ∷ 5 ∷ 8 ∷ 9 ∷ 12 ∷ []) (0 ∷ 3 ∷ 4 ∷ 5 ∷ 8 ∷ 9 ∷ 11 ∷ 12 ∷ []) c.make.result.1 refl c.make.ensures.ends

pub returns-in-Ok-Users-clause-input_cause : goal.returns-in-Ok-Users-clause-input_cause
returns-in-Ok-Users-clause-input_cause g c = λ three. absurd (apart (0 ∷ 4 ∷ 5 ∷ 8 ∷ 9 ∷ 12 ∷ []) (3 ∷ []) c.make.result.1 refl c.make.ensures.ends (inl three))

pub returns-in-Ok-Bad-clause-prints : goal.returns-in-Ok-Bad-clause-prints
returns-in-Ok-Bad-clause-prints g c = λ lines shows left.
    let number : ℕ = c.in-Ok-Bad.number in
    let tied : c.in-Ok-Bad.field-0 ≡ Bad number = cc (c.in-Ok-Bad.field-0-is) in
    let told : users_told lines ≡ Err number = tells_bad lines c.in-Ok-Bad.field-0 number tied (c.in-Ok-Bad.ensures.tells lines left) in
    let old = g.O.Sink.taken c.args.out.now in
    let new = g.O.Sink.taken c.print_bad_line-status.new.out in
    subst (λ (r : Result (List User) ℕ). Prints (3 ∷ 4 ∷ 5 ∷ 9 ∷ []) (printed_told r) c.print_bad_line-status.result old new) (sym told)
    (more_faults (4 ∷ 9 ∷ []) (3 ∷ 4 ∷ 5 ∷ 9 ∷ []) (record { octets = bad_line number; status = 11 }) c.print_bad_line-status.result old new refl c.print_bad_line-status.ensures.prints)

pub returns-in-Ok-Bad-clause-ends : goal.returns-in-Ok-Bad-clause-ends
returns-in-Ok-Bad-clause-ends g c =
    among (11 ∷ 4 ∷ 9 ∷ []) (0 ∷ 3 ∷ 4 ∷ 5 ∷ 8 ∷ 9 ∷ 11 ∷ 12 ∷ []) c.print_bad_line-status.result refl
    (status_of (4 ∷ 9 ∷ []) (record { octets = bad_line c.in-Ok-Bad.number; status = 11 }) c.print_bad_line-status.result (g.O.Sink.taken c.args.out.now) (g.O.Sink.taken c.print_bad_line-status.new.out) c.print_bad_line-status.ensures.prints)

pub returns-in-Ok-Bad-clause-end : goal.returns-in-Ok-Bad-clause-end
returns-in-Ok-Bad-clause-end g c = λ zero. absurd (apart (11 ∷ 4 ∷ 9 ∷ []) (0 ∷ []) c.print_bad_line-status.result refl
    (status_of (4 ∷ 9 ∷ []) (record { octets = bad_line c.in-Ok-Bad.number; status = 11 }) c.print_bad_line-status.result (g.O.Sink.taken c.args.out.now) (g.O.Sink.taken c.print_bad_line-status.new.out) c.print_bad_line-status.ensures.prints) (inl zero))

pub returns-in-Ok-Bad-clause-made : goal.returns-in-Ok-Bad-clause-made
returns-in-Ok-Bad-clause-made g c = λ lines shows left zero. absurd (apart (11 ∷ 4 ∷ 9 ∷ []) (0 ∷ []) c.print_bad_line-status.result refl
    (status_of (4 ∷ 9 ∷ []) (record { octets = bad_line c.in-Ok-Bad.number; status = 11 }) c.print_bad_line-status.result (g.O.Sink.taken c.args.out.now) (g.O.Sink.taken c.print_bad_line-status.new.out) c.print_bad_line-status.ensures.prints) (inl zero))

pub returns-in-Ok-Bad-clause-input_cause : goal.returns-in-Ok-Bad-clause-input_cause
returns-in-Ok-Bad-clause-input_cause g c = λ three. absurd (apart (11 ∷ 4 ∷ 9 ∷ []) (3 ∷ []) c.print_bad_line-status.result refl
    (status_of (4 ∷ 9 ∷ []) (record { octets = bad_line c.in-Ok-Bad.number; status = 11 }) c.print_bad_line-status.result (g.O.Sink.taken c.args.out.now) (g.O.Sink.taken c.print_bad_line-status.new.out) c.print_bad_line-status.ensures.prints) (inl three))

pub returns-in-Ok-Bad-clause-disk_cause : goal.returns-in-Ok-Bad-clause-disk_cause
returns-in-Ok-Bad-clause-disk_cause g c = λ five. absurd (apart (11 ∷ 4 ∷ 9 ∷ []) (5 ∷ []) c.print_bad_line-status.result refl
    (status_of (4 ∷ 9 ∷ []) (record { octets = bad_line c.in-Ok-Bad.number; status = 11 }) c.print_bad_line-status.result (g.O.Sink.taken c.args.out.now) (g.O.Sink.taken c.print_bad_line-status.new.out) c.print_bad_line-status.ensures.prints) (inl five))
