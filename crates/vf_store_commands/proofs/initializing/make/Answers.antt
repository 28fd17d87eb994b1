use Rattle.std.proofs.Common.{◌≡◌, ◌∙◌, inl, inr, [], ◌∷◌, length, refl}
use Rattle.vf_tables.specs.Snapshot.{snapshot}
use Rattle.vf_store_commands.specs.Making.{IsMaking, users_alone, users_line}
use Rattle.vf_store_commands.proofs.Empty.{empty_making, idle_leaves}
use Rattle.vf_store_commands.proofs.Faults.{nothing_at_all, outside_printed}
use Rattle.vf_store_commands.proofs.Opened.{all_printed}
use Rattle.vf_store_commands.proofs.Statuses.{among, apart, is_one_of}
use Rattle.vf_store_commands.proofs.initializing.make.Goals as goal

pub returns-in_default-clause-any_moment : goal.returns-in_default-clause-any_moment
returns-in_default-clause-any_moment g c = λ are shows synced.
    idle_leaves g.D.Disk.shown g.D.Disk.may_leave g.D.Disk.moment g.D.Disk.left_since g.met.D.Disk.only_now c.args.disk (IsMaking c.args.users) (empty_making c.args.users) shows synced

pub returns-clause-prints : goal.returns-clause-prints
returns-clause-prints g c = λ are shows.
    let is : c.in-Ok.changes ≡ snapshot (users_alone c.args.users) = cc (c.in-Ok.ensures.1) in
    outside_printed (record { octets = users_line (length c.args.users); status = 0 }) c.in-Err.error c.print_error-status.result (g.O.Sink.taken c.args.out.now) (g.O.Sink.taken c.print_error-status.new.out)
    (c.in-Err.ensures.errors c.args.users are is shows) c.print_error-status.ensures.prints

pub returns-in_default-clause-prints : goal.returns-in_default-clause-prints
returns-in_default-clause-prints g c = λ are shows. nothing_at_all (4 ∷ 5 ∷ 9 ∷ []) (record { octets = users_line (length c.args.users); status = 0 }) 9 (g.O.Sink.taken c.args.out.now) (is_one_of (4 ∷ 5 ∷ 9 ∷ []) 9 refl)

pub returns-in_default-clause-ends : goal.returns-in_default-clause-ends
returns-in_default-clause-ends g c = is_one_of (0 ∷ 4 ∷ 5 ∷ 8 ∷ 9 ∷ 12 ∷ []) 9 refl

pub returns-in_default-clause-made : goal.returns-in_default-clause-made
returns-in_default-clause-made g c = λ are shows zero. absurd (apart (9 ∷ []) (0 ∷ []) 9 refl (inl refl) (inl zero))

pub returns-in_default-clause-output_cause : goal.returns-in_default-clause-output_cause
returns-in_default-clause-output_cause g c = λ four. absurd (apart (9 ∷ []) (4 ∷ []) 9 refl (inl refl) (inl four))

pub returns-in_default-clause-disk_cause : goal.returns-in_default-clause-disk_cause
returns-in_default-clause-disk_cause g c = λ five. absurd (apart (9 ∷ []) (5 ∷ []) 9 refl (inl refl) (inl five))

pub returns-in-Ok-store_with-clause-prints : goal.returns-in-Ok-store_with-clause-prints
returns-in-Ok-store_with-clause-prints g c = λ are shows.
    all_printed (users_line (length c.args.users)) 0 c.print-status.result (g.O.Sink.taken c.args.out.now) (g.O.Sink.taken c.print-status.new.out) c.as_bytes.result.now (c.as_bytes.ensures.value ∙ c.in-Ok.ensures.0) c.print-status.ensures.prints

pub returns-in-Ok-store_with-clause-ends : goal.returns-in-Ok-store_with-clause-ends
returns-in-Ok-store_with-clause-ends g c = among (0 ∷ 4 ∷ []) (0 ∷ 4 ∷ 5 ∷ 8 ∷ 9 ∷ 12 ∷ []) c.print-status.result refl c.print-status.ensures.ends

pub returns-in-Ok-store_with-clause-made : goal.returns-in-Ok-store_with-clause-made
returns-in-Ok-store_with-clause-made g c = λ are shows zero. c.in-Ok-store_with.ensures.made c.args.users are c.in-Ok.ensures.1 shows

pub returns-in-Ok-store_with-clause-any_moment : goal.returns-in-Ok-store_with-clause-any_moment
returns-in-Ok-store_with-clause-any_moment g c = λ are shows synced. c.in-Ok-store_with.ensures.any_moment c.args.users are c.in-Ok.ensures.1 shows synced

pub returns-in-Ok-store_with-clause-disk_cause : goal.returns-in-Ok-store_with-clause-disk_cause
returns-in-Ok-store_with-clause-disk_cause g c = λ five. absurd (apart (0 ∷ 4 ∷ []) (5 ∷ []) c.print-status.result refl c.print-status.ensures.ends (inl five))

pub returns-clause-ends : goal.returns-clause-ends
returns-clause-ends g c = inr c.print_error-status.ensures.ends

pub returns-clause-made : goal.returns-clause-made
returns-clause-made g c = λ are shows zero. absurd (apart (4 ∷ 5 ∷ 8 ∷ 9 ∷ 12 ∷ []) (0 ∷ []) c.print_error-status.result refl c.print_error-status.ensures.ends (inl zero))

pub returns-clause-any_moment : goal.returns-clause-any_moment
returns-clause-any_moment g c = λ are shows synced. c.in-Err.ensures.any_moment c.args.users are c.in-Ok.ensures.1 shows synced

pub returns-clause-disk_cause : goal.returns-clause-disk_cause
returns-clause-disk_cause g c = λ five. c.in-Err.ensures.cause (c.print_error-status.ensures.fault five)
