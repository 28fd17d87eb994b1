-- What calls make of a table of holders is what becomes of the holders in the state.
use Rattle.std.proofs.Common.{◌≡◌, Bool, true, false, cond, [], refl, ap, sym, ◌∙◌}
use Rattle.std.specs.Str.{bytes_eq}
use Rattle.vf_locks.specs.Holders.{granted, others}
use Rattle.vf_locks.specs.Table.{held}
use Rattle.vf_locks.specs.declared.holder.Holder.TheVariants.{Party}
use Rattle.vf_filestore.specs.Holders.{holders}
use Rattle.vf_filestore.specs.HoldersAfter.{CallsFollow, MovesFollow}
use Rattle.vf_filestore.proofs.Filed.{same_name}

pub calls_follow : CallsFollow
calls_follow table later before after file change keeps called becomes other =
    called other ∙ (λ i. cond (bytes_eq file other) (change (keeps file i)) (keeps other i)) ∙ sym (becomes other)

pub moves_follow : MovesFollow
moves_follow table mid later before after link old new controls differ keeps granted_is released moved file =
    released file ∙ by (bytes_eq new file) refl (bytes_eq old file) refl ∙ sym (moved.is file)
  where
    by : (b : Bool) → bytes_eq new file ≡ b → (c : Bool) → bytes_eq old file ≡ c
        → cond c (others (Party link) (held old mid)) (held file mid) ≡ cond b (granted (Party link) controls []) (cond c [] (holders before file))
    by true e true f =
        let same : bytes_eq new old ≡ true = ap (bytes_eq new) (same_name old file f) ∙ e in
        absurd cc
    by true e false f =
        granted_is file ∙ (λ i. cond (e i) (granted (Party link) controls (held new table)) (held file table))
        ∙ ap (granted (Party link) controls) (keeps new ∙ moved.free)
    by false e true f =
        ap (others (Party link)) (granted_is old ∙ (λ i. cond (differ i) (granted (Party link) controls (held new table)) (held old table)) ∙ keeps old) ∙ moved.alone
    by false e false f =
        granted_is file ∙ (λ i. cond (e i) (granted (Party link) controls (held new table)) (held file table)) ∙ keeps file
