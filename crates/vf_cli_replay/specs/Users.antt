-- The users of a script (profile): no two have one identity, there are not too many, and each has a name and a password of at most
-- 255 octets.
use Rattle.std.specs.Prelude.{◌≡◌, true, List, []}
use Rattle.vf_filestore.specs.Keeping.{AreOthersValid}
use Rattle.vf_filestore.specs.Ranges.{AreOthersRanged}
use Rattle.vf_store_commands.specs.Making.{users_alone}
use Rattle.vf_tables.specs.Snapshot.{is_kept}
use Rattle.vf_tables.specs.declared.user.User.{User}

-- a filestore may begin with them, and a store may keep them
pub record AreGood (users : List User) : Type 0 where
  pub valid : AreOthersValid users []
  pub ranged : AreOthersRanged users []
  pub kept : is_kept (users_alone users) ≡ true
