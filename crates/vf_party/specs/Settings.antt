-- The setting of a message in the words of the filestore.
use Rattle.vf_filestore.specs.Aborts as filestore
use Rattle.vf_party.specs.declared.setting.Setting.{Setting}

abbrev pub setting_of : Setting → filestore.Setting
setting_of setting = record { moment = setting.moment; serial = setting.serial; token = setting.token; sync = setting.sync }
