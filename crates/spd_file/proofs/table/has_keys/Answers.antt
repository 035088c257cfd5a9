use Rattle.spd_file.proofs.Tables.{only_keys-keys}
use Rattle.spd_file.proofs.table.has_keys.Goals as goal

pub returns : goal.returns
returns g c = rw (only_keys-keys g.K.Key.is_key c.args.table.now.entries) c.are_keys.ensures
