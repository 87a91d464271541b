use Rattle.session.proofs.Tabling.{none_made}
use Rattle.session.proofs.tables.Tables.new.Goals as goal

pub unwrap-requires : goal.unwrap-requires
unwrap-requires c = none_made c.plain.result c.plain.ensures
