use Rattle.session.proofs.session.Session.create.Goals as goal

pub returns : goal.returns
returns g c = c.start-ended.ensures c.args.setup.now c.args.tables.now c.fresh-session.ensures c.begin.ensures
