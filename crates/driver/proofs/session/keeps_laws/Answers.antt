use Rattle.driver.proofs.session.keeps_laws.Goals as goal

pub returns : goal.returns
returns g c = g.met.R.Runner.laws
