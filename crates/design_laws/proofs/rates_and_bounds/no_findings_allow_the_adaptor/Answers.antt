use Rattle.design_laws.proofs.AllowedAdaptors.{fits}
use Rattle.design_laws.proofs.rates_and_bounds.no_findings_allow_the_adaptor.Goals as goal

pub returns : goal.returns
returns c = λ at name text kind p q none. let f = fits at name text kind p q none in (f.divides, f.allowed, f.suits)
