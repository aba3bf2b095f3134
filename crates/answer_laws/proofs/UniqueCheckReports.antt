-- A design has one report of `check`.
use Rattle.std.proofs.Common.{◌≡◌, ◌∙◌, ℕ, List, Option, Some, None, sym, ap, arith}
use Rattle.pals_base.specs.declared.period_bound_and_releases.Gamma.{Gamma}
use Rattle.bound_checker.specs.LeastMultiples.{IsLeastMultiple}
use Rattle.pals_model.specs.declared.design.DesignParts.{DesignParts}
use Rattle.pals_model.specs.RoundTexts.{text_of}
use Rattle.pals_report.specs.CheckReports.{rates, IsShortest, check_lines, IsCheckReport}

least_is_one : (g : Gamma) (ks : List ℕ) (t u : ℕ) → IsLeastMultiple g ks t → IsLeastMultiple g ks u → t ≡ u
least_is_one g ks t u x y = let h = x.least u y.suited in let k = y.least t x.suited in omega arith

one_shortest : (design : DesignParts) (a b : Option ℕ) → IsShortest design a → IsShortest design b → a ≡ b
one_shortest design None None x y = λ i. None
one_shortest design None (Some u) x y = absurd (x u y.within y.suited)
one_shortest design (Some t) None x y = absurd (y t x.within x.suited)
one_shortest design (Some t) (Some u) x y = ap Some (least_is_one design.gamma (rates design) t u x y)

pub one_report : (design : DesignParts) (a b : List ℕ) → IsCheckReport design a → IsCheckReport design b → a ≡ b
one_report design a b x y =
    x.text_is ∙ (ap (λ o. text_of (check_lines design o))
    (one_shortest design x.shortest y.shortest x.is_shortest y.is_shortest) ∙ sym y.text_is)
