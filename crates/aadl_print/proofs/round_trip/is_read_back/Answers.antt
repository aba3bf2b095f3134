use Rattle.std.proofs.Common.{rules, ◌∙◌, List, ℕ, subst}
use Rattle.std.specs.Prelude.{◌≢◌}
use Rattle.aadl_tree.specs.TextTreesAndFaults.{IsTreeOf}
use Rattle.aadl_tree.specs.proof.PackageViews.{placed}
use Rattle.aadl_parse.specs.declared.text_fault.TextFault.TheVariants.{Memory}
use Rattle.aadl_parse.specs.ParseResults.{IsFaultOfText}
use Rattle.aadl_print.proofs.CanonicalReparse.{same_again, no_fault}
use Rattle.aadl_print.proofs.round_trip.is_read_back.Goals as goal

pub returns-in-Ok : goal.returns-in-Ok
returns-in-Ok c =
    same_again c.args.tree.now c.in-Ok.again c.same.result (λ e. c.same.ensures.1 e)
    (subst (λ (text : List ℕ). IsTreeOf text (placed c.in-Ok.again)) (c.as_slice.ensures.value ∙ c.in_ok-text.ensures)
    c.in-Ok.ensures.tree.given)

pub returns : goal.returns
returns c =
    let some : c.in-Err._fault ≢ Memory = search rules in
    absurd (no_fault c.args.tree.now c.in-Err._fault some
    (subst (λ (text : List ℕ). IsFaultOfText text c.in-Err._fault) (c.as_slice.ensures.value ∙ c.in_ok-text.ensures)
    c.in-Err.ensures.fault))
