-- The answer to a bundle: without a design, with a design and its codes, or with a code that is too long.
use Rattle.std.proofs.Common.{◌≡◌, inl, inr, ℕ, List, ◌++◌, Result, Ok, Err, IfOk, OnOk, sym, ap, ◌∙◌, subst}
use Rattle.pals_base.specs.declared.basic_types.NodeNo.{NodeNo}
use Rattle.pals_model.specs.declared.design.DesignParts.{DesignParts}
use Rattle.pals_model.specs.RoundTexts.{line_end}
use Rattle.step_code.specs.declared.instr.CodeParts.{CodeParts}
use Rattle.step_compiler.specs.LaidOutCode.{AreLaidOut}
use Rattle.design_codes.specs.DesignBehaviours.{behaviours}
use Rattle.design_codes.specs.OverlongCodes.{AreShort, IsFirstTooLong}
use Rattle.bundle_designs.specs.declared.refusal.Refusal.{Refusal}
use Rattle.bundle_designs.specs.declared.refusal.Refusal.TheVariants.{Text, Design, Memory}
use Rattle.bundle_designs.specs.RefusedTexts.{IsTextRefused}
use Rattle.bundle_designs.specs.AcceptedAndRefusedPackages.{IsAccepted, IsPackageRefused}
use Rattle.bundle_designs.specs.proof.Refusals.{IsRefusal}
use Rattle.code_listing.specs.Listings.{listing}
use Rattle.code_listing.specs.NumberRanges.{AllFit}
use Rattle.pals_code.specs.declared.answer.Answer.{Answer}
use Rattle.pals_code.specs.declared.status.TheConstants.{DONE, CODE_TOO_LONG}
use Rattle.pals_code.specs.BundleAnswers.{overlong_code_line, IsRefused, IsListingAnswer}
use Rattle.pals_code.specs.proof.StatusAndText.{status_of, text_of, Says, SaysWhy}

pub refused : (root bundle : List ℕ) (refusal : Refusal) (a : Answer) → IsRefusal root bundle refusal
    → SaysWhy refusal a
    → IsRefused root bundle (status_of a) (text_of a)
refused root bundle (Text text) a is says = inl (says.0, subst (λ (w : List ℕ). IsTextRefused bundle w) (sym says.1) is)
refused root bundle (Design text) a is says =
    inr (says.0, subst (λ (w : List ℕ). IsPackageRefused root bundle w) (sym says.1) is)
refused root bundle Memory a is says = absurd says

-- a line on a component, by another name of it
pub code_said : {E : Type 0} (design : DesignParts) (answered : Result Answer E) {m n : NodeNo} {s t : ℕ}
    → m ≡ n → s ≡ t
    → IfOk answered (Says CODE_TOO_LONG (overlong_code_line design m.0 s ++ line_end))
    → IfOk answered (Says CODE_TOO_LONG (overlong_code_line design n.0 t ++ line_end))
code_said design answered {m} {n} {s} {t} same_node same_size said =
    subst (λ (size : ℕ). IfOk answered (Says CODE_TOO_LONG (overlong_code_line design n.0 size ++ line_end))) same_size
    (subst (λ (node : NodeNo). IfOk answered (Says CODE_TOO_LONG (overlong_code_line design node.0 s ++ line_end)))
    same_node said)

pub code_refused : {E : Type 0} (root bundle : List ℕ) (design : DesignParts) (scenario : List ℕ) (node : NodeNo)
    (size : ℕ) (answered : Result Answer E)
    → IsAccepted root bundle design scenario → IsFirstTooLong design node.0 size
    → IfOk answered (Says CODE_TOO_LONG (overlong_code_line design node.0 size ++ line_end))
    → IfOk answered (λ a. IsListingAnswer root bundle (status_of a) (text_of a))
code_refused root bundle design scenario node size (Ok a) accepted long says =
    inr (inl (record {
      status_is = says.0;
      design = design;
      scenario = scenario;
      accepted = accepted;
      node = node;
      size = size;
      too_long = long;
      text_is = says.1;
    }))
code_refused root bundle design scenario node size (Err e) accepted long says = tt

pub listed : {E : Type 0} (root bundle : List ℕ) (design : DesignParts) (scenario : List ℕ)
    (programs shown : List CodeParts) (answered : Result Answer E)
    → IsAccepted root bundle design scenario → AreShort design → AreLaidOut (behaviours design) programs
    → shown ≡ programs → OnOk answered (AllFit design.components shown)
    → IfOk answered (Says DONE (listing design shown))
    → IfOk answered (λ a. IsListingAnswer root bundle (status_of a) (text_of a))
listed root bundle design scenario programs shown (Ok a) accepted short laid_out same fit says =
    inr (inr (record {
      status_is = says.0;
      design = design;
      scenario = scenario;
      accepted = accepted;
      short = short;
      programs = programs;
      laid_out = laid_out;
      fit = subst (AllFit design.components) same fit;
      text_is = says.1 ∙ ap (listing design) same;
    }))
listed root bundle design scenario programs shown (Err e) accepted short laid_out same fit says = tt
