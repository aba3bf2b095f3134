-- The answer to a bundle that has no design.
use Rattle.std.proofs.Common.{◌≡◌, inl, inr, ℕ, List, sym, subst}
use Rattle.bundle_designs.specs.declared.refusal.Refusal.{Refusal}
use Rattle.bundle_designs.specs.declared.refusal.Refusal.TheVariants.{Text, Design, Memory}
use Rattle.bundle_designs.specs.RefusedTexts.{IsTextRefused}
use Rattle.bundle_designs.specs.AcceptedAndRefusedPackages.{IsPackageRefused}
use Rattle.bundle_designs.specs.proof.Refusals.{IsTextRefusal, IsRefusal}
use Rattle.pals_top.specs.declared.answer.Answer.{Answer}
use Rattle.pals_top.specs.declared.status.TheConstants.{TEXT_REFUSED}
use Rattle.pals_top.specs.RefusalAnswers.{IsBundleRefused}
use Rattle.pals_top.specs.proof.RefusalStatusAndText.{SaysWhy}
use Rattle.pals_top.specs.proof.StatusAndText.{status_of, text_of}

pub text_refused : (bundle : List ℕ) (refusal : Refusal) (a : Answer) → IsTextRefusal bundle refusal → SaysWhy refusal a
    → (status_of a ≡ TEXT_REFUSED) × IsTextRefused bundle (text_of a)
text_refused bundle (Text text) a is says = (says.0, subst (λ (w : List ℕ). IsTextRefused bundle w) (sym says.1) is)
text_refused bundle (Design text) a is says = absurd is
text_refused bundle Memory a is says = absurd says

pub bundle_refused : (root bundle : List ℕ) (refusal : Refusal) (a : Answer) → IsRefusal root bundle refusal
    → SaysWhy refusal a
    → IsBundleRefused root bundle (status_of a) (text_of a)
bundle_refused root bundle (Text text) a is says = inl (text_refused bundle (Text text) a is says)
bundle_refused root bundle (Design text) a is says =
    inr (says.0, subst (λ (w : List ℕ). IsPackageRefused root bundle w) (sym says.1) is)
bundle_refused root bundle Memory a is says = absurd says
