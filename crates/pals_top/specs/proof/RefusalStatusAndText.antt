-- The status and text of an answer that reports why a bundle has no design.
use Rattle.bundle_designs.specs.declared.refusal.Refusal.{Refusal}
use Rattle.bundle_designs.specs.declared.refusal.Refusal.TheVariants.{Text, Design, Memory}
use Rattle.pals_top.specs.declared.status.TheConstants.{TEXT_REFUSED, DESIGN_REFUSED}
use Rattle.pals_top.specs.declared.answer.Answer.{Answer}
use Rattle.pals_top.specs.proof.StatusAndText.{Says}

-- it reports why a bundle has no design; no answer reports that memory ran out
abbrev pub SaysWhy : Refusal → Answer → Type 0
SaysWhy (Text text) answer = Says TEXT_REFUSED text.items answer
SaysWhy (Design text) answer = Says DESIGN_REFUSED text.items answer
SaysWhy Memory answer = ⊥
