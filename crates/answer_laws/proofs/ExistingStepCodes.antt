-- The behaviours of each design have step codes.
use Rattle.std.proofs.Common.{◌≡◌, ℕ, zero, suc, List, [], ◌∷◌, map, Some, slice_get, refl, ap, subst, arith}
use Rattle.std.specs.Prelude.{All}
use Rattle.std.proofs.lemmas.Option.{same_Some, none-some}
use Rattle.pals_base.specs.declared.behaviour.BehaviourParts.{BehaviourParts}
use Rattle.pals_model.specs.declared.design.Component.{Component}
use Rattle.pals_model.specs.declared.design.DesignParts.{DesignParts}
use Rattle.pals_model.specs.DesignRules.{IsComponent, IsDesign}
use Rattle.step_code.specs.declared.instr.CodeParts.{CodeParts}
use Rattle.step_compiler.specs.LaidOutCode.{IsLaidOut, AreLaidOut}
use Rattle.step_compiler.specs.proof.LayoutLaws.{HasLayout}
use Rattle.design_codes.specs.DesignBehaviours.{behaviours}

none_laid : AreLaidOut [] []
none_laid = record { count = refl; each = λ k b code e f. absurd (none-some b e) }

first_or_later : (b : BehaviourParts) (code : CodeParts) (bs : List BehaviourParts) (codes : List CodeParts)
    → IsLaidOut b code → AreLaidOut bs codes
    → (k : ℕ) (x : BehaviourParts) (y : CodeParts) → slice_get (b ∷ bs) k ≡ Some x → slice_get (code ∷ codes) k ≡ Some y
    → IsLaidOut x y
first_or_later b code bs codes is are zero x y e f =
    subst (λ (z : BehaviourParts). IsLaidOut z y) (same_Some b x e)
    (subst (λ (z : CodeParts). IsLaidOut b z) (same_Some code y f) is)
first_or_later b code bs codes is are (suc k) x y e f = are.each k x y e f

one_more_laid : (b : BehaviourParts) (code : CodeParts) (bs : List BehaviourParts) (codes : List CodeParts)
    → IsLaidOut b code → AreLaidOut bs codes
    → AreLaidOut (b ∷ bs) (code ∷ codes)
one_more_laid b code bs codes is are = record { count = ap suc are.count; each = first_or_later b code bs codes is are }

laid_out : HasLayout → (period : ℕ) (cs : List Component) → All (IsComponent period) cs
    → (codes : List CodeParts) × AreLaidOut (map (λ (c : Component). c.behaviour) cs) codes
laid_out layout period [] all = ([], none_laid)
laid_out layout period (c ∷ cs) all =
    let first = layout c.behaviour (all 0 c (omega arith)).behaviour in
    let rest = laid_out layout period cs (λ k d less. all (suc k) d (omega arith)) in (
      first.0 ∷ rest.0,
      one_more_laid c.behaviour first.0 (map (λ (x : Component). x.behaviour) cs) rest.0
          first.1 rest.1,
    )

pub has_codes : HasLayout → (design : DesignParts) → IsDesign design
    → (codes : List CodeParts) × AreLaidOut (behaviours design) codes
has_codes layout design is = laid_out layout design.period design.components is.components.each
