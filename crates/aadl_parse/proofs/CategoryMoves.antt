-- What the machine does at a category: it takes the category, and a declaration begins with it. For the parser of
-- declarations.
use Rattle.std.proofs.Common.{◌≡◌, [], ◌∷◌, refl}
use Rattle.aadl_tree.specs.declared.declarations.Category.{Category}
use Rattle.aadl_tree.specs.declared.declarations.Category.TheVariants as categories
use Rattle.aadl_tree.specs.Terminals.{mark}
use Rattle.aadl_tree.specs.Declarations.{category_mark}
use Rattle.aadl_grammar.specs.proof.GrammarSymbols as s
use Rattle.aadl_grammar.specs.proof.StackMachine.{takes, move}

-- the moves of the symbol of categories, and of the symbol of declarations
pub category_moves : (x : Category) → move s.category (mark (category_mark x)) ≡ takes []
unfolding move
category_moves categories.System = refl
category_moves categories.Process = refl
category_moves categories.Thread = refl

pub declaration_moves : (x : Category)
    → move s.declarations (mark (category_mark x)) ≡ takes (s.after_category ∷ s.declarations ∷ [])
unfolding move
declaration_moves categories.System = refl
declaration_moves categories.Process = refl
declaration_moves categories.Thread = refl
