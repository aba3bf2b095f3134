-- Actions as plain trees, and the parts that spell them.
use Rattle.std.specs.Prelude.{List, [], ◌∷◌, ◌++◌}
use Rattle.aadl_tree.specs.declared.actions.Bound.{Bound}
use Rattle.aadl_tree.specs.Terminals.{whole, mark}
use Rattle.aadl_tree.specs.SpellingParts.{SpellingPart, token, may, last_semicolon, plain, marked_if}
use Rattle.aadl_tree.specs.Names.{Identifier, Reference, identifier_parts, reference_parts}
use Rattle.aadl_tree.specs.Expressions.{Expression, expression_parts}
use Rattle.aadl_tree.specs.declared.mark.Mark.TheVariants as k

mutual
  pub data Action (P : Type 0) : Type 0 where
    assign : Identifier P → Expression P → Action P
    send : Identifier P → Expression P → Action P
    choose : Expression P → Actions P → Elsifs P → Otherwise P → Action P
    loop : P → Identifier P → Reference P → Bound → Bound → Block P → Action P

  pub data Actions (P : Type 0) : Type 0 where
    actions : Action P → Mores P → Actions P

  -- the actions after the first one
  pub data Mores (P : Type 0) : Type 0 where
    no_mores : Mores P
    more : Action P → Mores P → Mores P

  pub data Elsifs (P : Type 0) : Type 0 where
    no_elsifs : Elsifs P
    elsif : Expression P → Actions P → Elsifs P → Elsifs P

  pub data Otherwise (P : Type 0) : Type 0 where
    no_otherwise : Otherwise P
    otherwise : Actions P → Otherwise P

  pub data Block (P : Type 0) : Type 0 where
    no_block : Block P
    block : Actions P → Block P

-- "(" expression ")"
abbrev pub test_parts : {P : Type 0} → Expression P → List (SpellingPart P)
test_parts e = plain k.ParenOpen ∷ (expression_parts e ++ plain k.ParenClose ∷ [])

-- [ "-" ] whole
abbrev pub bound_parts : {P : Type 0} → Bound → List (SpellingPart P)
bound_parts x = marked_if k.Minus x.negative ++ token (whole x.value) [] ∷ []

abbrev mutual
  pub action_parts : {P : Type 0} → Action P → List (SpellingPart P)
  action_parts (assign x e) = identifier_parts x ++ (plain k.Assign ∷ expression_parts e)
  action_parts (send x e) = identifier_parts x ++ (plain k.Bang ∷ test_parts e)
  action_parts (choose test a es o) =
      plain k.If ∷ (test_parts test
      ++ (actions_parts a ++ (elsifs_parts es ++ (otherwise_parts o ++ (plain k.End ∷ (plain k.If ∷ []))))))
  action_parts (loop at x type low high body) =
      token (mark k.For) (at ∷ [])
      ∷ (plain k.ParenOpen ∷ (identifier_parts x ++ (plain k.Colon ∷ (reference_parts type ++ (plain k.In
      ∷ (bound_parts low ++ (plain k.Range ∷ (bound_parts high ++ (plain k.ParenClose ∷ block_parts body)))))))))

  -- A `;` after the last action has no meaning.
  pub actions_parts : {P : Type 0} → Actions P → List (SpellingPart P)
  actions_parts (actions first rest) = action_parts first ++ (mores_parts rest ++ may last_semicolon ∷ [])

  pub mores_parts : {P : Type 0} → Mores P → List (SpellingPart P)
  mores_parts no_mores = []
  mores_parts (more a rest) = plain k.Semicolon ∷ (action_parts a ++ mores_parts rest)

  pub elsifs_parts : {P : Type 0} → Elsifs P → List (SpellingPart P)
  elsifs_parts no_elsifs = []
  elsifs_parts (elsif test a rest) = plain k.Elsif ∷ (test_parts test ++ (actions_parts a ++ elsifs_parts rest))

  pub otherwise_parts : {P : Type 0} → Otherwise P → List (SpellingPart P)
  otherwise_parts no_otherwise = []
  otherwise_parts (otherwise a) = plain k.Else ∷ actions_parts a

  pub block_parts : {P : Type 0} → Block P → List (SpellingPart P)
  block_parts no_block = plain k.BraceOpen ∷ (plain k.BraceClose ∷ [])
  block_parts (block a) = plain k.BraceOpen ∷ (actions_parts a ++ plain k.BraceClose ∷ [])
