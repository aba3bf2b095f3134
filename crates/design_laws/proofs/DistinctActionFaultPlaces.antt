-- Of the faults in the names that actions use, at most one is at each position.
use Rattle.std.proofs.Common.{ℕ, [], ◌∷◌, Option, Some, None}
use Rattle.aadl_tree.specs.declared.mark.Mark.TheVariants as k
use Rattle.aadl_tree.specs.Terminals.{mark}
use Rattle.aadl_tree.specs.SpellingParts.{token, may, last_semicolon, plain}
use Rattle.aadl_tree.specs.Names.{Identifier, identifier_parts, reference_parts}
use Rattle.aadl_tree.specs.Expressions.{Expression}
use Rattle.aadl_tree.specs.Actions as a
use Rattle.aadl_names.specs.declared.fault.PackageFault.TheVariants.{Twice}
use Rattle.aadl_names.specs.declared.name_roles.Role.{Role}
use Rattle.aadl_names.specs.declared.name_roles.Usage.TheVariants.{Set, Send}
use Rattle.aadl_names.specs.NameUseFaults.{NameRoles, expression_uses, again_as, loop_again, with_loop, action_uses}
use Rattle.aadl_names.specs.NameUseFaults.{actions_uses, mores_uses, elsifs_uses, otherwise_uses, block_uses}
use Rattle.aadl_names.proofs.ListMembers.{is_here}
use Rattle.design_laws.proofs.DistinctFaultPlaces.{OnePerPlace, clear_none, clear_one, clear_front, clear_back}
use Rattle.design_laws.proofs.DistinctFaultPlaces.{clear_tail}
use Rattle.design_laws.proofs.DistinctFaultPlaces.{clear_append, clear_three, clear_four}
use Rattle.design_laws.proofs.DistinctExpressionFaultPlaces.{use_clear, expression_clear}

test_clear : (known : NameRoles) (x : Expression ℕ) → OnePerPlace (a.test_parts x) (expression_uses known x)
test_clear known x =
    clear_tail {p = plain k.ParenOpen} (clear_front (plain k.ParenClose ∷ []) (expression_clear known x))

by_role : (x : Identifier ℕ) (o : Option Role) → OnePerPlace (identifier_parts x) (again_as x o)
by_role x None = clear_none (identifier_parts x)
by_role x (Some role) = clear_one (identifier_parts x) (Twice x.spelling x.at) (is_here x.at)

loop_clear : (known : NameRoles) (x : Identifier ℕ) → OnePerPlace (identifier_parts x) (loop_again known x)
loop_clear known x = by_role x (known x.spelling)

mutual
  action_clear : (known : NameRoles) (x : a.Action ℕ) → OnePerPlace (a.action_parts x) (action_uses known x)
  action_clear known (a.assign x e) =
      clear_append (use_clear known Set x) (clear_tail {p = plain k.Assign} (expression_clear known e))
  action_clear known (a.send x e) =
      clear_append (use_clear known Send x) (clear_tail {p = plain k.Bang} (test_clear known e))
  action_clear known (a.choose test first es o) = clear_tail {p = plain k.If}
      (clear_four (expression_uses known test) (actions_uses known first) (elsifs_uses known es)
      (otherwise_uses known o)
      (clear_append (test_clear known test)
      (clear_append (actions_clear known first) (clear_append (elsifs_clear known es)
      (clear_front (plain k.End ∷ (plain k.If ∷ [])) (otherwise_clear known o))))))
  action_clear known (a.loop at x type low high body) =
      clear_tail {p = token (mark k.For) (at ∷ [])} (clear_tail {p = plain k.ParenOpen}
      (clear_append (loop_clear known x)
      (clear_tail {p = plain k.Colon} (clear_back (reference_parts type) (clear_tail {p = plain k.In}
      (clear_back (a.bound_parts low)
      (clear_tail {p = plain k.Range} (clear_back (a.bound_parts high) (clear_tail {p = plain k.ParenClose}
      (block_clear (with_loop known x) body))))))))))

  actions_clear : (known : NameRoles) (x : a.Actions ℕ) → OnePerPlace (a.actions_parts x) (actions_uses known x)
  actions_clear known (a.actions first rest) =
      clear_append (action_clear known first) (clear_front (may last_semicolon ∷ []) (mores_clear known rest))

  mores_clear : (known : NameRoles) (x : a.Mores ℕ) → OnePerPlace (a.mores_parts x) (mores_uses known x)
  mores_clear known a.no_mores = clear_none []
  mores_clear known (a.more x rest) =
      clear_tail {p = plain k.Semicolon} (clear_append (action_clear known x) (mores_clear known rest))

  elsifs_clear : (known : NameRoles) (x : a.Elsifs ℕ) → OnePerPlace (a.elsifs_parts x) (elsifs_uses known x)
  elsifs_clear known a.no_elsifs = clear_none []
  elsifs_clear known (a.elsif test x rest) = clear_tail {p = plain k.Elsif}
      (clear_three (expression_uses known test) (actions_uses known x) (elsifs_uses known rest)
      (clear_append (test_clear known test) (clear_append (actions_clear known x) (elsifs_clear known rest))))

  otherwise_clear : (known : NameRoles) (x : a.Otherwise ℕ) → OnePerPlace (a.otherwise_parts x) (otherwise_uses known x)
  otherwise_clear known a.no_otherwise = clear_none []
  otherwise_clear known (a.otherwise x) = clear_tail {p = plain k.Else} (actions_clear known x)

  pub block_clear : (known : NameRoles) (x : a.Block ℕ) → OnePerPlace (a.block_parts x) (block_uses known x)
  block_clear known a.no_block = clear_none (plain k.BraceOpen ∷ (plain k.BraceClose ∷ []))
  block_clear known (a.block x) =
      clear_tail {p = plain k.BraceOpen} (clear_front (plain k.BraceClose ∷ []) (actions_clear known x))
