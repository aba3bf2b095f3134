-- No fault in the names of a behaviour is `Memory`, an allocation failure.
use Rattle.std.proofs.Common.{ℕ, Bool, List, Option, Some, None}
use Rattle.aadl_tree.specs.Names.{Identifier, listed_in}
use Rattle.aadl_tree.specs.Expressions as e
use Rattle.aadl_tree.specs.Actions as a
use Rattle.aadl_tree.specs.Annexes as x
use Rattle.aadl_tree.specs.Declarations.{Implementation, PackageTree}
use Rattle.aadl_names.specs.declared.name_roles.Role.{Role}
use Rattle.aadl_names.specs.declared.name_roles.Usage.{Usage}
use Rattle.aadl_names.specs.declared.name_roles.Usage.TheVariants.{Set, Send}
use Rattle.aadl_names.specs.NameUseFaults as u
use Rattle.aadl_names.specs.BehaviourAnnexes.{states_of}
use Rattle.aadl_names.specs.PackageNameFaults as p
use Rattle.design_laws.proofs.ListsWithoutMemoryFault.{NoneIsMemory, none, both, each, either, kind, unknown, second}

use_named : (usage : Usage) (x : Identifier ℕ) (o : Option Role) → NoneIsMemory (u.use_as usage x o)
use_named usage x None = unknown x.spelling x.at
use_named usage x (Some role) = either (u.allows usage role) none (kind x.at)

uses_named : (known : u.NameRoles) (usage : Usage) (x : Identifier ℕ) → NoneIsMemory (u.uses known usage x)
uses_named known usage x = use_named usage x (known x.spelling)

mutual
  primary_named : (known : u.NameRoles) (t : e.Primary ℕ) → NoneIsMemory (u.primary_uses known t)
  primary_named known (e.number at n) = none
  primary_named known (e.truth at b) = none
  primary_named known (e.named t fresh) = uses_named known (u.reading fresh) t
  primary_named known (e.group at t) = expression_named known t

  factor_named : (known : u.NameRoles) (t : e.Factor ℕ) → NoneIsMemory (u.factor_uses known t)
  factor_named known (e.absolute at t) = primary_named known t
  factor_named known (e.negated at t) = primary_named known t
  factor_named known (e.bare t) = primary_named known t

  term_named : (known : u.NameRoles) (t : e.Term ℕ) → NoneIsMemory (u.term_uses known t)
  term_named known (e.term t r) = both (factor_named known t) (factors_named known r)

  factors_named : (known : u.NameRoles) (t : e.Factors ℕ) → NoneIsMemory (u.factors_uses known t)
  factors_named known e.no_factors = none
  factors_named known (e.factor o t r) = both (factor_named known t) (factors_named known r)

  sum_named : (known : u.NameRoles) (t : e.Sum ℕ) → NoneIsMemory (u.sum_uses known t)
  sum_named known (e.total o t r) = both (term_named known t) (terms_named known r)

  terms_named : (known : u.NameRoles) (t : e.Terms ℕ) → NoneIsMemory (u.terms_uses known t)
  terms_named known e.no_terms = none
  terms_named known (e.add o t r) = both (term_named known t) (terms_named known r)

  relation_named : (known : u.NameRoles) (t : e.Relation ℕ) → NoneIsMemory (u.relation_uses known t)
  relation_named known (e.single t) = sum_named known t
  relation_named known (e.compared t o r) = both (sum_named known t) (sum_named known r)

  expression_named : (known : u.NameRoles) (t : e.Expression ℕ) → NoneIsMemory (u.expression_uses known t)
  expression_named known (e.expression t r) = both (relation_named known t) (relations_named known r)

  relations_named : (known : u.NameRoles) (t : e.Relations ℕ) → NoneIsMemory (u.relations_uses known t)
  relations_named known e.no_relations = none
  relations_named known (e.join o t r) = both (relation_named known t) (relations_named known r)

again_named : (x : Identifier ℕ) (o : Option Role) → NoneIsMemory (u.again_as x o)
again_named x None = none
again_named x (Some role) = second x.spelling x.at

mutual
  action_named : (known : u.NameRoles) (t : a.Action ℕ) → NoneIsMemory (u.action_uses known t)
  action_named known (a.assign t r) = both (uses_named known Set t) (expression_named known r)
  action_named known (a.send t r) = both (uses_named known Send t) (expression_named known r)
  action_named known (a.choose t r es o) =
      both (both (both (expression_named known t) (actions_named known r)) (elsifs_named known es))
      (otherwise_named known o)
  action_named known (a.loop at t type low high body) =
      both (again_named t (known t.spelling)) (block_named (u.with_loop known t) body)

  actions_named : (known : u.NameRoles) (t : a.Actions ℕ) → NoneIsMemory (u.actions_uses known t)
  actions_named known (a.actions t r) = both (action_named known t) (mores_named known r)

  mores_named : (known : u.NameRoles) (t : a.Mores ℕ) → NoneIsMemory (u.mores_uses known t)
  mores_named known a.no_mores = none
  mores_named known (a.more t r) = both (action_named known t) (mores_named known r)

  elsifs_named : (known : u.NameRoles) (t : a.Elsifs ℕ) → NoneIsMemory (u.elsifs_uses known t)
  elsifs_named known a.no_elsifs = none
  elsifs_named known (a.elsif t r es) =
      both (both (expression_named known t) (actions_named known r)) (elsifs_named known es)

  otherwise_named : (known : u.NameRoles) (t : a.Otherwise ℕ) → NoneIsMemory (u.otherwise_uses known t)
  otherwise_named known a.no_otherwise = none
  otherwise_named known (a.otherwise t) = actions_named known t

  block_named : (known : u.NameRoles) (t : a.Block ℕ) → NoneIsMemory (u.block_uses known t)
  block_named known a.no_block = none
  block_named known (a.block t) = actions_named known t

state_named : (is_state : List ℕ → Bool) (t : Identifier ℕ) → NoneIsMemory (p.state_uses is_state t)
state_named is_state t = either (is_state t.spelling) none (unknown t.spelling t.at)

guard_named : (known : u.NameRoles) (o : Option (x.Guard ℕ)) → NoneIsMemory (p.guard_uses known o)
guard_named known None = none
guard_named known (Some x.dispatch) = none
guard_named known (Some x.otherwise) = none
guard_named known (Some (x.when t)) = expression_named known t

effect_named : (known : u.NameRoles) (o : Option (a.Block ℕ)) → NoneIsMemory (p.effect_uses known o)
effect_named known None = none
effect_named known (Some t) = block_named known t

transition_named : (is_state : List ℕ → Bool) (known : u.NameRoles) (t : x.Transition ℕ)
    → NoneIsMemory (p.transition_uses is_state known t)
transition_named is_state known t =
    both (both (both (state_named is_state t.source) (state_named is_state t.target)) (guard_named known t.guard))
    (effect_named known t.effect)

pub behaviour_named : (tree : PackageTree ℕ) (t : Implementation ℕ) (annex : x.AnnexTree ℕ)
    → NoneIsMemory (p.behaviour_faults tree t annex)
unfolding p.behaviour_faults
behaviour_named tree t annex =
    each (p.transition_uses (p.is_among (states_of annex)) (p.known_in tree t annex))
    (transition_named (p.is_among (states_of annex)) (p.known_in tree t annex))
    (listed_in annex.transitions)
