-- How an annex uses the names that stand for something in it.
use Rattle.std.specs.Prelude.{ℕ, Bool, true, false, List, [], ◌∷◌, ◌++◌, Option, Some, None, if◌then◌else◌}
use Rattle.std.specs.Option.{option_or}
use Rattle.aadl_tree.specs.Names.{Identifier, same_name}
use Rattle.aadl_tree.specs.Expressions.{Primary, number, truth, named, group, Factor, absolute, negated, bare, Term}
use Rattle.aadl_tree.specs.Expressions.{term, Factors, no_factors, factor, Sum, total, Terms, no_terms, add, Relation}
use Rattle.aadl_tree.specs.Expressions.{single, compared, Expression, expression, Relations, no_relations, join}
use Rattle.aadl_tree.specs.Actions.{Action, assign, send, choose, loop, Actions, actions, Mores, no_mores, more, Elsifs}
use Rattle.aadl_tree.specs.Actions.{no_elsifs, elsif, Otherwise, no_otherwise, otherwise, Block, no_block, block}
use Rattle.aadl_names.specs.declared.fault.PackageFault.{PackageFault}
use Rattle.aadl_names.specs.declared.fault.PackageFault.TheVariants.{Unknown, Twice, WrongKind}
use Rattle.aadl_names.specs.declared.name_roles.Role.{Role}
use Rattle.aadl_names.specs.declared.name_roles.Role.TheVariants.{Receives, Gives, Varies, Turns}
use Rattle.aadl_names.specs.declared.name_roles.Usage.{Usage}
use Rattle.aadl_names.specs.declared.name_roles.Usage.TheVariants.{Set, Send, Read, Fresh}

-- what names stand for
abbrev pub NameRoles : Type 0
NameRoles = List ℕ → Option Role

-- a name has the meaning that one of two gives it, and if both do, the first one's
abbrev pub either : NameRoles → NameRoles → NameRoles
either first second = λ name. option_or (first name) (second name)

-- an assignment sets a variable or an out port
abbrev pub may_set : Role → Bool
may_set Receives = false
may_set Gives = true
may_set Varies = true
may_set Turns = false

abbrev pub may_send : Role → Bool
may_send Receives = false
may_send Gives = true
may_send Varies = false
may_send Turns = false

abbrev pub may_read : Role → Bool
may_read Receives = true
may_read Gives = false
may_read Varies = true
may_read Turns = true

abbrev pub may_be_fresh : Role → Bool
may_be_fresh Receives = true
may_be_fresh Gives = false
may_be_fresh Varies = false
may_be_fresh Turns = false

abbrev pub allows : Usage → Role → Bool
allows Set = may_set
allows Send = may_send
allows Read = may_read
allows Fresh = may_be_fresh

abbrev pub use_as : Usage → Identifier ℕ → Option Role → List PackageFault
use_as usage x None = Unknown x.spelling x.at ∷ []
use_as usage x (Some role) = if allows usage role then [] else WrongKind x.at ∷ []

abbrev pub uses : NameRoles → Usage → Identifier ℕ → List PackageFault
uses known usage x = use_as usage x (known x.spelling)

abbrev pub reading : Bool → Usage
reading true = Fresh
reading false = Read

abbrev mutual
  pub primary_uses : NameRoles → Primary ℕ → List PackageFault
  primary_uses known (number at n) = []
  primary_uses known (truth at b) = []
  primary_uses known (named x fresh) = uses known (reading fresh) x
  primary_uses known (group at e) = expression_uses known e

  pub factor_uses : NameRoles → Factor ℕ → List PackageFault
  factor_uses known (absolute at x) = primary_uses known x
  factor_uses known (negated at x) = primary_uses known x
  factor_uses known (bare x) = primary_uses known x

  pub term_uses : NameRoles → Term ℕ → List PackageFault
  term_uses known (term first rest) = factor_uses known first ++ factors_uses known rest

  pub factors_uses : NameRoles → Factors ℕ → List PackageFault
  factors_uses known no_factors = []
  factors_uses known (factor operator x rest) = factor_uses known x ++ factors_uses known rest

  pub sum_uses : NameRoles → Sum ℕ → List PackageFault
  sum_uses known (total sign first rest) = term_uses known first ++ terms_uses known rest

  pub terms_uses : NameRoles → Terms ℕ → List PackageFault
  terms_uses known no_terms = []
  terms_uses known (add sign x rest) = term_uses known x ++ terms_uses known rest

  pub relation_uses : NameRoles → Relation ℕ → List PackageFault
  relation_uses known (single x) = sum_uses known x
  relation_uses known (compared x operator y) = sum_uses known x ++ sum_uses known y

  pub expression_uses : NameRoles → Expression ℕ → List PackageFault
  expression_uses known (expression first rest) = relation_uses known first ++ relations_uses known rest

  pub relations_uses : NameRoles → Relations ℕ → List PackageFault
  relations_uses known no_relations = []
  relations_uses known (join operator x rest) = relation_uses known x ++ relations_uses known rest

-- a loop variable of a name that stands for something already
abbrev pub again_as : Identifier ℕ → Option Role → List PackageFault
again_as x None = []
again_as x (Some role) = Twice x.spelling x.at ∷ []

abbrev pub loop_again : NameRoles → Identifier ℕ → List PackageFault
loop_again known x = again_as x (known x.spelling)

abbrev pub loop_variable_role : List ℕ → NameRoles
loop_variable_role variable = λ name. if same_name name variable then Some Turns else None

-- In a loop its variable is known too.
abbrev pub with_loop : NameRoles → Identifier ℕ → NameRoles
with_loop known x = either known (loop_variable_role x.spelling)

abbrev mutual
  pub action_uses : NameRoles → Action ℕ → List PackageFault
  action_uses known (assign x e) = uses known Set x ++ expression_uses known e
  action_uses known (send x e) = uses known Send x ++ expression_uses known e
  action_uses known (choose test a es o) =
      expression_uses known test ++ actions_uses known a ++ elsifs_uses known es ++ otherwise_uses known o
  action_uses known (loop at x type low high body) = loop_again known x ++ block_uses (with_loop known x) body

  pub actions_uses : NameRoles → Actions ℕ → List PackageFault
  actions_uses known (actions first rest) = action_uses known first ++ mores_uses known rest

  pub mores_uses : NameRoles → Mores ℕ → List PackageFault
  mores_uses known no_mores = []
  mores_uses known (more a rest) = action_uses known a ++ mores_uses known rest

  pub elsifs_uses : NameRoles → Elsifs ℕ → List PackageFault
  elsifs_uses known no_elsifs = []
  elsifs_uses known (elsif test a rest) = expression_uses known test ++ actions_uses known a ++ elsifs_uses known rest

  pub otherwise_uses : NameRoles → Otherwise ℕ → List PackageFault
  otherwise_uses known no_otherwise = []
  otherwise_uses known (otherwise a) = actions_uses known a

  pub block_uses : NameRoles → Block ℕ → List PackageFault
  block_uses known no_block = []
  block_uses known (block a) = actions_uses known a
