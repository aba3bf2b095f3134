-- Of the faults in the names that expressions use, at most one is at each position.
use Rattle.std.proofs.Common.{ℕ, [], ◌∷◌, Option, Some, None}
use Rattle.aadl_tree.specs.declared.mark.Mark.TheVariants as k
use Rattle.aadl_tree.specs.Terminals.{mark}
use Rattle.aadl_tree.specs.SpellingParts.{token, plain, parts_if}
use Rattle.aadl_tree.specs.Names.{Identifier, identifier_parts}
use Rattle.aadl_tree.specs.Values.{sign_mark}
use Rattle.aadl_tree.specs.Expressions as e
use Rattle.aadl_names.specs.declared.fault.PackageFault.TheVariants.{Unknown, WrongKind}
use Rattle.aadl_names.specs.declared.name_roles.Role.{Role}
use Rattle.aadl_names.specs.declared.name_roles.Usage.{Usage}
use Rattle.aadl_names.specs.NameUseFaults.{NameRoles, allows, use_as, uses, reading, primary_uses, factor_uses}
use Rattle.aadl_names.specs.NameUseFaults.{term_uses, factors_uses, sum_uses, terms_uses, relation_uses}
use Rattle.aadl_names.specs.NameUseFaults.{expression_uses, relations_uses}
use Rattle.aadl_names.proofs.ListMembers.{is_here}
use Rattle.design_laws.proofs.DistinctFaultPlaces.{OnePerPlace, clear_none, clear_one, clear_front, clear_back}
use Rattle.design_laws.proofs.DistinctFaultPlaces.{clear_tail}
use Rattle.design_laws.proofs.DistinctFaultPlaces.{clear_append, clear_unless}

by_role : (usage : Usage) (x : Identifier ℕ) (o : Option Role) → OnePerPlace (identifier_parts x) (use_as usage x o)
by_role usage x None = clear_one (identifier_parts x) (Unknown x.spelling x.at) (is_here x.at)
by_role usage x (Some role) =
    clear_unless (allows usage role) (clear_one (identifier_parts x) (WrongKind x.at) (is_here x.at))

pub use_clear : (known : NameRoles) (usage : Usage) (x : Identifier ℕ)
    → OnePerPlace (identifier_parts x) (uses known usage x)
use_clear known usage x = by_role usage x (known x.spelling)

mutual
  primary_clear : (known : NameRoles) (x : e.Primary ℕ) → OnePerPlace (e.primary_parts x) (primary_uses known x)
  primary_clear known (e.number at n) = clear_none (e.primary_parts (e.number at n))
  primary_clear known (e.truth at b) = clear_none (e.primary_parts (e.truth at b))
  primary_clear known (e.named x fresh) = clear_front (e.fresh_parts fresh) (use_clear known (reading fresh) x)
  primary_clear known (e.group at x) = clear_tail {p = token (mark k.ParenOpen) (at ∷ [])}
      (clear_front (plain k.ParenClose ∷ []) (expression_clear known x))

  factor_clear : (known : NameRoles) (x : e.Factor ℕ) → OnePerPlace (e.factor_parts x) (factor_uses known x)
  factor_clear known (e.absolute at x) = clear_tail {p = token (mark k.Abs) (at ∷ [])} (primary_clear known x)
  factor_clear known (e.negated at x) = clear_tail {p = token (mark k.Not) (at ∷ [])} (primary_clear known x)
  factor_clear known (e.bare x) = primary_clear known x

  term_clear : (known : NameRoles) (x : e.Term ℕ) → OnePerPlace (e.term_parts x) (term_uses known x)
  term_clear known (e.term first rest) = clear_append (factor_clear known first) (factors_clear known rest)

  factors_clear : (known : NameRoles) (x : e.Factors ℕ) → OnePerPlace (e.factors_parts x) (factors_uses known x)
  factors_clear known e.no_factors = clear_none []
  factors_clear known (e.factor operator x rest) = clear_tail {p = plain (e.multiply_mark operator)}
      (clear_append (factor_clear known x) (factors_clear known rest))

  sum_clear : (known : NameRoles) (x : e.Sum ℕ) → OnePerPlace (e.sum_parts x) (sum_uses known x)
  sum_clear known (e.total sign first rest) =
      clear_back (parts_if e.leading_parts sign) (clear_append (term_clear known first) (terms_clear known rest))

  terms_clear : (known : NameRoles) (x : e.Terms ℕ) → OnePerPlace (e.terms_parts x) (terms_uses known x)
  terms_clear known e.no_terms = clear_none []
  terms_clear known (e.add sign x rest) =
      clear_tail {p = plain (sign_mark sign)} (clear_append (term_clear known x) (terms_clear known rest))

  relation_clear : (known : NameRoles) (x : e.Relation ℕ) → OnePerPlace (e.relation_parts x) (relation_uses known x)
  relation_clear known (e.single x) = sum_clear known x
  relation_clear known (e.compared x operator y) = clear_append (sum_clear known x)
      (clear_tail {p = plain (e.relation_mark operator)} (sum_clear known y))

  pub expression_clear : (known : NameRoles) (x : e.Expression ℕ)
      → OnePerPlace (e.expression_parts x) (expression_uses known x)
  expression_clear known (e.expression first rest) =
      clear_append (relation_clear known first) (relations_clear known rest)

  relations_clear : (known : NameRoles) (x : e.Relations ℕ) → OnePerPlace (e.relations_parts x) (relations_uses known x)
  relations_clear known e.no_relations = clear_none []
  relations_clear known (e.join operator x rest) =
      clear_back (e.logic_parts operator) (clear_append (relation_clear known x) (relations_clear known rest))
