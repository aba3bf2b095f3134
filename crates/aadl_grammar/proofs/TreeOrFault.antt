-- Each text has a tree or a first fault: the law `tree_or_fault`.
use Rattle.std.proofs.Common.{◌≡◌, ◌⊎◌, inl, inr, ℕ, sym, subst, List, [], ◌∷◌, length, refl}
use Rattle.aadl_lex.specs.declared.token.Token.{Token}
use Rattle.aadl_lex.specs.TokensAndFirstFaults.{AreTokensOf}
use Rattle.aadl_tree.specs.Terminals.{PlacedTerminal, placed_terminals, kinds_of}
use Rattle.aadl_tree.specs.SpellingParts.{SpellingPart, Spells, Written}
use Rattle.aadl_tree.specs.Declarations.{PackageTree, package_parts}
use Rattle.aadl_tree.specs.PackagesBehavioursAndNesting.{IsPackage}
use Rattle.aadl_tree.specs.proof.PlaceMaps.{no_place, package_to}
use Rattle.aadl_grammar.specs.proof.StackMachine.{Fate, finished, syntax_at, deep_at, fate, whole_package}
use Rattle.aadl_grammar.proofs.PlaceIndependence.AlikeParts.{alike_spells}
use Rattle.aadl_grammar.proofs.PlaceIndependence.Declarations.{package_alike}
use Rattle.aadl_grammar.proofs.Fates.Answers.{answers_text, answers_fault, answers_depth}
use Rattle.aadl_grammar.proofs.Fates.GrammarLanguages.{packages}
use Rattle.aadl_grammar.specs.proof.TokensTreesAndFaults.{HasTokens, HasLexFault, HasTree, Stops, NestsTooDeep}
use Rattle.aadl_grammar.proofs.TokensOrFault.{tokens_or_fault}
use Rattle.aadl_grammar.proofs.PlaceFilling.FilledTrees.{U}
use Rattle.aadl_grammar.proofs.PlaceFilling.Declarations.{package_fill}
use Rattle.aadl_grammar.proofs.PlaceFilling.TerminalPlaces.{placed}

-- a list without kinds is empty
none_left : (ss : List PlacedTerminal) → kinds_of ss ≡ [] → ss ≡ []
none_left [] e = refl
none_left (s ∷ ss) e = absurd cc

-- a package whose parts are at the places of these terminals
pub record IsWritten (ss : List PlacedTerminal) : Type 0 where
  pub tree : PackageTree ℕ
  pub written : Written (package_parts tree) ss []

of_bare : (t : PackageTree U) (ss : List PlacedTerminal) → Spells (package_parts t) (kinds_of ss) [] → IsWritten ss
of_bare t ss sp =
    let p = placed (package_parts t) ss [] sp in
    let f = package_fill t p.parts p.like in
    record {
      tree = f.tree;
      written =
          subst (λ (a : List (SpellingPart ℕ)). Written a ss []) (sym f.is)
          (subst (λ (l : List PlacedTerminal). Written p.parts ss l) (none_left p.left p.kinds) p.written);
    }

pub is_written : (ss : List PlacedTerminal) → IsPackage (kinds_of ss) → IsWritten ss
is_written ss x =
    of_bare (package_to no_place x.tree) ss (alike_spells (kinds_of ss) [] (package_alike no_place x.tree) x.spelled)

by_fate : (text : List ℕ) (tokens : List Token) → AreTokensOf text tokens → (f : Fate)
    → fate 0 (length text) whole_package (placed_terminals text tokens) ≡ f
    → HasTree text ⊎ HasLexFault text ⊎ Stops text ⊎ NestsTooDeep text
by_fate text tokens l finished e =
    let both = (answers_text IsPackage 0 (length text) packages (placed_terminals text tokens)).0 e in
    let w = is_written (placed_terminals text tokens) both.0 in
    inl (w.tree, record { tokens = tokens; lexed = l; written = w.written; shallow = both.1 })
by_fate text tokens l (syntax_at at) e =
    inr (inr (inl (
      at,
      record {
        tokens = tokens;
        lexed = l;
        fails = (answers_fault IsPackage 0 (length text) packages (placed_terminals text tokens) at).0 e;
      },
    )))
by_fate text tokens l (deep_at at) e =
    inr (inr (inr (
      at,
      record {
        tokens = tokens;
        lexed = l;
        deep = (answers_depth IsPackage 0 (length text) packages (placed_terminals text tokens) at).0 e;
      },
    )))

by_tokens : (text : List ℕ) → HasTokens text ⊎ HasLexFault text
    → HasTree text ⊎ HasLexFault text ⊎ Stops text ⊎ NestsTooDeep text
by_tokens text (inl (tokens, l)) = by_fate text tokens l
    (fate 0 (length text) whole_package (placed_terminals text tokens)) refl
by_tokens text (inr fault) = inr (inl fault)

pub tree_or_fault : (text : List ℕ) → HasTree text ⊎ HasLexFault text ⊎ Stops text ⊎ NestsTooDeep text
tree_or_fault text = by_tokens text (tokens_or_fault text)
