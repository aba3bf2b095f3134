-- An empty package: its text, its tokens, its tree, and its canonical text.
use Rattle.std.specs.Prelude.{ℕ, codes, List, [], ◌∷◌, ◌++◌}
use Rattle.aadl_lex.specs.declared.token.Token.{Token}
use Rattle.aadl_lex.specs.declared.token.TokenKind.TheVariants.{Word, Symbol}
use Rattle.aadl_lex.specs.TokensAndFirstFaults.{token}
use Rattle.aadl_tree.specs.Names.{Name}
use Rattle.aadl_tree.specs.Declarations.{PackageTree}

abbrev pub package_text : List ℕ
package_text = codes "PACKAGE P -- none" ++ 10 ∷ codes "public end P;"

abbrev pub package_tokens : List Token
package_tokens =
    token Word 0 7 ∷ token Word 8 1 ∷ token Word 18 6 ∷ token Word 25 3 ∷ token Word 29 1 ∷ token Symbol 30 1 ∷ []

-- its name, at a place
abbrev name_at : ℕ → Name ℕ
name_at at = record { first = record { at = at; spelling = codes "P" }; rest = [] }

abbrev pub small_package : PackageTree ℕ
small_package = record { name = name_at 8; withs = []; declarations = []; end_name = name_at 29 }

abbrev pub printed_text : List ℕ
printed_text = codes "package P public" ++ 10 ∷ codes "end P;" ++ 10 ∷ []
