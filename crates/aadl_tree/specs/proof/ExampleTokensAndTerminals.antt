-- Example terminals of an annex and of a choice.
use Rattle.std.specs.Prelude.{ℕ, pos, codes, List, [], ◌∷◌}
use Rattle.aadl_lex.specs.declared.token.Token.{Token}
use Rattle.aadl_lex.specs.TokensAndFirstFaults.{token}
use Rattle.aadl_tree.specs.Terminals.{PlainTerminal, word, whole, mark}
use Rattle.aadl_lex.specs.declared.token.TokenKind.TheVariants as class
use Rattle.aadl_tree.specs.declared.mark.Mark.TheVariants as k

-- on behavior_specification {**ON x**}
abbrev pub annex_text : List ℕ
annex_text = codes "on behavior_specification {**ON x**}"

abbrev pub annex_tokens : List Token
annex_tokens =
    token class.Word 0 2 ∷ token class.Word 3 22 ∷ token class.AnnexOpen 26 3 ∷ token class.Word 29 2
    ∷ token class.Word 32 1 ∷ token class.AnnexClose 33 3 ∷ []

-- if (true) x := 1 end
abbrev pub choice_kinds : List PlainTerminal
choice_kinds =
    mark k.If ∷ mark k.ParenOpen ∷ mark k.True ∷ mark k.ParenClose ∷ word (codes "x") ∷ mark k.Assign ∷ whole (pos 1)
    ∷ mark k.End ∷ []
