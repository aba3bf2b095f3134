use Rattle.std.proofs.Common.{sym, subst, List, ℕ}
use Rattle.std.specs.Str.{IsUtf8}
use Rattle.aadl_grammar.proofs.TerminalViews.{word_is_text, ok_of}
use Rattle.aadl_grammar.proofs.parse_input.Reader.spelling.Goals as goal

pub unwrap-text-requires : goal.unwrap-text-requires
unwrap-text-requires c =
    ok_of c.from_utf8.result _ _ _ c.from_utf8.ensures.cases
    (subst (λ (s : List ℕ). IsUtf8 s) (sym c.bytes.ensures) (word_is_text _ c.requires))
