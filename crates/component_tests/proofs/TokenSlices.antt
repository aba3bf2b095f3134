-- All tokens of a text, taken as a slice of its tokens, follow one another. For the tests of behaviours.
use Rattle.std.proofs.Common.{◌≡◌, ℕ, List, [], sym, subst, ◌∙◌}
use Rattle.std.proofs.lemmas.List.{append-nil}
use Rattle.aadl_lex.specs.declared.token.Token.{Token}
use Rattle.aadl_lex.specs.TokensAndFirstFaults.{AreTokensOf}
use Rattle.aadl_lex.specs.proof.TokenSpellings.{AreAmongTokensOf}

pub all_among : (text : List ℕ) (tokens slice : List Token) → slice ≡ tokens → AreTokensOf text tokens
    → AreAmongTokensOf text slice
all_among text tokens slice same lexed = record {
  before = [];
  behind = [];
  lexed = subst (AreTokensOf text) (sym same ∙ sym (append-nil slice)) lexed;
}
