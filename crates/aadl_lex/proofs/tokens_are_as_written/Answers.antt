use Rattle.aadl_lex.proofs.TokensAsWritten.{spelled_tokens, words_of, words_among}
use Rattle.aadl_lex.proofs.tokens_are_as_written.Goals as goal

pub returns-clause-all : goal.returns-clause-all
returns-clause-all c = spelled_tokens

pub returns-clause-word : goal.returns-clause-word
returns-clause-word c = words_of

pub returns-clause-among : goal.returns-clause-among
returns-clause-among c = words_among
