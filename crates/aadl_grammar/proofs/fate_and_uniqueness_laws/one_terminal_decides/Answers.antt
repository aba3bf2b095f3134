use Rattle.aadl_grammar.proofs.OneTerminalLookahead.{rows_decide}
use Rattle.aadl_grammar.proofs.fate_and_uniqueness_laws.one_terminal_decides.Goals as goal

pub returns : goal.returns
returns c x = rows_decide x
