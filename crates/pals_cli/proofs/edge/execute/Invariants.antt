use Rattle.std.specs.Prelude.{is_some}
use Rattle.pals_cli.proofs.edge.execute.Given as goal

-- bytes are exposed if they are known
abbrev pub ghosts-execute_on_streams-I-Exposure : goal.ghosts-execute_on_streams-I-Exposure
ghosts-execute_on_streams-I-Exposure g a = record { exposed = is_some (g.R.Read.remaining a.reader) }

abbrev pub ghosts-execute_on_streams-O-Exposure : goal.ghosts-execute_on_streams-O-Exposure
ghosts-execute_on_streams-O-Exposure g a = record { exposed = is_some (g.W.Write.contents a.writer) }
