use Rattle.std.proofs.Common.{◌∙◌, ℕ, List, ap}
use Rattle.std.specs.List.{list_all}
use Rattle.run_laws.specs.LineForms.{is_there}
use Rattle.trace_audit.proofs.FirstWords.{same_words}
use Rattle.trace_audit.proofs.words.has_words.Goals as goal

pub returns : goal.returns
returns c = c.are_there.ensures ∙ ap (λ (ws : List (List ℕ)). list_all is_there ws) (same_words c.args.line.now)
