-- The form of each journal line, by its parts in the code.
use Rattle.std.specs.Prelude.{ℕ, List, Option, option_map}
use Rattle.trace_audit.specs.declared.journal_lines.NodeLine.{NodeLine}
use Rattle.trace_audit.specs.declared.journal_lines.LinkLine.{LinkLine}
use Rattle.trace_audit.specs.declared.journal_lines.JournalLine.{JournalLine}
use Rattle.trace_audit.specs.declared.journal_lines.JournalLine.TheVariants.{OfNode, OfLink}
use Rattle.run_laws.specs.LineForms as line
use Rattle.trace_audit.specs.declared.journal_lines.NodeLine.TheVariants as node
use Rattle.trace_audit.specs.declared.journal_lines.LinkLine.TheVariants as link

abbrev pub node_form : List ℕ → NodeLine → line.LineForm
node_form name (node.Start round reading) = line.StartLine name round reading
node_form name (node.Step round step reading) = line.StepLine name round step reading
node_form name (node.Finish round) = line.FinishLine name round
node_form name (node.Send round reading) = line.SendLine name round reading

abbrev pub link_form : List ℕ → LinkLine → line.LineForm
link_form name (link.Arrive round reading result) = line.ArriveLine name round reading result
link_form name (link.Drop round) = line.DropLine name round
link_form name (link.Repeat round) = line.RepeatLine name round
link_form name (link.Early round reading) = line.EarlyLine name round reading
link_form name (link.Missed round reading cause) = line.MissedLine name round reading cause

abbrev pub shown : JournalLine → line.LineForm
shown (OfNode name what) = node_form name.now what
shown (OfLink name what) = link_form name.now what

abbrev pub form_shown : Option JournalLine → Option line.LineForm
form_shown result = option_map shown result
