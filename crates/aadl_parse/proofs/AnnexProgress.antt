-- Each annex takes at least one terminal, so the loop that parses annexes terminates.
use Rattle.std.proofs.Common.{◌<◌, List, length}
use Rattle.aadl_tree.specs.declared.annex.Annex.{Annex}
use Rattle.aadl_tree.specs.Terminals.{PlacedTerminal}
use Rattle.aadl_tree.specs.Annexes.{annex_parts}
use Rattle.aadl_tree.specs.proof.AnnexViews.{annex_view}
use Rattle.aadl_tree.specs.proof.PlaceMaps.{kept_place}
use Rattle.aadl_grammar.specs.proof.ParserAnswers.{Reads}
use Rattle.aadl_grammar.proofs.PartSequences.{begun}

pub annex_begun : (x : Annex) {ss rest : List PlacedTerminal} → Reads (annex_parts (annex_view kept_place x)) ss rest
    → length rest < length ss
annex_begun x a = begun a
