use Rattle.std.proofs.Common.{◌∙◌, ◌∷◌, [], refl, arith}
use Rattle.aadl_grammar.specs.proof.ParserAnswers.{here}
use Rattle.aadl_grammar.proofs.TopSymbolMoves.{begins_as}
use Rattle.aadl_grammar.proofs.ParserFaults.{along, exits, no_reads}
use Rattle.aadl_grammar.proofs.PartSequences.{then, marked}
use Rattle.aadl_tree.specs.declared.mark.Mark.TheVariants as k
use Rattle.aadl_grammar.specs.proof.GrammarSymbols as s
use Rattle.aadl_grammar.specs.proof.StackMachine.{move, depth}
use Rattle.aadl_parse.proofs.whole_package.package.Goals as goal

pub returns-in_err-keyword : goal.returns-in_err-keyword
unfolding move depth
returns-in_err-keyword c = record {
  runs =
      λ outer below h. exits _ _ _ _ _ _ _ c.from_residual.ensures.1
      (along _ _ _ (begins_as outer c.args.reader.now.end s.a_package (s.only k.Package)
      (s.name ∷ s.only k.Public ∷ s.withs ∷ s.declarations ∷ s.package_end ∷ []) (below)
      (here c.args.reader.now c.args.at) refl refl refl)
      (c.in_err-keyword.ensures.runs outer
      (s.name ∷ s.only k.Public ∷ s.withs ∷ s.declarations ∷ s.package_end ∷ below) (omega arith)));
  reads = no_reads _ _ _ c.from_residual.ensures.1;
}

pub returns-in_err-name : goal.returns-in_err-name
unfolding move depth
returns-in_err-name c = record {
  runs =
      λ outer below h. exits _ _ _ _ _ _ _ c.from_residual-in_err-name.ensures.1
      (along _ _ _ (begins_as outer c.args.reader.now.end s.a_package (s.only k.Package)
      (s.name ∷ s.only k.Public ∷ s.withs ∷ s.declarations ∷ s.package_end ∷ []) (below)
      (here c.args.reader.now c.args.at) refl refl refl
      ∙ c.in_ok-keyword.ensures.runs outer (s.name ∷ s.only k.Public ∷ s.withs ∷ s.declarations ∷ s.package_end ∷ below)
      (omega arith)) (c.in_err-name.ensures.runs outer
      (s.only k.Public ∷ s.withs ∷ s.declarations ∷ s.package_end ∷ below) (omega arith)));
  reads = no_reads _ _ _ c.from_residual-in_err-name.ensures.1;
}

pub returns-in_err-public : goal.returns-in_err-public
unfolding move depth
returns-in_err-public c = record {
  runs =
      λ outer below h. exits _ _ _ _ _ _ _ c.from_residual-in_err-public.ensures.1
      (along _ _ _ (begins_as outer c.args.reader.now.end s.a_package (s.only k.Package)
      (s.name ∷ s.only k.Public ∷ s.withs ∷ s.declarations ∷ s.package_end ∷ []) (below)
      (here c.args.reader.now c.args.at) refl refl refl
      ∙ c.in_ok-keyword.ensures.runs outer (s.name ∷ s.only k.Public ∷ s.withs ∷ s.declarations ∷ s.package_end ∷ below)
      (omega arith)
      ∙ c.in_ok-name.ensures.runs outer (s.only k.Public ∷ s.withs ∷ s.declarations ∷ s.package_end ∷ below)
      (omega arith)) (c.in_err-public.ensures.runs outer (s.withs ∷ s.declarations ∷ s.package_end ∷ below)
      (omega arith)));
  reads = no_reads _ _ _ c.from_residual-in_err-public.ensures.1;
}

pub returns-in_err-withs : goal.returns-in_err-withs
unfolding move depth
returns-in_err-withs c = record {
  runs =
      λ outer below h. exits _ _ _ _ _ _ _ c.from_residual-in_err-withs.ensures.1
      (along _ _ _ (begins_as outer c.args.reader.now.end s.a_package (s.only k.Package)
      (s.name ∷ s.only k.Public ∷ s.withs ∷ s.declarations ∷ s.package_end ∷ []) (below)
      (here c.args.reader.now c.args.at) refl refl refl
      ∙ c.in_ok-keyword.ensures.runs outer (s.name ∷ s.only k.Public ∷ s.withs ∷ s.declarations ∷ s.package_end ∷ below)
      (omega arith)
      ∙ c.in_ok-name.ensures.runs outer (s.only k.Public ∷ s.withs ∷ s.declarations ∷ s.package_end ∷ below)
      (omega arith)
      ∙ c.in_ok-public.ensures.runs outer (s.withs ∷ s.declarations ∷ s.package_end ∷ below) (omega arith))
      (c.in_err-withs.ensures.runs outer (s.declarations ∷ s.package_end ∷ below) (omega arith)));
  reads = no_reads _ _ _ c.from_residual-in_err-withs.ensures.1;
}

pub returns-in_err-declarations : goal.returns-in_err-declarations
unfolding move depth
returns-in_err-declarations c = record {
  runs =
      λ outer below h. exits _ _ _ _ _ _ _ c.from_residual-in_err-declarations.ensures.1
      (along _ _ _ (begins_as outer c.args.reader.now.end s.a_package (s.only k.Package)
      (s.name ∷ s.only k.Public ∷ s.withs ∷ s.declarations ∷ s.package_end ∷ []) (below)
      (here c.args.reader.now c.args.at) refl refl refl
      ∙ c.in_ok-keyword.ensures.runs outer (s.name ∷ s.only k.Public ∷ s.withs ∷ s.declarations ∷ s.package_end ∷ below)
      (omega arith)
      ∙ c.in_ok-name.ensures.runs outer (s.only k.Public ∷ s.withs ∷ s.declarations ∷ s.package_end ∷ below)
      (omega arith)
      ∙ c.in_ok-public.ensures.runs outer (s.withs ∷ s.declarations ∷ s.package_end ∷ below) (omega arith)
      ∙ c.in_ok-withs.ensures.runs outer (s.declarations ∷ s.package_end ∷ below) (omega arith))
      (c.in_err-declarations.ensures.runs outer (s.package_end ∷ below) (omega arith)));
  reads = no_reads _ _ _ c.from_residual-in_err-declarations.ensures.1;
}

pub returns-in_err-end_name : goal.returns-in_err-end_name
unfolding move depth
returns-in_err-end_name c = record {
  runs =
      λ outer below h. exits _ _ _ _ _ _ _ c.from_residual-in_err-end_name.ensures.1
      (along _ _ _ (begins_as outer c.args.reader.now.end s.a_package (s.only k.Package)
      (s.name ∷ s.only k.Public ∷ s.withs ∷ s.declarations ∷ s.package_end ∷ []) (below)
      (here c.args.reader.now c.args.at) refl refl refl
      ∙ c.in_ok-keyword.ensures.runs outer (s.name ∷ s.only k.Public ∷ s.withs ∷ s.declarations ∷ s.package_end ∷ below)
      (omega arith)
      ∙ c.in_ok-name.ensures.runs outer (s.only k.Public ∷ s.withs ∷ s.declarations ∷ s.package_end ∷ below)
      (omega arith)
      ∙ c.in_ok-public.ensures.runs outer (s.withs ∷ s.declarations ∷ s.package_end ∷ below) (omega arith)
      ∙ c.in_ok-withs.ensures.runs outer (s.declarations ∷ s.package_end ∷ below) (omega arith)
      ∙ c.in_ok-declarations.ensures.runs outer (s.package_end ∷ below) (omega arith))
      (c.in_err-end_name.ensures.runs outer (below) (omega arith)));
  reads = no_reads _ _ _ c.from_residual-in_err-end_name.ensures.1;
}

pub returns : goal.returns
unfolding move depth
returns c = record {
  runs =
      λ outer below h. begins_as outer c.args.reader.now.end s.a_package (s.only k.Package)
      (s.name ∷ s.only k.Public ∷ s.withs ∷ s.declarations ∷ s.package_end ∷ []) (below)
      (here c.args.reader.now c.args.at) refl refl refl
      ∙ c.in_ok-keyword.ensures.runs outer (s.name ∷ s.only k.Public ∷ s.withs ∷ s.declarations ∷ s.package_end ∷ below)
      (omega arith)
      ∙ c.in_ok-name.ensures.runs outer (s.only k.Public ∷ s.withs ∷ s.declarations ∷ s.package_end ∷ below)
      (omega arith)
      ∙ c.in_ok-public.ensures.runs outer (s.withs ∷ s.declarations ∷ s.package_end ∷ below) (omega arith)
      ∙ c.in_ok-withs.ensures.runs outer (s.declarations ∷ s.package_end ∷ below) (omega arith)
      ∙ c.in_ok-declarations.ensures.runs outer (s.package_end ∷ below) (omega arith)
      ∙ c.in_ok-end_name.ensures.runs outer (below) (omega arith);
  reads =
      marked c.in_ok-keyword.ensures.reads
      (then c.in_ok-name.ensures.reads
      (marked c.in_ok-public.ensures.reads
      (then c.in_ok-withs.ensures.reads
      (then c.in_ok-declarations.ensures.reads c.in_ok-end_name.ensures.reads))));
}
