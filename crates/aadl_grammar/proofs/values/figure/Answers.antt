use mir.Syntax.{w64}
use mir.Val.{to_z, of_z, SFits}
use Rattle.std.proofs.Common.{◌≡◌, ◌∙◌, ◌∷◌, [], ap, sym, refl, arith, rules, to_z-of_z}
use Rattle.aadl_grammar.specs.proof.ParserAnswers.{here}
use Rattle.aadl_grammar.proofs.TopSymbolMoves.{takes_row, refuses_unless}
use Rattle.aadl_grammar.proofs.PartSequences.{nothing, told, respelled}
use Rattle.aadl_tree.specs.Terminals.{whole, real}
use Rattle.aadl_tree.specs.SpellingParts.{token}
use Rattle.aadl_grammar.specs.proof.GrammarSymbols as s
use Rattle.aadl_grammar.specs.proof.StackMachine.{move, depth, syntax_at}
use Rattle.aadl_grammar.proofs.values.figure.Goals as goal

pub returns-in-Some : goal.returns-in-Some
unfolding move depth
returns-in-Some c = let f : SFits w64 c.in-Some.value = search rules in
    let e : to_z w64 (of_z w64 c.in-Some.value) ≡ c.in-Some.value = grind (arith, to_z-of_z) in record {
      runs = λ outer below h. takes_row outer c.args.reader.now.end s.figure (below) c.in-Some.ensures refl
          (omega arith);
      reads = respelled (ap (λ z. token (whole z) [] ∷ []) (sym e)) (told c.in-Some.ensures nothing);
    }

pub returns-in_ok-boxed-in-Some-2 : goal.returns-in_ok-boxed-in-Some-2
unfolding move depth
returns-in_ok-boxed-in-Some-2 c = record {
  runs =
      λ outer below h. takes_row outer c.args.reader.now.end s.figure (below)
      (rw c.in-Some-2.is at c.in_ok-bytes.ensures.ok) refl (omega arith);
  reads =
      respelled (ap (λ x. token (real x.items) [] ∷ []) (sym c.in_ok-boxed-in-Some-2.ensures.ok))
      (told (rw c.in-Some-2.is at c.in_ok-bytes.ensures.ok) nothing);
}

pub returns-in-None : goal.returns-in-None
unfolding move depth
returns-in-None c = record {
  runs =
      λ outer below h. refuses_unless outer c.args.reader.now.end s.figure (below) (here c.args.reader.now c.args.at)
      refl (c.in_default.ensures, (rw c.in-None.is at c.in_ok-bytes.ensures.ok, tt))
      ∙ ap syntax_at (sym c.place.ensures);
  reads = tt;
}
