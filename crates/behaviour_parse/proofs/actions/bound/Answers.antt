use mir.Syntax.{w64}
use mir.Val.{to_z, of_z, SFits}
use Rattle.std.proofs.Common.{◌≡◌, ◌∙◌, ◌∷◌, [], ap, sym, arith, rules, to_z-of_z}
use Rattle.aadl_grammar.specs.proof.ParserAnswers.{here}
use Rattle.aadl_grammar.proofs.PartSequences.{nothing, then, told, respelled, flagged}
use Rattle.aadl_tree.specs.SpellingParts.{token}
use Rattle.aadl_tree.specs.Terminals.{whole}
use Rattle.behaviour_parse.proofs.ParsedActions.{bound_runs, bound_refuses}
use Rattle.aadl_tree.specs.declared.mark.Mark.TheVariants as k
use Rattle.aadl_grammar.specs.proof.StackMachine.{move, depth, syntax_at}
use Rattle.behaviour_parse.proofs.actions.bound.Goals as goal

pub returns-in-Some : goal.returns-in-Some
unfolding move depth
returns-in-Some c = let f : SFits w64 c.in-Some.value = search rules in
    let e : to_z w64 (of_z w64 c.in-Some.value) ≡ c.in-Some.value = grind (arith, to_z-of_z) in record {
      runs =
          λ outer below h. bound_runs c.has-negative.result.0 outer c.args.reader.now.end below
          (here c.args.reader.now c.args.at) (omega arith) c.has-negative.ensures c.in-Some.ensures;
      reads =
          then (flagged k.Minus c.has-negative.result.0 c.has-negative.ensures)
          (respelled (ap (λ z. token (whole z) [] ∷ []) (sym e)) (told c.in-Some.ensures nothing));
    }

pub returns-in-None : goal.returns-in-None
unfolding move depth
returns-in-None c =
    record {
      runs = λ outer below h.
          bound_refuses c.has-negative.result.0 outer c.args.reader.now.end below (here c.args.reader.now c.args.at)
          (here c.args.reader.now c.has-negative.result.1) (omega arith) c.has-negative.ensures c.in-None.ensures
          ∙ ap syntax_at (sym c.place.ensures);
      reads = tt;
    }
