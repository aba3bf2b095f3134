-- One iteration of the loop that reads lists: what the machine does at the item, and how the parts grow.
use Rattle.std.proofs.Common.{◌≡◌, ℕ, ◌+◌, ◌≤◌, ◌∙◌, sym, ap, subst, List, [], ◌∷◌, ◌++◌, arith, append_assoc, flat_map}
use Rattle.std.specs.Prelude.{Result, Option, Some, None}
use Rattle.std.proofs.lemmas.List.{append-nil}
use Rattle.std.proofs.lemmas.Grind.{flat_map-append}
use Rattle.aadl_tree.specs.declared.mark.Mark.{Mark}
use Rattle.aadl_tree.specs.Terminals.{PlacedTerminal}
use Rattle.aadl_tree.specs.SpellingParts.{SpellingPart}
use Rattle.aadl_tree.specs.declared.nesting_limit.TheConstants.{GREATEST_NESTING}
use Rattle.aadl_grammar.specs.proof.StackMachine.{Stack, depth, Fate, fate}
use Rattle.aadl_grammar.specs.declared.parse_input.Reader.{Reader}
use Rattle.aadl_grammar.specs.declared.parse_fault.ParseFault.{ParseFault}
use Rattle.aadl_grammar.specs.proof.ParserAnswers.{here, Reads, RunsTo}
use Rattle.aadl_grammar.specs.proof.ListAnswers.{Allows, Follows, with_mark, Answers, ItemsOf, Grows}
use Rattle.aadl_grammar.proofs.PartSequences.{then, marked, respelled}

pub allows_few : (o : Option ℕ) (n : ℕ) → Allows o n → n ≤ GREATEST_NESTING
allows_few None n h = h
allows_few (Some room) n h = omega (arith, h)

-- what the machine does at an item is the result of the function
pub item_runs : {X : Type 0} {r : Reader} {before : Option Mark} {answers : Answers X} (of : ItemsOf r before answers)
    (outer : ℕ) (below : Stack) (rest start : ℕ) (result : Result (X × ℕ) ParseFault) (was : Fate)
    → Allows of.allowed (outer + depth (of.list ∷ below)) → was ≡ fate outer r.end (of.list ∷ below) (here r rest)
    → Follows before (here r rest) (here r start) → answers start result
    → RunsTo (λ (y : X × ℕ). y.1) r outer (of.list ∷ below) was result
unfolding depth
item_runs {X} {r} {before} {answers} of outer below rest start result was h e f a =
    let same : outer + depth (of.list ∷ below) ≡ outer + depth (of.item ∷ of.list ∷ below) =
    omega (arith, of.lists.no_closer) in
    subst (λ (w : Fate). RunsTo (λ (y : X × ℕ). y.1) r outer (of.list ∷ below) w result)
    (sym (e ∙ of.lists.goes_on outer r.end below (here r rest) (here r start) f
    (allows_few of.allowed (outer + depth (of.list ∷ below)) h)))
    ((of.each start result a).runs outer (of.list ∷ below) (subst (λ (n : ℕ). Allows of.allowed n) same h))

-- it is read with its mark
marked_item : {X : Type 0} (before : Option Mark) (parts : X → List (SpellingPart ℕ))
    (x : X) {ss start rest : List PlacedTerminal}
    → Follows before ss start → Reads (parts x) start rest → Reads (with_mark before parts x) ss rest
marked_item (Some m) parts x l a = marked l a
marked_item None parts x {rest = rest} (w, e) a = subst (λ (l : List PlacedTerminal). Reads (parts x) l rest) e a

pub grown : {X : Type 0} (before : Option Mark) (parts : X → List (SpellingPart ℕ)) (old new newer : List X) (x : X)
    {ss mid start rest : List PlacedTerminal} → Grows (with_mark before parts) old new ss mid → newer ≡ new ++ x ∷ []
    → Follows before mid start → Reads (parts x) start rest → Grows (with_mark before parts) old newer ss rest
grown before parts old new newer x g e f a = record {
  more = g.more ++ x ∷ [];
  whole = e ∙ ap (λ l. l ++ x ∷ []) g.whole ∙ append_assoc old g.more (x ∷ []);
  reads =
      respelled (sym (flat_map-append (with_mark before parts) g.more (x ∷ [])
      ∙ ap (λ l. flat_map (with_mark before parts) g.more ++ l) (append-nil (with_mark before parts x))))
      (then g.reads (marked_item before parts x f a));
}
