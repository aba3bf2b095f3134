-- From the machine's fate of a behaviour's tokens to the result of parsing: its only tree, or its fault.
use Rattle.std.proofs.Common.{◌≡◌, sym, ℕ, ◌-◌, ◌<◌, ◌∙◌, ap, subst, refl, List, [], ◌∷◌, length, get_or, arith, suc}
use Rattle.aadl_lex.specs.declared.token.Token.{Token}
use Rattle.aadl_tree.proofs.SpellingParts.{written_spells}
use Rattle.aadl_tree.specs.Terminals.{PlacedTerminal, spots_from, kinds_of}
use Rattle.std.specs.Prelude.{true, IfErr, Result, Ok, Err}
use Rattle.std.specs.Result.{IsErrAnd}
use Rattle.aadl_tree.specs.SpellingParts.{Written}
use Rattle.aadl_tree.specs.Annexes.{AnnexTree, annex_tree_parts}
use Rattle.aadl_tree.specs.PackagesBehavioursAndNesting.{IsBehaviour}
use Rattle.aadl_tree.specs.TerminalFaults.{place}
use Rattle.aadl_tree.specs.proof.BehaviourFaultPlaces.{end_of}
use Rattle.aadl_tree.specs.TextTreesAndFaults.{IsBehaviourOf}
use Rattle.aadl_grammar.specs.proof.StackMachine.{fate, annex_body, syntax_at}
use Rattle.aadl_grammar.proofs.Fates.Answers.{answers_text, answers_fault, answers_depth}
use Rattle.aadl_grammar.proofs.UniquePlacedTrees.OneTreeWithPlaces.{one_placed_behaviour}
use Rattle.aadl_grammar.proofs.Fates.GrammarLanguages.{behaviours}
use Rattle.aadl_grammar.proofs.Fates.FirstTerminalFates.{fate_end, fate_left}
use Rattle.aadl_grammar.specs.declared.parse_fault.ParseFault.{ParseFault}
use Rattle.aadl_grammar.specs.declared.parse_fault.ParseFault.TheVariants.{Memory, Syntax, TooDeep}
use Rattle.aadl_grammar.specs.proof.ParserAnswers.{FailsAs, Reads}
use Rattle.behaviour_parse.specs.proof.ParseResults.{IsOnlyBehaviourOf, IsFaultOfBehaviour}

pub faults : (text : List ℕ) (tokens : List Token) (e : ParseFault)
    → FailsAs (fate 1 (end_of tokens) annex_body (spots_from true text tokens)) e → IsFaultOfBehaviour text tokens e
faults text tokens Memory f = tt
faults text tokens (Syntax at) f =
    (answers_fault IsBehaviour 1 (end_of tokens) behaviours (spots_from true text tokens) at).0 f
faults text tokens (TooDeep at) f =
    (answers_depth IsBehaviour 1 (end_of tokens) behaviours (spots_from true text tokens) at).0 f

pub only_one : (text : List ℕ) (tokens : List Token) (t u : AnnexTree ℕ) → IsBehaviourOf text tokens t
    → IsBehaviourOf text tokens u → u ≡ t
only_one text tokens t u a b = one_placed_behaviour (spots_from true text tokens) u t b.written a.written

pub tree_of : (text : List ℕ) (tokens : List Token) (end : ℕ) (t : AnnexTree ℕ) (rest : List PlacedTerminal)
    → fate 1 end annex_body (spots_from true text tokens) ≡ fate 1 end [] rest
    → Reads (annex_tree_parts t) (spots_from true text tokens) rest → rest ≡ []
    → IsOnlyBehaviourOf text tokens t
tree_of text tokens end t rest f a e =
    let both =
    (answers_text IsBehaviour 1 end behaviours (spots_from true text tokens)).0
    (f ∙ ap (fate 1 end []) e ∙ fate_end 1 end) in
    let given : IsBehaviourOf text tokens t =
    record {
      written = subst (λ (l : List PlacedTerminal). Written (annex_tree_parts t) (spots_from true text tokens) l) e
          a.written;
      shallow = both.1;
    } in
    record { given = given; only = λ u b. only_one text tokens t u given b }

pub is_behaviour : (text : List ℕ) (tokens : List Token) (t : AnnexTree ℕ) → IsBehaviourOf text tokens t
    → IsBehaviour (kinds_of (spots_from true text tokens))
is_behaviour text tokens t a =
    record { tree = t; spelled = written_spells (annex_tree_parts t) (spots_from true text tokens) [] a.written }

-- the end of the last token
pub end_last : (ts : List Token) (d : Token) → 0 < length ts → (get_or ts (length ts - 1) d).end ≡ end_of ts
end_last [] d some = absurd (omega arith)
end_last (t ∷ []) d some = refl
end_last (t ∷ u ∷ ts) d some =
    let e : length (t ∷ u ∷ ts) - 1 ≡ suc (length (u ∷ ts) - 1) = omega arith in
    ap (λ (k : ℕ). (get_or (t ∷ u ∷ ts) k d).end) e ∙ end_last (u ∷ ts) d (omega arith)

-- the fault of the behaviour itself
pub at_fault : (text : List ℕ) (tokens : List Token) (end : ℕ) (ss : List PlacedTerminal) (e : ParseFault)
    → end ≡ end_of tokens
    → ss ≡ spots_from true text tokens → FailsAs (fate 1 end annex_body ss) e → IsFaultOfBehaviour text tokens e
at_fault text tokens end ss e a b f =
    faults text tokens e (subst (λ (l : List PlacedTerminal). FailsAs (fate 1 (end_of tokens) annex_body l) e) b
    (subst (λ (n : ℕ). FailsAs (fate 1 n annex_body ss) e) a f))

-- a terminal follows the behaviour
pub left_fault : (text : List ℕ) (tokens : List Token) (end : ℕ) (ss rest : List PlacedTerminal) (at : ℕ)
    → end ≡ end_of tokens
    → ss ≡ spots_from true text tokens → fate 1 end annex_body ss ≡ fate 1 end [] rest → 0 < length rest
    → at ≡ place end rest → IsFaultOfBehaviour text tokens (Syntax at)
left_fault text tokens end ss [] at a b c d e = absurd (omega arith)
left_fault text tokens end ss (x ∷ more) at a b c d e =
    at_fault text tokens end ss (Syntax at) a b (c ∙ fate_left 1 end x more ∙ ap syntax_at (sym e))

pub at_tree : (text : List ℕ) (tokens : List Token) (end : ℕ) (ss : List PlacedTerminal) (t : AnnexTree ℕ)
    (rest : List PlacedTerminal)
    → ss ≡ spots_from true text tokens → fate 1 end annex_body ss ≡ fate 1 end [] rest
    → Reads (annex_tree_parts t) ss rest → rest ≡ []
    → IsOnlyBehaviourOf text tokens t
at_tree text tokens end ss t rest b f a e =
    tree_of text tokens end t rest (subst (λ (l : List PlacedTerminal). fate 1 end annex_body l ≡ fate 1 end [] rest) b
    f)
    (subst (λ (l : List PlacedTerminal). Reads (annex_tree_parts t) l rest) b a) e

pub residual : {X : Type 0} (P : ParseFault → Type 0) (e : ParseFault) (result : Result X ParseFault)
    → IsErrAnd result (λ y. y ≡ e) → P e → IfErr result P
residual P e (Ok x) a p = tt
residual P e (Err y) a p = subst P (sym a) p
