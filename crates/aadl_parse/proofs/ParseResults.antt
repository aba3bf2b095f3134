-- The machine's fate of a package's terminals determines the result of parsing: its only tree, or its fault.
use Rattle.std.proofs.Common.{◌≡◌, sym, ℕ, ◌<◌, ◌∙◌, ap, subst, List, [], ◌∷◌, length, arith}
use Rattle.std.specs.Prelude.{IfErr, Result, Ok, Err}
use Rattle.std.specs.Result.{IsErrAnd}
use Rattle.aadl_lex.specs.declared.token.Token.{Token}
use Rattle.aadl_lex.specs.TokensAndFirstFaults.{AreTokensOf}
use Rattle.aadl_tree.specs.Terminals.{PlacedTerminal, placed_terminals}
use Rattle.aadl_tree.specs.SpellingParts.{Written}
use Rattle.aadl_tree.specs.Declarations.{PackageTree, package_parts}
use Rattle.aadl_tree.specs.PackagesBehavioursAndNesting.{IsPackage}
use Rattle.aadl_tree.specs.TerminalFaults.{place}
use Rattle.aadl_tree.specs.TextTreesAndFaults.{IsTreeOf}
use Rattle.aadl_grammar.specs.proof.GrammarSymbols as s
use Rattle.aadl_grammar.specs.proof.StackMachine.{fate, syntax_at}
use Rattle.aadl_grammar.proofs.Fates.Answers.{answers_text, answers_fault, answers_depth}
use Rattle.aadl_grammar.proofs.Fates.GrammarLanguages.{packages}
use Rattle.aadl_grammar.proofs.Fates.FirstTerminalFates.{fate_end, fate_left}
use Rattle.aadl_grammar.proofs.CanonicalRoundTrip.{no_other}
use Rattle.aadl_grammar.specs.declared.parse_fault.ParseFault.{ParseFault}
use Rattle.aadl_grammar.specs.declared.parse_fault.ParseFault.TheVariants as parsing
use Rattle.aadl_grammar.specs.proof.ParserAnswers.{FailsAs, Reads}
use Rattle.aadl_parse.specs.declared.text_fault.TextFault.{TextFault}
use Rattle.aadl_parse.specs.declared.text_fault.TextFault.TheVariants.{Syntax}
use Rattle.aadl_parse.specs.ParseResults.{IsOnlyTreeOf, IsFaultOfText, of_parse}

faults : (text : List ℕ) (tokens : List Token) → AreTokensOf text tokens → (e : ParseFault)
    → FailsAs (fate 0 (length text) (s.a_package ∷ []) (placed_terminals text tokens)) e
    → IsFaultOfText text (of_parse e)
faults text tokens l parsing.Memory f = l.utf8
faults text tokens l (parsing.Syntax at) f =
    record {
      tokens = tokens;
      lexed = l;
      fails = (answers_fault IsPackage 0 (length text) packages (placed_terminals text tokens) at).0 f;
    }
faults text tokens l (parsing.TooDeep at) f =
    record {
      tokens = tokens;
      lexed = l;
      deep = (answers_depth IsPackage 0 (length text) packages (placed_terminals text tokens) at).0 f;
    }

-- the fault of the package itself
pub at_fault : (text : List ℕ) (tokens : List Token) → AreTokensOf text tokens
    → (end : ℕ) (ss : List PlacedTerminal) (e : ParseFault) → end ≡ length text → ss ≡ placed_terminals text tokens
    → FailsAs (fate 0 end (s.a_package ∷ []) ss) e → IsFaultOfText text (of_parse e)
at_fault text tokens l end ss e a b f =
    faults text tokens l e (subst (λ (x : List PlacedTerminal). FailsAs (fate 0 (length text) (s.a_package ∷ []) x) e) b
    (subst (λ (n : ℕ). FailsAs (fate 0 n (s.a_package ∷ []) ss) e) a f))

-- a terminal follows the package
pub left_fault : (text : List ℕ) (tokens : List Token) → AreTokensOf text tokens
    → (end : ℕ) (ss rest : List PlacedTerminal) (at : ℕ) → end ≡ length text → ss ≡ placed_terminals text tokens
    → fate 0 end (s.a_package ∷ []) ss ≡ fate 0 end [] rest → 0 < length rest → at ≡ place end rest
    → IsFaultOfText text (Syntax at)
left_fault text tokens l end ss [] at a b c d e = absurd (omega arith)
left_fault text tokens l end ss (x ∷ more) at a b c d e =
    at_fault text tokens l end ss (parsing.Syntax at) a b (c ∙ fate_left 0 end x more ∙ ap syntax_at (sym e))

given_tree : (text : List ℕ) (tokens : List Token) → AreTokensOf text tokens
    → (end : ℕ) (t : PackageTree ℕ) (rest : List PlacedTerminal)
    → fate 0 end (s.a_package ∷ []) (placed_terminals text tokens) ≡ fate 0 end [] rest
    → Reads (package_parts t) (placed_terminals text tokens) rest → rest ≡ []
    → IsTreeOf text t
given_tree text tokens l end t rest f a e =
    let both =
    (answers_text IsPackage 0 end packages (placed_terminals text tokens)).0
    (f ∙ ap (fate 0 end []) e ∙ fate_end 0 end) in
    record {
      tokens = tokens;
      lexed = l;
      written = subst (λ (x : List PlacedTerminal). Written (package_parts t) (placed_terminals text tokens) x) e
          a.written;
      shallow = both.1;
    }

pub at_tree : (text : List ℕ) (tokens : List Token) → AreTokensOf text tokens
    → (end : ℕ) (ss : List PlacedTerminal) (t : PackageTree ℕ) (rest : List PlacedTerminal)
    → ss ≡ placed_terminals text tokens
    → fate 0 end (s.a_package ∷ []) ss ≡ fate 0 end [] rest → Reads (package_parts t) ss rest → rest ≡ []
    → IsTreeOf text t
at_tree text tokens l end ss t rest b f a e =
    given_tree text tokens l end t rest
    (subst (λ (x : List PlacedTerminal). fate 0 end (s.a_package ∷ []) x ≡ fate 0 end [] rest) b f)
    (subst (λ (x : List PlacedTerminal). Reads (package_parts t) x rest) b a) e

pub only_one : (text : List ℕ) (t : PackageTree ℕ) → IsTreeOf text t → IsOnlyTreeOf text t
only_one text t given = record { given = given; only = λ u b. no_other text u t b given }

pub residual : {X : Type 0} (P : TextFault → Type 0) (e : TextFault) (result : Result X TextFault)
    → IsErrAnd result (λ y. y ≡ e) → P e → IfErr result P
residual P e (Ok x) a p = tt
residual P e (Err y) a p = subst P (sym a) p
