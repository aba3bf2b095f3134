-- How the faults that a parser returns follow from the positions at which its terminals stop.
use Rattle.std.proofs.Common.{◌≡◌, ℕ, ◌∙◌, sym, subst}
use Rattle.std.specs.Prelude.{Result, Ok, Err, IfOk}
use Rattle.std.specs.Result.{IsErrAnd}
use Rattle.aadl_grammar.specs.proof.StackMachine.{Stack, Fate, deep_at}
use Rattle.aadl_grammar.specs.declared.parse_input.Reader.{Reader}
use Rattle.aadl_grammar.specs.declared.parse_fault.ParseFault.{ParseFault}
use Rattle.aadl_grammar.specs.declared.parse_fault.ParseFault.TheVariants.{Memory, Syntax, TooDeep}
use Rattle.aadl_grammar.specs.proof.ParserAnswers.{FailsAs, RunsTo}

-- a fault remains correct along an equation of fates
pub along : (a b : Fate) (e : ParseFault) → a ≡ b → FailsAs b e → FailsAs a e
along a b Memory h f = tt
along a b (Syntax at) h f = h ∙ f
along a b (TooDeep at) h f = h ∙ f

-- early returns by `?`
pub exits : {X : Type 0} (next : X → ℕ) (r : Reader) (outer : ℕ) (below : Stack) (was : Fate) (e : ParseFault)
    (result : Result X ParseFault) → IsErrAnd result (λ y. y ≡ e) → FailsAs was e → RunsTo next r outer below was result
exits next r outer below was e (Ok x) h g = absurd h
exits next r outer below was e (Err y) h g = subst (λ (z : ParseFault). FailsAs was z) (sym h) g

pub no_reads : {X : Type 0} (P : X → Type 0) (e : ParseFault) (result : Result X ParseFault)
    → IsErrAnd result (λ y. y ≡ e) → IfOk result P
no_reads P e (Ok x) h = absurd h
no_reads P e (Err y) h = tt

-- an opener without room
pub too_deep : (was : Fate) (at : ℕ) (e : ParseFault) → e ≡ TooDeep at → was ≡ deep_at at → FailsAs was e
too_deep was at e is h = subst (λ (z : ParseFault). FailsAs was z) (sym is) h
