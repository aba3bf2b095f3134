-- Each stack of symbols derives some list of terminals.
use Rattle.std.proofs.Common.{◌≡◌, ℕ, zero, suc, Bool, true, false, cond, subst, refl, List, [], ◌∷◌, ◌++◌, Option}
use Rattle.std.proofs.Common.{Some, None, append_assoc, is_some, inl, pos}
use Rattle.std.proofs.lemmas.Option.{same_Some}
use Rattle.aadl_tree.specs.Terminals.{PlainTerminal}
use Rattle.aadl_grammar.specs.proof.GrammarSymbols.{Class, a_word, a_whole, a_real, a_quoted, an_unread, the, Symbol}
use Rattle.aadl_grammar.specs.proof.GrammarSymbols.{Row}
use Rattle.aadl_grammar.specs.proof.GrammarSymbols as s
use Rattle.aadl_grammar.specs.proof.ParseTable.{rows, can_omit}
use Rattle.aadl_grammar.specs.proof.StackMachine.{Stack}
use Rattle.aadl_grammar.proofs.DerivationTrees.DerivationsAndMachineSteps.{Member, Derives, nothing, take, omit}
use Rattle.aadl_grammar.specs.proof.SymbolTrees.{Content, kind_with}
use Rattle.aadl_grammar.proofs.DerivationTrees.TerminalContents.{fits_with}

sample : (c : Class) → Content c
sample a_word = []
sample a_whole = pos 0
sample a_real = []
sample a_quoted = []
sample an_unread = []
sample (the m) = tt

abbrev with_first : PlainTerminal → Option (List PlainTerminal) → Option (List PlainTerminal)
with_first kind None = None
with_first kind (Some ks) = Some (kind ∷ ks)

abbrev by_first : List Row → (Stack → Option (List PlainTerminal)) → Stack → Option (List PlainTerminal)
by_first [] later below = None
by_first (r ∷ rs) later below = with_first (kind_with r.first (sample r.first)) (later (r.wanted ++ below))

-- a text, by the first row of each symbol that cannot be omitted, in at most n steps
abbrev text : ℕ → Stack → Option (List PlainTerminal)
text zero wanted = None
text (suc n) [] = Some []
text (suc n) (x ∷ below) = cond (can_omit x) (text n below) (by_first (rows x) (text n) below)

with_derives : (x : Symbol) (below : Stack) (r : Row) (o : Option (List PlainTerminal)) (ks : List PlainTerminal)
    → Member r (rows x)
    → ((more : List PlainTerminal) → o ≡ Some more → Derives (r.wanted ++ below) more)
    → with_first (kind_with r.first (sample r.first)) o ≡ Some ks → Derives (x ∷ below) ks
with_derives x below r None ks m h e = absurd cc
with_derives x below r (Some more) ks m h e =
    subst (λ (l : List PlainTerminal). Derives (x ∷ below) l) (same_Some _ ks e)
    (take x below r (kind_with r.first (sample r.first)) more m (fits_with r.first (sample r.first)) (h more refl))

first_derives : (x : Symbol) (below : Stack) (rs : List Row) (later : Stack → Option (List PlainTerminal))
    (ks : List PlainTerminal)
    → ((r : Row) → Member r rs → Member r (rows x))
    → ((wanted : Stack) (more : List PlainTerminal) → later wanted ≡ Some more → Derives wanted more)
    → by_first rs later below ≡ Some ks → Derives (x ∷ below) ks
first_derives x below [] later ks m h e = absurd cc
first_derives x below (r ∷ rs) later ks m h e =
    with_derives x below r (later (r.wanted ++ below)) ks (m r (inl refl)) (λ more g. h (r.wanted ++ below) more g) e

omit_derives : (x : Symbol) (below : Stack) (n : ℕ) (ks : List PlainTerminal)
    → ((wanted : Stack) (more : List PlainTerminal) → text n wanted ≡ Some more → Derives wanted more)
    → (b : Bool) → can_omit x ≡ b → cond b (text n below) (by_first (rows x) (text n) below) ≡ Some ks
    → Derives (x ∷ below) ks
omit_derives x below n ks h true o e = omit x below ks o (h below ks e)
omit_derives x below n ks h false o e = first_derives x below (rows x) (text n) ks (λ r m. m) h e

text_derives : (n : ℕ) (wanted : Stack) (ks : List PlainTerminal) → text n wanted ≡ Some ks → Derives wanted ks
text_derives zero wanted ks e = absurd cc
text_derives (suc n) [] ks e = subst (λ (l : List PlainTerminal). Derives [] l) (same_Some [] ks e) nothing
text_derives (suc n) (x ∷ below) ks e =
    omit_derives x below n ks (λ wanted more h. text_derives n wanted more h) (can_omit x) refl e

has_text : (x : Symbol) → is_some (text 40 (x ∷ [])) ≡ true
has_text s.identifier = refl
has_text _ = refl

pub record Text (wanted : Stack) : Type 0 where
  pub kinds : List PlainTerminal
  pub derived : Derives wanted kinds

text_of : (wanted : Stack) (o : Option (List PlainTerminal)) → text 40 wanted ≡ o → is_some o ≡ true → Text wanted
text_of wanted None e h = absurd cc
text_of wanted (Some ks) e h = record { kinds = ks; derived = text_derives 40 wanted ks e }

derives_both : (a b : Stack) (ks ls : List PlainTerminal) → Derives a ks → Derives b ls → Derives (a ++ b) (ks ++ ls)
derives_both [] b ks ls nothing e = e
derives_both (x ∷ a) b ks ls (take _ _ r kind more m h d) e =
    take x (a ++ b) r kind (more ++ ls) m h
    (subst (λ (w : Stack). Derives w (more ++ ls)) (append_assoc r.wanted a b)
    (derives_both (r.wanted ++ a) b more ls d e))
derives_both (x ∷ a) b ks ls (omit _ _ _ o d) e = omit x (a ++ b) (ks ++ ls) o (derives_both a b ks ls d e)

pub some_text : (wanted : Stack) → Text wanted
some_text [] = record { kinds = []; derived = nothing }
some_text (x ∷ below) =
    let first = text_of (x ∷ []) (text 40 (x ∷ [])) refl (has_text x) in
    let rest = some_text below in
    record {
      kinds = first.kinds ++ rest.kinds;
      derived = derives_both (x ∷ []) below first.kinds rest.kinds first.derived rest.derived;
    }
