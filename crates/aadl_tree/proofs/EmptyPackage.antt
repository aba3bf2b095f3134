-- The tokens and the tree of a package without declarations: the law `small_package_is_read`.
use Rattle.std.proofs.Common.{◌≡◌, ℕ, zero, suc, Bool, true, false, ◌∙◌, ap, subst, refl, List, [], ◌∷◌, ◌++◌, arith}
use Rattle.std.specs.Prelude.{nat_lt}
use Rattle.std.specs.List.{list_all}
use Rattle.std.specs.Str.{IsAscii}
use Rattle.std.proofs.lemmas.Bool.{ltb-true}
use Rattle.std.proofs.lemmas.Str.{IsUtf8-from_ascii}
use Rattle.std.specs.Cmp.{first_so, second_so}
use Rattle.aadl_lex.specs.declared.token.TokenKind.TheVariants.{Word, Symbol}
use Rattle.aadl_lex.specs.declared.rules.Reading.TheVariants.{Outside}
use Rattle.aadl_lex.specs.Rules.{first}
use Rattle.aadl_lex.specs.TokensAndFirstFaults.{Lexes, ended, skips, takes, AreTokensOf}
use Rattle.aadl_tree.specs.Terminals.{PlainTerminal, placed_terminals, kinds_of}
use Rattle.aadl_tree.specs.SpellingParts.{Written}
use Rattle.aadl_tree.specs.Declarations.{package_parts}
use Rattle.aadl_tree.specs.PackagesBehavioursAndNesting.{opened, is_end, nesting_from, IsShallow}
use Rattle.aadl_tree.specs.TextTreesAndFaults.{IsTreeOf}
use Rattle.aadl_tree.specs.proof.EmptyPackage.{package_text, package_tokens, small_package}

low_ascii : (w : List ℕ) → list_all (λ c. nat_lt c 128) w ≡ true → IsAscii w
low_ascii [] e i = omega arith
low_ascii (c ∷ w) e zero = ltb-true c 128 (first_so (nat_lt c 128) _ e)
low_ascii (c ∷ w) e (suc i) = low_ascii w (second_so (nat_lt c 128) _ e) i

lexes : Lexes Outside package_text 0 package_tokens
unfolding first
lexes =
    takes Outside package_text 0 Word 7 _ (omega arith) refl (skips Outside package_text 7 1 _ (omega arith) refl
    (takes Outside package_text 8 Word 1 _ (omega arith) refl (skips Outside package_text 9 1 _ (omega arith) refl
    (skips Outside package_text 10 7 _ (omega arith) refl (skips Outside package_text 17 1 _ (omega arith) refl
    (takes Outside package_text 18 Word 6 _ (omega arith) refl (skips Outside package_text 24 1 _ (omega arith) refl
    (takes Outside package_text 25 Word 3 _ (omega arith) refl (skips Outside package_text 28 1 _ (omega arith) refl
    (takes Outside package_text 29 Word 1 _ (omega arith) refl
    (takes Outside package_text 30 Symbol 1 _ (omega arith) refl
    (ended Outside package_text 31 (omega arith)))))))))))))

pub lexed : AreTokensOf package_text package_tokens
lexed = record { utf8 = IsUtf8-from_ascii package_text (low_ascii package_text refl); lexed = lexes }

written : Written (package_parts small_package) (placed_terminals package_text package_tokens) []
written = (
  _,
  _,
  refl,
  refl,
  tt,
  (
    _,
    _,
    refl,
    refl,
    (refl, tt),
    (_, _, refl, refl, tt, (_, _, refl, refl, tt, (_, _, refl, refl, (refl, tt), (_, _, refl, refl, tt, refl)))),
  ),
)

-- terminals that open nothing
abbrev Flat : List PlainTerminal → Type 0
Flat [] = Unit {0}
Flat (kind ∷ ks) = ((after : Bool) → opened 0 after kind ≡ 0) × Flat ks

flat_front : (front back : List PlainTerminal) (after : Bool) → Flat (front ++ back) → nesting_from 0 after front ≡ 0
flat_front [] back after h = refl
flat_front (kind ∷ front) back after (h, hs) =
    ap (λ n. nesting_from n (is_end kind) front) (h after) ∙ flat_front front back (is_end kind) hs

by_flag : (p : Bool → ℕ) → p true ≡ 0 → p false ≡ 0 → (b : Bool) → p b ≡ 0
by_flag p e h true = e
by_flag p e h false = h

flat : Flat (kinds_of (placed_terminals package_text package_tokens))
flat = (
  by_flag _ refl refl,
  (
    by_flag _ refl refl,
    (by_flag _ refl refl, (by_flag _ refl refl, (by_flag _ refl refl, (by_flag _ refl refl, tt)))),
  ),
)

shallow : IsShallow 0 (kinds_of (placed_terminals package_text package_tokens))
shallow front back e = let n = flat_front front back false (subst Flat e flat) in omega arith

pub read : IsTreeOf package_text small_package
read = record { tokens = package_tokens; lexed = lexed; written = written; shallow = shallow }
