-- The design text of a bundle has a tree, or is refused.
use Rattle.std.proofs.Common.{◌≡◌, ◌⊎◌, inl, inr, ℕ, List, ◌++◌, refl}
use Rattle.aadl_parse.specs.declared.text_fault.TextFault.{TextFault}
use Rattle.aadl_parse.specs.declared.text_fault.TextFault.TheVariants.{Lex, Syntax, TooDeep, Memory}
use Rattle.aadl_parse.specs.ParseResults.{IsFaultOfText}
use Rattle.pals_model.specs.RoundTexts.{line_end}
use Rattle.bundle_designs.specs.TextFaultLines.{text_fault_line, no_divider_line}
use Rattle.bundle_designs.specs.Bundles.{IsSplit, HasNoDivider}
use Rattle.bundle_designs.specs.RefusedTexts.{IsTextRefused}
use Rattle.aadl_grammar.specs.proof.TokensTreesAndFaults.{HasTree as HasTreeOf, HasLexFault, Stops, NestsTooDeep}
use Rattle.answer_laws.specs.proof.BundleContents.{HasTree}
use Rattle.answer_laws.proofs.BundleSplits.{split_or_not}
use Rattle.answer_laws.specs.proof.ExistencePremises.{ExistenceLaws}

abbrev pub IsRefused : List ℕ → Type 0
IsRefused bundle = (text : List ℕ) × IsTextRefused bundle text

refused : (bundle text scenario : List ℕ) → IsSplit bundle text scenario → (fault : TextFault)
    → IsFaultOfText text fault → (fault ≡ Memory → ⊥) → IsRefused bundle
refused bundle text scenario s fault faulty named = (
  text_fault_line text fault ++ line_end,
  inr (record {
    design = text;
    scenario = scenario;
    split = s;
    fault = fault;
    faulty = faulty;
    named = named;
    text_is = refl;
  }),
)

by_text : (bundle text scenario : List ℕ) → IsSplit bundle text scenario
    → HasTreeOf text ⊎ HasLexFault text ⊎ Stops text ⊎ NestsTooDeep text
    → HasTree bundle ⊎ IsRefused bundle
by_text bundle text scenario s (inl (tree, read)) =
    inl (record { text = text; scenario = scenario; tree = tree; parsed = record { split = s; read = read } })
by_text bundle text scenario s (inr (inl (fault, named, is))) =
    inr (refused bundle text scenario s (Lex fault) (named, is) (λ e. absurd cc))
by_text bundle text scenario s (inr (inr (inl (at, stops)))) =
    inr (refused bundle text scenario s (Syntax at) stops (λ e. absurd cc))
by_text bundle text scenario s (inr (inr (inr (at, nests)))) =
    inr (refused bundle text scenario s (TooDeep at) nests (λ e. absurd cc))

module _ (laws : ExistenceLaws) where
  by_split : (bundle : List ℕ)
      → ((text : List ℕ) × (scenario : List ℕ) × IsSplit bundle text scenario) ⊎ HasNoDivider bundle
      → HasTree bundle ⊎ IsRefused bundle
  by_split bundle (inl (text, scenario, s)) = by_text bundle text scenario s (laws.tree_or_fault text)
  by_split bundle (inr none) =
      inr (no_divider_line bundle ++ line_end, inl (record { undivided = none; text_is = refl }))

  pub tree_or_refused : (bundle : List ℕ) → HasTree bundle ⊎ IsRefused bundle
  tree_or_refused bundle = by_split bundle (split_or_not bundle)
