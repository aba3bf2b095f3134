use Rattle.aadl_tree.specs.KeywordsAndSymbols.{keywords_outside, keywords_inside}
use Rattle.aadl_grammar.specs.proof.StackMachine.{whole_package, annex_body}
use Rattle.aadl_grammar.proofs.OnlyListedKeywords.{listed_if_it_comes, outside_first, outside_stays, outside_fine}
use Rattle.aadl_grammar.proofs.OnlyListedKeywords.{inside_first, inside_stays, inside_fine}
use Rattle.aadl_grammar.proofs.OnlyListedKeywords as sides
use Rattle.aadl_grammar.proofs.ReachedKeywords.{outside_reached, inside_reached}
use Rattle.aadl_grammar.proofs.keyword_laws.keywords_are_the_words_of_the_grammar.Goals as goal

pub returns-clause-outside : goal.returns-clause-outside
returns-clause-outside c m = (
  outside_reached m,
  λ h.
      listed_if_it_comes keywords_outside sides.outside outside_stays outside_fine whole_package
      outside_first m h.0 h.1,
)

pub returns-clause-inside : goal.returns-clause-inside
returns-clause-inside c m = (
  inside_reached m,
  λ h. listed_if_it_comes keywords_inside sides.inside inside_stays inside_fine annex_body
      inside_first m h.0 h.1,
)
