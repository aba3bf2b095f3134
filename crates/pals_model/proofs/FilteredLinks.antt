-- For `links_from`: the numbers of those links that pass a test.
use Rattle.std.proofs.Common.{ℕ, Bool, List, map}
use Rattle.std.specs.Prelude.{filter}
use Rattle.std.specs.List.{enumerate_from}
use Rattle.pals_model.specs.declared.design.Link.{Link}

abbrev pub numbers_of : (Link → Bool) → ℕ → List Link → List ℕ
numbers_of test from links = map (λ n. n.0) (filter (λ n. test n.1) (enumerate_from from links))
