-- The links that lead into a component, and out of one.
use Rattle.std.specs.Prelude.{ℕ, nat_eq, List, map, filter}
use Rattle.std.specs.List.{enumerate_from}
use Rattle.pals_model.specs.declared.design.DesignParts.{DesignParts}

-- the numbers of the links into a component, and of those from it, in their order
abbrev pub links_into : DesignParts → ℕ → List ℕ
links_into design node =
    map (λ numbered. numbered.0) (filter (λ numbered. nat_eq numbered.1.target.0 node) (enumerate_from 0 design.links))

abbrev pub links_from : DesignParts → ℕ → List ℕ
links_from design node =
    map (λ numbered. numbered.0) (filter (λ numbered. nat_eq numbered.1.source.0 node) (enumerate_from 0 design.links))
