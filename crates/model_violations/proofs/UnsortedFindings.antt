-- All violations of an instance model before they are sorted: the lists that `findings_of` appends one after another.
use Rattle.std.proofs.Common.{◌≡◌, ◌∙◌, ℕ, Bool, List, [], ◌++◌, Option, ap}
use Rattle.std.specs.Prelude.{flat_map}
use Rattle.aadl_tree.specs.Declarations.{PackageTree}
use Rattle.annex_resolve.specs.declared.violation.Violation.{Violation}
use Rattle.component_checks.specs.RootFindings.{root_findings}
use Rattle.component_checks.specs.ThreadRatesAndFindings.{greatest_rate, thread_findings}
use Rattle.model_violations.specs.ConnectionsAndCarriers.{carries}
use Rattle.model_violations.specs.UsedDeclarations.{has, type_used}
use Rattle.model_violations.specs.DeclarationFindings.{declarations_findings}
use Rattle.model_violations.specs.Violations.{ShownInstance, rates_of, carriers_of, chain_findings, used_findings}
use Rattle.model_violations.specs.Violations.{findings}

-- ---- predicates that agree on all numbers are equal
same_test : {A : Type 0} (p q : A → Bool) → ((x : A) → p x ≡ q x) → p ≡ q
same_test p q same = λ i x. same x i

same_pairs : {A B : Type 0} (p q : A → B → Bool) → ((x : A) (y : B) → p x y ≡ q x y) → p ≡ q
same_pairs p q same = λ i x y. same x y i

pub used_found : (tree : PackageTree ℕ) (s : ShownInstance) (numbers types : List ℕ) (carriers : List (ℕ × ℕ))
    (old new : List Violation)
    → ((n : ℕ) → has types n ≡ type_used tree (has numbers) n)
    → ((n i : ℕ) → carries carriers n i ≡ carries (carriers_of s) n i)
    → new ≡ old ++ declarations_findings tree s.root (has numbers) (has types) (carries carriers)
    → new ≡ old ++ used_findings tree s (has numbers)
used_found tree s numbers types carriers old new types_are carriers_are added =
    added ∙ ap (λ t. old ++ declarations_findings tree s.root (has numbers) t (carries carriers))
    (same_test (has types) (type_used tree (has numbers)) types_are)
    ∙ ap (λ t. old ++ declarations_findings tree s.root (has numbers) (type_used tree (has numbers)) t)
    (same_pairs (carries carriers) (carries (carriers_of s)) carriers_are)

pub all_found : (tree : PackageTree ℕ) (s : ShownInstance) (rates : List (Option ℕ)) (greatest : ℕ) (used : ℕ → Bool)
    (a b c d e : List Violation) → rates ≡ rates_of tree s → greatest ≡ greatest_rate rates → a ≡ []
    → b ≡ a ++ root_findings tree s.root greatest → c ≡ b ++ flat_map (thread_findings tree s.root) s.threads
    → d ≡ c ++ chain_findings tree s rates → e ≡ d ++ used_findings tree s used
    → e ≡ findings tree s used
unfolding findings
all_found tree s rates greatest used a b c d e rates_are greatest_is none first second third fourth =
    let root = root_findings tree s.root greatest in
    let threads = flat_map (thread_findings tree s.root) s.threads in
    let chains = chain_findings tree s rates in
    let others = used_findings tree s used in
    fourth ∙ ap (λ l. l ++ others)
    (third ∙ ap (λ l. l ++ chains) (second ∙ ap (λ l. l ++ threads) (first ∙ ap (λ l. l ++ root) none)))
    ∙ ap (λ k. ((root_findings tree s.root k ++ threads) ++ chains) ++ others)
    (greatest_is ∙ ap greatest_rate rates_are)
    ∙ ap (λ r. ((root_findings tree s.root (greatest_rate (rates_of tree s)) ++ threads) ++ chain_findings tree s r)
    ++ others) rates_are
