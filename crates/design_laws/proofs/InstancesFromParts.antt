-- An instance model in terms of its flattened design.
use Rattle.std.proofs.Common.{◌≡◌, ◌∙◌, ℕ, List, map, sym, ap, subst}
use Rattle.aadl_tree.specs.Declarations.{PackageTree}
use Rattle.aadl_uses.specs.declared.thread_locations.ThreadAt.{ThreadAt}
use Rattle.aadl_uses.specs.ThreadLocations.{thread_at}
use Rattle.aadl_instance.specs.declared.chain.Chain.{Chain}
use Rattle.aadl_instance.specs.InstancesByNumbers.{chain_at}
use Rattle.model_violations.specs.Violations.{ShownInstance, shown_by}
use Rattle.design_laws.specs.proof.AcceptedInstances.{IsShown}

-- ---- a flattened design shows its instance model
pub shown_is : (tree : PackageTree ℕ) (s : ShownInstance) → (i : IsShown tree s) → s ≡ shown_by tree i.parts
shown_is tree s i =
    let p = i.parts in
    let threads = map (thread_at tree p.root) p.threads in
    let links = map (chain_at tree p) p.links in
    let feeds = map (chain_at tree p) p.feeds in
    let a : s ≡ record { root = p.root; threads = s.threads; links = s.links; feeds = s.feeds; taps = s.taps } =
    ap (λ r. record { root = r; threads = s.threads; links = s.links; feeds = s.feeds; taps = s.taps }) i.root_is in
    let b =
    ap (λ (l : List ThreadAt). let x : ShownInstance =
    record { root = p.root; threads = l; links = s.links; feeds = s.feeds; taps = s.taps } in
    x) i.threads_are in
    let c =
    ap (λ (l : List Chain). let x : ShownInstance =
    record { root = p.root; threads = threads; links = l; feeds = s.feeds; taps = s.taps } in x)
    i.links_are in
    let d =
    ap (λ (l : List Chain). let x : ShownInstance =
    record { root = p.root; threads = threads; links = links; feeds = l; taps = s.taps } in x)
    i.feeds_are in
    let e =
    ap (λ (l : List Chain). let x : ShownInstance =
    record { root = p.root; threads = threads; links = links; feeds = feeds; taps = l } in x)
    i.taps_are in
    a ∙ (b ∙ (c ∙ (d ∙ e)))

-- a property of the shown instance model, if the flattened design has it
pub of_shown : (P : ShownInstance → Type 0) (tree : PackageTree ℕ) (s : ShownInstance) → (i : IsShown tree s)
    → P (shown_by tree i.parts) → P s
of_shown P tree s i h = subst P (sym (shown_is tree s i)) h

pub to_shown : (P : ShownInstance → Type 0) (tree : PackageTree ℕ) (s : ShownInstance) → (i : IsShown tree s) → P s
    → P (shown_by tree i.parts)
to_shown P tree s i h = subst P (shown_is tree s i) h
