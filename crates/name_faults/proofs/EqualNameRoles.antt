-- For `check_behaviour`: the findings of a behaviour depend only on the roles of names.
use Rattle.std.proofs.Common.{◌≡◌, ℕ, Bool, List, ap, ◌∙◌}
use Rattle.std.specs.List.{flat_map}
use Rattle.aadl_tree.specs.Annexes.{Transition}
use Rattle.aadl_names.specs.NameUseFaults.{NameRoles}
use Rattle.aadl_names.specs.PackageNameFaults.{in_order, transition_uses}

-- functions that agree on all names are equal
pub for_all : {X : Type 0} (f g : List ℕ → X) → ((name : List ℕ) → f name ≡ g name) → f ≡ g
for_all f g h = λ i name. h name i

pub same_uses : (is_state states : List ℕ → Bool) (known names : NameRoles) (xs ys : List (Transition ℕ))
    → is_state ≡ states → known ≡ names → xs ≡ ys
    → flat_map (transition_uses is_state known) xs ≡ flat_map (transition_uses states names) ys
same_uses is_state states known names xs ys a b c =
    ap (λ s. flat_map (transition_uses s known) xs) a
    ∙ (ap (λ k. flat_map (transition_uses states k) xs) b ∙ ap (flat_map (transition_uses states names)) c)

pub same_order : (first before : Bool) (ports roles variables varying : NameRoles) → first ≡ before → ports ≡ roles
    → variables ≡ varying
    → in_order first ports variables ≡ in_order before roles varying
same_order first before ports roles variables varying a b c =
    ap (λ f. in_order f ports variables) a ∙ (ap (λ k. in_order before k variables) b ∙ ap (in_order before roles) c)
