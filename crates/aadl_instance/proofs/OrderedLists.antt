-- A sorted list of all elements with a property, after one more element at its end.
use Rattle.std.proofs.Common.{◌≡◌, ◌⊎◌, inl, inr, List, [], ◌∷◌, ◌++◌, get_or, subst, Contains, arith}
use Rattle.std.proofs.lemmas.List.Elements.{All-contains, Contains-get_or, Contains-append_left, Contains-push}
use Rattle.std.proofs.lemmas.List.Elements.{Contains-push_cases}
use Rattle.std.proofs.lemmas.List.Quantifiers.{all_pairs_push}
use Rattle.aadl_uses.specs.ThreadsBelow.{Lists}

module _ {X : Type 0} (P Q : X → Type 0) (Before : X → X → Type 0) where
  pub lists_same : (xs : List X) → ((x : X) → P x → Q x) → ((x : X) → Q x → P x) → Lists P Before xs → Lists Q Before xs
  lists_same xs to from l = record {
    each = λ k d lt. to (get_or xs k d) (l.each k d lt);
    in_order = l.in_order;
    complete = λ x q. l.complete x (from x q);
  }

  pub lists_more : (xs : List X) (y : X) → ((x : X) → P x → Q x) → Q y → ((x : X) → Q x → P x ⊎ (y ≡ x))
      → ((x : X) → P x → Before x y) → Lists P Before xs
      → Lists Q Before (xs ++ y ∷ [])
  lists_more xs y to here cases before l = record {
    each =
        λ k d lt. each_by (get_or (xs ++ y ∷ []) k d)
        (Contains-push_cases xs y (get_or (xs ++ y ∷ []) k d) (Contains-get_or (xs ++ y ∷ []) k d lt));
    in_order = all_pairs_push Before xs y l.in_order (λ k d lt. before (get_or xs k d) (l.each k d lt));
    complete = λ x q. complete_by x (cases x q);
  }
    where
      each_by : (x : X) → Contains xs x ⊎ (y ≡ x) → Q x
      each_by x (inl h) = to x (All-contains P xs x l.each h)
      each_by x (inr e) = subst Q e here

      complete_by : (x : X) → P x ⊎ (y ≡ x) → Contains (xs ++ y ∷ []) x
      complete_by x (inl p) = Contains-append_left xs (y ∷ []) x (l.complete x p)
      complete_by x (inr e) = subst (Contains (xs ++ y ∷ [])) e (Contains-push xs y)

pub lists_none : {X : Type 0} (P : X → Type 0) (Before : X → X → Type 0) → ((x : X) → P x → ⊥) → Lists P Before []
lists_none P Before none = record {
  each = λ k d lt. absurd (omega arith);
  in_order = λ i j d less lt. absurd (omega arith);
  complete = λ x p. absurd (none x p);
}
